-- What is read, and the reply to it.
use Rattle.std.proofs.Common.{◌≡◌, ℕ, ◌+◌, ◌%◌, nat_lt, not, List, ◌∷◌, length, drop, slice_index, if◌then◌else◌, Bool, true, false, Result, Ok, Err, refl, ◌∙◌, ap}
use Rattle.std.specs.List.{flat_map}
use Rattle.cf_view.specs.declared.Reason.{Reason}
use Rattle.cf_dnpobj.specs.declared.fragment.FragmentRefusal.{FragmentRefusal}
use Rattle.cf_dnpobj.specs.declared.fragment.FragmentRefusal.TheVariants as refusal
use Rattle.cf_dnpobj.specs.Objects.{is_function}
use Rattle.cf_dnpobj.specs.Headers.{headers_in}
use Rattle.cf_dnpobj.specs.Fragment.{FragmentValue, takes_headers, counted, with_headers, read_octets}
use Rattle.cf_dnpobj.specs.Reply.{refused, answers_objects, reply}
use Rattle.cf_dnpobj.proofs.InOrder.{if_true}
use Rattle.std.proofs.lemmas.Grind.{common_steps}
use Rattle.std.proofs.Common.{arith}

pub past_refusal : (b : Bool) (x : FragmentRefusal) (r : Result FragmentValue FragmentRefusal) (f : FragmentValue) → Ok f ≡ (if b then Err x else r) → Ok f ≡ r
past_refusal true x r f e = cc
past_refusal false x r f e = e

-- the fragment of some octets
abbrev pub fields : List ℕ → FragmentValue
fields xs = record { control = slice_index xs 0; code = slice_index xs 1; objects = drop 2 xs }

taken : (b : Bool) (f g : FragmentValue) → Ok f ≡ (if b then Ok g else Err refusal.Parameter) → f ≡ g
taken true f g e = cc
taken false f g e = cc

pub with_some : (xs : List ℕ) (r : Result (List (List ℕ)) FragmentRefusal) (f : FragmentValue) → Ok f ≡ with_headers xs (counted r) → (hs : List (List ℕ)) × (r ≡ Ok hs) × (f ≡ fields xs)
with_some xs (Ok hs) f e = (hs, refl, taken (takes_headers (slice_index xs 1) (length hs)) f (fields xs) e)
with_some xs (Err x) f e = cc

-- what is read has its fields and whole headers
pub read_has : (xs : List ℕ) (f : FragmentValue) → Ok f ≡ read_octets xs → (hs : List (List ℕ)) × (headers_in f.code f.objects ≡ Ok hs) × (f.objects ≡ drop 2 xs)
read_has xs f e =
    let behind = with_headers xs (counted (headers_in (slice_index xs 1) (drop 2 xs))) in
    let third : Result FragmentValue FragmentRefusal = if not (is_function (slice_index xs 1)) then Err refusal.Function else behind in
    let second : Result FragmentValue FragmentRefusal = if nat_lt (slice_index xs 0) 0xc0 then Err refusal.NotSingle else third in
    let a = past_refusal (nat_lt (length xs) 2) refusal.Short second f e in
    let b = past_refusal (nat_lt (slice_index xs 0) 0xc0) refusal.NotSingle third f a in
    let c = past_refusal (not (is_function (slice_index xs 1))) refusal.Function behind f b in
    let s = with_some xs (headers_in (slice_index xs 1) (drop 2 xs)) f c in
    (s.0, ap (λ (g : FragmentValue). headers_in g.code g.objects) s.2 ∙ s.1, ap (λ (g : FragmentValue). g.objects) s.2)

pub reply_with_objects : (xs : List ℕ) (f : FragmentValue) (reason : Reason) (hs : List (List ℕ)) → Ok f ≡ read_octets xs → answers_objects f.code ≡ true → headers_in f.code f.objects ≡ Ok hs →
    reply xs reason ≡ (0xc0 + slice_index xs 0 % 16) ∷ 0x81 ∷ 0x00 ∷ 0x00 ∷ flat_map (refused f.code) hs
reply_with_objects xs f reason hs e a h = grind (arith, common_steps, if_true)
