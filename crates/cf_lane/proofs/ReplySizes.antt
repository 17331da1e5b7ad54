-- How long the reply to a refused DNP3 fragment is.
use Rattle.cf_dnpobj.proofs.Grammar.{are_headers}
use Rattle.cf_dnpobj.proofs.Replies.{read_has}
use Rattle.cf_dnpobj.specs.Fragment.{FragmentValue, read_octets}
use Rattle.cf_dnpobj.specs.Headers.{headers_in}
use Rattle.cf_dnpobj.specs.Reply.{answers_objects, body, indication_of, refused, refused_objects, refused_octet, reply}
use Rattle.cf_dnpobj.specs.declared.fragment.FragmentRefusal.{FragmentRefusal}
use Rattle.cf_view.specs.declared.Reason.{Reason}
use Rattle.std.proofs.Common.{Bool, Err, List, Ok, [], ap, arith, drop, false, length, refl, true, ℕ, ◌+◌, ◌∙◌, ◌∷◌, ◌≡◌, ◌≤◌}
use Rattle.std.proofs.lemmas.List.FromFn.{length-map-range_with_len}
use Rattle.std.proofs.lemmas.List.{length-append, length-drop}
use Rattle.std.specs.List.{concat, flat_map}
use Rattle.std.specs.Prelude.{Result, if◌then◌else◌}

length-refused : (code : ℕ) (hs : List (List ℕ)) → length (flat_map (refused code) hs) ≡ length (concat hs)
length-refused code [] = refl
length-refused code (h ∷ hs) =
    let here : length (refused code h) ≡ length h = length-map-range_with_len (refused_octet code h) 0 (length h) in
    omega (arith, length-append (refused code h) (flat_map (refused code) hs), length-append h (concat hs), here, length-refused code hs)

one_more : (b : Bool) (xs : List ℕ) (o n : ℕ) → length xs ≤ n → (1 ≤ length (if b then 0x00 ∷ xs else o ∷ [])) × (length (if b then 0x00 ∷ xs else o ∷ []) ≤ 1 + n)
one_more true xs o n h = (omega arith, omega (arith, h))
one_more false xs o n h = (omega arith, omega arith)

length-body : (xs : List ℕ) (reason : Reason) (r : Result FragmentValue FragmentRefusal) → r ≡ read_octets xs →
    (1 ≤ length (body r reason)) × (length (body r reason) ≤ 1 + length (drop 2 xs))
length-body xs reason (Err e) is = (omega arith, omega arith)
length-body xs reason (Ok f) is =
    let has = read_has xs f is in
    let are = are_headers (length f.objects) f.code f.objects has.0 has.1 in
    let size : length (refused_objects f.code (headers_in f.code f.objects)) ≡ length (drop 2 xs) =
    ap (λ r. length (refused_objects f.code r)) has.1 ∙ length-refused f.code has.0 ∙ ap length are.0 ∙ ap length has.2 in
    one_more (answers_objects f.code) (refused_objects f.code (headers_in f.code f.objects)) (indication_of reason) (length (drop 2 xs)) (omega (arith, size))

-- it has four octets at least, and two more than the fragment at most
pub reply_sizes : (xs : List ℕ) (reason : Reason) → 2 ≤ length xs → (4 ≤ length (reply xs reason)) × (length (reply xs reason) ≤ length xs + 2)
reply_sizes xs reason h =
    let b = length-body xs reason (read_octets xs) refl in
    (omega (arith, b.0), omega (arith, b.1, h, length-drop 2 xs))
