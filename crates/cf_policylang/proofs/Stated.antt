-- What stands at the keys of a table that values were given to.
use Rattle.std.proofs.Common.{◌≡◌, ◌≢◌, ◌∙◌, ℕ, ◌≤◌, Bool, true, false, not, ◌&&◌, if◌then◌else◌, List, [], ◌∷◌, Option, Some, None, IfSome, Ordering, Less, Equal, Greater, ap, subst, sym, refl, arith}
use Rattle.std.specs.List.{list_any}
use Rattle.std.specs.Ordering.{is_eq, match_ordering, nat_cmp}
use Rattle.std.specs.Cmp.Lexicographic.{slice_cmp}
use Rattle.std.proofs.lemmas.Bool.{and_parts, not-true, or_parts, true≢false}
use Rattle.std.proofs.lemmas.Map.Lookups.{exact_bytes}
use Rattle.std.proofs.lemmas.Map.Text.{is_eq-slice_cmp}
use Rattle.std.proofs.lemmas.Slice.Eq.{bytes_eq-Decides}
use Rattle.toml.specs.Data.{Data, depth, Members, members_depth, no_members, member, get_member}
use Rattle.cf_policylang.specs.declared.refusal.Key.{Key}
use Rattle.cf_policylang.specs.Fields.{has_other, is_among, stated}
use Rattle.cf_policylang.specs.Keys.{key_text}
use Rattle.cf_policylang.specs.Spelling.{with_key, with_member}

is_equal : (o : Ordering) → is_eq o ≡ true → o ≡ Equal
is_equal Less e = absurd (true≢false (sym e))
is_equal Equal e = refl
is_equal Greater e = absurd (true≢false (sym e))

same_key : (k : List ℕ) → slice_cmp nat_cmp k k ≡ Equal
same_key k = is_equal (slice_cmp nat_cmp k k) (is_eq-slice_cmp k k ∙ (bytes_eq-Decides k k).1 refl)

skip : (o : Ordering) (x y : Option Data) → o ≢ Equal → match_ordering o x y x ≡ x
skip Less x y h = refl
skip Equal x y h = absurd (h refl)
skip Greater x y h = refl

-- the value that was given to a key stands there
get_own : (k : List ℕ) (d : Data) (ms : Members) → get_member k (with_member k d ms) ≡ Some d
get_own k d no_members = rw (same_key k) refl
get_own k d (member l e ms) =
    elim (slice_cmp nat_cmp k l) as (λ o. slice_cmp nat_cmp k l ≡ o
    → get_member k (match_ordering o (member k d (member l e ms)) (member l d ms) (member l e (with_member k d ms))) ≡ Some d) [
      | Less ↦ λ h. rw (same_key k) refl
      | Equal ↦ λ h. rw h refl
      | Greater ↦ λ h. rw h (get_own k d ms)
    ]
    refl

-- at every other key stands what stood there
get_other : (k l : List ℕ) (d : Data) (ms : Members) → slice_cmp nat_cmp k l ≢ Equal → get_member k (with_member l d ms) ≡ get_member k ms
get_other k l d no_members ne = skip (slice_cmp nat_cmp k l) None (Some d) ne
get_other k l d (member m e ms) ne =
    elim (slice_cmp nat_cmp l m) as (λ o. slice_cmp nat_cmp l m ≡ o
    → get_member k (match_ordering o (member l d (member m e ms)) (member m d ms) (member m e (with_member l d ms))) ≡ get_member k (member m e ms)) [
      | Less ↦ λ h. skip (slice_cmp nat_cmp k l) (get_member k (member m e ms)) (Some d) ne
      | Equal ↦ λ h.
          let apart : slice_cmp nat_cmp k m ≢ Equal = subst (λ x. slice_cmp nat_cmp k x ≢ Equal) (exact_bytes l m h) ne in
          skip (slice_cmp nat_cmp k m) (get_member k ms) (Some d) apart ∙ sym (skip (slice_cmp nat_cmp k m) (get_member k ms) (Some e) apart)
      | Greater ↦ λ h. ap (λ r. match_ordering (slice_cmp nat_cmp k m) r (Some e) r) (get_other k l d ms ne)
    ]
    refl

-- a table that has no key besides these still has none
no_other : (known : List Key) (k : List ℕ) (d : Data) (ms : Members) → is_among known k ≡ true → has_other known ms ≡ false
    → has_other known (with_member k d ms) ≡ false
no_other known k d no_members among h = rw among refl
no_other known k d (member l e ms) among h =
    elim (slice_cmp nat_cmp k l) as (λ o. has_other known (match_ordering o (member k d (member l e ms)) (member l d ms) (member l e (with_member k d ms))) ≡ false) [
      | Less ↦ rw among h
      | Equal ↦ h
      | Greater ↦ let parts = or_parts _ (has_other known ms) h in rw (parts.0, no_other known k d ms among parts.1) refl
    ]

shallow_with : (n : ℕ) (k : List ℕ) (d : Data) (ms : Members) → depth d ≤ n → members_depth ms ≤ n → members_depth (with_member k d ms) ≤ n
shallow_with n k d no_members own rest = omega arith
shallow_with n k d (member l e ms) own rest =
    elim (slice_cmp nat_cmp k l) as (λ o. members_depth (match_ordering o (member k d (member l e ms)) (member l d ms) (member l e (with_member k d ms))) ≤ n) [
      | Less ↦ omega arith
      | Equal ↦ omega arith
      | Greater ↦ let more : members_depth (with_member k d ms) ≤ n = shallow_with n k d ms own (omega arith) in omega arith
    ]

-- ---- a table by its keys, the last given first

-- a key with the value that was given to it, if one was
abbrev pub Given : Type 0
Given = Key × Option Data

abbrev pub put : Key → Option Data → Members → Members
put k None ms = ms
put k (Some d) ms = with_key k d ms

abbrev pub built : List Given → Members
built [] = no_members
built (g ∷ more) = put g.0 g.1 (built more)

abbrev is_same_key : Key → Key → Bool
is_same_key k l = is_eq (slice_cmp nat_cmp (key_text k) (key_text l))

-- the keys differ from each other
abbrev pub are_apart : List Given → Bool
are_apart [] = true
are_apart (g ∷ more) = not (list_any (λ other. is_same_key g.0 other.0) more) && are_apart more

-- the value that was given to a key
abbrev pub given_at : Key → List Given → Option Data
given_at k [] = None
given_at k (g ∷ more) = if is_same_key k g.0 then g.1 else given_at k more

abbrev pub are_known : List Key → List Given → Bool
are_known known [] = true
are_known known (g ∷ more) = is_among known (key_text g.0) && are_known known more

abbrev pub AreShallow : ℕ → List Given → Type 0
AreShallow n [] = Unit {0}
AreShallow n (g ∷ more) = IfSome g.1 (λ d. depth d ≤ n) × AreShallow n more

differ : (k l : Key) → is_same_key k l ≡ false → slice_cmp nat_cmp (key_text k) (key_text l) ≢ Equal
differ k l h e = true≢false (sym (ap is_eq e) ∙ h)

put_elsewhere : (k l : Key) (o : Option Data) (ms : Members) → is_same_key k l ≡ false → stated k (put l o ms) ≡ stated k ms
put_elsewhere k l None ms h = refl
put_elsewhere k l (Some d) ms h = get_other (key_text k) (key_text l) d ms (differ k l h)

missing : (k : Key) (gs : List Given) → list_any (λ other. is_same_key k other.0) gs ≡ false → stated k (built gs) ≡ None
missing k [] h = refl
missing k (g ∷ gs) h =
    let parts = or_parts (is_same_key k g.0) (list_any (λ other. is_same_key k other.0) gs) h in
    put_elsewhere k g.0 g.1 (built gs) parts.0 ∙ missing k gs parts.1

put_here : (k l : Key) (o : Option Data) (gs : List Given) → is_same_key k l ≡ true → list_any (λ other. is_same_key l other.0) gs ≡ false
    → stated k (put l o (built gs)) ≡ o
put_here k l o gs same apart =
    let text : key_text k ≡ key_text l = exact_bytes (key_text k) (key_text l) (is_equal (slice_cmp nat_cmp (key_text k) (key_text l)) same) in
    ap (λ t. get_member t (put l o (built gs))) text ∙ here o
  where
    here : (own : Option Data) → stated l (put l own (built gs)) ≡ own
    here None = missing l gs apart
    here (Some d) = get_own (key_text l) d (built gs)

-- at each key stands what was given to it
pub stated_at : (k : Key) (gs : List Given) → are_apart gs ≡ true → stated k (built gs) ≡ given_at k gs
stated_at k [] h = refl
stated_at k (g ∷ gs) h =
    let parts = and_parts (not (list_any (λ other. is_same_key g.0 other.0) gs)) (are_apart gs) h in
    elim (is_same_key k g.0) as (λ b. is_same_key k g.0 ≡ b → stated k (put g.0 g.1 (built gs)) ≡ (if b then g.1 else given_at k gs)) [
      | true ↦ λ e. put_here k g.0 g.1 gs e (not-true (list_any (λ other. is_same_key g.0 other.0) gs) parts.0)
      | false ↦ λ e. put_elsewhere k g.0 g.1 (built gs) e ∙ stated_at k gs parts.1
    ]
    refl

put_known : (known : List Key) (k : Key) (o : Option Data) (ms : Members) → is_among known (key_text k) ≡ true → has_other known ms ≡ false
    → has_other known (put k o ms) ≡ false
put_known known k None ms among h = h
put_known known k (Some d) ms among h = no_other known (key_text k) d ms among h

-- a table has no keys but those that were given
pub has_no_other : (known : List Key) (gs : List Given) → are_known known gs ≡ true → has_other known (built gs) ≡ false
has_no_other known [] h = refl
has_no_other known (g ∷ gs) h =
    let parts = and_parts (is_among known (key_text g.0)) (are_known known gs) h in
    put_known known g.0 g.1 (built gs) parts.0 (has_no_other known gs parts.1)

put_shallow : (n : ℕ) (k : Key) (o : Option Data) (ms : Members) → IfSome o (λ d. depth d ≤ n) → members_depth ms ≤ n → members_depth (put k o ms) ≤ n
put_shallow n k None ms own rest = rest
put_shallow n k (Some d) ms own rest = shallow_with n (key_text k) d ms own rest

pub built_shallow : (n : ℕ) (gs : List Given) → AreShallow n gs → members_depth (built gs) ≤ n
built_shallow n [] h = omega arith
built_shallow n (g ∷ gs) h = put_shallow n g.0 g.1 (built gs) h.0 (built_shallow n gs h.1)
