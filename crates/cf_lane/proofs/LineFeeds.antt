-- Lines whose names are those of a policy have one line feed, which is their last byte.
-- a byte that is no line feed
use Rattle.cf_audit.specs.Line.{LineValue, WhatValue}
use Rattle.cf_audit.specs.Names.{break_name, mark, reason_name, side_name, why_name}
use Rattle.cf_audit.specs.Text.{act_text, came_text, counts_text, cut_text, line_text, value_text, what_text}
use Rattle.cf_audit.specs.declared.line.CutReason.{CutReason}
use Rattle.cf_audit.specs.declared.line.Why.{Why}
use Rattle.cf_lane.specs.Log.{HasPlainNames, HasPlainRule}
use Rattle.cf_outside.specs.Lines.{is_line, is_nothing}
use Rattle.cf_policy.specs.Names.{is_name_byte, name_of}
use Rattle.cf_policy.specs.Verdict.{IsOneOf}
use Rattle.cf_policy.specs.Within.{IsAssetWithin, IsRuleWithin}
use Rattle.cf_policy.specs.declared.Asset.{Asset}
use Rattle.cf_policy.specs.declared.Decider.{Decider}
use Rattle.cf_policy.specs.declared.Rule.{Rule}
use Rattle.cf_view.specs.Text.{dotted, endpoint_text, moment_text, six_digits}
use Rattle.cf_view.specs.declared.Act.{Act}
use Rattle.cf_view.specs.declared.Break.{Break}
use Rattle.cf_view.specs.declared.Endpoint.{Endpoint}
use Rattle.cf_view.specs.declared.Reason.{Reason}
use Rattle.cf_view.specs.declared.Side.{Side}
use Rattle.std.specs.Fmt.{digit_glyph, digits}
use Rattle.hex.specs.Hex.{encode_lower, encode_with, lower_digits}
use Rattle.std.proofs.Common.{Bool, List, None, Option, Some, [], ap, arith, false, length, refl, rules, slice_get, subst, suc, sym, take, true, zero, ℕ, ◌++◌, ◌+◌, ◌<◌, ◌∙◌, ◌∷◌, ◌≡◌}
use Rattle.std.proofs.lemmas.Bool.{and_parts, cond_both, eqb-true, ne_eqb}
use Rattle.std.proofs.lemmas.List.Folds.{list_all-append}
use Rattle.std.proofs.lemmas.Option.{get_or_from_slice_get, slice_get_within}
use Rattle.std.specs.Fmt.{digits_onto, signed_decimal}
use Rattle.std.specs.List.{list_all}
use Rattle.cf_policy.specs.Verdict.{is_empty}
use Rattle.std.specs.Option.{option_map_or}
use Rattle.std.specs.Prelude.{All, codes, decimal, if◌then◌else◌, nat_le, nat_lt, negsuc, not, pos, slice_index, ℤ, ◌%◌, ◌&&◌, ◌/◌, ◌==◌}
use Rattle.cf_view.specs.declared.Break.TheVariants as break
use Rattle.cf_audit.specs.declared.line.CutReason.TheVariants as cut
use Rattle.cf_policy.specs.declared.Decider.TheVariants as decider
use Rattle.cf_audit.specs.Line as line
use Rattle.cf_view.specs.declared.Reason.TheVariants as reason
use Rattle.cf_view.specs.declared.Side.TheVariants as side
use Rattle.cf_audit.specs.declared.line.Why.TheVariants as why

abbrev pub is_plain : ℕ → Bool
is_plain b = not (b == 10)

abbrev pub are_plain : List ℕ → Bool
are_plain xs = list_all is_plain xs

plain_line : (b p q : Bool) (z : Bool) → (not b && p) ≡ true → (p ≡ true → q ≡ true) → (if b then z else q) ≡ true
plain_line true p q z h f = cc
plain_line false p q z h f = f h

pub line_of_plain : (xs : List ℕ) → are_plain xs ≡ true → is_line (xs ++ 10 ∷ []) ≡ true
line_of_plain [] h = refl
line_of_plain (x ∷ xs) h = plain_line (x == 10) (are_plain xs) (is_line (xs ++ 10 ∷ [])) (is_nothing (xs ++ 10 ∷ [])) h (line_of_plain xs)

and_plain : (xs ys : List ℕ) → are_plain xs ≡ true → are_plain ys ≡ true → are_plain (xs ++ ys) ≡ true
and_plain xs ys a b = list_all-append is_plain xs ys ∙ ap (λ p. p && are_plain ys) a ∙ b

one_plain : (x : ℕ) (xs : List ℕ) → is_plain x ≡ true → are_plain xs ≡ true → are_plain (x ∷ xs) ≡ true
one_plain x xs a b = ap (λ p. p && are_plain xs) a ∙ b

far : (n : ℕ) → 10 < n → is_plain n ≡ true
far n l = ap not (ne_eqb n 10 (λ e. omega (arith, e, l)))

glyph_plain : (d : ℕ) (low : Bool) → is_plain (if low then 48 + d else (if false then 55 + d else 87 + d)) ≡ true
glyph_plain d true = far (48 + d) (omega arith)
glyph_plain d false = far (87 + d) (omega arith)

onto_plain : (k n : ℕ) (acc : List ℕ) → are_plain acc ≡ true → are_plain (digits_onto k 10 false n acc) ≡ true
onto_plain zero n acc h = h
onto_plain (suc k) n acc h =
    let more = one_plain (digit_glyph false (n % 10)) acc (glyph_plain (n % 10) (nat_lt (n % 10) 10)) h in
    cond_both (n / 10 == 0) (digit_glyph false (n % 10) ∷ acc) (digits_onto k 10 false (n / 10) (digit_glyph false (n % 10) ∷ acc)) (λ xs. are_plain xs ≡ true) (λ _. more)
    (λ _. onto_plain k (n / 10) (digit_glyph false (n % 10) ∷ acc) more)

pub decimal_plain : (n : ℕ) → are_plain (decimal n) ≡ true
unfolding digits
decimal_plain n = onto_plain 64 n [] refl

signed_plain : (z : ℤ) → are_plain (signed_decimal z) ≡ true
signed_plain (pos n) = decimal_plain n
signed_plain (negsuc n) = one_plain 45 (decimal (suc n)) refl (decimal_plain (suc n))

-- what stands at a place of plain bytes, or 0 past them
at_plain : (xs : List ℕ) (i : ℕ) → are_plain xs ≡ true → is_plain (slice_index xs i) ≡ true
at_plain [] i h = refl
at_plain (x ∷ xs) zero h = (and_parts (is_plain x) (are_plain xs) h).0
at_plain (x ∷ xs) (suc i) h = at_plain xs i (and_parts (is_plain x) (are_plain xs) h).1

hex_plain : (t xs : List ℕ) → are_plain t ≡ true → are_plain (encode_with t xs) ≡ true
unfolding encode_with
hex_plain t [] h = refl
hex_plain t (x ∷ xs) h =
    one_plain (slice_index t (x / 16)) (slice_index t (x % 16) ∷ encode_with t xs) (at_plain t (x / 16) h)
    (one_plain (slice_index t (x % 16)) (encode_with t xs) (at_plain t (x % 16) h) (hex_plain t xs h))

name_far : (b : ℕ) → is_name_byte b ≡ true → is_plain b ≡ true
name_far b h = by (b == 10) refl where
  by : (t : Bool) → (b == 10) ≡ t → not t ≡ true
  by false e = refl
  by true e = (let is : b ≡ 10 = eqb-true b 10 e in absurd (never (ap is_name_byte (sym is) ∙ h))) where
    never : is_name_byte 10 ≡ true → ⊥
    never x = cc

pub name_plain : (xs : List ℕ) → list_all is_name_byte xs ≡ true → are_plain xs ≡ true
name_plain [] h = refl
name_plain (x ∷ xs) h =
    let parts = and_parts (is_name_byte x) (list_all is_name_byte xs) h in
    one_plain x xs (name_far x parts.0) (name_plain xs parts.1)

dotted_plain : (n : ℕ) → are_plain (dotted n) ≡ true
dotted_plain n =
    and_plain (((((decimal (n / 16777216) ++ codes ".") ++ decimal (n / 65536 % 256)) ++ codes ".") ++ decimal (n / 256 % 256)) ++ codes ".") (decimal (n % 256)) (and_plain ((((decimal (n / 16777216) ++ codes ".") ++ decimal (n / 65536 % 256)) ++ codes ".") ++ decimal (n / 256 % 256)) (codes ".") (and_plain (((decimal (n / 16777216) ++ codes ".") ++ decimal (n / 65536 % 256)) ++ codes ".") (decimal (n / 256 % 256)) (and_plain ((decimal (n / 16777216) ++ codes ".") ++ decimal (n / 65536 % 256)) (codes ".") (and_plain (decimal (n / 16777216) ++ codes ".") (decimal (n / 65536 % 256)) (and_plain (decimal (n / 16777216)) (codes ".") (decimal_plain (n / 16777216)) (refl)) (decimal_plain (n / 65536 % 256))) (refl)) (decimal_plain (n / 256 % 256))) (refl)) (decimal_plain (n % 256))

endpoint_plain : (e : Endpoint) → are_plain (endpoint_text e) ≡ true
endpoint_plain e = and_plain (dotted e.address ++ codes ":") (decimal e.port) (and_plain (dotted e.address) (codes ":") (dotted_plain e.address) (refl)) (decimal_plain e.port)

six_plain : (n : ℕ) → are_plain (six_digits n) ≡ true
six_plain n =
    and_plain ((((decimal (n / 100000) ++ decimal (n / 10000 % 10)) ++ decimal (n / 1000 % 10)) ++ decimal (n / 100 % 10)) ++ decimal (n / 10 % 10)) (decimal (n % 10)) (and_plain (((decimal (n / 100000) ++ decimal (n / 10000 % 10)) ++ decimal (n / 1000 % 10)) ++ decimal (n / 100 % 10)) (decimal (n / 10 % 10)) (and_plain ((decimal (n / 100000) ++ decimal (n / 10000 % 10)) ++ decimal (n / 1000 % 10)) (decimal (n / 100 % 10)) (and_plain (decimal (n / 100000) ++ decimal (n / 10000 % 10)) (decimal (n / 1000 % 10)) (and_plain (decimal (n / 100000)) (decimal (n / 10000 % 10)) (decimal_plain (n / 100000)) (decimal_plain (n / 10000 % 10))) (decimal_plain (n / 1000 % 10))) (decimal_plain (n / 100 % 10))) (decimal_plain (n / 10 % 10))) (decimal_plain (n % 10))

moment_plain : (m : ℕ) → are_plain (moment_text m) ≡ true
moment_plain m = and_plain (decimal (m / 1000000) ++ codes ".") (six_digits (m % 1000000)) (and_plain (decimal (m / 1000000)) (codes ".") (decimal_plain (m / 1000000)) (refl)) (six_plain (m % 1000000))

value_plain : (v : Option ℤ) → are_plain (value_text v) ≡ true
value_plain None = refl
value_plain (Some z) = signed_plain z

act_plain : (a : Act) → are_plain (act_text a) ≡ true
act_plain a =
    and_plain ((((((codes " code " ++ decimal a.code) ++ codes " group ") ++ decimal a.group) ++ codes " point ") ++ decimal a.point) ++ codes " value ") (value_text a.value) (and_plain (((((codes " code " ++ decimal a.code) ++ codes " group ") ++ decimal a.group) ++ codes " point ") ++ decimal a.point) (codes " value ") (and_plain ((((codes " code " ++ decimal a.code) ++ codes " group ") ++ decimal a.group) ++ codes " point ") (decimal a.point) (and_plain (((codes " code " ++ decimal a.code) ++ codes " group ") ++ decimal a.group) (codes " point ") (and_plain ((codes " code " ++ decimal a.code) ++ codes " group ") (decimal a.group) (and_plain (codes " code " ++ decimal a.code) (codes " group ") (and_plain (codes " code ") (decimal a.code) (refl) (decimal_plain a.code)) (refl)) (decimal_plain a.group)) (refl)) (decimal_plain a.point)) (refl)) (value_plain a.value)

side_plain : (s : Side) → are_plain (side_name s) ≡ true
side_plain side.Client = refl
side_plain s = refl

reason_plain : (r : Reason) → are_plain (reason_name r) ≡ true
reason_plain reason.Function = refl
reason_plain r = refl

why_plain : (w : Why) → are_plain (why_name w) ≡ true
why_plain why.Address = refl
why_plain w = refl

break_plain : (b : Break) → are_plain (break_name b) ≡ true
break_plain break.Protocol = refl
break_plain b = refl

mark_plain : (b : Bool) → are_plain (mark b) ≡ true
mark_plain true = refl
mark_plain false = refl

cut_plain : (c : CutReason) → are_plain (cut_text c) ≡ true
cut_plain (cut.Framing s b) = and_plain (side_name s ++ codes " ") (break_name b) (and_plain (side_name s) (codes " ") (side_plain s) (refl)) (break_plain b)
cut_plain (cut.WrongSend s expected seen) = and_plain (((side_name s ++ codes " send ") ++ decimal expected) ++ codes " ") (decimal seen) (and_plain ((side_name s ++ codes " send ") ++ decimal expected) (codes " ") (and_plain (side_name s ++ codes " send ") (decimal expected) (and_plain (side_name s) (codes " send ") (side_plain s) (refl)) (decimal_plain expected)) (refl)) (decimal_plain seen)
cut_plain (cut.WrongReceive s low high seen) = and_plain (((((side_name s ++ codes " receive ") ++ decimal low) ++ codes " ") ++ decimal high) ++ codes " ") (decimal seen) (and_plain ((((side_name s ++ codes " receive ") ++ decimal low) ++ codes " ") ++ decimal high) (codes " ") (and_plain (((side_name s ++ codes " receive ") ++ decimal low) ++ codes " ") (decimal high) (and_plain ((side_name s ++ codes " receive ") ++ decimal low) (codes " ") (and_plain (side_name s ++ codes " receive ") (decimal low) (and_plain (side_name s) (codes " receive ") (side_plain s) (refl)) (decimal_plain low)) (refl)) (decimal_plain high)) (refl)) (decimal_plain seen)
cut_plain (cut.Outstanding s) = and_plain (side_name s) (codes " outstanding") (side_plain s) (refl)
cut_plain (cut.NotStarted s) = and_plain (side_name s) (codes " notstarted") (side_plain s) (refl)
cut_plain (cut.StreamLength s) = and_plain (side_name s) (codes " long") (side_plain s) (refl)
cut_plain (cut.NoAnswer s) = and_plain (side_name s) (codes " noanswer") (side_plain s) (refl)
cut_plain c = refl

counts_plain : (admitted refused : ℕ) → are_plain (counts_text admitted refused) ≡ true
counts_plain admitted refused = and_plain ((codes " admitted " ++ decimal admitted) ++ codes " refused ") (decimal refused) (and_plain (codes " admitted " ++ decimal admitted) (codes " refused ") (and_plain (codes " admitted ") (decimal admitted) (refl) (decimal_plain admitted)) (refl)) (decimal_plain refused)

came_plain : (came : ℕ) → are_plain (came_text came) ≡ true
came_plain came = and_plain (codes " came ") (decimal came) refl (decimal_plain came)

what_plain : (w : WhatValue) → HasPlainRule w → are_plain (what_text w) ≡ true
what_plain (line.Refuse rule because act replied unit) h =
    and_plain (((((((codes "refuse " ++ rule) ++ codes " ") ++ reason_name because) ++ act_text act) ++ codes " ") ++ mark replied) ++ codes " ") (encode_lower (take 16 unit)) (and_plain ((((((codes "refuse " ++ rule) ++ codes " ") ++ reason_name because) ++ act_text act) ++ codes " ") ++ mark replied) (codes " ") (and_plain (((((codes "refuse " ++ rule) ++ codes " ") ++ reason_name because) ++ act_text act) ++ codes " ") (mark replied) (and_plain ((((codes "refuse " ++ rule) ++ codes " ") ++ reason_name because) ++ act_text act) (codes " ") (and_plain (((codes "refuse " ++ rule) ++ codes " ") ++ reason_name because) (act_text act) (and_plain ((codes "refuse " ++ rule) ++ codes " ") (reason_name because) (and_plain (codes "refuse " ++ rule) (codes " ") (and_plain (codes "refuse ") (rule) (refl) (name_plain rule h)) (refl)) (reason_plain because)) (act_plain act)) (refl)) (mark_plain replied)) (refl)) (hex_plain lower_digits (take 16 unit) refl)
what_plain (line.Admit rule act unit) h =
    and_plain (((codes "admit " ++ rule) ++ act_text act) ++ codes " ") (encode_lower (take 16 unit)) (and_plain ((codes "admit " ++ rule) ++ act_text act) (codes " ") (and_plain (codes "admit " ++ rule) (act_text act) (and_plain (codes "admit ") rule refl (name_plain rule h)) (act_plain act)) refl) (hex_plain lower_digits (take 16 unit) refl)
what_plain (line.Stray s because) h = and_plain ((codes "stray " ++ side_name s) ++ codes " ") (why_name because) (and_plain (codes "stray " ++ side_name s) (codes " ") (and_plain (codes "stray ") (side_name s) (refl) (side_plain s)) (refl)) (why_plain because)
what_plain (line.Partial s count) h = and_plain ((codes "partial " ++ side_name s) ++ codes " ") (decimal count) (and_plain (codes "partial " ++ side_name s) (codes " ") (and_plain (codes "partial ") (side_name s) (refl) (side_plain s)) (refl)) (decimal_plain count)
what_plain (line.Close admitted refused) h = and_plain (codes "close") (counts_text admitted refused) refl (counts_plain admitted refused)
what_plain (line.Cut c) h = and_plain (codes "cut ") (cut_text c) (refl) (cut_plain c)
what_plain (line.Lost admitted refused) h = and_plain (codes "lost") (counts_text admitted refused) refl (counts_plain admitted refused)
what_plain (line.Silent admitted refused) h = and_plain (codes "silent") (counts_text admitted refused) refl (counts_plain admitted refused)
what_plain (line.Again admitted refused) h = and_plain (codes "again") (counts_text admitted refused) refl (counts_plain admitted refused)
what_plain (line.Away came) h = and_plain (codes "away") (came_text came) refl (came_plain came)
what_plain (line.Stranger came) h = and_plain (codes "stranger") (came_text came) refl (came_plain came)
what_plain (line.Stands standing admitted refused) h =
    and_plain (codes "stands " ++ decimal standing) (counts_text admitted refused) (and_plain (codes "stands ") (decimal standing) refl (decimal_plain standing)) (counts_plain admitted refused)
what_plain w h = refl

pub one_line : (l : LineValue) → HasPlainNames l → is_line (line_text l) ≡ true
one_line l h =
    line_of_plain (moment_text l.moment ++ codes " " ++ endpoint_text l.client ++ codes " " ++ l.asset ++ codes " " ++ what_text l.what)
    (and_plain (((((moment_text l.moment ++ codes " ") ++ endpoint_text l.client) ++ codes " ") ++ l.asset) ++ codes " ") (what_text l.what) (and_plain ((((moment_text l.moment ++ codes " ") ++ endpoint_text l.client) ++ codes " ") ++ l.asset) (codes " ") (and_plain (((moment_text l.moment ++ codes " ") ++ endpoint_text l.client) ++ codes " ") (l.asset) (and_plain ((moment_text l.moment ++ codes " ") ++ endpoint_text l.client) (codes " ") (and_plain (moment_text l.moment ++ codes " ") (endpoint_text l.client) (and_plain (moment_text l.moment) (codes " ") (moment_plain l.moment) (refl)) (endpoint_plain l.client)) (refl)) (name_plain l.asset h.0)) (refl)) (what_plain l.what h.1))

-- the names of an asset within its ranges
last_of : (a b c : Bool) → (a && (b && c)) ≡ true → c ≡ true
last_of a b c h = (and_parts b c (and_parts a (b && c) h).1).1

pub asset_plain : (a : Asset) → IsAssetWithin a → list_all is_name_byte a.name ≡ true
asset_plain a w = last_of (not (is_empty a.name)) (nat_le (length a.name) 32) (list_all is_name_byte a.name) w.name

pub rule_plain : (rules : List Rule) → All IsRuleWithin rules → (n : ℕ) (found : Option Rule) → slice_get rules n ≡ found →
    list_all is_name_byte (option_map_or (λ r. r.name) found []) ≡ true
rule_plain rules each n None is = refl
rule_plain rules each n (Some r) is =
    let within = each n r (slice_get_within rules n r is) in
    let name = (subst IsRuleWithin (get_or_from_slice_get rules n r r is) within).name in
    last_of (not (is_empty r.name)) (nat_le (length r.name) 32) (list_all is_name_byte r.name) name

pub decider_plain : (a : Asset) → IsAssetWithin a → (d : Decider) → IsOneOf a.rules d → list_all is_name_byte (name_of a.rules d) ≡ true
decider_plain a w (decider.Rule n) o = rule_plain a.rules w.rules.each n (slice_get a.rules n) refl
decider_plain a w (decider.Spent n) o = rule_plain a.rules w.rules.each n (slice_get a.rules n) refl
decider_plain a w d o = refl
