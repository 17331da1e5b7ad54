-- Acts of commands are in the regions of their code's kinds.
use Rattle.std.proofs.Common.{◌≡◌, ℕ, ◌^◌, ◌<◌, ℤ, pos, int_le, ◌≤ℤ◌, Bool, true, false, List, [], ◌∷◌, Some, take, slice_get, get_or, refl, sym, subst, ap, ◌∙◌, arith}
use mathlib.Core.Logic.{⊎_elim}
use Rattle.std.specs.List.{flat_map, filter, list_all, list_any}
use Rattle.std.proofs.lemmas.Int.{ints}
use Rattle.std.proofs.lemmas.Bool.{true≢false, cases_lt}
use Rattle.std.proofs.lemmas.Bool.Decides.{nat_tests}
use Rattle.std.proofs.lemmas.List.Folds.{list_any-append, list_any_at}
use Rattle.std.proofs.lemmas.Option.{slice_get-get_or}
use Rattle.cf_view.specs.declared.base.Act.{Act}
use Rattle.cf_policy.specs.declared.policy.Protocol.{Protocol}
use Rattle.cf_policy.specs.declared.policy.Rule.{Rule}
use Rattle.cf_policy.specs.declared.policy.Asset.{Asset}
use Rattle.cf_policy.specs.Verdict.{covers, takes, has_act}
use Rattle.cf_acts.specs.declared.Groups.{Groups}
use Rattle.cf_acts.specs.declared.Groups.TheVariants as groups
use Rattle.cf_acts.specs.declared.Kind.{Kind}
use Rattle.cf_acts.specs.Acts.{up_to, has_group, has_value, is_of_kind, kinds}
use Rattle.cf_acts.specs.Commands.{IsOfCommand}
use Rattle.cf_acts.proofs.OfCommands.{command_acts_in}
use Rattle.cf_acts.proofs.Served.{kinds_end}
use Rattle.cf_covered.specs.declared.answer.Cover.{Cover}
use Rattle.cf_covered.specs.declared.answer.Cover.TheVariants.{Rule as One, Rules as Several}
use Rattle.cf_covered.specs.Covered.{HaveAllOf, HaveCodeOf, IsCover, DecidesNoCommand}
use Rattle.cf_covered.specs.Regions.{is_in, AreSettled, group_regions, kind_regions}
use Rattle.cf_covered.proofs.Inclusion.{not_first}

address_in : (client : ℕ) → client < 2 ^ 32 → covers (up_to 4294967295) (pos client) ≡ true
address_in client low = grind (arith, ints, nat_tests)

in_groups : (k : Kind) (g : Groups) (client : ℕ) (act : Act) → client < 2 ^ 32 → has_group g (pos act.group) ≡ true
    → covers k.points (pos act.point) ≡ true → has_value k.values act.value ≡ true → list_any (λ q. is_in q client act) (group_regions k g) ≡ true
in_groups k (groups.Span s) client act low group point value = let address = address_in client low in grind arith
in_groups k groups.Causes client act low group point value = let address = address_in client low in grind arith

in_kinds : (ks : List Kind) (client : ℕ) (act : Act) → client < 2 ^ 32 → list_any (is_of_kind act) ks ≡ true
    → list_any (λ q. is_in q client act) (flat_map kind_regions ks) ≡ true
in_kinds [] client act low h = h
in_kinds (k ∷ ks) client act low h =
    let here = in_groups k k.groups client act low in
    let later = in_kinds ks client act low in
    let both = list_any-append (λ q. is_in q client act) (kind_regions k) (flat_map kind_regions ks) in
    grind arith

-- where the regions of a code's kinds are settled, all that the rule has of the code is had
pub code_had : (p : Protocol) (others : List Rule) (rule : Rule) (code : ℕ) → AreSettled rule others code (flat_map kind_regions (kinds p code))
    → HaveCodeOf p others rule code
code_had p others rule code settled client act same low of has =
    settled client act same
    (in_kinds (kinds p code) client act low (subst (λ c. list_any (is_of_kind act) (kinds p c) ≡ true) same (command_acts_in p act of))) has

-- where a rule has no code from an end on, those before the end are all
pub codes_before : (p : Protocol) (others : List Rule) (rule : Rule) (end : ℕ)
    → ((code : ℕ) → code < 256 → takes rule.codes (pos code) ≡ true → code < end)
    → ((code : ℕ) → code < end → HaveCodeOf p others rule code) → HaveAllOf p others rule
codes_before p others rule end before each client act low of has = ⊎_elim
    (λ served. each act.code (before act.code served (grind arith)) client act refl low of has)
    (λ high. absurd (true≢false (sym (command_acts_in p act of) ∙ ap (list_any (is_of_kind act)) (kinds_end p act.code high))))
    (cases_lt act.code 256)

filtered_any : {X : Type 0} (p q : X → Bool) (xs : List X) → list_any p (filter q xs) ≡ true → list_any p xs ≡ true
filtered_any p q [] h = h
filtered_any p q (x ∷ xs) h = let later = filtered_any p q xs in grind arith

-- what some of the rules have the rules have
pub filtered_have : (p : Protocol) (q : Rule → Bool) (rules left : List Rule) (rule : Rule) → left ≡ filter q rules → HaveAllOf p left rule → HaveAllOf p rules rule
filtered_have p q rules left rule e had client act low of has =
    filtered_any (λ r. has_act r client act) q rules (ap (list_any (λ r. has_act r client act)) (sym e) ∙ had client act low of has)

-- a rule whose acts those before it have decides none
pub decides_none : (asset : Asset) (number : ℕ) (rule : Rule) → slice_get asset.rules number ≡ Some rule
    → HaveAllOf asset.protocol (take number asset.rules) rule → DecidesNoCommand asset number
decides_none asset number rule here had client act low of = not_first (λ r. has_act r client act) asset.rules number rule here (had client act low of)

-- whatever has all that a rule has, the earlier rules have it
pub cover_has : (p : Protocol) (earlier : List Rule) (rule : Rule) (cover : Cover) → IsCover p earlier rule cover → HaveAllOf p earlier rule
cover_has p earlier rule (One number) h = λ client act low of has.
    let one = h.1 (get_or earlier number rule) (slice_get-get_or earlier number rule h.0) client act low of has in
    list_any_at (λ r. has_act r client act) earlier number rule h.0 (grind arith)
cover_has p earlier rule Several h = h

kind_high : (ks : List Kind) (act : Act) (high : ℤ) → list_all (λ k. int_le k.points.high high) ks ≡ true → list_any (is_of_kind act) ks ≡ true
    → pos act.point ≤ℤ high
kind_high [] act high all some = grind arith
kind_high (k ∷ ks) act high all some = let later = kind_high ks act high in grind (arith, ints, nat_tests)

-- no act of a command with the code has a point above one that no kind's points go above
pub point_high : (p : Protocol) (code : ℕ) (high : ℤ) → list_all (λ k. int_le k.points.high high) (kinds p code) ≡ true
    → (act : Act) → act.code ≡ code → IsOfCommand p act → pos act.point ≤ℤ high
point_high p code high all act same of =
    kind_high (kinds p code) act high all (subst (λ c. list_any (is_of_kind act) (kinds p c) ≡ true) same (command_acts_in p act of))
