-- The place of the asset that a unit is for, as it is found.
use Rattle.cf_apci.specs.Apdu.{Ack, ApduValue, Control, Info}
use Rattle.cf_asdu.specs.Asdu.{station_of}
use Rattle.cf_lane.specs.Site.{find_place, is_for, or_first, place_for}
use Rattle.cf_lane.specs.Unit.{Apdu}
use Rattle.cf_policy.specs.Site.{SiteValue, assets_of}
use Rattle.cf_policy.specs.declared.Asset.{Asset}
use Rattle.cf_view.specs.declared.Side.{Side}
use Rattle.std.proofs.Common.{Bool, List, None, Option, Some, [], ap, arith, cond, false, length, nat_eq, nat_lt, option_map, refl, suc, sym, true, ℕ, ◌&&◌, ◌+◌, ◌<◌, ◌∙◌, ◌∷◌, ◌≡◌, ◌≤◌}
use Rattle.std.proofs.lemmas.Bool.{le-ltb, lt-ltb}
use Rattle.std.proofs.lemmas.Bool.Decides.{nat_tests}
use Rattle.std.specs.List.{position, prefix_len}
use Rattle.std.specs.Prelude.{if◌then◌else◌, not}

-- the first that passes, by the length of those that do not
abbrev at_prefix : ℕ → ℕ → Option ℕ
at_prefix n size = cond (nat_lt n size) (Some n) None

next_test : (n size : ℕ) → nat_lt (1 + n) (suc size) ≡ nat_lt n size
next_test n size = grind (arith, nat_tests)

at_next : (n size : ℕ) → option_map suc (at_prefix n size) ≡ at_prefix (1 + n) (suc size)
at_next n size = by (nat_lt n size) ∙ ap (λ b. cond b (Some (1 + n)) None) (sym (next_test n size)) where
  by : (b : Bool) → option_map suc (cond b (Some n) None) ≡ cond b (Some (1 + n)) None
  by true = ap Some (omega arith)
  by false = refl

at_first : (b : Bool) (n size : ℕ) → (if b then Some 0 else option_map suc (at_prefix n size)) ≡ at_prefix (cond (not b) (1 + n) 0) (suc size)
at_first true n size = ap (λ t. cond t (Some 0) None) (sym (lt-ltb 0 (suc size) (omega arith)))
at_first false n size = at_next n size

-- the first that passes is where std has it
pub find_position : (passes : Asset → Bool) (assets : List Asset) → find_place passes assets ≡ position passes assets
find_position passes [] = refl
find_position passes (a ∷ assets) =
    ap (λ o. if passes a then Some 0 else option_map suc o) (find_position passes assets)
    ∙ at_first (passes a) (prefix_len (λ x. not (passes x)) assets) (length assets)

-- behind the first that does not pass
pub place_next : (passes : Asset → Bool) (first : Asset) (others : List Asset) (o : Option ℕ) → passes first ≡ false → o ≡ position passes others →
    or_first (find_place passes (first ∷ others)) ≡ or_first (option_map suc o)
place_next passes first others o none is =
    ap (λ b. or_first (if b then Some 0 else option_map suc (find_place passes others))) none
    ∙ ap (λ p. or_first (option_map suc p)) (find_position passes others ∙ sym is)

pub place_first : (passes : Asset → Bool) (first : Asset) (others : List Asset) → passes first ≡ true → or_first (find_place passes (first ∷ others)) ≡ 0
place_first passes first others some = ap (λ b. or_first (if b then Some 0 else option_map suc (find_place passes others))) some

pub behind_some : (n : ℕ) (o : Option ℕ) → o ≡ Some n → n + 1 ≡ or_first (option_map suc o)
behind_some n o is = (let next : n + 1 ≡ suc n = omega arith in next) ∙ ap (λ p. or_first (option_map suc p)) (sym is)

pub behind_none : (o : Option ℕ) → o ≡ None → 0 ≡ or_first (option_map suc o)
behind_none o is = ap (λ p. or_first (option_map suc p)) (sym is)

-- where none passes there is none
none_found : (passes : Asset → Bool) (assets : List Asset) → ((a : Asset) → passes a ≡ false) → find_place passes assets ≡ None
none_found passes [] none = refl
none_found passes (a ∷ assets) none = ap (λ b. if b then Some 0 else option_map suc (find_place passes assets)) (none a) ∙ ap (option_map suc) (none_found passes assets none)

-- tests that say the same find the same
same_found : (p q : Asset → Bool) (assets : List Asset) → ((a : Asset) → p a ≡ q a) → find_place p assets ≡ find_place q assets
same_found p q [] same = refl
same_found p q (a ∷ assets) same =
    ap (λ b. if b then Some 0 else option_map suc (find_place p assets)) (same a) ∙ ap (λ o. if q a then Some 0 else option_map suc o) (same_found p q assets same)

pub short_asdu : (site : SiteValue) (s : Side) (send receive : ℕ) (asdu : List ℕ) → length asdu < 9 → 0 ≡ place_for site s (Apdu (Info send receive asdu))
short_asdu site s send receive asdu short =
    let none : nat_lt 8 (length asdu) ≡ false = le-ltb 8 (length asdu) (omega (arith, short)) in
    sym (ap or_first (none_found (is_for s (Apdu (Info send receive asdu))) (assets_of site) (λ a. ap (λ b. b && nat_eq (station_of asdu) a.station) none)))

pub whole_asdu : (site : SiteValue) (s : Side) (send receive : ℕ) (asdu : List ℕ) (station : ℕ) → 9 ≤ length asdu → station ≡ station_of asdu →
    or_first (find_place (λ a. nat_eq station a.station) (assets_of site)) ≡ place_for site s (Apdu (Info send receive asdu))
whole_asdu site s send receive asdu station long is =
    let some : nat_lt 8 (length asdu) ≡ true = lt-ltb 8 (length asdu) (omega (arith, long)) in
    ap or_first (same_found (λ a. nat_eq station a.station) (is_for s (Apdu (Info send receive asdu))) (assets_of site)
    (λ a. ap (λ n. nat_eq n a.station) is ∙ sym (ap (λ b. b && nat_eq (station_of asdu) a.station) some)))

pub no_asdu : (site : SiteValue) (s : Side) (a : ApduValue) → ((x : Asset) → is_for s (Apdu a) x ≡ false) → 0 ≡ place_for site s (Apdu a)
no_asdu site s a none = sym (ap or_first (none_found (is_for s (Apdu a)) (assets_of site) none))

pub ack_place : (site : SiteValue) (s : Side) (receive : ℕ) → 0 ≡ place_for site s (Apdu (Ack receive))
ack_place site s receive = no_asdu site s (Ack receive) (λ x. refl)

pub control_place : (site : SiteValue) (s : Side) (octet : ℕ) → 0 ≡ place_for site s (Apdu (Control octet))
control_place site s octet = no_asdu site s (Control octet) (λ x. refl)
