-- The front of the bytes of a flow, up to a record, as it is read: what is wrong in it is what is wrong in all, where that came up to there.
use Rattle.std.proofs.Common.{◌≡◌, ◌<◌, ◌≤◌, ◌+◌, ◌-◌, ◌∙◌, ℕ, List, [], ◌∷◌, ◌++◌, length, take, drop, get_or, Option, None, Some, option_map, refl, sym, ap, subst, inl, inr, arith, append_assoc, length-append, length-drop, take-append-drop}
use Rattle.cf_unobjected.proofs.Common.{AreRead, SiteValue, item_place, Begins, Breaks, Ending, FlowValue, IsPartial, Judged, Objection, SpellsUnit, UnitValue, Whole, cases_lt, complaint_of, completed_in, first_wrong, length-take-le, objected, option_or, wrong}
use Rattle.std.proofs.lemmas.List.{drop-take, get_or-drop, get_or-take, take-take}
use Rattle.cf_judge.specs.Objections.{wrong_at}
use Rattle.cf_judge.specs.Plain.{HasEnding}
use Rattle.cf_judge.specs.declared.Complaint.{Complaint}
use Rattle.cf_view.proofs.Framing.{take_split}
use Rattle.cf_view.specs.Framing.{BreaksAt, IsFront}
use Rattle.cf_unobjected.proofs.Within.{kept, kept_high, kept_low}
use Rattle.cf_judge.specs.declared.Complaint.TheVariants as complaint

abbrev pub at_of : Objection → ℕ
at_of o = o.at_record

-- ---- what is wrong, with one more in front, as it is told of a flow

module _ (f : FlowValue) (n : ℕ) where
  abbrev keep : Option Objection → Option Objection
  keep o = kept at_of n o

  late_or : (m place : ℕ) (o : Option Complaint) (rest : _) → n < m → keep (option_map (objected f) rest) ≡ None → keep (option_map (objected f) (option_or (option_map (wrong m place) o) rest)) ≡ None
  late_or m place None rest high h = h
  late_or m place (Some c) rest high h = kept_high at_of n (objected f (wrong m place c)) high

  -- one that came up to the record is the first of what is kept
  low_or : (m place : ℕ) (o : Option Complaint) (all rest : _) → m ≤ n → option_map (objected f) rest ≡ keep (option_map (objected f) all) →
      option_map (objected f) (option_or (option_map (wrong m place) o) rest) ≡ keep (option_map (objected f) (option_or (option_map (wrong m place) o) all))
  low_or m place None all rest low h = h
  low_or m place (Some c) all rest low h = sym (kept_low at_of n (objected f (wrong m place c)) low)

-- ---- octets

front_of_take : (xs : List ℕ) (i k : ℕ) → i ≤ k → take i (take k xs) ≡ take i xs
front_of_take xs i k h = take-take i k xs h

drop_of_take : (xs : List ℕ) (m k : ℕ) → m ≤ k → drop m (take k xs) ≡ take (k - m) (drop m xs)
drop_of_take xs m k h = ap (λ j. drop m (take j xs)) (omega (arith, h)) ∙ drop-take m (k - m) xs

module _ (site : SiteValue) (client : ℕ) (f : FlowValue) (n : ℕ) where
  abbrev Spells : UnitValue → List ℕ → Type 0
  Spells = SpellsUnit site.first.protocol

  shorter : (bytes : List ℕ) (k : ℕ) → IsPartial Spells bytes → IsPartial Spells (take k bytes)
  shorter bytes k p =
      let parts : bytes ++ p.more ≡ take k bytes ++ (drop k bytes ++ p.more) = ap (λ xs. xs ++ p.more) (sym (take-append-drop k bytes)) ∙ append_assoc (take k bytes) (drop k bytes) p.more in
      record {
        whole = p.whole;
        more = drop k bytes ++ p.more;
        proper = let some = p.proper in let size = length-append (drop k bytes) p.more in omega (arith, some, size);
        spells = subst (Spells p.whole) parts p.spells;
      }

  -- fewer octets than a unit's are a proper prefix of it
  part_of_unit : (bytes : List ℕ) (u : UnitValue) (m k : ℕ) → Begins Spells bytes u m → k < m → IsPartial Spells (take k bytes)
  part_of_unit bytes u m k b h =
      let within = b.inside in
      let left : m - k ≤ length (drop k bytes) = (let size = length-drop k bytes in omega (arith, size, within)) in
      let size = length-take-le (m - k) (drop k bytes) left in
      record {
        whole = u;
        more = take (m - k) (drop k bytes);
        proper = omega (arith, size, h);
        spells = subst (Spells u) (take_split bytes k m (omega (arith, h))) b.spells;
      }

  broken_front : (bytes : List ℕ) (place k : ℕ) → place < k → k ≤ length bytes → BreaksAt Spells bytes place → BreaksAt Spells (take k bytes) place
  broken_front bytes place k below within b = record {
    inside = let size = length-take-le k bytes within in omega (arith, size, below);
    before = subst (IsPartial Spells) (sym (front_of_take bytes place k (omega (arith, below)))) b.before;
    here = λ f. b.here (subst (IsFront Spells) (front_of_take bytes (place + 1) k (omega (arith, below))) f);
  }

  -- ---- where all comes later

  late_ending : (bytes born : List ℕ) (x : Ending) → length born ≡ length bytes → ((i : ℕ) → i < length born → n < get_or born i 0) → HasEnding site bytes born x → keep f n (option_map (objected f) (wrong_at x)) ≡ None
  late_ending bytes born Whole size high h = refl
  late_ending bytes born (Breaks number reason) size high (place, breaks, is, number_is) =
      let within = breaks.inside in
      let after = high place (omega (arith, within, size)) in
      kept_high at_of n (objected f (wrong number 0 (complaint.Broken reason))) (omega (arith, after, number_is))

  pub late : (earlier : List Judged) (bytes born : List ℕ) (js : List Judged) (x : Ending) → length born ≡ length bytes → ((i : ℕ) → i < length born → n < get_or born i 0) →
      AreRead site client earlier bytes born js x → keep f n (option_map (objected f) (first_wrong site js x)) ≡ None
  late earlier bytes born [] x size high are = late_ending bytes born x size high are
  late earlier bytes born (j ∷ js) x size high (unit, m, begins, some, is, has, rest) =
      let within = begins.inside in
      let bytes_left = length-drop m bytes in
      let born_left = length-drop m born in
      let after = high (m - 1) (omega (arith, within, size, some)) in
      let moment : j.moment ≡ get_or born (m - 1) 0 = ap (λ (y : Judged). y.moment) is in
      late_or f n j.moment (item_place site j.item) (complaint_of j.fate) (first_wrong site js x) (omega (arith, after, moment))
      (late (earlier ++ j ∷ []) (drop m bytes) (drop m born) js x (omega (arith, bytes_left, born_left, size))
      (λ i below. subst (λ y. n < y) (sym (get_or-drop m born i 0)) (high (m + i) (omega (arith, below, born_left)))) rest)

  -- ---- where a front comes before and the rest later

  -- so many bytes came up to the record
  pub record IsSplit (bytes born : List ℕ) (k : ℕ) : Type 0 where
    pub size : length born ≡ length bytes
    pub inside : k ≤ length bytes
    pub low : (i : ℕ) → i < k → get_or born i 0 ≤ n
    pub high : (i : ℕ) → k ≤ i → i < length born → n < get_or born i 0

  pub record ReadsFront (earlier : List Judged) (bytes born : List ℕ) (all : Option Objection) : Type 0 where
    pub judged : List Judged
    pub ending : Ending
    pub are_read : AreRead site client earlier bytes born judged ending
    pub first : option_map (objected f) (first_wrong site judged ending) ≡ keep f n all

  ending_front : (earlier : List Judged) (bytes born : List ℕ) (x : Ending) (k : ℕ) → IsSplit bytes born k → HasEnding site bytes born x → ReadsFront earlier (take k bytes) (take k born) (option_map (objected f) (wrong_at x))
  ending_front earlier bytes born Whole k s h = record { judged = []; ending = Whole; are_read = shorter bytes k h; first = refl }
  ending_front earlier bytes born (Breaks number reason) k s (place, breaks, is, number_is) =
      elim (cases_lt place k) [
        | inl below ↦
            (let before = s.low place below in
            record {
              judged = [];
              ending = Breaks number reason;
              are_read = (place, broken_front bytes place k below s.inside breaks, is, number_is ∙ sym (get_or-take k born place 0 below));
              first = sym (kept_low at_of n (objected f (wrong number 0 (complaint.Broken reason))) (omega (arith, before, number_is)));
            })
        | inr above ↦
            (let within = breaks.inside in
            let size = s.size in
            let after = s.high place above (omega (arith, within, size)) in
            record {
              judged = [];
              ending = Whole;
              are_read = subst (IsPartial Spells) (front_of_take bytes k place above) (shorter (take place bytes) k breaks.before);
              first = sym (kept_high at_of n (objected f (wrong number 0 (complaint.Broken reason))) (omega (arith, after, number_is)));
            })
      ]

  split_behind : (bytes born : List ℕ) (m k : ℕ) → m ≤ k → IsSplit bytes born k → IsSplit (drop m bytes) (drop m born) (k - m)
  split_behind bytes born m k h s =
      let size = s.size in
      let within = s.inside in
      let bytes_left = length-drop m bytes in
      let born_left = length-drop m born in
      record {
        size = omega (arith, size, bytes_left, born_left);
        inside = omega (arith, within, bytes_left);
        low = λ i below. subst (λ y. y ≤ n) (sym (get_or-drop m born i 0)) (s.low (m + i) (omega (arith, below, h)));
        high = λ i above inside. subst (λ y. n < y) (sym (get_or-drop m born i 0)) (s.high (m + i) (omega (arith, above, h)) (omega (arith, inside, born_left)));
      }

  pub front_read : (earlier : List Judged) (bytes born : List ℕ) (js : List Judged) (x : Ending) (k : ℕ) → IsSplit bytes born k → AreRead site client earlier bytes born js x →
      ReadsFront earlier (take k bytes) (take k born) (option_map (objected f) (first_wrong site js x))
  front_read earlier bytes born [] x k s are = ending_front earlier bytes born x k s are
  front_read earlier bytes born (j ∷ js) x k s (unit, m, begins, some, is, has, rest) =
      elim (cases_lt k m) [
        | inl short ↦
            (let within = begins.inside in
            let size = s.size in
            let bytes_left = length-drop m bytes in
            let born_left = length-drop m born in
            let after = s.high (m - 1) (omega (arith, short)) (omega (arith, within, size, some)) in
            let moment : j.moment ≡ get_or born (m - 1) 0 = ap (λ (y : Judged). y.moment) is in
            let behind = late (earlier ++ j ∷ []) (drop m bytes) (drop m born) js x (omega (arith, bytes_left, born_left, size))
            (λ i below. subst (λ y. n < y) (sym (get_or-drop m born i 0)) (s.high (m + i) (omega (arith, short)) (omega (arith, below, born_left)))) rest in
            record {
              judged = [];
              ending = Whole;
              are_read = part_of_unit bytes unit m k begins short;
              first = sym (late_or f n j.moment (item_place site j.item) (complaint_of j.fate) (first_wrong site js x) (omega (arith, after, moment)) behind);
            })
        | inr long ↦
            (let before = s.low (m - 1) (omega (arith, long, some)) in
            let moment : j.moment ≡ get_or born (m - 1) 0 = ap (λ (y : Judged). y.moment) is in
            let within = s.inside in
            let size = length-take-le k bytes within in
            let later = front_read (earlier ++ j ∷ []) (drop m bytes) (drop m born) js x (k - m) (split_behind bytes born m k long s) rest in
            let at : get_or (take k born) (m - 1) 0 ≡ get_or born (m - 1) 0 = get_or-take k born (m - 1) 0 (omega (arith, long, some)) in
            let read = subst (λ xs. AreRead site client (earlier ++ j ∷ []) xs (drop m (take k born)) later.judged later.ending) (sym (drop_of_take bytes m k long))
            (subst (λ ys. AreRead site client (earlier ++ j ∷ []) (take (k - m) (drop m bytes)) ys later.judged later.ending) (sym (drop_of_take born m k long)) later.are_read) in
            record {
              judged = j ∷ later.judged;
              ending = later.ending;
              are_read = (
                unit,
                m,
                record { inside = omega (arith, size, long); spells = subst (Spells unit) (sym (front_of_take bytes m k long)) begins.spells },
                some,
                is ∙ ap (λ y. completed_in y unit j.fate) (sym at),
                has,
                read,
              );
              first = low_or f n j.moment (item_place site j.item) (complaint_of j.fate) (first_wrong site js x) (first_wrong site later.judged later.ending) (omega (arith, before, moment)) later.first;
            })
      ]
