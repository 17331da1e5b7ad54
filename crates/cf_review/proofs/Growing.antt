-- A flow that was read goes on: what was read of it stays, whatever bytes come.
use Rattle.std.proofs.Common.{◌≡◌, ◌+◌, ◌-◌, ◌<◌, ◌≤◌, ◌∙◌, ℕ, List, [], ◌++◌, length, map, drop, replicate, Option, None, Some, refl, sym, ap, subst, arith, append_assoc, length-append}
use Rattle.std.proofs.lemmas.List.{drop-append-le, length-replicate, take-append-le}
use Rattle.cf_judge.specs.Plain.{AreRead, Breaks, Ending}
use Rattle.cf_judge.specs.declared.front.Reader.{Reader}
use Rattle.cf_lane.specs.Judged.{Judged}
use Rattle.cf_lane.specs.Unit.{SpellsUnit}
use Rattle.cf_policy.specs.Site.{SiteValue}
use Rattle.cf_policy.specs.declared.Protocol.{Protocol}
use Rattle.cf_view.specs.Framing.{Begins, BreaksAt, IsFront, IsPartial}
use Rattle.cf_watch.specs.FlowValue.{FlowValue}
use Rattle.cf_watch.specs.Kept.{Grows}
use Rattle.cf_watch.specs.Trail.{GoesOn, Heard}
use Rattle.cf_watch.specs.declared.flow.Conflict.{Conflict}
use Rattle.cf_review.proofs.FirstUnits.{read_from, searched_longer, searched_none}
use Rattle.cf_review.specs.FirstUnit.{IsReadPart, IsReadPartBy, UnitBegins, from_place}
use Rattle.cf_review.specs.Follow.{HasBroken, HasUnitBy, IsBegun, IsSearched, IsSearchedBy, IsStaged, SoFar, StartsAt}
use Rattle.cf_review.specs.Remark.{RemarkValue, remark_value}
use Rattle.cf_review.specs.declared.following.Following.{Following}
use Rattle.cf_review.specs.declared.following.Stage.{Stage}
use Rattle.cf_review.specs.declared.following.Stage.TheVariants as stage

-- a flow with some bytes more
abbrev pub longer : FlowValue → (more more_born : List ℕ) → Option Conflict → FlowValue
longer f more more_born conflict = record f { bytes = f.bytes ++ more; born = f.born ++ more_born; conflict = conflict }

pub is_longer : (number : ℕ) (old new : FlowValue) (g : Grows number old new) → new ≡ longer old g.more (replicate (length g.more) number) new.conflict
is_longer number old new g = λ i. record { client = g.client i; asset = g.asset i; midstream = g.midstream i; bytes = g.bytes i; born = g.born i; conflict = new.conflict }

-- what stands at the front of bytes stands there where more follow
module _ {U : Type 0} (Spells : U → List ℕ → Type 0) (bytes more : List ℕ) where
  pub begins_longer : (u : U) (n : ℕ) → Begins Spells bytes u n → Begins Spells (bytes ++ more) u n
  begins_longer u n b =
      let inside : n ≤ length bytes = b.inside in
      record {
        inside = omega (arith, inside, length-append bytes more);
        spells = subst (Spells u) (sym (take-append-le n bytes more inside)) b.spells;
      }

  pub breaks_longer : (i : ℕ) → BreaksAt Spells bytes i → BreaksAt Spells (bytes ++ more) i
  breaks_longer i b =
      let inside : i < length bytes = b.inside in
      record {
        inside = omega (arith, inside, length-append bytes more);
        before = subst (IsPartial Spells) (sym (take-append-le i bytes more (omega (arith, inside)))) b.before;
        here = λ is. b.here (subst (IsFront Spells) (take-append-le (i + 1) bytes more (omega (arith, inside))) is);
      }

unit_begins_longer : (p : Protocol) (bytes more : List ℕ) → UnitBegins p bytes → UnitBegins p (bytes ++ more)
unit_begins_longer p bytes more (u, n, b) = (u, n, begins_longer (SpellsUnit p) bytes more u n b)

-- ---- where a flow is read from, by the record with which it begins amid its stream

start_inside : (p : Protocol) (o : Option ℕ) (bytes : List ℕ) (at : ℕ) → IsSearchedBy p o bytes at → at ≤ length bytes
start_inside p None bytes at is = omega (arith, is)
start_inside p (Some number) bytes at is = is.inside

searched_by_longer : (p : Protocol) (o : Option ℕ) (bytes more : List ℕ) (at : ℕ) → IsSearchedBy p o bytes at → IsSearchedBy p o (bytes ++ more) at
searched_by_longer p None bytes more at is = is
searched_by_longer p (Some number) bytes more at is = searched_longer p bytes more at is

unit_by_longer : (p : Protocol) (o : Option ℕ) (bytes more : List ℕ) (at : ℕ) → at ≤ length bytes → HasUnitBy p o bytes at → HasUnitBy p o (bytes ++ more) at
unit_by_longer p None bytes more at inside is = is
unit_by_longer p (Some number) bytes more at inside is = subst (UnitBegins p) (sym (drop-append-le at bytes more inside)) (unit_begins_longer p (drop at bytes) more is)

searched_by_first : (p : Protocol) (o : Option ℕ) (bytes : List ℕ) (at : ℕ) → at ≡ 0 → IsSearchedBy p o bytes at
searched_by_first p None bytes at none = none
searched_by_first p (Some number) bytes at none = subst (IsSearched p bytes) (sym none) (searched_none p bytes)

module _ (p : Protocol) (f : FlowValue) (start : ℕ) (s : StartsAt p f start) where
  inside_at : start ≤ length f.bytes
  inside_at = start_inside p f.midstream f.bytes start s.searched

  starts_longer : (more more_born : List ℕ) (conflict : Option Conflict) → StartsAt p (longer f more more_born conflict) start
  starts_longer more more_born conflict = record {
    searched = searched_by_longer p f.midstream f.bytes more start s.searched;
    unit = unit_by_longer p f.midstream f.bytes more start inside_at s.unit;
  }

  -- what it has from there on is as much longer
  from_longer : (more more_born : List ℕ) (conflict : Option Conflict) → length f.born ≡ length f.bytes →
      longer (from_place start f) more more_born conflict ≡ from_place start (longer f more more_born conflict)
  from_longer more more_born conflict sizes =
      let bytes : drop start f.bytes ++ more ≡ drop start (f.bytes ++ more) = sym (drop-append-le start f.bytes more inside_at) in
      let born : drop start f.born ++ more_born ≡ drop start (f.born ++ more_born) = sym (drop-append-le start f.born more_born (omega (arith, sizes, inside_at))) in
      λ i. record { client = f.client; asset = f.asset; midstream = f.midstream; bytes = bytes i; born = born i; conflict = conflict }

  read_by : (o : Option ℕ) → IsSearchedBy p o f.bytes start → HasUnitBy p o f.bytes start → IsReadPartBy p o f (from_place start f)
  read_by None searched unit = ap (λ n. from_place n f) searched
  read_by (Some number) searched unit = (start, read_from p f.bytes start searched unit, refl)

  -- that is all that is read of it
  pub read_part : IsReadPart p f (from_place start f)
  read_part = read_by f.midstream s.searched s.unit

module _ (site : SiteValue) (f : FlowValue) (start : List RemarkValue) (admitted : ℕ) (remarks : List RemarkValue) (more more_born : List ℕ) (conflict : Option Conflict) where
  -- the bytes with some behind those with others behind them
  behind : (units : List Judged) (ending : Ending) (later later_born : List ℕ) →
      AreRead site f.client.address [] (f.bytes ++ (more ++ later)) (f.born ++ (more_born ++ later_born)) units ending →
      AreRead site f.client.address [] ((f.bytes ++ more) ++ later) ((f.born ++ more_born) ++ later_born) units ending
  behind units ending later later_born are =
      subst (λ xs. AreRead site f.client.address [] xs ((f.born ++ more_born) ++ later_born) units ending) (sym (append_assoc f.bytes more later))
      (subst (λ ys. AreRead site f.client.address [] (f.bytes ++ (more ++ later)) ys units ending) (sym (append_assoc f.born more_born later_born)) are)

  so_far_longer : (at : ℕ) (r : Reader) → length more_born ≡ length more → SoFar site f start at r admitted remarks →
      SoFar site (longer f more more_born conflict) start at r admitted remarks
  so_far_longer at r count so =
      let inside : at ≤ length f.bytes = so.inside in
      let born : at ≤ length f.born = omega (arith, inside, so.sizes) in
      record {
        units = so.units;
        leads = λ later later_born js ending are. behind (so.units ++ js) ending later later_born (so.leads (more ++ later) (more_born ++ later_born) js ending
            (subst (λ xs. AreRead site f.client.address so.units xs (drop at f.born ++ (more_born ++ later_born)) js ending)
            (ap (λ xs. xs ++ later) (drop-append-le at f.bytes more inside) ∙ append_assoc (drop at f.bytes) more later)
            (subst (λ ys. AreRead site f.client.address so.units (drop at (f.bytes ++ more) ++ later) ys js ending)
            (ap (λ ys. ys ++ later_born) (drop-append-le at f.born more_born born) ∙ append_assoc (drop at f.born) more_born later_born) are)));
        reader = so.reader;
        admitted_is = so.admitted_is;
        told = so.told;
        inside = omega (arith, inside, length-append f.bytes more);
        sizes = length-append f.born more_born ∙ ap (λ n. n + length more_born) so.sizes ∙ ap (λ n. length f.bytes + n) count ∙ sym (length-append f.bytes more);
      }

  broken_longer : HasBroken site f start admitted remarks → HasBroken site (longer f more more_born conflict) start admitted remarks
  broken_longer b = record {
    units = b.units;
    number = b.number;
    reason = b.reason;
    breaks = λ later later_born. behind b.units (Breaks b.number b.reason) later later_born (b.breaks (more ++ later) (more_born ++ later_born));
    admitted_is = b.admitted_is;
    told = b.told;
  }

staged_longer : (site : SiteValue) (h : Heard) (s : Stage) (at admitted : ℕ) (remarks : List RemarkValue) (more more_born : List ℕ) (conflict : Option Conflict) → length more_born ≡ length more →
    length h.value.born ≡ length h.value.bytes → IsStaged site h s at admitted remarks → IsStaged site (record { value = longer h.value more more_born conflict; base = h.base }) s at admitted remarks
staged_longer site h stage.Waits at admitted remarks more more_born conflict count sizes (base, searched, none, nothing) =
    (base, searched_by_longer site.first.protocol h.value.midstream h.value.bytes more at searched, none, nothing)
staged_longer site h (stage.Reads r) at admitted remarks more more_born conflict count sizes is =
    let p = site.first.protocol in
    record {
      start = is.start;
      starts = starts_longer p h.value is.start is.starts more more_born conflict;
      behind = is.behind;
      so_far = subst (λ f. SoFar site f [] (h.base + at - is.start) r admitted remarks) (from_longer p h.value is.start is.starts more more_born conflict sizes)
          (so_far_longer site (from_place is.start h.value) [] admitted remarks more more_born conflict (h.base + at - is.start) r count is.so_far);
    }
staged_longer site h stage.Broke at admitted remarks more more_born conflict count sizes is =
    let p = site.first.protocol in
    record {
      start = is.start;
      starts = starts_longer p h.value is.start is.starts more more_born conflict;
      broken = subst (λ f. HasBroken site f [] admitted remarks) (from_longer p h.value is.start is.starts more more_born conflict sizes)
          (broken_longer site (from_place is.start h.value) [] admitted remarks more more_born conflict is.broken);
    }

-- a flow that was begun is begun where it goes on
pub begun_grows : (site : SiteValue) (h now : Heard) (g : Following) (number : ℕ) → GoesOn number h now → length h.value.born ≡ length h.value.bytes → IsBegun site h g → IsBegun site now g
begun_grows site h now g number goes sizes is =
    let more = goes.grows.more in
    let records = replicate (length more) number in
    let grown : now ≡ record { value = longer h.value more records now.value.conflict; base = h.base } = λ i. record { value = is_longer number h.value now.value goes.grows i; base = goes.base i } in
    subst (λ x. IsBegun site x g) (sym grown)
    (staged_longer site h g.stage g.at g.admitted (map remark_value g.remarks.items) more records now.value.conflict (length-replicate (length more) number) sizes is)

-- a flow of which nothing was read
pub begun_first : (site : SiteValue) (h : Heard) (g : Following) → h.base ≡ 0 → g.stage ≡ stage.Waits → g.at ≡ 0 → g.admitted ≡ 0 → g.remarks.items ≡ [] → IsBegun site h g
begun_first site h g base waits at admitted none =
    subst (λ s. IsStaged site h s g.at g.admitted (map remark_value g.remarks.items)) (sym waits)
    (base, searched_by_first site.first.protocol h.value.midstream h.value.bytes g.at at, admitted, ap (map remark_value) none)
