-- Refused commands that a session has to pay for. The main definitions are `must_rest`, `debt_of` and `IsMeasured`. This project's own.
--
-- Each refused command is one more to pay for, and each second pays for 100. A session that has 100 to pay for rests until a later
-- second: it has no turn, and loses nothing, and the other sessions have theirs. A clock that goes back pays for nothing.
use Rattle.cf_lane.specs.Caller.{RateMoments}
use Rattle.cf_lane.specs.Judged.{Judged, is_admitted, is_refused}
use Rattle.cf_lane.specs.declared.fate.Fate.{Fate}
use Rattle.cf_outside.specs.Pair.{Entry}
use Rattle.cf_relay.specs.Turn.{AreItemsOf}
use Rattle.std.specs.List.{sum_by}
use Rattle.std.specs.Prelude.{Bool, List, Some, [], count_by, false, if◌then◌else◌, max, nat_le, slice_get, true, ℕ, ◌*◌, ◌++◌, ◌+◌, ◌-◌, ◌/◌}
use Rattle.std.specs.Prelude.{◌==◌, ◌∷◌, ◌≡◌}
use Rattle.cf_serve.specs.Kept.{before_in}
use Rattle.cf_serve.specs.Rounds.{TurnOf, answers_in}
use Rattle.cf_serve.specs.Session.{Listening}
use Rattle.cf_serve.specs.declared.debt.Debt.{Debt}

-- the second in which a moment lies
abbrev pub second_of : (moment : ℕ) → ℕ
second_of moment = moment / 1000000

-- the debt of a session of which nothing was refused
abbrev pub no_debt : Debt
no_debt = record { owed = 0; at = 0 }

-- the rest of a debt at a moment: 100 less for each second since
abbrev pub paid : Debt → (moment : ℕ) → ℕ
paid debt moment = debt.owed - (second_of moment - debt.at) * 100

-- a session with such a debt has no turn at a moment
abbrev pub must_rest : Debt → (moment : ℕ) → Bool
must_rest debt moment = nat_le 100 (paid debt moment)

-- the debt behind a turn in which so many commands were refused
abbrev pub debt_with : Debt → (moment refused : ℕ) → Debt
debt_with debt moment refused =
    if refused == 0 then debt else record { owed = paid debt moment + refused; at = max debt.at (second_of moment) }

-- the debt of a session behind a turn, of its own or of another
abbrev pub debt_behind : (session : ℕ) → Debt → TurnOf → Debt
debt_behind session debt t = if t.seat.session == session then debt_with debt t.moment t.refused else debt

-- the debt of a session behind turns, from what it was
abbrev pub debt_from : (session : ℕ) → Debt → List TurnOf → Debt
debt_from session debt [] = debt
debt_from session debt (t ∷ ts) = debt_from session (debt_behind session debt t) ts

-- the debt of a session behind all turns so far
abbrev pub debt_of : (session : ℕ) → List TurnOf → Debt
debt_of session past = debt_from session no_debt past

-- the commands of a session that have such a fate, by its own answers, where its client's earlier sessions used what is given as before
abbrev pub HasCounted : (is : Fate → Bool) → Listening → (before : RateMoments) → List Entry → (count : ℕ) → Type 0
HasCounted is at before es count = (js : List Judged) × (AreItemsOf at.site before es js × (count ≡ count_by (λ j. is j.fate) js))

-- those that it has more once these answers come behind the earlier ones
abbrev pub Counts : (is : Fate → Bool) → Listening → (before : RateMoments) → (earlier answers : List Entry) → (count : ℕ) → Type 0
Counts is at before earlier answers count =
    (few all : ℕ) × (HasCounted is at before earlier few × (HasCounted is at before (earlier ++ answers) all × (count ≡ all - few)))

-- the commands of a session that were refused, and those that were admitted
abbrev pub HasRefused : Listening → (before : RateMoments) → List Entry → (refused : ℕ) → Type 0
HasRefused at before es refused = HasCounted is_refused at before es refused

abbrev pub HasAdmitted : Listening → (before : RateMoments) → List Entry → (admitted : ℕ) → Type 0
HasAdmitted at before es admitted = HasCounted is_admitted at before es admitted

-- the commands that are refused, and those that are admitted, once these answers come behind the earlier ones
abbrev pub Refuses : Listening → (before : RateMoments) → (earlier answers : List Entry) → (refused : ℕ) → Type 0
Refuses at before earlier answers refused = Counts is_refused at before earlier answers refused

abbrev pub Admits : Listening → (before : RateMoments) → (earlier answers : List Entry) → (admitted : ℕ) → Type 0
Admits at before earlier answers admitted = Counts is_admitted at before earlier answers admitted

-- a turn behind others: who has too much to pay for is not ready, and what was admitted and refused is what its answers say
pub record IsMeasured (places : List Listening) (past : List TurnOf) (t : TurnOf) : Type 0 where
  pub rests : must_rest (debt_of t.seat.session past) t.moment ≡ true → t.ready ≡ false
  pub idle : t.ready ≡ false → t.refused ≡ 0
  pub refuses : (at : Listening) → slice_get places t.seat.place ≡ Some at
      → Refuses at (before_in t.seat.session (past ++ t ∷ [])) (answers_in t.seat.session past) t.answers t.refused
  pub passive : t.ready ≡ false → t.admitted ≡ 0
  pub admits : (at : Listening) → slice_get places t.seat.place ≡ Some at
      → Admits at (before_in t.seat.session (past ++ t ∷ [])) (answers_in t.seat.session past) t.answers t.admitted

-- turns one after the other, behind others
abbrev pub AreMeasured : List Listening → (past : List TurnOf) → List TurnOf → Type 0
AreMeasured places past [] = Unit {0}
AreMeasured places past (t ∷ ts) = IsMeasured places past t × AreMeasured places (past ++ t ∷ []) ts

-- the refused commands of a session in some turns
abbrev pub refused_in : (session : ℕ) → List TurnOf → ℕ
refused_in session turns = sum_by (λ (t : TurnOf). if t.seat.session == session then t.refused else 0) turns
