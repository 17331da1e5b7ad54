-- What is found of a rule, code by code and put together.
use Rattle.std.proofs.Common.{◌≡◌, ℕ, ◌+◌, ◌<◌, pos, true, List, [], ◌∷◌, ◌++◌, Option, Some, None, IfSome, All, get_or, slice_get, is_none, refl, sym, subst, ap, ◌∙◌, arith, append-nil}
use mathlib.Core.Logic.{⊎_elim}
use Rattle.std.specs.List.{list_any}
use Rattle.std.proofs.lemmas.Bool.{true≢false, and_parts, cases_lt, false_from_ne_true}
use Rattle.std.proofs.lemmas.List.Elements.{All-push}
use Rattle.std.proofs.lemmas.Option.{get_or_from_slice_get}
use Rattle.cf_view.specs.declared.base.Act.{Act}
use Rattle.cf_policy.specs.declared.policy.Protocol.{Protocol}
use Rattle.cf_policy.specs.declared.policy.Rule.{Rule}
use Rattle.cf_policy.specs.Verdict.{takes, takes_value, has_act}
use Rattle.cf_explain.specs.declared.found.What.{What}
use Rattle.cf_acts.specs.Acts.{is_of_kind}
use Rattle.cf_explain.specs.Rules.{NeverHas, NeverMeets, listed}
use Rattle.cf_acts.proofs.OfCommands.{command_acts_in}
use Rattle.cf_acts.proofs.Served.{kinds_end}

code_had : (r : Rule) (client : ℕ) (act : Act) → has_act r client act ≡ true → takes r.codes (pos act.code) ≡ true
code_had r client act has =
    let value = and_parts _ (takes_value r.values act.value) has in
    let point = and_parts _ (takes r.points (pos act.point)) value.0 in
    let client_had = and_parts (takes r.clients (pos client)) _ point.0 in
    (and_parts (takes r.codes (pos act.code)) (takes r.groups (pos act.group)) client_had.1).0

-- a rule that has no act of each of its codes has none
pub never_meets : (p : Protocol) (r : Rule) → ((code : ℕ) → code < 256 → takes r.codes (pos code) ≡ true → NeverHas p r code) → NeverMeets p r
never_meets p r each client act of = false_from_ne_true (has_act r client act) (λ has. ⊎_elim
    (λ low. true≢false (sym has ∙ each act.code low (code_had r client act has) client act refl of))
    (λ high. true≢false (sym (command_acts_in p act of) ∙ ap (list_any (is_of_kind act)) (kinds_end p act.code high)))
    (cases_lt act.code 256))

-- what is added holds as what was there
pub all_listed : (P : What → Type 0) (found : List What) (what : Option What) → All P found → IfSome what P → All P (found ++ listed what)
all_listed P found None all one = rw append-nil all
all_listed P found (Some what) all one = All-push P found what all one

pub some_weaker : {A : Type 0} (P Q : A → Type 0) (o : Option A) → ((x : A) → P x → Q x) → IfSome o P → IfSome o Q
some_weaker P Q None step h = tt
some_weaker P Q (Some x) step h = step x h

-- a rule that was read at a number is the one that stands there
pub same_rule : (rules read : List Rule) (n : ℕ) (r q : Rule) → read ≡ rules → q ≡ get_or read n q → slice_get rules n ≡ Some r → q ≡ r
same_rule rules read n r q lent is here = is ∙ (ap (λ xs. get_or xs n q) lent ∙ get_or_from_slice_get rules n r q here)

-- where nothing stands in the end, nothing stood there and nothing was added
pub none_added : (found : List What) (what : Option What) → found ++ listed what ≡ [] → (found ≡ []) × (is_none what ≡ true)
none_added [] None e = (refl, refl)
none_added [] (Some what) e = cc
none_added (f ∷ found) None e = cc
none_added (f ∷ found) (Some what) e = cc

-- what holds of all numbers below one and of that one holds of all below the next
pub one_more : (P : ℕ → Type 0) (n : ℕ) → ((k : ℕ) → k < n → P k) → P n → (k : ℕ) → k < n + 1 → P k
one_more P n below here k lt = ⊎_elim
    (λ early. below k early)
    (λ late. subst P (omega (arith, late, lt)) here)
    (cases_lt k n)
