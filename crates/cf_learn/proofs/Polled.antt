-- Requests whose acts were gathered.
use Rattle.std.proofs.Common.{◌≡◌, ℕ, ◌<◌, List, [], ◌∷◌, ◌++◌, length, get_or, set, Some, None, Ok, map, refl, sym, subst, arith}
use mathlib.Core.Logic.{⊎_elim}
use Rattle.std.specs.Prelude.{Contains}
use Rattle.std.proofs.lemmas.List.{append-nil}
use Rattle.std.proofs.lemmas.List.Elements.{All-get_or, All-set, All-weaker, Contains-append_left, Contains-append_right, Contains-append_cases}
use Rattle.cf_dnptrans.specs.AssemblyValue.{AssemblyValue, IsAssemblyOf}
use Rattle.cf_lane.proofs.Units.{adus}
use Rattle.cf_modbus.specs.Acts.{acts}
use Rattle.cf_modbus.specs.Adu.{AduValue, SpellsAdu}
use Rattle.cf_modbus.specs.Request.{RequestValue, Reads}
use Rattle.cf_policy.specs.declared.Asset.{Asset}
use Rattle.cf_policy.specs.declared.Protocol.TheVariants.{Modbus}
use Rattle.cf_view.specs.Framing.{Begins}
use Rattle.cf_view.specs.declared.Act.{Act}
use Rattle.cf_learn.specs.Polls.{AreGathered, HasAll, HasBehind, HaveRequests}
use Rattle.cf_learn.specs.Reading.{Adds, AddsSame, GathersFront, HaveSame, TakesNone}
use Rattle.cf_learn.specs.Seen.{seen_of}
use Rattle.cf_learn.specs.Shown.{HasAct, HaveAct, Request}
use Rattle.cf_learn.specs.declared.polls.Poll.{Poll}
use Rattle.cf_learn.specs.declared.polls.Polls.{Polls}
use Rattle.cf_learn.specs.declared.seen.Seen.{Seen}
use Rattle.cf_learn.proofs.Adding.{have_one}
use Rattle.cf_learn.proofs.Elements.{contains_map, contains_mapped}
use Rattle.cf_learn.proofs.Fronts.{takes_unit}
use Rattle.cf_learn.proofs.Same.{same_behind, same_then}

-- octets that lie in one piece
pub one_piece : (first second : List ℕ) → length second ≡ 0 → first ++ second ≡ first
one_piece first [] none = append-nil first
one_piece first (x ∷ second) none = absurd (omega (arith, none))

-- the request at a place
pub at_place : (polls : List Poll) (place : ℕ) (poll : Poll) (client : ℕ) (pdu : List ℕ) → place < length polls → poll ≡ get_or polls place poll → poll.client ≡ client → pdu ≡ poll.pdu.now
    → (seen : List Seen) → HaveRequests seen polls → HasAll seen client pdu
at_place polls place poll client pdu inside here of is seen are =
    subst (λ k. HasAll seen k pdu) of (subst (HasAll seen poll.client) (sym is)
    (subst (λ p. HasAll seen p.client p.pdu.now) (sym here) (All-get_or (λ p. HasAll seen p.client p.pdu.now) polls place poll inside are)))

-- one more at a place
pub put_at : (polls : List Poll) (place : ℕ) (poll : Poll) (pdu : List ℕ) → pdu ≡ poll.pdu.now → (seen : List Seen) → HaveRequests seen polls → HasAll seen poll.client pdu
    → HaveRequests seen (set polls place poll)
put_at polls place poll pdu is seen are has = All-set (λ p. HasAll seen p.client p.pdu.now) polls place poll (subst (HasAll seen poll.client) is has) are

-- what is there stays there
pub still : (old more new : List Seen) → HaveSame new (old ++ more) → (polls : Polls) → AreGathered old polls → AreGathered new polls
still old more new same polls are = record {
  requests = All-weaker (λ poll. HasAll old poll.client poll.pdu.now) (λ poll. HasAll new poll.client poll.pdu.now)
      (λ poll has r act reads here. there (seen_of poll.client act) (has r act reads here)) polls.places.items are.requests;
  fragments = All-weaker (λ asked. HasBehind old asked.client asked.octets.items) (λ asked. HasBehind new asked.client asked.octets.items)
      (λ asked has control f act reads code here. there (seen_of asked.client act) (has control f act reads code here)) polls.fragments.items are.fragments;
}
  where
    there : (s : Seen) → Contains old s → Contains new s
    there s h = (same s).1 (Contains-append_left old more s h)

-- acts that are there come once more
pub known : (seen : List Seen) (client : ℕ) (acts : List Act) → ((act : Act) → Contains acts act → Contains seen (seen_of client act)) → HaveSame seen (seen ++ map (seen_of client) acts)
known seen client acts has s = (
  λ h. Contains-append_left seen (map (seen_of client) acts) s h,
  λ h. ⊎_elim
      (λ f. f)
      (λ l. let m = contains_mapped (seen_of client) acts s l in subst (Contains seen) m.2 (has m.0 m.1))
      (Contains-append_cases seen (map (seen_of client) acts) s h),
)

-- the acts of a request that came before come once more
pub once_more : (seen : List Seen) (client : ℕ) (pdu : List ℕ) (r : RequestValue) → HasAll seen client pdu → Reads (Ok r) pdu → HaveSame seen (seen ++ map (seen_of client) (acts r))
once_more seen client pdu r has reads = known seen client (acts r) (λ act here. has r act reads here)

-- those of one that came now are there
pub all_there : (old new : List Seen) (client : ℕ) (pdu : List ℕ) (r : RequestValue) → HaveSame new (old ++ map (seen_of client) (acts r)) → ((q : RequestValue) → Reads (Ok q) pdu → q ≡ r)
    → HasAll new client pdu
all_there old new client pdu r same one q act reads here =
    (same (seen_of client act)).1 (Contains-append_right old (map (seen_of client) (acts r)) (seen_of client act)
    (contains_map (seen_of client) (acts r) act (subst (λ x. Contains (acts x) act) (one q reads) here)))

-- an ADU of which what is gathered has the same acts
pub gathers_adu : (asset : Asset) (client : ℕ) (earlier : List (List ℕ)) (told bytes : List ℕ) (old all new : List Seen) (assembly : AssemblyValue) (a : AduValue) (used : ℕ)
    → asset.protocol ≡ Modbus → told ≡ bytes → Begins SpellsAdu told a used → AddsSame Modbus client (HasAct asset (Request a)) old new → HaveSame old all → IsAssemblyOf assembly earlier
    → GathersFront asset client earlier bytes all new assembly (Some used)
gathers_adu asset client earlier told bytes old all new assembly a used of lent begins added same is =
    let more = map (seen_of client) added.adds.acts in
    let behind : Adds Modbus client (HasAct asset (Request a)) all (all ++ more) =
    record { acts = added.adds.acts; appended = refl; exactly = added.adds.exactly; of_commands = added.adds.of_commands } in
    record {
      after = all ++ more;
      takes = takes_unit (adus asset.protocol of) asset client earlier told bytes all (all ++ more) assembly a used refl lent begins
          (subst (λ q. Adds q client (HaveAct asset (Request a ∷ [])) all (all ++ more)) (sym of)
          (have_one Modbus asset client all (all ++ more) (Request a ∷ []) (Request a) refl behind)) is;
      same = same_then new added.all (all ++ more) added.same (subst (λ l. HaveSame l (all ++ more)) (sym added.adds.appended) (same_behind old all more same));
    }

-- no whole ADU
pub gathers_none : (asset : Asset) (client : ℕ) (earlier : List (List ℕ)) (bytes : List ℕ) (all new : List Seen) (assembly : AssemblyValue) → TakesNone asset bytes all all → HaveSame new all
    → GathersFront asset client earlier bytes all new assembly None
gathers_none asset client earlier bytes all new assembly none same = record { after = all; takes = none; same = same }
