-- What flows show of an asset, flow by flow.
use Rattle.std.proofs.Common.{◌≡◌, ℕ, ◌+◌, ◌^◌, ◌<◌, ◌⊎◌, inl, inr, List, [], ◌∷◌, ◌++◌, map, take, length, get_or, sym, ap, subst, ◌∙◌}
use mathlib.Core.Logic.{⊎_elim}
use Rattle.std.specs.Prelude.{Contains}
use Rattle.std.proofs.lemmas.List.{map-append, take_more}
use Rattle.std.proofs.lemmas.List.Elements.{Contains-append_left, Contains-append_right, Contains-append_cases}
use Rattle.cf_policy.specs.declared.Asset.{Asset}
use Rattle.cf_view.specs.declared.Act.{Act}
use Rattle.cf_watch.specs.FlowValue.{FlowValue, flow_value}
use Rattle.cf_watch.specs.declared.Flow.{Flow}
use Rattle.cf_learn.specs.Assets.{AreSeen}
use Rattle.cf_learn.specs.Reading.{Adds, AddsSame, HaveSame}
use Rattle.cf_learn.specs.Seen.{act_of, seen_of}
use Rattle.cf_learn.specs.Shown.{IsSeen, IsShown}
use Rattle.cf_learn.specs.declared.seen.Seen.{Seen}
use Rattle.cf_learn.proofs.Elements.{contains_map, contains_mapped, first, nothing, only}

module _ (asset : Asset) (place : ℕ) where
  pub seen_first : AreSeen asset place [] []
  seen_first = record {
    exactly = λ client act. (λ h. absurd (nothing (seen_of client act) h), λ s. absurd (nothing s.flow s.here));
    of_commands = λ client act h. absurd (nothing (seen_of client act) h);
    clients = λ client act h. absurd (nothing (seen_of client act) h);
  }

  module _ (flows : List FlowValue) (f : FlowValue) (client : ℕ) (act : Act) where
    -- what a flow more shows
    earlier_flow : IsSeen asset place flows client act → IsSeen asset place (flows ++ f ∷ []) client act
    earlier_flow s = record { flow = s.flow; here = Contains-append_left flows (f ∷ []) s.flow s.here; to_site = s.to_site; of_client = s.of_client; shown = s.shown }

    this_flow : f.asset ≡ place → f.client.address ≡ client → IsShown asset f.bytes act → IsSeen asset place (flows ++ f ∷ []) client act
    this_flow to of shown = record { flow = f; here = Contains-append_right flows (f ∷ []) f (first f []); to_site = to; of_client = of; shown = shown }

    either_flow : IsSeen asset place (flows ++ f ∷ []) client act → IsSeen asset place flows client act ⊎ ((f.asset ≡ place) × (f.client.address ≡ client) × IsShown asset f.bytes act)
    either_flow s = ⊎_elim
        (λ early. inl (record { flow = s.flow; here = early; to_site = s.to_site; of_client = s.of_client; shown = s.shown }))
        (λ late. let is = only f s.flow late in
        inr (ap (λ g. g.asset) is ∙ s.to_site, ap (λ g. g.client.address) is ∙ s.of_client, subst (λ g. IsShown asset g.bytes act) (sym is) s.shown))
        (Contains-append_cases flows (f ∷ []) s.flow s.here)

  pub seen_other : (flows : List FlowValue) (f : FlowValue) (seen : List Seen) → (f.asset ≡ place → ⊥) → AreSeen asset place flows seen → AreSeen asset place (flows ++ f ∷ []) seen
  seen_other flows f seen other are = record {
    exactly = λ client act. (
      λ h. earlier_flow flows f client act ((are.exactly client act).0 h),
      λ s. ⊎_elim (λ early. (are.exactly client act).1 early) (λ late. absurd (other late.0)) (either_flow flows f client act s),
    );
    of_commands = are.of_commands;
    clients = are.clients;
  }

  module _ (flows : List FlowValue) (f : FlowValue) (old new : List Seen) (to : f.asset ≡ place) (small : f.client.address < 2 ^ 32)
      (a : Adds asset.protocol f.client.address (IsShown asset f.bytes) old new) (are : AreSeen asset place flows old) where
    abbrev added : List Seen
    added = map (seen_of f.client.address) a.acts

    -- what is added is of this client
    is_added : (client : ℕ) (act : Act) → Contains added (seen_of client act) → (f.client.address ≡ client) × Contains a.acts act
    is_added client act h =
        let m = contains_mapped (seen_of f.client.address) a.acts (seen_of client act) h in
        (ap (λ s. s.kind.client) m.2, subst (Contains a.acts) (ap act_of m.2) m.1)

    split : (client : ℕ) (act : Act) → Contains new (seen_of client act) → Contains old (seen_of client act) ⊎ ((f.client.address ≡ client) × Contains a.acts act)
    split client act h = ⊎_elim
        (λ early. inl early)
        (λ late. inr (is_added client act late))
        (Contains-append_cases old added (seen_of client act) (subst (λ l. Contains l (seen_of client act)) a.appended h))

    pub seen_more : AreSeen asset place (flows ++ f ∷ []) new
    seen_more = record {
      exactly = λ client act. (
        λ h. ⊎_elim
            (λ early. earlier_flow flows f client act ((are.exactly client act).0 early))
            (λ late. this_flow flows f client act to late.0 ((a.exactly act).0 late.1))
            (split client act h),
        λ s. subst (λ l. Contains l (seen_of client act)) (sym a.appended) (⊎_elim
            (λ early. Contains-append_left old added (seen_of client act) ((are.exactly client act).1 early))
            (λ late. Contains-append_right old added (seen_of client act)
            (subst (λ c. Contains added (seen_of c act)) late.1 (contains_map (seen_of f.client.address) a.acts act ((a.exactly act).1 late.2))))
            (either_flow flows f client act s)),
      );
      of_commands = λ client act h. ⊎_elim (λ early. are.of_commands client act early) (λ late. a.of_commands act late.1) (split client act h);
      clients = λ client act h. ⊎_elim (λ early. are.clients client act early) (λ late. subst (λ c. c < 2 ^ 32) late.0 small) (split client act h);
    }

-- the same acts were seen
pub seen_same : (asset : Asset) (place : ℕ) (flows : List FlowValue) (seen all : List Seen) → HaveSame seen all → AreSeen asset place flows all → AreSeen asset place flows seen
seen_same asset place flows seen all same are = record {
  exactly = λ client act. (
    λ h. (are.exactly client act).0 ((same (seen_of client act)).0 h),
    λ s. (same (seen_of client act)).1 ((are.exactly client act).1 s),
  );
  of_commands = λ client act h. are.of_commands client act ((same (seen_of client act)).0 h);
  clients = λ client act h. are.clients client act ((same (seen_of client act)).0 h);
}

-- a flow more, of which what is there is not kept again
pub seen_gathered : (asset : Asset) (place : ℕ) (flows : List FlowValue) (f : FlowValue) (old new : List Seen) → f.asset ≡ place → f.client.address < 2 ^ 32
    → AddsSame asset.protocol f.client.address (IsShown asset f.bytes) old new → AreSeen asset place flows old → AreSeen asset place (flows ++ f ∷ []) new
seen_gathered asset place flows f old new to small a are =
    seen_same asset place (flows ++ f ∷ []) new a.all a.same (seen_more asset place flows f old a.all to small a.adds are)

-- the flows up to the next place
pub flows_more : (flows : List Flow) (i : ℕ) (d : Flow) → i < length flows → map flow_value (take (i + 1) flows) ≡ map flow_value (take i flows) ++ flow_value (get_or flows i d) ∷ []
flows_more flows i d lt = ap (map flow_value) (take_more flows i d lt) ∙ map-append flow_value (take i flows) (get_or flows i d ∷ [])

pub flows_next : (flows : List Flow) (i : ℕ) (f : Flow) → i < length flows → f ≡ get_or flows i f → map flow_value (take (i + 1) flows) ≡ map flow_value (take i flows) ++ flow_value f ∷ []
flows_next flows i f lt is = flows_more flows i f lt ∙ ap (λ g. map flow_value (take i flows) ++ flow_value g ∷ []) (sym is)
