-- Fragments whose acts were gathered.
use Rattle.std.proofs.Common.{◌≡◌, ◌≢◌, ℕ, zero, suc, Bool, true, false, if◌then◌else◌, ◌∙◌, ◌≤◌, ◌<◌, List, [], ◌∷◌, ◌++◌, length, get_or, set, drop, map, Some, Ok, Err, refl, sym, ap, subst, arith}
use Rattle.std.specs.Prelude.{Contains}
use Rattle.std.specs.List.{flat_map}
use Rattle.std.proofs.lemmas.List.Elements.{All-get_or, All-push, All-set, Contains-append_right}
use Rattle.cf_dnplink.specs.LinkFrame.{FrameValue, SpellsFrame}
use Rattle.cf_dnplink.specs.UserOctets.{user_of}
use Rattle.cf_dnpobj.proofs.Grammar.{read_is_spelled}
use Rattle.cf_dnpobj.specs.Acts.{acts}
use Rattle.cf_dnpobj.specs.Fragment.{FragmentValue, read_octets}
use Rattle.cf_dnpobj.specs.declared.FragmentRefusal.TheVariants as refusal
use Rattle.cf_dnptrans.specs.AssemblyValue.{AssemblyValue, IsAssemblyOf}
use Rattle.cf_dnptrans.specs.Passing.{completed}
use Rattle.cf_dnptrans.specs.Transport.{answer_to, last_fragment}
use Rattle.cf_dnptrans.specs.declared.SegmentAnswer.{SegmentAnswer}
use Rattle.cf_dnptrans.specs.declared.SegmentAnswer.TheVariants as answers
use Rattle.cf_lane.proofs.Units.{frames}
use Rattle.cf_lane.specs.Unit.{frame_unit}
use Rattle.cf_policy.specs.declared.Asset.{Asset}
use Rattle.cf_policy.specs.declared.Protocol.TheVariants.{Dnp3}
use Rattle.cf_view.specs.Framing.{Begins}
use Rattle.cf_view.specs.Octets.{IsOctets}
use Rattle.cf_learn.specs.Polls.{HasBehind, HasFragment, HaveFragments}
use Rattle.cf_learn.specs.Reading.{Adds, AddsSame, GathersFront, HaveSame, made_whole, new_messages}
use Rattle.cf_learn.specs.Seen.{seen_of}
use Rattle.cf_learn.specs.Shown.{Fragment, HasAct, HaveAct, is_segment, segment_of}
use Rattle.cf_learn.specs.declared.polls.Asked.{Asked}
use Rattle.cf_learn.specs.declared.seen.Seen.{Seen}
use Rattle.cf_learn.proofs.Adding.{confirmation, fragment_added, have_none, no_fragment, no_value}
use Rattle.cf_learn.proofs.Elements.{contains_map}
use Rattle.cf_learn.proofs.Fronts.{adds_behind, frame_added, takes_unit}
use Rattle.cf_learn.proofs.Polled.{known}
use Rattle.cf_learn.proofs.Same.{same_again, same_behind, same_then}

-- the octets behind the application control octet are read alike with another one that has FIR and FIN
other_control : (c d : ℕ) (behind : List ℕ) (f : FragmentValue) → 0xc0 ≤ d → read_octets (c ∷ behind) ≡ Ok f
    → read_octets (d ∷ behind) ≡ Ok (record { control = d; code = f.code; objects = f.objects })
other_control c d behind f single reads =
    let s = (read_is_spelled (c ∷ behind) f).0 reads in
    (read_is_spelled (d ∷ behind) (record { control = d; code = f.code; objects = f.objects })).1 (record {
      single = single;
      function = s.function;
      headers = s.headers;
      are = s.are;
      taken = s.taken;
      objects = s.objects;
      spelled = ap (λ (l : List ℕ). d ∷ drop 1 l) s.spelled;
    })

has_behind : (seen : List Seen) (client d : ℕ) (behind : List ℕ) → 0xc0 ≤ d → HasFragment seen client (d ∷ behind) → HasBehind seen client behind
has_behind seen client d behind single has c f act reads code here =
    has (record { control = d; code = f.code; objects = f.objects }) act (other_control c d behind f single reads) code here

-- the fragment at a place
pub fragment_at : (fragments : List Asked) (place : ℕ) (asked : Asked) (client control : ℕ) (octets behind : List ℕ) → place < length fragments → asked ≡ get_or fragments place asked
    → asked.client ≡ client → behind ≡ asked.octets.items → octets ≡ control ∷ behind → (seen : List Seen) → HaveFragments seen fragments → HasFragment seen client octets
fragment_at fragments place asked client control octets behind inside here of same is seen are =
    let all : HasBehind seen asked.client asked.octets.items =
    subst (λ a. HasBehind seen a.client a.octets.items) (sym here) (All-get_or (λ a. HasBehind seen a.client a.octets.items) fragments place asked inside are) in
    subst (HasFragment seen client) (sym is) (subst (λ k. HasFragment seen k (control ∷ behind)) of (subst (λ l. HasFragment seen asked.client (control ∷ l)) (sym same) (all control)))

-- one more at a place
pub put_fragment_at : (fragments : List Asked) (place : ℕ) (asked : Asked) (client control : ℕ) (octets behind : List ℕ) → asked.client ≡ client → asked.octets.items ≡ behind
    → octets ≡ control ∷ behind → 0xc0 ≤ control → (seen : List Seen) → HaveFragments seen fragments → HasFragment seen client octets → HaveFragments seen (set fragments place asked)
put_fragment_at fragments place asked client control octets behind of same is single seen are has =
    All-set (λ a. HasBehind seen a.client a.octets.items) fragments place asked
    (subst (λ k. HasBehind seen k asked.octets.items) (sym of) (subst (HasBehind seen client) (sym same)
    (has_behind seen client control behind single (subst (HasFragment seen client) is has)))) are

module _ (asset : Asset) (client : ℕ) (octets : List ℕ) where
  -- a fragment whose acts are there adds nothing
  pub nothing_new : (seen : List Seen) → IsOctets octets → HasFragment seen client octets → AddsSame Dnp3 client (HasAct asset (Fragment octets)) seen seen
  nothing_new seen are has = elim (read_octets octets) as (λ r. read_octets octets ≡ r → AddsSame Dnp3 client (HasAct asset (Fragment octets)) seen seen) [
    | Ok f ↦ λ reads. elim f.code as (λ n. f.code ≡ n → AddsSame Dnp3 client (HasAct asset (Fragment octets)) seen seen) [
      | zero ↦ λ none. record { all = seen; adds = confirmation asset client seen seen octets f reads none refl; same = same_again seen }
      | suc n ↦ λ some.
          let code : f.code ≢ 0 = (λ none. omega (arith, none, some)) in
          let all = seen ++ map (seen_of client) (acts f) in
          record {
            all = all;
            adds = fragment_added asset client seen all octets f are reads code refl;
            same = known seen client (acts f) (λ act here. has f act reads code here);
          }
    ] refl
    | Err e ↦ λ reads. record { all = seen; adds = no_fragment asset client seen seen octets e reads refl; same = same_again seen }
  ] refl

  module _ (old fresh new : List Seen) (a : Adds Dnp3 client (HasAct asset (Fragment octets)) [] fresh) (same : HaveSame new (old ++ fresh)) where
    -- the acts of one that came now
    pub gathered_now : AddsSame Dnp3 client (HasAct asset (Fragment octets)) old new
    gathered_now = record { all = old ++ fresh; adds = adds_behind Dnp3 client (HasAct asset (Fragment octets)) old fresh a; same = same }

    -- they are there
    pub now_there : HasFragment new client octets
    now_there f act reads code here =
        (same (seen_of client act)).1 (Contains-append_right old fresh (seen_of client act)
        (subst (λ l. Contains l (seen_of client act)) (sym a.appended) (contains_map (seen_of client) a.acts act ((a.exactly act).1 (f, reads, code, here)))))

-- a frame of which what is gathered has the same acts
pub gathers_frame : (asset : Asset) (client : ℕ) (earlier : List (List ℕ)) (told bytes : List ℕ) (old all new : List Seen) (assembly : AssemblyValue) (f : FrameValue) (used : ℕ)
    → asset.protocol ≡ Dnp3 → told ≡ bytes → Begins SpellsFrame told f used → AddsSame Dnp3 client (HaveAct asset (new_messages asset earlier (frame_unit f))) old new → HaveSame old all
    → IsAssemblyOf assembly (segment_of asset (frame_unit f) ++ earlier) → GathersFront asset client earlier bytes all new assembly (Some used)
gathers_frame asset client earlier told bytes old all new assembly f used of lent begins added same stands =
    let more = map (seen_of client) added.adds.acts in
    let behind : Adds Dnp3 client (HaveAct asset (new_messages asset earlier (frame_unit f))) all (all ++ more) =
    record { acts = added.adds.acts; appended = refl; exactly = added.adds.exactly; of_commands = added.adds.of_commands } in
    record {
      after = all ++ more;
      takes = takes_unit (frames asset.protocol of) asset client earlier told bytes all (all ++ more) assembly f used refl lent begins
          (subst (λ q. Adds q client (HaveAct asset (new_messages asset earlier (frame_unit f))) all (all ++ more)) (sym of) behind) stands;
      same = same_then new added.all (all ++ more) added.same (subst (λ l. HaveSame l (all ++ more)) (sym added.adds.appended) (same_behind old all more same));
    }

-- one more place where none stands
pub one_none : (seen : List Seen) (fragments : List Asked) (none : Asked) → none.octets.items ≡ [] → HaveFragments seen fragments → HaveFragments seen (fragments ++ none ∷ [])
one_none seen fragments none empty are =
    All-push (λ a. HasBehind seen a.client a.octets.items) fragments none are
    (subst (HasBehind seen none.client) (sym empty) (λ control f act reads code here. absurd (no_value refusal.Short f (read_octets (control ∷ [])) refl reads)))

-- a frame that makes a fragment whole
pub gathered_frame : (asset : Asset) (client : ℕ) (earlier : List (List ℕ)) (f : FrameValue) (old new : List Seen) (octets : List ℕ) → is_segment asset f ≡ true
    → answer_to earlier (user_of f.blocks) ≡ answers.Whole → last_fragment (user_of f.blocks ∷ earlier) ≡ Some octets → AddsSame Dnp3 client (HasAct asset (Fragment octets)) old new
    → AddsSame Dnp3 client (HaveAct asset (new_messages asset earlier (frame_unit f))) old new
gathered_frame asset client earlier f old new octets served whole made a =
    record { all = a.all; adds = frame_added asset client old a.all earlier f octets served whole made a.adds; same = a.same }

-- a frame that makes none
pub gathered_nothing : (asset : Asset) (client : ℕ) (earlier : List (List ℕ)) (f : FrameValue) (seen : List Seen) → new_messages asset earlier (frame_unit f) ≡ []
    → AddsSame Dnp3 client (HaveAct asset (new_messages asset earlier (frame_unit f))) seen seen
gathered_nothing asset client earlier f seen none =
    record { all = seen; adds = have_none Dnp3 asset client seen seen (new_messages asset earlier (frame_unit f)) none refl; same = same_again seen }

-- a frame that is not served, and one that leaves a fragment unfinished, bring nothing
pub not_served : (asset : Asset) (earlier : List (List ℕ)) (f : FrameValue) → is_segment asset f ≡ false → new_messages asset earlier (frame_unit f) ≡ []
not_served asset earlier f unserved = ap (λ (b : Bool). map Fragment (flat_map (made_whole earlier) (if b then user_of f.blocks ∷ [] else []))) unserved

pub not_whole : (asset : Asset) (earlier : List (List ℕ)) (f : FrameValue) (answer : SegmentAnswer) → is_segment asset f ≡ true → answer_to earlier (user_of f.blocks) ≡ answer
    → completed answer (last_fragment (user_of f.blocks ∷ earlier)) ≡ [] → new_messages asset earlier (frame_unit f) ≡ []
not_whole asset earlier f answer served answered none =
    ap (λ (b : Bool). map Fragment (flat_map (made_whole earlier) (if b then user_of f.blocks ∷ [] else []))) served
    ∙ ap (λ l. map Fragment (l ++ [])) (ap (λ a. completed a (last_fragment (user_of f.blocks ∷ earlier))) answered ∙ none)
