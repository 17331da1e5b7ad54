-- What a step of a lane of DNP3 leads to.
use Rattle.cf_lane.specs.declared.rules.Rules.{Rules}
use Rattle.cf_lane.proofs.Saying.{says_same}
use Rattle.cf_lane.proofs.Starting.{whole_back}
use Rattle.cf_lane.specs.Rates.{Says}
use Rattle.cf_lane.specs.Caller.{caller_at}
use Rattle.cf_lane.specs.Fate.{HasFateBy}
use Rattle.cf_lane.specs.Parts.{concerns, part}
use Rattle.cf_lane.specs.Rings.{AllGoOn, IsRulesOf, says_by}
use Rattle.cf_lane.specs.Site.{place_for}
use Rattle.cf_lane.proofs.Parting.{ended_part, get_set_is, get_set_other, inside_by, part_apart, part_mine}
use Rattle.cf_dnplink.proofs.Reading.{user_again}
use Rattle.cf_dnplink.specs.LinkFrame.{FrameValue, SpellsFrame}
use Rattle.cf_dnplink.specs.UserOctets.{user_of}
use Rattle.cf_lane.proofs.Handling.{unit_handled}
use Rattle.cf_lane.proofs.Recutting.{length-spelling}
use Rattle.cf_lane.proofs.Units.{begins_by, frames}
use Rattle.cf_lane.specs.Dnp3.{fate_of_frame, stray_of}
use Rattle.cf_lane.specs.Fragments.{MissesFrame, MissesFrameAt, TakesFrameAt, parts}
use Rattle.cf_audit.specs.declared.line.CutReason.{CutReason}
use Rattle.cf_lane.proofs.Taking.{grows_more}
use Rattle.cf_lane.specs.Handled.{FrontsOf, Grows, Handled, MissesOf, Outlets, State, judged, lane_at, letters_in, outlets, state, step_by}
use Rattle.cf_outq.specs.SendQueue.{Queue}
use Rattle.std.specs.List.{sum_by}
use Rattle.cf_lane.specs.Item.{Took, placed}
use Rattle.cf_lane.specs.Judged.{Judged, is_admitted, is_refused, one_if}
use Rattle.cf_lane.specs.Kept.{AreAllFragments, AreFragments, KnowAllFragments, KnowsFragments, KnowsWire, owed_by}
use Rattle.cf_lane.specs.Log.{item_lines, lines_by, with_lines}
use Rattle.cf_lane.specs.Unit.{Frame, frame_spelling}
use Rattle.cf_lane.specs.declared.fate.Fate.{Fate}
use Rattle.cf_lane.specs.declared.wire.Fragments.{Fragments}
use Rattle.cf_policy.specs.Site.{SiteValue, asset_of}
use Rattle.cf_policy.specs.declared.Asset.{Asset}
use Rattle.cf_view.specs.Framing.{Begins}
use Rattle.cf_view.specs.declared.Endpoint.{Endpoint}
use Rattle.cf_view.specs.declared.Side.{Side}
use Rattle.std.proofs.Common.{Bool, List, None, Option, Some, [], ap, arith, drop, false, length, nat_eq, refl, set, slice_get, subst, sym, take, true, ℕ, ◌*◌, ◌++◌, ◌+◌, ◌<◌, ◌∙◌, ◌∷◌, ◌≡◌, ◌≤◌}
use Rattle.std.proofs.lemmas.Bool.{eqb-false, eqb-true}
use Rattle.std.proofs.lemmas.List.{append-nil, length-set, length-take}
use Rattle.cf_dnplink.specs.LinkFrame as link
use Rattle.cf_policy.specs.declared.Protocol.TheVariants as protocol
use Rattle.cf_view.specs.declared.base.Framed.TheVariants as framed
use Rattle.cf_view.specs.declared.Side.TheVariants as side
use Rattle.cf_lane.specs.declared.wire.Wire.TheVariants as wire

-- the octets of the frame at the front
pub front_octets : (xs : List ℕ) (x : FrameValue) (n : ℕ) → Begins SpellsFrame xs x n → take n xs ≡ frame_spelling x
front_octets xs x n b =
    b.spells.spelled ∙ ap (λ user. frame_spelling_of x user) (sym (ap user_of b.spells.blocks ∙ user_again b.spells.user)) where
      frame_spelling_of : FrameValue → List ℕ → List ℕ
      frame_spelling_of x user = link.spelling x.control x.dest x.source user

-- fragments of each asset are such still, once those of a place have gone on
pub still_all : (place : ℕ) (all : List Fragments) (now : Fragments) → place < length all → AreAllFragments (length all) all → AreFragments now → AreAllFragments (length all) (set all place now)
still_all place all now inside are own = record {
  one_each = length-set all place now;
  each = λ k f at. by k f at (nat_eq place k) refl;
} where
  by : (k : ℕ) (f : Fragments) → slice_get (set all place now) k ≡ Some f → (b : Bool) → nat_eq place k ≡ b → AreFragments f
  by k f at true same = subst AreFragments (get_set_is all place k now f inside same at) own
  by k f at false other = are.each k f (sym (get_set_other all place k now (eqb-false place k other)) ∙ at)

-- a frame was taken at the fragments of a place but for its line
pub misses_at : (asset : Asset) (says : Says) (client : Endpoint) (moment : ℕ) (s : Side) (x : FrameValue) (place : ℕ) (before : List Fragments) (old : Outlets)
    (log : Option (List (List ℕ))) (part_ : List ℕ) (was : Fragments) → slice_get before place ≡ Some was →
    MissesFrame asset says client moment s x (parts was old.to_client old.to_controller old.lines) log part_ → MissesFrameAt asset says client moment s x place before old log part_
misses_at asset says client moment s x place before old log part_ was at m = record { was = was; at = at; misses = m }

-- fragments that were lent and gone on with are written back whole
module _ (lent items view new : List Fragments) (lent_is : lent ≡ items) (view_is : items ≡ view) (size : ℕ) (all : size ≡ length items) (long : length new ≡ length lent) where
  pub written_back : new ≡ take size (new ++ drop (length new) items)
  written_back = sym (whole_back size new items all (long ∙ ap length lent_is))

  pub are_back : (n : ℕ) → AreAllFragments n view → AreAllFragments (length lent) new → AreAllFragments n (take size (new ++ drop (length new) items))
  are_back n are own = subst (AreAllFragments n) written_back (subst (λ m. AreAllFragments m new) (ap length (lent_is ∙ view_is) ∙ are.one_each) own)

  pub grows_back : (cut : Option CutReason) → cut ≡ None → (m n : ℕ) → m ≤ n → (q r : Queue) → Grows (2 * m) (sum_by owed_by lent) (sum_by owed_by new) q r →
      Grows (2 * letters_in (step_by cut n)) (sum_by owed_by view) (sum_by owed_by (take size (new ++ drop (length new) items))) q r
  grows_back cut uncut m n most q r g =
      let letters : letters_in (step_by cut n) ≡ n = ap (λ (c : Option CutReason). letters_in (step_by c n)) uncut in
      subst (λ e. Grows (2 * letters_in (step_by cut n)) (sum_by owed_by view) e q r) (ap (sum_by owed_by) written_back)
      (subst (λ d. Grows (2 * letters_in (step_by cut n)) d (sum_by owed_by new) q r) (ap (sum_by owed_by) (lent_is ∙ view_is))
      (grows_more (2 * m) (2 * letters_in (step_by cut n)) _ _ q r (omega (arith, letters, most)) g))

pub are_lent : (lent view : List Fragments) (n : ℕ) → lent ≡ view → AreAllFragments n view → AreAllFragments (length lent) lent
are_lent lent view n is are = subst (λ xs. AreAllFragments (length xs) xs) (sym is) (subst (λ m. AreAllFragments m view) (sym are.one_each) are)

-- what is said of the fragments as they are lent and written back is said of those of the site
module _ (a b : Asset) (is : a ≡ b) (address : ℕ) (own : Rules) (client : Endpoint) (moment : ℕ) (s : Side) (x : FrameValue) (place : ℕ) (lent items view : List Fragments)
    (lent_is : lent ≡ items) (view_is : items ≡ view) (old : Outlets) where
  pub taken_back : (f : Fate) (new : List Fragments) (size : ℕ) (out : Outlets) → size ≡ length items →
      TakesFrameAt a (says_by a address own moment) client moment s x f place lent new old out →
      TakesFrameAt b (says_by b address own moment) client moment s x f place view (take size (new ++ drop (length new) items)) old out
  taken_back f new size out all t =
      let written : new ≡ take size (new ++ drop (length new) items) =
      sym (whole_back size new items all (ap length t.set_is ∙ length-set lent place t.now ∙ ap length lent_is)) in
      subst (λ ns. TakesFrameAt b (says_by b address own moment) client moment s x f place view ns old out) written
      (subst (λ bs. TakesFrameAt b (says_by b address own moment) client moment s x f place bs new old out) (lent_is ∙ view_is)
      (subst (λ (y : Asset). TakesFrameAt y (says_by y address own moment) client moment s x f place lent new old out) is t))

  pub missed_back : (log : Option (List (List ℕ))) (part_ : List ℕ) →
      MissesFrameAt a (says_by a address own moment) client moment s x place lent old log part_ → MissesFrameAt b (says_by b address own moment) client moment s x place view old log part_
  missed_back log part_ m =
      subst (λ bs. MissesFrameAt b (says_by b address own moment) client moment s x place bs old log part_) (lent_is ∙ view_is)
      (subst (λ (y : Asset). MissesFrameAt y (says_by y address own moment) client moment s x place lent old log part_) is m)

-- what is known of the fragments of each asset, once those of a place have gone on
know_all : (site : SiteValue) (place : ℕ) (before : List Fragments) (was now : Fragments) (earlier : List Judged) (j : Judged) → slice_get before place ≡ Some was →
    ((k : ℕ) → concerns site k j.item ≡ nat_eq place k) → KnowAllFragments site before earlier → KnowsFragments (asset_of site place) now (part site place earlier ++ j ∷ []) →
    KnowAllFragments site (set before place now) (earlier ++ j ∷ [])
know_all site place before was now earlier j at mine knows own k g here = by (nat_eq place k) refl where
  by : (b : Bool) → nat_eq place k ≡ b → KnowsFragments (asset_of site k) g (part site k (earlier ++ j ∷ []))
  by true is =
      let k_is : place ≡ k = eqb-true place k is in
      let own_here = subst (λ n. KnowsFragments (asset_of site n) now (part site n earlier ++ j ∷ [])) k_is own in
      subst (λ (f : Fragments). KnowsFragments (asset_of site k) f (part site k (earlier ++ j ∷ []))) (get_set_is before place k now g (inside_by before place was at) is here)
      (subst (KnowsFragments (asset_of site k) now) (sym (part_mine site k earlier j (mine k ∙ is))) own_here)
  by false is =
      subst (KnowsFragments (asset_of site k) g) (sym (part_apart site k earlier j (mine k ∙ is))) (knows k g (sym (get_set_other before place k now (eqb-false place k is)) ∙ here))

module _ (site : SiteValue) (place moment : ℕ) (s : Side) (x : FrameValue) (here : place ≡ place_for site s (Frame x)) (f : Fate) (old new : State) (before after : List Fragments)
    (was : old.lane.wire ≡ wire.Dnp3 before) (is : new.lane.wire ≡ wire.Dnp3 after) (client : new.lane.client ≡ old.lane.client)
    (admitted : new.lane.admitted ≡ old.lane.admitted + one_if (is_admitted f)) (refused : new.lane.refused ≡ old.lane.refused + one_if (is_refused f))
    (own : Rules) (at : slice_get old.lane.rules place ≡ Some own) (of : IsRulesOf (asset_of site place) old.lane.client.address own)
    (rules : AllGoOn place f moment old.lane.rules new.lane.rules)
    (t : TakesFrameAt (asset_of site place) (says_by (asset_of site place) old.lane.client.address own moment) old.lane.client moment s x f place before after
    (outlets old.to_client old.to_controller old.lines) (outlets new.to_client new.to_controller new.lines)) where
  -- one frame was handled
  pub frame_handled : Handled site (judged moment (Took s (Frame x)) f ∷ []) old new
  frame_handled = unit_handled site place moment s (Frame x) here f old new client admitted refused rules (λ past earlier uncut knows.
      (let j : Judged = judged moment (Took s (Frame x)) f in
      let mine = part site place earlier in
      let all : KnowAllFragments site before earlier = subst (λ w. KnowsWire site w earlier) was (knows.wire uncut) in
      let known : KnowsFragments (asset_of site place) t.was mine = all place t.was t.at in
      let ended = knows.client_ended ∙ sym (ended_part site place side.Controller earlier) in
      let does = t.takes.does mine known ended in
      record {
        fate = subst (λ (says : Says). f ≡ fate_of_frame (asset_of site place) says s mine x (stray_of (asset_of site place) s x))
            (says_same (asset_of site place) old.lane.client.address (past place) own mine moment of (knows.rules place own at)) does.fate;
        of_client = does.of_client;
        of_controller = does.of_controller;
        of_lines = t.takes.lines ∙ ap (with_lines old.lines) (sym (t.takes.are_more mine known ended));
        client_quiet = does.client_quiet;
        controller_quiet = does.controller_quiet;
        wire = λ _. subst (λ w. KnowsWire site w (earlier ++ judged moment (Took s (Frame x)) f ∷ [])) (sym is)
            (subst (λ fs. KnowAllFragments site fs (earlier ++ judged moment (Took s (Frame x)) f ∷ [])) (sym t.set_is)
            (know_all site place before t.was t.now earlier j t.at (λ k. ap (λ n. nat_eq n k) (sym here)) all does.fragments));
      }))

-- a frame is ten octets at least
pub some_octets : (x : FrameValue) (xs : List ℕ) (n : ℕ) → Begins SpellsFrame xs x n → 10 ≤ n
some_octets x xs n b =
    omega (arith, ap length (front_octets xs x n b), length-take n xs, length-spelling x.control x.dest x.source (user_of x.blocks))

module _ (site : SiteValue) (dnp3 : site.first.protocol ≡ protocol.Dnp3) (client : Endpoint) (rules : List Rules) (place : ℕ) (own : Rules) (at : slice_get rules place ≡ Some own)
    (of : IsRulesOf (asset_of site place) client.address own) (moment : ℕ) (s : Side)
    (bytes : List ℕ) (x : FrameValue) (here : place ≡ place_for site s (Frame x)) (n : ℕ) (b : Begins SpellsFrame bytes x n) (before : List Fragments) (old : Outlets) where
  -- a frame that was taken stands at the front
  abbrev pub frame_front : (f : Fate) (after : List Fragments) (new : Outlets) →
      TakesFrameAt (asset_of site place) (says_by (asset_of site place) client.address own moment) client moment s x f place before after old new →
      FrontsOf site client rules moment s bytes (wire.Dnp3 before) (wire.Dnp3 after) old new (framed.Unit (record { place = place; fate = f }) n)
  frame_front f after new takes admitted refused = record {
    unit = Frame x;
    begins = begins_by (frames site.first.protocol dnp3) bytes x n b;
    some_bytes = omega (arith, some_octets x bytes n b);
    cuts = λ reason e. cc (takes.takes.uncut, e);
    handled = λ lane counts.
        frame_handled site place moment s x here f (lane_at client rules (wire.Dnp3 before) admitted refused old) (state lane new.to_client new.to_controller new.lines)
        before after refl counts.wire counts.client counts.admitted counts.refused own at of counts.rules takes;
  }

  -- one whose line failed
  pub frame_misses : (log : Option (List (List ℕ))) (part_ : List ℕ) →
      MissesFrameAt (asset_of site place) (says_by (asset_of site place) client.address own moment) client moment s x place before old log part_ →
      MissesOf site client rules moment s bytes (wire.Dnp3 before) old log part_
  frame_misses log part_ failed admitted refused =
      let m = failed.misses in record {
        used = n;
        unit = Frame x;
        begins = begins_by (frames site.first.protocol dnp3) bytes x n b;
        fate = m.fate;
        uncut = m.takes.uncut;
        has = λ past earlier uncut knows.
            (let mine = part site place earlier in
            subst (λ k. HasFateBy site k (caller_at client.address past) earlier (placed moment (Took s (Frame x))) m.fate) here
            (subst (λ (y : Says). m.fate ≡ fate_of_frame (asset_of site place) y s mine x (stray_of (asset_of site place) s x))
            (says_same (asset_of site place) client.address (past place) own mine moment of (knows.rules place own at))
            (m.takes.does mine (knows.wire uncut place failed.was failed.at) (knows.client_ended ∙ sym (ended_part site place side.Controller earlier))).fate));
        more = m.takes.more;
        are_more = λ past earlier uncut knows.
            (let j : Judged = judged moment (Took s (Frame x)) m.fate in
            append-nil (item_lines site client earlier j (Took s (Frame x)))
            ∙ ap (λ k. lines_by site k client earlier (judged moment (Took s (Frame x)) m.fate) s (Frame x)) (sym here)
            ∙ m.takes.are_more (part site place earlier) (knows.wire uncut place failed.was failed.at) (knows.client_ended ∙ sym (ended_part site place side.Controller earlier)));
        line = m.line;
      }
