-- Any beginning of the stream to a controller, read by a judge.
use Rattle.std.proofs.Common.{◌≡◌, ◌∙◌, ◌++◌, ℕ, List, [], None, refl, sym, ap, subst, replicate}
use Rattle.cf_unobjected.proofs.Common.{AllByRecursion, IsRightlyPassed, Passed, SiteValue, all_both, all_front, flat_map, user_of}
use Rattle.cf_decode.specs.Laws.{DecodesTo}
use Rattle.cf_decode.specs.Received.{segments_in}
use Rattle.cf_decode.specs.Units.{Addresses, units_from}
use Rattle.cf_dnplink.specs.LinkFrame.{blocks_of}
use Rattle.cf_dnptrans.specs.Passing.{IsSent, PutTogether, all_segments, answers_for}
use Rattle.cf_dnptrans.specs.Transport.{unfinished}
use Rattle.cf_unobjected.specs.Unobjected.{IsUnobjected}
use Rattle.cf_unobjected.proofs.Dnp3.{IsRightFragment, IsServed, IsTaken, Made, Taken, fine, fragments_to, more_taken, right_fragments, segments_append, sent_fragments, unit_segments, units_served, whole_taken}
use Rattle.cf_unobjected.proofs.Unobjected.{reads}
use Rattle.cf_dnptrans.specs.declared.assembly.SegmentAnswer.TheVariants as answers

abbrev PutsTogether : Type 0
PutsTogether =
    (earlier : List (List ℕ)) (start : ℕ) (fragments segments more : List (List ℕ)) → unfinished earlier ≡ None → AllByRecursion IsSent fragments →
    all_segments start fragments ≡ segments ++ more → PutTogether earlier start fragments segments

module _ (puts : PutsTogether) (back : (user : List ℕ) → user_of (blocks_of user) ≡ user) (site : SiteValue) (client : ℕ) (ps : List Passed) (bytes born : List ℕ)
    (h : AllByRecursion (IsRightlyPassed site client) ps) (d : DecodesTo site.first.protocol (units_from [] ps) bytes) where
  served : AllByRecursion (IsServed site client back) d.units
  served = all_front (IsServed site client back) d.units d.following (subst (AllByRecursion (IsServed site client back)) d.are_first (units_served site client back [] ps h))

  -- between two addresses
  module _ (to : Addresses) where
    right : AllByRecursion (IsRightFragment site client back to) (fragments_to to ps)
    right = right_fragments site client back to ps h

    parts : all_segments 0 (fragments_to to ps) ≡ segments_in to d.units ++ segments_in to d.following
    parts = sym (unit_segments site client back to [] ps h) ∙ ap (segments_in to) d.are_first ∙ segments_append to d.units d.following

    put : PutTogether [] 0 (fragments_to to ps) (segments_in to d.units)
    put = puts [] 0 (fragments_to to ps) (segments_in to d.units) (segments_in to d.following) refl (sent_fragments site client back to (fragments_to to ps) right) parts

  taken : Taken site client back [] d.units
  taken to own =
      let p = put to in
      subst (AllByRecursion IsTaken) (sym p.answered) (all_both IsTaken (flat_map answers_for p.whole) (replicate p.count answers.More) (whole_taken p.whole) (more_taken p.count))

  made : Made site client back [] d.units
  made to own =
      let p = put to in
      subst (AllByRecursion (IsRightFragment site client back to)) (sym p.makes)
      (all_front (IsRightFragment site client back to) p.whole p.later (subst (AllByRecursion (IsRightFragment site client back to)) p.first (right to)))

  pub unobjected : IsUnobjected site client bytes born
  unobjected =
      let r = reads site client [] d.units bytes born d.rest (fine site client back d.units [] served taken made) d.are_units.starts d.are_units.partial in
      record { judged = r.judged; are_read = r.are_read; nothing_wrong = r.nothing }
