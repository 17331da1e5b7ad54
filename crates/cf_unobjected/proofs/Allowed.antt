-- A capture to which a judge objects nowhere has flows of one stream each, which decodes to what is let through.
use Rattle.std.proofs.Common.{◌≡◌, ◌∙◌, length, ℕ, zero, suc, List, [], ◌∷◌, ◌++◌, map, slice_get, Option, None, Some, refl, sym, ap, subst}
use Rattle.cf_unobjected.proofs.Common.{AllByRecursion, AreFlowsOf, AreRead, AreReadBy, Asset, Endpoint, FlowValue, HasConflict, HasLetter, IsFlowOf, IsReadBy, Letter, Reading, SiteValue, Stream, Watched, letter_at, letter_count, map-append, none-some, objection_in, part_of, same_Some, site_from, watched}
use Rattle.cf_session.specs.Laws.{Part}
use Rattle.cf_stream.specs.FirstCopy.{IsTaken}
use Rattle.cf_stream.specs.Stream.{letters}
use Rattle.cf_unobjected.specs.Allowed.{DecodesToAllowed, GoesOnAs, IsPutTogether, UnobjectedAreAllowed}
use Rattle.cf_unobjected.proofs.Copies.{is_front, taken_is_put}
use Rattle.cf_unobjected.proofs.GoingOn.{go_on}
use Rattle.cf_unobjected.proofs.LetThrough.{decodes_to_allowed}
use Rattle.cf_unobjected.proofs.Nothing.{clean, no_conflict, nothing_to}

-- ---- what is put together of a flow at an earlier record is put together of it later

more_letters : (parts newer : List Part) (p : ℕ) (l : Letter) → HasLetter parts p l → HasLetter (newer ++ parts) p l
more_letters parts [] p l h = h
more_letters parts (q ∷ newer) p l h =
    let m = more_letters parts newer p l h in
    record { index = suc m.index; part = m.part; is = m.is; has = m.has }

put_together_on : (before after : Watched) (taken : List Letter) → GoesOnAs before after → IsPutTogether before taken → IsPutTogether after taken
put_together_on before after taken g re =
    let parts : map part_of after.carried ≡ map part_of g.more ++ map part_of before.carried = ap (map part_of) g.carried ∙ map-append part_of g.more before.carried in
    record {
      each = λ p l e. subst (λ ps. HasLetter ps p l) (sym parts) (more_letters (map part_of before.carried) (map part_of g.more) p l (re.each p l e));
      end = re.end;
    }

-- ---- a flow and its reading

-- a flow has no conflict, and its bytes decode to what is let through
record IsFine (assets : List Asset) (w : Watched) : Type 0 where
  flow : FlowValue
  of : IsFlowOf w flow
  none : HasConflict w.carried None
  site : SiteValue
  here : site_from assets w.asset ≡ Some site
  decodes : DecodesToAllowed site w.client.address flow.bytes

module _ (assets : List Asset) where
  fine : (w : Watched) (r : Reading) → IsFlowOf w r.flow → IsReadBy (site_from assets r.flow.asset) r → objection_in (site_from assets r.flow.asset) r ≡ None → IsFine assets w
  fine w r of read none = by (site_from assets r.flow.asset) refl read none where
    by : (o : Option SiteValue) → site_from assets r.flow.asset ≡ o → IsReadBy o r → objection_in o r ≡ None → IsFine assets w
    by None is are e = absurd are
    by (Some site) is are e =
        let nothing = no_conflict site r.flow r.judged r.ending e in
        let c = clean site r.judged r.ending nothing.1 in
        let whole = subst (AreRead site r.flow.client.address [] r.flow.bytes r.flow.born r.judged) c.whole are in
        record {
          flow = r.flow;
          of = of;
          none = subst (HasConflict w.carried) nothing.0 of.conflict;
          site = site;
          here = ap (site_from assets) (sym of.asset) ∙ is;
          decodes = subst (λ (e : Endpoint). DecodesToAllowed site e.address r.flow.bytes) of.client
              (decodes_to_allowed site r.flow.client.address r.flow.bytes r.flow.born r.judged whole c.fine);
        }

  all_fine : (ws : List Watched) (rs : List Reading) → AreFlowsOf ws (map (λ r. r.flow) rs) → AreReadBy assets rs → AllByRecursion (λ r. objection_in (site_from assets r.flow.asset) r ≡ None) rs →
      (place : ℕ) (w : Watched) → slice_get ws place ≡ Some w → IsFine assets w
  all_fine [] rs of read none place w e = absurd (none-some w e)
  all_fine (v ∷ ws) [] of read none place w e = absurd of
  all_fine (v ∷ ws) (r ∷ rs) of read none zero w e = subst (IsFine assets) (same_Some v w e) (fine v r of.0 read.0 none.0)
  all_fine (v ∷ ws) (r ∷ rs) of read none (suc place) w e = all_fine ws rs of.1 read.1 none.1 place w e

pub allowed :
    ((s : Stream) (p : ℕ) → slice_get (letters s) p ≡ letter_at s p) → ((s : Stream) → length (letters s) ≡ letter_count s) →
    ((copy : ℕ → Option Letter) (s : Stream) (p : ℕ) (l : Letter) → IsTaken copy s → letter_at s p ≡ Some l → copy p ≡ Some l) → UnobjectedAreAllowed
allowed in_order size copies assets newest j is none place w e =
    let of = subst (AreFlowsOf (watched assets newest)) (sym is.judges.of_flows) is.are_flows in
    let nothing = nothing_to assets None is.judges.readings (sym is.judges.objection ∙ none) in
    let f = all_fine assets (watched assets newest) is.judges.readings of is.judges.are_read nothing.1 place w e in
    let whole : Stream = record { bytes = f.flow.bytes; ended = f.of.bytes.0 } in
    record {
      whole = whole;
      is_put = taken_is_put in_order size copies w.carried whole f.of.bytes.1;
      makes = record {
        each = λ newer older before taken split at put.
            let after = go_on assets newer older place before at in
            let same : after.0 ≡ w = same_Some after.0 w (sym after.1 ∙ ap (λ rs. slice_get (watched assets rs) place) (sym split) ∙ e) in
            is_front in_order w.carried f.none whole f.of.bytes.1 taken (subst (λ v. IsPutTogether v taken) same (put_together_on before after.0 taken after.2 put));
      };
      site = f.site;
      here = f.here;
      decodes = f.decodes;
    }
