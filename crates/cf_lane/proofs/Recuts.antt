-- Laws of histories that are cut in another way.
-- items of a history and then of what follows it
use Rattle.cf_lane.specs.Caller.{caller_at}
use Rattle.cf_audit.specs.declared.line.CutReason.{CutReason}
use Rattle.cf_lane.proofs.Growth.{items_split}
use Rattle.cf_lane.proofs.Histories.{bytes_of-append}
use Rattle.cf_lane.proofs.Judgements.{one_units, pieces_join, same_bytes, same_earlier}
use Rattle.cf_lane.proofs.Units.{free_unit}
use Rattle.cf_lane.specs.Follows.{AreJudged, AreRests, IsRest, Rests}
use Rattle.cf_lane.specs.History.{Element, bytes_at, bytes_in, bytes_of, end_at, is_side, letters_at}
use Rattle.cf_lane.specs.Item.{AreItems, Completes, Placed, Took, last_after, placed}
use Rattle.cf_lane.specs.Laws.{EndJoins, JudgedJoin, NothingTaken}
use Rattle.cf_lane.specs.Unit.{AreUnits, Left, SpellsUnit, Tail, Wrong}
use Rattle.cf_policy.specs.declared.Protocol.{Protocol}
use Rattle.cf_view.specs.Framing.{IsPrefixFree}
use Rattle.cf_view.specs.declared.Side.{Side}
use Rattle.std.proofs.Common.{List, None, Option, Some, [], ap, append_assoc, false, map, refl, subst, sym, true, ℕ, ◌++◌, ◌∙◌, ◌∷◌, ◌≡◌}
use Rattle.std.proofs.lemmas.Bool.{cond_both}
use Rattle.std.proofs.lemmas.List.{append-nil, append_cancel_left}
use Rattle.cf_view.specs.declared.Side.TheVariants as side

items_both : (p : Protocol) (earlier h more : List Element) (is ks : List Placed) → AreItems p earlier h is → AreItems p (earlier ++ h) more ks → AreItems p earlier (h ++ more) (is ++ ks)
items_both p earlier [] more is ks a b =
    subst (λ (zs : List Placed). AreItems p earlier more (zs ++ ks)) (sym a) (subst (λ (x : List Element). AreItems p x more ks) (append-nil earlier) b)
items_both p earlier (e ∷ h) more is ks a b =
    let next = items_both p (earlier ++ e ∷ []) h more a.1 ks a.3 (subst (λ (x : List Element). AreItems p x more ks) (sym (append_assoc earlier (e ∷ []) h)) b) in
    (a.0, a.1 ++ ks, a.2, next, ap (λ zs. zs ++ ks) a.4 ∙ append_assoc a.0 a.1 ks)

pub judged_join : JudgedJoin
judged_join site client earlier later m s xs ys ended js a =
    let p = site.first.protocol in
    let split = items_split p [] earlier (bytes_at m s xs ∷ letters_at m s ys ended ∷ later) a.items a.are_items in
    let joined = pieces_join p earlier later m s xs ys ended split.1 split.3 in
    let whole = items_both p [] earlier (letters_at m s (xs ++ ys) ended ∷ later) split.0 split.1 split.2 joined in
    record {
      items = a.items;
      are_items = subst (λ zs. AreItems p [] (earlier ++ letters_at m s (xs ++ ys) ended ∷ later) zs) (sym split.4) whole;
      dropped = a.dropped;
      are_first = a.are_first;
      goes_on = a.goes_on;
      fates = a.fates;
    }

nothing_last : (was : Tail) (s : Side) → last_after was s false was ≡ []
nothing_last (Left r) s = refl
nothing_last (Wrong b) s = refl

none_in : (t s : Side) (m : ℕ) → bytes_in t (bytes_at m s []) ≡ []
none_in t s m = cond_both (is_side t s) [] [] (λ xs. xs ≡ []) (λ _. refl) (λ _. refl)

-- an element without letters completes nothing
nothing_completes : (p : Protocol) → IsPrefixFree (SpellsUnit p) → (earlier : List Element) (m : ℕ) (s : Side) (now : List Placed) → Completes p earlier (bytes_at m s []) now → now ≡ []
nothing_completes p free earlier m s now c =
    let same = bytes_of-append s earlier (bytes_at m s []) ∙ ap (λ xs. bytes_of s earlier ++ xs) (none_in s s m) ∙ append-nil (bytes_of s earlier) in
    let both = one_units p free c.before (c.before ++ c.more) (bytes_of s earlier) c.was c.tail c.were (subst (λ xs. AreUnits p xs (c.before ++ c.more) c.tail) same c.are) in
    let more : c.more ≡ [] = append_cancel_left c.before c.more [] (sym both.0 ∙ sym (append-nil c.before)) in
    c.is_items ∙ ap (λ us. map (placed m) (map (Took s) us ++ last_after c.was s false c.tail)) more
    ∙ ap (λ t. map (placed m) (last_after c.was s false t)) (sym both.1) ∙ ap (map (placed m)) (nothing_last c.was s)

pub nothing_taken : NothingTaken
nothing_taken site client earlier later m s js a =
    let free = free_unit site.first.protocol in
    let p = site.first.protocol in
    let split = items_split p [] earlier (bytes_at m s [] ∷ later) a.items a.are_items in
    let rest = split.3 in
    let none = nothing_completes p free earlier m s rest.0 rest.2 in
    let bytes : (t : Side) → bytes_of t (earlier ++ bytes_at m s [] ∷ []) ≡ bytes_of t earlier =
    λ t. bytes_of-append t earlier (bytes_at m s []) ∙ ap (λ xs. bytes_of t earlier ++ xs) (none_in t s m) ∙ append-nil (bytes_of t earlier) in
    let next = same_earlier p free (earlier ++ bytes_at m s [] ∷ []) earlier later rest.1 bytes rest.3 in
    let all = split.4 ∙ ap (λ zs. split.0 ++ zs) (rest.4 ∙ ap (λ zs. zs ++ rest.1) none) in
    record {
      items = a.items;
      are_items = subst (λ zs. AreItems p [] (earlier ++ later) zs) (sym all) (items_both p [] earlier later split.0 rest.1 split.2 next);
      dropped = a.dropped;
      are_first = a.are_first;
      goes_on = a.goes_on;
      fates = a.fates;
    }

rests_same : (p : Protocol) (h k : List Element) (rests : Rests) (c : Option CutReason) → ((t : Side) → bytes_of t h ≡ bytes_of t k) → AreRests p h rests c → AreRests p k rests c
rests_same p h k rests None same a =
    (subst (λ xs. IsRest p xs rests.client) (same side.Client) a.0, subst (λ xs. IsRest p xs rests.controller) (same side.Controller) a.1)
rests_same p h k rests (Some r) same a = tt

pub end_joins : EndJoins
end_joins site past h rests cut first now m s piece f =
    let free = free_unit site.first.protocol in
    let whole : List ℕ → List Element = λ xs. h ++ letters_at m s xs true ∷ [] in
    let parts = subst (λ (x : List Element). AreJudged site (caller_at now.lane.client.address past) x f.judged) (append_assoc h (bytes_at m s piece ∷ []) (end_at m s ∷ [])) f.are_judged in
    let joined = judged_join site (caller_at now.lane.client.address past) h [] m s piece [] true f.judged parts in
    let bytes = λ (t : Side). same_bytes site.first.protocol free h m s piece [] true t in
    record {
      judged = f.judged;
      are_judged = subst (λ xs. AreJudged site (caller_at now.lane.client.address past) (whole xs) f.judged) (append-nil piece) joined;
      is_cut = f.is_cut;
      are_rests = subst (λ xs. AreRests site.first.protocol (whole xs) rests cut) (append-nil piece)
          (rests_same site.first.protocol ((h ++ bytes_at m s piece ∷ []) ++ end_at m s ∷ []) (whole (piece ++ [])) rests cut bytes f.are_rests);
      knows = f.knows;
      client_stream = f.client_stream;
      controller_stream = f.controller_stream;
      of_lines = f.of_lines;
    }
