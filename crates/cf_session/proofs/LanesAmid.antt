-- Letters that were handed to the lane, where the desk failed amid their lines.
use Rattle.cf_lane.specs.Caller.{Caller, newcomer, none_before}
use Rattle.std.proofs.Common.{◌≡◌, ℕ, Bool, true, false, cond, List, [], ◌∷◌, ◌++◌, length, take, drop, Some, refl, sym, ap, ◌∙◌, subst, append_assoc, inr, take-append-drop}
use Rattle.std.specs.List.{concat}
use Rattle.std.proofs.lemmas.List.{append-nil}
use Rattle.std.proofs.lemmas.List.Folds.{concat-append}
use Rattle.std.proofs.lemmas.Option.{same_Some}
use Rattle.cf_lane.specs.Follows.{AreJudged, Began, BeganWithin}
use Rattle.cf_lane.specs.History.{Element, bytes_at, end_at, letters_at}
use Rattle.cf_lane.specs.Judged.{Judged}
use Rattle.cf_lane.specs.Laws.{JudgedJoin, JudgementsGoOn, NothingTaken, StreamsGoOn}
use Rattle.cf_lane.specs.Log.{lines, with_lines}
use Rattle.cf_outside.specs.Desk.{DeskValue}
use Rattle.cf_policy.specs.Site.{SiteValue}
use Rattle.cf_stream.specs.Stream.{Stream}
use Rattle.cf_view.proofs.OctetLists.{IsOctets-drop}
use Rattle.cf_view.specs.Octets.{IsOctets}
use Rattle.cf_view.specs.declared.Endpoint.{Endpoint}
use Rattle.cf_view.specs.declared.Side.{Side}
use Rattle.std.proofs.Math.Seq.{drop-append_seam}
use Rattle.cf_session.proofs.Amid.{amid_after, amid_put, part_longer}
use Rattle.cf_session.proofs.Fed.{some_letters}
use Rattle.cf_outside.specs.Frames.{EmitsAndLogs}
use Rattle.cf_session.specs.Broken.{IsPartOf}
use Rattle.cf_session.specs.Told.{told, with_both}
use Rattle.cf_session.specs.Turn.{FollowsAmid}
use Rattle.cf_session.specs.Work.{Work, fed_at, work_by}

-- the octets after others
octets_behind : (xs ys : List ℕ) → IsOctets (xs ++ ys) → IsOctets ys
octets_behind xs ys o = subst IsOctets (drop-append_seam xs ys) (IsOctets-drop (xs ++ ys) (length xs) o)

-- the lines of a history up to a fault, and a part of what follows, are a beginning of the lines of the history as it goes on
module _ (site : SiteValue) (client : Endpoint) (now : ℕ) (s : Side) (h : List Element) (w : Work) (letters : Stream) (d0 d1 : DeskValue) (more : List (List ℕ))
    (packets : d1.packets ≡ d0.packets) (packet_part : d1.packet_part ≡ d0.packet_part) (added : d1.lines ≡ with_lines d0.lines more)
    (js : List Judged) (count some : ℕ) (of_lines : Some (w.log ++ more) ≡ with_lines (Some []) (take count (lines site client [] js)))
    (of_part : d1.line_part ≡ take some (concat (drop count (lines site client [] js)))) where
  amid_work : (ks : List Judged) (behind : List (List ℕ)) → AreJudged site (newcomer client.address) (h ++ fed_at now s letters) ks → lines site client [] ks ≡ lines site client [] js ++ behind →
      FollowsAmid site client now s h w letters d0 d1
  amid_work ks behind are goes =
      let all = lines site client [] js in
      let missing = drop count all in
      let split : all ≡ (w.log ++ more) ++ missing = sym (take-append-drop count all) ∙ ap (λ xs. xs ++ missing) (sym (same_Some _ _ of_lines)) in
      record {
        work = work_by site client ks;
        works = record { judged = ks; are_judged = are; is_work = refl };
        lines = more ++ (missing ++ behind);
        log_is = goes ∙ ap (λ xs. xs ++ behind) split ∙ append_assoc (w.log ++ more) missing behind ∙ append_assoc w.log more (missing ++ behind);
        amid = amid_put more (missing ++ behind) d0 d1 refl packets packet_part added
            (subst (λ xs. IsPartOf xs d0.line_part d1.line_part) (sym (concat-append missing behind)) (part_longer (concat missing) (concat behind) d0.line_part d1.line_part (inr (some, of_part))));
      }

module _ (nothing : NothingTaken) (join : JudgedJoin) (site : SiteValue) (client : Caller) (now : ℕ) (s : Side) (h : List Element) where
  -- no letters are no element
  judged_fed : (piece : List ℕ) (ended : Bool) (js : List Judged) → AreJudged site client (h ++ letters_at now s piece ended ∷ []) js → AreJudged site client (h ++ fed_at now s (record { bytes = piece; ended = ended })) js
  judged_fed [] false js a = nothing site client h [] now s js a
  judged_fed [] true js a = a
  judged_fed (b ∷ bytes) ended js a = subst (λ x. AreJudged site client (h ++ cond x [] (letters_at now s (b ∷ bytes) ended ∷ [])) js) (sym (some_letters b bytes ended)) a

  -- bytes and then End at one moment
  judged_ended : (piece : List ℕ) (js : List Judged) → AreJudged site client ((h ++ fed_at now s (record { bytes = piece; ended = false })) ++ end_at now s ∷ []) js →
      AreJudged site client (h ++ fed_at now s (record { bytes = piece; ended = true })) js
  judged_ended [] js a = subst (λ x. AreJudged site client (x ++ end_at now s ∷ []) js) (append-nil h) a
  judged_ended (b ∷ bytes) js a =
      let bytes' = b ∷ bytes in
      let two = subst (λ x. AreJudged site client ((h ++ cond x [] (bytes_at now s bytes' ∷ [])) ++ end_at now s ∷ []) js) (some_letters b bytes false) a in
      let apart = subst (λ x. AreJudged site client x js) (append_assoc h (bytes_at now s bytes' ∷ []) (end_at now s ∷ [])) two in
      judged_fed bytes' true js (subst (λ xs. AreJudged site client (h ++ letters_at now s xs true ∷ []) js) (append-nil bytes') (join site client h [] now s bytes' [] true js apart))

-- bytes were fed up to a line that failed
pub fed_amid : (nothing : NothingTaken) (join : JudgedJoin) (go : JudgementsGoOn) (streams : StreamsGoOn) (site : SiteValue) (client : Endpoint) (now : ℕ) (s : Side) (h : List Element) (w : Work)
    (before piece : List ℕ) (ended : Bool) (d0 d1 : DeskValue) (more : List (List ℕ)) → IsOctets (before ++ piece) →
    d1.packets ≡ d0.packets → d1.packet_part ≡ d0.packet_part → d1.lines ≡ with_lines d0.lines more →
    BeganWithin site none_before client h now s piece (Some []) (Some (w.log ++ more)) d1.line_part → FollowsAmid site client now s h w (record { bytes = piece; ended = ended }) d0 d1
fed_amid nothing join go streams site client now s h w before piece ended d0 d1 more octets packets part added b =
    let first = bytes_at now s b.handled in
    let last = letters_at now s b.rest ended in
    let began = b.began in
    let here : IsOctets b.rest = octets_behind b.handled b.rest (subst IsOctets b.piece_is (octets_behind before piece octets)) in
    let on = go site (newcomer client.address) (h ++ first ∷ []) last began.judged began.are_judged here in
    let apart = subst (λ x. AreJudged site (newcomer client.address) x on.0) (append_assoc h (first ∷ []) (last ∷ [])) on.1 in
    let whole = subst (λ xs. AreJudged site (newcomer client.address) (h ++ letters_at now s xs ended ∷ []) on.0) (sym b.piece_is) (join site (newcomer client.address) h [] now s b.handled b.rest ended on.0 apart) in
    let goes = streams site none_before client (h ++ first ∷ []) (last ∷ []) began.judged on.0 began.are_judged on.1 in
    amid_work site client now s h w (record { bytes = piece; ended = ended }) d0 d1 more packets part added began.judged began.count began.some began.of_lines began.of_part
    on.0 (lines site client began.judged goes.ms) (judged_fed nothing join site (newcomer client.address) now s h piece ended on.0 whole) goes.in_log

-- the line of an End failed
pub ended_amid : (nothing : NothingTaken) (join : JudgedJoin) (site : SiteValue) (client : Endpoint) (now : ℕ) (s : Side) (h : List Element) (w : Work)
    (piece : List ℕ) (d0 d1 : DeskValue) (more : List (List ℕ)) →
    d1.packets ≡ d0.packets → d1.packet_part ≡ d0.packet_part → d1.lines ≡ with_lines d0.lines more →
    Began site none_before client ((h ++ fed_at now s (record { bytes = piece; ended = false })) ++ end_at now s ∷ []) (Some []) (Some (w.log ++ more)) d1.line_part →
    FollowsAmid site client now s h w (record { bytes = piece; ended = true }) d0 d1
ended_amid nothing join site client now s h w piece d0 d1 more packets part added began =
    amid_work site client now s h w (record { bytes = piece; ended = true }) d0 d1 more packets part added began.judged began.count began.some began.of_lines began.of_part
    began.judged [] (judged_ended nothing join site (newcomer client.address) now s h piece began.judged began.are_judged) (sym (append-nil (lines site client [] began.judged)))

-- after lines that were put
pub amid_behind : (site : SiteValue) (client : Endpoint) (now : ℕ) (s : Side) (h : List Element) (w v : Work) (first : List (List ℕ)) (letters : Stream) (d0 d1 d2 : DeskValue) → v.log ≡ w.log ++ first →
    told d1 ≡ with_both (told d0) [] first → EmitsAndLogs d0 d1 false → FollowsAmid site client now s h v letters d1 d2 → FollowsAmid site client now s h w letters d0 d2
amid_behind site client now s h w v first letters d0 d1 d2 log is frame x = record {
  work = x.work;
  works = x.works;
  lines = first ++ x.lines;
  log_is = x.log_is ∙ ap (λ xs. xs ++ x.lines) log ∙ append_assoc w.log first x.lines;
  amid = amid_after [] [] first x.lines d0 d1 d2 is frame x.amid;
}
