-- A sifting that took an element.
use Rattle.cf_lane.specs.Caller.{newcomer, none_before}
use Rattle.std.proofs.Common.{◌≡◌, ◌≤◌, ◌+◌, ◌<◌, ℕ, true, false, None, Some, Option, List, [], ◌∷◌, ◌++◌, length, take, drop, refl, sym, ap, ◌∙◌, subst, inl, inr, arith, cond}
use Rattle.std.specs.Option.{option_or}
use Rattle.std.specs.Prelude.{◌||◌}
use Rattle.std.proofs.Math.Seq.{take-append-add, drop-append-add}
use Rattle.std.proofs.lemmas.List.{append-nil, length-append, length-drop, nil_from_length}
use Rattle.cf_audit.specs.declared.line.CutReason.{CutReason}
use Rattle.cf_driver.proofs.Histories.{ended_of-append, letters_more}
use Rattle.cf_driver.proofs.Limits.{limit_is}
use Rattle.cf_driver.proofs.Whole.{adds_whole}
use Rattle.cf_driver.specs.Takes.{Takes}
use Rattle.cf_lane.specs.Follows.{AreJudged, Began, Follows}
use Rattle.cf_lane.specs.History.{Element, bytes_at, end_at, ended_of, taken}
use Rattle.cf_lane.specs.Judged.{Judged}
use Rattle.cf_lane.specs.Laws.{GoOn, StreamsGoOn}
use Rattle.cf_lane.specs.Limit.{limit_by, limit_cut}
use Rattle.cf_lane.specs.Log.{lines, with_lines}
use Rattle.cf_lane.specs.Output.{outputs, stream_to}
use Rattle.cf_lane.specs.declared.limit.TheConstants.{LETTER_LIMIT}
use Rattle.cf_outq.specs.SendQueue.{IsQueueOf, Queue, queue_length}
use Rattle.cf_outside.specs.Files.{Content, with_appended}
use Rattle.cf_outside.specs.Lines.{ends_with_line, file_lines, file_part}
use Rattle.cf_outside.proofs.Content.{with_appended-twice}
use Rattle.cf_policy.specs.Site.{SiteValue}
use Rattle.cf_stream.specs.Stream.{Stream, letter_count}
use Rattle.cf_view.specs.declared.Endpoint.{Endpoint}
use Rattle.cf_view.specs.declared.Side.TheVariants as side
use Rattle.cf_sift.specs.Drained.{Drains}
use Rattle.cf_sift.specs.Sifting.{IsDrained, IsSiftingOf, MovesFail, client_rests, state_of}
use Rattle.cf_sift.specs.Names.{SiftNamesValue}
use Rattle.cf_sift.specs.Sifted.{ElementFails, HasLines, LineFails}
use Rattle.cf_sift.specs.Stored.{cut_behind}
use Rattle.cf_sift.specs.declared.sifting.Sifting.{Sifting}
use Rattle.cf_sift.proofs.Logs.{lines_begun, lines_now}

-- a drained queue has all of its bytes acknowledged
acked_all : (q : Queue) (w : Stream) → IsDrained q → IsQueueOf q w → q.acked ≡ length w.bytes
acked_all q w d h =
    let ended : w.ended ≡ false = sym h.ended ∙ d.goes in
    let count : letter_count w ≡ length w.bytes = ap (λ b. length w.bytes + cond b 1 0) ended ∙ omega arith in
    let none : length (drop q.acked w.bytes) ≡ 0 = ap length (sym h.kept ∙ d.kept) in
    omega (arith, h.acked, h.sent, count, none, length-drop q.acked w.bytes)

-- what it keeps then is what its stream got more
kept_more : (q r : Queue) (v w : Stream) (more : List ℕ) → IsDrained q → IsQueueOf q v → r.acked ≡ q.acked → IsQueueOf r w → w.bytes ≡ v.bytes ++ more → r.kept ≡ more
kept_more q r v w more d hq same hr goes =
    let count : r.acked ≡ length v.bytes + 0 = same ∙ acked_all q v d hq ∙ omega arith in
    hr.kept ∙ ap (λ n. drop n w.bytes) count ∙ ap (drop (length v.bytes + 0)) goes ∙ drop-append-add v.bytes more 0

-- a file that had the stream before has the stream now
file_more : (v w more : List ℕ) (kept : List ℕ) (first c d : Content) → w ≡ v ++ more → kept ≡ more → c ≡ with_appended first v → d ≡ with_appended c kept →
    d ≡ with_appended first w
file_more v w more kept first c d goes is had now =
    now ∙ ap (with_appended c) is ∙ ap (λ x. with_appended x more) had ∙ with_appended-twice first v more ∙ ap (with_appended first) (sym goes)

-- or a beginning of it
file_part_more : (v w more : List ℕ) (kept : List ℕ) (first c d : Content) → w ≡ v ++ more → kept ≡ more → c ≡ with_appended first v →
    ((k : ℕ) × (d ≡ with_appended c (take k kept))) → (k : ℕ) × (length v ≤ k) × (d ≡ with_appended first (take k w))
file_part_more v w more kept first c d goes is had (k, now) = (
  length v + k,
  omega arith,
  now ∙ ap (λ l. with_appended c (take k l)) is ∙ ap (λ x. with_appended x (take k more)) had ∙ with_appended-twice first v (take k more)
      ∙ ap (with_appended first) (sym (take-append-add v more k) ∙ ap (take (length v + k)) (sym goes)),
)

nothing_more : (xs ys more : List ℕ) → ys ≡ xs ++ more → length ys ≡ length xs → ys ≡ xs
nothing_more xs ys more is size =
    let both = ap length is ∙ length-append xs more in
    is ∙ ap (λ l. xs ++ l) (nil_from_length more (omega (arith, both, size))) ∙ append-nil xs

-- a cut that is none is none of its parts
pub neither : (a b : Option CutReason) → option_or a b ≡ None → (a ≡ None) × (b ≡ None)
neither None b e = (refl, e)
neither (Some x) b e = cc

-- a queue all of whose bytes were moved
pub drained : (r q : Queue) (c d : Content) → r.ended ≡ false → Drains r q c d → queue_length q < LETTER_LIMIT → IsDrained q
drained r q c d goes drains few = record { kept = drains.kept; goes = drains.ended ∙ goes; few = few }

-- the letters of the client after a piece, and after its End
pub fed_letters : (h : List Element) (piece : List ℕ) → ended_of side.Client h ≡ false →
    letter_count (taken side.Client (h ++ bytes_at 0 side.Client piece ∷ [])) ≡ letter_count (taken side.Client h) + length piece
fed_letters h piece going =
    let one : letter_count (taken side.Client (bytes_at 0 side.Client piece ∷ [])) ≡ length piece = omega (arith, ap length (append-nil piece)) in
    letters_more side.Client h (bytes_at 0 side.Client piece ∷ []) going ∙ ap (λ n. letter_count (taken side.Client h) + n) one

pub end_letters : (h : List Element) → ended_of side.Client h ≡ false → letter_count (taken side.Client (h ++ end_at 0 side.Client ∷ [])) ≡ letter_count (taken side.Client h) + 1
end_letters h going = letters_more side.Client h (end_at 0 side.Client ∷ []) going

module _ (site : SiteValue) (client : Endpoint) (names : SiftNamesValue) (first : List ℕ → Content) where
  -- a sifting knows why its history is cut
  pub cut_known : (now : List ℕ → Content) (h : List Element) (cut : Option CutReason) (sifting : Sifting) (f : IsSiftingOf site client names first now h cut sifting) →
      cut_behind site h f.follows.judged ≡ option_or cut (limit_by LETTER_LIMIT sifting.heard.letters 0 (queue_length sifting.to_client) (queue_length sifting.to_controller))
  cut_known now h cut sifting f =
      let js = f.follows.judged in
      ap (λ c. option_or c (limit_cut LETTER_LIMIT h (stream_to site side.Client js) (stream_to site side.Controller js))) f.follows.is_cut
      ∙ ap (option_or cut) (sym (limit_is LETTER_LIMIT site h js sifting.heard.letters 0 sifting.to_client sifting.to_controller f.letters (sym f.quiet) f.follows.client_stream f.follows.controller_stream))

  -- the judged items of one more element, of this client
  module _ (go : StreamsGoOn) (old : List ℕ → Content) (h : List Element) (sifting : Sifting) (before : IsSiftingOf site client names first old h None sifting) where
    abbrev were : List Judged
    were = before.follows.judged

    were_judged : AreJudged site (newcomer client.address) h were
    were_judged = subst (λ (e : Endpoint). AreJudged site (newcomer e.address) h were) before.of_client before.follows.are_judged

    -- a line failed
    pub line_fails : (part element : Element) (rest : List ℕ) (now : List ℕ → Content) → element ≡ record { moment = part.moment; side = part.side; letters = record { bytes = part.letters.bytes ++ rest; ended = part.letters.ended } } →
        Began site none_before sifting.lane.client (h ++ part ∷ []) (file_lines (first names.log)) (file_lines (now names.log)) (file_part (now names.log)) →
        now names.out ≡ old names.out → now names.replies ≡ old names.replies → LineFails site client names first now h were element
    line_fails part element rest now is began out replies =
        let b = subst (λ (e : Endpoint). Began site none_before e (h ++ part ∷ []) (file_lines (first names.log)) (file_lines (now names.log)) (file_part (now names.log))) before.of_client began in
        record {
          part = part;
          front = (rest, is);
          judged = b.judged;
          are_judged = b.are_judged;
          of_out = out ∙ before.of_out;
          of_replies = replies ∙ before.of_replies;
          of_log = lines_begun (first names.log) (now names.log) (lines site client [] b.judged) b.count b.some before.log_first b.of_lines b.of_part;
        }

    -- an element was fed
    module _ (e : Element) (cut : Option CutReason) (mid : Sifting) (now : List ℕ → Content)
        (takes : Takes site side.Client (e ∷ []) cut sifting.heard.rest.items mid.heard.rest.items (state_of sifting (old names.log)) (state_of mid (now names.log)))
        (out : now names.out ≡ old names.out) (replies : now names.replies ≡ old names.replies) (whole : ends_with_line (now names.log) ≡ true) where
      fed : Follows site none_before (h ++ e ∷ []) (client_rests mid.heard.rest.items) cut (file_lines (first names.log)) (state_of mid (now names.log))
      fed = adds_whole site none_before (h ++ e ∷ []) (client_rests mid.heard.rest.items) cut (file_lines (first names.log)) (file_lines (old names.log)) (state_of mid (now names.log))
          (takes.follows none_before h (client_rests sifting.heard.rest.items) (file_lines (first names.log)) (file_lines (old names.log)) refl before.follows)

      abbrev are : List Judged
      are = fed.judged

      are_judged : AreJudged site (newcomer client.address) (h ++ e ∷ []) are
      are_judged = subst (λ (p : Endpoint). AreJudged site (newcomer p.address) (h ++ e ∷ []) are) (takes.client ∙ before.of_client) fed.are_judged

      goes : GoOn site client were are
      goes = go site none_before client h (e ∷ []) were are were_judged are_judged

      ends_after : mid.to_controller.ended ≡ ended_of side.Client (h ++ e ∷ [])
      ends_after = takes.client_ended ∙ ap (λ b. b || ended_of side.Client (e ∷ [])) before.ends ∙ sym (ended_of-append side.Client h (e ∷ []))

      -- the log has the lines
      has_lines : (new : List ℕ → Content) → new names.log ≡ now names.log → HasLines (lines site client [] are ++ []) (first names.log) (new names.log)
      has_lines new same =
          let of_lines : file_lines (now names.log) ≡ with_lines (file_lines (first names.log)) (lines site client [] are) =
          fed.of_lines ∙ ap (λ (p : Endpoint). with_lines (file_lines (first names.log)) (lines site p [] are)) (takes.client ∙ before.of_client) in
          subst (HasLines (lines site client [] are ++ []) (first names.log)) (sym same)
          (lines_now (first names.log) (now names.log) (lines site client [] are) before.log_first whole of_lines)

      -- the queues got what the element put out
      module _ (client_drained : IsDrained sifting.to_client) (controller_drained : IsDrained sifting.to_controller) where
        client_kept : mid.to_client.kept ≡ outputs site side.Client were goes.ms
        client_kept = kept_more sifting.to_client mid.to_client (stream_to site side.Client were) (stream_to site side.Client are) (outputs site side.Client were goes.ms)
            client_drained before.follows.client_stream takes.to_client.acked fed.client_stream goes.to_client

        controller_kept : mid.to_controller.kept ≡ outputs site side.Controller were goes.ms
        controller_kept = kept_more sifting.to_controller mid.to_controller (stream_to site side.Controller were) (stream_to site side.Controller are)
            (outputs site side.Controller were goes.ms) controller_drained before.follows.controller_stream takes.to_controller.acked fed.controller_stream goes.to_controller

        -- an append failed
        pub moves_fail : (new : List ℕ → Content) (last : Sifting) → new names.log ≡ now names.log → MovesFail names mid last now new →
            ElementFails site client names first new h were e
        moves_fail new last log (inl (part, still, same)) = inr (inl (record {
          judged = are;
          are_judged = are_judged;
          of_out = file_part_more (outputs site side.Controller [] were) (outputs site side.Controller [] are) (outputs site side.Controller were goes.ms)
              mid.to_controller.kept (first names.out) (now names.out) (new names.out) goes.to_controller controller_kept (out ∙ before.of_out) (part.gone + part.more, part.file);
          of_replies = same ∙ replies ∙ before.of_replies;
          of_log = has_lines new log;
        }))
        moves_fail new last log (inr (all, part)) = inr (inr (inl (record {
          judged = are;
          are_judged = are_judged;
          of_out = file_more (outputs site side.Controller [] were) (outputs site side.Controller [] are) (outputs site side.Controller were goes.ms)
              mid.to_controller.kept (first names.out) (now names.out) (new names.out) goes.to_controller controller_kept (out ∙ before.of_out) all.file;
          of_replies = file_part_more (outputs site side.Client [] were) (outputs site side.Client [] are) (outputs site side.Client were goes.ms)
              mid.to_client.kept (first names.replies) (now names.replies) (new names.replies) goes.to_client client_kept (replies ∙ before.of_replies) (part.gone + part.more, part.file);
          of_log = has_lines new log;
        })))

        -- all bytes were moved
        module _ (new : List ℕ → Content) (to_client to_controller : Queue) (log : new names.log ≡ now names.log)
            (client_drains : Drains mid.to_client to_client (now names.replies) (new names.replies))
            (controller_drains : Drains mid.to_controller to_controller (now names.out) (new names.out))
            (client_stands : (w : Stream) → IsQueueOf mid.to_client w → IsQueueOf to_client w)
            (controller_stands : (w : Stream) → IsQueueOf mid.to_controller w → IsQueueOf to_controller w)
            (letters : mid.heard.letters ≡ letter_count (taken side.Client (h ++ e ∷ []))) (quiet : letter_count (taken side.Controller (h ++ e ∷ [])) ≡ 0) where
          abbrev moved : Sifting
          moved = record mid { to_client = to_client; to_controller = to_controller }

          follows : Follows site none_before (h ++ e ∷ []) (client_rests mid.heard.rest.items) cut (file_lines (first names.log)) (state_of moved (new names.log))
          follows = record {
            judged = are;
            are_judged = fed.are_judged;
            is_cut = fed.is_cut;
            are_rests = fed.are_rests;
            knows = record {
              admitted = fed.knows.admitted;
              refused = fed.knows.refused;
              client_ended = client_drains.ended ∙ fed.knows.client_ended;
              controller_ended = controller_drains.ended ∙ fed.knows.controller_ended;
              rules = fed.knows.rules;
              wire = fed.knows.wire;
            };
            client_stream = client_stands (stream_to site side.Client are) fed.client_stream;
            controller_stream = controller_stands (stream_to site side.Controller are) fed.controller_stream;
            of_lines = ap file_lines log ∙ fed.of_lines;
          }

          pub sifting_of : (last : Sifting) → last ≡ moved → IsSiftingOf site client names first new (h ++ e ∷ []) cut last
          unfolding follows
          sifting_of last same = subst (IsSiftingOf site client names first new (h ++ e ∷ []) cut) (sym same) (record {
            follows = follows;
            of_client = takes.client ∙ before.of_client;
            of_out = file_more (outputs site side.Controller [] were) (outputs site side.Controller [] are) (outputs site side.Controller were goes.ms)
                mid.to_controller.kept (first names.out) (now names.out) (new names.out) goes.to_controller controller_kept (out ∙ before.of_out) controller_drains.file;
            of_replies = file_more (outputs site side.Client [] were) (outputs site side.Client [] are) (outputs site side.Client were goes.ms)
                mid.to_client.kept (first names.replies) (now names.replies) (new names.replies) goes.to_client client_kept (replies ∙ before.of_replies) client_drains.file;
            log_first = before.log_first;
            log_now = ap ends_with_line log ∙ whole;
            letters = letters;
            ends = controller_drains.ended ∙ ends_after;
            quiet = quiet;
          })

      -- nothing came of it
      pub sifting_ended : mid.to_client.pushed ≡ sifting.to_client.pushed → mid.to_controller.pushed ≡ sifting.to_controller.pushed →
          mid.heard.letters ≡ letter_count (taken side.Client (h ++ e ∷ [])) → letter_count (taken side.Controller (h ++ e ∷ [])) ≡ 0 →
          IsSiftingOf site client names first now (h ++ e ∷ []) cut mid
      sifting_ended client_same controller_same letters quiet = record {
        follows = fed;
        of_client = takes.client ∙ before.of_client;
        of_out = out ∙ before.of_out ∙ ap (with_appended (first names.out)) (sym (nothing_more (outputs site side.Controller [] were) (outputs site side.Controller [] are)
            (outputs site side.Controller were goes.ms) goes.to_controller (sym fed.controller_stream.pushed ∙ controller_same ∙ before.follows.controller_stream.pushed)));
        of_replies = replies ∙ before.of_replies ∙ ap (with_appended (first names.replies)) (sym (nothing_more (outputs site side.Client [] were) (outputs site side.Client [] are)
            (outputs site side.Client were goes.ms) goes.to_client (sym fed.client_stream.pushed ∙ client_same ∙ before.follows.client_stream.pushed)));
        log_first = before.log_first;
        log_now = whole;
        letters = letters;
        ends = ends_after;
        quiet = quiet;
      }
