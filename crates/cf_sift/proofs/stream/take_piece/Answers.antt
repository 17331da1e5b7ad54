use Rattle.cf_lane.specs.Caller.{none_before}
use Rattle.std.proofs.Common.{[], ◌∷◌, ◌+◌, ◌||◌, subst, ap, arith, false, length, refl, sym, ◌∙◌, inl}
use Rattle.std.proofs.lemmas.List.{append-nil}
use Rattle.std.specs.Option.{option_or}
use Rattle.cf_driver.proofs.Histories.{letters_still}
use Rattle.cf_driver.proofs.Limits.{limit_short}
use Rattle.cf_driver.proofs.Whole.{within_whole}
use Rattle.cf_lane.specs.History.{bytes_at}
use Rattle.cf_view.specs.declared.Side.TheVariants as side
use Rattle.cf_sift.specs.Names.{sift_names_value}
use Rattle.cf_sift.specs.Sifting.{IsReady, client_rests}
use Rattle.cf_sift.proofs.Draining.{on_err}
use Rattle.cf_lane.specs.declared.limit.TheConstants.{LETTER_LIMIT}
use Rattle.cf_outq.specs.SendQueue.{queue_length}
use Rattle.cf_sift.specs.declared.sifting.Sifting.{Sifting}
use Rattle.cf_sift.proofs.Elements.{cut_known, drained, fed_letters, line_fails, moves_fail, neither, sifting_of}
use Rattle.cf_sift.proofs.stream.take_piece.Goals as goal

pub returns-in_err-cut-clause-fails : goal.returns-in_err-cut-clause-fails
returns-in_err-cut-clause-fails g c = on_err _ c.from_residual.result (λ client first h before.
    let content = g.F.Files.content in
    let names = sift_names_value c.args.names.now in
    let fails = within_whole _ _ _ _ _ _ _ _ _ _ _ (c.in_err-cut.ensures.misses none_before h (client_rests c.args.sifting.now.heard.rest.items) _ _ refl before.follows) in
    inl (line_fails c.args.site.now client names first c.streams_go_on.ensures.go_on (content c.args.files.now) h c.args.sifting.now before
    (bytes_at 0 side.Client fails.handled) (bytes_at 0 side.Client c.args.piece.now) fails.rest (content c.feed.new.files) (ap (bytes_at 0 side.Client) fails.piece_is) fails.began
    (c.feed.ensures.writes.others names.out (c.requires.apart.out_log, tt)) (c.feed.ensures.writes.others names.replies (c.requires.apart.replies_log, tt))))

pub returns-in_err-drain-clause-fails : goal.returns-in_err-drain-clause-fails
returns-in_err-drain-clause-fails g c = on_err _ c.from_residual-in_err-drain.result (λ client first h before.
    let content = g.F.Files.content in
    let names = sift_names_value c.args.names.now in
    let f = c.in_ok-cut.ensures in
    moves_fail c.args.site.now client names first c.streams_go_on.ensures.go_on (content c.args.files.now) h c.args.sifting.now before
    (bytes_at 0 side.Client c.args.piece.now) _ c.feed.new.self (content c.feed.new.files) f.takes
    (f.writes.others names.out (c.requires.apart.out_log, tt)) (f.writes.others names.replies (c.requires.apart.replies_log, tt)) f.whole
    c.requires.ready.client c.requires.ready.controller (content c.drain.new.files) c.drain.new.self c.drain.ensures.log
    c.in_err-drain.ensures.fails)

pub returns-clause-taken : goal.returns-clause-taken
returns-clause-taken g c = λ client first h before.
    let content = g.F.Files.content in
    let names = sift_names_value c.args.names.now in
    let f = c.in_ok-cut.ensures in
    let d = c.in_ok-drain.ensures in
    let element = bytes_at 0 side.Client c.args.piece.now in
    let sifting = sifting_of c.args.site.now client names first c.streams_go_on.ensures.go_on (content c.args.files.now) h c.args.sifting.now before
    element _ c.feed.new.self (content c.feed.new.files) f.takes
    (f.writes.others names.out (c.requires.apart.out_log, tt)) (f.writes.others names.replies (c.requires.apart.replies_log, tt)) f.whole
    c.requires.ready.client c.requires.ready.controller (content c.drain.new.files) c.drain.new.self.to_client c.drain.new.self.to_controller d.log
    d.to_client d.to_controller d.client_stands d.controller_stands
    (f.letters ∙ ap (λ n. n + length c.args.piece.now) before.letters ∙ sym (fed_letters h c.args.piece.now (sym before.ends ∙ c.requires.ready.controller.goes)))
    (letters_still side.Controller h (element ∷ []) refl refl ∙ before.quiet) c.drain.new.self d.same in
    record {
      by_item = _;
      sifting_of = sifting;
      is_cut = cut_known c.args.site.now client names first (content c.drain.new.files) _ _ c.drain.new.self sifting ∙ ap (option_or _) (sym c.length_cut.ensures) ∙ sym c.or.ensures;
    }

pub returns-clause-ready : goal.returns-clause-ready
returns-clause-ready g c = λ none.
    let f = c.in_ok-cut.ensures in
    let t = f.takes in
    let d = c.in_ok-drain.ensures in
    let r = c.requires.ready in
    let new = c.drain.new.self in
    let (letters, controller, to_client, to_controller) = limit_short LETTER_LIMIT new.heard.letters 0 (queue_length new.to_client) (queue_length new.to_controller)
    (sym c.length_cut.ensures ∙ (neither c.in_ok-cut.cut c.length_cut.result (sym c.or.ensures ∙ none)).1) in
    subst (IsReady c.args.site.now) (sym d.same) (record {
      of_site = t.of_site;
      debt = t.debt;
      client = drained _ _ _ _ (t.controller_ended ∙ ap (λ b. b || false) r.client.goes) d.to_client to_client;
      controller = drained _ _ _ _ (t.client_ended ∙ ap (λ b. b || false) r.controller.goes) d.to_controller to_controller;
      rest = t.short;
      counts = omega (arith, t.counts, r.counts, f.letters, ap length (append-nil c.args.piece.now));
      few = omega (arith, letters, ap (λ (x : Sifting). x.heard.letters) d.same);
    })
