use Rattle.cf_lane.specs.Caller.{none_before}
use Rattle.std.proofs.Common.{[], None, ap, refl, sym, ◌+◌, ◌∙◌, ◌∷◌, inl}
use Rattle.cf_driver.proofs.Histories.{letters_still}
use Rattle.cf_driver.proofs.Whole.{began_whole}
use Rattle.cf_lane.specs.History.{end_at}
use Rattle.cf_view.specs.declared.Side.TheVariants as side
use Rattle.cf_sift.specs.Names.{sift_names_value}
use Rattle.cf_sift.specs.Sifting.{client_rests}
use Rattle.cf_sift.specs.declared.sifting.Sifting.{Sifting}
use Rattle.cf_sift.proofs.Draining.{on_err}
use Rattle.cf_sift.proofs.Elements.{cut_known, end_letters, line_fails, sifting_ended}
use Rattle.cf_sift.proofs.stream.take_end.Goals as goal

pub returns-in_err-end-clause-fails : goal.returns-in_err-end-clause-fails
returns-in_err-end-clause-fails g c = on_err _ c.from_residual.result (λ client first h before.
    let content = g.F.Files.content in
    let names = sift_names_value c.args.names.now in
    inl (line_fails c.args.site.now client names first c.streams_go_on.ensures.go_on (content c.args.files.now) h c.args.sifting.now before
    (end_at 0 side.Client) (end_at 0 side.Client) [] (content c.end.new.files) refl
    (began_whole _ _ _ _ _ _ _ _ (c.in_err-end.ensures.misses none_before h (client_rests c.args.sifting.now.heard.rest.items) _ _ refl before.follows))
    (c.end.ensures.writes.others names.out (c.requires.apart.out_log, tt)) (c.end.ensures.writes.others names.replies (c.requires.apart.replies_log, tt))))

pub returns-clause-taken : goal.returns-clause-taken
returns-clause-taken g c = λ client first h before.
    let content = g.F.Files.content in
    let names = sift_names_value c.args.names.now in
    let f = c.in_ok-end.ensures in
    let sifting = sifting_ended c.args.site.now client names first c.streams_go_on.ensures.go_on (content c.args.files.now) h c.args.sifting.now before
    (end_at 0 side.Client) None c.end.new.self (content c.end.new.files) f.takes
    (c.end.ensures.writes.others names.out (c.requires.apart.out_log, tt)) (c.end.ensures.writes.others names.replies (c.requires.apart.replies_log, tt)) f.whole
    (ap (λ (x : Sifting). x.to_client.pushed) f.new) (ap (λ (x : Sifting). x.to_controller.pushed) f.new)
    (ap (λ (x : Sifting). x.heard.letters) f.new ∙ ap (λ n. n + 1) before.letters ∙ sym (end_letters h (sym before.ends ∙ c.requires.ready.controller.goes)))
    (letters_still side.Controller h (end_at 0 side.Client ∷ []) refl refl ∙ before.quiet) in
    record {
      by_item = None;
      sifting_of = sifting;
      is_cut = cut_known c.args.site.now client names first (content c.end.new.files) _ None c.end.new.self sifting ∙ sym c.length_cut.ensures;
    }
