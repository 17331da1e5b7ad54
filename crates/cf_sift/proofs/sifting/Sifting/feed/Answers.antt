use Rattle.std.proofs.Common.{◌++◌, ◌≡◌, ap, arith, length, rules}
use Rattle.std.proofs.lemmas.List.{length-append}
use Rattle.cf_driver.specs.Takes.{MissesPiece}
use Rattle.cf_lane.specs.Handled.{State, debt}
use Rattle.cf_outside.specs.Files.{Content}
use Rattle.cf_outside.specs.Lines.{file_lines, file_part}
use Rattle.cf_view.specs.declared.Side.TheVariants as side
use Rattle.cf_sift.specs.Sifting.{state_of}
use Rattle.cf_sift.proofs.Draining.{misses}
use Rattle.cf_sift.proofs.Room.{drained_room}
use Rattle.cf_sift.proofs.sifting.Sifting.feed.Goals as goal

pub feed-requires-clause-client_room : goal.feed-requires-clause-client_room
feed-requires-clause-client_room g c =
    let s = c.args.self.now in
    let r = c.requires.ready in
    drained_room c.args.site.now s.to_client (debt s.lane) (length (s.heard.rest.items ++ c.args.piece.now)) c.requires.within r.client r.debt
    (omega (arith, length-append s.heard.rest.items c.args.piece.now, r.rest, c.requires.piece))

pub feed-requires-clause-controller_room : goal.feed-requires-clause-controller_room
feed-requires-clause-controller_room g c =
    let s = c.args.self.now in
    let r = c.requires.ready in
    drained_room c.args.site.now s.to_controller (debt s.lane) (length (s.heard.rest.items ++ c.args.piece.now)) c.requires.within r.controller r.debt
    (omega (arith, length-append s.heard.rest.items c.args.piece.now, r.rest, c.requires.piece))

pub returns-clause-misses : goal.returns-clause-misses
returns-clause-misses g c =
    let files = c.log_desk-desk.ensures.files in
    let log = c.log_desk-desk.ensures.log in
    let same : g.F.Files.content c.log_desk-desk.result.files.now c.log_desk-desk.result.log.now ≡ g.F.Files.content c.args.files.now c.args.log.now = cc in
    misses _ (λ (s : State) (l : Content). MissesPiece c.args.site.now 0 side.Client c.args.piece.now c.args.self.now.heard.rest.items s (file_lines l) (file_part l))
    _ _ _ _ (ap (state_of c.args.self.now) same) (search rules) c.feed.ensures.misses
