use Rattle.std.proofs.Common.{None, refl, ◌-◌, ◌^◌, ◌≡◌}
use Rattle.cf_box.proofs.Serving.{all_served, all_stopped, policy_stops}
use Rattle.cf_words.specs.Command.{Check}
use Rattle.cf_ending.specs.Outside.{SinkValue, files_value}
use Rattle.cf_box.specs.ServiceWords.{service_value}
use Rattle.cf_outside.specs.PairValue.{PairValue}
use Rattle.cf_links.specs.Links.{LinksPlace}
use Rattle.cf_box.proofs.serve.serve_policy.Goals as goal

pub returns-in-Ok-clause-serves : goal.returns-in-Ok-clause-serves
returns-in-Ok-clause-serves g c =
    all_served (service_value c.args.service.now) (g.L.Links.told c.args.links.now) (g.L.Links.told c.serve_read.new.links)
    (LinksPlace.round_faults (g.L.Links.place c.args.links.now)) (LinksPlace.round_faults (g.L.Links.place c.serve_read.new.links))
    (files_value g.F.Files c.args.files.now) (files_value g.F.Files c.load_policy.new.files) (files_value g.F.Files c.serve_read.new.files)
    c.load_policy.ensures.only (λ made. made ≡ 2 ^ 64 - 1) c.serve_read.result c.serve_read.ensures.serves

pub returns-in-Ok-clause-stops : goal.returns-in-Ok-clause-stops
returns-in-Ok-clause-stops g c =
    all_stopped (service_value c.args.service.now) (g.L.Links.told c.args.links.now) (g.L.Links.told c.serve_read.new.links)
    (LinksPlace.round_faults (g.L.Links.place c.args.links.now)) (LinksPlace.round_faults (g.L.Links.place c.serve_read.new.links))
    (files_value g.F.Files c.args.files.now) (files_value g.F.Files c.load_policy.new.files) (files_value g.F.Files c.serve_read.new.files)
    c.load_policy.ensures.only c.serve_read.result c.serve_read.ensures.stops

pub returns-in-Err-clause-stops : goal.returns-in-Err-clause-stops
returns-in-Err-clause-stops g c =
    let w = service_value c.args.service.now in
    let sink : SinkValue = record { text = None; faults = 0 } in
    let pair : PairValue = record { told = None; faults = 0; idles = 0 } in
    policy_stops w (g.L.Links.told c.args.links.now) (LinksPlace.round_faults (g.L.Links.place c.args.links.now)) (files_value g.F.Files c.args.files.now)
    (files_value g.F.Files c.load_policy.new.files) sink pair c.load_policy.ensures.only c.in-Err.stop c.in-Err.ensures.early
    (c.in-Err.ensures.stop (Check w.policy) sink pair refl)
