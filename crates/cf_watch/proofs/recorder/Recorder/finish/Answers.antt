use Rattle.cf_watch.proofs.SoFar.{finished, finished_for, finished_for_too}
use Rattle.cf_watch.proofs.recorder.Recorder.finish.Goals as goal

pub returns-clause-recording : goal.returns-clause-recording
returns-clause-recording c = finished c.args.self c.recording_of.result c.recording_of.ensures.flows c.recording_of.ensures.stamps c.recording_of.ensures.stretches

pub returns-clause-for_assets : goal.returns-clause-for_assets
returns-clause-for_assets c = finished_for c.args.self c.recording_of.result c.recording_of.ensures.flows

pub returns-clause-stretches_for_assets : goal.returns-clause-stretches_for_assets
returns-clause-stretches_for_assets c = finished_for_too c.args.self c.recording_of.result c.recording_of.ensures.stretches
