use Rattle.std.proofs.Common.{◌≡◌, ◌⊎◌, Some, refl, subst}
use Rattle.cf_words.specs.Command.{Command, World}
use Rattle.cf_box.specs.Ends.{Ends, TellsEnding}
use Rattle.cf_ending.specs.Outside.{Outside, RisesIn, RoseIn, outside_value}
use Rattle.cf_box.specs.Status.{AsksItsPair, CutsItsCapture, CutsItsStream, DeniesWhatItAsks, EndsItsIdles, ExceedsItsCells, ExceedsItsRules, LacksItsAsset, RefusesItsCapture, RefusesItsPolicy, inputs_of, outputs_of}
use Rattle.cf_words.specs.Words.{command_value}
use Rattle.cf_box.proofs.Complete.{complete_told}
use Rattle.cf_box.proofs.Exact.{exact_told}
use Rattle.cf_box.proofs.Kept.{kept_told, unwritten_told}
use Rattle.cf_box.proofs.RunHolds.{run_told}
use Rattle.cf_box.proofs.Statuses.{Explains, capture_told, cells_told, cut_told, denied_told, drafts_told, idle_told, includes_told, judged_told, lack_told, link_told, lists_told, migrates_told, passes_told, read_told, refusal_told, stream_told, write_told, learns_told, reviews_told, rules_told}
use Rattle.cf_box.proofs.WorldHolds.{own_told, world_told}
use Rattle.cf_box.proofs.top.box_main.Given.{Over}
use Rattle.cf_box.proofs.top.box_main.Goals as goal
use Rattle.cf_outside.specs.Frames.{KeepsOtherFiles}

module _ (g : Over) (c : goal.After-report-status g) where
  abbrev before : Outside
  before = outside_value g.F.Files g.O.Sink g.P.Pair c.args.files.now c.args.out.now c.args.pair.now

  abbrev middle : Outside
  middle = outside_value g.F.Files g.O.Sink g.P.Pair c.perform-ended.new.files c.perform-ended.new.out c.perform-ended.new.pair

  abbrev after : Outside
  after = outside_value g.F.Files g.O.Sink g.P.Pair c.perform-ended.new.files c.report-status.new.out c.perform-ended.new.pair

  abbrev command : Command
  command = command_value c.in-Some.command

  -- the answer of the command explains the status
  explains : Explains command before after c.report-status.result
  explains = record {
    r = c.perform-ended.result;
    middle = middle;
    meets = c.perform-ended.ensures.meets;
    reports = record { prints = c.report-status.ensures.prints; files = refl; pair = refl };
    early = c.perform-ended.ensures.puts;
    late = c.report-status.ensures.later;
  }

pub returns-in-Some-clause-ends : goal.returns-in-Some-clause-ends
returns-in-Some-clause-ends g c =
    let e : Explains (command g c) (before g c) (after g c) c.report-status.result = explains g c in
    subst (λ words. Ends words (before g c) (after g c) c.report-status.result) c.in-Some.ensures.command (e.r, e.middle, e.meets, e.reports)

pub returns-in-Some-clause-tells : goal.returns-in-Some-clause-tells
unfolding explains
returns-in-Some-clause-tells g c =
    let e : Explains (command g c) (before g c) (after g c) c.report-status.result = explains g c in
    subst (λ words. TellsEnding words (before g c) (after g c) c.report-status.result (Some c.perform-ended.result)) c.in-Some.ensures.command (e.r, e.middle, e.meets, e.reports, refl)

pub returns-in-Some-clause-read : goal.returns-in-Some-clause-read
returns-in-Some-clause-read g c = λ is.
    subst (λ words. RoseIn (inputs_of words) (before g c).files.read_faults (after g c).files.read_faults) c.in-Some.ensures.command (read_told (explains g c) is)

pub returns-in-Some-clause-reads : goal.returns-in-Some-clause-reads
returns-in-Some-clause-reads g c =
    subst (λ words. RisesIn (inputs_of words) (before g c).files.read_faults (after g c).files.read_faults) c.in-Some.ensures.command c.perform-ended.ensures.later.reads

pub returns-in-Some-clause-write : goal.returns-in-Some-clause-write
returns-in-Some-clause-write g c = write_told (explains g c)

pub returns-in-Some-clause-refused : goal.returns-in-Some-clause-refused
returns-in-Some-clause-refused g c = λ is. subst (λ words. RefusesItsPolicy words (before g c)) c.in-Some.ensures.command
    (refusal_told (explains g c) is)

pub returns-in-Some-clause-capture : goal.returns-in-Some-clause-capture
returns-in-Some-clause-capture g c = λ is. subst (λ words. RefusesItsCapture words (before g c)) c.in-Some.ensures.command
    (capture_told (explains g c) is)

pub returns-in-Some-clause-cut : goal.returns-in-Some-clause-cut
returns-in-Some-clause-cut g c = λ is. subst (λ words. CutsItsCapture words (before g c)) c.in-Some.ensures.command (cut_told (explains g c) is)

pub returns-in-Some-clause-unknown : goal.returns-in-Some-clause-unknown
returns-in-Some-clause-unknown g c = λ is. subst (λ words. LacksItsAsset words (before g c)) c.in-Some.ensures.command (lack_told (explains g c) is)

pub returns-in-Some-clause-denied : goal.returns-in-Some-clause-denied
returns-in-Some-clause-denied g c = λ is. subst (λ words. DeniesWhatItAsks words (before g c)) c.in-Some.ensures.command (denied_told (explains g c) is)

pub returns-in-Some-clause-rules : goal.returns-in-Some-clause-rules
returns-in-Some-clause-rules g c = λ is. subst (λ words. ExceedsItsRules words (before g c)) c.in-Some.ensures.command (rules_told (explains g c) is)

pub returns-in-Some-clause-cells : goal.returns-in-Some-clause-cells
returns-in-Some-clause-cells g c = λ is. subst (λ words. ExceedsItsCells words (before g c)) c.in-Some.ensures.command (cells_told (explains g c) is)

pub returns-in-Some-clause-judged : goal.returns-in-Some-clause-judged
returns-in-Some-clause-judged g c = λ policy capture is. judged_told (explains g c) c.laws_hold.ensures.allowed policy capture (let known = c.in-Some.ensures.command in cc)

pub returns-in-Some-clause-includes : goal.returns-in-Some-clause-includes
returns-in-Some-clause-includes g c = λ policy other is. includes_told (explains g c) policy other (let known = c.in-Some.ensures.command in cc)

pub returns-in-Some-clause-exact : goal.returns-in-Some-clause-exact
returns-in-Some-clause-exact g c = λ form is.
    let same : command g c ≡ form = let known = c.in-Some.ensures.command in cc in
    exact_told c.has_one_cut.ensures c.has_one_judgement.ensures c.laws_hold.ensures.judged_once (subst (λ k. Explains k (before g c) (after g c) c.report-status.result) same (explains g c))

pub returns-in-Some-clause-complete : goal.returns-in-Some-clause-complete
returns-in-Some-clause-complete g c = λ form is input fails.
    let same : command g c ≡ form = let known = c.in-Some.ensures.command in cc in
    complete_told (subst (λ k. Explains k (before g c) (after g c) c.report-status.result) same (explains g c)) input fails

pub returns-in-Some-clause-migrates : goal.returns-in-Some-clause-migrates
returns-in-Some-clause-migrates g c = λ policy out is. migrates_told (explains g c) policy out (let known = c.in-Some.ensures.command in cc)

pub returns-in-Some-clause-learns : goal.returns-in-Some-clause-learns
returns-in-Some-clause-learns g c = λ policy capture file is. learns_told (explains g c) policy capture file (let known = c.in-Some.ensures.command in cc)

pub returns-in-Some-clause-drafts : goal.returns-in-Some-clause-drafts
returns-in-Some-clause-drafts g c = λ policy file captures is. drafts_told (explains g c) policy file captures (let known = c.in-Some.ensures.command in cc)

pub returns-in-Some-clause-reviews : goal.returns-in-Some-clause-reviews
returns-in-Some-clause-reviews g c = λ policy file captures is. reviews_told (explains g c) policy captures file (let known = c.in-Some.ensures.command in cc)

pub returns-in-Some-clause-lists : goal.returns-in-Some-clause-lists
returns-in-Some-clause-lists g c = λ capture is. lists_told (explains g c) capture (let known = c.in-Some.ensures.command in cc)

pub returns-in-Some-clause-passes : goal.returns-in-Some-clause-passes
returns-in-Some-clause-passes g c = λ policy name client names is. passes_told (explains g c) c.lane_passes_allowed.ensures c.rates_hold.ensures policy name client names
    (let known = c.in-Some.ensures.command in cc)

pub returns-in-Some-clause-kept : goal.returns-in-Some-clause-kept
returns-in-Some-clause-kept g c =
    subst (λ words. KeepsOtherFiles (outputs_of words) (before g c).files.content (after g c).files.content) c.in-Some.ensures.command (kept_told (explains g c))

pub returns-in-Some-clause-unwritten : goal.returns-in-Some-clause-unwritten
returns-in-Some-clause-unwritten g c = λ w own. unwritten_told (explains g c) w (own (command g c) (let known = c.in-Some.ensures.command in cc))

pub returns-in-Some-clause-headline : goal.returns-in-Some-clause-headline
returns-in-Some-clause-headline g c = λ policy names is. run_told c.runs_have_headline.ensures c.sessions_have_sites.ensures c.runs_are_logged.ensures (explains g c) policy names
    (let known = c.in-Some.ensures.command in cc)

pub returns-in-Some-clause-world : goal.returns-in-Some-clause-world
returns-in-Some-clause-world g c = λ seed sessions policy names is. world_told (explains g c) c.runs_have_headline.ensures c.sessions_have_sites.ensures c.runs_are_logged.ensures seed sessions policy names
    (let known = c.in-Some.ensures.command in cc)

pub returns-in-Some-clause-own : goal.returns-in-Some-clause-own
returns-in-Some-clause-own g c = λ seed sessions policy names is.
    let same : command g c ≡ World seed sessions policy names = let known = c.in-Some.ensures.command in cc in
    own_told seed sessions policy names (subst (λ k. Explains k (before g c) (after g c) c.report-status.result) same (explains g c))

pub returns-in-Some-clause-stream : goal.returns-in-Some-clause-stream
returns-in-Some-clause-stream g c = λ is. subst (λ words. CutsItsStream words (before g c) (after g c)) c.in-Some.ensures.command (stream_told (explains g c) is)

pub returns-in-Some-clause-link : goal.returns-in-Some-clause-link
returns-in-Some-clause-link g c = link_told (explains g c)

pub returns-in-Some-clause-idle : goal.returns-in-Some-clause-idle
returns-in-Some-clause-idle g c = λ is. subst (λ words. EndsItsIdles words (before g c) (after g c)) c.in-Some.ensures.command (idle_told (explains g c) is)

pub returns-in-Some-clause-pair : goal.returns-in-Some-clause-pair
returns-in-Some-clause-pair g c = subst (λ words. AsksItsPair words ⊎ (c.perform-ended.new.pair ≡ c.args.pair.now)) c.in-Some.ensures.command c.perform-ended.ensures.pair
