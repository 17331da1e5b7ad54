-- Laws over every run and every capture: HasLaws.
use Rattle.cf_decode.specs.Commands.{AdmitsWhatIsAllowed}
use Rattle.cf_decode.specs.Stations.{StationsDecode}
use Rattle.cf_decode.specs.Told.{RefusedAreTold, ShownAreTold}
use Rattle.cf_isolation.specs.Isolated.{CapturesAreIsolated, CapturesHoldSessions, CapturesHoldToTheNext}
use Rattle.cf_isolation.specs.Lives.{AlikeInLines, AlikeInRecords, EachHasALife, EachHasRecords, EachLogged}
use Rattle.cf_isolation.specs.Logged.{LogsAreIsolated, LogsHoldSessions, LogsHoldToTheNext}
use Rattle.cf_isolation.specs.ReadBack.{RunsAreReadBack}
use Rattle.cf_judge.specs.SiteLaws.{OneAssetFates as OneAssetJudged, PartsFates as PartsJudged}
use Rattle.cf_lane.specs.SiteLaws.{NobodysAduIsRefused, NobodysAsduIsRefused, NobodysFrameIsStray, OneAssetEnds, OneAssetFates}
use Rattle.cf_lane.specs.SiteLaws.{OneAssetLines, OneAssetOutputs, PartsAsdus, PartsFates, PartsOutputs}
use Rattle.cf_learn.specs.OwnUnits.{ShowsOwnUnits}
use Rattle.cf_pcapng.specs.Calls.{GiveBlocks, HaveOneListOfBlocks}
use Rattle.cf_policy.specs.SiteLaws.{AssetsStandAlone, SitesAreWhole, SitesAreWithin}
use Rattle.cf_review.specs.First.{BytesComeInOrder, JudgeTellsTheFirst}
use Rattle.cf_review.specs.Fronts.{RecordsComeFirst}
use Rattle.cf_review.specs.SynFlows.{SynFlowsAreWatched}
use Rattle.cf_run.specs.Fixed.{RecordsFixRuns}
use Rattle.cf_run.specs.Isolation.{RunsIsolateSessions}
use Rattle.cf_records.specs.Records.{HaveOneTimedList}
use Rattle.cf_session.specs.Laws.{FewerPartsAreEnough}
use Rattle.cf_unobjected.specs.Allowed.{FlowsGoOn, UnobjectedAreAllowed}
use Rattle.cf_unobjected.specs.OneJudgement.{FlowsAreJudged, FlowsAreOne, JudgementsAreOne, RecordsHaveOneJudgement}
use Rattle.cf_unobjected.specs.OneReading.{ReadingsAreOne}
use Rattle.cf_unobjected.specs.SelfJudged.{RunsAreUnobjected, WatchedRunsAreUnobjected}
use Rattle.cf_unobjected.specs.ShortestFront.{FrontsAreJudged, ObjectionsAreOfShortestFronts}

-- all laws over runs, captures and policies of which the program says something
pub record HasLaws : Type 0 where
  -- what a session of a run sends and logs is fixed by its own packets and their moments
  pub isolated : RunsIsolateSessions
  -- the output capture of a run is read as what the run sent
  pub read_back : RunsAreReadBack
  -- its records between a session's endpoints, in the session's time, are those that the session sent, and whatever else the capture
  -- holds, they are the same
  pub records_held : CapturesHoldSessions
  pub records_to_the_next : CapturesHoldToTheNext
  pub records_isolated : CapturesAreIsolated
  -- so it is of the lines of the log that name it
  pub lines_held : LogsHoldSessions
  pub lines_to_the_next : LogsHoldToTheNext
  pub lines_isolated : LogsAreIsolated
  -- each session has a life; over all of it the records and the lines are those of its own events; and a session of another run with the
  -- same flow that is given the same packets at the same moments has the same
  pub lives : EachHasALife
  pub records_owned : EachHasRecords
  pub lines_owned : EachLogged
  pub records_alike : AlikeInRecords
  pub lines_alike : AlikeInLines
  -- what a peer puts together of some segments it also puts together of these and more: so amid an event, at every moment, it has no more
  -- than what the headline says of all that the event sends
  pub fewer_segments : FewerPartsAreEnough
  -- whatever a run sends, no judgement of the flows of its output capture under the run's own policy has an objection; so it is of the
  -- flows that a watcher tells of the file
  pub unobjected : RunsAreUnobjected
  pub watched_unobjected : WatchedRunsAreUnobjected
  -- the bytes of a flow are read in one way: so a judgement of them is one
  pub one_reading : ReadingsAreOne
  -- what is watched in the records of a capture is one list of flows, and these have one judgement: so a judge has an objection to a
  -- capture or none, and shows that one
  pub judged : FlowsAreJudged
  pub flows_one : FlowsAreOne
  pub judgements_one : JudgementsAreOne
  pub judged_once : RecordsHaveOneJudgement
  -- the objection of a capture is that of its shortest front of records that has one
  pub fronts_judged : FrontsAreJudged
  pub shortest : ObjectionsAreOfShortestFronts
  -- where it has none, whatever is put together of the packets of a flow, after each record, is a beginning of one stream, and that
  -- stream decodes to what the policy lets through
  pub flows_stay : FlowsGoOn
  pub allowed : UnobjectedAreAllowed
  -- the bytes of each flow of a capture come in the order of its records; of such flows that begin with a SYN the judge's objection is the
  -- first of a review; and in a capture without tags these are the flows of the judge
  pub in_order : BytesComeInOrder
  pub first : JudgeTellsTheFirst
  pub syn_flows : SynFlowsAreWatched
  -- the record of each unit of a flow is the first with which the bytes of the flow reached its end
  pub fronts : RecordsComeFirst
  -- the site at an endpoint of a policy has each asset of the endpoint, and no two of them have one station; where no two assets have one
  -- endpoint, as in versions 1 and 2, each is alone
  pub sites_whole : SitesAreWhole
  pub sites_within : SitesAreWithin
  pub sites_alone : AssetsStandAlone
  -- the units of a session that are for one asset of its site, by their station, have the fates, and put out the octets, that they have in a
  -- session of that asset alone, for Modbus and DNP3: so what holds of a session of one asset holds of each asset of a site. Of
  -- IEC 60870-5-104 an ASDU has the fate that its asset gives it, where the numbers of the session do not cut
  pub parts_fates : PartsFates
  pub parts_outputs : PartsOutputs
  pub parts_asdus : PartsAsdus
  -- a command for no asset is refused by its station, and a frame for none is stray
  pub nobodys_adu : NobodysAduIsRefused
  pub nobodys_asdu : NobodysAsduIsRefused
  pub nobodys_frame : NobodysFrameIsStray
  -- a session of an asset that is alone gives its units the fates, the streams and the lines that this asset gives them
  pub one_asset_fates : OneAssetFates
  pub one_asset_outputs : OneAssetOutputs
  pub one_asset_lines : OneAssetLines
  pub one_asset_ends : OneAssetEnds
  -- of any beginning of what goes to the controller the units with the station of an asset make the first of the commands that the rules of
  -- this asset admit, of those that the client sent for it
  pub stations : StationsDecode
  -- a judge finds of the units that are for one asset of a site what it finds of them in a stream of these alone to that asset alone; and what
  -- is learned of an asset was shown by units for it
  pub judged_parts : PartsJudged
  pub judged_alone : OneAssetJudged
  pub own_units : ShowsOwnUnits
  -- a command is admitted exactly where its station is the asset's, its form is read, and each of its acts is allowed by a rule that is not
  -- spent; else it is refused
  pub admits : AdmitsWhatIsAllowed
  -- each refused command has its line and, but in three cases, its reply; and each admitted one its line where a rule with a log allowed
  -- one of its acts
  pub told : RefusedAreTold
  pub shown : ShownAreTold
  -- two runs of one policy over the same records have the same outputs and counts
  pub fixed : RecordsFixRuns
  -- the octets of a capture have one list of records with moments
  pub records : HaveOneTimedList
  -- those of a pcapng file one list of blocks, which is what calls in the file's order give
  pub blocks : HaveOneListOfBlocks
  pub calls : GiveBlocks
