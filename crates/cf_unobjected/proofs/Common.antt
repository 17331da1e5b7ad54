-- The names that most proofs of this crate cite, passed on from one place. Declares nothing.
pub use Rattle.cf_decode.specs.Units.{Passed}
pub use Rattle.cf_dnplink.specs.LinkFrame.{FrameValue}
pub use Rattle.cf_dnplink.specs.UserOctets.{user_of}
pub use Rattle.cf_isolation.proofs.Legs.{legs_right}
pub use Rattle.cf_isolation.proofs.Lists.{all_both, all_front, all_map}
pub use Rattle.cf_judge.specs.Objections.{AreReadBy, IsReadBy, Reading, commands_in, first_wrong, objected, objection_in, objection_of, objection_to, sooner, wrong, wrong_by}
pub use Rattle.cf_judge.specs.Plain.{AreRead, Breaks, Ending, HasSiteFate, Whole, completed_in, fate_by_asdu}
pub use Rattle.cf_judge.specs.Ruling.{complaint_of}
pub use Rattle.cf_judge.specs.declared.Objection.{Objection}
pub use Rattle.cf_lane.specs.Dnp3.{fate_of_fragment, fate_of_frame, fate_of_segment, fate_of_whole, is_data, stray_of}
pub use Rattle.cf_lane.specs.Judged.{Judged, goes_on}
pub use Rattle.cf_lane.specs.Modbus.{HasCommandFate, of_its_acts, of_no_form, of_other_station}
pub use Rattle.cf_lane.specs.Parts.{part}
pub use Rattle.cf_lane.specs.Site.{asset_for, item_place, place_for}
pub use Rattle.cf_lane.specs.Unit.{Adu, Apdu, Frame, SpellsUnit, UnitValue}
pub use Rattle.cf_lane.specs.declared.fate.Fate.{Fate}
pub use Rattle.cf_leg.specs.Emits.{syn}
pub use Rattle.cf_leg.specs.Event.{LegEvent, greeted_by, said_by, sent_in}
pub use Rattle.cf_leg.specs.Segment.{has_syn, is_opening}
pub use Rattle.cf_modbus.specs.Adu.{AduValue}
pub use Rattle.cf_packet.specs.Packet.{PacketValue}
pub use Rattle.cf_policy.specs.AtEndpoint.{asset_place}
pub use Rattle.cf_policy.specs.Site.{SiteValue, asset_of, site_from}
pub use Rattle.cf_policy.specs.Verdict.{verdict_of}
pub use Rattle.cf_policy.specs.declared.Asset.{Asset}
pub use Rattle.cf_policy.specs.declared.Protocol.{Protocol}
pub use Rattle.cf_records.specs.Capture.{Record}
pub use Rattle.cf_run.proofs.Matched.{same_is}
pub use Rattle.cf_run.specs.Sessions.{HasRightEvents as IsRightSession, sessions_of}
pub use Rattle.cf_run.specs.Table.{Session}
pub use Rattle.cf_run.specs.Trace.{AreRunEvents, RunEvent}
pub use Rattle.cf_session.specs.Event.{AreEvents}
pub use Rattle.cf_session.specs.Laws.{HasLetter}
pub use Rattle.cf_session.specs.Sent.{Sent}
pub use Rattle.cf_session.specs.Session.{Flow, SessionEvent, client_of, controller_ends, controllers}
pub use Rattle.cf_stream.specs.Stream.{Letter, Stream, letter_at, letter_count}
pub use Rattle.cf_unobjected.specs.Allowed.{part_of}
pub use Rattle.cf_unobjected.specs.OneFlow.{Numbered, packets_of}
pub use Rattle.cf_unobjected.specs.PairFlows.{GoesTo, IsSpoken, SynsFirst, pair_on, pairs_on, sessions_on}
pub use Rattle.cf_unobjected.specs.Passed.{IsRightlyPassed}
pub use Rattle.cf_unobjected.specs.Separate.{goes_to_place, heard_on, is_to_place, pair_of}
pub use Rattle.cf_view.specs.Endpoints.{same_endpoint}
pub use Rattle.cf_view.specs.Framing.{Begins, IsPartial}
pub use Rattle.cf_view.specs.declared.Endpoint.{Endpoint}
pub use Rattle.cf_watch.specs.Carried.{Carried, HasBytes, HasConflict, IsConflictAfter, copy_of, offer_of, top_of}
pub use Rattle.cf_watch.specs.Flow.{AreFlowsOf, IsFlowOf}
pub use Rattle.cf_watch.specs.FlowValue.{FlowValue}
pub use Rattle.cf_watch.specs.Watched.{Watched, begins_anew, begun_by, carried_by, goes, goes_at, goes_to, is_between, last_place, watched, with_packet, with_record}
pub use Rattle.cf_watch.specs.declared.Conflict.{Conflict}
pub use Rattle.std.proofs.lemmas.Bool.{and_parts, cases_Bool, cases_lt, false≢true, true≢false}
pub use Rattle.std.proofs.lemmas.Bool.Decides.{nat_tests}
pub use Rattle.std.proofs.lemmas.List.{append-nil, length-take-le, map-append}
pub use Rattle.std.proofs.lemmas.Option.{none-some, same_Some, slice_get-get_or}
pub use Rattle.std.specs.List.{AllByRecursion, flat_map}
pub use Rattle.std.specs.Option.{option_or}
