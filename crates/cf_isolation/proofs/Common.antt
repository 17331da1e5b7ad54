-- The names that most proofs of this crate cite, passed on from one place. Declares nothing.
pub use Rattle.cf_audit.specs.declared.CutReason.{CutReason}
pub use Rattle.cf_isolation.specs.Lines.{moment_in, names_both}
pub use Rattle.cf_isolation.specs.Lives.{born_at, is_in_life}
pub use Rattle.cf_isolation.specs.ReadBack.{output_form, record_by}
pub use Rattle.cf_isolation.specs.Records.{goes_between, is_during}
pub use Rattle.cf_leg.specs.Emits.{AllRight, IsRight}
pub use Rattle.cf_leg.specs.Event.{LegEvent, moment, said_by}
pub use Rattle.cf_leg.specs.declared.ends.Ends.{Ends}
pub use Rattle.cf_leg.specs.declared.ends.Role.{Role}
pub use Rattle.cf_packet.specs.Packet.{PacketValue}
pub use Rattle.cf_packet.specs.Written.{IsWritable}
pub use Rattle.cf_packet.specs.declared.packet.PacketRefusal.{PacketRefusal}
pub use Rattle.cf_policy.specs.declared.Asset.{Asset}
pub use Rattle.cf_run.proofs.Matched.{same_is}
pub use Rattle.cf_run.specs.Isolation.{HasSession, begins_theirs, goes_to_theirs, is_flow_of, is_theirs, moments_of, ticks_of}
pub use Rattle.cf_run.specs.Selected.{Rises}
pub use Rattle.cf_run.specs.Sessions.{HasEvents, HasRightEvents as IsRightSession, SessionsAreRight, gone_after, leaves, left_by_packet, session_at, sessions_of}
pub use Rattle.cf_run.specs.Summary.{found}
pub use Rattle.cf_run.specs.Table.{Session, is_between}
pub use Rattle.cf_run.specs.Trace.{AreRunEvents, AreTicks, Begun, Dropped, GoesOnAt, Input, NoRoom, NoSession, Received, ReceivesRecord, RunEvent, Went, kept, sent, sent_received, stays, table_after, tick_of, ticked, with_event_at, with_events}
pub use Rattle.cf_session.specs.Event.{AreRight, IsBeginning, IsPacket, IsTick}
pub use Rattle.cf_session.specs.Laws.{EventsAreFixed}
pub use Rattle.cf_session.specs.Sent.{Sent, at, is_first_half, logged_first, logged_second, sent_first, sent_second}
pub use Rattle.cf_session.specs.Session.{Flow, SessionEvent, client_ends, client_of, controller_ends, is_expired}
pub use Rattle.cf_view.specs.Endpoints.{same_endpoint}
pub use Rattle.cf_view.specs.declared.Endpoint.{Endpoint}
pub use Rattle.cf_view.specs.declared.Side.{Side}
pub use Rattle.std.proofs.lemmas.Bool.{and_parts, true≢false}
pub use Rattle.std.proofs.lemmas.Bool.Decides.{nat_tests}
pub use Rattle.std.proofs.lemmas.List.{append-nil}
pub use Rattle.std.proofs.lemmas.List.Elements.{filter-append}
pub use Rattle.std.specs.List.{AllByRecursion, flat_map, remove}
