-- The names that most proofs of this crate cite, passed on from one place. Declares nothing.
pub use Rattle.cf_apci.specs.Apdu.{Ack, ApduValue, Control, Info}
pub use Rattle.cf_audit.specs.declared.line.Why.{Why}
pub use Rattle.cf_decode.specs.Units.{Addresses, Fragment, Passed, Whole, addresses_of, data_frame, start_behind, units_from, units_of}
pub use Rattle.cf_dnplink.proofs.Reading.{user_again}
pub use Rattle.cf_dnplink.specs.LinkFrame.{FrameValue}
pub use Rattle.cf_dnplink.specs.UserOctets.{user_of}
pub use Rattle.cf_dnptrans.specs.Passing.{completed}
pub use Rattle.cf_dnptrans.specs.Segments.{count_of}
pub use Rattle.cf_dnptrans.specs.Transport.{last_fragment}
pub use Rattle.cf_dnptrans.specs.declared.assembly.SegmentAnswer.{SegmentAnswer}
pub use Rattle.cf_lane.specs.Acts.{fate_of_acts}
pub use Rattle.cf_lane.specs.Caller.{Caller, own}
pub use Rattle.cf_lane.specs.Dnp3.{answer_now, fate_of_fragment, fate_of_frame, fate_of_segment, fragment_frames, is_data, stray_of}
pub use Rattle.cf_lane.specs.Fate.{HasItemFate, HasOwnDecider}
pub use Rattle.cf_lane.specs.Item.{Item, Took}
pub use Rattle.cf_lane.specs.Judged.{Judged}
pub use Rattle.cf_lane.specs.Numbers.{events_of}
pub use Rattle.cf_lane.specs.Parts.{bears, concerns, part}
pub use Rattle.cf_lane.specs.Rates.{Says, says_at}
pub use Rattle.cf_lane.specs.Site.{item_place}
pub use Rattle.cf_lane.specs.Unit.{Adu, Apdu, Frame, UnitValue, unit_spelling}
pub use Rattle.cf_lane.specs.declared.fate.Admission.{Admission}
pub use Rattle.cf_lane.specs.declared.fate.Fate.{Fate}
pub use Rattle.cf_lane.specs.declared.fate.Refusal.{Refusal}
pub use Rattle.cf_policy.specs.Site.{SiteValue, asset_of, assets_of}
pub use Rattle.cf_policy.specs.declared.Asset.{Asset}
pub use Rattle.cf_view.specs.declared.Side.{Side}
pub use Rattle.std.proofs.lemmas.Bool.{cond_both}
pub use Rattle.std.proofs.lemmas.List.{append-nil}
pub use Rattle.std.proofs.lemmas.List.Concat.{flat_map-cons}
pub use Rattle.std.specs.List.{AllByRecursion, flat_map}
