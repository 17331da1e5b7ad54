use Rattle.std.proofs.Common.{refl}
use Rattle.cf_asdu.specs.Acts.{acts}
use Rattle.cf_dnplink.specs.Crc.{after_octet, rounds}
use Rattle.cf_dnplink.specs.LinkFrame.{blocks_by}
use Rattle.cf_dnplink.specs.UserOctets.{user_by}
use Rattle.cf_lane.proofs.rows.rows_hold.Goals as goal

pub returns : goal.returns
unfolding rounds after_octet blocks_by user_by acts
returns c = record {
  crc = refl;
  refused_then_admitted_controller = refl;
  refused_then_admitted_client = refl;
  refused_behind_data_controller = refl;
  refused_behind_data_mirror = refl;
  wrong_send_cut = refl;
  acks_of_a_refusal_controller = refl;
  acks_of_a_refusal_mirror = refl;
  other_station_client = refl;
  refused_in_a_fragment_reply = refl;
  refused_in_a_fragment_first = refl;
  refused_in_a_fragment_second = refl;
  refused_in_a_fragment_third = refl;
  refused_direct_operate_controller = refl;
  refused_direct_operate_client = refl;
  other_master_none = refl;
  a_write_refused_then_one_admitted_controller = refl;
  a_write_refused_then_one_admitted_client = refl;
  refused_behind_the_end_client = refl;
  broken_behind_a_write_cut = refl;
  broken_behind_a_write_controller = refl;
  broken_behind_a_write_log = refl;
  interleaved_controller = refl;
  interleaved_client = refl;
  interleaved_log = refl;
  by_stations_controller = refl;
  by_stations_client = refl;
  by_stations_log = refl;
}
