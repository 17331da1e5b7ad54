-- The capture of two sessions that is worked by hand.
use Rattle.std.proofs.Common.{◌≡◌, ◌∷◌, List, [], ap, arith, get_or, map, refl, Some, ℕ, length}
use Rattle.cf_isolation.proofs.Common.{Sent, output_form, record_by}
use Rattle.cf_leg.specs.Emitted.{spelled}
use Rattle.cf_packet.specs.Checksum.{ones_sum}
use Rattle.cf_pcapng.specs.Block.{is_section}
use Rattle.cf_records.specs.Capture.{FileEnd, LastPlace, Record}
use Rattle.cf_records.specs.Records.{HaveOneList}
use Rattle.cf_isolation.specs.ReadBack.{ReadsAs}
use Rattle.cf_isolation.specs.FileRows.{FileRowsHold, file, one, one_record, other, other_record}

-- the end of the file
abbrev last : LastPlace
last = record { place = 152; found = FileEnd }

-- the stamps of records
abbrev stamps : List Record → List ℕ
stamps rs = map (λ r. r.stamp) rs

reads : ReadsAs file (one ∷ other ∷ [])
unfolding spelled ones_sum is_section
reads = record {
  has_form = refl;
  last = last;
  ends = refl;
  are = (Some one_record ∷ Some other_record ∷ [], (60, refl, (68, refl, (refl, refl, tt))), refl);
  packets = (refl, (refl, tt));
}

module _ (one_list : HaveOneList) where
  -- whatever the file is read as has these moments
  moments : (all : List Sent) → ReadsAs file all → stamps (map record_by all) ≡ 1000000 ∷ 2500001 ∷ []
  moments all r = ap stamps (one_list output_form 24 _ _ _ r.last reads.last r.are reads.are).0

  pub file_rows_hold : FileRowsHold
  unfolding spelled ones_sum
  file_rows_hold = record {
    written = refl;
    records = refl;
    reads = reads;
    one_again = refl;
    other_again = refl;
    other_order = λ r. (let e = ap (λ ms. get_or ms 0 0) (moments (other ∷ one ∷ []) r) in omega (arith, e));
    one_alone = λ r. (let e = ap length (moments (one ∷ []) r) in omega (arith, e));
    other_moment = λ r. (let e = ap (λ ms. get_or ms 0 0) (moments (record one { moment = 1000001 } ∷ other ∷ []) r) in omega (arith, e));
    changed = refl;
    one_may = record { moment = omega arith; packet = record { short = omega arith; bare = refl; flags = omega arith } };
    other_may = record { moment = omega arith; packet = record { short = omega arith; bare = tt; flags = omega arith } };
    both_may_not = λ m. (let e = m.packet.bare in omega (arith, e));
    seven_flags_may_not = λ m. (let e = m.packet.flags in omega (arith, e));
  }
