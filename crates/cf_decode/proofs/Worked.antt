-- What is worked by hand: rows of the stream to a controller, and two sessions.
use Rattle.std.proofs.Common.{List, [], ap, false, refl, subst, sym, ℕ, ◌∷◌, ◌≡◌, Bool, bytes_eq, not, slice_index, ◌||◌}
use Rattle.cf_decode.proofs.Common.{fragment_frames}
use Rattle.cf_asdu.specs.Acts.{acts}
use Rattle.cf_dnplink.specs.Crc.{after_octet, rounds}
use Rattle.cf_dnplink.specs.LinkFrame.{blocks_by}
use Rattle.cf_dnplink.specs.UserOctets.{user_by}
use Rattle.cf_dnpobj.specs.Fragment.{wants_reply}
use Rattle.cf_dnpobj.specs.Reply.{reply}
use Rattle.cf_lane.specs.Log.{lines}
use Rattle.cf_lane.specs.Rows.{direct_operate, dnp3_asset}
use Rattle.cf_policy.specs.Site.{alone}
use Rattle.cf_decode.specs.Rows.{RowsHold}
use Rattle.cf_decode.specs.ToldRows.{ToldRowsHold, admitted, by_none, exception, one_client, operated, pump, refused}
use Rattle.cf_decode.specs.Told.{IsReply, unless}
use Rattle.hex.specs.Hex.{encode_with}
use Rattle.std.proofs.lemmas.Bool.{false≢true}
use Rattle.std.specs.Fmt.{digits}
use Rattle.std.specs.List.{concat}
use Rattle.cf_view.specs.declared.Reason.TheVariants as reason
use Rattle.cf_view.specs.declared.Side.TheVariants as side

-- whether octets are these
abbrev are : List ℕ → List ℕ → Bool
are expected found = bytes_eq found expected

-- whether lines are those of the one session
abbrev are_its_lines : List (List ℕ) → Bool
are_its_lines found = bytes_eq (concat found) (concat (lines (alone pump) one_client [] (refused 1000000 ∷ admitted ∷ [])))

abbrev first_of : List (List ℕ) → List ℕ
first_of [] = []
first_of (octets ∷ more) = octets

-- what replies to a fragment that is refused for its function
abbrev replied_to : List ℕ → List ℕ
replied_to f = unless (false || not (wants_reply (slice_index f 1))) (fragment_frames dnp3_asset side.Client [] (reply f reason.Function))

no_frame : IsReply dnp3_asset false [] operated (by_none reason.Function) [] → ⊥
unfolding rounds after_octet blocks_by user_by
no_frame r =
    let same : direct_operate ≡ r.fragment = ap first_of r.is_whole in
    false≢true (sym (ap (are []) (subst (λ f. [] ≡ replied_to f) (sym same) r.is_reply)))

pub told_rows_hold : ToldRowsHold
unfolding rounds after_octet blocks_by user_by acts digits encode_with
told_rows_hold = record {
  one_log = refl;
  one_stream = refl;
  reply = refl;
  told = record { decider = tt; replied = exception 2; is_reply = refl; in_stream = refl; in_log = refl };
  shown = record { in_log = refl };
  other_log = refl;
  no_reply = refl;
  other_told = record { decider = tt; replied = []; is_reply = refl; in_stream = refl; in_log = refl };
  both_log = refl;
  both_stream = refl;
  both_told = record { decider = tt; replied = 0 ∷ 1 ∷ 0 ∷ 0 ∷ 0 ∷ 3 ∷ 2 ∷ 0x86 ∷ 1 ∷ []; is_reply = refl; in_stream = refl; in_log = refl };
  both_shown = record { in_log = refl };
  frame_reply = record { fragment = direct_operate; is_whole = refl; is_reply = refl };
  mirror_reply = refl;
  short_reply = refl;
  other_code = λ e. false≢true (ap (are (exception 2)) e);
  behind_the_end = λ e. false≢true (ap (are []) e);
  silence = λ e. false≢true (ap (are (exception 2)) e);
  no_frame = no_frame;
  no_mirror = λ e. false≢true (sym (ap (are []) e));
  of_a_controller = λ e. e;
  other_reason = λ t. false≢true (sym (ap are_its_lines t.in_log));
  other_act = λ t. false≢true (sym (ap are_its_lines t.in_log));
}

pub rows_hold : RowsHold
unfolding rounds after_octet blocks_by user_by acts
rows_hold = record {
  sequences = refl;
  of_all = refl;
  of_two = refl;
  unfinished_of_two = refl;
  of_both = refl;
  own_sequences = refl;
  other_sequences = refl;
  own_frames = refl;
  own_writes = refl;
  a_confirmation = refl;
  a_write = refl;
  an_admitted_command = refl;
  a_refused_command = refl;
}
