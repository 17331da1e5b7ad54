-- Steps of the proof: what an APDU does to numbers, queues and log of an IEC 60870-5-104 lane, whatever came before it: `TakesApdu`.
use Rattle.cf_lane.specs.Rates.{Says}
use Rattle.cf_apci.specs.Apdu.{ApduValue}
use Rattle.cf_asdu.specs.Mirror.{mirrored}
use Rattle.cf_audit.specs.declared.line.CutReason.{CutReason}
use Rattle.cf_lane.specs.Handled.{MayHaveMore}
use Rattle.cf_lane.specs.Iec104.{apdu_octets, apdu_output, fate_of_apdu, stamped}
use Rattle.cf_lane.specs.Item.{Took}
use Rattle.cf_lane.specs.Judged.{Judged, fate_cut, has_ended}
use Rattle.cf_lane.specs.Log.{is_some_bytes, unit_lines, with_lines}
use Rattle.cf_lane.specs.Numbers.{events_of, item_event}
use Rattle.cf_lane.specs.Unit.{Apdu, apdu_spelling}
use Rattle.cf_lane.specs.declared.fate.Fate.{Fate}
use Rattle.cf_outq.specs.SendQueue.{Queue, after_push}
use Rattle.cf_policy.specs.declared.Asset.{Asset}
use Rattle.cf_renumber.specs.Numbers.{IsNumbersOf, NumbersValue}
use Rattle.cf_renumber.specs.declared.answer.Stamp.{Stamp}
use Rattle.cf_view.specs.declared.Endpoint.{Endpoint}
use Rattle.cf_view.specs.declared.Side.{Side}
use Rattle.std.specs.Prelude.{List, None, Option, Some, [], reverse, true, ℕ, ◌++◌, ◌≡◌}
use Rattle.cf_view.specs.declared.Side.TheVariants as side

-- the numbers with the two queues and the log
pub record Numbered : Type 0 where
  pub numbers : NumbersValue
  pub to_client : Queue
  pub to_controller : Queue
  pub lines : Option (List (List ℕ))

abbrev pub numbered : NumbersValue → Queue → Queue → Option (List (List ℕ)) → Numbered
numbered numbers to_client to_controller lines = record
    { numbers = numbers; to_client = to_client; to_controller = to_controller; lines = lines }

-- what an APDU of a side does after earlier items: its fate, the streams to both sides, its lines, and the numbers
pub record DoesApdu (asset : Asset) (says : Says) (client : Endpoint) (moment : ℕ) (s : Side) (a : ApduValue) (f : Fate)
    (old new : Numbered) (earlier : List Judged) : Type 0 where
  pub fate : f ≡ fate_of_apdu asset says s earlier a
  pub numbers : fate_cut f ≡ None → IsNumbersOf new.numbers (reverse (item_event earlier f (Took s (Apdu a))) ++ events_of earlier)
  pub of_client : new.to_client ≡ after_push old.to_client (apdu_output side.Client earlier f s a)
  pub of_controller : new.to_controller ≡ after_push old.to_controller (apdu_output side.Controller earlier f s a)
  pub of_lines : new.lines ≡ with_lines old.lines (unit_lines asset client moment (is_some_bytes (apdu_output side.Client earlier f s a)) s
      (apdu_octets a) f)
  -- nothing follows an End
  pub client_quiet : old.to_client.ended ≡ true → apdu_output side.Client earlier f s a ≡ []
  pub controller_quiet : old.to_controller.ended ≡ true → apdu_output side.Controller earlier f s a ≡ []

-- an APDU of a side was taken by its fate, whatever items came before
abbrev pub TakesApdu : Asset → Says → Endpoint → (moment : ℕ) → Side → ApduValue → Fate → (old new : Numbered) → Type 0
TakesApdu asset says client moment s a f old new =
    (earlier : List Judged) → IsNumbersOf old.numbers (events_of earlier) → old.to_client.ended ≡ has_ended side.Controller earlier →
    DoesApdu asset says client moment s a f old new earlier

-- an APDU was taken but for its line, of which the log may have a part or all
pub record MissesApdu (asset : Asset) (says : Says) (client : Endpoint) (moment : ℕ) (s : Side) (a : ApduValue) (old : Numbered)
    (log : Option (List (List ℕ))) (part : List ℕ) : Type 0 where
  pub fate : Fate
  pub uncut : fate_cut fate ≡ None
  pub new : Numbered
  pub takes : TakesApdu asset says client moment s a fate old new
  pub more : List (List ℕ)
  pub are_more : (earlier : List Judged) → IsNumbersOf old.numbers (events_of earlier)
      → old.to_client.ended ≡ has_ended side.Controller earlier →
      unit_lines asset client moment (is_some_bytes (apdu_output side.Client earlier fate s a)) s (apdu_octets a) fate ≡ more
  pub line : MayHaveMore more old.lines log part

-- the mirror of an ASDU, where it has numbers
abbrev pub mirror_octets : Option Stamp → (asdu : List ℕ) → List ℕ
mirror_octets None asdu = []
mirror_octets (Some stamp) asdu = apdu_spelling (stamped stamp (mirrored asdu))

-- the octets that go out at most for one that does not cut, and none for one that does
abbrev pub unless_cut_by : Option CutReason → ℕ → ℕ
unless_cut_by None n = n
unless_cut_by (Some reason) n = 0

abbrev pub unless_cut : Fate → ℕ → ℕ
unless_cut f n = unless_cut_by (fate_cut f) n
