-- What of a history goes to the controller, in the policy's words, `Passes`: of the client's commands those that are allowed, and what
-- is no command.
use Rattle.cf_apci.specs.Apdu.{Ack, ApduValue, Control, Info}
use Rattle.cf_asdu.specs.Asdu.{first_refusal, station_of}
use Rattle.cf_audit.specs.declared.line.CutReason.{CutReason}
use Rattle.cf_dnplink.specs.LinkFrame.{FrameValue}
use Rattle.cf_dnpobj.specs.Fragment.{FragmentValue, read_octets}
use Rattle.cf_dnpobj.specs.declared.fragment.FragmentRefusal.{FragmentRefusal}
use Rattle.cf_lane.specs.Dnp3.{fragment_frames, is_data, is_none, stray_of, whole_now}
use Rattle.cf_lane.specs.Iec104.{ack_octets, asdu_in, stamped}
use Rattle.cf_lane.specs.Item.{Broke, Ended, Item, Took}
use Rattle.cf_lane.specs.Judged.{Judged}
use Rattle.cf_lane.specs.Numbers.{ack_cut, events_of, info_cut}
use Rattle.cf_lane.specs.Unit.{Adu, Apdu, Frame, apdu_spelling, frame_spelling}
use Rattle.cf_modbus.specs.Adu.{AduValue, spelling}
use Rattle.cf_modbus.specs.Request.{Reads, RequestValue}
use Rattle.cf_policy.specs.Laws.{IsAllowed}
use Rattle.cf_lane.specs.Caller.{Caller, own}
use Rattle.cf_lane.specs.Parts.{bears, part}
use Rattle.cf_lane.specs.Rates.{Says, says_at}
use Rattle.cf_lane.specs.Site.{item_place}
use Rattle.cf_policy.specs.Site.{SiteValue, asset_of}
use Rattle.cf_policy.specs.declared.Asset.{Asset}
use Rattle.cf_renumber.specs.Counts.{admitted_stamp, client_translated, owed_ack}
use Rattle.cf_view.specs.declared.Act.{Act}
use Rattle.std.specs.List.{AllByRecursion}
use Rattle.std.specs.Prelude.{Bool, Err, List, None, Ok, Option, Result, Some, [], false, length, nat_eq, nat_lt, true, ℕ, ◌%◌, ◌++◌, ◌∷◌}
use Rattle.std.specs.Prelude.{◌≡◌, ◌≤◌, ◌⊎◌}
use Rattle.cf_asdu.specs.Acts as asdus
use Rattle.cf_dnpobj.specs.Acts as fragments
use Rattle.cf_modbus.specs.Acts as requests
use Rattle.cf_view.specs.declared.Side.TheVariants as side

-- each act is allowed, by a rule that is not spent
abbrev pub AreAllowed : Says → List Act → Type 0
AreAllowed says acts = AllByRecursion (λ act. IsAllowed (says act)) acts

-- Modbus: the station is the asset's, the form is read, and each act is allowed
pub record IsAllowedCommand (asset : Asset) (says : Says) (a : AduValue) : Type 0 where
  pub station : a.unit ≡ asset.station
  pub request : RequestValue
  pub form : Reads (Ok request) a.pdu
  pub each : AreAllowed says (requests.acts request)

-- DNP3: the form is read, and each act is allowed. The station is that of the frames
pub record IsAllowedFragment (asset : Asset) (says : Says) (octets : List ℕ) : Type 0 where
  pub value : FragmentValue
  pub form : read_octets octets ≡ Ok value
  pub each : AreAllowed says (fragments.acts value)

-- IEC 60870-5-104: the station is the asset's, the form is right, and each act is allowed
pub record IsAllowedAsdu (asset : Asset) (says : Says) (octets : List ℕ) : Type 0 where
  pub whole : 9 ≤ length octets
  pub station : station_of octets ≡ asset.station
  pub form : first_refusal (asdu_in octets) ≡ None
  pub each : AreAllowed says (asdus.acts (asdu_in octets))

-- octets that stand at the front, and behind which what follows is right
abbrev pub Leaves : List ℕ → (List ℕ → Type 0) → List ℕ → Type 0
Leaves octets Rest out = (rest : List ℕ) × (out ≡ octets ++ rest) × Rest rest

-- a command goes on in these octets exactly where it is allowed; where it is not, other octets may stand for it
abbrev pub Goes : (Allowed : Type 0) → (octets refused : List ℕ) → (List ℕ → Type 0) → List ℕ → Type 0
Goes Allowed octets refused Rest out = (Allowed × Leaves octets Rest out) ⊎ ((Allowed → ⊥) × Leaves refused Rest out)

-- a fragment that confirms is no command
abbrev pub confirms : Result FragmentValue FragmentRefusal → Bool
confirms (Ok f) = nat_eq f.code 0
confirms (Err refusal) = false

-- a confirmation goes, and another fragment exactly where the policy allows it
abbrev pub CommandGoes : (confirming : Bool) → Asset → Says → List Judged → List ℕ → (List ℕ → Type 0) → List ℕ → Type 0
CommandGoes true asset says earlier octets Rest out = Leaves (fragment_frames asset side.Controller earlier octets) Rest out
CommandGoes false asset says earlier octets Rest out =
    Goes (IsAllowedFragment asset says octets) (fragment_frames asset side.Controller earlier octets) [] Rest out

-- fewer than two octets are no fragment
abbrev pub FragmentGoes : (short : Bool) → Asset → Says → List Judged → List ℕ → (List ℕ → Type 0) → List ℕ → Type 0
FragmentGoes true asset says earlier octets Rest out = Leaves [] Rest out
FragmentGoes false asset says earlier octets Rest out = CommandGoes (confirms (read_octets octets)) asset says earlier octets Rest out

-- a fragment that is whole goes so, and where none is whole nothing does
abbrev pub WholeGoes : (whole : List (List ℕ)) → Asset → Says → List Judged → (List ℕ → Type 0) → List ℕ → Type 0
WholeGoes [] asset says earlier Rest out = Leaves [] Rest out
WholeGoes (octets ∷ none) asset says earlier Rest out = FragmentGoes (nat_lt (length octets) 2) asset says earlier octets Rest out

-- a client's frame that is served: the fragment that it completes is cut anew, and a link status frame goes as it is
abbrev pub FrameGoes : (served with_data : Bool) → Asset → Says → List Judged → FrameValue → (List ℕ → Type 0) → List ℕ → Type 0
FrameGoes false with_data asset says earlier x Rest out = Leaves [] Rest out
FrameGoes true true asset says earlier x Rest out = WholeGoes (whole_now asset side.Client earlier x) asset says earlier Rest out
FrameGoes true false asset says earlier x Rest out = Leaves (frame_spelling x) Rest out

-- a client's I frame whose numbers are right goes on with those of its place; a refused one may leave an S frame
abbrev pub InfoGoes : (cut : Option CutReason) → Asset → Says → List Judged → (receive : ℕ) → (asdu : List ℕ) → (List ℕ → Type 0) → List ℕ
    → Type 0
InfoGoes (Some because) asset says earlier receive asdu Rest out = Leaves [] Rest out
InfoGoes None asset says earlier receive asdu Rest out =
    Goes (IsAllowedAsdu asset says asdu) (apdu_spelling (stamped (admitted_stamp (events_of earlier) receive) asdu))
    (ack_octets (owed_ack (events_of earlier) receive))
    Rest out

-- an S frame goes with its number translated, and nothing does where its number cuts
abbrev pub AckGoes : (cut : Option CutReason) → List Judged → (receive : ℕ) → (List ℕ → Type 0) → List ℕ → Type 0
AckGoes (Some because) earlier receive Rest out = Leaves [] Rest out
AckGoes None earlier receive Rest out = Leaves (apdu_spelling (Ack (client_translated (events_of earlier) receive % 32768))) Rest out

-- an APDU of the client goes so, by its format
abbrev pub ApduGoes : Asset → Says → List Judged → ApduValue → (List ℕ → Type 0) → List ℕ → Type 0
ApduGoes asset says earlier (Info send receive asdu) Rest out =
    InfoGoes (info_cut side.Client earlier send receive) asset says earlier receive asdu Rest out
ApduGoes asset says earlier (Ack receive) Rest out = AckGoes (ack_cut side.Client earlier receive) earlier receive Rest out
ApduGoes asset says earlier (Control octet) Rest out = Leaves (apdu_spelling (Control octet)) Rest out

-- what an item puts into the stream to the controller, and what follows it there
abbrev pub ItemGoes : Asset → Says → List Judged → Item → (List ℕ → Type 0) → List ℕ → Type 0
ItemGoes asset says earlier (Took side.Client (Adu a)) Rest out = Goes (IsAllowedCommand asset says a) (spelling a) [] Rest out
ItemGoes asset says earlier (Took side.Client (Frame x)) Rest out = FrameGoes (is_none (stray_of asset side.Client x)) (is_data x) asset
    says earlier x Rest out
ItemGoes asset says earlier (Took side.Client (Apdu a)) Rest out = ApduGoes asset says earlier a Rest out
ItemGoes asset says earlier (Took side.Controller u) Rest out = Leaves [] Rest out
ItemGoes asset says earlier (Ended s n) Rest out = Leaves [] Rest out
ItemGoes asset says earlier (Broke s b) Rest out = Leaves [] Rest out

-- what an item puts there by the asset of a place, after the earlier items that bear on it: only that asset's rules, and what its own
-- commands used of them, decide whether it goes
abbrev pub GoesBy : SiteValue → (k : ℕ) → Caller → List Judged → Judged → (List ℕ → Type 0) → List ℕ → Type 0
GoesBy site k client earlier j Rest out =
    ItemGoes (asset_of site k) (says_at (asset_of site k) (own k client) (part site k earlier) j.moment)
    (bears j.item earlier (part site k earlier)) j.item Rest out

-- what items put there one after the other, after the earlier ones, each by the asset that it is for
abbrev pub Passes : SiteValue → Caller → (earlier js : List Judged) → List ℕ → Type 0
Passes site client earlier [] out = out ≡ []
Passes site client earlier (j ∷ js) out = GoesBy site (item_place site j.item) client earlier j (Passes site client (earlier ++ j ∷ []) js) out
