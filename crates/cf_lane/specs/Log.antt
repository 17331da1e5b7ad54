-- The lines of the log, `lines`: one for each refused command, each admitted one that a rule with a log allowed, each stray frame, and
-- bytes that are left at an end.
use Rattle.cf_audit.specs.Line.{Admit}
use Rattle.cf_audit.specs.Line.{Begun, Close, Cut, LineValue, Listen, Lost, NoMemory, Partial, Refuse, Silent, Stray, Unreached}
use Rattle.cf_audit.specs.Line.{Again, Away, Gone, Stands, Stranger, WhatValue}
use Rattle.cf_audit.specs.Text.{line_text}
use Rattle.cf_lane.specs.Dnp3.{frame_octets, is_fragment_unfinished}
use Rattle.cf_lane.specs.Iec104.{apdu_octets}
use Rattle.cf_lane.specs.Item.{Broke, Ended, Item, Took}
use Rattle.cf_lane.specs.Judged.{Judged, in_turn}
use Rattle.cf_lane.specs.Modbus.{adu_octets}
use Rattle.cf_lane.specs.Output.{output_by}
use Rattle.cf_lane.specs.Parts.{bears, part}
use Rattle.cf_lane.specs.Site.{place_for, places_of}
use Rattle.cf_lane.specs.Unit.{Adu, Apdu, Frame, UnitValue}
use Rattle.cf_lane.specs.declared.fate.Fate.{Fate}
use Rattle.cf_lane.specs.declared.fate.Admission.{Admission}
use Rattle.cf_lane.specs.declared.fate.Refusal.{Refusal}
use Rattle.cf_lane.specs.declared.fate.Shown.{Shown}
use Rattle.cf_policy.specs.Names.{is_name_byte, name_of}
use Rattle.cf_policy.specs.Site.{SiteValue, asset_of}
use Rattle.cf_policy.specs.declared.Asset.{Asset}
use Rattle.cf_policy.specs.declared.Protocol.{Protocol}
use Rattle.cf_view.specs.declared.Endpoint.{Endpoint}
use Rattle.cf_view.specs.declared.Side.{Side}
use Rattle.std.specs.List.{list_all, list_any}
use Rattle.std.specs.Prelude.{Bool, List, None, Option, Some, [], false, option_map, suc, true, zero, ℕ, ◌++◌, ◌∷◌, ◌≡◌}
use Rattle.cf_lane.specs.declared.fate.Fate.TheVariants as fate
use Rattle.cf_policy.specs.declared.Decider.TheVariants as decider
use Rattle.cf_policy.specs.declared.Protocol.TheVariants as protocol
use Rattle.cf_view.specs.declared.Side.TheVariants as side

-- a line about a client of an asset
abbrev pub line_about : Asset → Endpoint → ℕ → WhatValue → List ℕ
line_about asset client moment what =
    line_text (record { moment = moment; client = client; asset = asset.name; what = what })

-- a refused command, named by what decided; whether it had its reply; and its octets as they were received
abbrev pub refusal_line : Asset → Refusal → (replied : Bool) → List ℕ → WhatValue
refusal_line asset refusal replied octets = Refuse (name_of asset.rules refusal.decider) refusal.reason refusal.act replied octets

-- an admitted command, named by the rule whose log it is in, with the act that is shown; and its octets as they were received
abbrev pub admission_line : Asset → Shown → List ℕ → WhatValue
admission_line asset shown octets = Admit (name_of asset.rules (decider.Rule shown.rule)) shown.act octets

-- the line of an admitted command: none where no rule with a log allowed one of its acts
abbrev pub shown_lines : Asset → Endpoint → ℕ → (octets : List ℕ) → Option Shown → List (List ℕ)
shown_lines asset client moment octets None = []
shown_lines asset client moment octets (Some shown) = line_about asset client moment (admission_line asset shown octets) ∷ []

abbrev pub admission_lines : Asset → Endpoint → ℕ → (octets : List ℕ) → Admission → List (List ℕ)
admission_lines asset client moment octets admitted = shown_lines asset client moment octets admitted.shown

-- whether bytes were put out
abbrev pub is_some_bytes : List ℕ → Bool
is_some_bytes [] = false
is_some_bytes (x ∷ xs) = true

-- the octets that the line of a command shows: one case a protocol
abbrev pub command_octets : Asset → List Judged → Side → UnitValue → List ℕ
command_octets asset earlier s (Adu a) = adu_octets a
command_octets asset earlier s (Frame x) = frame_octets asset earlier s x
command_octets asset earlier s (Apdu a) = apdu_octets a

-- the lines of a unit: that of a refused command says if anything went to the client for it, and an admitted one may have one
abbrev pub unit_lines : Asset → Endpoint → ℕ → (replied : Bool) → Side → (octets : List ℕ) → Fate → List (List ℕ)
unit_lines asset client moment replied s octets (fate.Refused refusal) = line_about asset client moment
    (refusal_line asset refusal replied octets) ∷ []
unit_lines asset client moment replied s octets (fate.Stray because) = line_about asset client moment (Stray s because) ∷ []
unit_lines asset client moment replied s octets fate.Carried = []
unit_lines asset client moment replied s octets (fate.Admitted admitted) = admission_lines asset client moment octets admitted
unit_lines asset client moment replied s octets fate.Lengthens = []
unit_lines asset client moment replied s octets (fate.Cuts because) = []

-- more of a side is left unfinished than bytes that are no whole unit, of any asset by what concerns it: one case a protocol
abbrev pub has_unfinished : SiteValue → Protocol → Side → List Judged → Bool
has_unfinished site protocol.Modbus s earlier = false
has_unfinished site protocol.Dnp3 s earlier =
    list_any (λ k. is_fragment_unfinished (asset_of site k) s (part site k earlier)) (places_of site)
has_unfinished site protocol.Iec104 s earlier = false

-- a side ended; a line tells where bytes or a fragment are left
abbrev pub end_lines : Asset → Endpoint → ℕ → Side → (unfinished : Bool) → (rest : ℕ) → List (List ℕ)
end_lines asset client moment s false zero = []
end_lines asset client moment s true zero = line_about asset client moment (Partial s 0) ∷ []
end_lines asset client moment s unfinished (suc n) = line_about asset client moment (Partial s (suc n)) ∷ []

-- the lines of a unit under the name of the asset of a place
abbrev pub lines_by : SiteValue → (k : ℕ) → Endpoint → List Judged → Judged → Side → UnitValue → List (List ℕ)
lines_by site k client earlier j s unit =
    unit_lines (asset_of site k) client j.moment (is_some_bytes (output_by site k side.Client earlier j)) s
    (command_octets (asset_of site k) (bears (Took s unit) earlier (part site k earlier)) s unit) j.fate

-- the lines of an item: of a unit by its fate, under the name of the asset that it is for; of an End where octets are left over, under
-- that of the first; of a break none
abbrev pub item_lines : SiteValue → Endpoint → List Judged → Judged → Item → List (List ℕ)
item_lines site client earlier j (Took s unit) = lines_by site (place_for site s unit) client earlier j s unit
item_lines site client earlier j (Ended s rest) =
    end_lines site.first client j.moment s (has_unfinished site site.first.protocol s earlier) rest
item_lines site client earlier j (Broke s because) = []

-- the lines of items, each with its moment; that of a cut is its caller's
abbrev pub lines : SiteValue → Endpoint → List Judged → List Judged → List (List ℕ)
lines site client earlier js = in_turn (λ before j. item_lines site client before j j.item) earlier js

-- a log with more lines, where it is told
abbrev pub with_lines : Option (List (List ℕ)) → List (List ℕ) → Option (List (List ℕ))
with_lines log more = option_map (λ all. all ++ more) log

-- the names of a line are those of a policy, and have no line feed
abbrev pub HasPlainRule : WhatValue → Type 0
HasPlainRule Begun = Unit {0}
HasPlainRule (Refuse rule reason act replied unit) = list_all is_name_byte rule ≡ true
HasPlainRule (Admit rule act unit) = list_all is_name_byte rule ≡ true
HasPlainRule (Stray side why) = Unit {0}
HasPlainRule (Partial side count) = Unit {0}
HasPlainRule (Close admitted refused) = Unit {0}
HasPlainRule (Cut reason) = Unit {0}
HasPlainRule Listen = Unit {0}
HasPlainRule (Away came) = Unit {0}
HasPlainRule Unreached = Unit {0}
HasPlainRule Gone = Unit {0}
HasPlainRule (Stranger came) = Unit {0}
HasPlainRule (Lost admitted refused) = Unit {0}
HasPlainRule (Silent admitted refused) = Unit {0}
HasPlainRule (Again admitted refused) = Unit {0}
HasPlainRule NoMemory = Unit {0}
HasPlainRule (Stands standing admitted refused) = Unit {0}

abbrev pub HasPlainNames : LineValue → Type 0
HasPlainNames line = (list_all is_name_byte line.asset ≡ true) × HasPlainRule line.what
