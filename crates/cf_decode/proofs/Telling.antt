-- What is told of a refused command stands at its place.
use Rattle.std.proofs.Common.{◌≡◌, List, [], ◌∷◌, ◌++◌, refl, ap, ◌∙◌, subst, sym}
use Rattle.cf_decode.proofs.Common.{Admission, Apdu, HasItemFate, HasOwnDecider, Item, Judged, Refusal, Says, SiteValue, Took, asset_of, item_place, own, part, says_at}
use Rattle.cf_lane.specs.Caller.{Caller, caller_at}
use Rattle.cf_lane.proofs.Earlier.{in_turn-append}
use Rattle.cf_lane.proofs.Parting.{ended_part}
use Rattle.cf_lane.specs.Judged.{has_ended}
use Rattle.cf_lane.specs.Log.{admission_lines, command_octets, is_some_bytes, item_lines, line_about, lines, refusal_line, unit_lines}
use Rattle.cf_lane.specs.Output.{output, output_by}
use Rattle.cf_view.specs.declared.Endpoint.{Endpoint}
use Rattle.cf_decode.specs.Told.{IsReply, RefusedAreTold, ShownAreTold, bearing, item_asset, shown_octets}
use Rattle.cf_decode.proofs.Commands.{fate_behind}
use Rattle.cf_decode.proofs.Deciding.{says_inside}
use Rattle.cf_decode.proofs.Replies.{item_reply_is, own_item}
use Rattle.cf_lane.specs.declared.fate.Fate.TheVariants as fate
use Rattle.cf_view.specs.declared.Side.TheVariants as side

-- what the rules of the asset that an item is for say at its moment
abbrev says_of : SiteValue → Caller → List Judged → Judged → Says
says_of site client earlier j =
    let k = item_place site j.item in says_at (asset_of site k) (own k client) (part site k earlier) j.moment

-- what bears on an item tells whether a side has ended
ended_bearing : (site : SiteValue) (earlier : List Judged) (i : Item) → has_ended side.Controller (bearing site earlier i) ≡ has_ended side.Controller earlier
ended_bearing site earlier (Took s (Apdu a)) = refl
ended_bearing site earlier i = ended_part site (item_place site i) side.Controller earlier

module _ (site : SiteValue) (client : Endpoint) (earlier : List Judged) (j : Judged) (refusal : Refusal) (is : j.fate ≡ fate.Refused refusal) (says : Says) where
  -- its one line
  one_line : (item : Item) → HasItemFate (item_asset site item) says (bearing site earlier item) item (fate.Refused refusal) → j.item ≡ item →
      item_lines site client earlier j item
      ≡ line_about (item_asset site item) client j.moment (refusal_line (item_asset site item) refusal (is_some_bytes (output site side.Client earlier j)) (shown_octets site earlier item)) ∷ []
  one_line (Took s unit) h same =
      let here = Took s unit in
      ap (λ i. unit_lines (item_asset site here) client j.moment (is_some_bytes (output_by site (item_place site i) side.Client earlier j)) s (command_octets (item_asset site here) (bearing site earlier here) s unit) j.fate) (sym same)
      ∙ ap (unit_lines (item_asset site here) client j.moment (is_some_bytes (output site side.Client earlier j)) s (command_octets (item_asset site here) (bearing site earlier here) s unit)) is
  one_line _ h same = cc

-- an admitted command has the line that its fate shows
module _ (site : SiteValue) (client : Endpoint) (earlier : List Judged) (j : Judged) (admitted : Admission) (is : j.fate ≡ fate.Admitted admitted) (says : Says) where
  one_shown : (item : Item) → HasItemFate (item_asset site item) says (bearing site earlier item) item (fate.Admitted admitted) →
      item_lines site client earlier j item ≡ admission_lines (item_asset site item) client j.moment (shown_octets site earlier item) admitted
  one_shown (Took s unit) h =
      let here = Took s unit in
      ap (unit_lines (item_asset site here) client j.moment (is_some_bytes (output_by site (item_place site here) side.Client earlier j)) s (command_octets (item_asset site here) (bearing site earlier here) s unit)) is
  one_shown _ h = cc

pub are_shown : ShownAreTold
are_shown site past client history earlier later j admitted are is =
    let says = says_of site (caller_at client.address past) earlier j in
    let has : HasItemFate (item_asset site j.item) says (bearing site earlier j.item) j.item j.fate = fate_behind site (caller_at client.address past) [] earlier later j are.fates in
    let line = one_shown site client earlier j admitted is says j.item (subst (HasItemFate (item_asset site j.item) says (bearing site earlier j.item) j.item) is has) in
    record {
      in_log = in_turn-append (λ before k. item_lines site client before k k.item) [] earlier (j ∷ later)
          ∙ ap (λ ls. lines site client [] earlier ++ (ls ++ lines site client (earlier ++ j ∷ []) later)) line;
    }

pub are_told : RefusedAreTold
are_told site past client history earlier later j refusal are is =
    let asset = item_asset site j.item in
    let own_earlier = bearing site earlier j.item in
    let k = item_place site j.item in
    let says = says_of site (caller_at client.address past) earlier j in
    let has : HasItemFate asset says own_earlier j.item j.fate = fate_behind site (caller_at client.address past) [] earlier later j are.fates in
    let refused : HasItemFate asset says own_earlier j.item (fate.Refused refusal) = subst (HasItemFate asset says own_earlier j.item) is has in
    let line = one_line site client earlier j refusal is says j.item refused refl in
    record {
      decider = subst (HasOwnDecider asset.rules) is
          (own_item asset says (says_inside asset (own k (caller_at client.address past)) (part site k earlier) j.moment) own_earlier j.item j.fate has);
      replied = output site side.Client earlier j;
      is_reply = subst (λ b. IsReply asset b own_earlier j.item refusal (output site side.Client earlier j)) (ended_bearing site earlier j.item)
          (item_reply_is asset says refusal own_earlier j is j.item refl refused);
      in_stream = in_turn-append (output site side.Client) [] earlier (j ∷ later);
      in_log = in_turn-append (λ before k. item_lines site client before k k.item) [] earlier (j ∷ later)
          ∙ ap (λ ls. lines site client [] earlier ++ (ls ++ lines site client (earlier ++ j ∷ []) later)) line;
    }
