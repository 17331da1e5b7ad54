-- What an item is that is refused, what decides, and what replies to it: one protocol after the other.
use Rattle.std.proofs.Common.{◌≡◌, ℕ, Bool, true, false, not, ◌||◌, nat_eq, nat_lt, List, [], ◌∷◌, ◌++◌, length, if◌then◌else◌, slice_index, Option, Some, None, Result, Ok, Err, refl, sym, ap, ◌∙◌, subst, inl, inr, arith}
use Rattle.cf_decode.proofs.Common.{Ack, Adu, Apdu, ApduValue, Asset, Control, Fate, Frame, FrameValue, HasItemFate, HasOwnDecider, Info, Item, Judged, Refusal, Says, SegmentAnswer, Side, Took, UnitValue, Why, answer_now, append-nil, completed, cond_both, events_of, fate_of_acts, fate_of_fragment, fate_of_frame, fate_of_segment, flat_map, fragment_frames, is_data, stray_of}
use Rattle.std.proofs.lemmas.Bool.{cases_Bool, true≢false}
use Rattle.std.proofs.lemmas.Bool.Decides.{nat_tests}
use Rattle.cf_asdu.specs.Asdu.{first_refusal, station_of}
use Rattle.cf_asdu.specs.Mirror.{mirrored}
use Rattle.cf_asdu.specs.declared.asdu.AsduRefusal.{AsduRefusal}
use Rattle.cf_audit.specs.declared.line.CutReason.{CutReason}
use Rattle.cf_dnpobj.specs.Fragment.{FragmentValue, read_octets, wants_reply}
use Rattle.cf_dnpobj.specs.Reply.{reply}
use Rattle.cf_dnpobj.specs.declared.fragment.FragmentRefusal.{FragmentRefusal}
use Rattle.cf_lane.specs.Dnp3.{fate_of_read, fate_of_whole, fragment_in, fragment_reply, frame_output, whole_now}
use Rattle.cf_lane.specs.Fate.{HasUnitFate}
use Rattle.cf_lane.specs.Iec104.{asdu_in, fate_by_form, fate_of_apdu, fate_of_asdu, fate_of_info, mirror_output, or_cut, stamped}
use Rattle.cf_lane.specs.Judged.{has_ended}
use Rattle.cf_lane.specs.Modbus.{HasCommandFate, adu_reply, of_its_acts, of_no_form, of_other_station}
use Rattle.cf_lane.specs.Numbers.{ack_cut, info_cut}
use Rattle.cf_lane.specs.Output.{item_output}
use Rattle.cf_lane.specs.Unit.{apdu_spelling}
use Rattle.cf_modbus.specs.Adu.{AduValue, spelling}
use Rattle.cf_modbus.specs.Exception.{exception_of}
use Rattle.cf_policy.specs.Verdict.{IsInside}
use Rattle.cf_renumber.specs.Counts.{mirror_stamp}
use Rattle.cf_view.specs.declared.Act.{Act}
use Rattle.cf_decode.specs.Told.{IsFragmentReply, IsReply, unless}
use Rattle.cf_decode.proofs.Commands.{by_item}
use Rattle.cf_decode.proofs.Deciding.{own_acts}
use Rattle.cf_asdu.specs.Acts as commands
use Rattle.cf_audit.specs.declared.line.Why.TheVariants as why
use Rattle.cf_dnpobj.specs.Acts as fragments
use Rattle.cf_dnptrans.specs.declared.assembly.SegmentAnswer.TheVariants as answers
use Rattle.cf_lane.specs.declared.fate.Fate.TheVariants as fate
use Rattle.cf_modbus.specs.Acts as requests
use Rattle.cf_view.specs.declared.Side.TheVariants as side

-- ---- what decides

module _ (asset : Asset) (says : Says) (inside : (act : Act) → IsInside asset.rules (says act)) where
  abbrev Own : Fate → Type 0
  Own f = HasOwnDecider asset.rules f

  own_command : (a : AduValue) (f : Fate) → HasCommandFate asset says a f → Own f
  own_command a f (of_other_station station is) = subst Own (sym is) tt
  own_command a f (of_no_form station refusal reads is) = subst Own (sym is) tt
  own_command a f (of_its_acts station r reads is) = subst Own (sym is) (own_acts asset says inside (requests.acts r))

  own_or : (b : Bool) (f g : Fate) → Own f → Own g → Own (if b then f else g)
  own_or b f g h k = cond_both b f g Own (λ yes. h) (λ no. k)

  own_read : (code : ℕ) (read : Result FragmentValue FragmentRefusal) → Own (fate_of_read asset says code read)
  own_read code (Ok f) = own_or (nat_eq f.code 0) fate.Carried (fate_of_acts asset says (fragments.acts f)) tt (own_acts asset says inside (fragments.acts f))
  own_read code (Err refusal) = tt

  own_fragment : (s : Side) (octets : List ℕ) → Own (fate_of_fragment asset says s octets)
  own_fragment side.Client octets = own_read (slice_index octets 1) (read_octets octets)
  own_fragment side.Controller octets = tt

  own_whole : (s : Side) (whole : List (List ℕ)) → Own (fate_of_whole asset says s whole)
  own_whole s [] = tt
  own_whole s (octets ∷ none) = own_or (nat_lt (length octets) 2) (fate.Stray why.Short) (fate_of_fragment asset says s octets) tt (own_fragment s octets)

  own_segment : (s : Side) (answer : SegmentAnswer) (whole : List (List ℕ)) → Own (fate_of_segment asset says s answer whole)
  own_segment s answers.Whole whole = own_whole s whole
  own_segment s _ whole = tt

  own_frame : (s : Side) (earlier : List Judged) (x : FrameValue) (o : Option Why) → Own (fate_of_frame asset says s earlier x o)
  own_frame s earlier x (Some because) = tt
  own_frame s earlier x None = own_or (is_data x) _ fate.Carried (own_segment s (answer_now asset s earlier x) (whole_now asset s earlier x)) tt

  own_form : (octets : List ℕ) (o : Option AsduRefusal) → Own (fate_by_form asset says octets o)
  own_form octets (Some refusal) = tt
  own_form octets None = own_acts asset says inside (commands.acts (asdu_in octets))

  own_asdu : (octets : List ℕ) → Own (fate_of_asdu asset says octets)
  own_asdu octets =
      own_or (nat_lt (length octets) 9) _ _ tt
      (own_or (nat_eq (station_of octets) asset.station) _ _ (own_form octets (first_refusal (asdu_in octets))) tt)

  own_info : (s : Side) (octets : List ℕ) → Own (fate_of_info asset says s octets)
  own_info side.Client octets = own_asdu octets
  own_info side.Controller octets = tt

  own_cut : (o : Option CutReason) (f : Fate) → Own f → Own (or_cut o f)
  own_cut None f h = h
  own_cut (Some because) f h = tt

  own_apdu : (s : Side) (earlier : List Judged) (a : ApduValue) → Own (fate_of_apdu asset says s earlier a)
  own_apdu s earlier (Control octet) = tt
  own_apdu s earlier (Ack receive) = own_cut (ack_cut s earlier receive) fate.Carried tt
  own_apdu s earlier (Info send receive asdu) = own_cut (info_cut s earlier send receive) _ (own_info s asdu)

  own_unit : (earlier : List Judged) (s : Side) (u : UnitValue) (f : Fate) → HasUnitFate asset says earlier s u f → Own f
  own_unit earlier side.Client (Adu a) f h = own_command a f h
  own_unit earlier side.Controller (Adu a) f h = subst Own (sym h) tt
  own_unit earlier s (Frame x) f h = subst Own (sym h) (own_frame s earlier x (stray_of asset s x))
  own_unit earlier s (Apdu a) f h = subst Own (sym h) (own_apdu s earlier a)

  pub own_item : (earlier : List Judged) (item : Item) (f : Fate) → HasItemFate asset says earlier item f → Own f
  own_item earlier (Took s u) f h = own_unit earlier s u f h
  own_item earlier _ f h = subst Own (sym h) tt

-- ---- what replies

adu_replied : (b : Bool) (refusal : Refusal) (a : AduValue) → adu_reply b (fate.Refused refusal) a ≡ unless b (spelling (exception_of a refusal.reason))
adu_replied true refusal a = refl
adu_replied false refusal a = refl

long_not_short : (n : ℕ) → nat_lt 8 n ≡ not (nat_lt n 9)
long_not_short n = elim (cases_Bool (nat_lt n 9)) [ inl short ↦ grind (arith, nat_tests) | inr long ↦ grind (arith, nat_tests) ]

unless_by : (b : Bool) (xs : List ℕ) → (if not b then xs else []) ≡ unless b xs
unless_by true xs = refl
unless_by false xs = refl

mirror_replied : (ended : Bool) (n : ℕ) (xs : List ℕ) → (if (if ended then false else nat_lt 8 n) then xs else []) ≡ unless (ended || nat_lt n 9) xs
mirror_replied true n xs = refl
mirror_replied false n xs = ap (λ b. if b then xs else []) (long_not_short n) ∙ unless_by (nat_lt n 9) xs

module _ (asset : Asset) (earlier : List Judged) (refusal : Refusal) where
  abbrev put : List ℕ → List ℕ
  put octets = fragment_frames asset side.Client earlier octets

  wanted : (w : Bool) (octets : List ℕ) → flat_map put ((if w then octets ∷ [] else []) ++ []) ≡ unless (not w) (put octets)
  wanted true octets = append-nil (put octets)
  wanted false octets = refl

  fragment_replied : (b : Bool) (octets : List ℕ) → flat_map put (fragment_reply b (fate.Refused refusal) (octets ∷ [])) ≡ unless (b || not (wants_reply (slice_index octets 1))) (put (reply octets refusal.reason))
  fragment_replied true octets = refl
  fragment_replied false octets = wanted (wants_reply (slice_index octets 1)) (reply octets refusal.reason)

module _ (asset : Asset) (says : Says) (refusal : Refusal) where
  abbrev Refuses : Fate → Type 0
  Refuses f = fate.Refused refusal ≡ f

  carried_none : (b : Bool) (f : Fate) → Refuses (if b then f else fate.Carried) → (b ≡ true) × Refuses f
  carried_none true f e = (refl, e)
  carried_none false f e = cc

  -- a fragment was completed
  completed_one : (answer : SegmentAnswer) (o : Option (List ℕ)) → Refuses (fate_of_segment asset says side.Client answer (completed answer o)) → (octets : List ℕ) × (completed answer o ≡ octets ∷ [])
  completed_one answers.Whole (Some octets) e = (octets, refl)
  completed_one _ _ e = cc

  cut_none : (o : Option CutReason) (f : Fate) → Refuses (or_cut o f) → Refuses f
  cut_none None f e = e
  cut_none (Some because) f e = cc

  -- ---- the reply to each

  module _ (earlier : List Judged) (j : Judged) (is : j.fate ≡ fate.Refused refusal) where
    abbrev ended : Bool
    ended = has_ended side.Controller earlier

    adu_reply_is : (a : AduValue) → adu_reply ended j.fate a ≡ unless ended (spelling (exception_of a refusal.reason))
    adu_reply_is a = ap (λ f. adu_reply ended f a) is ∙ adu_replied ended refusal a

    frame_reply_is : (x : FrameValue) → j.item ≡ Took side.Client (Frame x) → (o : Option Why) → Refuses (fate_of_frame asset says side.Client earlier x o) →
        IsFragmentReply asset ended earlier x refusal (frame_output asset side.Client earlier j side.Client x)
    frame_reply_is x item (Some because) e = cc
    frame_reply_is x item None e =
        let (is_of_data, segment) = carried_none (is_data x) _ e in
        let (octets, whole) = completed_one (answer_now asset side.Client earlier x) _ segment in
        let inner : fragment_in asset side.Client earlier j j.item ≡ fragment_reply ended (fate.Refused refusal) (octets ∷ []) =
        ap (fragment_in asset side.Client earlier j) item
        ∙ ap (λ b. if b then fragment_reply ended j.fate (whole_now asset side.Client earlier x) else []) is_of_data
        ∙ ap (λ f. fragment_reply ended f (whole_now asset side.Client earlier x)) is
        ∙ ap (fragment_reply ended (fate.Refused refusal)) whole in
        record {
          fragment = octets;
          is_whole = whole;
          is_reply = ap (λ b. if b then flat_map (fragment_frames asset side.Client earlier) (fragment_in asset side.Client earlier j j.item) else []) is_of_data
              ∙ ap (flat_map (fragment_frames asset side.Client earlier)) inner ∙ fragment_replied asset earlier refusal ended octets;
        }

    apdu_reply_is : (a : ApduValue) → Refuses (fate_of_apdu asset says side.Client earlier a) → IsReply asset ended earlier (Took side.Client (Apdu a)) refusal (mirror_output earlier j.fate a)
    apdu_reply_is (Control octet) e = cc
    apdu_reply_is (Ack receive) e = cc (cut_none (ack_cut side.Client earlier receive) fate.Carried e)
    apdu_reply_is (Info send receive asdu) e =
        ap (λ f. mirror_output earlier f (Info send receive asdu)) is ∙ mirror_replied ended (length asdu) (apdu_spelling (stamped (mirror_stamp (events_of earlier)) (mirrored asdu)))

    pub item_reply_is : (item : Item) → j.item ≡ item → HasItemFate asset says earlier item (fate.Refused refusal) → IsReply asset ended earlier item refusal (item_output asset side.Client earlier j item)
    item_reply_is (Took side.Client (Adu a)) e h = adu_reply_is a
    item_reply_is (Took side.Client (Frame x)) e h = frame_reply_is x e (stray_of asset side.Client x) h
    item_reply_is (Took side.Client (Apdu a)) e h = apdu_reply_is a h
    item_reply_is (Took side.Controller u) e h = absurd (true≢false (by_item asset says earlier (Took side.Controller u) (fate.Refused refusal) h).1)
    item_reply_is _ e h = cc
