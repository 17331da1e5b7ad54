-- Acts that are added to what was seen.
use Rattle.std.proofs.Common.{◌≡◌, ◌≢◌, ℕ, ◌+◌, ◌≤◌, ◌⊎◌, ◌↔◌, inl, inr, List, [], ◌∷◌, ◌++◌, length, map, take, slice_get, Some, Result, Ok, Err, refl, sym, ap, subst, ◌∙◌, append_assoc}
use mathlib.Core.Logic.{⊎_elim}
use Rattle.std.specs.Prelude.{Contains}
use Rattle.std.proofs.lemmas.List.{append-nil, map-append, take_all, take_more}
use Rattle.std.proofs.lemmas.List.Elements.{Contains-append_left, Contains-append_right, Contains-append_cases}
use Rattle.std.proofs.lemmas.Option.{get_or_from_slice_get, slice_get_within}
use Rattle.cf_asdu.specs.Acts as asdu_acts
use Rattle.cf_asdu.specs.Asdu.{AsduValue}
use Rattle.cf_asdu.specs.Asdu as asdus
use Rattle.cf_asdu.specs.declared.AsduRefusal.{AsduRefusal}
use Rattle.cf_dnpobj.proofs.Grammar.{read_is_spelled}
use Rattle.cf_dnpobj.specs.Acts as fragment_acts
use Rattle.cf_dnpobj.specs.Fragment.{FragmentValue, read_octets}
use Rattle.cf_dnpobj.specs.declared.FragmentRefusal.{FragmentRefusal}
use Rattle.cf_modbus.specs.Acts as request_acts
use Rattle.cf_modbus.specs.Adu.{AduValue}
use Rattle.cf_modbus.specs.Request.{RequestValue}
use Rattle.cf_modbus.specs.Request as requests
use Rattle.cf_modbus.specs.declared.RequestRefusal.{RequestRefusal}
use Rattle.cf_policy.specs.declared.Asset.{Asset}
use Rattle.cf_policy.specs.declared.Protocol.{Protocol}
use Rattle.cf_policy.specs.declared.Protocol.TheVariants.{Modbus, Dnp3, Iec104}
use Rattle.cf_view.specs.Octets.{IsOctets}
use Rattle.cf_view.specs.declared.Act.{Act}
use Rattle.cf_learn.specs.Reading.{Adds}
use Rattle.cf_learn.specs.Seen.{act_of, seen_of}
use Rattle.cf_learn.specs.Shown.{Asdu, Fragment, HasAct, HaveAct, Message, Request}
use Rattle.cf_learn.specs.declared.seen.Seen.{Seen}
use Rattle.cf_learn.proofs.Elements.{first, nothing, only, place}

-- nothing is added where no act is so
pub adds_none : (p : Protocol) (client : ℕ) (P : Act → Type 0) (old new : List Seen) → new ≡ old → ((act : Act) → P act → ⊥) → Adds p client P old new
adds_none p client P old new same none = record {
  acts = [];
  appended = same ∙ sym (append-nil old);
  exactly = λ act. (λ h. absurd (nothing act h), λ h. absurd (none act h));
  of_commands = λ act h. absurd (nothing act h);
}

-- the same acts in other words
pub adds_same : (p : Protocol) (client : ℕ) (P Q : Act → Type 0) (old new : List Seen) → ((act : Act) → P act ↔ Q act) → Adds p client P old new → Adds p client Q old new
adds_same p client P Q old new same a = record {
  acts = a.acts;
  appended = a.appended;
  exactly = λ act. (λ h. (same act).0 ((a.exactly act).0 h), λ h. (a.exactly act).1 ((same act).1 h));
  of_commands = a.of_commands;
}

-- some acts and then others
pub adds_both : (p : Protocol) (client : ℕ) (P Q R : Act → Type 0) (old now new : List Seen) → ((act : Act) → (P act ⊎ Q act) ↔ R act) → Adds p client P old now → Adds p client Q now new
    → Adds p client R old new
adds_both p client P Q R old now new same a b = record {
  acts = a.acts ++ b.acts;
  appended =
      b.appended ∙ (ap (λ l. l ++ map (seen_of client) b.acts) a.appended
      ∙ (append_assoc old (map (seen_of client) a.acts) (map (seen_of client) b.acts) ∙ ap (λ l. old ++ l) (sym (map-append (seen_of client) a.acts b.acts))));
  exactly = λ act. (
    λ h. (same act).0 (⊎_elim (λ x. inl ((a.exactly act).0 x)) (λ y. inr ((b.exactly act).0 y)) (Contains-append_cases a.acts b.acts act h)),
    λ h. ⊎_elim
        (λ x. Contains-append_left a.acts b.acts act ((a.exactly act).1 x))
        (λ y. Contains-append_right a.acts b.acts act ((b.exactly act).1 y))
        ((same act).1 h),
  );
  of_commands = λ act h. ⊎_elim (λ x. a.of_commands act x) (λ y. b.of_commands act y) (Contains-append_cases a.acts b.acts act h);
}

-- the acts of one message, and of none
pub have_one : (p : Protocol) (asset : Asset) (client : ℕ) (old new : List Seen) (ms : List Message) (m : Message) → ms ≡ m ∷ [] → Adds p client (HasAct asset m) old new
    → Adds p client (HaveAct asset ms) old new
have_one p asset client old new ms m is a =
    subst (λ l. Adds p client (HaveAct asset l) old new) (sym is) (adds_same p client (HasAct asset m) (HaveAct asset (m ∷ [])) old new (λ act. (
      λ h. (m, first m [], h),
      λ h. subst (λ n. HasAct asset n act) (sym (only m h.0 h.1)) h.2,
    )) a)

pub have_none : (p : Protocol) (asset : Asset) (client : ℕ) (old new : List Seen) (ms : List Message) → ms ≡ [] → new ≡ old → Adds p client (HaveAct asset ms) old new
have_none p asset client old new ms is same =
    subst (λ l. Adds p client (HaveAct asset l) old new) (sym is) (adds_none p client (HaveAct asset []) old new same (λ act h. nothing h.0 h.1))

-- what was seen is a client and an act
pub seen_is : (s : Seen) (client : ℕ) (act : Act) → s.kind.client ≡ client → act_of s ≡ act → s ≡ seen_of client act
seen_is s client act a b = λ i. seen_of (a i) (b i)

-- one act more, and all of them
pub pushed_more : (client : ℕ) (acts : List Act) (i : ℕ) (act : Act) (old now new : List Seen) → slice_get acts i ≡ Some act → now ≡ old ++ map (seen_of client) (take i acts)
    → new ≡ now ++ seen_of client act ∷ [] → new ≡ old ++ map (seen_of client) (take (i + 1) acts)
pushed_more client acts i act old now new here so_far is =
    let f = seen_of client in
    is ∙ (ap (λ l. l ++ f act ∷ []) so_far ∙ (append_assoc old (map f (take i acts)) (f act ∷ [])
    ∙ ap (λ l. old ++ l) (sym (map-append f (take i acts) (act ∷ []))
    ∙ ap (map f) (ap (λ a. take i acts ++ a ∷ []) (sym (get_or_from_slice_get acts i act act here)) ∙ sym (take_more acts i act (slice_get_within acts i act here))))))

pub pushed_all : (client : ℕ) (acts : List Act) (i : ℕ) (old now : List Seen) → length acts ≤ i → now ≡ old ++ map (seen_of client) (take i acts) → now ≡ old ++ map (seen_of client) acts
pushed_all client acts i old now past so_far = so_far ∙ ap (λ l. old ++ map (seen_of client) l) (take_all i acts past)

value_is : {X E : Type 0} (x y : X) (r : Result X E) → r ≡ Ok x → r ≡ Ok y → x ≡ y
value_is x y r a b = cc

pub no_value : {X E : Type 0} (e : E) (x : X) (r : Result X E) → r ≡ Err e → r ≡ Ok x → ⊥
no_value e x r a b = cc

module _ (asset : Asset) (client : ℕ) (old new : List Seen) where
  -- Modbus
  pub request_added : (a : AduValue) (r : RequestValue) → a.unit ≡ asset.station → requests.Reads (Ok r) a.pdu
      → ((answer : Result RequestValue RequestRefusal) → requests.Reads answer a.pdu → Ok r ≡ answer)
      → new ≡ old ++ map (seen_of client) (request_acts.acts r) → Adds Modbus client (HasAct asset (Request a)) old new
  request_added a r station reads one is = record {
    acts = request_acts.acts r;
    appended = is;
    exactly = λ act. (
      λ h. (station, r, reads, h),
      λ h. subst (λ q. Contains (request_acts.acts q) act) (sym (value_is r h.1 (Ok r) refl (one (Ok h.1) h.2))) h.3,
    );
    of_commands = λ act h. let at_place = place (request_acts.acts r) act h in (r, (a.pdu, reads.0, reads.1), at_place.0, at_place.1);
  }

  pub no_request : (a : AduValue) (refusal : RequestRefusal) → ((answer : Result RequestValue RequestRefusal) → requests.Reads answer a.pdu → Err refusal ≡ answer)
      → new ≡ old → Adds Modbus client (HasAct asset (Request a)) old new
  no_request a refusal one same = adds_none Modbus client (HasAct asset (Request a)) old new same (λ act h. no_value refusal h.1 (Err refusal) refl (one (Ok h.1) h.2))

  pub other_station : (a : AduValue) → (a.unit ≡ asset.station → ⊥) → new ≡ old → Adds Modbus client (HasAct asset (Request a)) old new
  other_station a other same = adds_none Modbus client (HasAct asset (Request a)) old new same (λ act h. other h.0)

  -- DNP3
  pub fragment_added : (octets : List ℕ) (f : FragmentValue) → IsOctets octets → read_octets octets ≡ Ok f → f.code ≢ 0
      → new ≡ old ++ map (seen_of client) (fragment_acts.acts f) → Adds Dnp3 client (HasAct asset (Fragment octets)) old new
  fragment_added octets f are reads code is = record {
    acts = fragment_acts.acts f;
    appended = is;
    exactly = λ act. (
      λ h. (f, reads, code, h),
      λ h. subst (λ g. Contains (fragment_acts.acts g) act) (sym (value_is f h.0 (read_octets octets) reads h.1)) h.3,
    );
    of_commands = λ act h. let at_place = place (fragment_acts.acts f) act h in (f, octets, are, (read_is_spelled octets f).0 reads, code, at_place.0, at_place.1);
  }

  pub no_fragment : (octets : List ℕ) (refusal : FragmentRefusal) → read_octets octets ≡ Err refusal → new ≡ old → Adds Dnp3 client (HasAct asset (Fragment octets)) old new
  no_fragment octets refusal reads same = adds_none Dnp3 client (HasAct asset (Fragment octets)) old new same (λ act h. no_value refusal h.0 (read_octets octets) reads h.1)

  pub confirmation : (octets : List ℕ) (f : FragmentValue) → read_octets octets ≡ Ok f → f.code ≡ 0 → new ≡ old → Adds Dnp3 client (HasAct asset (Fragment octets)) old new
  confirmation octets f reads code same = adds_none Dnp3 client (HasAct asset (Fragment octets)) old new same
      (λ act h. h.2 (ap (λ g. g.code) (sym (value_is f h.0 (read_octets octets) reads h.1)) ∙ code))

  -- IEC 60870-5-104
  pub asdu_added : (octets : List ℕ) (a : AsduValue) → asdus.Reads (Ok a) octets → a.station ≡ asset.station
      → ((answer : Result AsduValue AsduRefusal) → asdus.Reads answer octets → Ok a ≡ answer)
      → new ≡ old ++ map (seen_of client) (asdu_acts.acts a) → Adds Iec104 client (HasAct asset (Asdu octets)) old new
  asdu_added octets a reads station one is = record {
    acts = asdu_acts.acts a;
    appended = is;
    exactly = λ act. (
      λ h. (a, reads, station, h),
      λ h. subst (λ b. Contains (asdu_acts.acts b) act) (sym (value_is a h.0 (Ok a) refl (one (Ok h.0) h.1))) h.3,
    );
    of_commands = λ act h. let at_place = place (asdu_acts.acts a) act h in (a, (octets, reads), at_place.0, at_place.1);
  }

  pub no_asdu : (octets : List ℕ) (refusal : AsduRefusal) → ((answer : Result AsduValue AsduRefusal) → asdus.Reads answer octets → Err refusal ≡ answer)
      → new ≡ old → Adds Iec104 client (HasAct asset (Asdu octets)) old new
  no_asdu octets refusal one same = adds_none Iec104 client (HasAct asset (Asdu octets)) old new same (λ act h. no_value refusal h.0 (Err refusal) refl (one (Ok h.0) h.1))

  pub other_asdu : (octets : List ℕ) (a : AsduValue) → ((answer : Result AsduValue AsduRefusal) → asdus.Reads answer octets → Ok a ≡ answer) → (a.station ≡ asset.station → ⊥)
      → new ≡ old → Adds Iec104 client (HasAct asset (Asdu octets)) old new
  other_asdu octets a one other same = adds_none Iec104 client (HasAct asset (Asdu octets)) old new same
      (λ act h. other (ap (λ b. b.station) (value_is a h.0 (Ok a) refl (one (Ok h.0) h.1)) ∙ h.2))
