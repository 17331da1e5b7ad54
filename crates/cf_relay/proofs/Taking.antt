-- An answer to a side that was asked for bytes.
use Rattle.std.proofs.Common.{Bool, Err, false, true, List, None, Ok, Option, Result, arith, inr, length, refl, sym, ap, subst, take, ℕ, ◌++◌, ◌+◌, ◌<◌, ◌^◌, ◌∙◌, ◌≡◌, ◌≤◌, []}
use Rattle.std.specs.Prelude.{OnErr, OnOk}
use Rattle.std.proofs.lemmas.Bool.{false≢true}
use Rattle.std.proofs.Math.Bool.{or-false}
use Rattle.std.proofs.lemmas.List.{append-nil, length-append, length-take-le}
use Rattle.cf_audit.specs.declared.line.CutReason.{CutReason}
use Rattle.cf_driver.specs.Takes.{OnlyPushed, Takes}
use Rattle.cf_lane.specs.Follows.{Follows, Rests, over, rest_of, with_rest}
use Rattle.cf_lane.specs.Handled.{IsLaneOf, MayEnd, State, debt, debt_limit}
use Rattle.cf_lane.specs.History.{Element}
use Rattle.cf_links.specs.Links.{SessionTold, with_entry}
use Rattle.cf_outq.specs.SendQueue.{Queue, queue_length}
use Rattle.cf_outside.specs.Desk.{DeskValue}
use Rattle.cf_outside.specs.Faults.{HasCause}
use Rattle.cf_outside.specs.Pair.{Ended, Entry, FaultsBy, Got, Idle}
use Rattle.cf_outside.specs.declared.pair.TakeAnswer.{TakeAnswer}
use Rattle.cf_outside.specs.declared.pair.TakeAnswer.TheVariants as taken
use Rattle.cf_policy.specs.Site.{SiteValue}
use Rattle.cf_view.specs.declared.Side.{Side}
use Rattle.cf_view.specs.declared.Side.TheVariants as side
use Rattle.cf_relay.proofs.Lined.{lines_none}
use Rattle.cf_relay.proofs.Lists.{own_bytes, own_end}
use Rattle.cf_relay.specs.declared.limit.TheConstants.{MOST_BYTES}
use Rattle.cf_relay.specs.Answers.{element_of}
use Rattle.cf_relay.specs.Scene.{RoseBy}
use Rattle.cf_relay.specs.Taken.{AnswersTo, MayTakeNow, TakeState, TakesAnswer, TakesBy, take_state}
use Rattle.cf_relay.specs.declared.directions.Directions.{Directions}
use Rattle.cf_relay.specs.declared.stop.Stop.{Stop}
use Rattle.cf_relay.specs.declared.stop.Stop.TheVariants as stop

same_pushed : (q : Queue) → OnlyPushed q q
same_pushed q = record { acked = refl; sent = refl; shown = refl }

same_rest : (s : Side) (rests : Rests) → with_rest s rests (rest_of s rests) ≡ rests
same_rest side.Client rests = refl
same_rest side.Controller rests = refl

-- nothing came
hears_idle : (site : SiteValue) (s : Side) (rest : List ℕ) (now : State) → length rest < 300 → IsLaneOf site now.lane → debt now.lane ≤ debt_limit site → Takes site s [] None rest rest now now
hears_idle site s rest now short of_site owed = record {
  follows = λ past h rests first own is f. record {
    more = [];
    added = lines_none now.lines;
    follows = subst (λ (l : Option (List (List ℕ))). Follows site past (h ++ []) (with_rest s rests rest) None first (over l now)) (lines_none own)
        (subst (λ r. Follows site past (h ++ []) r None first (over own now)) (sym (ap (with_rest s rests) is ∙ same_rest s rests))
        (subst (λ (k : List Element). Follows site past k rests None first (over own now)) (sym (append-nil h)) f));
  };
  short = short;
  of_site = of_site;
  debt = owed;
  client = refl;
  to_client = same_pushed now.to_client;
  to_controller = same_pushed now.to_controller;
  client_ended = sym (or-false now.to_controller.ended);
  controller_ended = sym (or-false now.to_client.ended);
  counts = omega arith;
}

module _ (dirs : Directions) (site : SiteValue) (moment most : ℕ) (s : Side) (rest : List ℕ) (letters : ℕ) (told told' : SessionTold) (idle idle' : ℕ) (now : State) (desk : DeskValue) where
  idle_answer : length rest < 300 → IsLaneOf site now.lane → debt now.lane ≤ debt_limit site → idle' ≡ idle + 1 → told' ≡ with_entry told (Idle s) →
      TakesAnswer site moment s None (take_state now rest letters idle told) (take_state now rest letters idle' told')
  idle_answer short of_site owed i e = record {
    answer = Idle s;
    answers = record { is_taken = refl; tells = e; idles = i ∙ omega arith; letters = omega arith };
    hears = hears_idle site s rest now short of_site owed;
  }

  pub takes_idle : (r : Result Unit Stop) → MayTakeNow dirs site s now.to_client now.to_controller → length rest < 300 → IsLaneOf site now.lane → debt now.lane ≤ debt_limit site →
      idle' ≡ idle + 1 → told' ≡ with_entry told (Idle s) → OnOk r (idle' < most) → OnErr r (idle' ≡ most) → OnErr r (r ≡ Err stop.Idle) →
      TakesBy dirs site moment most s (take_state now rest letters idle told) (take_state now rest letters idle' told') desk r
  takes_idle (Ok x) may short of_site owed i e goes stops error = inr (may, goes, idle_answer short of_site owed i e)
  takes_idle (Err x) may short of_site owed i e goes stops error =
      subst (λ r. TakesBy dirs site moment most s (take_state now rest letters idle told) (take_state now rest letters idle' told') desk r) (sym error)
      (may, stops, ap (λ n. take_state now rest letters n told') i ∙ ap (λ t. take_state now rest letters (idle + 1) t) e)

module _ (moment : ℕ) (s : Side) (told told' : SessionTold) (idle letters letters' : ℕ) where
  -- the bytes that a call left at the front of the buffer
  pub got_answers : (n : ℕ) (buf : List ℕ) → 1 ≤ n → n ≤ length buf → length buf ≡ MOST_BYTES → told' ≡ with_entry told (Got s (take n buf)) → letters' ≡ letters + length (take n buf) →
      AnswersTo moment s (Got s (take n buf)) told told' idle 0 letters letters'
  got_answers n buf some inside size tells more = record {
    is_taken = (refl, omega (arith, some, length-take-le n buf inside), omega (arith, inside, size, length-take-le n buf inside));
    tells = tells;
    idles = refl;
    letters = more ∙ ap (λ k. letters + k) (sym (own_bytes moment s (take n buf)));
  }

  pub end_answers : told' ≡ with_entry told (Ended s) → letters' ≡ letters + 1 → AnswersTo moment s (Ended s) told told' idle 0 letters letters'
  end_answers tells more = record { is_taken = refl; tells = tells; idles = refl; letters = more ∙ ap (λ k. letters + k) (sym (own_end moment s)) }

-- the answer cuts for this reason, or for none
pub takes_as : (site : SiteValue) (moment : ℕ) (s : Side) (answer : Entry) (cut why : Option CutReason) (old new : TakeState) → cut ≡ why → AnswersTo moment s answer old.told new.told old.idle new.idle old.letters new.letters →
    Takes site s (element_of moment answer) cut old.rest new.rest old.state new.state → TakesAnswer site moment s why old new
takes_as site moment s answer cut why old new is answers hears = record {
  answer = answer;
  answers = answers;
  hears = subst (λ k. Takes site s (element_of moment answer) k old.rest new.rest old.state new.state) is hears;
}

pub may_end : (s : Side) (c k : Queue) → queue_length c < 2 ^ 30 → queue_length k < 2 ^ 30 → MayEnd s c k
may_end side.Client c k few less = omega (arith, less)
may_end side.Controller c k few less = omega (arith, few)

-- ---- what a call of a side comes to where the call did not fail, or nothing was written

abbrev pub is_failed : TakeAnswer → Bool
is_failed (taken.Got n) = false
is_failed taken.Idle = false
is_failed taken.End = false
is_failed taken.Failed = true

abbrev pub is_link : Result Unit Stop → Bool
is_link (Err stop.Link) = true
is_link r = false

abbrev pub is_write : Result Unit Stop → Bool
is_write (Err stop.Write) = true
is_write r = false

apart : {A : Type 0} (f : A → Bool) (x y : A) → f x ≡ false → f y ≡ true → x ≡ y → ⊥
apart f x y is_not is same = false≢true (sym is_not ∙ ap f same ∙ is)

link_by : (a b : ℕ) (P Q : Type 0) → FaultsBy a b P → (P → ⊥) → (Q → ⊥) → FaultsBy a b Q
link_by a b P Q h other never = record { later = h.later; rose = λ is. absurd (never is); still = λ _. h.still other }

write_by : (a b : ℕ) (Q : Type 0) → a ≤ b → (Q → ⊥) → HasCause a b Q
write_by a b Q later never = record { later = later; rose = λ is. absurd (never is) }

-- it is no failure of the links
pub no_link : (a b : ℕ) (t : TakeAnswer) (r : Result Unit Stop) → FaultsBy a b (t ≡ taken.Failed) → is_failed t ≡ false → is_link r ≡ false → FaultsBy a b (r ≡ Err stop.Link)
no_link a b t r h came other =
    link_by a b (t ≡ taken.Failed) (r ≡ Err stop.Link) h (apart is_failed t taken.Failed came refl) (apart is_link r (Err stop.Link) other refl)

-- it is no failure of the log
pub no_write : (a b : ℕ) (r : Result Unit Stop) → a ≤ b → is_write r ≡ false → HasCause a b (r ≡ Err stop.Write)
no_write a b r later other = write_by a b (r ≡ Err stop.Write) later (apart is_write r (Err stop.Write) other refl)

-- it is one
pub is_lost : (a b : ℕ) (P Q : Type 0) → HasCause a b P → P → HasCause a b Q
is_lost a b P Q h is = record { later = h.later; rose = λ _. h.rose is }

-- the count of the answers Idle begins anew, or is as it was
pub idles_anew : (n i j : ℕ) → i ≤ j → (start : ℕ) → RoseBy n start i → RoseBy 0 start j
idles_anew n i j later start r = omega (arith, r, later)

pub idles_stay : (n i j : ℕ) → i ≤ j → (start : ℕ) → RoseBy n start i → RoseBy n start j
idles_stay n i j later start r = omega (arith, r, later)

-- a count that stops at its number stops for nothing else
idle_no_link : (r : Result Unit Stop) → OnErr r (r ≡ Err stop.Idle) → is_link r ≡ false
idle_no_link (Ok x) error = refl
idle_no_link (Err x) error = ap is_link error

idle_no_write : (r : Result Unit Stop) → OnErr r (r ≡ Err stop.Idle) → is_write r ≡ false
idle_no_write (Ok x) error = refl
idle_no_write (Err x) error = ap is_write error

pub idle_link : (a b : ℕ) (t : TakeAnswer) (r : Result Unit Stop) → OnErr r (r ≡ Err stop.Idle) → FaultsBy a b (t ≡ taken.Failed) → is_failed t ≡ false → FaultsBy a b (r ≡ Err stop.Link)
idle_link a b t r error h came = no_link a b t r h came (idle_no_link r error)

pub idle_write : (a : ℕ) (r : Result Unit Stop) → OnErr r (r ≡ Err stop.Idle) → HasCause a a (r ≡ Err stop.Write)
idle_write a r error = no_write a a r (omega arith) (idle_no_write r error)

-- what is fed is too little for a count to overflow
pub fed_little : (a k n : ℕ) (rest buf : List ℕ) → a < 2 ^ k → 2 ^ k ≤ 2 ^ 63 → length rest < 300 → n ≤ length buf → length buf ≡ MOST_BYTES → a + length (rest ++ take n buf) < 2 ^ 64
fed_little a k n rest buf few small little inside size = omega (arith, few, small, length-append rest (take n buf), length-take-le n buf inside, little, inside, size)
