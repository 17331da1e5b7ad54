-- The first halves of all sessions, one after the other.
use Rattle.std.proofs.Common.{◌≡◌, ℕ, ◌+◌, ◌<◌, ◌≤◌, ◌&&◌, Bool, true, false, not, List, [], ◌∷◌, ◌++◌, length, map, take, drop, cond, Option, Some, None, refl, sym, ap, ◌∙◌, subst, append_assoc, arith, add-one}
use Rattle.std.specs.Prelude.{count_by, filter}
use Rattle.std.specs.List.{flat_map, fold, remove}
use Rattle.std.proofs.Math.Seq.{take-append_seam, drop-append_seam}
use Rattle.std.proofs.lemmas.List.{append-nil, length-take-le, map-append, take_all}
use Rattle.std.proofs.lemmas.Grind.{flat_map-append}
use Rattle.std.proofs.Math.ListN.{drop_of_length-le}
use Rattle.std.proofs.lemmas.List.Elements.{filter-append}
use Rattle.std.proofs.lemmas.List.Concat.{flat_map-cons}
use Rattle.std.specs.Option.{is_some}
use Rattle.cf_lane.specs.Judged.{one_if}
use Rattle.cf_policy.specs.Site.{site_from}
use Rattle.cf_policy.specs.declared.Asset.{Asset}
use Rattle.cf_session.specs.declared.life.Life.{Life}
use Rattle.cf_session.specs.declared.life.Life.TheVariants as life
use Rattle.cf_session.specs.Parts.{SessionValue}
use Rattle.cf_session.specs.Sent.{Sent, logged_first, sent_first}
use Rattle.cf_session.specs.Session.{Flow, SessionEvent, is_expired}
use Rattle.cf_session.specs.Stands.{Ticks, TicksBy, life_by}
use Rattle.cf_session.specs.Told.{Told, emitted, with_both, with_more}
use Rattle.cf_run.specs.Engine.{AreAll, IsOne, TickAll, TickAs, TickAt, TickSome}
use Rattle.cf_run.specs.Entries.{cuts_by, stays_by}
use Rattle.cf_run.specs.Table.{Session}
use Rattle.cf_run.specs.Trace.{AreTicks, kept, logged_ticks, stays, ticked, with_events}
use Rattle.cf_run.specs.declared.entry.Entry.{Entry}

-- ---- what is told

more-more : {A : Type 0} (t : Option (List A)) (a b : List A) → with_more (with_more t a) b ≡ with_more t (a ++ b)
more-more None a b = refl
more-more (Some xs) a b = ap Some (append_assoc xs a b)

pub both_both : (t : Told) (a b : List Sent) (x y : List (List ℕ)) → with_both (with_both t a x) b y ≡ with_both t (a ++ b) (x ++ y)
both_both t a b x y =
    ap (λ ps. let r : Told = record { packets = ps; lines = with_more (with_more t.lines x) y } in r) (more-more t.packets (map emitted a) (map emitted b) ∙ ap (with_more t.packets) (sym (map-append emitted a b)))
    ∙ ap (λ ls. let r : Told = record { packets = with_more t.packets (map emitted (a ++ b)); lines = ls } in r) (more-more t.lines x y)

more-nothing : {A : Type 0} (t : Option (List A)) → with_more t [] ≡ t
more-nothing None = refl
more-nothing (Some xs) = ap Some (append-nil xs)

pub both_nothing : (t : Told) → with_both t [] [] ≡ t
both_nothing t =
    ap (λ ps. let r : Told = record { packets = ps; lines = with_more t.lines [] } in r) (more-nothing t.packets)
    ∙ ap (λ ls. let r : Told = record { packets = t.packets; lines = ls } in r) (more-nothing t.lines)

-- ---- one call

pub by_life : (flow : Flow) (events : List SessionEvent) (tick : ℕ) (s : SessionValue) (old new : Told) (l : Life) → TicksBy flow events tick s old new l →
    TickAs flow events tick s old new (stays_by l) (cuts_by l)
by_life flow events tick s old new life.Live h = (h.0, h.1, h.2.stands.going, h.2.stands)
by_life flow events tick s old new life.Closed h = (h.0, h.1, h.2.stands.going, h.2.stands)
by_life flow events tick s old new life.Expired h = h
by_life flow events tick s old new (life.Cut r) h = (h.0, h.1, ap is_some h.2)

quiet_by : (flow : Flow) (events : List SessionEvent) (tick : ℕ) (s : SessionValue) (desk : Told) (closed : Option ℕ) → TicksBy flow events tick s desk desk (life_by closed) →
    TickAs flow events tick s desk desk true false
quiet_by flow events tick s desk None h = by_life flow events tick s desk desk life.Live h
quiet_by flow events tick s desk (Some moment) h = by_life flow events tick s desk desk life.Closed h

-- before it is due a session stays, whether it is closed or not
pub quiet_as : (flow : Flow) (events : List SessionEvent) (tick : ℕ) (s : SessionValue) (desk : Told) → TicksBy flow events tick s desk desk (life_by s.closed) →
    TickAs flow events tick s desk desk true false
quiet_as flow events tick s desk h = quiet_by flow events tick s desk s.closed h

-- ---- lists of sessions with one more

pub kept-gone : (now : ℕ) (done : List Session) (s : Session) → is_expired s.flow s.events now ≡ true → kept now (done ++ s ∷ []) ≡ kept now done
kept-gone now done s e =
    filter-append (λ x. not (is_expired x.flow x.events now)) done (s ∷ [])
    ∙ ap (λ c. kept now done ++ cond (not c) (s ∷ []) []) e ∙ append-nil (kept now done)

pub kept-here : (now : ℕ) (done : List Session) (s : Session) → is_expired s.flow s.events now ≡ false → kept now (done ++ s ∷ []) ≡ kept now done ++ s ∷ []
kept-here now done s e =
    filter-append (λ x. not (is_expired x.flow x.events now)) done (s ∷ [])
    ∙ ap (λ c. kept now done ++ cond (not c) (s ∷ []) []) e

pub ticks-append : (tick : ℕ) (ss more : List Session) (ts us : List SessionEvent) → AreTicks tick ss ts → AreTicks tick more us → AreTicks tick (ss ++ more) (ts ++ us)
ticks-append tick [] more [] us are rest = rest
ticks-append tick [] more (t ∷ ts) us are rest = cc
ticks-append tick (s ∷ ss) more [] us are rest = absurd are
ticks-append tick (s ∷ ss) more (t ∷ ts) us are rest = (are.0, ticks-append tick ss more ts us are.1 rest)

pub logged-append : (tick : ℕ) (ss more : List Session) (ts us : List SessionEvent) → AreTicks tick ss ts → logged_ticks (ss ++ more) (ts ++ us) ≡ logged_ticks ss ts ++ logged_ticks more us
logged-append tick [] more [] us are = refl
logged-append tick [] more (t ∷ ts) us are = cc
logged-append tick (s ∷ ss) more [] us are = absurd are
logged-append tick (s ∷ ss) more (t ∷ ts) us are =
    ap (λ xs. logged_first s.flow t ++ xs) (logged-append tick ss more ts us are.1) ∙ sym (append_assoc (logged_first s.flow t) (logged_ticks ss ts) (logged_ticks more us))

abbrev one_with : Session → SessionEvent → Session
one_with s t = record s { events = t ∷ s.events }

pub events-one : (tick : ℕ) (ss : List Session) (ts : List SessionEvent) (s : Session) (t : SessionEvent) → AreTicks tick ss ts → with_events (ss ++ s ∷ []) (ts ++ t ∷ []) ≡ with_events ss ts ++ one_with s t ∷ []
events-one tick [] [] s t are = refl
events-one tick [] (t' ∷ ts) s t are = cc
events-one tick (s' ∷ ss) [] s t are = absurd are
events-one tick (s' ∷ ss) (t' ∷ ts) s t are = ap (λ xs. one_with s' t' ∷ xs) (events-one tick ss ts s t are.1)

pub all-one : (assets : List Asset) (last : ℕ) (xs : List Entry) (ss : List Session) (x : Entry) (s : Session) → AreAll assets last xs ss → IsOne assets last x s → AreAll assets last (xs ++ x ∷ []) (ss ++ s ∷ [])
all-one assets last [] [] x s all one = (one, tt)
all-one assets last (x' ∷ xs) (s' ∷ ss) x s all one = (all.0, all-one assets last xs ss x s all.1 one)
all-one assets last xs ss x s all one = absurd all

sent-one : (ts : List SessionEvent) (t : SessionEvent) → flat_map sent_first (ts ++ t ∷ []) ≡ flat_map sent_first ts ++ sent_first t
sent-one ts t = flat_map-append sent_first ts (t ∷ []) ∙ ap (λ xs. flat_map sent_first ts ++ xs) (flat_map-cons sent_first t [] ∙ append-nil (sent_first t))

plus_none : (n : ℕ) → n ≡ n + one_if false
plus_none n = omega arith

one_is : (b : Bool) → one_if b ≡ cond b 1 0
one_is true = refl
one_is false = refl

abbrev counts : ℕ → SessionEvent → ℕ
counts n t = n + cond (is_some t.cut) 1 0

cut_from : (ts : List SessionEvent) (t : SessionEvent) (n : ℕ) → fold counts n ts + cond (is_some t.cut) 1 0 ≡ fold counts n (ts ++ t ∷ [])
cut_from [] t n = refl
cut_from (x ∷ ts) t n = cut_from ts t (counts n x)

-- how many were cut
cut_more : (ts : List SessionEvent) (t : SessionEvent) (b : Bool) → is_some t.cut ≡ b →
    count_by (λ x. is_some x.cut) ts + one_if b ≡ count_by (λ x. is_some x.cut) (ts ++ t ∷ [])
cut_more ts t b e = ap (λ n. count_by (λ x. is_some x.cut) ts + n) (ap one_if (sym e) ∙ one_is (is_some t.cut)) ∙ cut_from ts t 0

-- what stays of the sessions with one more event
pub ticked-more : (now : ℕ) (ts : List SessionEvent) (done : List Session) (s : Session) (t : SessionEvent) (b : Bool) → AreTicks now (kept now done) ts → is_expired s.flow s.events now ≡ false → is_some t.cut ≡ b →
    ticked (ts ++ t ∷ []) now (done ++ s ∷ []) ≡ ticked ts now done ++ cond (not b) (one_with s t ∷ []) []
ticked-more now ts done s t b are here cut =
    ap (λ xs. filter stays (with_events xs (ts ++ t ∷ []))) (kept-here now done s here)
    ∙ ap (filter stays) (events-one now (kept now done) ts s t are)
    ∙ filter-append stays (with_events (kept now done) ts) (one_with s t ∷ [])
    ∙ ap (λ c. ticked ts now done ++ cond (not c) (one_with s t ∷ []) []) cut

module _ (assets : List Asset) (now : ℕ) (done : List Session) (front : List Entry) (old mid new : Told) (n : ℕ) (a : TickAll assets now done front old mid n) (s : Session) where
  -- the sessions that were cut, with one more
  counts_more : (t : SessionEvent) (b : Bool) → is_some t.cut ≡ b → n + one_if b ≡ count_by (λ x. is_some x.cut) (a.ticks ++ t ∷ [])
  counts_more t b e = ap (λ m. m + one_if b) a.cuts_is ∙ cut_more a.ticks t b e

  -- a session has expired
  pub all_gone : is_expired s.flow s.events now ≡ true → new ≡ mid → TickAll assets now (done ++ s ∷ []) front old new n
  all_gone gone same =
      let k = kept-gone now done s gone in
      let P : List Session → Type 0 = λ xs. AreTicks now xs a.ticks in
      let Q : List Session → Type 0 = λ xs. AreAll assets (now + 1) front (filter stays (with_events xs a.ticks)) in
      record {
        ticks = a.ticks;
        are = subst P (sym k) a.are;
        all = subst Q (sym k) a.all;
        told = same ∙ a.told ∙ ap (λ xs. with_both old (flat_map sent_first a.ticks) (logged_ticks xs a.ticks)) (sym k);
        cuts_is = a.cuts_is;
      }

  module _ (t : SessionEvent) (h : Ticks s.flow s.events now mid new t) where
    told_more : new ≡ with_both old (flat_map sent_first (a.ticks ++ t ∷ [])) (logged_ticks (kept now (done ++ s ∷ [])) (a.ticks ++ t ∷ []))
    told_more =
        h.told ∙ ap (λ m. with_both m (sent_first t) (logged_first s.flow t)) a.told
        ∙ both_both old (flat_map sent_first a.ticks) (sent_first t) (logged_ticks (kept now done) a.ticks) (logged_first s.flow t)
        ∙ ap (λ xs. with_both old xs (logged_ticks (kept now done) a.ticks ++ logged_first s.flow t)) (sym (sent-one a.ticks t))
        ∙ ap (with_both old (flat_map sent_first (a.ticks ++ t ∷ [])))
        (sym (logged-append now (kept now done) (s ∷ []) a.ticks (t ∷ []) a.are ∙ ap (λ xs. logged_ticks (kept now done) a.ticks ++ xs) (append-nil (logged_first s.flow t)))
        ∙ ap (λ xs. logged_ticks xs (a.ticks ++ t ∷ [])) (sym (kept-here now done s h.kept)))

    ticks_more : AreTicks now (kept now (done ++ s ∷ [])) (a.ticks ++ t ∷ [])
    ticks_more =
        let P : List Session → Type 0 = λ xs. AreTicks now xs (a.ticks ++ t ∷ []) in
        subst P (sym (kept-here now done s h.kept)) (ticks-append now (kept now done) (s ∷ []) a.ticks (t ∷ []) a.are (h.is_tick, refl))

    -- a session is cut
    pub all_cut : is_some t.cut ≡ true → TickAll assets now (done ++ s ∷ []) front old new (n + 1)
    all_cut cut = record {
      ticks = a.ticks ++ t ∷ [];
      are = ticks_more;
      all = subst (AreAll assets (now + 1) front) (sym (append-nil (ticked a.ticks now done)) ∙ sym (ticked-more now a.ticks done s t true a.are h.kept cut)) a.all;
      told = told_more;
      cuts_is = counts_more t true cut;
    }

    -- a session goes on
    pub all_more : (y : Entry) → is_some t.cut ≡ false → IsOne assets (now + 1) y (one_with s t) → TickAll assets now (done ++ s ∷ []) (front ++ y ∷ []) old new n
    all_more y going one = record {
      ticks = a.ticks ++ t ∷ [];
      are = ticks_more;
      all = subst (AreAll assets (now + 1) (front ++ y ∷ [])) (sym (ticked-more now a.ticks done s t false a.are h.kept going))
          (all-one assets (now + 1) front (ticked a.ticks now done) y (one_with s t) a.all one);
      told = told_more;
      cuts_is = plus_none n ∙ counts_more t false going;
    }

stays_cut : (t : SessionEvent) → t.cut ≡ None → is_some t.cut ≡ false
stays_cut t e = ap is_some e

-- ---- one session further

-- what the clock call of one session makes of the first halves so far
module _ (assets : List Asset) (tick : ℕ) (known : List Session) (place : ℕ) (entries : List Entry) (old mid new : Told) (x y : Entry) (xs : List Entry) (after : List Entry)
    (j : ℕ) (back : drop j after ≡ xs) (n : ℕ) where
  some_by : (m : ℕ) (done rest : List Session) (s : Session) → known ≡ done ++ (s ∷ rest) → AreAll assets tick xs rest → TickAll assets tick (done ++ s ∷ []) (take j after) old new m → TickSome assets tick known after j old new m
  some_by m done rest s split others a = record {
    done = done ++ s ∷ [];
    rest = rest;
    split = split ∙ sym (append_assoc done (s ∷ []) rest);
    some = a;
    others = subst (λ zs. AreAll assets tick zs rest) (sym back) others;
  }

  one_further : (done rest : List Session) (f : Flow) (es : List SessionEvent) (stay cut : Bool) → TickAt assets tick x y mid new stay cut → known ≡ done ++ (record { flow = f; events = es } ∷ rest) →
      TickAll assets tick done (take place entries) old mid n →
      IsOne assets tick x (record { flow = f; events = es }) → AreAll assets tick xs rest → take j after ≡ take place entries ++ cond stay (y ∷ []) [] →
      TickSome assets tick known after j old new (n + one_if (not stay && cut))
  one_further done rest f [] stay cut at split a one others front = absurd one
  one_further done rest f (e ∷ es) true cut at split a one others front =
      let s : Session = record { flow = f; events = e ∷ es } in
      let h = at.1 f es e one.stands one.site in
      let next : IsOne assets (tick + 1) y (one_with s h.0) = record { stands = h.3; site = ap (site_from assets) at.0 ∙ one.site; last_moment = omega (arith, h.1.is_tick.client_tick) } in
      subst (TickSome assets tick known after j old new) (plus_none n) (some_by n done rest s split others (subst (λ zs. TickAll assets tick (done ++ s ∷ []) zs old new n) (sym front) (all_more assets tick done (take place entries) old mid new n a s h.0 h.1 y (stays_cut h.0 h.2) next)))
  one_further done rest f (e ∷ es) false true at split a one others front =
      let s : Session = record { flow = f; events = e ∷ es } in
      let P : List Entry → Type 0 = λ zs. TickAll assets tick (done ++ s ∷ []) zs old new (n + 1) in
      let stay = sym (front ∙ append-nil (take place entries)) in
      let cut = at.1 f es e one.stands one.site in
      some_by (n + 1) done rest s split others (subst P stay (all_cut assets tick done (take place entries) old mid new n a s cut.0 cut.1 cut.2))
  one_further done rest f (e ∷ es) false false at split a one others front =
      let s : Session = record { flow = f; events = e ∷ es } in
      let P : List Entry → Type 0 = λ zs. TickAll assets tick (done ++ s ∷ []) zs old new n in
      let stay = sym (front ∙ append-nil (take place entries)) in
      let gone = at.1 f es e one.stands one.site in
      subst (TickSome assets tick known after j old new) (plus_none n) (some_by n done rest s split others (subst P stay (all_gone assets tick done (take place entries) old mid new n a s gone.0 gone.1)))

  further : (stay cut : Bool) → TickAt assets tick x y mid new stay cut → (done rest : List Session) → known ≡ done ++ rest → TickAll assets tick done (take place entries) old mid n → AreAll assets tick (x ∷ xs) rest →
      take j after ≡ take place entries ++ cond stay (y ∷ []) [] → TickSome assets tick known after j old new (n + one_if (not stay && cut))
  further stay cut at done [] split a others front = absurd others
  further stay cut at done (s ∷ rest) split a others front = one_further done rest s.flow s.events stay cut at split a others.0 others.1 front

-- the loop goes one session further
pub some_more : (assets : List Asset) (tick : ℕ) (known : List Session) (place : ℕ) (entries : List Entry) (old mid new : Told) (x y : Entry) (xs after : List Entry) (j : ℕ) (stay cut : Bool) (n : ℕ) →
    TickSome assets tick known entries place old mid n → drop place entries ≡ x ∷ xs → TickAt assets tick x y mid new stay cut → drop j after ≡ xs → take j after ≡ take place entries ++ cond stay (y ∷ []) [] →
    TickSome assets tick known after j old new (n + one_if (not stay && cut))
some_more assets tick known place entries old mid new x y xs after j stay cut n a here at back front =
    further assets tick known place entries old mid new x y xs after j back n stay cut at a.done a.rest a.split a.some (subst (λ zs. AreAll assets tick zs a.rest) here a.others) front

pub some_first : (assets : List Asset) (tick : ℕ) (known : List Session) (entries : List Entry) (old : Told) → AreAll assets tick entries known → TickSome assets tick known entries 0 old old 0
some_first assets tick known entries old all = record {
  done = [];
  rest = known;
  split = refl;
  some = record { ticks = []; are = refl; all = tt; told = sym (both_nothing old); cuts_is = refl };
  others = all;
}

none_left : (assets : List Asset) (tick : ℕ) (rest : List Session) → AreAll assets tick [] rest → rest ≡ []
none_left assets tick [] all = refl
none_left assets tick (s ∷ rest) all = absurd all

pub some_all : (assets : List Asset) (tick : ℕ) (known : List Session) (entries : List Entry) (place : ℕ) (old new : Told) (n : ℕ) → TickSome assets tick known entries place old new n → length entries ≤ place →
    TickAll assets tick known entries old new n
some_all assets tick known entries place old new n a past =
    let nothing : drop place entries ≡ [] = drop_of_length-le entries past in
    let rest = none_left assets tick a.rest (subst (λ zs. AreAll assets tick zs a.rest) nothing a.others) in
    let whole : a.done ≡ known = sym (append-nil a.done) ∙ ap (λ zs. a.done ++ zs) (sym rest) ∙ sym a.split in
    subst (λ zs. TickAll assets tick zs entries old new n) whole (subst (λ zs. TickAll assets tick a.done zs old new n) (take_all place entries past) a.some)

-- ---- one element taken out

pub removed_is : {A : Type 0} (xs : List A) (i : ℕ) → remove xs i ≡ take i xs ++ drop (i + 1) xs
removed_is xs i = ap (λ n. take i xs ++ drop n xs) (sym (add-one i))

pub take-removed : {A : Type 0} (xs : List A) (i : ℕ) → i < length xs → take i (remove xs i) ≡ take i xs
take-removed xs i h =
    let size : length (take i xs) ≡ i = length-take-le i xs (omega arith) in
    ap (take i) (removed_is xs i) ∙ ap (λ n. take n (take i xs ++ drop (i + 1) xs)) (sym size) ∙ take-append_seam (take i xs) (drop (i + 1) xs)

pub drop-removed : {A : Type 0} (xs : List A) (i : ℕ) → i < length xs → drop i (remove xs i) ≡ drop (i + 1) xs
drop-removed xs i h =
    let size : length (take i xs) ≡ i = length-take-le i xs (omega arith) in
    ap (drop i) (removed_is xs i) ∙ ap (λ n. drop n (take i xs ++ drop (i + 1) xs)) (sym size) ∙ drop-append_seam (take i xs) (drop (i + 1) xs)

-- the lists before and after a place fix what is left without it
pub removed_same : {A : Type 0} (xs ys : List A) (i : ℕ) → take i xs ≡ take i ys → drop (i + 1) xs ≡ drop (i + 1) ys → remove xs i ≡ remove ys i
removed_same xs ys i front back = removed_is xs i ∙ ap (λ l. l ++ drop (i + 1) xs) front ∙ ap (λ l. take i ys ++ l) back ∙ sym (removed_is ys i)
