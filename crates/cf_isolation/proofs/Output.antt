-- What a run puts out, by sessions, events and halves: what it sends, and what it logs.
use Rattle.std.proofs.Common.{◌≡◌, ℕ, ◌+◌, Bool, List, [], ◌∷◌, ◌++◌, cond, None, Some, refl, ap, append-nil, filter, slice_get}
use Rattle.cf_isolation.proofs.Common.{AllByRecursion, Begun, Endpoint, Flow, IsBeginning, IsPacket, IsTick, PacketValue, Received, RunEvent, Sent, Session, SessionEvent, Side, Went, begins_theirs, flat_map, found, goes_to_theirs, is_between, kept, logged_first, logged_second, moment_in, sent, sent_first, sent_received, sent_second, table_after, tick_of, ticks_of}
use Rattle.cf_run.specs.Isolation.{logged_over, sent_over}
use Rattle.cf_run.specs.Trace.{behind, logged, logged_at, logged_received, logged_ticks}
use Rattle.cf_isolation.specs.Lives.{own_logged, own_sent}
use Rattle.cf_isolation.proofs.Halves.{begins_logged, begins_sent, none_logged, none_sent, same_logged, same_sent}

pub record Output (X : Type 0) : Type 0 where
  pub at : X → ℕ
  -- the halves of an event of a session, and all of its events
  pub first : Flow → SessionEvent → List X
  pub second : Flow → List SessionEvent → SessionEvent → List X
  pub own : Flow → List SessionEvent → List X
  pub own_none : (f : Flow) → own f [] ≡ []
  pub own_more : (f : Flow) (e : SessionEvent) (es : List SessionEvent) → own f (e ∷ es) ≡ own f es ++ (first f e ++ second f es e)
  pub same_first : (f : Flow) (limit tick : ℕ) (es : List SessionEvent) (half : SessionEvent) (s : Side) (p : PacketValue) (e : SessionEvent) → IsTick f es tick half → half.cut ≡ None →
      IsPacket f limit es half s p e → first f e ≡ first f half
  pub no_second : (f : Flow) (d : SessionEvent) (es : List SessionEvent) (tick : ℕ) (t : SessionEvent) → IsTick f (d ∷ es) tick t → second f (d ∷ es) t ≡ []
  pub no_first : (f : Flow) (tick : ℕ) (e : SessionEvent) → IsBeginning f tick e → first f e ≡ []
  -- the halves of an event of a run, and all of its events
  pub ticking : List Session → List SessionEvent → List X
  pub ticking_none : ticking [] [] ≡ []
  pub ticking_one : (s : Session) (t : SessionEvent) → ticking (s ∷ []) (t ∷ []) ≡ first s.flow t
  pub put : List Session → Received → List X
  pub put_begun : (table : List Session) (f : Flow) (e : SessionEvent) → put table (Begun f e) ≡ second f [] e
  pub put_went : (table : List Session) (i : ℕ) (e : SessionEvent) (x : Session) → slice_get table i ≡ Some x → put table (Went i e) ≡ second x.flow (behind x.events) e
  pub all : List RunEvent → List X
  pub all_none : all [] ≡ []
  pub all_more : (e : RunEvent) (es : List RunEvent) → all (e ∷ es) ≡ all es ++ (ticking (kept (tick_of e.input) (table_after es)) e.ticks ++ put (found (table_after es) e) e.received)
  -- what is put out of a session from its first event on
  pub over : (client site : Endpoint) → (start : RunEvent) → (earlier later : List RunEvent) → List X
  pub over_none : (client site : Endpoint) (start : RunEvent) (earlier : List RunEvent) → over client site start earlier [] ≡ put (found (table_after earlier) start) start.received
  pub over_more : (client site : Endpoint) (start : RunEvent) (earlier : List RunEvent) (e : RunEvent) (later : List RunEvent) → over client site start earlier (e ∷ later) ≡
      over client site start earlier later ++ (ticking (filter (is_between client site) (kept (tick_of e.input) (table_after (later ++ start ∷ earlier))))
      (ticks_of client site (kept (tick_of e.input) (table_after (later ++ start ∷ earlier))) e.ticks)
      ++ cond (goes_to_theirs client site (found (table_after (later ++ start ∷ earlier)) e) e.received) (put (found (table_after (later ++ start ∷ earlier)) e) e.received) [])

abbrev pub sending : Output Sent
sending = record {
  at = λ s. s.moment;
  first = λ f e. sent_first e;
  second = λ f es e. sent_second e;
  own = λ f es. own_sent es;
  own_none = λ f. refl;
  own_more = λ f e es. refl;
  same_first = λ f limit tick es half s p e h none g. same_sent f limit tick es half s p e h none g;
  no_second = λ f d es tick t h. none_sent f (d ∷ es) tick t h;
  no_first = λ f tick e h. begins_sent f tick e h;
  ticking = λ ss ts. flat_map sent_first ts;
  ticking_none = refl;
  ticking_one = λ s t. append-nil (sent_first t);
  put = λ table r. sent_received r;
  put_begun = λ table f e. refl;
  put_went = λ table i e x h. refl;
  all = sent;
  all_none = refl;
  all_more = λ e es. refl;
  over = sent_over;
  over_none = λ client site start earlier. refl;
  over_more = λ client site start earlier e later. refl;
}

abbrev pub logging : Output (List ℕ)
logging = record {
  at = moment_in;
  first = logged_first;
  second = logged_second;
  own = own_logged;
  own_none = λ f. refl;
  own_more = λ f e es. refl;
  same_first = λ f limit tick es half s p e h none g. same_logged f limit tick es half s p e h none g;
  no_second = λ f d es tick t h. none_logged f d es tick t h;
  no_first = λ f tick e h. begins_logged f tick e h;
  ticking = logged_ticks;
  ticking_none = refl;
  ticking_one = λ s t. append-nil (logged_first s.flow t);
  put = logged_received;
  put_begun = λ table f e. refl;
  put_went = λ table i e x h. ap (λ o. logged_at o e) h;
  all = logged;
  all_none = refl;
  all_more = λ e es. refl;
  over = logged_over;
  over_none = λ client site start earlier. refl;
  over_more = λ client site start earlier e later. refl;
}

-- ---- one event of a run

module _ {X : Type 0} (o : Output X) (es : List RunEvent) (e : RunEvent) where
  abbrev pub first_now : List X
  first_now = o.ticking (kept (tick_of e.input) (table_after es)) e.ticks

  abbrev pub second_now : List X
  second_now = o.put (found (table_after es) e) e.received

  -- of the first half what is of the session of a client and a site
  abbrev pub first_theirs : (client site : Endpoint) → List X
  first_theirs client site =
      let table = kept (tick_of e.input) (table_after es) in
      o.ticking (filter (is_between client site) table) (ticks_of client site table e.ticks)

  -- the second half, by what its packet is to them
  abbrev pub second_theirs : (goes begins : Bool) → List X
  second_theirs goes begins = cond goes second_now [] ++ cond begins second_now []

  -- each half is at its moment, and what passes of it is theirs
  pub record AreTheirs (client site : Endpoint) (q : X → Bool) : Type 0 where
    pub first_at : AllByRecursion (λ x. o.at x ≡ tick_of e.input) first_now
    pub second_at : AllByRecursion (λ x. o.at x ≡ tick_of e.input + 1) second_now
    pub first_is : filter q first_now ≡ first_theirs client site
    pub second_is : filter q second_now ≡ second_theirs (goes_to_theirs client site (found (table_after es) e) e.received) (begins_theirs client site e.received)
