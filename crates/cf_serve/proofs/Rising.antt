-- Round by round: the sessions that stand have rising numbers, and each turn is of one of them.
use Rattle.cf_serve.proofs.Standing.{Among, AreStood, IsStood, among_back, among_either, among_front, among_more, its_other, its_own, not_before, not_then, own_number, same_number}
use Rattle.cf_serve.specs.Door.{first_lobby, lobby_closed}
use Rattle.cf_serve.specs.Rounds.{AreArrivals, AreRounds, AreTurns, Arrival, IsAgain, IsAgainOf, IsArrival, IsRound, IsTurn, Round, Seat, TurnOf, ends_in, has_later}
use Rattle.cf_serve.specs.Rounds.{has_rates, is_same_client, lobby_behind, lobby_with, must_end, stays, taken_by, taken_of, turns_of}
use Rattle.cf_serve.specs.Session.{Listening}
use Rattle.cf_serve.specs.declared.door.Closing.{Closing}
use Rattle.cf_serve.specs.declared.door.Closing.TheVariants as closing
use Rattle.cf_serve.specs.declared.door.Lobby.{Lobby}
use Rattle.cf_serve.specs.declared.end.SessionEnd.{SessionEnd}
use Rattle.std.proofs.Common.{Bool, List, None, Option, Some, [], ap, append_assoc, arith, false, inl, inr, is_some, map, nat_lt, refl, slice_get, subst, sym, true, ℕ, ◌&&◌, ◌++◌, ◌+◌, ◌<◌, ◌∙◌, ◌∷◌, ◌≡◌, ◌≤◌, ◌||◌}
use Rattle.std.proofs.lemmas.Bool.{and_parts, cases_Bool}
use Rattle.std.proofs.lemmas.Bool.Decides.{nat_tests}
use Rattle.std.proofs.lemmas.List.{append-nil}
use Rattle.std.specs.List.{AllByRecursion, flat_map, list_any}
use Rattle.std.specs.Prelude.{if◌then◌else◌, option_to_list, ◌==◌}

-- ---- rising numbers

-- numbers rise, from one on and below another
abbrev Rising : (low high : ℕ) → List Seat → Type 0
Rising low high [] = low ≤ high
Rising low high (s ∷ ss) = (low ≤ s.session) × Rising (s.session + 1) high ss

rising_from : (low lower high : ℕ) (ss : List Seat) → lower ≤ low → Rising low high ss → Rising lower high ss
rising_from low lower high [] le r = omega (arith, le, r)
rising_from low lower high (s ∷ ss) le (here, behind) = (omega (arith, le, here), behind)

rising_join : (low middle high : ℕ) (ss ts : List Seat) → Rising low middle ss → Rising middle high ts → Rising low high (ss ++ ts)
rising_join low middle high [] ts le r = rising_from middle low high ts le r
rising_join low middle high (s ∷ ss) ts (here, behind) r = (here, rising_join (s.session + 1) middle high ss ts behind r)

rising_ends : (low high : ℕ) (ss : List Seat) → Rising low high ss → low ≤ high
rising_ends low high [] le = le
rising_ends low high (s ∷ ss) (here, behind) = let rest = rising_ends (s.session + 1) high ss behind in omega (arith, here, rest)

rising_above : (low high : ℕ) (ss : List Seat) (s : Seat) → Rising low high ss → Among s ss → low ≤ s.session
rising_above low high [] s r m = absurd m
rising_above low high (x ∷ ss) s (here, behind) (inl same) = subst (λ (y : Seat). low ≤ y.session) same here
rising_above low high (x ∷ ss) s (here, behind) (inr m) = let rest = rising_above (x.session + 1) high ss s behind m in omega (arith, here, rest)

rising_below : (low high : ℕ) (ss : List Seat) (s : Seat) → Rising low high ss → Among s ss → s.session < high
rising_below low high [] s r m = absurd m
rising_below low high (x ∷ ss) s (here, behind) (inl same) =
    let rest = rising_ends (x.session + 1) high ss behind in subst (λ (y : Seat). y.session < high) same (omega (arith, rest))
rising_below low high (x ∷ ss) s (here, behind) (inr m) = rising_below (x.session + 1) high ss s behind m

-- before one of them, and behind it
rising_split : (low high : ℕ) (done rest : List Seat) (t : Seat) → Rising low high (done ++ t ∷ rest) → Rising low t.session done × Rising (t.session + 1) high rest
rising_split low high [] rest t (here, behind) = (here, behind)
rising_split low high (s ∷ done) rest t (here, behind) = let both = rising_split (s.session + 1) high done rest t behind in ((here, both.0), both.1)

-- ---- those that came in a round

next_closed : (why : Closing) (lobby : Lobby) (place moment address : ℕ) → (lobby_closed why lobby place moment address).next ≡ lobby.next + 1
next_closed closing.Stranger lobby place moment address = refl
next_closed closing.Away lobby place moment address = refl

abbrev lobby_by : Lobby → (moment : ℕ) → Seat → Option Closing → Lobby
lobby_by lobby moment seat o = elim o [
  | None ↦ record lobby { next = lobby.next + 1 }
  | Some why ↦ lobby_closed why lobby seat.place moment seat.client.address
]

abbrev taken_if : Seat → Option Closing → List Seat
taken_if seat o = elim o [ None ↦ seat ∷ [] | Some why ↦ [] ]

taken_one : (places : List Listening) (moment from : ℕ) (lobby : Lobby) (standing : List Seat) (a : Arrival) (high : ℕ) (more : List Seat) → IsArrival places moment from lobby standing a →
    (o : Option Closing) → a.closed ≡ o → Rising (lobby_with lobby moment a).next high more → Rising lobby.next high (taken_by a ++ more)
taken_one places moment from lobby standing a high more is None e r =
    let next : (lobby_with lobby moment a).next ≡ a.seat.session + 1 =
    ap (λ (o : Option Closing). (lobby_by lobby moment a.seat o).next) e
    ∙ ap (λ n. n + 1) (sym is.number) in
    subst (λ (ss : List Seat). Rising lobby.next high (ss ++ more)) (sym (ap (taken_if a.seat) e))
    (omega (arith, is.number), subst (λ n. Rising n high more) next r)
taken_one places moment from lobby standing a high more is (Some why) e r =
    let next : (lobby_with lobby moment a).next ≡ lobby.next + 1 =
    ap (λ (o : Option Closing). (lobby_by lobby moment a.seat o).next) e
    ∙ next_closed why lobby a.seat.place moment a.seat.client.address in
    subst (λ (ss : List Seat). Rising lobby.next high (ss ++ more)) (sym (ap (taken_if a.seat) e))
    (rising_from (lobby_with lobby moment a).next lobby.next high more (omega (arith, next)) r)

taken_rising : (places : List Listening) (moment from : ℕ) (lobby : Lobby) (standing : List Seat) (arrivals : List Arrival) → AreArrivals places moment from lobby standing arrivals →
    Rising lobby.next (lobby_behind lobby moment arrivals).next (taken_of arrivals)
taken_rising places moment from lobby standing [] come = omega arith
taken_rising places moment from lobby standing (a ∷ more) (is, come) =
    taken_one places moment from lobby standing a (lobby_behind (lobby_with lobby moment a) moment more).next (taken_of more) is a.closed refl
    (taken_rising places moment (a.seat.place + 1) (lobby_with lobby moment a) (standing ++ taken_by a) more come)

-- ---- the sessions that stand behind turns

other_number : (a b : ℕ) → (a ≡ b → ⊥) → (a == b) ≡ false
other_number a b h = elim (cases_Bool (a == b)) [
  | inl same ↦ absurd (h (same_number a b same))
  | inr other ↦ other
]

pub record Holds (past : List TurnOf) (standing : List Seat) (next : ℕ) : Type 0 where
  pub rising : Rising 0 next standing
  pub early : (u : TurnOf) → Among u past → u.seat.session < next
  pub still : (s : Seat) → Among s standing → ends_in s.session past ≡ []
  pub held : (u : TurnOf) → Among u past → ends_in u.seat.session past ≡ [] → Among u.seat standing

none_of : (k : ℕ) (past : List TurnOf) → ((u : TurnOf) → Among u past → (u.seat.session == k) ≡ false) → ends_in k past ≡ []
none_of k [] h = refl
none_of k (u ∷ past) h = ap (λ (x : Bool). (if x then option_to_list u.end else []) ++ ends_in k past) (h u (inl refl)) ∙ none_of k past (λ v m. h v (inr m))

-- those that were taken stand too
holds_taken : (past : List TurnOf) (standing taken : List Seat) (next after : ℕ) → Holds past standing next → Rising next after taken → Holds past (standing ++ taken) after
holds_taken past standing taken next after h r = record {
  rising = rising_join 0 next after standing taken h.rising r;
  early = λ u m. (let e = h.early u m in let le = rising_ends next after taken r in omega (arith, e, le));
  still = λ s m. elim (among_either s standing taken m) [
    | inl front ↦ h.still s front
    | inr back ↦ none_of s.session past (λ u among. other_number u.seat.session s.session (λ same. (let e = h.early u among in let above = rising_above next after taken s r back in omega (arith, e, above, same))))
  ];
  held = λ u m e. among_front u.seat standing taken (h.held u m e);
}

module _ (past : List TurnOf) (t : TurnOf) (done rest : List Seat) (next : ℕ) (h : Holds past (done ++ t.seat ∷ rest) next) where
  abbrev now : List TurnOf
  now = past ++ t ∷ []

  parts : Rising 0 t.seat.session done × Rising (t.seat.session + 1) next rest
  parts = rising_split 0 next done rest t.seat h.rising

  middle : Among t.seat (done ++ t.seat ∷ rest)
  middle = among_back t.seat done (t.seat ∷ rest) (inl refl)

  before : (s : Seat) → Among s done → s.session < t.seat.session
  before s m = rising_below 0 t.seat.session done s parts.0 m

  behind : (s : Seat) → Among s rest → t.seat.session < s.session
  behind s m = let above = rising_above (t.seat.session + 1) next rest s parts.1 m in omega (arith, above)

  early_now : (u : TurnOf) → Among u now → u.seat.session < next
  early_now u m = elim (among_more u past t m) [
    | inl front ↦ h.early u front
    | inr last ↦ subst (λ (v : TurnOf). v.seat.session < next) last (rising_below 0 next (done ++ t.seat ∷ rest) t.seat h.rising middle)
  ]

  -- ---- the session stays

  still_by : (s : Seat) → Among s (done ++ t.seat ∷ rest) → t.end ≡ None → (own : Bool) → (t.seat.session == s.session) ≡ own → ends_in s.session now ≡ []
  still_by s m e true own = its_own (λ (u : TurnOf). option_to_list u.end) s.session past t own ∙ ap (λ es. es ++ option_to_list t.end) (h.still s m) ∙ ap option_to_list e
  still_by s m e false other = its_other (λ (u : TurnOf). option_to_list u.end) s.session past t other ∙ h.still s m

  holds_on : t.end ≡ None → Holds now (done ++ t.seat ∷ rest) next
  holds_on e = record {
    rising = h.rising;
    early = early_now;
    still = λ s m. still_by s m e (t.seat.session == s.session) refl;
    held = λ u m none. elim (among_more u past t m) [
      | inl front ↦ h.held u front (not_before u.seat.session past (t ∷ []) none)
      | inr last ↦ subst (λ (v : TurnOf). Among v.seat (done ++ t.seat ∷ rest)) last middle
    ];
  }

  -- ---- the session ends

  its_end : (why : SessionEnd) → t.end ≡ Some why → (k : ℕ) → t.seat.session ≡ k → ends_in k now ≡ [] → ⊥
  its_end why e k same none =
      cc (sym (ap option_to_list e) ∙ not_then t.seat.session past t (own_number t.seat.session) (subst (λ n. ends_in n now ≡ []) (sym same) none))

  still_apart : (s : Seat) → Among s (done ++ t.seat ∷ rest) → (t.seat.session ≡ s.session → ⊥) → ends_in s.session now ≡ []
  still_apart s m apart = its_other (λ (u : TurnOf). option_to_list u.end) s.session past t (other_number t.seat.session s.session apart) ∙ h.still s m

  held_apart : (s : Seat) → Among s (done ++ t.seat ∷ rest) → (t.seat.session ≡ s.session → ⊥) → Among s (done ++ rest)
  held_apart s m apart = elim (among_either s done (t.seat ∷ rest) m) [
    | inl front ↦ among_front s done rest front
    | inr back ↦ elim back [
      | inl same ↦ absurd (apart (ap (λ (x : Seat). x.session) same))
      | inr later ↦ among_back s done rest later
    ]
  ]

  holds_less : (why : SessionEnd) → t.end ≡ Some why → Holds now (done ++ rest) next
  holds_less why e = record {
    rising = rising_join 0 t.seat.session next done rest parts.0 (rising_from (t.seat.session + 1) t.seat.session next rest (omega arith) parts.1);
    early = early_now;
    still = λ s m. elim (among_either s done rest m) [
      | inl front ↦ still_apart s (among_front s done (t.seat ∷ rest) front) (λ same. (let lt = before s front in omega (arith, lt, same)))
      | inr back ↦ still_apart s (among_back s done (t.seat ∷ rest) (inr back)) (λ same. (let lt = behind s back in omega (arith, lt, same)))
    ];
    held = λ u m none. elim (among_more u past t m) [
      | inl front ↦ held_apart u.seat (h.held u front (not_before u.seat.session past (t ∷ []) none)) (λ same. its_end why e u.seat.session same none)
      | inr last ↦ absurd (its_end why e u.seat.session (ap (λ (v : TurnOf). v.seat.session) last) none)
    ];
  }

  stays_is : (o : Option SessionEnd) → t.end ≡ o → stays t ≡ elim o [ None ↦ t.seat ∷ [] | Some why ↦ [] ]
  stays_is o e = ap (λ (x : Option SessionEnd). elim x [ None ↦ t.seat ∷ [] | Some why ↦ [] ]) e

  holds_turn : (o : Option SessionEnd) → t.end ≡ o → Holds now ((done ++ stays t) ++ rest) next
  holds_turn None e =
      subst (λ (ss : List Seat). Holds now ss next) (sym (ap (λ (ss : List Seat). (done ++ ss) ++ rest) (stays_is None e) ∙ append_assoc done (t.seat ∷ []) rest)) (holds_on e)
  holds_turn (Some why) e =
      subst (λ (ss : List Seat). Holds now ss next) (sym (ap (λ (ss : List Seat). (done ++ ss) ++ rest) (stays_is (Some why) e) ∙ ap (λ (ss : List Seat). ss ++ rest) (append-nil done))) (holds_less why e)

  -- ---- the turn

  same_seat : (u : TurnOf) → Among u past → (u.seat.session == t.seat.session) ≡ true → u.seat ≡ t.seat
  same_seat u m own =
      let number = same_number u.seat.session t.seat.session own in
      let there = h.held u m (subst (λ n. ends_in n past ≡ []) (sym number) (h.still t.seat middle)) in
      elim (among_either u.seat done (t.seat ∷ rest) there) [
        | inl front ↦ (let lt = before u.seat front in absurd (omega (arith, lt, number)))
        | inr back ↦ elim back [
          | inl same ↦ sym same
          | inr later ↦ (let lt = behind u.seat later in absurd (omega (arith, lt, number)))
        ]
      ]

-- ---- sessions of one client in a round

or_true : (b : Bool) → b || true ≡ true
or_true true = refl
or_true false = refl

any_among : (P : Seat → Bool) (s : Seat) (ss : List Seat) → Among s ss → P s ≡ true → list_any P ss ≡ true
any_among P s [] m e = absurd m
any_among P s (x ∷ ss) (inl same) e = ap (λ b. b || list_any P ss) (ap P same ∙ e)
any_among P s (x ∷ ss) (inr m) e = ap (λ b. P x || b) (any_among P s ss m e) ∙ or_true (P x)

later_test : (a b : ℕ) → a < b → nat_lt a b ≡ true
later_test a b h = grind (arith, nat_tests)

client_back : (a b c d : ℕ) → (a == b) && (c == d) ≡ true → (b == a) && (d == c) ≡ true
client_back a b c d h = grind (arith, nat_tests)

module _ (places : List Listening) (all : List Seat) (at : Listening) (rates : has_rates at.site ≡ true) where
  must : (x y : Seat) → slice_get places x.place ≡ Some at → Among y all → is_same_client y x ≡ true → x.session < y.session → must_end places all x ≡ true
  must x y listens m client later =
      ap (λ (o : Option Listening). elim o [ None ↦ false | Some l ↦ has_rates l.site && has_later all x ]) listens
      ∙ ap (λ b. b && has_later all x) rates
      ∙ any_among (λ (s : Seat). is_same_client s x && nat_lt x.session s.session) y all m
      (ap (λ b. b && nat_lt x.session y.session) client ∙ later_test x.session y.session later)

-- ---- the turns of a round

abbrev stays_by : Seat → Option SessionEnd → List Seat
stays_by seat o = elim o [ None ↦ seat ∷ [] | Some why ↦ [] ]

stays_own : (t : TurnOf) (s : Seat) (o : Option SessionEnd) → t.end ≡ o → Among s (stays t) → t.seat ≡ s
stays_own t s None e m = elim (subst (λ (ss : List Seat). Among s ss) (ap (stays_by t.seat) e) m) [
  | inl same ↦ same
  | inr none ↦ absurd none
]
stays_own t s (Some why) e m = absurd (subst (λ (ss : List Seat). Among s ss) (ap (stays_by t.seat) e) m)

stays_none : (t : TurnOf) → t.end ≡ None → (b : Bool) → IsAgain b t → b ≡ false
stays_none t e true again = cc (sym e ∙ again.1)
stays_none t e false again = refl

not_again : (t : TurnOf) (moment : ℕ) → IsTurn moment t → (b : Bool) → b ≡ true → IsAgain b t → is_some t.begun ≡ true → ⊥
not_again t moment is true e again begun = cc (sym (ap is_some (is.1 again.0).1.0) ∙ begun)
not_again t moment is false e again begun = cc e

module _ (places : List Listening) (all : List Seat) (next moment : ℕ) where
  -- the sessions that had their turns stay, and no client of theirs came again; all are those of the round
  abbrev AreCalmOf : (done : List Seat) → Type 0
  AreCalmOf done = (s : Seat) → Among s done → must_end places all s ≡ false

  abbrev AreOf : List Seat → Type 0
  AreOf ss = (s : Seat) → Among s ss → Among s all

  stood_one : (past : List TurnOf) (done rest : List Seat) (t : TurnOf) → Holds past (done ++ t.seat ∷ rest) next → AreCalmOf done → AreOf (done ++ t.seat ∷ rest) →
      IsTurn moment t → IsAgainOf places all t → IsStood places past t
  stood_one past done rest t h calm of is again = record {
    still = h.still t.seat (middle past t done rest next h);
    same = same_seat past t done rest next h;
    alone = λ at listens rates begun u m client other unended.
        let place : u.seat.place ≡ t.seat.place = same_number u.seat.place t.seat.place (and_parts (u.seat.place == t.seat.place) (u.seat.client.address == t.seat.client.address) client).0 in
        elim (among_either u.seat done (t.seat ∷ rest) (h.held u m unended)) [
          | inl front ↦
              cc (sym (calm u.seat front)
              ∙ must places all at rates u.seat t.seat (ap (slice_get places) place ∙ listens) (of t.seat (middle past t done rest next h))
              (client_back u.seat.place t.seat.place u.seat.client.address t.seat.client.address client) (before past t done rest next h u.seat front))
          | inr back ↦ elim back [
            | inl same ↦ cc (sym other ∙ ap (λ (s : Seat). s.session == t.seat.session) (sym same) ∙ own_number t.seat.session)
            | inr later ↦
                not_again t moment is (must_end places all t.seat)
                (must places all at rates t.seat u.seat listens (of u.seat (among_back u.seat done (t.seat ∷ rest) (inr later))) client (behind past t done rest next h u.seat later))
                again begun
          ]
        ];
  }

  calm_more : (done : List Seat) (t : TurnOf) → AreCalmOf done → IsAgainOf places all t → (o : Option SessionEnd) → t.end ≡ o → AreCalmOf (done ++ stays t)
  calm_more done t calm again None e s m = elim (among_either s done (stays t) m) [
    | inl front ↦ calm s front
    | inr back ↦
        let seat = subst (λ (ss : List Seat). Among s ss) (ap (stays_by t.seat) e) back in
        elim seat [
          | inl same ↦ ap (must_end places all) (sym same) ∙ stays_none t e (must_end places all t.seat) again
          | inr none ↦ absurd none
        ]
  ]
  calm_more done t calm again (Some why) e s m = elim (among_either s done (stays t) m) [
    | inl front ↦ calm s front
    | inr back ↦ absurd (subst (λ (ss : List Seat). Among s ss) (ap (stays_by t.seat) e) back)
  ]

  of_more : (done rest : List Seat) (t : TurnOf) → AreOf (done ++ t.seat ∷ rest) → (o : Option SessionEnd) → t.end ≡ o → AreOf ((done ++ stays t) ++ rest)
  of_more done rest t of o e s m = elim (among_either s (done ++ stays t) rest m) [
    | inr back ↦ of s (among_back s done (t.seat ∷ rest) (inr back))
    | inl front ↦ elim (among_either s done (stays t) front) [
      | inl early ↦ of s (among_front s done (t.seat ∷ rest) early)
      | inr own ↦ of s (among_back s done (t.seat ∷ rest) (inl (stays_own t s o e own)))
    ]
  ]

  -- each turn, and the sessions that stand behind them
  record AfterTurns (past : List TurnOf) (done : List Seat) (turns : List TurnOf) : Type 0 where
    pub stood : AreStood places past turns
    pub holds : Holds (past ++ turns) (done ++ flat_map stays turns) next

  turns_hold : (past : List TurnOf) (done : List Seat) (turns : List TurnOf) → Holds past (done ++ map (λ (t : TurnOf). t.seat) turns) next → AreCalmOf done →
      AreOf (done ++ map (λ (t : TurnOf). t.seat) turns) → AreTurns moment turns → AllByRecursion (IsAgainOf places all) turns → AfterTurns past done turns
  turns_hold past done [] h calm of each again = record { stood = tt; holds = subst (λ (us : List TurnOf). Holds us (done ++ []) next) (sym (append-nil past)) h }
  turns_hold past done (t ∷ ts) h calm of (is, each) (here, again) =
      let rest = map (λ (u : TurnOf). u.seat) ts in
      let later = turns_hold (past ++ t ∷ []) (done ++ stays t) ts (holds_turn past t done rest next h t.end refl) (calm_more done t calm here t.end refl)
      (of_more done rest t of t.end refl) each again in
      record {
        stood = (stood_one past done rest t h calm of is here, later.stood);
        holds =
            subst (λ (us : List TurnOf). Holds us (done ++ (stays t ++ flat_map stays ts)) next) (append_assoc past (t ∷ []) ts)
            (subst (λ (ss : List Seat). Holds ((past ++ t ∷ []) ++ ts) ss next) (append_assoc done (stays t) (flat_map stays ts)) later.holds);
      }

-- ---- round by round

stood_join : (places : List Listening) (past xs ys : List TurnOf) → AreStood places past xs → AreStood places (past ++ xs) ys → AreStood places past (xs ++ ys)
stood_join places past [] ys front back = subst (λ (us : List TurnOf). AreStood places us ys) (append-nil past) back
stood_join places past (x ∷ xs) ys (here, front) back =
    (here, stood_join places (past ++ x ∷ []) xs ys front (subst (λ (us : List TurnOf). AreStood places us ys) (sym (append_assoc past (x ∷ []) xs)) back))

record AfterRound (places : List Listening) (past turns : List TurnOf) (standing : List Seat) (next : ℕ) : Type 0 where
  pub stood : AreStood places past turns
  pub holds : Holds (past ++ turns) standing next

round_holds : (places : List Listening) (past : List TurnOf) (lobby : Lobby) (standing : List Seat) (r : Round) (lobby_after : Lobby) (standing_after : List Seat) →
    IsRound places lobby standing r lobby_after standing_after → Holds past standing lobby.next → AfterRound places past r.turns standing_after lobby_after.next
round_holds places past lobby standing r lobby_after standing_after is h =
    let all = standing ++ taken_of r.arrivals in
    let counts : (lobby_behind lobby r.moment r.arrivals).next ≡ lobby_after.next = ap (λ (l : Lobby). l.next) (sym is.counts) in
    let taken : Rising lobby.next lobby_after.next (taken_of r.arrivals) = subst (λ n. Rising lobby.next n (taken_of r.arrivals)) counts (taken_rising places r.moment 0 lobby standing r.arrivals is.arrive) in
    let stand = holds_taken past standing (taken_of r.arrivals) lobby.next lobby_after.next h taken in
    let after = turns_hold places all lobby_after.next r.moment past [] r.turns (subst (λ (ss : List Seat). Holds past ss lobby_after.next) (sym is.in_turn) stand) (λ s m. absurd m)
    (λ s m. subst (λ (ss : List Seat). Among s ss) is.in_turn m) is.each is.again in
    record { stood = after.stood; holds = subst (λ (ss : List Seat). Holds (past ++ r.turns) ss lobby_after.next) (sym is.stay) after.holds }

rounds_stood : (places : List Listening) (past : List TurnOf) (lobby : Lobby) (standing : List Seat) (rounds : List Round) (lobby_after : Lobby) (standing_after : List Seat) →
    AreRounds places lobby standing rounds lobby_after standing_after → Holds past standing lobby.next → AreStood places past (turns_of rounds)
rounds_stood places past lobby standing [] lobby_after standing_after in_turn h = tt
rounds_stood places past lobby standing (r ∷ rounds) lobby_after standing_after (n, (s, (is, later))) h =
    let after = round_holds places past lobby standing r n s is h in
    stood_join places past r.turns (turns_of rounds) after.stood (rounds_stood places (past ++ r.turns) n s rounds lobby_after standing_after later after.holds)

pub all_stood : (places : List Listening) (rounds : List Round) (lobby : Lobby) (standing : List Seat) → AreRounds places first_lobby [] rounds lobby standing → AreStood places [] (turns_of rounds)
all_stood places rounds lobby standing in_turn =
    rounds_stood places [] first_lobby [] rounds lobby standing in_turn
    (record { rising = omega arith; early = λ u m. absurd m; still = λ s m. absurd m; held = λ u m e. absurd m })
