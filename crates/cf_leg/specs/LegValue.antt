-- Steps of the proof: what a leg keeps of its connection, `LegValue` (RFC 9293, section 3.3.1, calls it the transmission control
-- block), and when it stands for the events so far, `IsLegOf`.
use Rattle.std.specs.Prelude.{◌≡◌, ℕ, ◌+◌, ◌^◌, ◌<◌, ◌≤◌, nat_lt, Bool, true, false, if◌then◌else◌, List, [], ◌∷◌}
use Rattle.cf_outq.specs.SendQueue.{Queue, queue_length}
use Rattle.cf_rebuild.specs.ReceiveWindow.{Window, base_of}
use Rattle.cf_rebuild.specs.ReceiveWindow.{IsWindowOf}
use Rattle.cf_leg.specs.Emits.{AllRight, send_mss, peer_mss}
use Rattle.cf_leg.specs.Event.{LegEvent, is_spoken}
use Rattle.cf_leg.specs.Heard.{opened, owed, acked, shown, offers}
use Rattle.cf_leg.specs.Timer.{armed, due, tries}
use Rattle.cf_leg.specs.Told.{is_greeted, own_number, peer_number, told, letters_sent}
use Rattle.cf_leg.specs.declared.ends.Ends.{Ends}
use Rattle.cf_leg.specs.declared.ends.Phase.{Phase}
use Rattle.cf_leg.specs.declared.ends.Phase.TheVariants as phase
use Rattle.cf_leg.specs.declared.ends.Role.{Role}
use Rattle.cf_leg.specs.declared.ends.Role.TheVariants as role
use Rattle.cf_leg.specs.declared.ends.Advertised.{Advertised}
use Rattle.cf_leg.specs.declared.ends.Way.{Way}
use Rattle.cf_stream.specs.Sizes.{window_size}

-- what a contract sees of a `Leg`
pub record LegValue : Type 0 where
  pub ends : Ends
  pub phase : Phase
  -- the sequence numbers of the two SYNs, 0 while they are not known
  pub own : ℕ
  pub other : ℕ
  pub mss : ℕ
  pub window : Window
  -- the base that the peer was told; the edge that it was told is the window's
  pub base : ℕ
  -- the greatest edge that the peer has shown
  pub shown : ℕ
  -- an acknowledgment is owed
  pub owes : Bool
  -- the timer: whether it ran after the last event, when it expires, and how often it did since an answer
  pub running : Bool
  pub deadline : ℕ
  pub fired : ℕ

-- what holds of every leg, whatever happened
pub record IsLeg (leg : LegValue) : Type 0 where
  pub base : leg.base ≤ base_of leg.window
  pub edge : leg.window.edge ≤ leg.base + window_size
  pub shown : leg.shown < 2 ^ 33
  pub some_mss : 0 < leg.mss
  pub mss : leg.mss ≤ 1460
  pub deadline : leg.deadline < 2 ^ 60
  pub fired : leg.fired ≤ 6
  pub early : leg.phase ≡ phase.Made → leg.window.edge ≡ 0

-- what the peer was told, and between whom segments go
abbrev pub told_of : LegValue → Advertised
told_of leg = record { base = leg.base; edge = leg.window.edge }

abbrev pub way_at : LegValue → Way
way_at leg = record { source = leg.ends.own; dest = leg.ends.peer; own = leg.own; other = leg.other }

-- something is unanswered
abbrev pub arms : Phase → Queue → Bool
arms phase.Made q = false
arms phase.Greeted q = true
arms phase.Open q = nat_lt q.acked (queue_length q)

-- what the queue of a leg counts
pub record Marks : Type 0 where
  pub acked : ℕ
  pub sent : ℕ
  pub shown : ℕ

abbrev pub marks : Queue → Marks
marks q = record { acked = q.acked; sent = q.sent; shown = q.shown }

abbrev pub phase_of : Bool → Bool → Phase
phase_of is_open greeted = if is_open then phase.Open else (if greeted then phase.Greeted else phase.Made)

abbrev pub is_open : Phase → Bool
is_open phase.Made = false
is_open phase.Greeted = false
is_open phase.Open = true

abbrev pub armed_before : Role → List LegEvent → Bool
armed_before r [] = false
armed_before r (e ∷ es) = if is_spoken e.ending then armed r (e ∷ es) else armed r es

abbrev pub owed_now : Role → List LegEvent → Bool
owed_now r [] = false
owed_now r (e ∷ es) = if is_spoken e.ending then false else owed r es e

-- what a peer was told by the greeting
abbrev pub first_told : Role → Advertised
first_told (role.Active own) = record { base = 0; edge = 0 }
first_told (role.Passive other mss) = record { base = 0; edge = window_size }

-- the leg and its queue stand for the events, of which the newest stands first, and every event is right
pub record IsLegOf (leg : LegValue) (queue : Marks) (events : List LegEvent) : Type 0 where
  pub of_right : AllRight leg.ends events
  pub of_phase : leg.phase ≡ phase_of (opened leg.ends.role events) (is_greeted events)
  pub of_own : leg.own ≡ own_number leg.ends.role events
  pub of_other : leg.other ≡ peer_number leg.ends.role events
  pub of_mss : leg.mss ≡ send_mss (peer_mss leg.ends.role events)
  pub of_base : leg.base ≡ (told leg.ends.role events).base
  pub of_edge : leg.window.edge ≡ (told leg.ends.role events).edge
  -- what the greeting told
  pub of_first : opened leg.ends.role events ≡ false → is_greeted events ≡ true → told leg.ends.role events ≡ first_told leg.ends.role
  pub of_window : IsWindowOf leg.window (offers leg.ends.role events)
  pub of_sent : queue.sent ≡ letters_sent leg.ends.role events
  pub of_edge_shown : leg.shown ≡ shown leg.ends.role events
  pub of_shown : queue.shown ≡ shown leg.ends.role events
  pub of_acked : queue.acked ≡ acked leg.ends.role events
  pub of_owes : leg.owes ≡ owed_now leg.ends.role events
  pub of_running : leg.running ≡ armed_before leg.ends.role events
  pub of_deadline : leg.deadline ≡ due leg.ends.role events
  pub of_fired : leg.fired ≡ tries leg.ends.role events
