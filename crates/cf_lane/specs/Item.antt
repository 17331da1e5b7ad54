-- What completes in the two streams of a session, in the order in which it completes: `AreItems`.
use Rattle.cf_lane.specs.History.{Element, bytes_of}
use Rattle.cf_lane.specs.Unit.{AreUnits, Left, Tail, UnitValue, Wrong}
use Rattle.cf_policy.specs.declared.Protocol.{Protocol}
use Rattle.cf_view.specs.declared.Break.{Break}
use Rattle.cf_view.specs.declared.Side.{Side}
use Rattle.std.specs.Prelude.{Bool, List, [], false, length, map, true, ℕ, ◌++◌, ◌∷◌, ◌≡◌}

-- what completes in the stream of a side: a unit, its End with so many octets left over, or a break
pub data Item : Type 0 where
  -- a unit of a side. For DNP3 a frame: the fragment that it completes is a function of the frames before it
  Took : Side → UnitValue → Item
  -- a side sends no more, and so many bytes are left that are no whole unit
  Ended : Side → (rest : ℕ) → Item
  -- an octet of a side is one that no unit has there
  Broke : Side → Break → Item

-- an item with the moment at which it completes
pub record Placed : Type 0 where
  pub moment : ℕ
  pub item : Item

-- the item, completed at this moment
abbrev pub placed : ℕ → Item → Placed
placed moment item = record { moment = moment; item = item }

-- the last item of an element: a break, or the side's End
abbrev pub last_items : Side → (ended : Bool) → Tail → List Item
last_items s ended (Wrong reason) = Broke s reason ∷ []
last_items s true (Left rest) = Ended s (length rest) ∷ []
last_items s false (Left rest) = []

-- the last item of a side whose bytes were units and this before: a broken octet is the last one of its side
abbrev pub last_after : (was : Tail) → Side → (ended : Bool) → Tail → List Item
last_after (Wrong reason) s ended now = []
last_after (Left rest) s ended now = last_items s ended now

-- the items that an element completes: the units of its side's whole stream now, without those from before it
pub record Completes (p : Protocol) (earlier : List Element) (e : Element) (items : List Placed) : Type 0 where
  pub before : List UnitValue
  pub was : Tail
  pub more : List UnitValue
  pub tail : Tail
  pub were : AreUnits p (bytes_of e.side earlier) before was
  pub are : AreUnits p (bytes_of e.side (earlier ++ e ∷ [])) (before ++ more) tail
  pub is_items : items ≡ map (placed e.moment) (map (Took e.side) more ++ last_after was e.side e.letters.ended tail)

-- the items that elements complete one after the other, after earlier ones
abbrev pub AreItems : Protocol → (earlier later : List Element) → List Placed → Type 0
AreItems p earlier [] items = items ≡ []
AreItems p earlier (e ∷ later) items =
    (now next : List Placed) × Completes p earlier e now × AreItems p (earlier ++ e ∷ []) later next × (items ≡ now ++ next)
