-- The user octets of a frame, `user_of`: its blocks without their CRCs. IEEE 1815-2012, section 9.2.
use Rattle.std.specs.Prelude.{ℕ, zero, suc, ◌+◌, ◌-◌, ◌/◌, min, List, [], ◌++◌, length, take, drop}

-- the user octets of the first n blocks, of 18 octets each but for the last
unfoldable pub user_by : ℕ → List ℕ → List ℕ
user_by zero blocks = []
user_by (suc n) blocks = take (min 16 (length blocks - 2)) blocks ++ user_by n (drop 18 blocks)

-- the user octets of all blocks
abbrev pub user_of : List ℕ → List ℕ
user_of blocks = user_by ((length blocks + 17) / 18) blocks
