-- How many letters of a session's queues may wait as a side of it is read: in the queue that its bytes go to `window_size`, and in the one
-- back to it `most_back`. The main definition is `most_back`. This project's own.
use Rattle.cf_lane.specs.Handled.{debt_limit, rest_limit}
use Rattle.cf_outq.specs.SendQueue.{queue_size}
use Rattle.cf_policy.specs.Site.{SiteValue}
use Rattle.cf_stream.specs.Sizes.{window_size}
use Rattle.std.specs.Prelude.{min, ℕ, ◌*◌, ◌+◌, ◌-◌}
use Rattle.cf_relay.specs.declared.directions.Directions.{Directions}
use Rattle.cf_relay.specs.declared.directions.Directions.TheVariants as both
use Rattle.cf_relay.specs.declared.limit.TheConstants.{MOST_BYTES}

-- the letters that so many octets of a side put into either queue at most, at a site of one asset: twice as many, and 8,192 (`GrowsLittle`
-- of cf_lane)
abbrev pub most_put : ℕ → ℕ
most_put octets = 2 * octets + 8192

-- those that so many octets of each side put there at most, at any site: twice as many and twice what was left of the sides, and what
-- unfinished fragments may put out
abbrev pub most_of_both : SiteValue → (octets : ℕ) → ℕ
most_of_both site octets = 2 * (2 * (octets + rest_limit)) + debt_limit site

-- together, as many as of the other queue; separate, so many that there is room for what both sides put there in a turn, and not more
-- than at a site of one asset
abbrev pub most_back : Directions → SiteValue → ℕ
most_back both.Together site = window_size
most_back both.Separate site = min (queue_size - 2 * most_put MOST_BYTES) (queue_size - most_of_both site MOST_BYTES)
