-- Steps of the proof: what a contract sees of a pair as the links of one session: `only_links`.
use Rattle.cf_links.specs.LinkValue.{LinkValue}
use Rattle.cf_links.specs.Links.{LinksEntry, Of}
use Rattle.cf_outside.specs.Pair.{Entry}
use Rattle.cf_outside.specs.declared.Pair.{Ghosts as PairOf}
use Rattle.std.specs.Prelude.{List, Option, map, option_map}

-- the answers of a pair, as those of the session 0
abbrev pub only_told : Option (List Entry) → Option (List LinksEntry)
only_told told = option_map (map (Of 0)) told

-- the links of the session 0, which are a pair
abbrev pub only_links : {P : Type 0} → PairOf P → P → LinkValue
only_links P pair = record {
  told = record { session = 0; list = only_told (P.told pair) };
  faults = P.faults pair;
  idles = P.idles pair;
}
