-- Steps of the proof: the draws of a seed: `draw_at`. The generator is PCG32 (O'Neill, XSH RR 64/32), which the seed is spread over as
-- `rand_core` does it; that eight draws are told apart is this project's own.
use Rattle.std.specs.Prelude.{ℕ, zero, suc, ◌%◌}
use Rattle.rand_core.specs.Pcg32Seed.{pcg32_seed}
use Rattle.rand_pcg.specs.Lcg.{Lcg}
use Rattle.rand_pcg.specs.Pcg.{pcg32, pcg32_of_seed}

-- the generator that `seed_from_u64` makes of a seed
abbrev pub seeded : (seed : ℕ) → Lcg
seeded seed = pcg32_of_seed (pcg32_seed 16 seed)

-- the generator of a seed after its first words, of which there were so many
unfoldable pub drawn : (seed count : ℕ) → Lcg
drawn seed zero = seeded seed
drawn seed (suc count) = (pcg32 (drawn seed count)).1

-- the word of a seed after so many others, modulo 8
abbrev pub draw_at : (seed count : ℕ) → ℕ
draw_at seed count = (pcg32 (drawn seed count)).0 % 8
