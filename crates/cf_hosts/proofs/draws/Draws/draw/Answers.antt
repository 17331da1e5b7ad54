use Rattle.std.proofs.Common.{◌≡◌, ◌+◌, ℕ, ap, add-one, ◌∙◌}
use Rattle.rand_pcg.specs.Lcg.{Lcg}
use Rattle.rand_pcg.specs.Pcg.{pcg32}
use Rattle.cf_hosts.specs.Draws.{drawn}
use Rattle.cf_hosts.proofs.draws.Draws.draw.Goals as goal

-- one word more
drawn_next : (seed count : ℕ) (old : Lcg) → old ≡ drawn seed count → (pcg32 old).1 ≡ drawn seed (count + 1)
unfolding drawn
drawn_next seed count old e = rw (add-one, e)

pub returns-clause-next : goal.returns-clause-next
returns-clause-next c = λ seed count e. ap (λ (p : ℕ × Lcg). p.1) c.next_word.ensures ∙ drawn_next seed count c.self.inside.generator (c.self.view_is ∙ e)
