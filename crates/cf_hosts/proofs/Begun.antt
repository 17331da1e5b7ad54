-- A session that begins next.
use Rattle.std.proofs.Common.{◌≡◌, ℕ, ◌+◌, ◌<◌, ◌≤◌, List, length, inl, inr, sym, subst, arith}
use Rattle.std.proofs.lemmas.Bool.{cases_lt}
use Rattle.cf_hosts.specs.Sessions.{IsSyn}
use Rattle.cf_hosts.specs.Next.{IsNext, made_record}
use Rattle.cf_hosts.specs.declared.next.Next.{Next}
use Rattle.cf_hosts.specs.declared.next.Next.TheVariants as next

module _ (begun sessions last losses moment : ℕ) (packet : List ℕ) where
  pub begins_next : (found : Next) → found ≡ next.Sends moment (begun + 1) → begun < sessions → sessions ≤ 200 → last + 2000 ≤ moment → moment ≤ last + 10000000 →
      length packet ≤ 1500 → IsSyn begun (made_record moment packet) → IsNext begun sessions last losses packet found
  begins_next found is fewer few later soon short syn = subst (IsNext begun sessions last losses packet) (sym is) (record {
    later = later;
    soon = soon;
    short = short;
    has = record { packet = syn.packet; has = syn.has; session = begun; below = omega (arith, fewer, few); between = inl (syn.source, syn.dest) };
    few = omega (arith, fewer);
    near = omega (arith, syn.moment);
    begins = λ session below. elim (cases_lt session begun) [
      | inl earlier ↦ inl earlier
      | inr now ↦
          let same : begun ≡ session = omega (arith, below, now) in
          inr (subst (λ s. IsSyn s (made_record moment packet)) same syn)
    ];
  })
