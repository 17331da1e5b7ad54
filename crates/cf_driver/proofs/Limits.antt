-- The limit on the lengths of the streams, by their numbers of letters; and what unfinished fragments may still put out at most.
use Rattle.std.proofs.Common.{Bool, List, None, Some, ap, arith, cond, false, inl, inr, length, refl, true, ℕ, ◌<◌, ◌≡◌, ◌≤◌, ◌||◌, if◌then◌else◌}
use Rattle.std.specs.Prelude.{nat_le}
use Rattle.std.proofs.lemmas.Bool.{cases_lt, le-leb, lt-leb}
use Rattle.cf_audit.specs.declared.line.CutReason.{CutReason}
use Rattle.cf_lane.specs.Handled.{debt_by, debt_limit}
use Rattle.cf_lane.specs.History.{Element, taken}
use Rattle.cf_lane.specs.Judged.{Judged}
use Rattle.cf_lane.specs.Limit.{limit_by, limit_cut}
use Rattle.cf_lane.specs.Output.{stream_to}
use Rattle.cf_outq.specs.SendQueue.{IsQueueOf, Queue, queue_length}
use Rattle.cf_policy.specs.Site.{IsSiteWithin, SiteValue, assets_of}
use Rattle.cf_policy.specs.Within.{most_at_site}
use Rattle.cf_policy.specs.declared.Protocol.{Protocol}
use Rattle.cf_stream.specs.Stream.{letter_count}
use Rattle.cf_audit.specs.declared.line.CutReason.TheVariants as reason
use Rattle.cf_policy.specs.declared.Protocol.TheVariants as protocol
use Rattle.cf_view.specs.declared.Side.TheVariants as side

-- no stream reaches it
pub limit_none : (l a b c d : ℕ) → a < l → b < l → c < l → d < l → limit_by l a b c d ≡ None
limit_none l a b c d ha hb hc hd = rw (lt-leb l a ha, lt-leb l b hb, lt-leb l c hc, lt-leb l d hd) refl

none_of : (p q r s : Bool) (x y : CutReason) → (if p || q then Some x else if r || s then Some y else None) ≡ None →
    (p ≡ false) × (q ≡ false) × (r ≡ false) × (s ≡ false)
none_of true q r s x y e = cc
none_of false true r s x y e = cc
none_of false false true s x y e = cc
none_of false false false true x y e = cc
none_of false false false false x y e = (refl, refl, refl, refl)

below : (l n : ℕ) → nat_le l n ≡ false → n < l
below l n e = elim (cases_lt n l) [ inl less ↦ less | inr more ↦ absurd (let t = le-leb l n more in cc) ]

-- where it does not cut, each is shorter
pub limit_short : (l a b c d : ℕ) → limit_by l a b c d ≡ None → (a < l) × (b < l) × (c < l) × (d < l)
limit_short l a b c d e =
    let (p, q, r, s) = none_of (nat_le l a) (nat_le l c) (nat_le l b) (nat_le l d) (reason.StreamLength side.Client) (reason.StreamLength side.Controller) e in
    (below l a p, below l b r, below l c q, below l d s)

-- the numbers that are kept are those of the streams
pub limit_is : (l : ℕ) (site : SiteValue) (h : List Element) (js : List Judged) (a b : ℕ) (c k : Queue) → a ≡ letter_count (taken side.Client h) → b ≡ letter_count (taken side.Controller h) →
    IsQueueOf c (stream_to site side.Client js) → IsQueueOf k (stream_to site side.Controller js) →
    limit_by l a b (queue_length c) (queue_length k) ≡ limit_cut l h (stream_to site side.Client js) (stream_to site side.Controller js)
limit_is l site h js a b c k e d qc qk =
    let lc : queue_length c ≡ letter_count (stream_to site side.Client js) = omega (arith, qc.pushed, ap {B = ℕ} (λ x. cond x 1 0) qc.ended) in
    let lk : queue_length k ≡ letter_count (stream_to site side.Controller js) = omega (arith, qk.pushed, ap {B = ℕ} (λ x. cond x 1 0) qk.ended) in
    rw (e, d, lc, lk) refl

-- ---- what is owed

owed_by : (p : Protocol) (count : ℕ) → count ≤ most_at_site p → debt_by p count ≤ 42400
owed_by protocol.Modbus count few = omega arith
owed_by protocol.Dnp3 count few = omega (arith, few)
owed_by protocol.Iec104 count few = omega arith

-- what unfinished fragments may still put out is bounded by the most assets that a site has: eight of DNP3
pub owed_most : (site : SiteValue) → IsSiteWithin site → debt_limit site ≤ 42400
owed_most site within = owed_by site.first.protocol (length (assets_of site)) within.count
