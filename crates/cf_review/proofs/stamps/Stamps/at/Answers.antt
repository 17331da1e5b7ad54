use Rattle.std.proofs.Common.{◌≡◌, ◌≤◌, ◌∙◌, ℕ, length, ltb, ap, rules, slice_get, Some, sym, subst}
use Rattle.std.specs.List.Sorted.{IsNonDecreasingBy}
use Rattle.std.proofs.lemmas.Bool.{ltb-false}
use Rattle.std.proofs.lemmas.List.Sorted.{IsPartitionPoint-from_clause, IsPartitionedBy-ltb}
use Rattle.std.proofs.lemmas.Option.{slice_get_read}
use Rattle.cf_review.specs.Stamps.{stamp_by}
use Rattle.cf_review.specs.declared.stamps.Stamp.{Stamp}
use Rattle.cf_review.proofs.Stamping.{found_first, found_none, found_past}
use Rattle.cf_review.proofs.stamps.Stamps.at.Goals as goal

pub returns-in-Some : goal.returns-in-Some
returns-in-Some c =
    let s = c.as_slice.result.now in
    let behind = c.partition_point-behind.result in
    let rise : IsNonDecreasingBy (λ (x : Stamp). x.number) s = subst (IsNonDecreasingBy (λ (x : Stamp). x.number)) (sym c.as_slice.ensures.value) c.self.invariant in
    let split = IsPartitionPoint-from_clause (λ (x : Stamp). ltb x.number c.args.number) s behind c.partition_point-behind.ensures.partitioned
    (IsPartitionedBy-ltb (λ (x : Stamp). x.number) s c.args.number rise) (λ a r q k. search rules) in
    let at : slice_get c.as_slice-2.result.now behind ≡ Some c.in-Some.stamp.now = search (rules, slice_get_read) in
    let here : slice_get s behind ≡ Some c.in-Some.stamp.now = subst (λ l. slice_get l behind ≡ Some c.in-Some.stamp.now) (c.as_slice-2.ensures.value ∙ sym c.as_slice.ensures.value) at in
    sym (found_first c.args.number s behind split c.in-Some.stamp.now here c.if-stamp-number.true) ∙ ap (λ l. stamp_by l c.args.number) (c.as_slice.ensures.value ∙ c.self.view_is)

pub returns-in-Some-2 : goal.returns-in-Some-2
returns-in-Some-2 c =
    let s = c.as_slice.result.now in
    let behind = c.partition_point-behind.result in
    let rise : IsNonDecreasingBy (λ (x : Stamp). x.number) s = subst (IsNonDecreasingBy (λ (x : Stamp). x.number)) (sym c.as_slice.ensures.value) c.self.invariant in
    let split = IsPartitionPoint-from_clause (λ (x : Stamp). ltb x.number c.args.number) s behind c.partition_point-behind.ensures.partitioned
    (IsPartitionedBy-ltb (λ (x : Stamp). x.number) s c.args.number rise) (λ a r q k. search rules) in
    let at : slice_get c.as_slice-2.result.now behind ≡ Some c.in-Some.stamp.now = search (rules, slice_get_read) in
    let here : slice_get s behind ≡ Some c.in-Some.stamp.now = subst (λ l. slice_get l behind ≡ Some c.in-Some.stamp.now) (c.as_slice-2.ensures.value ∙ sym c.as_slice.ensures.value) at in
    sym (found_none c.args.number s behind split rise c.in-Some.stamp.now here c.if-stamp-number.false) ∙ ap (λ l. stamp_by l c.args.number) (c.as_slice.ensures.value ∙ c.self.view_is)

pub returns-in-Some-2-2 : goal.returns-in-Some-2-2
returns-in-Some-2-2 c =
    let s = c.as_slice.result.now in
    let behind = c.partition_point-behind.result in
    let rise : IsNonDecreasingBy (λ (x : Stamp). x.number) s = subst (IsNonDecreasingBy (λ (x : Stamp). x.number)) (sym c.as_slice.ensures.value) c.self.invariant in
    let split = IsPartitionPoint-from_clause (λ (x : Stamp). ltb x.number c.args.number) s behind c.partition_point-behind.ensures.partitioned
    (IsPartitionedBy-ltb (λ (x : Stamp). x.number) s c.args.number rise) (λ a r q k. search rules) in
    let past : length s ≤ behind = subst (λ (n : ℕ). n ≤ behind) (ap length (c.as_slice-2.ensures.value ∙ sym c.as_slice.ensures.value))
    (ltb-false behind (length c.as_slice-2.result.now) (sym c.in-Some-2.ensures.lookup.0)) in
    sym (found_past c.args.number s behind split past) ∙ ap (λ l. stamp_by l c.args.number) (c.as_slice.ensures.value ∙ c.self.view_is)
