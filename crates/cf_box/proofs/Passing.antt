-- A policy that was read, with the site that was found in it.
use Rattle.std.proofs.Common.{◌≡◌, List, None, Some, ℕ, subst}
use Rattle.cf_policy.specs.Site.{SiteValue}
use Rattle.cf_policy.specs.declared.Policy.{Policy}
use Rattle.cf_policylang.specs.declared.PolicyRefusal.{PolicyRefusal}
use Rattle.cf_box.specs.Check.{ChangesNothing}
use Rattle.cf_words.specs.Command.{Command, Compare, asset_name, other_file, policy_file}
use Rattle.cf_box.specs.Ends.{PassesPolicy}
use Rattle.cf_ending.specs.Outside.{Outside}
use Rattle.cf_box.specs.PolicyFile.{FindsSite, HasPolicy, StopsPolicy, asset_named}
use Rattle.cf_ending.specs.declared.Stop.{Stop}
use Rattle.cf_ending.specs.declared.Stop.TheVariants as stop
use Rattle.cf_box.proofs.Sites.{asset_of_named}

-- a command that needs an asset reads one policy: the one that compares two needs none
pub one_policy : (c : Command) (file name : List ℕ) → other_file c ≡ Some file → asset_name c ≡ Some name → ⊥
one_policy (Compare policy second) file name e f = cc f
one_policy c file name e f = cc e

-- the command passes its policy
pub found_passes : (c : Command) (before : Outside) (policy name : List ℕ) (site : SiteValue) → policy_file c ≡ Some policy → asset_name c ≡ Some name →
    FindsSite (before.files.content policy) name site → PassesPolicy c before
found_passes c before policy name site of_policy of_asset finds = record {
  policy = λ file e.
      let same : policy ≡ file = cc in
      (finds.policy, subst (λ f. HasPolicy (before.files.content f) finds.policy) same finds.has);
  other = λ file e. absurd (one_policy c file name e of_asset);
  asset = λ file other e f.
      let same : policy ≡ file = cc in
      let named : name ≡ other = cc in
      let found = asset_of_named name finds.policy site finds.named in (
        finds.policy,
        subst (λ f. HasPolicy (before.files.content f) finds.policy) same finds.has,
        (found.0, subst (λ n. asset_named n finds.policy ≡ Some found.0) named found.1),
      );
}

-- and so does one that reads one policy and needs no asset
pub policy_passes : (c : Command) (before : Outside) (policy : List ℕ) (p : Policy) → policy_file c ≡ Some policy → other_file c ≡ None → asset_name c ≡ None →
    HasPolicy (before.files.content policy) p → PassesPolicy c before
policy_passes c before policy p of_policy no_other no_asset has = record {
  policy = λ file e. let same : policy ≡ file = cc in (p, subst (λ f. HasPolicy (before.files.content f) p) same has);
  other = λ file e. cc;
  asset = λ file name e f. cc;
}

-- what a stop as the policy is read leaves
pub unread_leaves : (Leaves : Stop → Type 0) (before after : Outside) → (ChangesNothing before after → Leaves stop.ReadFault) →
    ((r : PolicyRefusal) → ChangesNothing before after → Leaves (stop.PolicyRefused r)) → (ChangesNothing before after → Leaves stop.NoMemory) →
    (s : Stop) → StopsPolicy s → ChangesNothing before after → Leaves s
unread_leaves Leaves before after read refused memory stop.ReadFault early same = read same
unread_leaves Leaves before after read refused memory (stop.PolicyRefused r) early same = refused r same
unread_leaves Leaves before after read refused memory stop.NoMemory early same = memory same
unread_leaves Leaves before after read refused memory s early same = absurd early
