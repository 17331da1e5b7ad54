use Rattle.std.proofs.Common.{◌≡◌, ◌≤◌, ◌-◌, ◌+◌, ℕ, length, drop}
use Rattle.cf_watch.specs.Tagged.{without_tags}
use Rattle.cf_watch.proofs.tag.without_tags.Given as goal

abbrev pub invariant-tags : goal.invariant-tags
invariant-tags l = record {
  inside : l.at ≤ length l.frame;
  left : ℕ;
  enough : length l.frame ≤ left + l.at;
  same : without_tags l.type_at (length l.frame) l.frame ≡ without_tags l.type_at left (drop l.at l.frame);
}

abbrev pub decreases-tags : goal.decreases-tags
decreases-tags l = length l.frame - l.at
