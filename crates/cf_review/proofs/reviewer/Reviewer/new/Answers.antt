use Rattle.std.proofs.Common.{◌∙◌, [], length, slice_get, refl, sym, ap, arith}
use Rattle.std.proofs.lemmas.Option.{none-some}
use Rattle.cf_watch.specs.declared.Scope.TheVariants as scope
use Rattle.cf_review.proofs.reviewer.Reviewer.new.Goals as goal

pub returns : goal.returns
returns c assets within = record {
  recording = refl;
  within = within;
  count = refl;
  few = omega arith;
  heard = [];
  watches = c.new.ensures.none scope.Recording;
  inside = λ i h at. absurd (none-some h at);
  followed_count = ap length c.new-2.ensures.items;
  followed = λ i h g h_at g_at. absurd (none-some h h_at);
  stamps = c.new-3.ensures [];
  told = λ i f g f_at g_at. absurd (none-some g (ap (λ xs. slice_get xs i) (sym c.new-2.ensures.items) ∙ g_at));
  apart = λ i w h w_at h_at. absurd (none-some h h_at);
}
