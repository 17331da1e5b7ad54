use Rattle.std.proofs.Common.{ℕ, length, true, ◌*◌, ◌-◌, ◌^◌, ◌≡◌}
use Rattle.cf_links.specs.LinkValue.{link_value}
use Rattle.cf_relay.specs.declared.limit.TheConstants.{MOST_BYTES}
use Rattle.cf_relay.specs.Relaying.{AreClosed, IsSound, progress, relaying_value}
use Rattle.cf_relay.specs.Scene.{DoesBetween, scene}
use Rattle.cf_relay.specs.Turn.{turns}
use Rattle.cf_relay.specs.declared.directions.Directions.TheVariants as both
use Rattle.cf_relay.proofs.relaying.Relaying.run.Given as goal

abbrev pub invariant-turns : goal.invariant-turns
invariant-turns g l =
    record {
      count : ℕ;
      goes : DoesBetween l.fn.site l.most (turns both.Together count)
          (scene (relaying_value l.fn.self) (link_value g.L.Links l.fn.session l.fn.links) (g.D.Desk.value l.fn.desk))
          (scene (relaying_value l.self) (link_value g.L.Links l.fn.session l.links) (g.D.Desk.value l.desk));
      place : g.L.Links.place l.links ≡ g.L.Links.place l.fn.links;
      sound : IsSound l.fn.site l.most (relaying_value l.self);
      still : AreClosed (relaying_value l.self) → ⊥;
      whole : (g.D.Desk.value l.desk).whole ≡ true;
      buffer : length l.buf ≡ MOST_BYTES;
    }

abbrev pub decreases-turns : goal.decreases-turns
decreases-turns g l = 2 ^ 32 * l.most - progress l.most (relaying_value l.self)
