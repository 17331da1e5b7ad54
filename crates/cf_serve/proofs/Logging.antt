-- A log that is written by one call after another.
use Rattle.std.proofs.Common.{Err, Ok, Result, refl, ◌∙◌}
use Rattle.std.specs.Prelude.{IfErr, OnOk}
use Rattle.cf_lane.specs.Handled.{WritesLog}
use Rattle.cf_links.specs.LinkValue.{LinkValue}
use Rattle.cf_outside.proofs.Desks.{keeps_both, keeps_none}
use Rattle.cf_outside.specs.Desk.{DeskValue}
use Rattle.cf_policy.specs.Site.{SiteValue}
use Rattle.cf_relay.specs.Relaying.{RelayingValue}
use Rattle.cf_relay.specs.Scene.{DoesBetween, StopsBetween, scene}
use Rattle.cf_relay.specs.Turn.{turn}
use Rattle.cf_relay.specs.declared.directions.Directions.TheVariants as both
use Rattle.cf_relay.specs.declared.stop.Stop.{Stop}
use Rattle.std.specs.Prelude.{ℕ}

pub writes_none : (d : DeskValue) → WritesLog d d
writes_none d = record { packets = refl; packet_part = refl; stays = λ whole. whole; line_part = λ whole. refl; keeps = keeps_none d }

pub writes_both : (c d e : DeskValue) → WritesLog c d → WritesLog d e → WritesLog c e
writes_both c d e h g = record {
  packets = g.packets ∙ h.packets;
  packet_part = g.packet_part ∙ h.packet_part;
  stays = λ whole. h.stays (g.stays whole);
  line_part = λ whole. g.line_part whole ∙ h.line_part (g.stays whole);
  keeps = keeps_both c d e h.keeps g.keeps;
}

-- a turn writes the log alone, whatever it answered
pub turn_writes : (site : SiteValue) (most : ℕ) (old new : RelayingValue) (link link' : LinkValue) (d d' : DeskValue) (r : Result Unit Stop) →
    OnOk r (DoesBetween site most (turn both.Separate) (scene old link d) (scene new link' d')) →
    IfErr r (λ why. StopsBetween site most (turn both.Separate) why (scene old link d) (scene new link' d')) → WritesLog d d'
turn_writes site most old new link link' d d' (Ok u) does stops = does.adds.log
turn_writes site most old new link link' d d' (Err why) does stops = stops.adds.log
