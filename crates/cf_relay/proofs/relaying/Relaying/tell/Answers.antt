use Rattle.std.proofs.Common.{refl}
use Rattle.cf_relay.proofs.Doing.{link_stops, tell_goes}
use Rattle.cf_relay.proofs.relaying.Relaying.tell.Goals as goal

pub returns-in-Told-clause-goes : goal.returns-in-Told-clause-goes
returns-in-Told-clause-goes g c = λ site most desk few.
    tell_goes site most _ _ _ desk c.in-Told.now _ c.max-self.ensures few c.requires.still c.in-Told.ensures.entry c.moment.ensures.cause.later (c.in-Told.ensures.cause.still (λ is. cc)) c.moment.ensures.idle

pub returns-in-Failed-clause-stops : goal.returns-in-Failed-clause-stops
returns-in-Failed-clause-stops g c = λ site most desk few.
    link_stops site most _ _ _ _ desk few c.in-Failed.ensures.entry (c.in-Failed.ensures.cause.rose refl) c.moment.ensures.idle c.moment.ensures.cause.later
