-- A relay that has made its turns is a session that stands.
use Rattle.std.proofs.Common.{List, None, Option, Some, inl, inr, subst, sym, ℕ, []}
use Rattle.std.proofs.lemmas.Option.{same_Some}
use Rattle.cf_lane.specs.Caller.{RateMoments}
use Rattle.cf_outside.specs.Pair.{Entry}
use Rattle.cf_relay.proofs.Turned.{turned_stands}
use Rattle.cf_relay.specs.declared.directions.Directions.TheVariants as both
use Rattle.cf_serve.specs.Phase.{LinkedValue, MayTurn, StandsAs}
use Rattle.cf_serve.specs.Session.{Listening, StandsSo}

pub stands_session : (at : Listening) (before : RateMoments) (most : ℕ) (es : List Entry) (own : List (List ℕ)) (o : Option LinkedValue) → StandsAs at before most es own o → MayTurn at most o →
    StandsSo at before most es own
stands_session at before most es own None h may = inl h
stands_session at before most es own (Some v) h may =
    let t = turned_stands both.Separate at.site before at.port most v.met h.moment (Some []) h.answers v.now (Some own) (record { count = h.count; does = h.does; stands = h.stands; few = may.0.few }) in
    subst (λ (xs : List Entry). StandsSo at before most xs own) (sym h.split) (inr (h.count, (t.0, (t.1.0, same_Some _ _ t.1.1))))
