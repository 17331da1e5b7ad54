-- What was taken, over lines of one's own that are the whole log.
use Rattle.cf_lane.specs.Caller.{RateMoments}
use Rattle.std.proofs.Common.{List, Option, subst, sym, ℕ}
use Rattle.cf_audit.specs.declared.line.CutReason.{CutReason}
use Rattle.cf_lane.specs.Follows.{AddsTo, Began, BeganApart, BeganApartWithin, BeganWithin, Follows, Rests, over}
use Rattle.cf_lane.specs.Handled.{State}
use Rattle.cf_lane.specs.History.{Element}
use Rattle.cf_policy.specs.Site.{SiteValue}
use Rattle.cf_view.specs.declared.Endpoint.{Endpoint}
use Rattle.cf_view.specs.declared.Side.{Side}

pub adds_whole : (site : SiteValue) (past : RateMoments) (h : List Element) (r : Rests) (cut : Option CutReason) (first old : Option (List (List ℕ))) (now : State) →
    AddsTo site past h r cut first old old now → Follows site past h r cut first now
adds_whole site past h r cut first old now a = subst (λ log. Follows site past h r cut first (over log now)) (sym a.added) a.follows

pub began_whole : (site : SiteValue) (past : RateMoments) (client : Endpoint) (h : List Element) (first old log : Option (List (List ℕ))) (part : List ℕ) →
    BeganApart site past client h first old old log part → Began site past client h first log part
began_whole site past client h first old log part b = subst (λ l. Began site past client h first l part) (sym b.added) b.began

pub within_whole : (site : SiteValue) (past : RateMoments) (client : Endpoint) (h : List Element) (moment : ℕ) (s : Side) (piece : List ℕ) (first old log : Option (List (List ℕ))) (part : List ℕ) →
    BeganApartWithin site past client h moment s piece first old old log part → BeganWithin site past client h moment s piece first log part
within_whole site past client h moment s piece first old log part b = subst (λ l. BeganWithin site past client h moment s piece first l part) (sym b.added) b.began
