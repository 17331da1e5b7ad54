use Rattle.std.proofs.Common.{◌∙◌, sym}
use Rattle.cf_policy.specs.declared.policy.Asset.{Asset}
use Rattle.cf_view.specs.Endpoints.{same_endpoint}
use Rattle.cf_policy.proofs.Sites.{front_all, front_until}
use Rattle.cf_policy.proofs.site.front_at.Goals as goal

pub returns-in-Some : goal.returns-in-Some
returns-in-Some c =
    c.split_at.ensures.front
    ∙ front_until (λ (a : Asset). same_endpoint a.endpoint c.args.endpoint.now) c.args.assets.now c.in-Some.count (sym c.place_elsewhere.ensures.place ∙ c.in-Some.is)

pub returns-in-None : goal.returns-in-None
returns-in-None c =
    front_all (λ (a : Asset). same_endpoint a.endpoint c.args.endpoint.now) c.args.assets.now (sym c.place_elsewhere.ensures.place ∙ c.in-None.is)
