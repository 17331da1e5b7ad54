use Rattle.std.proofs.lemmas.List.Elements.{All-contains}
use Rattle.cf_policy.specs.Within.{IsAssetWithin}
use Rattle.cf_compare.proofs.answer.asset_answer.Goals as goal

-- a partner is one of the other policy's assets
pub partner_answer-requires-clause-other : goal.partner_answer-requires-clause-other
partner_answer-requires-clause-other c =
    All-contains IsAssetWithin c.args.other.now.assets c.in-Some.partner.now c.requires.other.each c.in-Some.ensures.found.0
