use Rattle.std.proofs.Common.{◌≡◌, ◌++◌, ◌∷◌, [], pos}
use Rattle.toml.specs.Data.{integer}
use Rattle.cf_policylang.proofs.Written.{values_step}
use Rattle.cf_policylang.proofs.spelling.insert_codes.Goals as goal

pub loop-span-preserved : goal.loop-span-preserved
loop-span-preserved c =
    let own = c.code_value.result in
    let items : c.push.new.self.items ≡ c.loop-span.numbers.items ++ own ∷ [] = c.in_ok-push.ensures.items in
    rw items
    (values_step (λ span. integer span.low) c.loop-span.numbers.items own c.args.spans.now c.loop-span.span-index
    (record { low = pos 0; high = pos 0 }) c.loop-span-test.true c.code_value.ensures c.loop-span.invariant)
