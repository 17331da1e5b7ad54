use Rattle.std.proofs.Common.{◌≡◌, ◌++◌, ◌∷◌, [], pos, ap, ◌∙◌}
use Rattle.toml.specs.Data.{string}
use Rattle.toml.specs.declared.value.Value.TheVariants.{String as StringValue}
use Rattle.toml.proofs.Views.{view-String}
use Rattle.cf_policylang.specs.Spelling.{number_text}
use Rattle.cf_policylang.proofs.Written.{values_step}
use Rattle.cf_policylang.proofs.spelling.insert_numbers.Goals as goal

pub loop-span-preserved : goal.loop-span-preserved
loop-span-preserved c =
    let items : c.push.new.self.items ≡ c.loop-span.texts.items ++ StringValue c.in_ok-number_text.field-0 ∷ [] = c.in_ok-push.ensures.items in
    rw items
    (values_step (λ span. string (number_text span)) c.loop-span.texts.items (StringValue c.in_ok-number_text.field-0) c.args.spans.now
    c.loop-span.span-index (record { low = pos 0; high = pos 0 }) c.loop-span-test.true
    (view-String c.in_ok-number_text.field-0 ∙ ap string c.in_ok-number_text.ensures) c.loop-span.invariant)
