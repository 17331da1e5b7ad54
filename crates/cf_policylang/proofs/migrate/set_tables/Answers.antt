use Rattle.std.proofs.Common.{◌≡◌, ◌+◌, ◌<◌, ◌≤◌, ◌++◌, ◌∷◌, [], length, map, take, get_or, ap, sym, ◌∙◌, arith}
use Rattle.std.specs.List.{enumerate_from}
use Rattle.std.proofs.lemmas.List.{take_all}
use Rattle.std.proofs.lemmas.List.FromFn.{get_or-enumerate_from, length-enumerate_from}
use Rattle.toml.specs.Data.{table}
use Rattle.toml.specs.View.{items_of}
use Rattle.toml.specs.declared.value.Value.TheVariants.{Table}
use Rattle.toml.proofs.Views.{view-Table}
use Rattle.cf_policylang.specs.Spelling.{set_table}
use Rattle.cf_policylang.proofs.Written.{values_step}
use Rattle.cf_policylang.proofs.migrate.set_tables.Goals as goal

pub loop-number-preserved : goal.loop-number-preserved
loop-number-preserved c =
    let lists = c.args.lists.now in
    let number = c.loop-number.number in
    let list = c.index-lists-number.result in
    let own = c.in_ok-set_table.field-0 in
    let items : c.push.new.self.items ≡ c.loop-number.tables.items ++ Table own ∷ [] = c.in_ok-push.ensures.items in
    let inside : number < length (enumerate_from 0 lists) = omega (arith, c.loop-number-test.true, length-enumerate_from 0 lists) in
    let counted : 0 + number ≡ number = omega arith in
    rw items
    (values_step (λ n. table (set_table n.0 n.1)) c.loop-number.tables.items (Table own) (enumerate_from 0 lists) number (0, list) inside
    (view-Table own ∙ (ap table c.in_ok-set_table.ensures
    ∙ (ap (λ points. table (set_table number points)) (c.as_slice.ensures ∙ c.index-lists-number.is)
    ∙ sym (ap (λ n. table (set_table n.0 n.1)) (get_or-enumerate_from 0 lists number (0, list) c.loop-number-test.true)
    ∙ ap (λ k. table (set_table k (get_or lists number list))) counted))))
    c.loop-number.invariant)

pub returns : goal.returns
returns c =
    let numbered = enumerate_from 0 c.args.lists.now in
    let end : c.loop-number.number ≡ length c.args.lists.now = omega arith in
    let past : length numbered ≤ c.loop-number.number = omega (arith, end, length-enumerate_from 0 c.args.lists.now) in
    let whole : take c.loop-number.number numbered ≡ numbered = take_all c.loop-number.number numbered past in
    c.loop-number.invariant ∙ ap (λ xs. items_of (map (λ n. table (set_table n.0 n.1)) xs)) whole
