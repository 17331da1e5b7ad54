use Rattle.std.proofs.Common.{rules, ◌≡◌, ◌++◌, ◌∷◌, [], ◌∙◌, List, Option, Some, None, if◌then◌else◌, length, map, ℤ, pos, reverse, refl, sym, ap, append-nil, append_assoc}
use Rattle.std.proofs.lemmas.List.{map-append, nil_from_length}
use Rattle.cf_watch.specs.FlowValue.{StretchValue, flow_value, stretch_value}
use Rattle.cf_watch.specs.Kept.{run_value}
use Rattle.cf_watch.specs.Stretches.{Run, is_nil, stretch_of, stretches_from}
use Rattle.cf_watch.specs.declared.stretches.Run.{Run as Kept}
use Rattle.cf_watch.proofs.Runs.{stretches_heard, stretches_last}
use Rattle.cf_watch.proofs.stretches.add_stretches.Goals as goal

pub runs-init : goal.runs-init
runs-init c = record { all = reverse (map run_value c.in_ok-runs.runs.items); has = c.in_ok-runs.ensures; added = refl }

pub runs-preserved : goal.runs-preserved
runs-preserved c =
    let was = c.runs.invariant in
    let f = flow_value c.args.flow.now in
    let gap = pos c.in_ok-count.count in
    let left = map run_value c.pop.new.self.items in
    let one = run_value c.in-Some.run' in
    let old = map stretch_value c.runs.stretches.items in
    let items : c.runs.runs.items ≡ c.pop.new.self.items ++ c.in-Some.run' ∷ [] = c.in-Some.ensures.items in
    let before : map run_value c.runs.runs.items ≡ left ++ one ∷ [] = ap (map run_value) items ∙ map-append run_value c.pop.new.self.items (c.in-Some.run' ∷ []) in
    let nil : c.gap_of.result ≡ (if is_nil left then Some gap else None) = c.gap_of.ensures ∙ ap (λ (xs : List Kept). if is_nil (map run_value xs) then Some gap else None) c.as_slice.ensures.value in
    let both : map stretch_value c.add_stretch.new.stretches.items ++ stretches_from f gap (reverse left) ≡ old ++ stretches_from f gap (reverse (map run_value c.runs.runs.items)) =
    ap (λ (xs : List StretchValue). xs ++ stretches_from f gap (reverse left)) c.in_ok-add_stretch-in-Some.ensures
    ∙ append_assoc old (stretch_of f c.gap_of.result one ∷ []) (stretches_from f gap (reverse left)) ∙ ap (λ (o : Option ℤ). old ++ stretch_of f o one ∷ stretches_from f gap (reverse left)) nil
    ∙ ap (λ (xs : List StretchValue). old ++ xs) (sym (stretches_last f gap left one) ∙ ap (λ (xs : List Run). stretches_from f gap (reverse xs)) (sym before)) in
    record { all = was.all; has = was.has; added = both ∙ was.added }

pub returns-in-None : goal.returns-in-None
returns-in-None c = λ by w h is.
    let was = c.runs.invariant in
    let f = flow_value c.args.flow.now in
    let count = c.in_ok-count.count in
    let old = map stretch_value c.runs.stretches.items in
    let zero : length c.runs.runs.items ≡ 0 = search rules in
    let none : c.runs.runs.items ≡ [] = nil_from_length c.runs.runs.items zero in
    sym (append-nil old) ∙ ap (λ (xs : List Kept). old ++ stretches_from f (pos count) (reverse (map run_value xs))) (sym none) ∙ was.added
    ∙ ap (λ (xs : List StretchValue). map stretch_value c.args.stretches.now.items ++ xs) (stretches_heard by c.args.flow.now c.args.trail.now w h count was.all is c.in_ok-count.ensures.count was.has)
