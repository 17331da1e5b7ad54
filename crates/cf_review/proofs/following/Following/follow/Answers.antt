use Rattle.std.proofs.Common.{◌≤◌, ◌++◌, ◌∙◌, [], Ok, map, sym, ap, subst, refl}
use Rattle.std.proofs.lemmas.List.{append-nil}
use Rattle.cf_review.proofs.FollowedOn.{breaks_on, read_on, rests, told_broke, told_whole}
use Rattle.cf_review.specs.Follow.{AllTold, BreaksBehind, IsAtRest, IsBegun}
use Rattle.cf_review.specs.Remark.{remark_value}
use Rattle.cf_review.specs.declared.following.Following.{Following}
use Rattle.cf_review.proofs.following.Following.follow.Goals as goal
use Rattle.cf_review.proofs.following.Following.follow.Goals.{in-Reads+in_ok-broke-in-Reads, in-Waits, in-Waits-2}

pub returns-then-broke-clause-begun : goal.returns-then-broke-clause-begun
returns-then-broke-clause-begun c h tail is = elim c.match-self.branch [
  | in-Reads+in_ok-broke-in-Reads w ↦
      subst (λ (m : Following). BreaksBehind c.args.site.now h.value m.admitted (map remark_value m.remarks.items)) (sym w.self-is)
      (breaks_on c.args.site.now c.args.flow.now c.begin.new.self w.in-Reads.reader w.in-Reads.is w.read_units.new.admitted (map remark_value w.read_units.new.remarks.items)
      (w.read_units.ensures.broke (w.in_ok-broke-in-Reads.was ∙ ap Ok (sym w.broke-is ∙ c.if-broke.true))) h tail (c.in_ok-begin.ensures.begun h tail is))
  | in-Waits w ↦ absurd (cc (w.broke-is, c.if-broke.true))
  | in-Waits-2 w ↦ absurd (cc (w.broke-is, c.if-broke.true))
]

pub returns-then-broke-clause-adds : goal.returns-then-broke-clause-adds
returns-then-broke-clause-adds c = elim c.match-self.branch [
  | in-Reads+in_ok-broke-in-Reads w ↦
      (let a = w.in_ok-broke-in-Reads.ensures.adds in
      (a.0, ap (λ (m : Following). m.remarks.items) w.self-is ∙ a.1 ∙ ap (λ xs. xs ++ a.0) c.begin.ensures.remarks))
  | in-Waits w ↦ absurd (cc (w.broke-is, c.if-broke.true))
  | in-Waits-2 w ↦ absurd (cc (w.broke-is, c.if-broke.true))
]

pub returns-then-broke-clause-told : goal.returns-then-broke-clause-told
returns-then-broke-clause-told c known all = elim c.match-self.branch [
  | in-Reads+in_ok-broke-in-Reads w ↦
      told_broke c.args.site.now c.args.flow.now c.begin.new.self w.in-Reads.reader w.in-Reads.is w.read_units.new.remarks.items w.in_ok-broke-in-Reads.ensures.told
      _ refl (ap (λ (m : Following). m.remarks.items) w.self-is) known (c.in_ok-begin.ensures.told known all)
  | in-Waits w ↦ absurd (cc (w.broke-is, c.if-broke.true))
  | in-Waits-2 w ↦ absurd (cc (w.broke-is, c.if-broke.true))
]

pub returns-else-broke-clause-begun : goal.returns-else-broke-clause-begun
returns-else-broke-clause-begun c h tail is = elim c.match-self.branch [
  | in-Reads+in_ok-broke-in-Reads w ↦
      (let on = read_on c.args.site.now c.args.flow.now c.begin.new.self w.in-Reads.reader w.in-Reads.is w.read_units.new.reader w.read_units.new.at w.read_units.new.admitted
      (map remark_value w.read_units.new.remarks.items) w.in_ok-broke-in-Reads.ensures.past
      (w.read_units.ensures.whole (w.in_ok-broke-in-Reads.was ∙ ap Ok (sym w.broke-is ∙ c.if-broke.false))) h tail (c.in_ok-begin.ensures.begun h tail is) in
      subst (IsBegun c.args.site.now h) (sym w.self-is) on.0)
  | in-Waits w ↦ subst (IsBegun c.args.site.now h) (sym w.self-is) (c.in_ok-begin.ensures.begun h tail is)
  | in-Waits-2 w ↦ subst (IsBegun c.args.site.now h) (sym w.self-is) (c.in_ok-begin.ensures.begun h tail is)
]

pub returns-else-broke-clause-at_rest : goal.returns-else-broke-clause-at_rest
returns-else-broke-clause-at_rest c h tail is = elim c.match-self.branch [
  | in-Reads+in_ok-broke-in-Reads w ↦
      (let on = read_on c.args.site.now c.args.flow.now c.begin.new.self w.in-Reads.reader w.in-Reads.is w.read_units.new.reader w.read_units.new.at w.read_units.new.admitted
      (map remark_value w.read_units.new.remarks.items) w.in_ok-broke-in-Reads.ensures.past
      (w.read_units.ensures.whole (w.in_ok-broke-in-Reads.was ∙ ap Ok (sym w.broke-is ∙ c.if-broke.false))) h tail (c.in_ok-begin.ensures.begun h tail is) in
      subst (λ (m : Following). IsAtRest c.args.site.now h m.stage m.at) (sym w.self-is) on.1)
  | in-Waits w ↦ subst (λ (m : Following). IsAtRest c.args.site.now h m.stage m.at) (sym w.self-is) (rests c.args.site.now h c.begin.new.self.stage c.begin.new.self.at w.in-Waits.is)
  | in-Waits-2 w ↦ subst (λ (m : Following). IsAtRest c.args.site.now h m.stage m.at) (sym w.self-is) (rests c.args.site.now h c.begin.new.self.stage c.begin.new.self.at w.in-Waits.is)
]

pub returns-else-broke-clause-adds : goal.returns-else-broke-clause-adds
returns-else-broke-clause-adds c = elim c.match-self.branch [
  | in-Reads+in_ok-broke-in-Reads w ↦
      (let a = w.in_ok-broke-in-Reads.ensures.adds in
      (a.0, ap (λ (m : Following). m.remarks.items) w.self-is ∙ a.1 ∙ ap (λ xs. xs ++ a.0) c.begin.ensures.remarks))
  | in-Waits w ↦ ([], ap (λ (m : Following). m.remarks.items) w.self-is ∙ c.begin.ensures.remarks ∙ sym (append-nil c.args.self.now.remarks.items))
  | in-Waits-2 w ↦ ([], ap (λ (m : Following). m.remarks.items) w.self-is ∙ c.begin.ensures.remarks ∙ sym (append-nil c.args.self.now.remarks.items))
]

pub returns-else-broke-clause-told : goal.returns-else-broke-clause-told
returns-else-broke-clause-told c known all = elim c.match-self.branch [
  | in-Reads+in_ok-broke-in-Reads w ↦
      told_whole c.args.site.now c.args.flow.now c.begin.new.self w.in-Reads.reader w.in-Reads.is w.read_units.new.remarks.items w.in_ok-broke-in-Reads.ensures.told
      c.match-self.self w.read_units.new.reader (ap (λ (m : Following). m.stage) w.self-is) (ap (λ (m : Following). m.remarks.items) w.self-is)
      (subst (λ n. c.begin.new.self.at ≤ n) (sym (ap (λ (m : Following). m.at) w.self-is)) w.in_ok-broke-in-Reads.ensures.past) known (c.in_ok-begin.ensures.told known all)
  | in-Waits w ↦ subst (AllTold known c.args.flow.now) (sym w.self-is) (c.in_ok-begin.ensures.told known all)
  | in-Waits-2 w ↦ subst (AllTold known c.args.flow.now) (sym w.self-is) (c.in_ok-begin.ensures.told known all)
]
