-- A desk that is kept by one call after another.
use Rattle.std.specs.Prelude.{IsErrAnd, is_err}
use Rattle.std.proofs.Common.{◌≡◌, ℕ, Bool, true, false, Result, Ok, Err, List, refl, sym, ◌∙◌, subst, arith}
use Rattle.cf_outside.specs.Desk.{DeskValue, IsNoneOf, KeepsDesk}
use Rattle.cf_outside.specs.Frames.{EmitsAndLogs, OnlyEmits}
use Rattle.std.proofs.lemmas.Bool.{false≢true}

pub keeps_none : (d : DeskValue) → KeepsDesk d d
keeps_none d = record { later = omega arith; lender = refl; reads = refl; names = refl; octets = refl; others = λ other n. refl }

pub keeps_both : (d e f : DeskValue) → KeepsDesk d e → KeepsDesk e f → KeepsDesk d f
keeps_both d e f h g = record {
  later = omega (arith, h.later, g.later);
  lender = g.lender ∙ h.lender;
  reads = g.reads ∙ h.reads;
  names = g.names ∙ h.names;
  octets = g.octets ∙ h.octets;
  others = λ other n. g.others other (subst (λ (names : List (List ℕ)). IsNoneOf names other) (sym h.names) n) ∙ h.others other n;
}

-- calls that emit and put
pub puts_none : (d : DeskValue) → d.whole ≡ true → EmitsAndLogs d d false
puts_none d whole = record {
  packet_part = λ done. refl;
  line_part = λ done. refl;
  whole = λ done. whole;
  keeps = keeps_none d;
  cause = record { later = omega arith; rose = λ failed. absurd (false≢true failed) };
}

pub puts_both : {failed : Bool} (d e f : DeskValue) → EmitsAndLogs d e false → EmitsAndLogs e f failed → EmitsAndLogs d f failed
puts_both d e f h g = record {
  packet_part = λ done. g.packet_part done ∙ h.packet_part refl;
  line_part = λ done. g.line_part done ∙ h.line_part refl;
  whole = g.whole;
  keeps = keeps_both d e f h.keeps g.keeps;
  cause = record { later = omega (arith, h.keeps.later, g.cause.later); rose = λ failed. (let rose = g.cause.rose failed in omega (arith, h.keeps.later, rose)) };
}

pub emits_both : {failed : Bool} (d e f : DeskValue) → OnlyEmits d e false → OnlyEmits e f failed → OnlyEmits d f failed
emits_both d e f h g = record { lines = g.lines ∙ h.lines; line_part = g.line_part ∙ h.line_part; rest = puts_both d e f h.rest g.rest }

-- a failure that is handed on
pub puts_failed : {T E : Type 0} (Q : E → Type 0) (r : Result T E) (d e : DeskValue) → IsErrAnd r Q → EmitsAndLogs d e true → EmitsAndLogs d e (is_err r)
puts_failed Q (Ok x) d e is h = absurd is
puts_failed Q (Err error) d e is h = h
