use Rattle.cf_judge.specs.Front.{IsReaderFor}
use Rattle.cf_remarks.proofs.heard.heard_of.Given as goal

-- the reader keeps that of each asset of the site
abbrev pub invariant-loop : goal.invariant-loop
invariant-loop l = IsReaderFor l.site l.reader
