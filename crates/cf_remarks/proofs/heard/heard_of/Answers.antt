use Rattle.cf_remarks.proofs.heard.heard_of.Goals as goal

pub loop-init : goal.loop-init
loop-init c = c.in_ok-reader.ensures.reader.one_each

pub next-requires : goal.next-requires
next-requires c = record { for_site = c.loop.invariant }

pub loop-preserved : goal.loop-preserved
loop-preserved c = c.in-Took.ensures.for_site
