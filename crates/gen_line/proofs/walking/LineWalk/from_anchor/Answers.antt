use Rattle.gen_line.proofs.Sinks.{every-same, took-same, nothing-took}
use Rattle.gen_line.proofs.Anchors.{after_old, after_not, after_is}
use Rattle.gen_line.proofs.walking.LineWalk.from_anchor.Goals as goal

pub returns-in-Old-clause-took : goal.returns-in-Old-clause-took
returns-in-Old-clause-took g c = nothing-took _ _ _ (after_old _ _ _ _ _ _ c.in-Old.is)

pub returns-then-not-free-clause-took : goal.returns-then-not-free-clause-took
returns-then-not-free-clause-took g c = nothing-took _ _ _ (after_not _ _ _ _ _ _ c.in-Free.is c.if-not-free.true)

pub tries_left-requires-clause-can : goal.tries_left-requires-clause-can
tries_left-requires-clause-can g c = every-same _ _ _ (after_is _ _ _ _ _ _ c.in-Free.is c.if-not-free.false) c.requires.can

pub returns-else-not-free-clause-took : goal.returns-else-not-free-clause-took
returns-else-not-free-clause-took g c = took-same _ _ _ _ _ _ (after_is _ _ _ _ _ _ c.in-Free.is c.if-not-free.false) c.tries_left.ensures.took
