use Rattle.std.proofs.Common.{◌-◌, length}
use Rattle.lex_agree.specs.Walks.{AreAlike}
use Rattle.lex_agree.proofs.firsts.common_letters.Given as goal

abbrev pub invariant-loop-same : goal.invariant-loop-same
invariant-loop-same l = AreAlike l.one l.other l.same

abbrev pub decreases-loop-same : goal.decreases-loop-same
decreases-loop-same l = length l.one - l.same
