use Rattle.std.proofs.Common.{◌-◌}
use Rattle.lex_check.specs.Forks.{AreSameBetween}
use Rattle.lex_check.proofs.walks.+compare.Given as goal

abbrev pub decreases-compare : goal.decreases-compare
decreases-compare g l = g.B.PathLex.height l.list.now l.of_list

abbrev pub invariant-loop-fork : goal.invariant-loop-fork
invariant-loop-fork g l = AreSameBetween (g.A.PathLex.tail l.file l.of_file) (g.B.PathLex.tail l.list l.of_list) 0 l.from

abbrev pub decreases-loop-fork : goal.decreases-loop-fork
decreases-loop-fork g l = 27 - l.from
