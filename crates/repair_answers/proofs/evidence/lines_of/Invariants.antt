use Rattle.repair_answers.proofs.Grouped.{AreLinesTo}
use Rattle.repair_answers.proofs.evidence.lines_of.Given as goal

abbrev pub invariant-loop-index : goal.invariant-loop-index
invariant-loop-index g l = record { so_far : AreLinesTo g.T.Lined.like l.items l.most l.index l.lines.items }
