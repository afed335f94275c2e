use Rattle.explain_clues.specs.Texts.{FitsTo}
use Rattle.explain_clues.proofs.texts.first_misfit.Given as goal

abbrev pub invariant-loop-k : goal.invariant-loop-k
invariant-loop-k l = FitsTo l.board l.dir l.at l.word l.k
