use Rattle.lex_agree.specs.Walks.{AreSteps}
use Rattle.lex_agree.proofs.firsts.take_steps.Given as goal

abbrev pub invariant-loop-split : goal.invariant-loop-split
invariant-loop-split l = AreSteps l.file.bytes.now l.word l.split l.steps
