use Rattle.lex_check.proofs.Stretches.{branch_passed}
use Rattle.lex_check.proofs.sorted.branch_in.Goals as goal

pub returns-clause-passed : goal.returns-clause-passed
returns-clause-passed c =
    branch_passed c.args.paths.now c.args.stretch c.args.from c.in-Some.part.label c.in-Some.part.low c.in-Some.part.high c.requires c.in-Some.ensures.part
