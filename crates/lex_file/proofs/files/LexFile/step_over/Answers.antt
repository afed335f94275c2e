use Rattle.std.proofs.Common.{arith}
use Rattle.lex_file.proofs.Walks.{step_lives, step_after}
use Rattle.lex_file.proofs.files.LexFile.step_over.Goals as goal

pub returns-then-arc-eq0-clause-alive : goal.returns-then-arc-eq0-clause-alive
returns-then-arc-eq0-clause-alive c = λ none.
    let lives = step_lives c.args.self.now.bytes.now c.args.self.now.shape c.args.node.first c.args.arc.label c.args.arc c.requires.node c.requires.arc none in
    absurd (omega (arith, lives, c.if-arc-eq0.true))

pub returns-else-arc-eq0-clause-next : goal.returns-else-arc-eq0-clause-next
returns-else-arc-eq0-clause-next c =
    step_after c.args.self.now c.args.node c.args.arc.label c.args.arc c.requires.node c.requires.arc (omega (arith, c.if-arc-eq0.false))
