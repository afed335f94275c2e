use Rattle.std.proofs.Common.{inl, inr, ◌∙◌, arith}
use Rattle.lex_check.proofs.Stretches.{step_accepts, step_ends, step_next, rest_is}
use Rattle.lex_check.proofs.sorted.step_after.Goals as goal
use Rattle.lex_check.proofs.sorted.step_after.Goals.{then-accepts, else-accepts}

pub returns-then-low-part-clause-accepts : goal.returns-then-low-part-clause-accepts
returns-then-low-part-clause-accepts c =
    c.ends_at-accepts.ensures
    ∙ step_accepts c.args.paths.now c.args.stretch c.args.part.label c.args.part.low c.args.part.high c.requires.stretch c.requires.part c.requires.some

pub returns-clause-accepts : goal.returns-clause-accepts
returns-clause-accepts c =
    c.ends_at-accepts.ensures
    ∙ step_accepts c.args.paths.now c.args.stretch c.args.part.label c.args.part.low c.args.part.high c.requires.stretch c.requires.part c.requires.some

pub returns-then-low-part-clause-next : goal.returns-then-low-part-clause-next
returns-then-low-part-clause-next c =
    let label = c.args.part.label in
    let low = c.args.part.low in
    let high = c.args.part.high in
    let rest =
    rest_is c.args.paths.now c.args.stretch label low high c.if-accepts.low c.ends_at-accepts.result c.requires.stretch c.requires.part
    c.requires.some c.ends_at-accepts.ensures
    (elim c.if-accepts.branch [
      | then-accepts w ↦ inl (w.if-accepts.true, w.low-is)
      | else-accepts w ↦ inr (w.if-accepts.false, w.low-is)
    ])
    in
    step_ends c.args.paths.now c.args.stretch label low high c.if-accepts.low c.requires.stretch c.requires.part rest.le rest.short (omega arith)

pub returns-clause-next : goal.returns-clause-next
returns-clause-next c =
    let label = c.args.part.label in
    let low = c.args.part.low in
    let high = c.args.part.high in
    let rest =
    rest_is c.args.paths.now c.args.stretch label low high c.if-accepts.low c.ends_at-accepts.result c.requires.stretch c.requires.part
    c.requires.some c.ends_at-accepts.ensures
    (elim c.if-accepts.branch [
      | then-accepts w ↦ inl (w.if-accepts.true, w.low-is)
      | else-accepts w ↦ inr (w.if-accepts.false, w.low-is)
    ])
    in
    let inside = rest.order in
    step_next c.args.paths.now c.args.stretch label low high c.if-accepts.low c.requires.stretch c.requires.part rest.le rest.short (omega arith) rest.first
