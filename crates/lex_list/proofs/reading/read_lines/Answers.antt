use Rattle.std.proofs.lemmas.Result.{err_from_is_err_and}
use Rattle.lex_list.proofs.Steps.{progress_fails, progress_done}
use Rattle.lex_list.proofs.reading.read_lines.Goals as goal

pub returns-in_err-take_line : goal.returns-in_err-take_line
returns-in_err-take_line c =
    let p = err_from_is_err_and c.from_residual.result c.from_residual.ensures.1 in
    rw (p.1, p.2) (progress_fails _ _ _ _ _ _ _ c.in-Some.ensures.steps c.in_err-take_line.ensures c.loop-line.invariant)

pub returns : goal.returns
returns c = progress_done _ _ _ _ c.in-None.ensures.steps.0 c.loop-line.invariant
