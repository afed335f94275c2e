use Rattle.std.proofs.Common.{sym}
use Rattle.std.proofs.lemmas.Result.{err_from_is_err_and}
use Rattle.ref_tiles.proofs.RulesSteps.{progress_fails, progress_done}
use Rattle.ref_tiles.proofs.rules_reading.read_lines.Goals as goal

pub returns-in_err-take_line : goal.returns-in_err-take_line
returns-in_err-take_line c =
    let p = err_from_is_err_and c.from_residual.result c.from_residual.ensures.1 in
    rw (p.1, p.2) (sym (progress_fails _ _ _ _ _ _ _ c.in-Some.ensures.steps c.take_line.ensures.place c.in_err-take_line.ensures.entries c.loop-line.invariant))

pub returns : goal.returns
returns c = sym (progress_done _ _ _ _ c.in-None.ensures.steps.0 c.loop-line.invariant)
