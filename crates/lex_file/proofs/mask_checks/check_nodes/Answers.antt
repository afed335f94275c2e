use Rattle.std.proofs.Common.{◌∙◌, arith}
use Rattle.std.proofs.lemmas.Result.{err_from_is_err_and}
use Rattle.lex_file.specs.FileWords.{words_in}
use Rattle.lex_file.proofs.MaskChecks.{nodes_here}
use Rattle.lex_file.proofs.mask_checks.check_nodes.Goals as goal

pub returns-in_err-check_node : goal.returns-in_err-check_node
returns-in_err-check_node c =
    let p = err_from_is_err_and c.from_residual.result c.from_residual.ensures.1 in
    rw (p.1, p.2)
    (c.loop-place.invariant.passed
    ∙ nodes_here (words_in c.args.body.now) c.loop-place.place c.in_err-check_node.field-0.0 (omega arith) c.in_err-check_node.ensures)
