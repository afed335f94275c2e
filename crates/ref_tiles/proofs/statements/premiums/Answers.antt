use Rattle.std.proofs.Common.{arith, ◌∙◌, sym}
use Rattle.text_lines.proofs.Fronts.{fill_step}
use Rattle.ref_tiles.specs.Codes.{premium_of}
use Rattle.ref_tiles.proofs.statements.premiums.Goals as goal

pub loop-column-preserved : goal.loop-column-preserved
loop-column-preserved c =
    fill_step premium_of 15 c.args.codes.now c.loop-column.column 0 c.in_ok-premiums.field-0 c.loop-column.premiums c.loop-column-test.true (omega arith)
    (sym c.of_code.ensures ∙ c.in_ok-premiums.was) c.loop-column.invariant
