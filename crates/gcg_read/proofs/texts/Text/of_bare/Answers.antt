use Rattle.std.proofs.Common.{arith, ◌∙◌, sym}
use Rattle.text_lines.proofs.Fronts.{fill_step}
use Rattle.ref_tiles.specs.Symbols.{symbol_of}
use Rattle.gcg_read.proofs.texts.Text.of_bare.Goals as goal

pub loop-place-preserved : goal.loop-place-preserved
loop-place-preserved c =
    fill_step symbol_of 15 c.args.bytes.now c.loop-place.place 0 c.in_ok-symbols.field-0 c.loop-place.symbols c.loop-place-test.true (omega arith)
    (sym c.of_byte.ensures ∙ c.in_ok-symbols.was) c.loop-place.invariant
