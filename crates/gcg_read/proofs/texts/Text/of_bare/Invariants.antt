use Rattle.text_lines.proofs.Fronts.{IsFilled}
use Rattle.ref_tiles.specs.Symbols.{symbol_of}
use Rattle.gcg_read.proofs.texts.Text.of_bare.Given as goal

abbrev pub invariant-loop-place : goal.invariant-loop-place
invariant-loop-place l = IsFilled symbol_of 15 l.bytes l.place l.symbols
