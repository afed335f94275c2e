use Rattle.text_lines.proofs.Fronts.{IsFilled}
use Rattle.ref_tiles.specs.Codes.{premium_of}
use Rattle.ref_tiles.proofs.statements.premiums.Given as goal

abbrev pub invariant-loop-column : goal.invariant-loop-column
invariant-loop-column l = IsFilled premium_of 15 l.codes l.column l.premiums
