use Rattle.std.proofs.Common.{◌≡◌, map, take}
use Rattle.repair_sheets.specs.Righting.{other_case}
use Rattle.repair_sheets.proofs.righting.symbols_in_other_case.Given as goal

abbrev pub invariant-loop-symbol : goal.invariant-loop-symbol
invariant-loop-symbol l = l.symbols.items ≡ map other_case (take l.symbol-index l.word)
