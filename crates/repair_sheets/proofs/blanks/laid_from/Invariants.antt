use Rattle.std.proofs.Common.{◌≡◌, ◌++◌, length, drop}
use Rattle.repair_sheets.specs.Blanks.{laid_from}
use Rattle.repair_sheets.proofs.blanks.laid_from.Given as goal

abbrev pub invariant-loop-symbol : goal.invariant-loop-symbol
invariant-loop-symbol l =
    record {
      many : length l.symbols.items ≡ l.symbol-index;
      so_far : l.symbols.items ++ laid_from l.remaining (drop l.symbol-index l.word) ≡ laid_from l.tiles l.word;
    }
