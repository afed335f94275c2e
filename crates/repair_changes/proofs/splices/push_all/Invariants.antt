use Rattle.std.proofs.Common.{◌≡◌, ◌++◌, take}
use Rattle.repair_changes.proofs.splices.push_all.Given as goal

abbrev pub invariant-loop-symbol : goal.invariant-loop-symbol
invariant-loop-symbol l = l.symbols.items ≡ l.initial.symbols.items ++ take l.symbol-index l.more
