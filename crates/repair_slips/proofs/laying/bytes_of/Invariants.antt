use Rattle.std.proofs.Common.{◌≡◌, map, take}
use Rattle.ref_tiles.specs.Symbols.{byte_of}
use Rattle.repair_slips.proofs.laying.bytes_of.Given as goal

abbrev pub invariant-loop-symbol : goal.invariant-loop-symbol
invariant-loop-symbol l = l.bytes.items ≡ map byte_of (take l.symbol-index l.word)
