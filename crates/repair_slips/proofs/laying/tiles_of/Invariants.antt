use Rattle.std.proofs.Common.{◌≡◌, ◌≤◌, length, take}
use Rattle.std.specs.List.{filter}
use Rattle.repair_slips.specs.Laying.{is_tile}
use Rattle.repair_slips.proofs.laying.tiles_of.Given as goal

abbrev pub invariant-loop-symbol : goal.invariant-loop-symbol
invariant-loop-symbol l =
    record {
      so_far : l.tiles.items ≡ filter is_tile (take l.symbol-index l.word);
      few : length l.tiles.items ≤ l.symbol-index;
    }
