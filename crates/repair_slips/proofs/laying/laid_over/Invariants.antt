use Rattle.std.proofs.Common.{◌≡◌, ◌+◌, ◌≤◌, ◌++◌, length, drop}
use Rattle.repair_slips.specs.Laying.{occupied_from, laid_over}
use Rattle.repair_slips.proofs.laying.laid_over.Given as goal

abbrev pub invariant-loop-place : goal.invariant-loop-place
invariant-loop-place l =
    record {
      so_far : l.laid.items ++ laid_over (occupied_from l.board l.dir l.line l.place) (drop l.used l.tiles) ≡ laid_over (occupied_from l.board l.dir l.line l.first) l.tiles;
      many : length l.laid.items + l.first ≡ l.place;
      used : l.used ≤ length l.tiles;
    }
