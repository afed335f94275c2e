use Rattle.std.proofs.Common.{◌≡◌, ◌+◌, ◌≤◌, ◌++◌, take, length}
use Rattle.std.specs.List.{flat_map}
use Rattle.ref_board.specs.Lines.{other_dir}
use Rattle.ref_play.specs.Formed.{runs_through}
use Rattle.ref_play.proofs.runs.runs_of.Given as goal

abbrev pub invariant-loop-placed : goal.invariant-loop-placed
invariant-loop-placed l =
    record {
      formed : l.runs.items ≡ l.initial.runs.items ++ flat_map (λ q. runs_through (other_dir l.dir) l.after q.square) (take l.placed-index l.tiles);
      few : length l.runs.items ≤ l.placed-index + 1;
    }
