-- The points beside an empty square are those of the old tiles of the run through it.
use Rattle.std.proofs.Common.{◌≡◌, ℕ, ◌<◌, ◌≤◌, List, [], ◌∷◌, sum_by, sym, ap, ◌∙◌, arith, Option, Some}
use Rattle.ref_tiles.specs.declared.tiles.Tile.{Tile}
use Rattle.ref_tiles.specs.declared.rulebook.Rules.{Rules}
use Rattle.ref_tiles.specs.Faces.{blank_tile, letter_a}
use Rattle.ref_board.specs.declared.directions.Dir.{Dir}
use Rattle.ref_board.specs.Lines.{other_dir}
use Rattle.ref_board.specs.Cells.{with_tile}
use Rattle.ref_play.specs.declared.runs.Run.{Run}
use Rattle.ref_play.specs.Crosses.{cross_runs, old_points}
use Rattle.ref_play.proofs.FormedRuns.{run_through, no_run_through}
use Rattle.gen_cross.specs.Values.{side_points}
use Rattle.gen_cross.specs.CrossRuns.{IsRunWith}

pub sum_of_one : {X : Type 0} (f : X → ℕ) (x : X) → sum_by f (x ∷ []) ≡ f x
sum_of_one f x = omega arith

pub side_short : (rules : Rules) (d : Dir) (board : List (Option Tile)) (square : ℕ) (run : Run) → run.dir ≡ other_dir d → IsRunWith board square run → run.len < 2
    → side_points rules d board square ≡ 0
side_short rules d board square run is there short =
    let t = blank_tile letter_a in
    ap (λ (x : Dir). sum_by (old_points rules board) (cross_runs x board square t)) (sym is)
    ∙ ap (sum_by (old_points rules board)) (no_run_through run.dir (with_tile board square (Some t)) square run.start run.len (there.through t) short)

pub side_long : (rules : Rules) (d : Dir) (board : List (Option Tile)) (square : ℕ) (run : Run) → run.dir ≡ other_dir d → IsRunWith board square run → 2 ≤ run.len
    → side_points rules d board square ≡ old_points rules board run
side_long rules d board square run is there long =
    let t = blank_tile letter_a in
    ap (λ (x : Dir). sum_by (old_points rules board) (cross_runs x board square t)) (sym is)
    ∙ ap (sum_by (old_points rules board)) (run_through run.dir (with_tile board square (Some t)) square run.start run.len there.on_board (there.through t) long)
    ∙ sum_of_one (old_points rules board) run
