-- Whether a play that runs along a direction is written in it.
use Rattle.std.proofs.Common.{◌≡◌, ℕ, ◌<◌, ◌≤◌, Bool, true, false, not, ◌==◌, nat_le, List, [], ◌∷◌, length, refl, sym, ap, ◌∙◌, arith, ⊎_elim, Option}
use Rattle.std.specs.Prelude.{if◌then◌else◌}
use Rattle.std.proofs.lemmas.Bool.{cases_lt, and_left, and_right, and_from, leb-true, le-leb, false_from_ne_true}
use Rattle.ref_tiles.specs.declared.tiles.Tile.{Tile}
use Rattle.ref_board.specs.declared.directions.Dir.{Dir}
use Rattle.ref_board.specs.declared.directions.Dir.TheVariants.{Across, Down}
use Rattle.ref_board.specs.Runs.{IsRunThrough}
use Rattle.ref_play.specs.declared.placed.Placed.{Placed}
use Rattle.ref_play.specs.declared.runs.Run.{Run}
use Rattle.ref_play.specs.Placements.{are_in_line, with_tiles}
use Rattle.ref_play.specs.Formed.{runs_along}
use Rattle.ref_play.specs.Legality.{IsLegal}
use Rattle.ref_play.specs.Directions.{direction_of, same_dir, is_wanted, RunsAlong}
use Rattle.ref_play.proofs.RangeLaws.{Contains-here}
use Rattle.ref_play.proofs.PlaceLaws.{is_play-parts, on_board}
use Rattle.ref_play.proofs.FormedRuns.{along_runs, run_through, no_run_through, laid_from}
use Rattle.ref_play.proofs.DirectionLaws.{more_tiles}
use Rattle.ref_play.proofs.Directing.{is_play-turned}

-- the direction by the run across
across_from : (board : List (Option Tile)) (ps : List Placed) (run : Run) → are_in_line Across ps ≡ true → runs_along Across (with_tiles board ps) ps ≡ run ∷ [] → direction_of board ps ≡ Across
across_from board ps run line runs =
    ap (λ (b : Bool). if b then Across else Down)
    (and_from (are_in_line Across ps) (not (length (runs_along Across (with_tiles board ps) ps) == 0)) line (ap (λ (rs : List Run). not (length rs == 0)) runs))

down_from : (board : List (Option Tile)) (ps : List Placed) → runs_along Across (with_tiles board ps) ps ≡ [] → direction_of board ps ≡ Down
down_from board ps none =
    ap (λ (b : Bool). if b then Across else Down)
    (and_right (are_in_line Across ps) (not (length (runs_along Across (with_tiles board ps) ps) == 0)) (ap (λ (rs : List Run). not (length rs == 0)) none))

wanted_from : (d : Dir) (board : List (Option Tile)) (ps : List Placed) → direction_of board ps ≡ d → same_dir d d ≡ true → length ps ≤ 7 → is_wanted board d ps ≡ true
wanted_from d board ps is same few =
    and_from (same_dir (direction_of board ps) d) (nat_le (length ps) 7) (ap (λ (e : Dir). same_dir e d) is ∙ same) (le-leb (length ps) 7 few)

-- a play that runs across is written across
pub wanted_across : (board : List (Option Tile)) (ps : List Placed) → RunsAlong Across board ps → length ps ≤ 7 → is_wanted board Across ps ≡ true
wanted_across board ps runs few =
    let parts = is_play-parts Across ps runs.play in wanted_from Across board ps (across_from board ps _ parts.3 runs.runs) refl few

-- a play that runs down with two tiles or more is written down
pub wanted_down : (board : List (Option Tile)) (p q : Placed) (ps : List Placed) → RunsAlong Down board (p ∷ q ∷ ps) → length (p ∷ q ∷ ps) ≤ 7 → is_wanted board Down (p ∷ q ∷ ps) ≡ true
wanted_down board p q ps runs few =
    let all = p ∷ q ∷ ps in
    let apart : are_in_line Across all ≡ false =
    false_from_ne_true (are_in_line Across all) (λ t. let one = more_tiles all (is_play-turned Down Across all runs.play t) runs.play in omega arith) in
    wanted_from Down board all
    (ap (λ (b : Bool). if b then Across else Down) (and_left (are_in_line Across all) (not (length (runs_along Across (with_tiles board all) all) == 0)) apart))
    refl few

-- a lone tile is written down exactly when it forms no run of two tiles across
pub wanted_lone : (board : List (Option Tile)) (p : Placed) → length board ≡ 225 → RunsAlong Down board (p ∷ []) → IsLegal board (p ∷ []) → (start len : ℕ) → IsRunThrough (with_tiles board (p ∷ [])) Across p.square start len
    → is_wanted board Down (p ∷ []) ≡ nat_le len 1
wanted_lone board p size runs legal start len run =
    let one = p ∷ [] in
    let after = with_tiles board one in
    let play = is_play-turned Down Across one runs.play refl in
    let parts = is_play-parts Across one play in
    let on = on_board one p parts.1 (Contains-here p []) in
    let along = along_runs Across after p [] (laid_from Across board one size play legal.no_gap) in
    ⊎_elim
    (λ (short : len < 2).
    wanted_from Down board one (down_from board one (along ∙ no_run_through Across after p.square start len run short)) refl (omega arith)
    ∙ sym (le-leb len 1 (omega arith)))
    (λ (long : 2 ≤ len).
    let is = across_from board one _ refl (along ∙ run_through Across after p.square start len on run long) in
    and_left (same_dir (direction_of board one) Down) (nat_le (length one) 7) (ap (λ (e : Dir). same_dir e Down) is)
    ∙ sym (false_from_ne_true (nat_le len 1) (λ t. let few = leb-true len 1 t in omega arith)))
    (cases_lt len 2)

pub wanted_few : (board : List (Option Tile)) (d : Dir) (ps : List Placed) → 7 < length ps → is_wanted board d ps ≡ false
wanted_few board d ps many =
    and_right (same_dir (direction_of board ps) d) (nat_le (length ps) 7)
    (false_from_ne_true (nat_le (length ps) 7) (λ t. let few = leb-true (length ps) 7 t in omega arith))
