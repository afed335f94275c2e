-- The run of a legal placement in the direction in which it is written.
use Rattle.std.proofs.Common.{◌≡◌, ℕ, ◌<◌, ◌≤◌, true, false, not, ◌&&◌, ◌==◌, List, [], ◌∷◌, length, get_or, refl, sym, ap, ◌∙◌, subst, arith, ⊎_elim, Option, cond}
use Rattle.std.proofs.lemmas.Bool.{cases_lt, and_parts, both_ways, eqb-true, false_from_ne_true}
use Rattle.ref_tiles.specs.declared.tiles.Tile.{Tile}
use Rattle.ref_board.specs.declared.directions.Dir.{Dir}
use Rattle.ref_board.specs.declared.directions.Dir.TheVariants.{Across, Down}
use Rattle.ref_board.specs.Cells.{holds}
use Rattle.ref_board.specs.Runs.{IsRunThrough}
use Rattle.ref_play.specs.declared.placed.Placed.{Placed}
use Rattle.ref_play.specs.declared.runs.Run.{Run}
use Rattle.ref_play.specs.Placements.{is_play, with_tiles, are_in_line}
use Rattle.ref_play.specs.Formed.{run_of, runs_along, runs_through}
use Rattle.ref_play.specs.Legality.{IsLegal}
use Rattle.ref_play.specs.Directions.{direction_of, RunsAlong}
use Rattle.ref_play.proofs.RangeLaws.{Contains-here}
use Rattle.ref_play.proofs.PlaceLaws.{is_play-parts, on_board, with_tiles-holds}
use Rattle.ref_play.proofs.FormedRuns.{along_runs, run_through, no_run_through, laid_from}
use Rattle.ref_play.proofs.DirectionLaws.{more_tiles}
use Rattle.ref_play.proofs.Directing.{is_play-turned, written_along}

-- ---- plays that lie in one row
pub row_of_across : (ps : List Placed) → is_play Across ps ≡ true → are_in_line Across ps ≡ true
row_of_across ps play = (is_play-parts Across ps play).3

-- a play down lies in one row if it has one tile
pub row_of_down : (ps : List Placed) → is_play Down ps ≡ true → (length ps == 1) ≡ are_in_line Across ps
row_of_down [] play = let parts = is_play-parts Down [] play in absurd (omega (arith, parts.0))
row_of_down (p ∷ []) play = refl
row_of_down (p ∷ q ∷ ps) play =
    let ts = p ∷ q ∷ ps in
    let more : (length ts == 1) ≡ false = false_from_ne_true (length ts == 1) (λ t. let one = eqb-true (length ts) 1 t in omega arith) in
    let crooked : are_in_line Across ts ≡ false =
    false_from_ne_true (are_in_line Across ts) (λ t. let one = more_tiles ts (is_play-turned Down Across ts play t) play in omega arith) in
    more ∙ sym crooked

-- ---- the run
-- the first tile of a play lies on the board with its tiles
pub first_holds : (d : Dir) (board : List (Option Tile)) (ps : List Placed) (none : Placed) → length board ≡ 225 → is_play d ps ≡ true
    → holds (with_tiles board ps) (get_or ps 0 none).square ≡ true
first_holds d board [] none size play = let parts = is_play-parts d [] play in absurd (omega (arith, parts.0))
first_holds d board (p ∷ ps) none size play =
    let parts = is_play-parts d (p ∷ ps) play in
    let on = on_board (p ∷ ps) p parts.1 (Contains-here p ps) in
    with_tiles-holds (p ∷ ps) board p (omega arith) (Contains-here p ps)

-- a run by its parts
abbrev run_by : ℕ → Dir → ℕ → Run
run_by start d len = record { start = start; dir = d; len = len }

of_way : (d : Dir) (run : Run) → run.dir ≡ d → run_by run.start d run.len ∷ [] ≡ run ∷ []
of_way d run way = ap (λ e. run_by run.start e run.len ∷ []) (sym way)

-- without a run across a placement in one row is not written across
not_across : (d : Dir) (board : List (Option Tile)) (p : Placed) (ps : List Placed) (at k : ℕ) → length board ≡ 225 → is_play d (p ∷ ps) ≡ true → IsLegal board (p ∷ ps)
    → IsRunThrough (with_tiles board (p ∷ ps)) Across p.square at k → (are_in_line Across (p ∷ ps) ≡ true → k < 2)
    → (are_in_line Across (p ∷ ps) && not (length (runs_along Across (with_tiles board (p ∷ ps)) (p ∷ ps)) == 0)) ≡ false
not_across d board p ps at k size play legal row short =
    let ts = p ∷ ps in
    let after = with_tiles board ts in
    let has_run = not (length (runs_along Across after ts) == 0) in
    false_from_ne_true (are_in_line Across ts && has_run) (λ t.
    let parts = and_parts (are_in_line Across ts) has_run t in
    let across = is_play-turned d Across ts play parts.0 in
    let nothing : runs_along Across after ts ≡ [] =
    along_runs Across after p ps (laid_from Across board ts size across legal.no_gap) ∙ no_run_through Across after p.square at k row (short parts.0) in
    both_ways has_run (ap (λ (rs : List Run). not (length rs == 0)) nothing) parts.1)

-- a placement in one row with a run across is written across
pub written_across : (d : Dir) (board : List (Option Tile)) (ps : List Placed) (none : Placed) (run : Run) → length board ≡ 225 → is_play d ps ≡ true → IsLegal board ps
    → are_in_line Across ps ≡ true → run.dir ≡ Across → IsRunThrough (with_tiles board ps) Across (get_or ps 0 none).square run.start run.len → 1 < run.len
    → runs_along (direction_of board ps) (with_tiles board ps) ps ≡ run ∷ []
written_across d board [] none run size play legal in_line way through long = let parts = is_play-parts d [] play in absurd (omega (arith, parts.0))
written_across d board (p ∷ ps) none run size play legal in_line way through long =
    let ts = p ∷ ps in
    let after = with_tiles board ts in
    let on = on_board ts p (is_play-parts d ts play).1 (Contains-here p ps) in
    let across = is_play-turned d Across ts play in_line in
    let along : runs_along Across after ts ≡ run ∷ [] =
    along_runs Across after p ps (laid_from Across board ts size across legal.no_gap) ∙ run_through Across after p.square run.start run.len on through (omega arith)
    ∙ of_way Across run way in
    let chosen : direction_of board ts ≡ Across =
    ap (λ b. cond (b && not (length (runs_along Across after ts) == 0)) Across Down) in_line ∙ ap (λ (rs : List Run). cond (true && not (length rs == 0)) Across Down) along in
    ap (λ e. runs_along e after ts) chosen ∙ along

-- without a run across, or in more rows than one, it is written down
pub written_down : (d : Dir) (board : List (Option Tile)) (ps : List Placed) (none : Placed) (at k : ℕ) (run : Run) → length board ≡ 225 → is_play d ps ≡ true → IsLegal board ps
    → IsRunThrough (with_tiles board ps) Across (get_or ps 0 none).square at k → (are_in_line Across ps ≡ true → k < 2)
    → run.dir ≡ Down → IsRunThrough (with_tiles board ps) Down (get_or ps 0 none).square run.start run.len
    → runs_along (direction_of board ps) (with_tiles board ps) ps ≡ run ∷ []
written_down d board [] none at k run size play legal row short way through = let parts = is_play-parts d [] play in absurd (omega (arith, parts.0))
written_down d board (p ∷ ps) none at k run size play legal row short way through =
    let ts = p ∷ ps in
    let after = with_tiles board ts in
    let on = on_board ts p (is_play-parts d ts play).1 (Contains-here p ps) in
    let chosen : direction_of board ts ≡ Down = ap (λ b. cond b Across Down) (not_across d board p ps at k size play legal row short) in
    let reported : RunsAlong Down board ts = subst (λ e. RunsAlong e board ts) chosen (written_along d board ts size play legal) in
    let along : runs_along Down after ts ≡ runs_through Down after p.square = along_runs Down after p ps (laid_from Down board ts size reported.play legal.no_gap) in
    let long : 2 ≤ run.len = ⊎_elim
    (λ (h : run.len < 2).
    let nothing : run_of Down reported.line (reported.first, reported.len) ∷ [] ≡ [] = sym reported.runs ∙ along ∙ no_run_through Down after p.square run.start run.len through h in
    let none_remaining = ap length nothing in absurd (omega arith))
    (λ (h : 2 ≤ run.len). h) (cases_lt run.len 2) in
    ap (λ e. runs_along e after ts) chosen ∙ along ∙ run_through Down after p.square run.start run.len on through long ∙ of_way Down run way
