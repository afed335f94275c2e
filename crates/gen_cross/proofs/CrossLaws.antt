-- What the values of a cross say about any tile.
use Rattle.std.proofs.Common.{◌≡◌, ◌↔◌, ℕ, ◌+◌, ◌-◌, ◌*◌, ◌<◌, ◌≤◌, true, false, ◌==◌, List, [], ◌∷◌, length, get_or, All, sum_by, refl, sym, ap, subst, ◌∙◌, arith, ⊎_elim, Option, Some, None}
use Rattle.std.specs.Prelude.{Contains, if◌then◌else◌}
use Rattle.std.proofs.lemmas.Bool.{cases_lt}
use Rattle.ref_tiles.specs.declared.tiles.Tile.{Tile}
use Rattle.ref_tiles.specs.declared.rulebook.Rules.{Rules}
use Rattle.ref_tiles.specs.Faces.{letter_tile}
use Rattle.ref_tiles.specs.Rulebook.{points_of, premium_at, letter_factor, word_factor}
use Rattle.ref_board.specs.declared.directions.Dir.{Dir}
use Rattle.ref_board.specs.Lines.{line_of, place_of, square_at, other_dir}
use Rattle.ref_board.specs.Cells.{tile_at, with_tile, occupied_on}
use Rattle.ref_play.specs.declared.runs.Run.{Run}
use Rattle.ref_play.specs.Crosses.{cross_runs, cross_words, old_points, cross_score}
use Rattle.ref_play.proofs.Agreeing.{cross_words-face}
use Rattle.ref_play.proofs.FormedRuns.{run_through, no_run_through}
use Rattle.ref_play.proofs.LineLaws.{place_below}
use Rattle.ref_play.proofs.Stretches.{first_back, end_on}
use Rattle.gen_cross.specs.declared.crosses.Cross.{Cross}
use Rattle.gen_cross.specs.Values.{value_at, IsRight}
use Rattle.gen_cross.specs.CrossRuns.{IsRunWith}
use Rattle.gen_cross.specs.Laws.{score_by}
use Rattle.gen_cross.proofs.RunsWith.{run_with_is}
use Rattle.gen_cross.proofs.SideLaws.{side_long, sum_of_one}

-- ---- words

pub mask_of_tile : (rules : Rules) (words : List (List ℕ)) (board : List (Option Tile)) (cross : Cross) → length board ≡ 225 → IsRight rules words board cross
    → (d : Dir) (square : ℕ) (t : Tile) → square < 225 → tile_at board square ≡ None
    → (get_or (value_at cross d square).mask t.shown.index false ≡ true) ↔ All (Contains words) (cross_words (other_dir d) board square t)
mask_of_tile rules words board cross size right d square t on free =
    let here = (right d square on).mask free t.shown in
    let same : cross_words (other_dir d) board square (letter_tile t.shown) ≡ cross_words (other_dir d) board square t =
    cross_words-face (other_dir d) board square (letter_tile t.shown) t (omega arith) refl in
    subst (λ (x : List (List ℕ)). (get_or (value_at cross d square).mask t.shown.index false ≡ true) ↔ All (Contains words) x) same here

-- ---- scores

-- the run through an empty square, whichever tile lies there
run_there : (board : List (Option Tile)) (e : Dir) (square : ℕ) → length board ≡ 225 → square < 225 → (run : Run) × (run.dir ≡ e) × IsRunWith board square run
run_there board e square size on =
    let line = line_of e square in
    let place = place_of e square in
    let in_place = place_below e square on in
    let back = first_back (occupied_on e board line) place in
    let ahead = end_on (occupied_on e board line) place (14 - place) (omega arith) in
    let run : Run = record { start = square_at e line back.0; dir = e; len = ahead.0 - back.0 } in
    (run, refl, run_with_is board e square back.0 ahead.0 size on back.1 ahead.1 run refl refl refl)

pub score_of_tile : (rules : Rules) (words : List (List ℕ)) (board : List (Option Tile)) (cross : Cross) → length board ≡ 225 → IsRight rules words board cross
    → (d : Dir) (square : ℕ) (t : Tile) → square < 225 → tile_at board square ≡ None → cross_score rules (other_dir d) board square t ≡ score_by rules cross d board square t
score_of_tile rules words board cross size right d square t on free =
    let factor = word_factor (premium_at rules square) in
    let points = points_of rules t.kind * letter_factor (premium_at rules square) in
    let side = (value_at cross d square).side in
    let score : List Run → ℕ = λ runs. sum_by (λ run. (old_points rules board run + points) * factor) runs in
    let reported : List Run → ℕ = λ runs. if length runs == 0 then 0 else (side + points) * factor in
    let there = run_there board (other_dir d) square size on in
    let run = there.0 in
    let is = there.1 in
    let through = there.2 in
    let after = with_tile board square (Some t) in
    let beside = (right d square on).side free in
    ⊎_elim
    (λ (short : run.len < 2).
    let none : cross_runs (other_dir d) board square t ≡ [] =
    ap (λ (x : Dir). cross_runs x board square t) (sym is) ∙ no_run_through run.dir after square run.start run.len (through.through t) short in
    subst (λ runs. score runs ≡ reported runs) (sym none) refl)
    (λ (long : 2 ≤ run.len).
    let one : cross_runs (other_dir d) board square t ≡ run ∷ [] =
    ap (λ (x : Dir). cross_runs x board square t) (sym is) ∙ run_through run.dir after square run.start run.len on (through.through t) long in
    let same : old_points rules board run ≡ side = sym (beside ∙ side_long rules d board square run is through long) in
    subst (λ runs. score runs ≡ reported runs) (sym one)
    (sum_of_one (λ run. (old_points rules board run + points) * factor) run ∙ ap (λ x. (x + points) * factor) same))
    (cases_lt run.len 2)
