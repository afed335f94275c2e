-- The run through an empty square, once a tile lies there, by the tiles directly before and after the square.
use Rattle.std.proofs.Common.{◌≡◌, ℕ, ◌+◌, ◌-◌, ◌<◌, true, List, length, ◌⊎◌, ap, subst, ◌∙◌, arith, ⊎_elim, Option, Some, is_some}
use Rattle.std.proofs.lemmas.Bool.{cases_eq, cases_order}
use Rattle.ref_tiles.specs.declared.tiles.Tile.{Tile}
use Rattle.ref_board.specs.declared.directions.Dir.{Dir}
use Rattle.ref_board.specs.Lines.{line_of, place_of, square_at}
use Rattle.ref_board.specs.Cells.{holds, with_tile, occupied_on}
use Rattle.ref_board.specs.Runs.{IsRunThrough, IsFirstBack, IsEndOn}
use Rattle.ref_play.proofs.LineLaws.{line_of-square_at, place_of-square_at, square_at-of, line_below, place_below}
use Rattle.ref_play.specs.declared.runs.Run.{Run}
use Rattle.gen_cross.specs.CrossRuns.{IsRunWith}
use Rattle.gen_cross.proofs.MaskLaws.{with_there, with_elsewhere}

strict : (i place : ℕ) → (i ≡ place → ⊥) → (i < place) ⊎ (place < i)
strict i place ne =
    ⊎_elim
    (λ (e : i ≡ place). absurd (ne e))
    (λ h. h)
    (cases_order i place)

run_with_tile : (board : List (Option Tile)) (d : Dir) (square first end : ℕ) → length board ≡ 225 → square < 225
    → IsFirstBack (occupied_on d board (line_of d square)) (place_of d square) first → IsEndOn (occupied_on d board (line_of d square)) (place_of d square) end
    → (t : Tile) → IsRunThrough (with_tile board square (Some t)) d square (square_at d (line_of d square) first) (end - first)
run_with_tile board d square first end size on back ahead t =
    let line = line_of d square in
    let place = place_of d square in
    let after = with_tile board square (Some t) in
    let low = back.not_after in
    let high = ahead.following in
    let inside = ahead.inside in
    let in_line = line_below d square on in
    let in_place = place_below d square on in
    let at_line = line_of-square_at d line first in_line (omega arith) in
    let at_first = place_of-square_at d line first in_line (omega arith) in
    let kept : (i : ℕ) → i < 15 → (i ≡ place → ⊥) → occupied_on d after line i ≡ occupied_on d board line i = λ i below ne. ap is_some (with_elsewhere board d square t i on below ne) in
    let here : occupied_on d after line place ≡ true = ap (holds after) (square_at-of d square) ∙ ap is_some (with_there board square t (omega arith)) in
    let total : first + (end - first) ≡ end = omega arith in
    record {
      same_line = at_line;
      not_after = omega arith;
      reaches = omega arith;
      whole = rw at_first (record {
        inside = omega arith;
        filled = λ i l h.
            ⊎_elim
            (λ (s : i ≡ place). ap (occupied_on d after line) s ∙ here)
            (λ (ne : i ≡ place → ⊥).
            kept i (omega arith) ne
            ∙ ⊎_elim (λ (b : i < place). back.filled i l b) (λ (b : place < i). ahead.filled i b (omega arith)) (strict i place ne))
            (cases_eq i place);
        before = λ some. kept (first - 1) (omega arith) (λ s. absurd (omega arith)) ∙ back.before some;
        after = λ short. ap (occupied_on d after line) total ∙ kept end (omega arith) (λ s. absurd (omega arith)) ∙ ahead.after (omega arith);
      });
    }

pub run_with_is : (board : List (Option Tile)) (d : Dir) (square first end : ℕ) → length board ≡ 225 → square < 225
    → IsFirstBack (occupied_on d board (line_of d square)) (place_of d square) first → IsEndOn (occupied_on d board (line_of d square)) (place_of d square) end
    → (run : Run) → run.start ≡ square_at d (line_of d square) first → run.dir ≡ d → run.len ≡ end - first → IsRunWith board square run
run_with_is board d square first end size on back ahead run at along as_long =
    let low = back.not_after in
    let high = ahead.following in
    let inside = ahead.inside in
    let place = place_of-square_at d (line_of d square) first (line_below d square on) (omega arith) in
    let made : Run = record { start = square_at d (line_of d square) first; dir = d; len = end - first } in
    let parts : Run = record { start = run.start; dir = run.dir; len = run.len } in
    let same : made ≡ parts = cc in
    subst (IsRunWith board square) same (record {
      size = size;
      on_board = on;
      low = omega arith;
      high = omega arith;
      inside = omega arith;
      through = run_with_tile board d square first end size on back ahead;
    })
