-- The board of a record, as a value.
use Rattle.std.proofs.Common.{◌≡◌, ℕ, ◌+◌, ◌++◌, ◌∷◌, List, [], map, Option, refl, sym, ap, ◌∙◌, subst}
use Rattle.std.specs.Prelude.{slice_get}
use Rattle.std.specs.List.{range_with_len}
use Rattle.std.proofs.lemmas.List.{map_push}
use Rattle.arrayvec.specs.ArrayVec.{ArrayVec}
use Rattle.ref_tiles.specs.declared.tiles.Tile.{Tile}
use Rattle.ref_tiles.specs.declared.rulebook.Rules.{Rules}
use Rattle.ref_play.specs.Words.{items_of}
use Rattle.ref_play.proofs.Ranges.{map_range_more}
use Rattle.gcg_read.specs.declared.events.Event.{Event}
use Rattle.gcg_read.specs.declared.events.Seat.TheVariants.{First, Second}
use Rattle.gcg_read.specs.declared.records.Record.{Record}
use Rattle.game_corrections.specs.WrongNumbers.{had_before}
use Rattle.game_board.specs.Laying.{board_before, AreLaid}
use Rattle.game_board.specs.Tiles.{kinds_off, all_off}
use Rattle.engine.specs.TopBefore.{shown_rack}
use Rattle.game_answers.specs.declared.boards.ShownBoard.{ShownBoard}
use Rattle.game_answers.specs.Boards.{row_marks, board_marks, line_at, IsShownBoard}
use Rattle.game_answers.proofs.BoardTexts.{reported_board}

-- one more row
pub row_more : (rules : Rules) (board : List (Option Tile)) (row : ℕ) (rows : List (ArrayVec ℕ)) (more : ArrayVec ℕ) → items_of rows ≡ board_marks rules board row
    → more.items ≡ row_marks rules board row 15 → items_of (rows ++ more ∷ []) ≡ board_marks rules board (row + 1)
unfolding board_marks
row_more rules board row rows more before here =
    map_push (λ (r : ArrayVec ℕ). r.items) rows more ∙ ap (λ xs. xs ++ more.items ∷ []) before
    ∙ ap (λ m. map (λ k. row_marks rules board k 15) (range_with_len 0 row) ++ m ∷ []) here ∙ sym (map_range_more (λ k. row_marks rules board k 15) row)

-- what a board has, by the event at its end
pub is_shown : (rules : Rules) (r : Record) (asked end : ℕ) (events : List Event) (event : Option Event) (board : List (Option Tile)) (b : ShownBoard) → events ≡ r.events
    → AreLaid events asked end b.fault → board ≡ board_before events end → event ≡ slice_get events end → b.line ≡ line_at event → items_of b.rows.items ≡ board_marks rules board 15
    → b.players ≡ r.players → b.first ≡ had_before events First end → b.second ≡ had_before events Second end → b.rack ≡ shown_rack event → b.off.items ≡ kinds_off rules board 27
    → b.off_in_all ≡ all_off rules board 27 → IsShownBoard rules r asked b
is_shown rules r asked end events event board b same laid standing there line rows players first second rack off in_all =
    let at : board ≡ board_before r.events end = standing ∙ ap (λ (es : List Event). board_before es end) same in
    let stands : event ≡ slice_get r.events end = there ∙ ap (λ (es : List Event). slice_get es end) same in
    let line_is : b.line ≡ line_at (slice_get r.events end) = line ∙ ap line_at stands in
    let rows_are : items_of b.rows.items ≡ board_marks rules (board_before r.events end) 15 = rows ∙ ap (λ c. board_marks rules c 15) at in
    let first_is : b.first ≡ had_before r.events First end = first ∙ ap (λ (es : List Event). had_before es First end) same in
    let second_is : b.second ≡ had_before r.events Second end = second ∙ ap (λ (es : List Event). had_before es Second end) same in
    let rack_is : b.rack ≡ shown_rack (slice_get r.events end) = rack ∙ ap shown_rack stands in
    let off_is : b.off.items ≡ kinds_off rules (board_before r.events end) 27 = off ∙ ap (λ c. kinds_off rules c 27) at in
    let all_is : b.off_in_all ≡ all_off rules (board_before r.events end) 27 = in_all ∙ ap (λ c. all_off rules c 27) at in
    let laid_is : AreLaid r.events asked end b.fault = subst (λ (es : List Event). AreLaid es asked end b.fault) same laid in
    record {
      end = end;
      laid = laid_is;
      line = line_is;
      rows = rows_are;
      players = players;
      first = first_is;
      second = second_is;
      rack = rack_is;
      off = off_is;
      off_in_all = all_is;
      reported = record {
        verdict_is = refl;
        end = end;
        why = b.fault;
        laid = laid_is;
        shown = reported_board rules r end b.fault b.line (items_of b.rows.items) b.players b.first b.second b.rack b.off_in_all b.off.items line_is rows_are players first_is second_is rack_is all_is off_is;
      };
    }
