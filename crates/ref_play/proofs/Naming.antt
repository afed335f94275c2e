-- The notation of a legal placement, read as a text, has no fault and gives the placement.
use Rattle.std.proofs.Common.{◌≡◌, ℕ, ◌+◌, ◌-◌, ◌<◌, ◌≤◌, ◌==◌, ◌&&◌, true, false, nat_lt, List, [], ◌∷◌, length, refl, sym, ap, ◌∙◌, subst, arith, ⊎_elim, Option, Some, None, is_some}
use Rattle.std.specs.Prelude.{Contains}
use Rattle.std.specs.List.{list_all, range_with_len}
use Rattle.std.proofs.lemmas.List.Elements.{All-contains}
use Rattle.std.proofs.lemmas.List.Folds.{list_all-map}
use Rattle.std.proofs.lemmas.Bool.{cases_lt, and_left, and_right, or_from, both_ways, le-ltb, ne_eqb, not_from_true, false_from_ne_true}
use Rattle.first_faults.proofs.CheckLaws.{check-from}
use Rattle.ref_tiles.specs.declared.tiles.Tile.{Tile}
use Rattle.ref_tiles.specs.declared.kinds.Kind.{Kind}
use Rattle.ref_tiles.specs.declared.kinds.Kind.TheVariants as kind
use Rattle.ref_tiles.specs.declared.letters.Letter.{Letter}
use Rattle.ref_tiles.specs.declared.symbols.Symbol.TheVariants as symbol
use Rattle.ref_board.specs.declared.directions.Dir.{Dir}
use Rattle.ref_board.specs.Lines.{place_of, square_at}
use Rattle.ref_board.specs.Cells.{tile_at, holds, occupied_on}
use Rattle.ref_play.specs.declared.placed.Placed.{Placed}
use Rattle.ref_play.specs.declared.runs.Run.{Run}
use Rattle.ref_play.specs.declared.faults.PlayFault.TheVariants as fault
use Rattle.ref_play.specs.Placements.{is_play, with_tiles, covers}
use Rattle.ref_play.specs.Formed.{along, run_of}
use Rattle.ref_board.specs.Anchors.{follows_tile, precedes_tile}
use Rattle.ref_board.proofs.AnchorLaws.{holds_within}
use Rattle.ref_play.specs.Legality.{IsLegal}
use Rattle.ref_play.specs.Texts.{symbol_fits, fits_board, placement_of, mismatches, is_open_ended, text_fault}
use Rattle.ref_play.specs.Directions.{direction_of, LiesIn, RunsAlong}
use Rattle.ref_play.specs.Notations.{symbol_by, symbol_for, tile_in, text_on, Written, written_on, notation_of}
use Rattle.ref_play.proofs.RangeLaws.{some_element}
use Rattle.ref_play.proofs.LineLaws.{line_of-square_at, place_of-square_at, list_all_from}
use Rattle.ref_play.proofs.PlaceLaws.{is_play-parts, is_play-few, with_tiles-kept}
use Rattle.ref_play.proofs.Taking.{with-kept}
use Rattle.ref_play.proofs.Directing.{written_along}
use Rattle.ref_play.proofs.Reading.{along_at, tile_in-cases, cell_on, length-text_on, cells_on, read_back}

-- each symbol of the text fits the board
dot_fits : (o : Option Tile) → is_some o ≡ true → symbol_fits o symbol.Dot ≡ true
dot_fits None e = cc
dot_fits (Some tile) e = refl

new_fits : (k : Kind) (l : Letter) → symbol_fits None (symbol_by k l) ≡ true
new_fits (kind.Letter m) l = refl
new_fits kind.Blank l = refl

symbol_on_fits : (board : List (Option Tile)) (ps : List Placed) (square : ℕ) → ((q : Placed) → Contains ps q → tile_at board q.square ≡ None)
    → holds (with_tiles board ps) square ≡ true → symbol_fits (tile_at board square) (symbol_for (tile_in ps square)) ≡ true
symbol_on_fits board ps square free filled =
    ⊎_elim
    (λ (empty : (tile_in ps square ≡ None) × (covers ps square ≡ false)).
    ap (λ (o : Option Tile). symbol_fits (tile_at board square) (symbol_for o)) empty.0
    ∙ dot_fits (tile_at board square) (ap is_some (sym (with-kept ps board square empty.1)) ∙ filled))
    (λ (some : (q : Placed) × Contains ps q × (q.square ≡ square) × (tile_in ps square ≡ Some q.tile)).
    ap (λ (o : Option Tile). symbol_fits (tile_at board square) (symbol_for o)) some.3
    ∙ ap (λ (o : Option Tile). symbol_fits o (symbol_for (Some some.0.tile))) (ap (tile_at board) (sym some.2) ∙ free some.0 some.1)
    ∙ new_fits some.0.tile.kind some.0.tile.shown)
    (tile_in-cases ps square)

text_fits : (d : Dir) (board : List (Option Tile)) (ps : List Placed) (line first len : ℕ) → ((q : Placed) → Contains ps q → tile_at board q.square ≡ None)
    → LiesIn d (with_tiles board ps) ps line first len → mismatches board d (square_at d line first) (text_on ps (run_of d line (first, len))) ≡ false
unfolding mismatches
text_fits d board ps line first len free lies =
    let run : Run = run_of d line (first, len) in
    not_from_true _
    (ap (list_all (fits_board board)) (cells_on ps run)
    ∙ list_all-map (fits_board board) (cell_on ps run) (range_with_len 0 len)
    ∙ list_all_from (λ k. fits_board board (cell_on ps run k)) 0 len
    (λ k low high. symbol_on_fits board ps (along d run.start k) free
    (ap (holds (with_tiles board ps)) (along_at d line first k) ∙ lies.whole.filled (first + k) (omega arith) (omega arith))))

-- no tile lies directly before or after the run
was_free : (board : List (Option Tile)) (ps : List Placed) (square : ℕ) → holds (with_tiles board ps) square ≡ false → holds board square ≡ false
was_free board ps square free =
    false_from_ne_true (holds board square) (λ old. both_ways (holds (with_tiles board ps) square) free (with_tiles-kept ps board square (holds_within board square old) old))

nothing_before : (d : Dir) (board : List (Option Tile)) (ps : List Placed) (line first len : ℕ) → LiesIn d (with_tiles board ps) ps line first len
    → (nat_lt 0 first && occupied_on d board line (first - 1)) ≡ false
nothing_before d board ps line first len lies =
    ⊎_elim
    (λ (some : 0 < first). and_right (nat_lt 0 first) (occupied_on d board line (first - 1)) (was_free board ps (square_at d line (first - 1)) (lies.whole.before some)))
    (λ (none : first ≤ 0). and_left (nat_lt 0 first) (occupied_on d board line (first - 1)) (le-ltb 0 first none))
    (cases_lt 0 first)

nothing_after : (d : Dir) (board : List (Option Tile)) (ps : List Placed) (line first len : ℕ) → LiesIn d (with_tiles board ps) ps line first len
    → (nat_lt (first + len) 15 && occupied_on d board line (first + len)) ≡ false
nothing_after d board ps line first len lies =
    ⊎_elim
    (λ (room : first + len < 15). and_right (nat_lt (first + len) 15) (occupied_on d board line (first + len)) (was_free board ps (square_at d line (first + len)) (lies.whole.after room)))
    (λ (none : 15 ≤ first + len). and_left (nat_lt (first + len) 15) (occupied_on d board line (first + len)) (le-ltb (first + len) 15 none))
    (cases_lt (first + len) 15)

text_closed : (d : Dir) (board : List (Option Tile)) (ps : List Placed) (line first len : ℕ) → line < 15 → first < 15 → LiesIn d (with_tiles board ps) ps line first len
    → is_open_ended board d (square_at d line first) (text_on ps (run_of d line (first, len))) ≡ false
unfolding is_open_ended
text_closed d board ps line first len below first_below lies =
    let run : Run = run_of d line (first, len) in
    let start = square_at d line first in
    let same_line = line_of-square_at d line first below first_below in
    let same_place = place_of-square_at d line first below first_below in
    or_from (follows_tile d board start) (precedes_tile d board start (length (text_on ps run)))
    (ap (λ (l : ℕ). nat_lt 0 (place_of d start) && occupied_on d board l (place_of d start - 1)) same_line
    ∙ ap (λ (k : ℕ). nat_lt 0 k && occupied_on d board line (k - 1)) same_place
    ∙ nothing_before d board ps line first len lies)
    (ap (λ (n : ℕ). precedes_tile d board start n) (length-text_on ps run)
    ∙ ap (λ (l : ℕ). nat_lt (place_of d start + len) 15 && occupied_on d board l (place_of d start + len)) same_line
    ∙ ap (λ (k : ℕ). nat_lt (k + len) 15 && occupied_on d board line (k + len)) same_place
    ∙ nothing_after d board ps line first len lies)

-- the text of a legal placement on its run has no fault
pub text_faultless : (d : Dir) (board : List (Option Tile)) (ps : List Placed) (line first len : ℕ) → line < 15 → is_play d ps ≡ true → IsLegal board ps
    → LiesIn d (with_tiles board ps) ps line first len → text_fault board d (square_at d line first) (text_on ps (run_of d line (first, len))) ≡ None
unfolding text_fault
text_faultless d board ps line first len below play legal lies =
    let run : Run = run_of d line (first, len) in
    let start = square_at d line first in
    let parts = is_play-parts d ps play in
    let some : 0 < length ps = parts.0 in
    let not_none : (length ps == 0) ≡ false = ne_eqb (length ps) 0 (λ e. omega arith) in
    let element = some_element ps not_none in
    let low = lies.low element.0 element.1 in
    let high = lies.high element.0 element.1 in
    let few = is_play-few d ps play in
    let inside = lies.whole.inside in
    let free : (q : Placed) → Contains ps q → tile_at board q.square ≡ None =
    λ q c. All-contains (λ (p : Placed). tile_at board p.square ≡ None) ps q legal.on_empty c in
    let named = read_back d board ps line first len below lies parts.2 free in
    let same_place = place_of-square_at d line first below (omega arith) in
    let same_length = length-text_on ps run in
    check-from (nat_lt 15 (place_of d start + length (text_on ps run))) fault.OffBoard _ (le-ltb 15 (place_of d start + length (text_on ps run)) (omega arith))
    (check-from (mismatches board d start (text_on ps run)) fault.Mismatch _ (text_fits d board ps line first len free lies)
    (check-from (length (placement_of board d start (text_on ps run)) == 0) fault.NoNewTile _ (ap (λ (qs : List Placed). length qs == 0) named ∙ not_none)
    (check-from (nat_lt 7 (length (placement_of board d start (text_on ps run)))) fault.TooManyTiles _ (ap (λ (qs : List Placed). nat_lt 7 (length qs)) named ∙ le-ltb 7 (length ps) few)
    (check-from (is_open_ended board d start (text_on ps run)) fault.NotWhole _ (text_closed d board ps line first len below (omega arith) lies) refl))))

-- the notation is the text on the run along the direction in which the placement is written
pub notation_is : (board : List (Option Tile)) (ps : List Placed) (r : RunsAlong (direction_of board ps) board ps)
    → notation_of board ps ≡ written_on ps (run_of (direction_of board ps) r.line (r.first, r.len) ∷ [])
unfolding notation_of
notation_is board ps r = ap (written_on ps) r.runs

-- the notation, read as a text, names the placement
pub notation_reads : (e : Dir) (board : List (Option Tile)) (ps : List Placed) → length board ≡ 225 → is_play e ps ≡ true → IsLegal board ps
    → placement_of board (notation_of board ps).dir (notation_of board ps).at (notation_of board ps).word ≡ ps
notation_reads e board ps size play legal =
    let r = written_along e board ps size play legal in
    let d = direction_of board ps in
    let parts = is_play-parts d ps r.play in
    subst (λ (w : Written). placement_of board w.dir w.at w.word ≡ ps) (sym (notation_is board ps r))
    (read_back d board ps r.line r.first r.len r.below r.lies parts.2
    (λ q c. All-contains (λ (p : Placed). tile_at board p.square ≡ None) ps q legal.on_empty c))

-- and has no fault
pub notation_faultless : (e : Dir) (board : List (Option Tile)) (ps : List Placed) → length board ≡ 225 → is_play e ps ≡ true → IsLegal board ps
    → text_fault board (notation_of board ps).dir (notation_of board ps).at (notation_of board ps).word ≡ None
notation_faultless e board ps size play legal =
    let r = written_along e board ps size play legal in
    subst (λ (w : Written). text_fault board w.dir w.at w.word ≡ None) (sym (notation_is board ps r))
    (text_faultless (direction_of board ps) board ps r.line r.first r.len r.below r.play legal r.lies)

-- a notation has the direction in which the placement is written
pub notation_direction : (e : Dir) (board : List (Option Tile)) (ps : List Placed) → length board ≡ 225 → is_play e ps ≡ true → IsLegal board ps → (notation_of board ps).dir ≡ direction_of board ps
unfolding notation_of
notation_direction e board ps size play legal =
    let run = written_along e board ps size play legal in
    ap (λ runs. (written_on ps runs).dir) run.runs

-- different placements have different notations
pub notation_differs : (e f : Dir) (board : List (Option Tile)) (a b : List Placed) → length board ≡ 225 → is_play e a ≡ true → is_play f b ≡ true → IsLegal board a → IsLegal board b
    → notation_of board a ≡ notation_of board b → a ≡ b
notation_differs e f board a b size play_a play_b legal_a legal_b same =
    sym (notation_reads e board a size play_a legal_a)
    ∙ ap (λ (w : Written). placement_of board w.dir w.at w.word) same
    ∙ notation_reads f board b size play_b legal_b

-- both at once
pub notation_names : (d : Dir) (board : List (Option Tile)) (ps : List Placed) → length board ≡ 225 → is_play d ps ≡ true → IsLegal board ps
    → (text_fault board (notation_of board ps).dir (notation_of board ps).at (notation_of board ps).word ≡ None)
    × (placement_of board (notation_of board ps).dir (notation_of board ps).at (notation_of board ps).word ≡ ps)
notation_names d board ps size play legal = (notation_faultless d board ps size play legal, notation_reads d board ps size play legal)
