-- The cells of a text, one after another.
use Rattle.std.proofs.Common.{◌≡◌, ℕ, ◌+◌, ◌<◌, ◌≤◌, ◌&&◌, ◌==◌, Bool, true, false, nat_lt, nat_le, List, [], ◌∷◌, ◌++◌, map, Option, Some, None, length, drop, get_or, refl, sym, ap, ◌∙◌, subst, arith}
use Rattle.std.specs.List.{list_all, flat_map, zip, range_with_len}
use Rattle.std.proofs.lemmas.List.{at_drop_more}
use Rattle.std.proofs.lemmas.Bool.{and_parts, and_from, lt-ltb, le-leb, eq-eqb, eqb-true, true≢false}
use Rattle.ref_tiles.specs.declared.tiles.Tile.{Tile}
use Rattle.ref_tiles.specs.declared.symbols.Symbol.{Symbol}
use Rattle.ref_tiles.specs.declared.symbols.Symbol.TheVariants as symbol
use Rattle.ref_tiles.specs.declared.letters.Letter.{Letter}
use Rattle.ref_tiles.specs.Faces.{blank_tile}
use Rattle.std.specs.Option.{is_some}
use Rattle.ref_board.specs.declared.directions.Dir.{Dir}
use Rattle.ref_board.specs.declared.directions.Dir.TheVariants.{Across, Down}
use Rattle.ref_board.specs.Lines.{line_of, place_of}
use Rattle.ref_board.specs.Cells.{tile_at}
use Rattle.ref_play.specs.declared.placed.Placed.{Placed}
use Rattle.ref_play.specs.Placements.{is_play, are_rising, are_in_line}
use Rattle.ref_play.specs.Formed.{along}
use Rattle.ref_play.specs.Texts.{fits_board, new_tiles, placed_on, tile_of, text_cells, placement_of}

-- the cells of a text whose first symbol lies at distance j from the square
abbrev pub cells_from : Dir → ℕ → ℕ → List Symbol → List (ℕ × Symbol)
cells_from d at j word = zip (map (along d at) (range_with_len j (length word))) word

pub cells_of : (d : Dir) (at : ℕ) (word : List Symbol) → text_cells d at word ≡ cells_from d at 0 word
unfolding text_cells
cells_of d at word = refl

-- one symbol after i others
cells_more : (d : Dir) (at : ℕ) (word : List Symbol) (i : ℕ) (s : Symbol) → i < length word → s ≡ get_or word i s
    → cells_from d at i (drop i word) ≡ (along d at i, s) ∷ cells_from d at (i + 1) (drop (i + 1) word)
cells_more d at word i s within is =
    let front : drop i word ≡ s ∷ drop (i + 1) word = at_drop_more (λ ss. ss) word i s within ∙ ap (λ t. t ∷ drop (i + 1) word) (sym is) in
    ap (λ ss. cells_from d at i ss) front

-- the test of all cells, from the i-th on
pub all_fit_more : (board : List (Option Tile)) (d : Dir) (at : ℕ) (word : List Symbol) (i : ℕ) (s : Symbol) → i < length word → s ≡ get_or word i s
    → list_all (fits_board board) (cells_from d at i (drop i word)) ≡ (fits_board board (along d at i, s) && list_all (fits_board board) (cells_from d at (i + 1) (drop (i + 1) word)))
all_fit_more board d at word i s within is = ap (λ cells. list_all (fits_board board) cells) (cells_more d at word i s within is)

-- the new tiles of all cells, from the i-th on
pub placement_more : (board : List (Option Tile)) (d : Dir) (at : ℕ) (word : List Symbol) (i : ℕ) (s : Symbol) → i < length word → s ≡ get_or word i s
    → flat_map (new_tiles board) (cells_from d at i (drop i word)) ≡ new_tiles board (along d at i, s) ++ flat_map (new_tiles board) (cells_from d at (i + 1) (drop (i + 1) word))
placement_more board d at word i s within is = ap (λ cells. flat_map (new_tiles board) cells) (cells_more d at word i s within is)

-- a blank put on an empty square
pub tile_of_blank : (cell : Option Tile) (l : Letter) → is_some cell ≡ false → tile_of cell (symbol.Blank l) ≡ Some (blank_tile l)
tile_of_blank None l e = refl
tile_of_blank (Some t) l e = absurd (true≢false e)

-- A test of squares that holds for each square of a text holds for each new tile.
placed_pass : (test : ℕ → Bool) (square : ℕ) (o : Option Tile) (ps : List Placed) → test square ≡ true → list_all (λ (p : Placed). test p.square) ps ≡ true
    → list_all (λ (p : Placed). test p.square) (placed_on square o ++ ps) ≡ true
placed_pass test square None ps h hs = hs
placed_pass test square (Some t) ps h hs = and_from (test square) (list_all (λ (p : Placed). test p.square) ps) h hs

pub each_pass : (test : ℕ → Bool) (board : List (Option Tile)) (d : Dir) (at j : ℕ) (word : List Symbol) → ((k : ℕ) → j ≤ k → k < j + length word → test (along d at k) ≡ true)
    → list_all (λ (p : Placed). test p.square) (flat_map (new_tiles board) (cells_from d at j word)) ≡ true
each_pass test board d at j [] h = refl
each_pass test board d at j (s ∷ word) h =
    placed_pass test (along d at j) (tile_of (tile_at board (along d at j)) s) (flat_map (new_tiles board) (cells_from d at (j + 1) word)) (h j (omega arith) (omega arith))
    (each_pass test board d at (j + 1) word (λ k low high. h k (omega arith) (omega arith)))

rising_placed : (square : ℕ) (o : Option Tile) (ps : List Placed) → list_all (λ (p : Placed). nat_lt square p.square) ps ≡ true → are_rising ps ≡ true
    → are_rising (placed_on square o ++ ps) ≡ true
rising_placed square None ps h hs = hs
rising_placed square (Some t) ps h hs = and_from (list_all (λ (p : Placed). nat_lt square p.square) ps) (are_rising ps) h hs

pub along_rises : (d : Dir) (at i k : ℕ) → i < k → along d at i < along d at k
along_rises Across at i k h = omega arith
along_rises Down at i k h = omega arith

rising_cells : (board : List (Option Tile)) (d : Dir) (at j : ℕ) (word : List Symbol) → are_rising (flat_map (new_tiles board) (cells_from d at j word)) ≡ true
rising_cells board d at j [] = refl
rising_cells board d at j (s ∷ word) =
    rising_placed (along d at j) (tile_of (tile_at board (along d at j)) s) (flat_map (new_tiles board) (cells_from d at (j + 1) word))
    (each_pass (λ square. nat_lt (along d at j) square) board d at (j + 1) word (λ k low high. lt-ltb (along d at j) (along d at k) (along_rises d at j k (omega arith))))
    (rising_cells board d at (j + 1) word)

-- tiles whose squares all lie on one line
in_line_from : (d : Dir) (line : ℕ) (ps : List Placed) → list_all (λ (p : Placed). line_of d p.square == line) ps ≡ true → are_in_line d ps ≡ true
in_line_from d line [] h = refl
in_line_from d line (p ∷ ps) h =
    let parts = and_parts (line_of d p.square == line) (list_all (λ (q : Placed). line_of d q.square == line) ps) h in
    subst (λ (l : ℕ). list_all (λ (q : Placed). line_of d q.square == l) ps ≡ true) (sym (eqb-true (line_of d p.square) line parts.0)) parts.1

along_line : (d : Dir) (at k : ℕ) → place_of d at + k < 15 → line_of d (along d at k) ≡ line_of d at
along_line Across at k h = omega arith
along_line Down at k h = omega arith

pub along_board : (d : Dir) (at k : ℕ) → at < 225 → place_of d at + k < 15 → along d at k < 225
along_board Across at k b h = omega arith
along_board Down at k b h = omega arith

-- a text that stays on the board names a play if it has one to seven new tiles
pub is_play-placement_of : (board : List (Option Tile)) (d : Dir) (at : ℕ) (word : List Symbol) → at < 225 → place_of d at + length word ≤ 15
    → 1 ≤ length (placement_of board d at word) → length (placement_of board d at word) ≤ 7 → is_play d (placement_of board d at word) ≡ true
unfolding is_play placement_of text_cells
is_play-placement_of board d at word on_board fits some few =
    let ps : List Placed = flat_map (new_tiles board) (cells_from d at 0 word) in
    let b1 : nat_le 1 (length ps) ≡ true = le-leb 1 (length ps) some in
    let b2 : nat_le (length ps) 7 ≡ true = le-leb (length ps) 7 few in
    let b3 : list_all (λ (p : Placed). nat_lt p.square 225) ps ≡ true = each_pass (λ square. nat_lt square 225) board d at 0 word (λ k low high. lt-ltb (along d at k) 225 (along_board d at k on_board (omega arith))) in
    let b4 : are_rising ps ≡ true = rising_cells board d at 0 word in
    let b5 : are_in_line d ps ≡ true = in_line_from d (line_of d at) ps (each_pass (λ square. line_of d square == line_of d at) board d at 0 word (λ k low high. eq-eqb (line_of d (along d at k)) (line_of d at) (along_line d at k (omega arith)))) in
    and_from _ _ (and_from _ _ (and_from _ _ (and_from _ _ b1 b2) b3) b4) b5
