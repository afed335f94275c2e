-- A text without a fault covers its whole run.
use Rattle.std.proofs.Common.{◌≡◌, ℕ, ◌+◌, ◌-◌, ◌<◌, ◌≤◌, Bool, true, false, ◌&&◌, nat_lt, List, [], ◌∷◌, ◌++◌, length, refl, sym, ap, ◌∙◌, subst, arith, ◌⊎◌, inl, inr, ⊎_elim, Option, Some, None, is_some}
use Rattle.std.specs.Prelude.{Contains}
use Rattle.std.specs.List.{list_all, flat_map}
use Rattle.std.proofs.lemmas.List.{get_or-set_other}
use Rattle.std.proofs.lemmas.Bool.{and_parts, or_parts, false≢true, lt-ltb, le-ltb, cases_eq, both_ways}
use Rattle.ref_tiles.specs.declared.tiles.Tile.{Tile}
use Rattle.ref_tiles.specs.declared.symbols.Symbol.{Symbol}
use Rattle.ref_tiles.specs.declared.symbols.Symbol.TheVariants as symbol
use Rattle.ref_board.specs.declared.directions.Dir.{Dir}
use Rattle.ref_board.specs.declared.directions.Dir.TheVariants.{Across, Down}
use Rattle.ref_board.specs.Lines.{line_of, place_of, square_at}
use Rattle.ref_board.specs.Cells.{tile_at, holds, with_tile, occupied_on}
use Rattle.ref_board.specs.Runs.{IsWhole}
use Rattle.ref_play.specs.declared.placed.Placed.{Placed}
use Rattle.ref_play.specs.Placements.{with_tiles}
use Rattle.ref_play.specs.Formed.{along}
use Rattle.ref_board.specs.Anchors.{follows_tile, precedes_tile}
use Rattle.ref_play.specs.Texts.{fits_board, new_tiles, placed_on, tile_of, symbol_fits, text_cells, placement_of, is_open_ended}
use Rattle.ref_play.proofs.RangeLaws.{Contains-here, Contains-there}
use Rattle.ref_play.proofs.PlaceLaws.{with_tiles-kept, with_tiles-holds}
use Rattle.ref_play.proofs.TextLemmas.{cells_from, each_pass, along_rises, along_board}

second_false : (b c : Bool) → (b && c) ≡ false → b ≡ true → c ≡ false
second_false true c e h = e
second_false false c e h = absurd (false≢true h)

-- a square that fails a test which all new tiles pass stays as it was
with_tiles-other : (test : ℕ → Bool) (ps : List Placed) (board : List (Option Tile)) (square : ℕ) → test square ≡ false
    → list_all (λ (p : Placed). test p.square) ps ≡ true → holds (with_tiles board ps) square ≡ holds board square
with_tiles-other test [] board square f h = refl
with_tiles-other test (p ∷ ps) board square f h =
    let parts = and_parts (test p.square) (list_all (λ (q : Placed). test q.square) ps) h in
    let other : square ≡ p.square → ⊥ = λ s. both_ways (test square) f (ap test s ∙ parts.0) in
    with_tiles-other test ps (with_tile board p.square (Some p.tile)) square f parts.1
    ∙ ap is_some (get_or-set_other board p.square square (Some p.tile) None other)

-- the square of a symbol that fits has a tile, or gets one
fits_new : (square : ℕ) (o : Option Tile) (s : Symbol) (ps : List Placed) → symbol_fits o s ≡ true
    → (is_some o ≡ true) ⊎ ((p : Placed) × Contains (placed_on square (tile_of o s) ++ ps) p × (p.square ≡ square))
fits_new square (Some tile) s ps e = inl refl
fits_new square None symbol.Dot ps e = absurd (false≢true e)
fits_new square None (symbol.Letter l) ps e = inr (_, Contains-here _ ps, refl)
fits_new square None (symbol.Blank l) ps e = inr (_, Contains-here _ ps, refl)

after_placed : (square : ℕ) (o : Option Tile) (ps : List Placed) (p : Placed) → Contains ps p → Contains (placed_on square o ++ ps) p
after_placed square None ps p c = c
after_placed square (Some t) ps p c = Contains-there _ ps p c

cell_filled : (board : List (Option Tile)) (d : Dir) (at j k : ℕ) (word : List Symbol) → list_all (fits_board board) (cells_from d at j word) ≡ true → j ≤ k → k < j + length word
    → (holds board (along d at k) ≡ true) ⊎ ((p : Placed) × Contains (flat_map (new_tiles board) (cells_from d at j word)) p × (p.square ≡ along d at k))
cell_filled board d at j k [] h low high = absurd (omega arith)
cell_filled board d at j k (s ∷ word) h low high =
    let parts = and_parts (fits_board board (along d at j, s)) (list_all (fits_board board) (cells_from d at (j + 1) word)) h in
    let rest : List Placed = flat_map (new_tiles board) (cells_from d at (j + 1) word) in
    let o : Option Tile = tile_at board (along d at j) in
    ⊎_elim
    (λ (e : j ≡ k).
    subst (λ (i : ℕ). (holds board (along d at i) ≡ true) ⊎ ((p : Placed) × Contains (placed_on (along d at j) (tile_of o s) ++ rest) p × (p.square ≡ along d at i))) e
    (fits_new (along d at j) o s rest parts.0))
    (λ (ne : j ≡ k → ⊥).
    ⊎_elim
    (λ (old : holds board (along d at k) ≡ true). inl old)
    (λ (found : (p : Placed) × Contains rest p × (p.square ≡ along d at k)).
    inr (found.0, after_placed (along d at j) (tile_of o s) rest found.0 found.1, found.2))
    (cell_filled board d at (j + 1) k word parts.1 (omega arith) (omega arith)))
    (cases_eq j k)

along_at : (d : Dir) (at k : ℕ) → along d at k ≡ square_at d (line_of d at) (place_of d at + k)
along_at Across at k = omega arith
along_at Down at k = omega arith

before_rises : (d : Dir) (at k : ℕ) → 0 < place_of d at → square_at d (line_of d at) (place_of d at - 1) < along d at k
before_rises Across at k h = omega arith
before_rises Down at k h = omega arith

filled_text : (board : List (Option Tile)) (d : Dir) (at : ℕ) (word : List Symbol) → length board ≡ 225 → at < 225 → place_of d at + length word ≤ 15
    → list_all (fits_board board) (cells_from d at 0 word) ≡ true → (k : ℕ) → k < length word
    → holds (with_tiles board (flat_map (new_tiles board) (cells_from d at 0 word))) (along d at k) ≡ true
filled_text board d at word size on_board within fits k h =
    let ps : List Placed = flat_map (new_tiles board) (cells_from d at 0 word) in
    let inside : along d at k < 225 = along_board d at k on_board (omega arith) in
    ⊎_elim
    (λ (old : holds board (along d at k) ≡ true). with_tiles-kept ps board (along d at k) (omega arith) old)
    (λ (found : (p : Placed) × Contains ps p × (p.square ≡ along d at k)).
    let same = found.2 in
    ap (holds (with_tiles board ps)) (sym same) ∙ with_tiles-holds ps board found.0 (omega arith) found.1)
    (cell_filled board d at 0 k word fits (omega arith) (omega arith))

-- no tile lies directly before the text or after it, and it puts none there
whole_cells : (board : List (Option Tile)) (d : Dir) (at : ℕ) (word : List Symbol) → length board ≡ 225 → at < 225 → place_of d at + length word ≤ 15
    → list_all (fits_board board) (cells_from d at 0 word) ≡ true → follows_tile d board at ≡ false → precedes_tile d board at (length word) ≡ false
    → IsWhole (occupied_on d (with_tiles board (flat_map (new_tiles board) (cells_from d at 0 word))) (line_of d at)) (place_of d at) (length word)
whole_cells board d at word size on_board within fits front back =
    let ps : List Placed = flat_map (new_tiles board) (cells_from d at 0 word) in
    let line = line_of d at in
    let first = place_of d at in
    let len = length word in
    record {
      inside = within;
      filled = λ place low high.
          let k = place - first in
          let there : place ≡ first + k = omega arith in
          let same : square_at d line place ≡ along d at k = ap (square_at d line) there ∙ sym (along_at d at k) in
          ap (holds (with_tiles board ps)) same ∙ filled_text board d at word size on_board within fits k (omega arith);
      before = λ some.
          let square = square_at d line (first - 1) in
          with_tiles-other (nat_lt square) ps board square (le-ltb square square (omega arith))
          (each_pass (nat_lt square) board d at 0 word (λ k low high. lt-ltb square (along d at k) (before_rises d at k some)))
          ∙ second_false (nat_lt 0 first) (holds board square) front (lt-ltb 0 first some);
      after = λ room.
          let square = square_at d line (first + len) in
          let same = along_at d at len in
          with_tiles-other (λ s. nat_lt s square) ps board square (le-ltb square square (omega arith))
          (each_pass (λ s. nat_lt s square) board d at 0 word
          (λ k low high. let less = along_rises d at k len (omega arith) in lt-ltb (along d at k) square (omega arith)))
          ∙ second_false (nat_lt (first + len) 15) (holds board square) back (lt-ltb (first + len) 15 room);
    }

pub whole_text : (board : List (Option Tile)) (d : Dir) (at : ℕ) (word : List Symbol) → length board ≡ 225 → at < 225 → place_of d at + length word ≤ 15
    → list_all (fits_board board) (text_cells d at word) ≡ true → is_open_ended board d at word ≡ false
    → IsWhole (occupied_on d (with_tiles board (placement_of board d at word)) (line_of d at)) (place_of d at) (length word)
unfolding is_open_ended placement_of text_cells
whole_text board d at word size on_board within fits closed =
    let ends = or_parts _ _ closed in
    whole_cells board d at word size on_board within fits ends.0 ends.1
