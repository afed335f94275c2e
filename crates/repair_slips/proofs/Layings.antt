-- Tiles that are laid over a line, from a place on.
use Rattle.std.proofs.Common.{◌≡◌, ℕ, suc, ◌+◌, ◌-◌, ◌<◌, ◌≤◌, true, false, List, [], ◌∷◌, ◌++◌, length, get_or, drop, map, Option, refl, sym, ap, ◌∙◌, arith}
use Rattle.std.proofs.lemmas.List.{append_assoc, append-nil, drop_more, drop_all}
use Rattle.std.specs.List.{range_with_len}
use Rattle.ref_tiles.specs.declared.tiles.Tile.{Tile}
use Rattle.ref_tiles.specs.declared.symbols.Symbol.{Symbol}
use Rattle.ref_tiles.specs.declared.symbols.Symbol.TheVariants as symbol
use Rattle.ref_board.specs.declared.directions.Dir.{Dir}
use Rattle.ref_board.specs.Cells.{occupied_on}
use Rattle.repair_slips.specs.Laying.{occupied_from, laid_over}

-- a place of a line and those after it
from_here : (board : List (Option Tile)) (d : Dir) (line place : ℕ) → place < 15 → occupied_from board d line place ≡ occupied_on d board line place ∷ occupied_from board d line (place + 1)
unfolding occupied_from
from_here board d line place within =
    let many : 15 - place ≡ suc (15 - (place + 1)) = omega arith in
    ap (λ n. map (occupied_on d board line) (range_with_len place n)) many

-- a square that has a tile
over_tile : (board : List (Option Tile)) (d : Dir) (line place : ℕ) (tiles : List Symbol) → place < 15 → occupied_on d board line place ≡ true
    → laid_over (occupied_from board d line place) tiles ≡ symbol.Dot ∷ laid_over (occupied_from board d line (place + 1)) tiles
unfolding laid_over
over_tile board d line place tiles within holds =
    ap (λ xs. laid_over xs tiles) (from_here board d line place within) ∙ ap (λ b. laid_over (b ∷ occupied_from board d line (place + 1)) tiles) holds

-- a free square, on which the next tile lies
over_free : (board : List (Option Tile)) (d : Dir) (line place : ℕ) (tile : Symbol) (tiles : List Symbol) → place < 15 → occupied_on d board line place ≡ false
    → laid_over (occupied_from board d line place) (tile ∷ tiles) ≡ tile ∷ laid_over (occupied_from board d line (place + 1)) tiles
unfolding laid_over
over_free board d line place tile tiles within free =
    ap (λ xs. laid_over xs (tile ∷ tiles)) (from_here board d line place within) ∙ ap (λ b. laid_over (b ∷ occupied_from board d line (place + 1)) (tile ∷ tiles)) free

-- a free square after the last tile
over_none : (board : List (Option Tile)) (d : Dir) (line place : ℕ) → place < 15 → occupied_on d board line place ≡ false → laid_over (occupied_from board d line place) [] ≡ []
unfolding laid_over
over_none board d line place within free =
    ap (λ xs. laid_over xs []) (from_here board d line place within) ∙ ap (λ b. laid_over (b ∷ occupied_from board d line (place + 1)) []) free

-- the end of the line
over_end : (board : List (Option Tile)) (d : Dir) (line : ℕ) (tiles : List Symbol) → laid_over (occupied_from board d line 15) tiles ≡ []
unfolding occupied_from laid_over
over_end board d line tiles = refl

-- ---- the steps of the loop: a text so far, and what is laid over the rest of the line

one_more : (old new rest line whole : List Symbol) (s : Symbol) → new ≡ old ++ s ∷ [] → line ≡ s ∷ rest → old ++ line ≡ whole → new ++ rest ≡ whole
one_more old new rest line whole s made is so_far =
    ap (λ (xs : List Symbol). xs ++ rest) made ∙ append_assoc old (s ∷ []) rest ∙ ap (λ (xs : List Symbol). old ++ xs) (sym is) ∙ so_far

no_more : (laid rest whole : List Symbol) → rest ≡ [] → laid ++ rest ≡ whole → laid ≡ whole
no_more laid rest whole none so_far = sym (append-nil laid) ∙ ap (λ (xs : List Symbol). laid ++ xs) (sym none) ∙ so_far

-- a square that has a tile
pub dot_laid : (board : List (Option Tile)) (d : Dir) (line place used : ℕ) (tiles old new whole : List Symbol) → place < 15 → occupied_on d board line place ≡ true
    → new ≡ old ++ symbol.Dot ∷ [] → old ++ laid_over (occupied_from board d line place) (drop used tiles) ≡ whole
    → new ++ laid_over (occupied_from board d line (place + 1)) (drop used tiles) ≡ whole
dot_laid board d line place used tiles old new whole within holds made so_far =
    one_more old new (laid_over (occupied_from board d line (place + 1)) (drop used tiles)) (laid_over (occupied_from board d line place) (drop used tiles)) whole symbol.Dot made
    (over_tile board d line place (drop used tiles) within holds) so_far

-- a free square, when a tile is left
pub tile_laid : (board : List (Option Tile)) (d : Dir) (line place used : ℕ) (tile : Symbol) (tiles old new whole : List Symbol) → place < 15 → occupied_on d board line place ≡ false
    → used < length tiles → tile ≡ get_or tiles used tile → new ≡ old ++ tile ∷ [] → old ++ laid_over (occupied_from board d line place) (drop used tiles) ≡ whole
    → new ++ laid_over (occupied_from board d line (place + 1)) (drop (used + 1) tiles) ≡ whole
tile_laid board d line place used tile tiles old new whole within free remaining is made so_far =
    let next : drop used tiles ≡ tile ∷ drop (used + 1) tiles = drop_more tiles used tile remaining ∙ ap (λ (s : Symbol). s ∷ drop (used + 1) tiles) (sym is) in
    one_more old new (laid_over (occupied_from board d line (place + 1)) (drop (used + 1) tiles)) (laid_over (occupied_from board d line place) (drop used tiles)) whole tile made
    (ap (laid_over (occupied_from board d line place)) next ∙ over_free board d line place tile (drop (used + 1) tiles) within free) so_far

-- a free square, when no tile is left
pub all_laid : (board : List (Option Tile)) (d : Dir) (line place used : ℕ) (tiles laid whole : List Symbol) → place < 15 → occupied_on d board line place ≡ false → length tiles ≤ used
    → laid ++ laid_over (occupied_from board d line place) (drop used tiles) ≡ whole → laid ≡ whole
all_laid board d line place used tiles laid whole within free none so_far =
    no_more laid (laid_over (occupied_from board d line place) (drop used tiles)) whole
    (ap (laid_over (occupied_from board d line place)) (drop_all used tiles none) ∙ over_none board d line place within free) so_far

-- the end of the line
pub line_laid : (board : List (Option Tile)) (d : Dir) (line place used : ℕ) (tiles laid whole : List Symbol) → place ≡ 15
    → laid ++ laid_over (occupied_from board d line place) (drop used tiles) ≡ whole → laid ≡ whole
line_laid board d line place used tiles laid whole end so_far =
    no_more laid (laid_over (occupied_from board d line place) (drop used tiles)) whole
    (ap (λ k. laid_over (occupied_from board d line k) (drop used tiles)) end ∙ over_end board d line (drop used tiles)) so_far
