-- Tiles put down one after another.
use Rattle.std.proofs.Common.{◌≡◌, ◌≢◌, ℕ, zero, suc, ◌+◌, ◌<◌, Bool, true, false, nat_lt, List, [], ◌∷◌, ◌-◌, slice_get, Option, Some, None, length, drop, get_or, refl, sym, ap, ◌∙◌, subst, arith}
use Rattle.std.specs.List.{list_all}
use Rattle.std.specs.Option.{is_some, is_none}
use Rattle.std.specs.Bool.{Decides}
use Rattle.std.proofs.lemmas.Bool.Decides.{same_from_decides}
use Rattle.std.proofs.lemmas.List.{get_or-set_other, at_drop_more}
use Rattle.std.proofs.lemmas.Bool.{and_parts, and_from, or_parts, or_from, ltb-true, false≢true}
use Rattle.ref_tiles.specs.declared.tiles.Tile.{Tile}
use Rattle.ref_board.specs.Cells.{tile_at, holds, with_tile, HasNoTile}
use Rattle.ref_play.specs.declared.placed.Placed.{Placed}
use Rattle.ref_play.specs.Placements.{with_tiles, are_rising}
use Rattle.ref_play.specs.Legality.{overlaps, last_square, has_no_tile}

-- no content means no tile
none_some : (q : Placed) → None ≡ Some q → ⊥
none_some q e = (cc)

none_from_false : (o : Option Tile) → is_some o ≡ false → o ≡ None
none_from_false None e = refl
none_from_false (Some t) e = absurd (false≢true (sym e))

-- a tile on a square before all others overlaps none of them
overlaps-with_tile : (board : List (Option Tile)) (square : ℕ) (tile : Option Tile) (ps : List Placed) → list_all (λ q. nat_lt square q.square) ps ≡ true → overlaps board ps ≡ false → overlaps (with_tile board square tile) ps ≡ false
unfolding overlaps
overlaps-with_tile board square tile [] later free = refl
overlaps-with_tile board square tile (p ∷ ps) later free =
    let l = and_parts _ _ later in
    let f : (holds board p.square ≡ false) × (overlaps board ps ≡ false) = or_parts _ _ free in
    let other : p.square ≢ square = let below = ltb-true square p.square l.0 in omega arith in
    or_from _ _ (rw get_or-set_other f.0) (overlaps-with_tile board square tile ps l.1 f.1)

-- the first tile of a placement that does not overlap any, and the others on the board with it
pub record IsNext (board : List (Option Tile)) (p : Placed) (ps : List Placed) : Type 0 where
  pub free : tile_at board p.square ≡ None
  pub others_free : overlaps (with_tile board p.square (Some p.tile)) ps ≡ false
  pub rising : are_rising ps ≡ true

next_tile : (board : List (Option Tile)) (p : Placed) (ps : List Placed) → are_rising (p ∷ ps) ≡ true → overlaps board (p ∷ ps) ≡ false → IsNext board p ps
unfolding overlaps
next_tile board p ps rising free =
    let r = and_parts _ _ rising in
    let f = or_parts _ _ free in
    record { free = none_from_false _ f.0; others_free = overlaps-with_tile board p.square (Some p.tile) ps r.0 f.1; rising = r.1 }

-- the same at a place of a list
pub next_at : (board : List (Option Tile)) (ps : List Placed) (i : ℕ) (p : Placed) → i < length ps → p ≡ get_or ps i p → are_rising (drop i ps) ≡ true → overlaps board (drop i ps) ≡ false
    → IsNext board p (drop (i + 1) ps)
next_at board ps i p within is rising free =
    let at : drop i ps ≡ p ∷ drop (i + 1) ps = at_drop_more (λ qs. qs) ps i p within ∙ ap (λ q. q ∷ drop (i + 1) ps) (sym is) in
    next_tile board p (drop (i + 1) ps) (subst (λ qs. are_rising qs ≡ true) at rising) (subst (λ qs. overlaps board qs ≡ false) at free)

pub with_tiles_more : (board : List (Option Tile)) (ps : List Placed) (i : ℕ) (p : Placed) → i < length ps → p ≡ get_or ps i p
    → with_tiles board (drop i ps) ≡ with_tiles (with_tile board p.square (Some p.tile)) (drop (i + 1) ps)
with_tiles_more board ps i p within is =
    let at : drop i ps ≡ p ∷ drop (i + 1) ps = at_drop_more (λ qs. qs) ps i p within ∙ ap (λ q. q ∷ drop (i + 1) ps) (sym is) in
    ap (λ qs. with_tiles board qs) at

pub last_square_at : (p : Placed) (ps : List Placed) (q : Placed) → slice_get ps (length ps - 1) ≡ Some q → last_square p ps ≡ q.square
last_square_at p [] q e = absurd (none_some q e)
last_square_at p (x ∷ []) q e =
    let here : Some x ≡ Some q = e in
    let same : x ≡ q = (cc) in
    ap (λ (r : Placed). r.square) same
last_square_at p (x ∷ y ∷ ys) q e =
    let step : suc (suc (length ys)) - 1 ≡ suc (suc (length ys) - 1) = omega arith in
    last_square_at x (y ∷ ys) q (subst (λ k. slice_get (x ∷ y ∷ ys) k ≡ Some q) step e)

none_from_true : (o : Option Tile) → is_none o ≡ true → o ≡ None
none_from_true None e = refl
none_from_true (Some t) e = absurd (false≢true e)

empty_cells : (board : List (Option Tile)) → has_no_tile board ≡ true → (square : ℕ) → tile_at board square ≡ None
unfolding has_no_tile
empty_cells [] e square = refl
empty_cells (o ∷ board) e zero = none_from_true o (and_parts (is_none o) (list_all is_none board) e).0
empty_cells (o ∷ board) e (suc square) = empty_cells board (and_parts (is_none o) (list_all is_none board) e).1 square

cells_empty : (board : List (Option Tile)) → ((square : ℕ) → tile_at board square ≡ None) → has_no_tile board ≡ true
unfolding has_no_tile
cells_empty [] h = refl
cells_empty (o ∷ board) h = and_from (is_none o) (list_all is_none board) (ap is_none (h 0)) (cells_empty board (λ square. h (suc square)))

-- the test of the empty board says that no square has a tile
pub empty_decides : (board : List (Option Tile)) → Decides (has_no_tile board) (HasNoTile board)
empty_decides board = (empty_cells board, cells_empty board)

pub empty_is : (board : List (Option Tile)) (b : Bool) → ((b ≡ true → HasNoTile board) × (HasNoTile board → b ≡ true)) → b ≡ has_no_tile board
empty_is board b h = same_from_decides b (has_no_tile board) h (empty_decides board)
