-- Tiles taken off the board again.
use Rattle.std.proofs.Common.{◌≡◌, ◌≢◌, ℕ, ◌+◌, ◌<◌, ◌≤◌, ◌==◌, true, false, nat_lt, List, [], ◌∷◌, Option, Some, None, is_some, length, drop, get_or, refl, sym, ap, ◌∙◌, subst, arith, ⊎_elim}
use Rattle.std.specs.List.{list_all}
use Rattle.std.proofs.lemmas.List.{length-set, get_or-set_same, get_or-set_other, get_or_past, ext_get_or, at_drop_more}
use Rattle.std.proofs.lemmas.List.Elements.{All-nil, All-cons, All-head, All-tail}
use Rattle.std.proofs.lemmas.Bool.{cases_eq, cases_lt, cases_Bool, or_cases, or_parts, or_from, and_parts, eqb-true, ltb-true, ne_eqb, eqb-false, false≢true}
use Rattle.ref_tiles.specs.declared.tiles.Tile.{Tile}
use Rattle.ref_board.specs.declared.directions.Dir.{Dir}
use Rattle.ref_board.specs.Cells.{tile_at, holds, with_tile}
use Rattle.ref_play.specs.declared.placed.Placed.{Placed}
use Rattle.ref_play.specs.Placements.{with_tiles, without_tiles, HasTiles, EmptiesSquares, is_play, are_rising, covers}
use Rattle.ref_play.specs.Legality.{overlaps}
use Rattle.ref_play.proofs.PlaceLaws.{is_play-parts}

none_from_false : (o : Option Tile) → is_some o ≡ false → o ≡ None
none_from_false None e = refl
none_from_false (Some t) e = cc

-- a square that was emptied has no tile, even one past the board
emptied-tile : (board : List (Option Tile)) (square : ℕ) → tile_at (with_tile board square None) square ≡ None
emptied-tile board square =
    let same = length-set board square None in
    ⊎_elim
    (λ (h : square < length board). get_or-set_same board square None None h)
    (λ (h : length board ≤ square). get_or_past (with_tile board square None) square None (omega arith))
    (cases_lt square (length board))

without-none : (ps : List Placed) (board : List (Option Tile)) (square : ℕ) → tile_at board square ≡ None → tile_at (without_tiles board ps) square ≡ None
without-none [] board square e = e
without-none (p ∷ ps) board square e =
    without-none ps (with_tile board p.square None) square
    (⊎_elim
    (λ (s : square ≡ p.square). ap (tile_at (with_tile board p.square None)) s ∙ emptied-tile board p.square)
    (λ (ne : square ≡ p.square → ⊥). get_or-set_other board p.square square None None ne ∙ e)
    (cases_eq square p.square))

without-covered : (ps : List Placed) (board : List (Option Tile)) (square : ℕ) → covers ps square ≡ true → tile_at (without_tiles board ps) square ≡ None
without-covered [] board square e = absurd (false≢true e)
without-covered (p ∷ ps) board square e =
    ⊎_elim
    (λ (h : (p.square == square) ≡ true).
    let s = eqb-true p.square square h in
    without-none ps (with_tile board p.square None) square
    (ap (tile_at (with_tile board p.square None)) (sym s) ∙ emptied-tile board p.square))
    (λ (h : covers ps square ≡ true). without-covered ps (with_tile board p.square None) square h)
    (or_cases (p.square == square) (covers ps square) e)

-- no tile of the placement lies on another square
other_square : (p : Placed) (square : ℕ) → (p.square == square) ≡ false → square ≢ p.square
other_square p square e s = eqb-false p.square square e (sym s)

without-kept : (ps : List Placed) (board : List (Option Tile)) (square : ℕ) → covers ps square ≡ false → tile_at (without_tiles board ps) square ≡ tile_at board square
without-kept [] board square e = refl
without-kept (p ∷ ps) board square e =
    let parts = or_parts (p.square == square) (covers ps square) e in
    without-kept ps (with_tile board p.square None) square parts.1
    ∙ get_or-set_other board p.square square None None (other_square p square parts.0)

pub with-kept : (ps : List Placed) (board : List (Option Tile)) (square : ℕ) → covers ps square ≡ false → tile_at (with_tiles board ps) square ≡ tile_at board square
with-kept [] board square e = refl
with-kept (p ∷ ps) board square e =
    let parts = or_parts (p.square == square) (covers ps square) e in
    with-kept ps (with_tile board p.square (Some p.tile)) square parts.1
    ∙ get_or-set_other board p.square square (Some p.tile) None (other_square p square parts.0)

-- the squares of the placement are emptied, and no other
pub without_empties : (board : List (Option Tile)) (ps : List Placed) → EmptiesSquares ps board (without_tiles board ps)
without_empties board ps = record { emptied = λ square e. without-covered ps board square e; kept = λ square e. without-kept ps board square e }

length-with : (ps : List Placed) (board : List (Option Tile)) → length (with_tiles board ps) ≡ length board
length-with [] board = refl
length-with (p ∷ ps) board = length-with ps (with_tile board p.square (Some p.tile)) ∙ length-set board p.square (Some p.tile)

length-without : (ps : List Placed) (board : List (Option Tile)) → length (without_tiles board ps) ≡ length board
length-without [] board = refl
length-without (p ∷ ps) board = length-without ps (with_tile board p.square None) ∙ length-set board p.square None

covered-free : (ps : List Placed) (board : List (Option Tile)) (square : ℕ) → overlaps board ps ≡ false → covers ps square ≡ true → tile_at board square ≡ None
unfolding overlaps
covered-free [] board square free e = absurd (false≢true e)
covered-free (p ∷ ps) board square free e =
    let f = or_parts (holds board p.square) (overlaps board ps) free in
    ⊎_elim
    (λ (h : (p.square == square) ≡ true). none_from_false (tile_at board square) (ap (holds board) (sym (eqb-true p.square square h)) ∙ f.0))
    (λ (h : covers ps square ≡ true). covered-free ps board square f.1 h)
    (or_cases (p.square == square) (covers ps square) e)

-- Tiles that were put on empty squares and taken off again leave the board as it was.
pub without-with : (board : List (Option Tile)) (ps : List Placed) → overlaps board ps ≡ false → without_tiles (with_tiles board ps) ps ≡ board
without-with board ps free =
    ext_get_or None (without_tiles (with_tiles board ps) ps) board (length-without ps (with_tiles board ps) ∙ length-with ps board)
    (λ square h. ⊎_elim
    (λ (c : covers ps square ≡ true). without-covered ps (with_tiles board ps) square c ∙ sym (covered-free ps board square free c))
    (λ (c : covers ps square ≡ false). without-kept ps (with_tiles board ps) square c ∙ with-kept ps board square c)
    (cases_Bool (covers ps square)))

-- the tiles after one of a rising placement do not lie on its square
uncovered : (ps : List Placed) (square : ℕ) → list_all (λ q. nat_lt square q.square) ps ≡ true → covers ps square ≡ false
uncovered [] square e = refl
uncovered (p ∷ ps) square e =
    let parts = and_parts (nat_lt square p.square) (list_all (λ q. nat_lt square q.square) ps) e in
    let less = ltb-true square p.square parts.0 in
    or_from (p.square == square) (covers ps square) (ne_eqb p.square square (λ s. omega arith)) (uncovered ps square parts.1)

-- each tile of a rising placement lies on its square once all are put down
with-has : (ps : List Placed) (board : List (Option Tile)) → are_rising ps ≡ true → list_all (λ (p : Placed). nat_lt p.square 225) ps ≡ true → length board ≡ 225
    → HasTiles (with_tiles board ps) ps
with-has [] board rising within size = All-nil (λ (q : Placed). tile_at board q.square ≡ Some q.tile)
with-has (p ∷ ps) board rising within size =
    let r = and_parts (list_all (λ q. nat_lt p.square q.square) ps) (are_rising ps) rising in
    let w = and_parts (nat_lt p.square 225) (list_all (λ (q : Placed). nat_lt q.square 225) ps) within in
    let less = ltb-true p.square 225 w.0 in
    let next = with_tile board p.square (Some p.tile) in
    let inside : p.square < length board = omega arith in
    All-cons (λ (q : Placed). tile_at (with_tiles next ps) q.square ≡ Some q.tile) p ps
    (with-kept ps next p.square (uncovered ps p.square r.0) ∙ get_or-set_same board p.square (Some p.tile) None inside)
    (with-has ps next r.1 w.1 (length-set board p.square (Some p.tile) ∙ size))

has-others : (board : List (Option Tile)) (square : ℕ) (ps : List Placed) → list_all (λ q. nat_lt square q.square) ps ≡ true → HasTiles board ps → HasTiles (with_tile board square None) ps
has-others board square [] later has = All-nil (λ (q : Placed). tile_at (with_tile board square None) q.square ≡ Some q.tile)
has-others board square (p ∷ ps) later has =
    let l = and_parts (nat_lt square p.square) (list_all (λ q. nat_lt square q.square) ps) later in
    let less = ltb-true square p.square l.0 in
    let ne : p.square ≢ square = omega arith in
    All-cons (λ (q : Placed). tile_at (with_tile board square None) q.square ≡ Some q.tile) p ps
    (get_or-set_other board square p.square None None ne ∙ All-head (λ (q : Placed). tile_at board q.square ≡ Some q.tile) p ps has)
    (has-others board square ps l.1 (All-tail (λ (q : Placed). tile_at board q.square ≡ Some q.tile) p ps has))

-- the first of some tiles that lie on the board, and the others once it is taken off
pub record IsNextOff (board : List (Option Tile)) (p : Placed) (ps : List Placed) : Type 0 where
  pub there : tile_at board p.square ≡ Some p.tile
  pub others : HasTiles (with_tile board p.square None) ps
  pub rising : are_rising ps ≡ true

next_off : (board : List (Option Tile)) (p : Placed) (ps : List Placed) → are_rising (p ∷ ps) ≡ true → HasTiles board (p ∷ ps) → IsNextOff board p ps
next_off board p ps rising has =
    let r = and_parts (list_all (λ q. nat_lt p.square q.square) ps) (are_rising ps) rising in
    record {
      there = All-head (λ (q : Placed). tile_at board q.square ≡ Some q.tile) p ps has;
      others = has-others board p.square ps r.0 (All-tail (λ (q : Placed). tile_at board q.square ≡ Some q.tile) p ps has);
      rising = r.1;
    }

-- the same at a place of a list
pub off_at : (board : List (Option Tile)) (ps : List Placed) (i : ℕ) (p : Placed) → i < length ps → p ≡ get_or ps i p → are_rising (drop i ps) ≡ true → HasTiles board (drop i ps)
    → IsNextOff board p (drop (i + 1) ps)
off_at board ps i p within is rising has =
    let at : drop i ps ≡ p ∷ drop (i + 1) ps = at_drop_more (λ qs. qs) ps i p within ∙ ap (λ q. q ∷ drop (i + 1) ps) (sym is) in
    next_off board p (drop (i + 1) ps) (subst (λ qs. are_rising qs ≡ true) at rising) (subst (λ qs. HasTiles board qs) at has)

pub without_tiles_more : (board : List (Option Tile)) (ps : List Placed) (i : ℕ) (p : Placed) → i < length ps → p ≡ get_or ps i p
    → without_tiles board (drop i ps) ≡ without_tiles (with_tile board p.square None) (drop (i + 1) ps)
without_tiles_more board ps i p within is =
    let at : drop i ps ≡ p ∷ drop (i + 1) ps = at_drop_more (λ qs. qs) ps i p within ∙ ap (λ q. q ∷ drop (i + 1) ps) (sym is) in
    ap (λ qs. without_tiles board qs) at

-- each tile of a play lies on its square once the play is on the board
pub laid_has : (d : Dir) (board : List (Option Tile)) (ps : List Placed) → is_play d ps ≡ true → length board ≡ 225 → HasTiles (with_tiles board ps) ps
laid_has d board ps e size = let parts = is_play-parts d ps e in with-has ps board parts.2 parts.1 size
