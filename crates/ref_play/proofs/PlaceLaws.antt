-- Placements: their order, their line and the board with their tiles.
use Rattle.std.proofs.Common.{◌≡◌, ℕ, ◌<◌, ◌≤◌, true, ◌&&◌, ◌==◌, nat_le, nat_lt, List, [], ◌∷◌, length, refl, sym, ap, ◌∙◌, arith, ⊎_elim, Option, Some, None, is_some}
use Rattle.std.specs.Prelude.{Contains}
use Rattle.std.specs.List.{list_all}
use Rattle.std.proofs.lemmas.List.{length-set, get_or-set_same, get_or-set_other}
use Rattle.std.proofs.lemmas.Bool.{cases_eq, and_parts, eqb-true, ltb-true, leb-true}
use Rattle.ref_tiles.specs.declared.tiles.Tile.{Tile}
use Rattle.ref_board.specs.declared.directions.Dir.{Dir}
use Rattle.ref_board.specs.Lines.{line_of}
use Rattle.ref_board.specs.Cells.{holds, with_tile}
use Rattle.ref_play.specs.declared.placed.Placed.{Placed}
use Rattle.ref_play.specs.Placements.{are_rising, are_in_line, is_play, with_tiles}
use Rattle.ref_play.specs.Legality.{last_square}
use Rattle.ref_play.proofs.RangeLaws.{Contains-cases, Contains-here, Contains-there, list_all-in}

-- the parts of the test of a play
pub is_play-parts : (d : Dir) (ps : List Placed) → is_play d ps ≡ true
    → (0 < length ps) × (list_all (λ (p : Placed). nat_lt p.square 225) ps ≡ true) × (are_rising ps ≡ true) × (are_in_line d ps ≡ true)
unfolding is_play
is_play-parts d ps e =
    let a = and_parts (nat_le 1 (length ps) && nat_le (length ps) 7 && list_all (λ (p : Placed). nat_lt p.square 225) ps && are_rising ps) (are_in_line d ps) e in
    let b = and_parts (nat_le 1 (length ps) && nat_le (length ps) 7 && list_all (λ (p : Placed). nat_lt p.square 225) ps) (are_rising ps) a.0 in
    let c = and_parts (nat_le 1 (length ps) && nat_le (length ps) 7) (list_all (λ (p : Placed). nat_lt p.square 225) ps) b.0 in
    let f = and_parts (nat_le 1 (length ps)) (nat_le (length ps) 7) c.0 in
    let one = leb-true 1 (length ps) f.0 in
    (omega arith, c.1, b.1, a.1)

pub on_board : (ps : List Placed) (p : Placed) → list_all (λ (p : Placed). nat_lt p.square 225) ps ≡ true → Contains ps p → p.square < 225
on_board ps p e c = ltb-true p.square 225 (list_all-in (λ (q : Placed). nat_lt q.square 225) ps p e c)

-- each tile lies on the line of the first, not before it, and not after the last
pub on_one_line : (d : Dir) (first : Placed) (ps : List Placed) (p : Placed) → are_in_line d (first ∷ ps) ≡ true → Contains (first ∷ ps) p
    → line_of d p.square ≡ line_of d first.square
on_one_line d first ps p e c =
    ⊎_elim
    (λ (s : first ≡ p). ap (λ (q : Placed). line_of d q.square) (sym s))
    (λ (s : Contains ps p). eqb-true (line_of d p.square) (line_of d first.square) (list_all-in (λ (q : Placed). line_of d q.square == line_of d first.square) ps p e s))
    (Contains-cases first ps p c)

pub after_first : (first : Placed) (ps : List Placed) (p : Placed) → are_rising (first ∷ ps) ≡ true → Contains (first ∷ ps) p → first.square ≤ p.square
after_first first ps p e c =
    let parts = and_parts (list_all (λ (q : Placed). nat_lt first.square q.square) ps) (are_rising ps) e in
    ⊎_elim
    (λ (s : first ≡ p). let same = ap (λ (q : Placed). q.square) s in omega arith)
    (λ (s : Contains ps p).
    let less = ltb-true first.square p.square (list_all-in (λ (q : Placed). nat_lt first.square q.square) ps p parts.0 s) in omega arith)
    (Contains-cases first ps p c)

pub before_last : (first : Placed) (ps : List Placed) (p : Placed) → are_rising (first ∷ ps) ≡ true → Contains (first ∷ ps) p → p.square ≤ last_square first ps
before_last first [] p e c =
    ⊎_elim
    (λ (s : first ≡ p). let same = ap (λ (q : Placed). q.square) s in omega arith)
    (λ (s : Contains [] p). absurd (omega (arith, s.1)))
    (Contains-cases first [] p c)
before_last first (q ∷ ps) p e c =
    let parts = and_parts (list_all (λ (r : Placed). nat_lt first.square r.square) (q ∷ ps)) (are_rising (q ∷ ps)) e in
    ⊎_elim
    (λ (s : first ≡ p).
    let same = ap (λ (r : Placed). r.square) s in
    let less = ltb-true first.square q.square (list_all-in (λ (r : Placed). nat_lt first.square r.square) (q ∷ ps) q parts.0 (Contains-here q ps)) in
    let rest = before_last q ps q parts.1 (Contains-here q ps) in
    omega arith)
    (λ (s : Contains (q ∷ ps) p). before_last q ps p parts.1 s)
    (Contains-cases first (q ∷ ps) p c)

pub last_is_there : (first : Placed) (ps : List Placed) → (p : Placed) × Contains (first ∷ ps) p × (p.square ≡ last_square first ps)
last_is_there first [] = (first, Contains-here first [], refl)
last_is_there first (q ∷ ps) =
    let rest = last_is_there q ps in (rest.0, Contains-there first (q ∷ ps) rest.0 rest.1, rest.2)

-- a tile stays when others are put down
pub with_tiles-kept : (ps : List Placed) (board : List (Option Tile)) (square : ℕ) → square < length board → holds board square ≡ true
    → holds (with_tiles board ps) square ≡ true
with_tiles-kept [] board square h e = e
with_tiles-kept (p ∷ ps) board square h e =
    let same = length-set board p.square (Some p.tile) in
    with_tiles-kept ps (with_tile board p.square (Some p.tile)) square (omega arith)
    (⊎_elim
    (λ (s : square ≡ p.square).
    ap (λ (k : ℕ). holds (with_tile board p.square (Some p.tile)) k) s
    ∙ ap is_some (get_or-set_same board p.square (Some p.tile) None (omega arith)))
    (λ (ne : square ≡ p.square → ⊥). ap is_some (get_or-set_other board p.square square (Some p.tile) None ne) ∙ e)
    (cases_eq square p.square))

-- each tile of a placement lies on the board with them
pub with_tiles-holds : (ps : List Placed) (board : List (Option Tile)) (p : Placed) → p.square < length board → Contains ps p
    → holds (with_tiles board ps) p.square ≡ true
with_tiles-holds [] board p h c = absurd (omega (arith, c.1))
with_tiles-holds (q ∷ ps) board p h c =
    let same = length-set board q.square (Some q.tile) in
    ⊎_elim
    (λ (s : q ≡ p).
    let e : q.square ≡ p.square = ap (λ (r : Placed). r.square) s in
    with_tiles-kept ps (with_tile board q.square (Some q.tile)) p.square (omega arith)
    (ap (λ (k : ℕ). holds (with_tile board q.square (Some q.tile)) k) (sym e)
    ∙ ap is_some (get_or-set_same board q.square (Some q.tile) None (omega arith))))
    (λ (s : Contains ps p). with_tiles-holds ps (with_tile board q.square (Some q.tile)) p (omega arith) s)
    (Contains-cases q ps p c)

pub is_play-few : (d : Dir) (ps : List Placed) → is_play d ps ≡ true → length ps ≤ 7
unfolding is_play
is_play-few d ps e =
    let a = and_parts (nat_le 1 (length ps) && nat_le (length ps) 7 && list_all (λ (p : Placed). nat_lt p.square 225) ps && are_rising ps) (are_in_line d ps) e in
    let b = and_parts (nat_le 1 (length ps) && nat_le (length ps) 7 && list_all (λ (p : Placed). nat_lt p.square 225) ps) (are_rising ps) a.0 in
    let c = and_parts (nat_le 1 (length ps) && nat_le (length ps) 7) (list_all (λ (p : Placed). nat_lt p.square 225) ps) b.0 in
    leb-true (length ps) 7 (and_parts (nat_le 1 (length ps)) (nat_le (length ps) 7) c.0).1
