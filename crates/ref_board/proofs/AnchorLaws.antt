-- A square is beside a tile exactly when one of its four neighbours has one.
use Rattle.std.proofs.Common.{◌≡◌, ℕ, ◌+◌, ◌-◌, ◌<◌, ◌≤◌, Bool, true, false, ◌||◌, nat_lt, List, length, refl, sym, ap, ◌∙◌, arith, ◌⊎◌, inl, inr, ⊎_elim, Option, Some, None, is_some}
use Rattle.std.specs.Prelude.{◌↔◌}
use Rattle.std.proofs.lemmas.List.{get_or_past}
use Rattle.std.proofs.lemmas.Bool.{cases_lt, or_cases, or_left, or_right, and_parts, and_from, both_ways, ltb-true, lt-ltb}
use Rattle.ref_tiles.specs.declared.tiles.Tile.{Tile}
use Rattle.ref_board.specs.declared.directions.Dir.{Dir}
use Rattle.ref_board.specs.declared.directions.Dir.TheVariants.{Across, Down}
use Rattle.ref_board.specs.Lines.{line_of, place_of, square_at}
use Rattle.ref_board.specs.Cells.{tile_at, holds, HasNoTile, occupied_on}
use Rattle.ref_board.specs.Anchors.{centre, AreBeside, IsAnchor, follows_tile, precedes_tile, touches}
use Rattle.ref_board.proofs.LineLaws.{line_of-square_at, place_of-square_at, square_at-of, line_below, place_below}

-- a tile lies within the list
pub holds_within : (board : List (Option Tile)) (square : ℕ) → holds board square ≡ true → square < length board
holds_within board square e =
    ⊎_elim
    (λ (h : square < length board). h)
    (λ (h : length board ≤ square). absurd (both_ways (holds board square) (ap is_some (get_or_past board square None h)) e))
    (cases_lt square (length board))

-- a tile orthogonally beside a square
follows-beside : (d : Dir) (board : List (Option Tile)) (a : ℕ) → a < 225 → follows_tile d board a ≡ true → (b : ℕ) × AreBeside a b × (holds board b ≡ true)
follows-beside d board a h e =
    let line = line_of d a in
    let place = place_of d a in
    let parts = and_parts (nat_lt 0 place) (occupied_on d board line (place - 1)) e in
    let positive = ltb-true 0 place parts.0 in
    let line_on = line_below d a h in
    let place_on = place_below d a h in
    let there = place_of-square_at d line (place - 1) line_on (omega arith) in (
      square_at d line (place - 1),
      (d, sym (line_of-square_at d line (place - 1) line_on (omega arith)), inr (omega arith)),
      parts.1,
    )

precedes-beside : (d : Dir) (board : List (Option Tile)) (a : ℕ) → a < 225 → precedes_tile d board a 1 ≡ true → (b : ℕ) × AreBeside a b × (holds board b ≡ true)
precedes-beside d board a h e =
    let line = line_of d a in
    let place = place_of d a in
    let parts = and_parts (nat_lt (place + 1) 15) (occupied_on d board line (place + 1)) e in
    let within = ltb-true (place + 1) 15 parts.0 in
    let line_on = line_below d a h in
    let there = place_of-square_at d line (place + 1) line_on within in (
      square_at d line (place + 1),
      (d, sym (line_of-square_at d line (place + 1) line_on within), inl (omega arith)),
      parts.1,
    )

pub touches-beside : (board : List (Option Tile)) (a : ℕ) → a < 225 → touches board a ≡ true → (b : ℕ) × AreBeside a b × (holds board b ≡ true)
touches-beside board a h e =
    let fa = follows_tile Across board a in
    let pa = precedes_tile Across board a 1 in
    let fd = follows_tile Down board a in
    let pd = precedes_tile Down board a 1 in
    ⊎_elim
    (λ (s : (fa || pa || fd) ≡ true). ⊎_elim
    (λ (t : (fa || pa) ≡ true). ⊎_elim
    (λ (u : fa ≡ true). follows-beside Across board a h u)
    (λ (u : pa ≡ true). precedes-beside Across board a h u)
    (or_cases fa pa t))
    (λ (t : fd ≡ true). follows-beside Down board a h t)
    (or_cases (fa || pa) fd s))
    (λ (s : pd ≡ true). precedes-beside Down board a h s)
    (or_cases (fa || pa || fd) pd e)

touches-from : (d : Dir) (board : List (Option Tile)) (a : ℕ) → (follows_tile d board a || precedes_tile d board a 1) ≡ true → touches board a ≡ true
touches-from Across board a e = or_left _ _ (or_left _ _ e)
touches-from Down board a e =
    ⊎_elim
    (λ (s : follows_tile Down board a ≡ true). or_left _ _ (or_right _ _ s))
    (λ (s : precedes_tile Down board a 1 ≡ true). or_right _ _ s)
    (or_cases _ _ e)

pub beside-touches : (board : List (Option Tile)) (a b : ℕ) → length board ≡ 225 → AreBeside a b → holds board b ≡ true → touches board a ≡ true
beside-touches board a b size (d, line, near) e =
    let within = holds_within board b e in
    let place_on = place_below d b (omega arith) in
    let at : (k : ℕ) → k ≡ place_of d b → occupied_on d board (line_of d a) k ≡ true =
    λ k s. ap (λ (l : ℕ). holds board (square_at d l k)) line ∙ ap (λ (p : ℕ). holds board (square_at d (line_of d b) p)) s ∙ ap (holds board) (square_at-of d b) ∙ e in
    touches-from d board a
    (⊎_elim
    (λ (s : place_of d a + 1 ≡ place_of d b).
    or_right (follows_tile d board a) (precedes_tile d board a 1)
    (and_from (nat_lt (place_of d a + 1) 15) (occupied_on d board (line_of d a) (place_of d a + 1)) (lt-ltb (place_of d a + 1) 15 (omega arith)) (at (place_of d a + 1) s)))
    (λ (s : place_of d b + 1 ≡ place_of d a).
    or_left (follows_tile d board a) (precedes_tile d board a 1)
    (and_from (nat_lt 0 (place_of d a)) (occupied_on d board (line_of d a) (place_of d a - 1)) (lt-ltb 0 (place_of d a) (omega arith)) (at (place_of d a - 1) (omega arith))))
    near)

none_from_false : (tile : Option Tile) → is_some tile ≡ false → tile ≡ None
none_from_false None e = refl
none_from_false (Some t) e = cc

-- an anchor is an empty square that touches a tile, or the centre of an empty board
pub anchor_from : (board : List (Option Tile)) (square : ℕ) → square < 225 → tile_at board square ≡ None
    → (touches board square ≡ true) ⊎ ((square ≡ centre) × HasNoTile board) → IsAnchor board square
anchor_from board square on free near =
    record {
      free = free;
      near = ⊎_elim
          (λ (t : touches board square ≡ true). inr (touches-beside board square on t))
          (λ (c : (square ≡ centre) × HasNoTile board). inl (c.1, c.0))
          near;
    }

pub anchor_parts : (board : List (Option Tile)) (square : ℕ) → length board ≡ 225 → IsAnchor board square
    → (touches board square ≡ true) ⊎ ((square ≡ centre) × HasNoTile board)
anchor_parts board square size anchor =
    ⊎_elim
    (λ (c : HasNoTile board × (square ≡ centre)). inr (c.1, c.0))
    (λ (b : (other : ℕ) × AreBeside square other × (holds board other ≡ true)). inl (beside-touches board square b.0 size b.1 b.2))
    anchor.near

-- what the tests of the neighbours and of an opening play say about an empty square
pub anchor_reported : (board : List (Option Tile)) (square : ℕ) (touched : Bool) → length board ≡ 225 → square < 225 → is_some (tile_at board square) ≡ false
    → touched ≡ touches board square → ((square ≡ centre) × HasNoTile board → ⊥) → (touched ≡ true) ↔ IsAnchor board square
anchor_reported board square touched size on free reported later = (
  λ t. anchor_from board square on (none_from_false (tile_at board square) free) (inl (sym reported ∙ t)),
  λ anchor.
      reported
      ∙ ⊎_elim
      (λ (t : touches board square ≡ true). t)
      (λ (c : (square ≡ centre) × HasNoTile board). absurd (later c))
      (anchor_parts board square size anchor),
)
