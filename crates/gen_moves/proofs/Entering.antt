-- The entries of a line and placements on it: the tiles of entries, and the entries of tiles.
use Rattle.std.proofs.Common.{◌≡◌, ℕ, zero, suc, ◌+◌, ◌-◌, ◌*◌, ◌%◌, ◌<◌, ◌≤◌, ◌==◌, Bool, true, false, nat_lt, List, [], ◌∷◌, ◌++◌, length, get_or, refl, sym, ap, ◌∙◌, subst, arith, ◌⊎◌, ⊎_elim, Option, Some, None}
use Rattle.std.specs.Prelude.{Contains}
use Rattle.std.specs.List.{list_all, flat_map, range_with_len}
use Rattle.std.proofs.lemmas.List.{length-set, get_or-set_same, get_or-set_other}
use Rattle.std.proofs.lemmas.List.Elements.{Contains-append_cases, Contains-append_left, Contains-append_right}
use Rattle.std.proofs.lemmas.Bool.{cases_Bool, cases_eq, cases_order, and_parts, and_from, ltb-true, lt-ltb, eqb-true, eqb-false, eq-eqb, ne_eqb}
use Rattle.ref_tiles.specs.declared.tiles.Tile.{Tile}
use Rattle.ref_tiles.specs.declared.kinds.Kind.{Kind}
use Rattle.ref_tiles.specs.declared.kinds.Kind.TheVariants as kind
use Rattle.ref_tiles.specs.declared.letters.Letter.{Letter}
use Rattle.ref_tiles.specs.Letters.{letter_at}
use Rattle.ref_tiles.proofs.LetterLemmas.{letter_at_letter}
use Rattle.ref_board.specs.declared.directions.Dir.{Dir}
use Rattle.ref_board.specs.Lines.{line_of, place_of, square_at}
use Rattle.ref_board.specs.Cells.{tile_at, with_tile}
use Rattle.ref_play.specs.declared.placed.Placed.{Placed}
use Rattle.ref_play.specs.Placements.{are_rising, are_in_line, with_tiles}
use Rattle.ref_play.specs.Texts.{tile_of, placed_on}
use Rattle.ref_play.specs.Notations.{symbol_by, tile_in}
use Rattle.ref_play.proofs.RangeLaws.{Contains-here, Contains-there, Contains-cases, list_all-in}
use Rattle.ref_play.proofs.LineLaws.{line_of-square_at, place_of-square_at, square_at-of, line_below, place_below, square_at_rises}
use Rattle.ref_play.proofs.FormedRuns.{none_contained, join_keys}
use Rattle.ref_play.proofs.Reading.{tile_in-cases, tile_in-there, tile_of_symbol, places_rise, join_itself}
use Rattle.gen_line.specs.Entries.{letter_of_entry, is_blank_entry}
use Rattle.gen_moves.specs.LineTiles.{faced, tile_of_entry, line_tiles, new_tile, blank_part, entry_of}
use Rattle.gen_moves.proofs.Lists.{list_all-each}

-- ---- the entry of a tile is that of no other
pub tile_by : (e : ℕ) (b : Bool) (l : Letter) → (e ≡ 0 → ⊥) → is_blank_entry e ≡ b → letter_of_entry e ≡ l.index → tile_of_entry e ≡ Some (faced b l)
tile_by e b l some blank letter =
    let here : (e == 0) ≡ false = ne_eqb e 0 some in
    let at : letter_at (letter_of_entry e) ≡ Some l = ap letter_at letter ∙ letter_at_letter l in
    rw here (rw at (ap (λ (c : Bool). Some (faced c l)) blank))

tile_again_by : (k : Kind) (l : Letter) → tile_of_entry (1 + 2 * l.index + blank_part k) ≡ tile_of None (symbol_by k l)
tile_again_by (kind.Letter m) l =
    tile_by (1 + 2 * l.index + 0) false l (λ e. omega arith) (ne_eqb ((1 + 2 * l.index + 0 - 1) % 2) 1 (λ e. omega arith)) (omega arith)
tile_again_by kind.Blank l =
    tile_by (1 + 2 * l.index + 1) true l (λ e. omega arith) (eq-eqb ((1 + 2 * l.index + 1 - 1) % 2) 1 (omega arith)) (omega arith)

pub tile_again : (o : Option Tile) → tile_of_entry (entry_of o) ≡ o
tile_again None = refl
tile_again (Some t) = tile_again_by t.kind t.shown ∙ tile_of_symbol t

-- the tile of an entry is that of its place
tile_there : (y : List ℕ) (i : ℕ) → new_tile (line_tiles y) i ≡ tile_of_entry (get_or y i 0)
unfolding line_tiles
tile_there [] i = refl
tile_there (e ∷ y) zero = refl
tile_there (e ∷ y) (suc i) = tile_there y i

pub tiles_there : (y : List ℕ) → new_tile (line_tiles y) ≡ (λ (i : ℕ). tile_of_entry (get_or y i 0))
tiles_there y = λ j i. tile_there y i j

-- ---- the tiles that a function of places puts on a line
abbrev pub put_from : Dir → ℕ → (ℕ → Option Tile) → ℕ → ℕ → List Placed
put_from d line f a n = flat_map (λ i. placed_on (square_at d line i) (f i)) (range_with_len a n)

-- where one of these tiles is
pub record StandsAt (d : Dir) (line : ℕ) (f : ℕ → Option Tile) (a n : ℕ) (q : Placed) : Type 0 where
  pub place : ℕ
  pub low : a ≤ place
  pub high : place < a + n
  pub square : q.square ≡ square_at d line place
  pub tile : f place ≡ Some q.tile

placed_is : (square : ℕ) (o : Option Tile) (q : Placed) → Contains (placed_on square o) q → (q.square ≡ square) × (o ≡ Some q.tile)
placed_is square None q c = absurd (none_contained q c)
placed_is square (Some t) q c =
    ⊎_elim
    (λ (s : record { square = square; tile = t } ≡ q). (sym (ap (λ (r : Placed). r.square) s), ap (λ (r : Placed). Some r.tile) s))
    (λ (s : Contains [] q). absurd (none_contained q s))
    (Contains-cases (record { square = square; tile = t }) [] q c)

pub stands_at : (d : Dir) (line : ℕ) (f : ℕ → Option Tile) (a n : ℕ) (q : Placed) → Contains (put_from d line f a n) q → StandsAt d line f a n q
stands_at d line f a zero q c = absurd (none_contained q c)
stands_at d line f a (suc n) q c =
    ⊎_elim
    (λ (s : Contains (placed_on (square_at d line a) (f a)) q).
    let is = placed_is (square_at d line a) (f a) q s in
    record { place = a; low = omega arith; high = omega arith; square = is.0; tile = is.1 })
    (λ (s : Contains (put_from d line f (a + 1) n) q).
    let rest = stands_at d line f (a + 1) n q s in
    record { place = rest.place; low = omega arith; high = omega arith; square = rest.square; tile = rest.tile })
    (Contains-append_cases (placed_on (square_at d line a) (f a)) (put_from d line f (a + 1) n) q c)

placed_there : (square : ℕ) (o : Option Tile) (t : Tile) → o ≡ Some t → Contains (placed_on square o) (record { square = square; tile = t })
placed_there square o t e =
    let p : Placed = record { square = square; tile = t } in
    subst (λ (u : Option Tile). Contains (placed_on square u) p) (sym e) (Contains-here p [])

-- a tile that the function puts down is there
pub put_there : (d : Dir) (line : ℕ) (f : ℕ → Option Tile) (a n j : ℕ) (t : Tile) → a ≤ j → j < a + n → f j ≡ Some t
    → Contains (put_from d line f a n) (record { square = square_at d line j; tile = t })
put_there d line f a zero j t low high e = absurd (omega arith)
put_there d line f a (suc n) j t low high e =
    let front = placed_on (square_at d line a) (f a) in
    let rest = put_from d line f (a + 1) n in
    ⊎_elim
    (λ (s : a ≡ j).
    subst (λ (k : ℕ). Contains (front ++ rest) (record { square = square_at d line k; tile = t })) s
    (Contains-append_left front rest (record { square = square_at d line a; tile = t }) (placed_there (square_at d line a) (f a) t (ap f s ∙ e))))
    (λ (ne : a ≡ j → ⊥).
    Contains-append_right front rest (record { square = square_at d line j; tile = t }) (put_there d line f (a + 1) n j t (omega arith) (omega arith) e))
    (cases_eq a j)

-- ---- they rise, and lie on the line
rising_after : (square : ℕ) (o : Option Tile) (rest : List Placed) → ((q : Placed) → Contains rest q → square < q.square) → are_rising rest ≡ true → are_rising (placed_on square o ++ rest) ≡ true
rising_after square None rest above rising = rising
rising_after square (Some t) rest above rising =
    and_from (list_all (λ (q : Placed). nat_lt square q.square) rest) (are_rising rest)
    (list_all-each (λ (q : Placed). nat_lt square q.square) rest (λ q c. lt-ltb square q.square (above q c))) rising

pub put-rising : (d : Dir) (line : ℕ) (f : ℕ → Option Tile) (a n : ℕ) → are_rising (put_from d line f a n) ≡ true
put-rising d line f a zero = refl
put-rising d line f a (suc n) =
    rising_after (square_at d line a) (f a) (put_from d line f (a + 1) n)
    (λ q c.
    let at = stands_at d line f (a + 1) n q c in
    let square_is = at.square in
    let low = at.low in
    let above = square_at_rises d line a at.place (omega arith) in
    omega arith)
    (put-rising d line f (a + 1) n)

pub in_line_from : (d : Dir) (line : ℕ) (ps : List Placed) → ((q : Placed) → Contains ps q → line_of d q.square ≡ line) → are_in_line d ps ≡ true
in_line_from d line [] h = refl
in_line_from d line (p ∷ ps) h =
    list_all-each (λ (q : Placed). line_of d q.square == line_of d p.square) ps
    (λ q c. eq-eqb (line_of d q.square) (line_of d p.square) (h q (Contains-there p ps q c) ∙ sym (h p (Contains-here p ps))))

pub put-in_line : (d : Dir) (line : ℕ) (f : ℕ → Option Tile) (a n : ℕ) → line < 15 → a + n ≤ 15 → are_in_line d (put_from d line f a n) ≡ true
put-in_line d line f a n below inside =
    in_line_from d line (put_from d line f a n)
    (λ q c.
    let at = stands_at d line f a n q c in
    let high = at.high in
    ap (line_of d) at.square ∙ line_of-square_at d line at.place below (omega arith))

-- ---- the tile that a placement puts on a square
pub tile_in-none : (ps : List Placed) (square : ℕ) → ((q : Placed) → Contains ps q → q.square ≡ square → ⊥) → tile_in ps square ≡ None
tile_in-none ps square h =
    ⊎_elim
    (λ (none : (tile_in ps square ≡ None) × _). none.0)
    (λ (some : (q : Placed) × Contains ps q × (q.square ≡ square) × (tile_in ps square ≡ Some q.tile)). absurd (h some.0 some.1 some.2))
    (tile_in-cases ps square)

-- the board with a placement: its tiles, and otherwise what was there
abbrev pub on_top : Option Tile → Option Tile → Option Tile
on_top None o = o
on_top (Some t) o = Some t

pub with-is : (ps : List Placed) (board : List (Option Tile)) (square : ℕ) → are_rising ps ≡ true → ((q : Placed) → Contains ps q → q.square < length board)
    → tile_at (with_tiles board ps) square ≡ on_top (tile_in ps square) (tile_at board square)
with-is [] board square rising on = refl
with-is (p ∷ ps) board square rising on =
    let parts = and_parts (list_all (λ (q : Placed). nat_lt p.square q.square) ps) (are_rising ps) rising in
    let next = with_tile board p.square (Some p.tile) in
    let size = length-set board p.square (Some p.tile) in
    let rest : tile_at (with_tiles next ps) square ≡ on_top (tile_in ps square) (tile_at next square) =
    with-is ps next square parts.1 (λ q c. let h = on q (Contains-there p ps q c) in omega arith) in
    ⊎_elim
    (λ (e : (p.square == square) ≡ true).
    let s : p.square ≡ square = eqb-true p.square square e in
    let none : tile_in ps square ≡ None =
    tile_in-none ps square
    (λ q c same. let less = ltb-true p.square q.square (list_all-in (λ (r : Placed). nat_lt p.square r.square) ps q parts.0 c) in omega arith) in
    let here : tile_at next square ≡ Some p.tile =
    ap (tile_at next) (sym s) ∙ get_or-set_same board p.square (Some p.tile) None (on p (Contains-here p ps)) in
    rw e (rest ∙ ap (λ (o : Option Tile). on_top o (tile_at next square)) none ∙ here))
    (λ (e : (p.square == square) ≡ false).
    let kept : tile_at next square ≡ tile_at board square =
    get_or-set_other board p.square square (Some p.tile) None (λ s. eqb-false p.square square e (sym s)) in
    rw e (rest ∙ ap (on_top (tile_in ps square)) kept))
    (cases_Bool (p.square == square))

same_place : (d : Dir) (line a b : ℕ) → square_at d line a ≡ square_at d line b → a ≡ b
same_place d line a b e =
    ⊎_elim (λ (s : a ≡ b). s)
    (λ (o : (a < b) ⊎ (b < a)). ⊎_elim
    (λ (lt : a < b). let less = square_at_rises d line a b lt in absurd (omega arith))
    (λ (lt : b < a). let less = square_at_rises d line b a lt in absurd (omega arith))
    o)
    (cases_order a b)

tile_in-put_by : (o : Option Tile) (d : Dir) (line : ℕ) (f : ℕ → Option Tile) (a n j : ℕ) → a ≤ j → j < a + n → f j ≡ o → tile_in (put_from d line f a n) (square_at d line j) ≡ o
tile_in-put_by None d line f a n j low high e =
    tile_in-none (put_from d line f a n) (square_at d line j)
    (λ q c s.
    let at = stands_at d line f a n q c in
    let same = same_place d line at.place j (sym at.square ∙ s) in
    let both : None ≡ Some q.tile = sym e ∙ ap f (sym same) ∙ at.tile in
    cc)
tile_in-put_by (Some t) d line f a n j low high e =
    tile_in-there (put_from d line f a n) (record { square = square_at d line j; tile = t }) (put-rising d line f a n) (put_there d line f a n j t low high e)

pub tile_in-put : (d : Dir) (line : ℕ) (f : ℕ → Option Tile) (a n j : ℕ) → a ≤ j → j < a + n → tile_in (put_from d line f a n) (square_at d line j) ≡ f j
tile_in-put d line f a n j low high = tile_in-put_by (f j) d line f a n j low high refl

-- ---- what a placement's entries put on its line is the placement
pub placement_again : (d : Dir) (line : ℕ) (ps : List Placed) → ((q : Placed) → Contains ps q → (q.square < 225) × (line_of d q.square ≡ line)) → are_rising ps ≡ true
    → put_from d line (λ i. tile_in ps (square_at d line i)) 0 15 ≡ ps
placement_again d line ps on rising =
    let named : ℕ → List Placed = λ i. placed_on (square_at d line i) (tile_in ps (square_at d line i)) in
    let key : Placed → ℕ = λ q. place_of d q.square - 0 in
    join_keys named (λ q. q ∷ []) key 0 15 ps
    (λ q c. omega arith)
    (λ q c. let below = place_below d q.square (on q c).0 in omega arith)
    (places_rise d line 0 ps (λ q c. (on q c).1) (λ q c. omega arith) rising)
    (λ q c.
    let key_is : place_of d q.square - 0 ≡ place_of d q.square = omega arith in
    let square_is : square_at d line (key q) ≡ q.square =
    ap (square_at d line) key_is ∙ ap (λ (l : ℕ). square_at d l (place_of d q.square)) (sym (on q c).1) ∙ square_at-of d q.square in
    ap (λ (s : ℕ). placed_on s (tile_in ps s)) square_is ∙ ap (placed_on q.square) (tile_in-there ps q rising c))
    (λ k low high none.
    ap (placed_on (square_at d line k))
    (tile_in-none ps (square_at d line k)
    (λ q c s.
    let line_in : line < 15 = (let at = on q c in let below = line_below d q.square at.0 in omega arith) in
    let place_is : place_of d q.square ≡ k = ap (place_of d) s ∙ place_of-square_at d line k line_in (omega arith) in
    none q c (omega arith))))
    ∙ join_itself ps
