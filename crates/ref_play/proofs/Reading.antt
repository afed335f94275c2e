-- The text of a placement on a run in which it lies, read again, gives the placement.
use Rattle.std.proofs.Common.{◌≡◌, ℕ, ◌+◌, ◌-◌, ◌<◌, ◌≤◌, ◌==◌, true, false, nat_lt, List, [], ◌∷◌, map, length, refl, sym, ap, ◌∙◌, subst, arith, ◌⊎◌, inl, inr, ⊎_elim, Option, Some, None}
use Rattle.std.specs.Prelude.{Contains, IsTrue}
use Rattle.std.specs.List.{list_all, flat_map, zip, range_with_len}
use Rattle.std.proofs.lemmas.List.FromFn.{length-map-range_with_len}
use Rattle.std.proofs.lemmas.List.Folds.{flat_map-map}
use Rattle.std.proofs.lemmas.Bool.{cases_Bool, and_parts, or_from, ltb-true, eqb-true, eq-eqb, ne_eqb}
use denote.Struct.Props.{props}
use Rattle.ref_tiles.specs.declared.tiles.Tile.{Tile}
use Rattle.ref_tiles.specs.declared.kinds.Kind.{Kind}
use Rattle.ref_tiles.specs.declared.kinds.Kind.TheVariants as kind
use Rattle.ref_tiles.specs.declared.letters.Letter.{Letter}
use Rattle.ref_tiles.specs.declared.symbols.Symbol.{Symbol}
use Rattle.ref_tiles.specs.declared.symbols.Symbol.TheVariants as symbol
use Rattle.ref_tiles.specs.Tiles.{can_show}
use Rattle.ref_tiles.specs.Faces.{can_show_itself, letter_tile}
use Rattle.ref_tiles.proofs.LetterLemmas.{same_letter}
use Rattle.ref_board.specs.declared.directions.Dir.{Dir}
use Rattle.ref_board.specs.declared.directions.Dir.TheVariants.{Across, Down}
use Rattle.ref_board.specs.Lines.{line_of, place_of, square_at}
use Rattle.ref_board.specs.Cells.{tile_at}
use Rattle.ref_play.specs.declared.placed.Placed.{Placed}
use Rattle.ref_play.specs.declared.runs.Run.{Run}
use Rattle.ref_play.specs.Placements.{are_rising, with_tiles, covers}
use Rattle.ref_play.specs.Formed.{along, run_of}
use Rattle.ref_play.specs.Texts.{text_cells, tile_of, placed_on, new_tiles, placement_of}
use Rattle.ref_play.specs.Directions.{LiesIn}
use Rattle.ref_play.specs.Notations.{symbol_by, symbol_for, tile_in, text_on}
use Rattle.ref_play.proofs.RangeLaws.{Contains-here, Contains-there, Contains-cases, list_all-in}
use Rattle.ref_play.proofs.LineLaws.{place_of-square_at, square_at-of, place_rises}
use Rattle.ref_play.proofs.FormedRuns.{KeysRise, none_contained, join_keys}

-- a square of a run, by its place on the line
pub along_at : (d : Dir) (line first k : ℕ) → along d (square_at d line first) k ≡ square_at d line (first + k)
along_at Across line first k = omega arith
along_at Down line first k = omega arith

-- the tile that a placement puts on a square: none if it does not cover the square, otherwise that of the square
pub tile_in-cases : (ps : List Placed) (square : ℕ) → ((tile_in ps square ≡ None) × (covers ps square ≡ false))
    ⊎ ((q : Placed) × Contains ps q × (q.square ≡ square) × (tile_in ps square ≡ Some q.tile))
tile_in-cases [] square = inl (refl, refl)
tile_in-cases (p ∷ ps) square =
    ⊎_elim
    (λ (e : (p.square == square) ≡ true). inr (p, Contains-here p ps, eqb-true p.square square e, rw e refl))
    (λ (e : (p.square == square) ≡ false).
    ⊎_elim
    (λ (none : (tile_in ps square ≡ None) × (covers ps square ≡ false)). inl (rw e none.0, or_from (p.square == square) (covers ps square) e none.1))
    (λ (some : (q : Placed) × Contains ps q × (q.square ≡ square) × (tile_in ps square ≡ Some q.tile)).
    inr (some.0, Contains-there p ps some.0 some.1, some.2, rw e some.3))
    (tile_in-cases ps square))
    (cases_Bool (p.square == square))

pub tile_in-there : (ps : List Placed) (q : Placed) → are_rising ps ≡ true → Contains ps q → tile_in ps q.square ≡ Some q.tile
tile_in-there [] q rising c = absurd (none_contained q c)
tile_in-there (p ∷ ps) q rising c =
    let parts = and_parts (list_all (λ (r : Placed). nat_lt p.square r.square) ps) (are_rising ps) rising in
    ⊎_elim
    (λ (s : p ≡ q).
    let here : (p.square == q.square) ≡ true = eq-eqb p.square q.square (ap (λ (r : Placed). r.square) s) in
    rw here (ap (λ (r : Placed). Some r.tile) s))
    (λ (s : Contains ps q).
    let less = ltb-true p.square q.square (list_all-in (λ (r : Placed). nat_lt p.square r.square) ps q parts.0 s) in
    let other : (p.square == q.square) ≡ false = ne_eqb p.square q.square (λ e. omega arith) in
    rw other (tile_in-there ps q parts.1 s))
    (Contains-cases p ps q c)

-- the symbol of a tile, on an empty square, puts that tile there
shown_letter : (l shown : Letter) (proper : IsTrue (can_show (kind.Letter l) shown)) → l ≡ shown
    → letter_tile shown ≡ (let t : Tile = record { kind = kind.Letter l; shown = shown; proper = proper } in t)
shown_letter l shown proper e =
    let irrelevant : IsProp (IsTrue (can_show (kind.Letter shown) shown)) = hlevel props in
    subst (λ (m : Letter). (q : IsTrue (can_show (kind.Letter m) shown)) → letter_tile shown ≡ (let t : Tile = record { kind = kind.Letter m; shown = shown; proper = q } in t)) (sym e)
    (λ q. ap (λ (r : IsTrue (can_show (kind.Letter shown) shown)). let t : Tile = record { kind = kind.Letter shown; shown = shown; proper = r } in t) (irrelevant (can_show_itself shown) q))
    proper

symbol_tile : (k : Kind) (shown : Letter) (proper : IsTrue (can_show k shown)) → tile_of None (symbol_by k shown) ≡ Some (record { kind = k; shown = shown; proper = proper })
symbol_tile (kind.Letter l) shown proper = ap Some (shown_letter l shown proper (same_letter l shown (eqb-true l.index shown.index proper)))
symbol_tile kind.Blank shown proper =
    let irrelevant : IsProp (IsTrue true) = hlevel props in
    ap (λ (r : IsTrue true). let t : Tile = record { kind = kind.Blank; shown = shown; proper = r } in Some t) (irrelevant refl proper)

pub tile_of_symbol : (tile : Tile) → tile_of None (symbol_for (Some tile)) ≡ Some tile
tile_of_symbol tile = symbol_tile tile.kind tile.shown tile.proper

-- a dot puts none
dot_puts_none : (o : Option Tile) → tile_of o symbol.Dot ≡ None
dot_puts_none None = refl
dot_puts_none (Some tile) = refl

-- the cells of the text of a placement
zip_maps : {A B : Type 0} (f : ℕ → A) (g : ℕ → B) (ks : List ℕ) → zip (map f ks) (map g ks) ≡ map (λ k. (f k, g k)) ks
zip_maps f g [] = refl
zip_maps f g (k ∷ ks) = ap (λ rest. (f k, g k) ∷ rest) (zip_maps f g ks)

abbrev pub cell_on : List Placed → Run → ℕ → ℕ × Symbol
cell_on ps run k = (along run.dir run.start k, symbol_for (tile_in ps (along run.dir run.start k)))

pub length-text_on : (ps : List Placed) (run : Run) → length (text_on ps run) ≡ run.len
length-text_on ps run = length-map-range_with_len (λ k. symbol_for (tile_in ps (along run.dir run.start k))) 0 run.len

pub cells_on : (ps : List Placed) (run : Run) → text_cells run.dir run.start (text_on ps run) ≡ map (cell_on ps run) (range_with_len 0 run.len)
unfolding text_cells
cells_on ps run =
    ap (λ (n : ℕ). zip (map (along run.dir run.start) (range_with_len 0 n)) (text_on ps run)) (length-text_on ps run)
    ∙ zip_maps (along run.dir run.start) (λ k. symbol_for (tile_in ps (along run.dir run.start k))) (range_with_len 0 run.len)

-- along one line the places of a rising placement rise
pub places_rise : (d : Dir) (line first : ℕ) (ps : List Placed) → ((q : Placed) → Contains ps q → line_of d q.square ≡ line)
    → ((q : Placed) → Contains ps q → first ≤ place_of d q.square) → are_rising ps ≡ true → KeysRise (λ q. place_of d q.square - first) ps
places_rise d line first [] in_line low rising = tt
places_rise d line first (p ∷ ps) in_line low rising =
    let parts = and_parts (list_all (λ (q : Placed). nat_lt p.square q.square) ps) (are_rising ps) rising in (
      λ q c.
          let less = ltb-true p.square q.square (list_all-in (λ (r : Placed). nat_lt p.square r.square) ps q parts.0 c) in
          let place_less = place_rises d p.square q.square (in_line p (Contains-here p ps) ∙ sym (in_line q (Contains-there p ps q c))) less in
          let from = low p (Contains-here p ps) in
          omega arith,
      places_rise d line first ps (λ q c. in_line q (Contains-there p ps q c)) (λ q c. low q (Contains-there p ps q c)) parts.1,
    )

pub join_itself : {X : Type 0} (xs : List X) → flat_map (λ x. x ∷ []) xs ≡ xs
join_itself [] = refl
join_itself (x ∷ xs) = ap (λ rest. x ∷ rest) (join_itself xs)

-- the text of a placement names it
pub read_back : (d : Dir) (board : List (Option Tile)) (ps : List Placed) (line first len : ℕ) → line < 15 → LiesIn d (with_tiles board ps) ps line first len
    → are_rising ps ≡ true → ((q : Placed) → Contains ps q → tile_at board q.square ≡ None)
    → placement_of board d (square_at d line first) (text_on ps (run_of d line (first, len))) ≡ ps
unfolding placement_of
read_back d board ps line first len below lies rising free =
    let run : Run = run_of d line (first, len) in
    let start = square_at d line first in
    let key : Placed → ℕ = λ q. place_of d q.square - first in
    let inside = lies.whole.inside in
    let named : ℕ → List Placed = λ square. placed_on square (tile_of (tile_at board square) (symbol_for (tile_in ps square))) in
    let at_tile : (q : Placed) → Contains ps q → named (along d start (key q)) ≡ q ∷ [] =
    λ q c.
    let low = lies.low q c in
    let place_is : first + (place_of d q.square - first) ≡ place_of d q.square = omega arith in
    let square_is : along d start (key q) ≡ q.square =
    along_at d line first (key q) ∙ ap (square_at d line) place_is ∙ ap (λ (l : ℕ). square_at d l (place_of d q.square)) (sym (lies.lines q c)) ∙ square_at-of d q.square in
    ap named square_is
    ∙ ap (λ (o : Option Tile). placed_on q.square (tile_of o (symbol_for (tile_in ps q.square)))) (free q c)
    ∙ ap (λ (o : Option Tile). placed_on q.square (tile_of None (symbol_for o))) (tile_in-there ps q rising c)
    ∙ ap (placed_on q.square) (tile_of_symbol q.tile) in
    let at_dot : (k : ℕ) → 0 ≤ k → k < 0 + len → ((q : Placed) → Contains ps q → key q ≡ k → ⊥) → named (along d start k) ≡ [] =
    λ k low high none.
    let square = along d start k in
    ⊎_elim
    (λ (empty : (tile_in ps square ≡ None) × (covers ps square ≡ false)).
    ap (λ (o : Option Tile). placed_on square (tile_of (tile_at board square) (symbol_for o))) empty.0 ∙ ap (placed_on square) (dot_puts_none (tile_at board square)))
    (λ (some : (q : Placed) × Contains ps q × (q.square ≡ square) × (tile_in ps square ≡ Some q.tile)).
    let place_is : place_of d some.0.square ≡ first + k = ap (place_of d) (some.2 ∙ along_at d line first k) ∙ place_of-square_at d line (first + k) below (omega arith) in
    absurd (none some.0 some.1 (omega arith)))
    (tile_in-cases ps square) in
    ap (flat_map (new_tiles board)) (cells_on ps run)
    ∙ flat_map-map (new_tiles board) (cell_on ps run) (range_with_len 0 len)
    ∙ join_keys (λ k. named (along d start k)) (λ q. q ∷ []) key 0 len ps
    (λ q c. omega arith)
    (λ q c. let low = lies.low q c in let high = lies.high q c in omega arith)
    (places_rise d line first ps lies.lines lies.low rising) at_tile at_dot
    ∙ join_itself ps
