-- The plays of an anchor exceed none of its bounds.
use Rattle.std.proofs.Common.{◌≡◌, ℕ, ◌+◌, ◌*◌, ◌<◌, ◌≤◌, ◌==◌, ◌||◌, ◌≤ℤ◌, pos, Bool, true, false, List, [], ◌∷◌, length, get_or, refl, sym, ap, ◌∙◌, subst, arith, ⊎_elim, not, Option, Some, None, is_some, if◌then◌else◌}
use Rattle.std.proofs.lemmas.Int.{ints}
use Rattle.ref_tiles.specs.declared.tiles.Tile.{Tile}
use Rattle.ref_tiles.specs.declared.rulebook.Rules.{Rules}
use Rattle.ref_tiles.specs.Rulebook.{points_of, premium_at, letter_factor, word_factor}
use Rattle.ref_board.specs.declared.directions.Dir.{Dir}
use Rattle.ref_play.specs.declared.placed.Placed.{Placed}
use Rattle.ref_play.specs.Scores.{score_of}
use Rattle.ref_play.specs.Directions.{is_wanted}
use Rattle.ref_play.specs.Best.{Given}
use Rattle.ref_play.specs.Crosses.{cross_runs}
use Rattle.ref_board.specs.Lines.{other_dir, square_at}
use Rattle.ref_board.specs.Cells.{tile_at}
use Rattle.ref_play.proofs.Agreeing.{whole_agree}
use Rattle.std.proofs.lemmas.Bool.{cases_Bool}
use Rattle.gen_cross.specs.declared.crosses.Cross.{Cross}
use Rattle.gen_cross.specs.Values.{value_at, IsRight}
use Rattle.gen_cross.proofs.CrossLaws.{score_of_tile}
use Rattle.gen_line.specs.declared.cells.Cell.{Cell}
use Rattle.gen_line.specs.declared.cells.Cell.TheVariants.{Old, Free}
use Rattle.gen_line.specs.Cells.{cell_at, is_anchor_cell, full_on}
use Rattle.gen_line.proofs.Tests.{owes}
use Rattle.gen_line.specs.Walk.{Every, add_all, anchor_moves, none_put}
use Rattle.gen_line.proofs.Anchors.{anchor_old, anchor_not}
use Rattle.gen_line.proofs.Reaching.{anchor_owes, anchor_reach}
use Rattle.gen_line.proofs.Sinks.{all-still}
use Rattle.gen_moves.specs.declared.places.Place.{Place}
use Rattle.gen_moves.specs.LineTiles.{tile_of_entry, line_tiles, new_tile, tiles_of}
use Rattle.gen_moves.specs.Findings.{reported}
use Rattle.gen_moves.specs.Laws.{Setting}
use Rattle.gen_moves.specs.Tallies.{is_laid, tally, LiesOn, IsTallied}
use Rattle.gen_moves.specs.Closing.{AreOpen}
use Rattle.gen_moves.proofs.Passable.{passes_open}
use Rattle.gen_moves.specs.Bounds.{rack_points, rack_ones, IsPlaceOf, ArePlaces, HasScores, ReportsUnder, IsOffer, AreOffers}
use Rattle.gen_moves.proofs.Entering.{on_top, tiles_there}
use Rattle.gen_moves.proofs.MovePlaces.{AtPlace, put_by, at_place}
use Rattle.gen_moves.proofs.Gathering.{tiles_is, line_labelled, wanted_few}
use Rattle.gen_moves.proofs.Bounding.{some_is, count_is, tally_le, score_le}

pub every-more : {X : Type 0} (P Q : X → Type 0) (xs : List X) → ((x : X) → P x → Q x) → Every P xs → Every Q xs
every-more P Q [] h all = tt
every-more P Q (x ∷ xs) h all = (h x all.0, every-more P Q xs h all.1)

-- what a move gives whose score is known not to exceed a number
reported_under : (rules : Rules) (board : List (Option Tile)) (d : Dir) (line : ℕ) (y : List ℕ) (bound : ℕ)
    → (is_wanted board d (tiles_of d line y) ≡ true → score_of rules board (tiles_of d line y) ≤ bound) → ReportsUnder rules board d line y bound
unfolding reported
reported_under rules board d line y bound le = by (is_wanted board d (tiles_of d line y)) refl
  where
    by : (b : Bool) → is_wanted board d (tiles_of d line y) ≡ b
        → Every (λ (given : Given). given.score ≤ℤ pos bound) (if b then record { dir = d; tiles = tiles_of d line y; score = pos (score_of rules board (tiles_of d line y)) } ∷ [] else [])
    by true wanted = (let h = le wanted in omega (arith, ints), tt)
    by false wanted = tt

offer : (rules : Rules) (words : List (List ℕ)) (board : List (Option Tile)) (g listed : List ℕ → Bool) (cells : Dir → ℕ → List Cell) → Setting words board g listed cells
    → (rack : List ℕ) (d : Dir) (line : ℕ) → line < 15 → (places : ℕ → Place) → ArePlaces rules d board line places → (opens : ℕ → Bool) → AreOpen (cells d line) rack opens
    → (h : ℕ) → h < 15 → (y : List ℕ) → owes g (cells d line) rack h y ≡ true
    → IsOffer rules (rack_points rules rack 27) (rack_ones rules rack 27) board d line (cells d line) places opens h y
offer rules words board g listed cells s rack d line low places are opens open_are h below y e bound holds =
    let found = anchor_reach g listed s.splits (cells d line) rack y h (line_labelled words d board line (cells d line) (s.lines d line low)) below e in
    let first = found.0 in
    let len = found.1 in
    let move = found.2 in
    let reach = found.3 in
    reported_under rules board d line y bound (λ wanted.
    let few_tiles = (wanted_few board d (tiles_of d line y) wanted).1 in
    let few : length (put_by d line y) ≤ 7 = subst (λ (qs : List Placed). length qs ≤ 7) (tiles_is d line y) few_tiles in
    let count = count_is rules words d board line (cells d line) (s.lines d line low) listed rack y first len s.reported s.long s.size low move few places are in
    let w = holds first reach.low reach.first_anchor len reach.high move.whole.inside (omega arith) (passes_open listed (cells d line) rack y first len move opens open_are) in
    let within = w.within in
    let score = score_le rules words d board line (cells d line) (s.lines d line low) listed rack y first len s.reported s.long s.size low move few places are
    (rack_points rules rack 27) (rack_ones rules rack 27) w.letter w.cross (omega arith) (omega arith) w.letters w.crosses in
    subst (λ (qs : List Placed). score_of rules board qs ≤ bound) (sym (tiles_is d line y)) (omega arith))

pub all_offers : (rules : Rules) (words : List (List ℕ)) (board : List (Option Tile)) (g listed : List ℕ → Bool) (cells : Dir → ℕ → List Cell) → Setting words board g listed cells
    → (rack : List ℕ) (d : Dir) (line : ℕ) → line < 15 → AreOffers rules (rack_points rules rack 27) (rack_ones rules rack 27) board g (cells d line) rack d line
all_offers rules words board g listed cells s rack d line low places are opens open_are h below =
    every-more (λ y. owes g (cells d line) rack h y ≡ true) (IsOffer rules (rack_points rules rack 27) (rack_ones rules rack 27) board d line (cells d line) places opens h) (anchor_moves g (cells d line) rack h)
    (λ y e. offer rules words board g listed cells s rack d line low places are opens open_are h below y e)
    (anchor_owes g (cells d line) rack h (s.lines d line low).size below)

-- ---- what the stretch of a move adds up to
free_of_none : (rules : Rules) (d : Dir) (board : List (Option Tile)) (square : ℕ) (p : Place) → IsPlaceOf rules d board square p → tile_at board square ≡ None → p.free ≡ true
free_of_none rules d board square p is none =
    ⊎_elim
    (λ (free : p.free ≡ true). free)
    (λ (taken : p.free ≡ false). absurd (some_is (tile_at board square) (is.taken taken) none))
    (cases_Bool p.free)

-- a new tile on top of another one, and of none
some_top : (o : Option Tile) (t : Tile) → is_some (on_top o (Some t)) ≡ true
some_top None t = refl
some_top (Some n) t = refl

none_top : (o : Option Tile) → is_some (on_top o None) ≡ is_some o
none_top None = refl
none_top (Some n) = refl

-- a place then has a tile exactly when it has an old or a new one
laid_by : (rules : Rules) (d : Dir) (board : List (Option Tile)) (square : ℕ) (p : Place) → IsPlaceOf rules d board square p → (new old : Option Tile) → tile_at board square ≡ old
    → is_some (on_top new old) ≡ (not p.free || is_some new)
laid_by rules d board square p is new None none =
    none_top new ∙ sym (ap (λ (b : Bool). not b || is_some new) (free_of_none rules d board square p is none))
laid_by rules d board square p is new (Some t) there =
    let taken : p.free ≡ false =
    ⊎_elim
    (λ (free : p.free ≡ true). let both : None ≡ Some t = sym (is.empty free) ∙ there in cc)
    (λ (taken : p.free ≡ false). taken)
    (cases_Bool p.free) in
    some_top new t ∙ sym (ap (λ (b : Bool). not b || is_some new) taken)

tallied : (rules : Rules) (words : List (List ℕ)) (board : List (Option Tile)) (g listed : List ℕ → Bool) (cells : Dir → ℕ → List Cell) → Setting words board g listed cells
    → (rack : List ℕ) (d : Dir) (line : ℕ) → line < 15 → (places : ℕ → Place) → ArePlaces rules d board line places → (h : ℕ) → h < 15 → (y : List ℕ)
    → owes g (cells d line) rack h y ≡ true → IsTallied rules board d line places y
tallied rules words board g listed cells s rack d line low places are h below y e =
    let is = s.lines d line low in
    let found = anchor_reach g listed s.splits (cells d line) rack y h (line_labelled words d board line (cells d line) is) below e in
    let first = found.0 in
    let len = found.1 in
    let move = found.2 in
    let new = move.anchored in
    let within = move.within new.0 new.1 new.2 in
    let at : (i : ℕ) → i < 15 → AtPlace board (square_at d line i) (cell_at (cells d line) i) (get_or y i 0) =
    λ i on. at_place words d board line (cells d line) is i (get_or y i 0) on (move.allowed i on) in
    let tiles : ℕ → Option Tile = λ i. tile_of_entry (get_or y i 0) in
    let lies : LiesOn places tiles first len =
    record {
      whole = whole_agree (full_on (cells d line) y) (is_laid places tiles)
          (λ i on. sym (at i on).filled ∙ laid_by rules d board (square_at d line i) (places i) (are i on) (tiles i) (tile_at board (square_at d line i)) refl) first len move.whole;
      within = λ i on some. move.within i on (λ z. some (ap tile_of_entry z));
      some = (new.0, within.0, within.1, free_of_none rules d board (square_at d line new.0) (places new.0) (are new.0 new.1) ((at new.0 new.1).empty new.2));
    } in
    record {
      first = first;
      len = len;
      lies = subst (λ (f : ℕ → Option Tile). LiesOn places f first len) (sym (tiles_there y)) lies;
      under = reported_under rules board d line y (tally rules places (new_tile (line_tiles y)) first len) (λ wanted.
          let few_tiles = (wanted_few board d (tiles_of d line y) wanted).1 in
          let few : length (put_by d line y) ≤ 7 = subst (λ (qs : List Placed). length qs ≤ 7) (tiles_is d line y) few_tiles in
          subst (λ (qs : List Placed). score_of rules board qs ≤ tally rules places (new_tile (line_tiles y)) first len) (sym (tiles_is d line y))
          (subst (λ (f : ℕ → Option Tile). score_of rules board (put_by d line y) ≤ tally rules places f first len) (sym (tiles_there y))
          (tally_le rules words d board line (cells d line) is listed rack y first len s.reported s.long s.size low move few places are)));
    }

pub all_tallied : (rules : Rules) (words : List (List ℕ)) (board : List (Option Tile)) (g listed : List ℕ → Bool) (cells : Dir → ℕ → List Cell) → Setting words board g listed cells
    → (rack : List ℕ) (d : Dir) (line : ℕ) → line < 15 → (places : ℕ → Place) → ArePlaces rules d board line places → (h : ℕ) → h < 15
    → Every (IsTallied rules board d line places) (anchor_moves g (cells d line) rack h)
all_tallied rules words board g listed cells s rack d line low places are h below =
    every-more (λ y. owes g (cells d line) rack h y ≡ true) (IsTallied rules board d line places) (anchor_moves g (cells d line) rack h)
    (λ y e. tallied rules words board g listed cells s rack d line low places are h below y e)
    (anchor_owes g (cells d line) rack h (s.lines d line low).size below)

-- the side scores of cross-sets that are right
pub right_scores : (rules : Rules) (words : List (List ℕ)) (board : List (Option Tile)) (cross : Cross) → length board ≡ 225 → IsRight rules words board cross → HasScores rules board cross
right_scores rules words board cross size right d square t on free =
    let e = score_of_tile rules words board cross size right d square t on free in
    let le = none_or (length (cross_runs (other_dir d) board square t) == 0) (((value_at cross d square).side + points_of rules t.kind * letter_factor (premium_at rules square)) * word_factor (premium_at rules square)) in
    omega arith
  where
    none_or : (b : Bool) (n : ℕ) → (if b then 0 else n) ≤ n
    none_or true n = omega arith
    none_or false n = omega arith

pub every-both : {X : Type 0} (P Q : X → Type 0) (xs : List X) → Every P xs → Every Q xs → Every (λ x. P x × Q x) xs
every-both P Q [] all also = tt
every-both P Q (x ∷ xs) all also = ((all.0, also.0), every-both P Q xs all.1 also.1)

-- a move whose play does not exceed a number does not change a sink that does not need such a play
pub passed_over : (rules : Rules) (board : List (Option Tile)) (d : Dir) (line : ℕ) (y : List ℕ) (bound : ℕ) (W : Given → Type 0) (add : List Given → Given → List Given) (items : List Given)
    → ((given : Given) → W given → given.score ≤ℤ pos bound → add items given ≡ items) → Every W (reported rules board d line y) → ReportsUnder rules board d line y bound
    → add_all add items (reported rules board d line y) ≡ items
passed_over rules board d line y bound W add items still along under =
    sym (all-still add items (λ (given : Given). W given × (given.score ≤ℤ pos bound)) (reported rules board d line y) (λ given known. still given known.0 known.1)
    (every-both W (λ (given : Given). given.score ≤ℤ pos bound) (reported rules board d line y) along under))

-- a place that is not an anchor has no moves
pub no_offers : (P : List ℕ → Type 0) (g : List ℕ → Bool) (cells : List Cell) (rack : List ℕ) (h : ℕ) → is_anchor_cell (cell_at cells h) ≡ false → Every P (anchor_moves g cells rack h)
no_offers P g cells rack h none = by (cell_at cells h) refl none
  where
    by : (c : Cell) → cell_at cells h ≡ c → is_anchor_cell c ≡ false → Every P (anchor_moves g cells rack h)
    by (Old a) is not_one = subst (Every P) (sym (anchor_old g cells (none_put rack) h a is)) tt
    by (Free m) is not_one = subst (Every P) (sym (anchor_not g cells (none_put rack) h m is not_one)) tt
