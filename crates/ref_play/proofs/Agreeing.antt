-- The runs of a line and their words depend only on what lies on the line.
use Rattle.std.proofs.Common.{◌≡◌, ℕ, zero, suc, ◌+◌, ◌-◌, ◌<◌, ◌≤◌, Bool, true, ◌==◌, List, [], ◌∷◌, map, length, sum_by, refl, sym, ap, ◌∙◌, arith, ⊎_elim, Option, Some, None, is_some}
use Rattle.std.specs.Prelude.{All, filter}
use Rattle.std.specs.List.{range_with_len}
use Rattle.std.proofs.lemmas.List.{get_or-set_same, get_or-set_other}
use Rattle.std.proofs.lemmas.List.Elements.{All-nil, All-cons, All-head, All-tail, All-map}
use Rattle.std.proofs.lemmas.List.Sums.{sum_by-cons}
use Rattle.std.proofs.lemmas.Bool.{cases_eq, eqb-true}
use Rattle.ref_tiles.specs.declared.tiles.Tile.{Tile}
use Rattle.ref_board.specs.declared.directions.Dir.{Dir}
use Rattle.ref_board.specs.Lines.{line_of, place_of, square_at}
use Rattle.ref_board.specs.Cells.{tile_at, with_tile, occupied_on}
use Rattle.ref_board.specs.Runs.{IsWhole}
use Rattle.ref_play.specs.declared.runs.Run.{Run}
use Rattle.ref_play.specs.Formed.{along, is_formed, stretches_on, run_of, runs_through}
use Rattle.ref_play.specs.Words.{capital_shown, letters_of}
use Rattle.ref_play.specs.Crosses.{cross_words}
use Rattle.ref_play.proofs.RangeLaws.{All-filter_range, All-flat_map_range}
use Rattle.ref_play.proofs.LineLaws.{is_formed-parts, is_formed-from}
use Rattle.ref_play.proofs.FormedRuns.{same_test, stretches_same}
use Rattle.ref_play.proofs.Reading.{along_at}

-- two boards have the same tiles on a line
abbrev pub AgreeOn : Dir → ℕ → List (Option Tile) → List (Option Tile) → Type 0
AgreeOn d line a b = (place : ℕ) → place < 15 → tile_at a (square_at d line place) ≡ tile_at b (square_at d line place)

-- a map and a sum depend only on the function's values at the elements
pub map_agree : {X Y : Type 0} (P : X → Type 0) (f g : X → Y) → ((x : X) → P x → f x ≡ g x) → (xs : List X) → All P xs → map f xs ≡ map g xs
map_agree P f g h [] all = refl
map_agree P f g h (x ∷ xs) all =
    ap (λ y. y ∷ map f xs) (h x (All-head P x xs all)) ∙ ap (λ ys. g x ∷ ys) (map_agree P f g h xs (All-tail P x xs all))

pub sum_agree : {X : Type 0} (P : X → Type 0) (f g : X → ℕ) → ((x : X) → P x → f x ≡ g x) → (xs : List X) → All P xs → sum_by f xs ≡ sum_by g xs
sum_agree P f g h [] all = refl
sum_agree P f g h (x ∷ xs) all =
    let a = sum_by-cons f x xs in
    let b = sum_by-cons g x xs in
    let here = h x (All-head P x xs all) in
    let rest = sum_agree P f g h xs (All-tail P x xs all) in
    omega arith

pub All-range : (P : ℕ → Type 0) (a n : ℕ) → ((k : ℕ) → a ≤ k → k < a + n → P k) → All P (range_with_len a n)
All-range P a zero h = All-nil P
All-range P a (suc n) h =
    All-cons P a (range_with_len (a + 1) n) (h a (omega arith) (omega arith)) (All-range P (a + 1) n (λ k low high. h k (omega arith) (omega arith)))

-- a whole stretch of a line is one of each line that has tiles in the same places
pub whole_agree : (f g : ℕ → Bool) → ((place : ℕ) → place < 15 → f place ≡ g place) → (first len : ℕ) → IsWhole f first len → IsWhole g first len
whole_agree f g same first len w =
    let inside = w.inside in
    record {
      inside = inside;
      filled = λ k low high. sym (same k (omega arith)) ∙ w.filled k low high;
      before = λ some. sym (same (first - 1) (omega arith)) ∙ w.before some;
      after = λ more. sym (same (first + len) more) ∙ w.after more;
    }

-- the run through a square depends only on the places of its line that have a tile
runs_same : (e : Dir) (a b : List (Option Tile)) (square : ℕ)
    → ((place : ℕ) → place < 15 → occupied_on e a (line_of e square) place ≡ occupied_on e b (line_of e square) place) → runs_through e a square ≡ runs_through e b square
runs_same e a b square same =
    let line = line_of e square in
    let fresh : ℕ → Bool = λ place. place == place_of e square in
    let onto : (f g : ℕ → Bool) → ((place : ℕ) → place < 15 → f place ≡ g place) → (k l : ℕ) → is_formed f fresh k l ≡ true → is_formed g fresh k l ≡ true =
    λ f g agree k l t.
    let parts = is_formed-parts f fresh k l t in
    is_formed-from g fresh k l parts.1.0 (whole_agree f g agree k l parts.0) parts.1.1 parts.1.2 parts.1.3 in
    let f = occupied_on e a line in
    let g = occupied_on e b line in
    ap (map (run_of e line)) (stretches_same f g fresh fresh
    (λ k l. same_test (is_formed f fresh k l) (is_formed g fresh k l) (onto f g same k l) (onto g f (λ place below. sym (same place below)) k l)))

-- each run through a square is a stretch of its line that holds it
pub record IsStretch (e : Dir) (board : List (Option Tile)) (square : ℕ) (run : Run) : Type 0 where
  pub first : ℕ
  pub is : run ≡ run_of e (line_of e square) (first, run.len)
  pub whole : IsWhole (occupied_on e board (line_of e square)) first run.len
  pub long : 2 ≤ run.len
  pub low : first ≤ place_of e square
  pub high : place_of e square < first + run.len

pub runs_are : (e : Dir) (board : List (Option Tile)) (square : ℕ) → All (IsStretch e board square) (runs_through e board square)
unfolding stretches_on
runs_are e board square =
    let line = line_of e square in
    let fresh : ℕ → Bool = λ place. place == place_of e square in
    let formed = is_formed (occupied_on e board line) fresh in
    let P : ℕ × ℕ → Type 0 = λ s. IsStretch e board square (run_of e line s) in
    All-map (IsStretch e board square) (run_of e line) (stretches_on (occupied_on e board line) fresh)
    (All-flat_map_range P (λ k. map (λ l. (k, l)) (filter (formed k) (range_with_len 2 14))) 0 15
    (λ k b c. All-map P (λ l. (k, l)) (filter (formed k) (range_with_len 2 14))
    (All-filter_range (λ l. P (k, l)) (formed k) 2 14
    (λ l low high t.
    let parts = is_formed-parts (occupied_on e board line) fresh k l t in
    let here = eqb-true parts.1.0 (place_of e square) parts.1.3 in
    let from = parts.1.1 in
    let upto = parts.1.2 in
    record { first = k; is = refl; whole = parts.0; long = low; low = omega arith; high = omega arith }))))

-- each square of such a run is a place of the line
pub run_place : (e : Dir) (board : List (Option Tile)) (square : ℕ) (run : Run) (s : IsStretch e board square run) (k : ℕ) → k < run.len
    → (s.first + k < 15) × (along run.dir run.start k ≡ square_at e (line_of e square) (s.first + k))
run_place e board square run s k below =
    let inside = s.whole.inside in
    (omega arith, ap (λ (r : Run). along r.dir r.start k) s.is ∙ along_at e (line_of e square) s.first k)

-- two boards show the same letters on a line
abbrev pub ShowAlike : Dir → ℕ → List (Option Tile) → List (Option Tile) → Type 0
ShowAlike d line a b = (place : ℕ) → place < 15 → capital_shown (tile_at a (square_at d line place)) ≡ capital_shown (tile_at b (square_at d line place))

shown_some : (a b : Option Tile) → capital_shown a ≡ capital_shown b → is_some a ≡ is_some b
shown_some None None e = refl
shown_some None (Some t) e = absurd (omega arith)
shown_some (Some t) None e = absurd (omega arith)
shown_some (Some t) (Some u) e = refl

-- the run through a square and its word depend only on the letters shown on its line
pub runs_alike : (e : Dir) (a b : List (Option Tile)) (square : ℕ) → ShowAlike e (line_of e square) a b → runs_through e a square ≡ runs_through e b square
runs_alike e a b square same =
    let at : ℕ → ℕ = square_at e (line_of e square) in
    runs_same e a b square (λ place below. shown_some (tile_at a (at place)) (tile_at b (at place)) (same place below))

letters_on : (e : Dir) (a b board : List (Option Tile)) (square : ℕ) → ShowAlike e (line_of e square) a b → (run : Run) → IsStretch e board square run → letters_of a run ≡ letters_of b run
unfolding letters_of
letters_on e a b board square same run s =
    map_agree (λ k. k < run.len) (λ k. capital_shown (tile_at a (along run.dir run.start k))) (λ k. capital_shown (tile_at b (along run.dir run.start k)))
    (λ k below.
    let at = run_place e board square run s k below in
    ap (λ n. capital_shown (tile_at a n)) at.1 ∙ same (s.first + k) at.0 ∙ sym (ap (λ n. capital_shown (tile_at b n)) at.1))
    (range_with_len 0 run.len)
    (All-range (λ k. k < run.len) 0 run.len (λ k low high. omega arith))

pub letters_alike : (e : Dir) (a b : List (Option Tile)) (square : ℕ) → ShowAlike e (line_of e square) a b
    → map (letters_of a) (runs_through e a square) ≡ map (letters_of b) (runs_through e b square)
letters_alike e a b square same =
    map_agree (IsStretch e a square) (letters_of a) (letters_of b) (λ run s. letters_on e a b a square same run s) (runs_through e a square) (runs_are e a square)
    ∙ ap (map (letters_of b)) (runs_alike e a b square same)

-- and so only on the tiles of the line
pub show_alike : (e : Dir) (line : ℕ) (a b : List (Option Tile)) → AgreeOn e line a b → ShowAlike e line a b
show_alike e line a b same = λ place below. ap capital_shown (same place below)

pub runs_agree : (e : Dir) (a b : List (Option Tile)) (square : ℕ) → AgreeOn e (line_of e square) a b → runs_through e a square ≡ runs_through e b square
runs_agree e a b square same = runs_alike e a b square (show_alike e (line_of e square) a b same)

pub run_agree : (e : Dir) (a b board : List (Option Tile)) (square : ℕ) → AgreeOn e (line_of e square) a b → (run : Run) → IsStretch e board square run
    → (k : ℕ) → k < run.len → tile_at a (along run.dir run.start k) ≡ tile_at b (along run.dir run.start k)
run_agree e a b board square same run s k below =
    let at = run_place e board square run s k below in ap (tile_at a) at.1 ∙ same (s.first + k) at.0 ∙ sym (ap (tile_at b) at.1)

pub letters_agree : (e : Dir) (a b : List (Option Tile)) (square : ℕ) → AgreeOn e (line_of e square) a b
    → map (letters_of a) (runs_through e a square) ≡ map (letters_of b) (runs_through e b square)
letters_agree e a b square same = letters_alike e a b square (show_alike e (line_of e square) a b same)

-- a blank makes the same cross word as the letter that it shows
pub cross_words-face : (e : Dir) (board : List (Option Tile)) (square : ℕ) (t u : Tile) → square < length board → t.shown.index ≡ u.shown.index
    → cross_words e board square t ≡ cross_words e board square u
cross_words-face e board square t u inside same =
    letters_alike e (with_tile board square (Some t)) (with_tile board square (Some u)) square
    (λ place below.
    let there = square_at e (line_of e square) place in
    ⊎_elim
    (λ (s : there ≡ square).
    ap (λ n. capital_shown (tile_at (with_tile board square (Some t)) n)) s
    ∙ ap capital_shown (get_or-set_same board square (Some t) None inside)
    ∙ ap (λ n. n + 65) same
    ∙ ap capital_shown (sym (get_or-set_same board square (Some u) None inside))
    ∙ ap (λ n. capital_shown (tile_at (with_tile board square (Some u)) n)) (sym s))
    (λ (ne : there ≡ square → ⊥).
    ap capital_shown (get_or-set_other board square there (Some t) None ne ∙ sym (get_or-set_other board square there (Some u) None ne)))
    (cases_eq there square))
