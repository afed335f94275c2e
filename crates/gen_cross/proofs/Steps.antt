-- A stretch of labels, read backwards one by one.
use Rattle.std.proofs.Common.{◌≡◌, ℕ, suc, ◌+◌, ◌-◌, ◌<◌, ◌≤◌, Bool, false, List, [], ◌∷◌, ◌++◌, sym, ap, ◌∙◌, arith, append-nil, Option, Some}
use Rattle.lex_file.specs.declared.lexicons.Step.{Step}
use Rattle.lex_file.specs.Walking.{next_strings, strings}
use Rattle.ref_tiles.specs.declared.tiles.Tile.{Tile}
use Rattle.ref_board.specs.declared.directions.Dir.{Dir}
use Rattle.ref_board.specs.Lines.{square_at}
use Rattle.gen_cross.specs.Paths.{label_on, down, labels_down}

down_more : (f : ℕ → ℕ) (first place : ℕ) → first < place → down f first (place - first) ≡ f (place - 1) ∷ down f first (place - 1 - first)
down_more f first place h =
    let next : place - first ≡ suc (place - 1 - first) = omega arith in
    let last : first + (place - 1 - first) ≡ place - 1 = omega arith in
    ap (down f first) next ∙ ap (λ x. f x ∷ down f first (place - 1 - first)) last

-- the labels of a stretch are that of its last place, and those before it
pub labels_more : (board : List (Option Tile)) (d : Dir) (line first place : ℕ) (t : List ℕ) → first < place
    → labels_down board d line first (place - first) ++ t ≡ label_on board (square_at d line (place - 1)) ∷ (labels_down board d line first (place - 1 - first) ++ t)
unfolding labels_down
labels_more board d line first place t h = ap (λ (x : List ℕ). x ++ t) (down_more (λ i. label_on board (square_at d line i)) first place h)

-- an empty stretch has no labels
pub labels_none : (board : List (Option Tile)) (d : Dir) (line first place : ℕ) (t : List ℕ) → place ≤ first → labels_down board d line first (place - first) ++ t ≡ t
unfolding labels_down
labels_none board d line first place t h =
    let none : place - first ≡ 0 = omega arith in
    ap (λ n. down (λ i. label_on board (square_at d line i)) first n ++ t) none

-- the strings of a whole lexicon: those of its root that are not empty
pub begins : {N : Type 0} (tail : N → List ℕ → Bool) (root : N) (whole : Step N) → whole.next ≡ Some root → (xs : List ℕ) (y : ℕ) (ys : List ℕ)
    → strings tail whole (xs ++ (y ∷ ys)) ≡ tail root (xs ++ (y ∷ ys))
begins tail root whole e [] y ys = ap (λ n. next_strings tail n (y ∷ ys)) e
begins tail root whole e (x ∷ xs) y ys = ap (λ n. next_strings tail n (x ∷ (xs ++ (y ∷ ys)))) e

-- whether a label and then others end a string
pub ends : {N : Type 0} (tail : N → List ℕ → Bool) (at next last : Step N) (label : ℕ) (labels : List ℕ) → ((t : List ℕ) → strings tail at (label ∷ t) ≡ strings tail next t)
    → ((t : List ℕ) → strings tail next (labels ++ t) ≡ strings tail last t) → last.accepts ≡ strings tail at (label ∷ labels)
ends tail at next last label labels first rest = sym (first labels ∙ ap (strings tail next) (sym (append-nil labels)) ∙ rest [])

pub ends_not : {N : Type 0} (tail : N → List ℕ → Bool) (at next : Step N) (label : ℕ) (labels : List ℕ) → ((t : List ℕ) → strings tail at (label ∷ t) ≡ strings tail next t)
    → ((t : List ℕ) → strings tail next (labels ++ t) ≡ false) → false ≡ strings tail at (label ∷ labels)
ends_not tail at next label labels first rest = sym (first labels ∙ ap (strings tail next) (sym (append-nil labels)) ∙ rest [])
