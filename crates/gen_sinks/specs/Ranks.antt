-- The best plays of some, best first.
use Rattle.std.specs.Prelude.{◌≡◌, ℕ, ◌≤◌, ◌⊎◌, ◌&&◌, not, Bool, true, List, [], ◌∷◌, length, take, Contains, Option, Some, None, if◌then◌else◌}
use Rattle.std.specs.declared.cmp.Ordering.{Ordering}
use Rattle.std.specs.Ordering.{int_cmp, on, then_cmp, flip_args, is_lt}
use Rattle.ref_tiles.specs.declared.tiles.Tile.{Tile}
use Rattle.ref_play.specs.Notations.{notation_of, written_cmp}
use Rattle.ref_play.specs.Best.{Given}

-- greater scores first, and among equal ones the first by its notation on the board
abbrev pub rank_cmp : List (Option Tile) → Given → Given → Ordering
rank_cmp board = then_cmp (flip_args (on (λ (g : Given). g.score) int_cmp)) (on (λ (g : Given). notation_of board g.tiles) written_cmp)

-- one play ranks before another
abbrev pub ranks_before : List (Option Tile) → Given → Given → Bool
ranks_before board a b = is_lt (rank_cmp board a b)

-- an element put before the first one before which it comes, otherwise at the end
abbrev pub put_in : {A : Type 0} → (A → A → Bool) → A → List A → List A
put_in before x [] = x ∷ []
put_in before x (y ∷ ys) = if before x y then x ∷ y ∷ ys else y ∷ put_in before x ys

-- the first `n` of a list with one more element
abbrev pub add_top : {A : Type 0} → ℕ → (A → A → Bool) → List A → A → List A
add_top n before kept x = take n (put_in before x kept)

-- the first `n` of the plays with one more, in the order of the sink's board
abbrev pub add_ranked : ℕ → Option (List (Option Tile)) → List Given → Given → List Given
add_ranked n None kept given = kept
add_ranked n (Some board) kept given = add_top n (ranks_before board) kept given

-- whether an element may be in front of others: the first of these does not come before it
abbrev pub may_lead : {A : Type 0} → (A → A → Bool) → A → List A → Bool
may_lead before x [] = true
may_lead before x (y ∷ ys) = not (before y x)

-- whether no element comes before the one in front of it
unfoldable pub in_turn : {A : Type 0} → (A → A → Bool) → List A → Bool
in_turn before [] = true
in_turn before (x ∷ xs) = may_lead before x xs && in_turn before xs

-- each element comes before all after it
abbrev pub InOrder : {A : Type 0} → (A → A → Bool) → List A → Type 0
InOrder before [] = Unit {0}
InOrder before (x ∷ xs) = ((y : _) → Contains xs y → before x y ≡ true) × InOrder before xs

-- The first `n` of some elements, in order: they are some of them, and each other one comes after them, and is left out only if `n`
-- are kept.
pub record AreFirst {A : Type 0} (n : ℕ) (before : A → A → Bool) (all kept : List A) : Type 0 where
  pub ordered : InOrder before kept
  pub few : length kept ≤ n
  pub some : (x : A) → Contains kept x → Contains all x
  pub others : (x : A) → Contains all x → Contains kept x ⊎ ((length kept ≡ n) × ((k : A) → Contains kept k → before k x ≡ true))

-- the first element, if there is one
abbrev pub head_of : {A : Type 0} → List A → Option A
head_of [] = None
head_of (x ∷ xs) = Some x
