-- Tiles that are counted one by one.
use Rattle.std.proofs.Common.{◌≡◌, ℕ, ◌+◌, ◌<◌, ◌≤◌, ◌==◌, Bool, cond, List, [], ◌∷◌, ◌++◌, length, take, get_or, set, refl, sym, ap, ◌∙◌, arith, ⊎_elim, Option, Some, None, sum_by, count_by}
use Rattle.std.proofs.lemmas.Bool.{cases_eq, eq-eqb, ne_eqb}
use Rattle.std.proofs.lemmas.List.{length-set, get_or-set_same, get_or-set_other, take_more, length-take}
use Rattle.std.proofs.lemmas.List.Sums.{sum_by-cons, sum_by-append, count_by-le-length}
use Rattle.ref_tiles.specs.declared.tiles.Tile.{Tile}
use Rattle.ref_tiles.specs.declared.kinds.Kind.{Kind}
use Rattle.ref_tiles.specs.Kinds.{number_of}
use Rattle.ref_tiles.proofs.Counted.{number_below}
use Rattle.ref_tiles.specs.Counting.{no_tiles, count_of, with_count}
use Rattle.ref_play.specs.declared.placed.Placed.{Placed}
use Rattle.deal_steps.specs.Piles.{table}
use Rattle.deal_steps.proofs.PileLaws.{length-table, get-table, same_numbers, length-no_tiles, get-no_tiles}
use Rattle.game_deal.specs.Recorded.{has_kind, on_board, placed_tiles}

-- one if the test holds
abbrev one_if : Bool → ℕ
one_if b = cond b 1 0

-- A table of counts with one more of a kind is the table of the counts that have one more there.
one_more : (f g : ℕ → ℕ) (n : ℕ) → n < 27 → ((k : ℕ) → g k ≡ f k + one_if (n == k)) → set (table f) n (get_or (table f) n 0 + 1) ≡ table g
one_more f g n below more =
    let size = length-table f in
    same_numbers (set (table f) n (get_or (table f) n 0 + 1)) (table g) (length-set (table f) n (get_or (table f) n 0 + 1) ∙ size) (length-table g)
    (λ k within.
    let here = get-table g k within in
    let is = more k in
    ⊎_elim
    (λ (s : n ≡ k).
    let one : one_if (n == k) ≡ 1 = ap one_if (eq-eqb n k s) in
    let old = get-table f n below in
    let same = ap f s in
    let new : get_or (set (table f) n (get_or (table f) n 0 + 1)) k 0 ≡ get_or (table f) n 0 + 1 =
    ap (λ (i : ℕ). get_or (set (table f) n (get_or (table f) n 0 + 1)) i 0) (sym s) ∙ get_or-set_same (table f) n (get_or (table f) n 0 + 1) 0 (omega arith) in
    omega arith)
    (λ (other : n ≡ k → ⊥).
    let none : one_if (n == k) ≡ 0 = ap one_if (ne_eqb n k other) in
    let old = get-table f k within in
    let new = get_or-set_other (table f) n k (get_or (table f) n 0 + 1) 0 (λ (e : k ≡ n). other (sym e)) in
    omega arith)
    (cases_eq n k))

-- one more item
count_more : {X : Type 0} (p : X → Bool) (xs : List X) (i : ℕ) (x : X) → i < length xs → x ≡ get_or xs i x → count_by p (take (i + 1) xs) ≡ count_by p (take i xs) + one_if (p x)
count_more {X = X} p xs i x within is =
    let f = λ (y : X). one_if (p y) in
    let parts : take (i + 1) xs ≡ take i xs ++ x ∷ [] = take_more xs i x within ∙ ap (λ y. take i xs ++ y ∷ []) (sym is) in
    let both = ap (sum_by f) parts ∙ sum_by-append f (take i xs) (x ∷ []) in
    let last = sum_by-cons f x [] in
    omega arith

pub no_tile : (cell : Option Tile) → ((t : Tile) → cell ≡ Some t → ⊥) → cell ≡ None
no_tile None h = refl
no_tile (Some t) h = absurd (h t refl)

-- a square without a tile, and one with a tile
pub empty_cell : (cells : List (Option Tile)) (i : ℕ) (cell : Option Tile) → i < length cells → cell ≡ get_or cells i cell → cell ≡ None
    → on_board (take (i + 1) cells) ≡ on_board (take i cells)
unfolding on_board
empty_cell cells i cell within is none =
    same_numbers (on_board (take (i + 1) cells)) (on_board (take i cells)) (length-table _) (length-table _)
    (λ k below.
    let new = get-table (λ n. count_by (has_kind n) (take (i + 1) cells)) k below in
    let old = get-table (λ n. count_by (has_kind n) (take i cells)) k below in
    let more = count_more (has_kind k) cells i cell within is in
    let none_here : one_if (has_kind k cell) ≡ 0 = ap (λ (c : Option Tile). one_if (has_kind k c)) none in
    omega arith)

pub full_cell : (cells : List (Option Tile)) (i : ℕ) (cell : Option Tile) (t : Tile) → i < length cells → cell ≡ get_or cells i cell → cell ≡ Some t
    → with_count (on_board (take i cells)) t.kind (count_of (on_board (take i cells)) t.kind + 1) ≡ on_board (take (i + 1) cells)
unfolding on_board
full_cell cells i cell t within is tile =
    one_more (λ n. count_by (has_kind n) (take i cells)) (λ n. count_by (has_kind n) (take (i + 1) cells)) (number_of t.kind) (number_below t.kind)
    (λ k. count_more (has_kind k) cells i cell within is ∙ ap (λ (c : Option Tile). count_by (has_kind k) (take i cells) + one_if (has_kind k c)) tile)

-- there are at most as many tiles of a kind as squares
pub few_on_board : (cells : List (Option Tile)) (i : ℕ) (kind : Kind) → count_of (on_board (take i cells)) kind ≤ i
unfolding on_board
few_on_board cells i kind =
    let n = number_of kind in
    let is = get-table (λ k. count_by (has_kind k) (take i cells)) n (number_below kind) in
    let most = count_by-le-length (has_kind n) (take i cells) in
    let size = length-take i cells in
    omega arith

-- one tile of a placement
pub one_placed : (placed : List Placed) (i : ℕ) (p : Placed) → i < length placed → p ≡ get_or placed i p
    → with_count (placed_tiles (take i placed)) p.tile.kind (count_of (placed_tiles (take i placed)) p.tile.kind + 1) ≡ placed_tiles (take (i + 1) placed)
unfolding placed_tiles
one_placed placed i p within is =
    one_more (λ n. count_by (λ (q : Placed). number_of q.tile.kind == n) (take i placed)) (λ n. count_by (λ (q : Placed). number_of q.tile.kind == n) (take (i + 1) placed))
    (number_of p.tile.kind) (number_below p.tile.kind) (λ k. count_more (λ (q : Placed). number_of q.tile.kind == k) placed i p within is)

pub few_placed : (placed : List Placed) (i : ℕ) (kind : Kind) → count_of (placed_tiles (take i placed)) kind ≤ i
unfolding placed_tiles
few_placed placed i kind =
    let n = number_of kind in
    let is = get-table (λ k. count_by (λ (q : Placed). number_of q.tile.kind == k) (take i placed)) n (number_below kind) in
    let most = count_by-le-length (λ (q : Placed). number_of q.tile.kind == n) (take i placed) in
    let size = length-take i placed in
    omega arith

-- nothing is counted at the start
pub none_on_board : on_board [] ≡ no_tiles
unfolding on_board
none_on_board =
    same_numbers (on_board []) no_tiles (length-table _) length-no_tiles
    (λ k below. let all = get-table (λ n. count_by (has_kind n) []) k below in let zero = get-no_tiles k below in omega arith)

pub none_placed : placed_tiles [] ≡ no_tiles
unfolding placed_tiles
none_placed =
    same_numbers (placed_tiles []) no_tiles (length-table _) length-no_tiles
    (λ k below. let all = get-table (λ n. count_by (λ (q : Placed). number_of q.tile.kind == n) []) k below in let zero = get-no_tiles k below in omega arith)
