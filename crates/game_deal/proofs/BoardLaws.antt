-- The tiles on a board with those of a play.
use Rattle.std.proofs.Common.{◌≡◌, ℕ, ◌+◌, ◌<◌, ◌==◌, cond, List, [], ◌∷◌, length, get_or, ap, arith, Option, Some, None, count_by}
use Rattle.std.proofs.lemmas.List.Sums.{sum_by-cons, sum_by-set}
use Rattle.std.proofs.lemmas.List.Folds.{sum_by-replicate}
use Rattle.ref_tiles.specs.declared.tiles.Tile.{Tile}
use Rattle.ref_tiles.specs.Kinds.{number_of}
use Rattle.ref_tiles.specs.Counting.{no_tiles}
use Rattle.ref_board.specs.Cells.{empty_board, with_tile}
use Rattle.ref_play.specs.declared.placed.Placed.{Placed}
use Rattle.ref_play.specs.Placements.{with_tiles}
use Rattle.deal_steps.specs.Piles.{joined}
use Rattle.deal_steps.proofs.PileLaws.{length-table, get-table, length-joined, get-joined, length-no_tiles, get-no_tiles, same_numbers}
use Rattle.game_deal.specs.Recorded.{has_kind, on_board, placed_tiles}

-- the squares of the tiles are empty, one after another
abbrev pub AreFree : List (Option Tile) → List Placed → Type 0
AreFree board [] = Unit {0}
AreFree board (p ∷ ps) =
    (p.square < length board) × (get_or board p.square None ≡ None) × AreFree (with_tile board p.square (Some p.tile)) ps

-- one for a cell with a tile of the kind
abbrev counts_one : ℕ → Option Tile → ℕ
counts_one k cell = cond (has_kind k cell) 1 0

pub board_more : (k : ℕ) (board : List (Option Tile)) (ps : List Placed) → AreFree board ps
    → count_by (has_kind k) (with_tiles board ps) ≡ count_by (has_kind k) board + count_by (λ p. number_of p.tile.kind == k) ps
board_more k board [] free = omega arith
board_more k board (p ∷ ps) free =
    let one = sum_by-set (counts_one k) board p.square (Some p.tile) None free.0 in
    let before = ap (counts_one k) free.1 in
    let others = board_more k (with_tile board p.square (Some p.tile)) ps free.2 in
    let here = sum_by-cons (λ (q : Placed). cond (number_of q.tile.kind == k) 1 0) p ps in
    omega arith

pub on_board_more : (board : List (Option Tile)) (ps : List Placed) → AreFree board ps → on_board (with_tiles board ps) ≡ joined (on_board board) (placed_tiles ps)
unfolding on_board placed_tiles
on_board_more board ps free =
    same_numbers (on_board (with_tiles board ps)) (joined (on_board board) (placed_tiles ps)) (length-table _) (length-joined _ _)
    (λ k below.
    let all = get-table (λ n. count_by (has_kind n) (with_tiles board ps)) k below in
    let old = get-table (λ n. count_by (has_kind n) board) k below in
    let new = get-table (λ n. count_by (λ (p : Placed). number_of p.tile.kind == n) ps) k below in
    let both = get-joined (on_board board) (placed_tiles ps) k below in
    let more = board_more k board ps free in
    omega arith)

-- no tile is on an empty board
pub on_board-empty : on_board empty_board ≡ no_tiles
unfolding on_board empty_board
on_board-empty =
    same_numbers (on_board empty_board) no_tiles (length-table _) length-no_tiles
    (λ k below.
    let all = get-table (λ n. count_by (has_kind n) empty_board) k below in
    let none = sum_by-replicate (counts_one k) 225 None in
    let zero = get-no_tiles k below in
    omega arith)
