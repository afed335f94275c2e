-- Laws: what is left if all candidates of a board are added and the first `n` are kept.
use Rattle.std.specs.Prelude.{◌≡◌, ◌↔◌, ℕ, List, [], length, Contains, fold, Option}
use Rattle.ref_tiles.specs.declared.rulebook.TheConstants.{SQUARES}
use Rattle.ref_tiles.specs.declared.tiles.Tile.{Tile}
use Rattle.ref_tiles.specs.declared.rulebook.Rules.{Rules}
use Rattle.ref_play.specs.Best.{Given, AreAll, IsAnnotation}
use Rattle.gen_sinks.specs.Ranks.{ranks_before, add_top, AreFirst, head_of}

-- all candidates, added one after another to an empty list, leave the first `n` of them
abbrev pub AddedAreFirst : Type 0
AddedAreFirst =
    (n : ℕ) (rules : Rules) (words : List (List ℕ)) (board : List (Option Tile)) (rack : List ℕ) (all : List Given) → length board ≡ SQUARES
    → AreAll rules words board rack all → AreFirst n (ranks_before board) all (fold (add_top n (ranks_before board)) [] all)

-- and the same ones in whatever order they come, and whatever was kept before
abbrev pub OrderIsNoMatter : Type 0
OrderIsNoMatter =
    (n : ℕ) (rules : Rules) (words : List (List ℕ)) (board : List (Option Tile)) (rack : List ℕ) (kept all more : List Given) → length board ≡ SQUARES
    → AreAll rules words board rack all → AreAll rules words board rack more
    → fold (add_top n (ranks_before board)) kept all ≡ fold (add_top n (ranks_before board)) kept more

-- the first `n` of the same plays are the same list
abbrev pub FirstAreOne : Type 0
FirstAreOne =
    (n : ℕ) (board : List (Option Tile)) (all more kept held : List Given) → ((given : Given) → Contains all given ↔ Contains more given)
    → AreFirst n (ranks_before board) all kept → AreFirst n (ranks_before board) more held → kept ≡ held

-- the first one of all candidates is the best play
abbrev pub FirstIsBest : Type 0
FirstIsBest =
    (rules : Rules) (words : List (List ℕ)) (board : List (Option Tile)) (rack : List ℕ) (all kept : List Given) → AreAll rules words board rack all
    → AreFirst 1 (ranks_before board) all kept → IsAnnotation rules words board rack (head_of kept)
