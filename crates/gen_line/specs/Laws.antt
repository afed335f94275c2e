-- Laws: the walk over a line gives its moves.
use Rattle.std.specs.Prelude.{◌≡◌, ◌≢◌, ◌↔◌, ℕ, Bool, List, length, Contains}
use Rattle.std.specs.List.{AllPairs}
use Rattle.ref_tiles.specs.declared.rulebook.TheConstants.{SIDE}
use Rattle.gen_line.specs.declared.cells.Cell.{Cell}
use Rattle.gen_line.specs.Moves.{IsMove, Labelled, AreSplits}
use Rattle.gen_line.specs.Model.{line_moves}

-- over a lexicon of the paths of a list of words, the walk gives the moves of a line, and no others
abbrev pub GivesTheMoves : Type 0
GivesTheMoves =
    (g listed : List ℕ → Bool) → AreSplits g listed → (line : List Cell) (rack y : List ℕ) → Labelled line
    → Contains (line_moves g line rack) y ↔ ((first : ℕ) × (len : ℕ) × IsMove listed line rack y first len)

-- and over any lexicon it gives none of them twice
abbrev pub GivesNoneTwice : Type 0
GivesNoneTwice = (g : List ℕ → Bool) (line : List Cell) (rack : List ℕ) → length line ≡ SIDE → AllPairs (λ a b. a ≢ b) (line_moves g line rack)
