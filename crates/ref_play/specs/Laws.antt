-- Laws: the definitions that compute agree with the rules.
use Rattle.std.specs.Prelude.{◌≡◌, ◌≢◌, ℕ, ◌+◌, ◌<◌, ◌↔◌, ◌⊎◌, true, false, List, [], ◌∷◌, ◌++◌, map, sum_by, Option, None, length, Contains, IsPermutation}
use Rattle.std.specs.List.{AllPairs, flat_map}
use Rattle.ref_tiles.specs.declared.tiles.Tile.{Tile}
use Rattle.ref_tiles.specs.declared.rulebook.Rules.{Rules}
use Rattle.ref_board.specs.declared.directions.Dir.{Dir}
use Rattle.ref_board.specs.declared.directions.Dir.TheVariants.{Across, Down}
use Rattle.ref_board.specs.Lines.{other_dir}
use Rattle.ref_play.specs.declared.placed.Placed.{Placed}
use Rattle.ref_play.specs.declared.runs.Run.{Run}
use Rattle.ref_play.specs.Placements.{is_play, with_tiles, without_tiles}
use Rattle.ref_play.specs.Formed.{MeetsRun, runs_formed}
use Rattle.ref_play.specs.Words.{letters_of, words_formed}
use Rattle.ref_play.specs.Legality.{IsLegal, overlaps, fault_of}
use Rattle.ref_play.specs.Texts.{text_fault, placement_of}
use Rattle.ref_play.specs.Directions.{direction_of, RunsAlong}
use Rattle.ref_play.specs.Notations.{notation_of, ComesBefore}
use Rattle.ref_play.specs.Scores.{run_score, bonus_score, score_of}
use Rattle.ref_play.specs.Crosses.{run_in, cross_words, cross_score}
use Rattle.ref_play.specs.Soundness.{IsSound}

-- the list of runs has exactly the runs of the board that have a tile of the placement
abbrev pub RunsAreThoseMet : Type 0
RunsAreThoseMet =
    (d : Dir) (after : List (Option Tile)) (ps : List Placed) (run : Run) → Contains (runs_formed d after ps) run ↔ MeetsRun after ps run

-- and none of them twice
abbrev pub RunsAreDistinct : Type 0
RunsAreDistinct = (d : Dir) (after : List (Option Tile)) (ps : List Placed) → AllPairs (λ a b. a ≢ b) (runs_formed d after ps)

-- a placement has no fault exactly when it is legal
abbrev pub FaultlessIsLegal : Type 0
FaultlessIsLegal =
    (d : Dir) (board : List (Option Tile)) (ps : List Placed) → length board ≡ 225 → is_play d ps ≡ true → (fault_of d board ps ≡ None) ↔ IsLegal board ps

-- one tile is a play in both directions or in neither
abbrev pub OneTileFitsBoth : Type 0
OneTileFitsBoth = (p : Placed) → is_play Across (p ∷ []) ≡ is_play Down (p ∷ [])

-- and has the same fault in both
abbrev pub OneTileHasOneFault : Type 0
OneTileHasOneFault = (board : List (Option Tile)) (p : Placed) → fault_of Across board (p ∷ []) ≡ fault_of Down board (p ∷ [])

-- the words of both directions are the same, each as often, in another order
abbrev pub WordsFitBoth : Type 0
WordsFitBoth = (board : List (Option Tile)) (ps : List Placed) → IsPermutation (words_formed Across board ps) (words_formed Down board ps)

-- two tiles or more are a play in at most one direction
abbrev pub MoreTilesFitOne : Type 0
MoreTilesFitOne = (ps : List Placed) → is_play Across ps ≡ true → is_play Down ps ≡ true → length ps ≡ 1

-- tiles that were put on empty squares and taken off again leave the board as it was
abbrev pub TakingBackRestores : Type 0
TakingBackRestores = (board : List (Option Tile)) (ps : List Placed) → overlaps board ps ≡ false → without_tiles (with_tiles board ps) ps ≡ board

-- a legal placement runs along the direction in which it is written, and all its tiles lie in that run
abbrev pub WrittenAlongItsRun : Type 0
WrittenAlongItsRun =
    (d : Dir) (board : List (Option Tile)) (ps : List Placed) → length board ≡ 225 → is_play d ps ≡ true → IsLegal board ps → RunsAlong (direction_of board ps) board ps

-- the notation of a legal placement, read as a text, has no fault and names the placement
abbrev pub NotationsReadBack : Type 0
NotationsReadBack =
    (d : Dir) (board : List (Option Tile)) (ps : List Placed) → length board ≡ 225 → is_play d ps ≡ true → IsLegal board ps
    → (text_fault board (notation_of board ps).dir (notation_of board ps).at (notation_of board ps).word ≡ None)
    × (placement_of board (notation_of board ps).dir (notation_of board ps).at (notation_of board ps).word ≡ ps)

-- two legal placements with one notation are equal
abbrev pub NotationsDiffer : Type 0
NotationsDiffer =
    (d e : Dir) (board : List (Option Tile)) (a b : List Placed) → length board ≡ 225 → is_play d a ≡ true → is_play e b ≡ true → IsLegal board a → IsLegal board b
    → notation_of board a ≡ notation_of board b → a ≡ b

-- no placement comes before itself
abbrev pub NoneBeforeItself : Type 0
NoneBeforeItself = (board : List (Option Tile)) (ps : List Placed) → ComesBefore board ps ps → ⊥

-- if a placement comes before a second and the second before a third, the first comes before the third
abbrev pub BeforeIsTransitive : Type 0
BeforeIsTransitive = (board : List (Option Tile)) (a b c : List Placed) → ComesBefore board a b → ComesBefore board b c → ComesBefore board a c

-- of two different legal placements one comes before the other
abbrev pub OneComesBefore : Type 0
OneComesBefore =
    (d e : Dir) (board : List (Option Tile)) (a b : List Placed) → length board ≡ 225 → is_play d a ≡ true → is_play e b ≡ true → IsLegal board a → IsLegal board b
    → (a ≡ b) ⊎ (ComesBefore board a b ⊎ ComesBefore board b a)

-- a play is legal exactly when it is sound: its tiles lie on empty squares, in one whole stretch of their line, some run is formed,
-- and an anchor is covered
abbrev pub LegalIsSound : Type 0
LegalIsSound = (d : Dir) (board : List (Option Tile)) (ps : List Placed) → length board ≡ 225 → is_play d ps ≡ true → IsLegal board ps ↔ IsSound d board ps

-- its words are that of its stretch of the line, and then the cross words of its tiles, in their order
abbrev pub WordsAreOfLines : Type 0
WordsAreOfLines =
    (d : Dir) (board : List (Option Tile)) (ps : List Placed) → length board ≡ 225 → is_play d ps ≡ true → (sound : IsSound d board ps)
    → words_formed d board ps
    ≡ map (letters_of (with_tiles board ps)) (run_in d sound.line sound.first sound.len)
    ++ flat_map (λ (p : Placed). cross_words (other_dir d) board p.square p.tile) ps

-- its score is that of its stretch of the line, those of the cross runs of its tiles, and the bonus
abbrev pub ScoreIsOfLines : Type 0
ScoreIsOfLines =
    (d : Dir) (rules : Rules) (board : List (Option Tile)) (ps : List Placed) → length board ≡ 225 → is_play d ps ≡ true → (sound : IsSound d board ps)
    → score_of rules board ps
    ≡ sum_by (run_score rules (with_tiles board ps) ps) (run_in d sound.line sound.first sound.len)
    + sum_by (λ (p : Placed). cross_score rules (other_dir d) board p.square p.tile) ps
    + bonus_score rules ps

-- a blank makes the same cross word as the letter that it shows
abbrev pub BlanksCrossAlike : Type 0
BlanksCrossAlike =
    (d : Dir) (board : List (Option Tile)) (square : ℕ) (a b : Tile) → square < length board → a.shown ≡ b.shown → cross_words d board square a ≡ cross_words d board square b
