-- The best plays by a rack, as values.
use Rattle.std.specs.Prelude.{◌≡◌, ℕ, ℤ, List, [], ◌∷◌, ◌++◌, codes, map, Option}
use Rattle.std.specs.Fmt.{signed_decimal}
use Rattle.std.specs.List.{flat_map}
use Rattle.ref_tiles.specs.declared.tiles.Tile.{Tile}
use Rattle.ref_tiles.specs.declared.rulebook.Rules.{Rules}
use Rattle.ref_play.specs.Notations.{Written, written, notation_of}
use Rattle.ref_play.specs.Best.{Given}
use Rattle.game_notes.specs.Keeping.{AreFirstPlays}
use Rattle.game_report.specs.BestPlays.{notation_text}
use Rattle.game_answers.specs.declared.plays.ScoredPlay.{ScoredPlay}

-- a play as it is written, with its score
abbrev pub reported_play : ScoredPlay → Written × ℤ
reported_play p = (written p.written, p.score)

-- the same for a play on a board
abbrev pub play_on : (board : List (Option Tile)) → Given → Written × ℤ
play_on board given = (notation_of board given.tiles, given.score)

-- these are plays on a board, in their order
abbrev pub ArePlaysOn : (board : List (Option Tile)) → List Given → List ScoredPlay → Type 0
ArePlaysOn board given plays = map reported_play plays ≡ map (play_on board) given

-- these are the best `number` candidates by a rack on a board, best first: all of them if there are fewer
abbrev pub AreBestPlays : (number : ℕ) → Rules → (list : List (List ℕ)) → (board : List (Option Tile)) → (rack : List ℕ) → List ScoredPlay → Type 0
AreBestPlays number rules list board rack plays = (given : List Given) × AreFirstPlays number rules list board rack given × ArePlaysOn board given plays

-- the text of a play in a report
abbrev pub reported_line : Written × ℤ → List ℕ
reported_line p = notation_text p.0 ++ 32 ∷ signed_decimal p.1 ++ 10 ∷ []

-- the text of plays in a report: a line for each, or that there is none
abbrev pub reported_text : List (Written × ℤ) → List ℕ
reported_text [] = codes "none\n"
reported_text (p ∷ more) = flat_map reported_line (p ∷ more)

abbrev pub plays_text : List ScoredPlay → List ℕ
plays_text plays = reported_text (map reported_play plays)
