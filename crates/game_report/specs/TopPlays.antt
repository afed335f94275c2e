-- The lines of the ten best plays.
use Rattle.std.specs.Prelude.{◌≡◌, ℕ, ℤ, List, [], ◌∷◌, ◌++◌, All, codes, length, Option}
use Rattle.std.specs.Fmt.{signed_decimal}
use Rattle.std.specs.List.{flat_map}
use Rattle.ref_tiles.specs.declared.tiles.Tile.{Tile}
use Rattle.ref_tiles.specs.declared.rulebook.Rules.{Rules}
use Rattle.ref_play.specs.declared.plays.Play.{Play}
use Rattle.ref_play.specs.Legality.{IsLegal}
use Rattle.ref_play.specs.Notations.{notation_of}
use Rattle.ref_play.specs.Best.{Given}
use Rattle.gcg_read.specs.declared.events.Event.{Event}
use Rattle.game_turns.specs.Tallies.{tally_at}
use Rattle.game_notes.specs.Keeping.{AreFirstPlays}
use Rattle.game_notes.specs.Tops.{AreTop}
use Rattle.game_report.specs.BestPlays.{notation_text}

-- a play on a board: its notation and its score
abbrev pub play_line : List (Option Tile) → Given → List ℕ
play_line board given = notation_text (notation_of board given.tiles) ++ 32 ∷ signed_decimal given.score ++ 10 ∷ []

-- a line for each play, or that there is none
abbrev pub top_text : List (Option Tile) → List Given → List ℕ
top_text board [] = codes "none\n"
top_text board (given ∷ more) = flat_map (play_line board) (given ∷ more)

-- each of the plays is legal on a board
abbrev pub AreLegal : List (Option Tile) → List (Play × ℤ) → Type 0
AreLegal board plays = All (λ (scored : Play × ℤ). IsLegal board scored.0.tiles.items) plays

-- the board after the last event of a record; a play there stands
abbrev pub board_after : Rules → List Event → List (Option Tile)
board_after rules events = (tally_at rules events (length events)).board

-- the text has the best `n` candidates by a rack on a board
abbrev pub ReportsFirst : ℕ → Rules → (list : List (List ℕ)) → (board : List (Option Tile)) → (rack : List ℕ) → (text : List ℕ) → Type 0
ReportsFirst number rules list board rack text = (plays : List Given) × AreFirstPlays number rules list board rack plays × (text ≡ top_text board plays)

-- the text has the ten best candidates by a rack on a board
abbrev pub ReportsTop : Rules → (list : List (List ℕ)) → (board : List (Option Tile)) → (rack : List ℕ) → (text : List ℕ) → Type 0
ReportsTop rules list board rack text = (plays : List Given) × AreTop rules list board rack plays × (text ≡ top_text board plays)
