-- The lines of a run over many games.
use Rattle.std.specs.Prelude.{◌≡◌, ◌⊎◌, ℕ, Bool, true, false, List, [], ◌∷◌, ◌++◌, is_some}
use Rattle.std.specs.Borrow.{Bor}
use Rattle.archive_lines.specs.declared.answers.Unread.TheVariants as why
use Rattle.archive_lines.specs.declared.fields.Fields.{Fields}
use Rattle.archive_lines.specs.declared.pages.PageField.TheVariants as field
use Rattle.archive_lines.specs.Objects.{line_object}
use Rattle.archive_lines.specs.Tabs.{tab_line}
use Rattle.json_trees.specs.Texts.{json_line}
use Rattle.archive_answers.specs.declared.asked.Asked.{Asked}
use Rattle.archive_answers.specs.declared.games.ArchivedGame.{ArchivedGame}
use Rattle.archive_answers.specs.declared.runs.RunLines.{RunLines}
use Rattle.archive_answers.specs.Exits.{EndsAfter}
use Rattle.archive_answers.specs.Games.{IsUnreadGame, with_page}

-- a line of these fields: as an object, or with tabs between them
abbrev pub IsLine : (json : Bool) → Fields → (line : List ℕ) → Type 0
IsLine true f line = line ≡ json_line (line_object f)
IsLine false f line = line ≡ tab_line f

-- a run has told a game with these fields: the line is theirs, and the run ends as after the lines before and this one
pub record HasLine (f : Fields) (old new : RunLines) : Type 0 where
  pub form : new.json ≡ old.json
  pub line : IsLine old.json f new.line.items
  pub ends : (lines : List Fields) → EndsAfter lines old → EndsAfter (lines ++ f ∷ []) new

-- if pages are asked for, there was no memory for that of a game
abbrev pub without_page : (asked : Bool) → ArchivedGame → ArchivedGame
without_page true game = with_page game field.NoMemory
without_page false game = game

-- what is told of a game for whose line there was no memory: that its file could not be read for that
abbrev pub IsLostGame : Asked → (name : Bor (List ℕ)) → ArchivedGame → Type 0
IsLostGame asked name game = (unread : ArchivedGame) × IsUnreadGame asked name why.NoMemory unread × (game ≡ without_page (is_some asked.page) unread)

-- what the line of a game says: what is told of the game, or that there was no memory for that
abbrev pub IsReportedIn : Asked → ArchivedGame → Fields → Type 0
IsReportedIn asked game f = (f ≡ game.fields) ⊎ (lost : ArchivedGame) × IsLostGame asked game.fields.name lost × (f ≡ lost.fields)

-- a run has told this game
abbrev pub HasLineOf : Asked → ArchivedGame → (old new : RunLines) → Type 0
HasLineOf asked game old new = (f : Fields) × IsReportedIn asked game f × HasLine f old new
