-- How the program ends after the lines of an archive.
use Rattle.std.specs.Prelude.{◌≡◌, ℕ, max, List, [], ◌∷◌, map, Option, Some, None}
use Rattle.game_exits.specs.declared.exits.Exit.{Exit}
use Rattle.game_exits.specs.declared.exits.Exit.TheVariants as exit
use Rattle.game_exits.specs.Archives.{exit_of_answer}
use Rattle.game_exits.specs.Exits.{status_of}
use Rattle.archive_lines.specs.declared.fields.Fields.{Fields}
use Rattle.archive_lines.specs.declared.pages.PageField.{PageField}
use Rattle.archive_lines.specs.declared.pages.PageField.TheVariants as field
use Rattle.archive_answers.specs.declared.runs.RunLines.{RunLines}

-- by the page of a game: 4 if it could not be written, or if there was no memory for it
abbrev pub exit_of_page : Option PageField → Exit
exit_of_page None = exit.Fine
exit_of_page (Some field.Missing) = exit.Fine
exit_of_page (Some (field.Written name)) = exit.Fine
exit_of_page (Some field.CannotWrite) = exit.Broken
exit_of_page (Some field.NoMemory) = exit.Broken

-- the status after a line: the greater of that of its verdict and that of its page
abbrev pub status_of_line : Fields → ℕ
status_of_line f = max (status_of (exit_of_answer f.verdict)) (status_of (exit_of_page f.page))

-- the greatest of some statuses; 0 if there is none
abbrev pub greatest : List ℕ → ℕ
greatest [] = 0
greatest (status ∷ statuses) = max status (greatest statuses)

-- how a run ends after these lines: by the greatest of their statuses
abbrev pub EndsAfter : List Fields → RunLines → Type 0
EndsAfter lines run = status_of run.worst ≡ greatest (map status_of_line lines)
