-- How the program ends after the line of a game of an archive.
use Rattle.game_exits.specs.declared.exits.Exit.{Exit}
use Rattle.game_exits.specs.declared.exits.Exit.TheVariants as exit
use Rattle.archive_lines.specs.declared.answers.Answer.{Answer}
use Rattle.archive_lines.specs.declared.answers.Answer.TheVariants.{Legal, Illegal, Unsettled, BadRecord, NoGame, Unread}

-- how the program ends after a line with this answer
abbrev pub exit_of_answer : Answer → Exit
exit_of_answer Legal = exit.Fine
exit_of_answer Illegal = exit.Illegal
exit_of_answer Unsettled = exit.Unsettled
exit_of_answer BadRecord = exit.BadInput
exit_of_answer NoGame = exit.BadInput
exit_of_answer Unread = exit.Broken
