-- The words of a line.
use Rattle.std.specs.Prelude.{ℕ, List, codes, Option, Some, None, if◌then◌else◌}
use Rattle.archive_lines.specs.declared.answers.Answer.{Answer}
use Rattle.archive_lines.specs.declared.answers.Answer.TheVariants.{Legal, Illegal, Unsettled, BadRecord, NoGame, Unread}
use Rattle.archive_lines.specs.declared.answers.Ending.{Ending}
use Rattle.archive_lines.specs.declared.answers.Ending.TheVariants.{Complete, Unfinished}
use Rattle.archive_lines.specs.declared.answers.Unread.{Unread as Reason}
use Rattle.archive_lines.specs.declared.answers.Unread.TheVariants.{CannotOpen, IsFolder, ReadFailed, NoMemory}
use Rattle.game_case.specs.declared.findings.Finding.{Finding}
use Rattle.game_case.specs.declared.findings.Finding.TheVariants as finding

abbrev pub answer_text : Answer → List ℕ
answer_text Legal = codes "legal"
answer_text Illegal = codes "illegal"
answer_text Unsettled = codes "unsettled"
answer_text BadRecord = codes "bad record"
answer_text NoGame = codes "no game"
answer_text Unread = codes "unread"

-- whether a legal game has ended
abbrev pub ending_text : Ending → List ℕ
ending_text Complete = codes "complete"
ending_text Unfinished = codes "unfinished"

-- why a game is unread
abbrev pub unread_text : Reason → List ℕ
unread_text CannotOpen = codes "cannot open"
unread_text IsFolder = codes "is a folder"
unread_text ReadFailed = codes "read failed"
unread_text NoMemory = codes "no memory"

-- ---- what is found of a game

abbrev pub answer_of : Finding → Answer
answer_of finding.NoGame = NoGame
answer_of (finding.Legal complete) = Legal
answer_of (finding.Illegal line fault) = Illegal
answer_of finding.Unsettled = Unsettled

-- whether it has ended, if it is legal
abbrev pub ending_in : Finding → Option Ending
ending_in (finding.Legal complete) = Some (if complete then Complete else Unfinished)
ending_in other = None
