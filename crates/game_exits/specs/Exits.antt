-- The exit statuses of the program.
use Rattle.std.specs.Prelude.{ℕ}
use Rattle.game_exits.specs.declared.exits.Exit.{Exit}
use Rattle.game_exits.specs.declared.exits.Exit.TheVariants.{Fine, Illegal, Unsettled, BadInput, Broken, Usage}
use Rattle.engine_stages.specs.declared.verdicts.Verdict.{Verdict}
use Rattle.engine_stages.specs.declared.verdicts.Verdict.TheVariants as verdict

-- the status by which the program ends
abbrev pub status_of : Exit → ℕ
status_of Fine = 0
status_of Illegal = 1
status_of Unsettled = 2
status_of BadInput = 3
status_of Broken = 4
status_of Usage = 64

-- how the program ends after a verdict
abbrev pub exit_of : Verdict → Exit
exit_of (verdict.Legal complete) = Fine
exit_of (verdict.Illegal line fault) = Illegal
exit_of verdict.Unsettled = Unsettled
exit_of verdict.BadList = BadInput
exit_of verdict.BadFile = BadInput
exit_of verdict.BadRecord = BadInput
exit_of verdict.Done = Fine
exit_of verdict.BadRack = BadInput
exit_of verdict.BadRules = BadInput
exit_of verdict.BadLine = BadInput
