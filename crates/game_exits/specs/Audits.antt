-- How the program ends after an audit.
use Rattle.std.specs.Prelude.{ℕ, max, List, [], ◌∷◌}
use Rattle.game_exits.specs.Exits.{status_of}
use Rattle.game_exits.specs.declared.exits.Exit.{Exit}
use Rattle.game_exits.specs.declared.exits.Exit.TheVariants as exit
use Rattle.game_case.specs.declared.findings.Finding.{Finding}
use Rattle.game_case.specs.declared.findings.Finding.TheVariants as finding

-- the exit by the finding only: a record without an event is not a game
abbrev pub exit_of_finding : Finding → Exit
exit_of_finding finding.NoGame = exit.BadInput
exit_of_finding (finding.Legal complete) = exit.Fine
exit_of_finding (finding.Illegal line fault) = exit.Illegal
exit_of_finding finding.Unsettled = exit.Unsettled

-- the exit after numbers that are wrong, or none
abbrev pub exit_of_numbers : {A : Type 0} → List A → Exit
exit_of_numbers [] = exit.Fine
exit_of_numbers (wrong ∷ more) = exit.Illegal

-- the greater status of both
abbrev pub audit_status : {A : Type 0} → List A → Finding → ℕ
audit_status wrong found = max (status_of (exit_of_numbers wrong)) (status_of (exit_of_finding found))
