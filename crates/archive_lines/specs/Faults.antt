-- What a line says of a fault.
use Rattle.std.specs.Prelude.{ℕ, ℤ, ◌==◌, List, Option, Some, None, option_map, if◌then◌else◌}
use Rattle.std.specs.List.{before_first}
use Rattle.text_lines.specs.Fields.{is_blank}
use Rattle.gcg_read.specs.declared.faults.ReadFault.{ReadFault}
use Rattle.game_turns.specs.declared.faults.RuleFault.TheVariants as rule
use Rattle.engine_stages.specs.declared.verdicts.GameFault.{GameFault}
use Rattle.engine_stages.specs.declared.verdicts.GameFault.TheVariants as game
use Rattle.engine_stages.specs.Reports.{fault_text}
use Rattle.game_case.specs.declared.findings.Finding.{Finding}
use Rattle.game_case.specs.declared.findings.Finding.TheVariants as finding

-- the line of the fault of a game
abbrev pub line_in : Finding → Option ℕ
line_in (finding.Illegal line fault) = Some line
line_in other = None

-- the line of the fault of a record; a fault on no line has the number 0
abbrev pub line_of_fault : ReadFault → Option ℕ
line_of_fault fault = if fault.line == 0 then None else Some fault.line

-- the text of the fault of a game, as a report has it
abbrev pub fault_in : Finding → Option (List ℕ)
fault_in (finding.Illegal line fault) = Some (fault_text fault)
fault_in other = None

-- the name of a fault, which is before the first blank of its text
abbrev pub name_in : Option (List ℕ) → Option (List ℕ)
name_in text = option_map (before_first is_blank) text

-- the number that a fault expected
abbrev pub expected_of : GameFault → Option ℤ
expected_of (game.Rule (rule.WrongScore expected)) = Some expected
expected_of (game.Rule (rule.WrongTotal expected)) = Some expected
expected_of other = None

abbrev pub expected_in : Finding → Option ℤ
expected_in (finding.Illegal line fault) = expected_of fault
expected_in other = None
