-- What is wrong with an input, as a verdict and its report give it.
use Rattle.std.specs.Prelude.{ℕ, Bool, true, false, List, Option, Some, None}
use Rattle.engine_stages.specs.declared.input_faults.InputFault.{InputFault}
use Rattle.engine_stages.specs.declared.input_faults.InputFault.TheVariants as input
use Rattle.engine_stages.specs.declared.verdicts.Verdict.{Verdict}
use Rattle.engine_stages.specs.declared.verdicts.Verdict.TheVariants as verdict
use Rattle.engine_stages.specs.Reports.{bad_list_line, bad_file_line, too_many_arcs_line, bad_rules_line, bad_record_line, bad_rack_line, bad_line_line}

-- the verdict that an input is bad
abbrev pub input_verdict : InputFault → Verdict
input_verdict (input.Words fault) = verdict.BadList
input_verdict (input.Lexicon fault) = verdict.BadFile
input_verdict input.TooManyArcs = verdict.BadFile
input_verdict (input.Rules fault) = verdict.BadRules
input_verdict (input.Game fault) = verdict.BadRecord
input_verdict input.Rack = verdict.BadRack
input_verdict input.Line = verdict.BadLine

-- the line that says what is wrong with it
abbrev pub input_line : InputFault → List ℕ
input_line (input.Words fault) = bad_list_line fault
input_line (input.Lexicon fault) = bad_file_line fault
input_line input.TooManyArcs = too_many_arcs_line
input_line (input.Rules fault) = bad_rules_line fault
input_line (input.Game fault) = bad_record_line fault
input_line input.Rack = bad_rack_line
input_line input.Line = bad_line_line

-- whether a verdict is that an input is bad
abbrev pub is_bad_input : Verdict → Bool
is_bad_input (verdict.Legal complete) = false
is_bad_input (verdict.Illegal line fault) = false
is_bad_input verdict.Unsettled = false
is_bad_input verdict.BadList = true
is_bad_input verdict.BadFile = true
is_bad_input verdict.BadRecord = true
is_bad_input verdict.Done = false
is_bad_input verdict.BadRack = true
is_bad_input verdict.BadRules = true
is_bad_input verdict.BadLine = true

-- the verdict and the report that go with what is wrong with an input, if something is
abbrev pub verdict_with : Option InputFault → Verdict → Verdict
verdict_with (Some fault) v = input_verdict fault
verdict_with None v = v

abbrev pub report_with : Option InputFault → (report : List ℕ) → List ℕ
report_with (Some fault) report = input_line fault
report_with None report = report
