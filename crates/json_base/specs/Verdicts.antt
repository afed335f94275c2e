-- Verdicts as objects.
use Rattle.std.specs.Prelude.{ℕ, Bool, true, false, List, [], ◌∷◌, codes}
use Rattle.json.specs.Json.{Json, null, string}
use Rattle.json_trees.specs.Values.{Field, count, object_of}
use Rattle.engine_stages.specs.declared.verdicts.Verdict.{Verdict}
use Rattle.engine_stages.specs.declared.verdicts.Verdict.TheVariants as verdict
use Rattle.json_base.specs.Faults.{game_fault_object}

-- the verdict, by its name
abbrev pub verdict_word : Verdict → List ℕ
verdict_word (verdict.Legal complete) = codes "legal"
verdict_word (verdict.Illegal line fault) = codes "illegal"
verdict_word verdict.Unsettled = codes "unsettled"
verdict_word verdict.Done = codes "ok"
verdict_word verdict.BadList = codes "bad word list"
verdict_word verdict.BadFile = codes "bad lexicon"
verdict_word verdict.BadRecord = codes "bad record"
verdict_word verdict.BadRack = codes "bad rack"
verdict_word verdict.BadRules = codes "bad rules"
verdict_word verdict.BadLine = codes "bad line"

abbrev pub ending_word : Bool → List ℕ
ending_word true = codes "complete"
ending_word false = codes "unfinished"

-- whether a legal game has ended; null for every other verdict
abbrev pub ending_value : Verdict → Json
ending_value (verdict.Legal complete) = string (ending_word complete)
ending_value (verdict.Illegal line fault) = null
ending_value verdict.Unsettled = null
ending_value verdict.Done = null
ending_value verdict.BadList = null
ending_value verdict.BadFile = null
ending_value verdict.BadRecord = null
ending_value verdict.BadRack = null
ending_value verdict.BadRules = null
ending_value verdict.BadLine = null

-- the line of the fault of an illegal game; null for every other verdict
abbrev pub fault_line_value : Verdict → Json
fault_line_value (verdict.Legal complete) = null
fault_line_value (verdict.Illegal line fault) = count line
fault_line_value verdict.Unsettled = null
fault_line_value verdict.Done = null
fault_line_value verdict.BadList = null
fault_line_value verdict.BadFile = null
fault_line_value verdict.BadRecord = null
fault_line_value verdict.BadRack = null
fault_line_value verdict.BadRules = null
fault_line_value verdict.BadLine = null

-- the fault of an illegal game; null for every other verdict
abbrev pub fault_value : Verdict → Json
fault_value (verdict.Legal complete) = null
fault_value (verdict.Illegal line fault) = game_fault_object fault
fault_value verdict.Unsettled = null
fault_value verdict.Done = null
fault_value verdict.BadList = null
fault_value verdict.BadFile = null
fault_value verdict.BadRecord = null
fault_value verdict.BadRack = null
fault_value verdict.BadRules = null
fault_value verdict.BadLine = null

-- a verdict and nothing more
abbrev pub verdict_fields : Verdict → List Field
verdict_fields v =
    (codes "verdict", string (verdict_word v))
    ∷ (codes "line", fault_line_value v)
    ∷ (codes "fault", fault_value v)
    ∷ []

abbrev pub verdict_object : Verdict → Json
verdict_object v = object_of (verdict_fields v)
