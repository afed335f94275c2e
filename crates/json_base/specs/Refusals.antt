-- The answers that every command may have: an input is bad, the program could not finish, or a lexicon is that of a word list.
use Rattle.std.specs.Prelude.{ℕ, List, [], ◌∷◌, codes, Option, Some, None, option_map}
use Rattle.json.specs.Json.{Json, null, string}
use Rattle.json_trees.specs.Values.{Field, count, object_of, or_null}
use Rattle.gcg_read.specs.declared.faults.ReadFault.{ReadFault}
use Rattle.engine_stages.specs.declared.decisions.Decision.{Decision}
use Rattle.engine_stages.specs.declared.verdicts.Verdict.{Verdict}
use Rattle.engine_stages.specs.declared.input_faults.InputFault.{InputFault}
use Rattle.engine_stages.specs.declared.input_faults.InputFault.TheVariants as input
use Rattle.engine_faults.specs.Inputs.{fault_name_of, line_of, path_of, what_of}
use Rattle.gcg_unread.specs.declared.lines.UnreadLine.{UnreadLine}
use Rattle.json_base.specs.Faults.{input_fault_value, line_value}
use Rattle.json_base.specs.Values.{unread_value}
use Rattle.json_base.specs.Verdicts.{verdict_object}

-- which input is bad, the line of the fault and the fault
abbrev pub refused_fields : InputFault → List Field
refused_fields fault =
    (codes "verdict", string (what_of fault))
    ∷ (codes "line", line_value (line_of fault))
    ∷ (codes "fault", input_fault_value (fault_name_of fault) (path_of fault))
    ∷ []

abbrev pub refused_object : InputFault → Json
refused_object fault = object_of (refused_fields fault)

-- a verdict whose input is bad, or any other
abbrev pub refusal_object : Option InputFault → Verdict → Json
refusal_object (Some fault) v = refused_object fault
refusal_object None v = verdict_object v

abbrev pub decision_object : Decision → Json
decision_object decision = refusal_object decision.fault decision.verdict

-- a text is not a record
abbrev pub bad_record_object : ReadFault → Json
bad_record_object fault = refused_object (input.Game fault)

-- a record has no event
abbrev pub no_game_fields : List UnreadLine → List Field
no_game_fields unread =
    (codes "verdict", string (codes "no game"))
    ∷ (codes "line", null)
    ∷ (codes "fault", null)
    ∷ (codes "unread_lines", unread_value unread)
    ∷ []

abbrev pub no_game_object : List UnreadLine → Json
no_game_object unread = object_of (no_game_fields unread)

-- why the program could not finish, and the name of the file that it was about, if there is one
abbrev pub trouble_fields : (what : List ℕ) → (file : Option (List ℕ)) → List Field
trouble_fields what file =
    (codes "verdict", string what)
    ∷ (codes "line", null)
    ∷ (codes "fault", null)
    ∷ (codes "file", or_null (option_map string file))
    ∷ []

abbrev pub trouble_object : (what : List ℕ) → (file : Option (List ℕ)) → Json
trouble_object what file = object_of (trouble_fields what file)

-- the file is the lexicon of a list with this many words
abbrev pub checked_fields : (words : ℕ) → List Field
checked_fields words =
    (codes "verdict", string (codes "ok"))
    ∷ (codes "line", null)
    ∷ (codes "fault", null)
    ∷ (codes "words", count words)
    ∷ []

abbrev pub checked_object : (words : ℕ) → Json
checked_object words = object_of (checked_fields words)
