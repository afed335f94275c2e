-- The fault of a draft as an object.
use Rattle.std.specs.Prelude.{ℕ, List, [], ◌∷◌, ◌++◌, codes, Option, Some, None}
use Rattle.json.specs.Json.{Json, null, string}
use Rattle.json_trees.specs.Values.{Field, object_of}
use Rattle.engine_stages.specs.declared.input_faults.InputFault.TheVariants as input
use Rattle.gcg_drafts.specs.declared.amiss.Amiss.{Amiss}
use Rattle.gcg_drafts.specs.declared.amiss.Amiss.TheVariants as amiss
use Rattle.draft_answers.specs.declared.faults.DraftFault.{DraftFault}
use Rattle.json_base.specs.Refusals.{refused_fields}

-- what is amiss with the fields of a line, by its name
abbrev pub amiss_word : Amiss → List ℕ
amiss_word amiss.NoEvent = codes "no event"
amiss_word amiss.NoWord = codes "no word"
amiss_word amiss.NoScore = codes "no score"
amiss_word amiss.TooMany = codes "too many"

-- null if the fields of the line are those of a draft
abbrev pub amiss_value : Option Amiss → Json
amiss_value None = null
amiss_value (Some what) = string (amiss_word what)

-- the fields of a bad record, and after them which field the line lacks, or that it has too many
abbrev pub bad_fields : DraftFault → List Field
bad_fields bad = refused_fields (input.Game bad.fault) ++ (codes "amiss", amiss_value bad.amiss) ∷ []

abbrev pub bad_object : DraftFault → Json
bad_object bad = object_of (bad_fields bad)
