-- What repairs a text that is not a record, as an object.
use Rattle.std.specs.Prelude.{ℕ, ◌*◌, List, [], ◌∷◌, ◌++◌, codes, length, map, Option, Some, None}
use Rattle.json.specs.Json.{Json, boolean, null, string}
use Rattle.json_trees.specs.Values.{Field, array_of, count, object_of}
use Rattle.engine_stages.specs.declared.input_faults.InputFault.TheVariants as input
use Rattle.gcg_read.specs.declared.faults.ReadFault.{ReadFault}
use Rattle.repair_sheets.specs.declared.slips.SheetSlip.{SheetSlip}
use Rattle.repair_sheets.specs.declared.slips.SheetSlip.TheVariants as sheet
use Rattle.repair_sheets.specs.Weights.{weight_of}
use Rattle.repair_answers.specs.declared.bad_records.LineRepairs.{LineRepairs}
use Rattle.repair_answers.specs.declared.sheet_repair.SheetRepair.{SheetRepair}
use Rattle.json_base.specs.Refusals.{refused_fields}
use Rattle.json_base.specs.Values.{place_value}
use Rattle.repair_json.specs.Evidence.{evidence_object}
use Rattle.repair_json.specs.Slips.{sheet_slip_name}

-- the place that is not written, if that is what is wrong
abbrev pub missing_place : SheetSlip → Json
missing_place (sheet.Unread line) = null
missing_place (sheet.ExtraMark number) = null
missing_place (sheet.NoPlace number at dir) = place_value at dir
missing_place (sheet.Running place what) = null

-- a slip of the line that is not one of a record
abbrev pub slip_fields : (line : ℕ) → SheetRepair → List Field
slip_fields line repair =
    (codes "slip", string (sheet_slip_name repair.slip))
    ∷ (codes "line", count line)
    ∷ (codes "place", missing_place repair.slip)
    ∷ (codes "settled", boolean repair.alone.is_game)
    ∷ (codes "weight", count (weight_of repair.slip))
    ∷ (codes "cost", count repair.cost)
    ∷ (codes "evidence", evidence_object repair.alone.remains (2 * length repair.right))
    ∷ []

abbrev pub slip_object : (line : ℕ) → SheetRepair → Json
slip_object line repair = object_of (slip_fields line repair)

abbrev pub found_in : Option LineRepairs → List SheetRepair
found_in None = []
found_in (Some repairs) = repairs.found.items

-- the record is bad, and the slips of the line of its fault that repair it
abbrev pub bad_fields : ReadFault → Option LineRepairs → List Field
bad_fields fault repairs = refused_fields (input.Game fault) ++ (codes "line_slips", array_of (map (slip_object fault.line) (found_in repairs))) ∷ []

abbrev pub bad_object : ReadFault → Option LineRepairs → Json
bad_object fault repairs = object_of (bad_fields fault repairs)
