use Rattle.std.proofs.Common.{◌≡◌, map, take}
use Rattle.json_trees.specs.Trees.{view}
use Rattle.repair_json.specs.Sheets.{sheet_object}
use Rattle.repair_json.proofs.answers.sheets_array.Given as goal

abbrev pub invariant-loop-repair : goal.invariant-loop-repair
invariant-loop-repair l = map view l.trees.items ≡ map (sheet_object l.players) (take l.repair-index l.repairs)
