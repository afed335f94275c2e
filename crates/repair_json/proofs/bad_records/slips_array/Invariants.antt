use Rattle.std.proofs.Common.{◌≡◌, map, take}
use Rattle.json_trees.specs.Trees.{view}
use Rattle.repair_json.specs.BadRecords.{slip_object}
use Rattle.repair_json.proofs.bad_records.slips_array.Given as goal

abbrev pub invariant-loop-repair : goal.invariant-loop-repair
invariant-loop-repair l = map view l.trees.items ≡ map (slip_object l.line) (take l.repair-index l.repairs)
