use Rattle.std.proofs.Common.{◌≡◌, map}
use Rattle.repair_json.specs.Sheets.{changed_to, line_of}
use Rattle.repair_json.proofs.sheets.changed_lines.Given as goal

abbrev pub invariant-loop-place : goal.invariant-loop-place
invariant-loop-place l = l.lines.items ≡ map line_of (changed_to l.slip l.right l.place)
