use Rattle.std.proofs.Common.{◌≡◌, ◌++◌, take}
use Rattle.std.specs.List.{flat_map}
use Rattle.repair_sheets.specs.Listing.{unread_slip}
use Rattle.repair_sheets.proofs.listing.push_lines.Given as goal

abbrev pub invariant-loop-line : goal.invariant-loop-line
invariant-loop-line l = l.slips.items ≡ l.initial.slips.items ++ flat_map unread_slip (take l.line-index l.lines)
