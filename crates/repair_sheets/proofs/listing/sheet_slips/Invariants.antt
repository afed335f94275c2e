use Rattle.std.proofs.Common.{◌≡◌, ◌++◌}
use Rattle.std.specs.List.{flat_map, range_with_len}
use Rattle.repair_sheets.specs.Listing.{running_at, unread_slips}
use Rattle.repair_sheets.proofs.listing.sheet_slips.Given as goal

abbrev pub invariant-loop-place : goal.invariant-loop-place
invariant-loop-place l = l.slips.items ≡ unread_slips l.text ++ flat_map (running_at l.events) (range_with_len 0 l.place)
