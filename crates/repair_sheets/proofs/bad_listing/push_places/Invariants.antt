use Rattle.std.proofs.Common.{◌≡◌, ◌++◌}
use Rattle.std.specs.List.{flat_map, range_with_len}
use Rattle.repair_sheets.specs.BadListing.{place_slip}
use Rattle.repair_sheets.proofs.bad_listing.push_places.Given as goal

abbrev pub invariant-loop-square : goal.invariant-loop-square
invariant-loop-square l = l.slips.items ≡ l.initial.slips.items ++ flat_map (place_slip l.number l.dir) (range_with_len 0 l.square)
