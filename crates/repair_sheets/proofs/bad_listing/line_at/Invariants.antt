use Rattle.std.proofs.Common.{◌≡◌, ◌∷◌, length}
use Rattle.std.specs.List.{slice_split}
use Rattle.text_lines.specs.Lines.{is_feed}
use Rattle.gcg_numbers.specs.Lines.{parts_after}
use Rattle.repair_sheets.specs.BadListing.{line_at}
use Rattle.repair_sheets.proofs.bad_listing.line_at.Given as goal

abbrev pub invariant-loop-number : goal.invariant-loop-number
invariant-loop-number l = line_at l.number (l.cut.line.now ∷ parts_after l.cut.after) ≡ line_at l.fn.number (slice_split is_feed l.text)

abbrev pub decreases-loop-number : goal.decreases-loop-number
decreases-loop-number l = length (parts_after l.cut.after)
