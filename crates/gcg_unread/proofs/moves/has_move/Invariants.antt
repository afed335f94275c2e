use Rattle.std.proofs.Common.{◌≡◌, length}
use Rattle.text_lines.specs.Fields.{fields_of}
use Rattle.gcg_unread.specs.Moves.{has_move}
use Rattle.gcg_unread.proofs.moves.has_move.Given as goal

abbrev pub invariant-loop-field : goal.invariant-loop-field
invariant-loop-field l = has_move (fields_of l.remaining) ≡ has_move (fields_of l.line)

abbrev pub decreases-loop-field : goal.decreases-loop-field
decreases-loop-field l = length (fields_of l.remaining)
