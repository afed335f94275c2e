use Rattle.repair_single.specs.Counting.{Leaves, count_in_rows}
use Rattle.repair_single.proofs.counting.after_rows.Given as goal

abbrev pub invariant-loop-place : goal.invariant-loop-place
invariant-loop-place l = Leaves l.fn.room (count_in_rows l.list l.events l.rows l.place) l.room
