use Rattle.std.proofs.Common.{arith}
use Rattle.gen_sinks.proofs.Keeping.{insert_full, insert_room, insert_after}
use Rattle.gen_sinks.proofs.placing.put_at.Goals as goal

pub returns-then-not-is_full : goal.returns-then-not-is_full
returns-then-not-is_full g c = search (arith, insert_room)

pub returns-then-place : goal.returns-then-place
returns-then-place g c = search (arith, insert_full)

pub returns-else-place : goal.returns-else-place
returns-else-place g c = search (arith, insert_after)
