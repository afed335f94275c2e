use Rattle.std.proofs.Common.{◌≡◌, drop}
use Rattle.ref_tiles.specs.Counting.{no_tiles}
use Rattle.explain_facts.specs.Racks.{remaining_after}
use Rattle.explain_facts.proofs.racks.remaining_after.Given as goal

abbrev pub invariant-loop-k : goal.invariant-loop-k
invariant-loop-k l = remaining_after no_tiles l.lines ≡ remaining_after l.known (drop l.k l.lines)
