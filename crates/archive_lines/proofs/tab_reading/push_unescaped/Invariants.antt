use Rattle.std.proofs.Common.{◌≡◌, ◌++◌, length}
use Rattle.archive_lines.specs.TabLines.{unescaped, unescaped_after}
use Rattle.archive_lines.proofs.tab_reading.push_unescaped.Given as goal

abbrev pub invariant-loop-remaining : goal.invariant-loop-remaining
invariant-loop-remaining l = l.out.items ++ unescaped_after l.following l.remaining ≡ l.fn.out.items ++ unescaped l.field

abbrev pub decreases-loop-remaining : goal.decreases-loop-remaining
decreases-loop-remaining l = length l.remaining
