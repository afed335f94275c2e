use Rattle.lex_agree.proofs.Bounds.{AreCountedUntil, remaining_after}
use Rattle.lex_agree.proofs.counting.count_strings.Given as goal

abbrev pub invariant-loop-next : goal.invariant-loop-next
invariant-loop-next l = AreCountedUntil l.file.bytes.now l.counts l.next

abbrev pub decreases-loop-next : goal.decreases-loop-next
decreases-loop-next l = remaining_after l.next
