use Rattle.std.proofs.Common.{ℕ, ◌<◌, get_or}
use Rattle.compare_alignments.specs.declared.pairs.Pair.{Pair}
use Rattle.compare_answers.specs.Agreements.{NoOtherRacks}
use Rattle.compare_answers.proofs.agreements.have_no_other_racks.Given as goal

abbrev pub invariant-loop-pair : goal.invariant-loop-pair
invariant-loop-pair l = record { none : (k : ℕ) (d : Pair) → k < l.pair-index → NoOtherRacks l.sheets (get_or l.pairs k d) }
