use Rattle.std.proofs.Common.{ℕ, ◌<◌, get_or}
use Rattle.compare_repaired.specs.Repaired.{AreAfter}
use Rattle.compare_repaired.specs.declared.repaired.RepairedChoice.{RepairedChoice}
use Rattle.compare_repaired.proofs.ahead.is_ahead.Given as goal

abbrev pub invariant-loop-choice : goal.invariant-loop-choice
invariant-loop-choice l = record { following : (k : ℕ) (d : RepairedChoice) → k < l.choice-index → AreAfter l.best (get_or l.tried k d) }
