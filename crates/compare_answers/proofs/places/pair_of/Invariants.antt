use Rattle.std.proofs.Common.{ℕ, ◌<◌}
use Rattle.compare_answers.specs.Places.{IsPairAt}
use Rattle.compare_answers.proofs.places.pair_of.Given as goal

abbrev pub invariant-loop-index : goal.invariant-loop-index
invariant-loop-index l = record { none : (k : ℕ) → k < l.index → IsPairAt l.sheets l.choice l.place k → ⊥ }
