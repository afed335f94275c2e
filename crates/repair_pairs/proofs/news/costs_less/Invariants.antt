use Rattle.std.proofs.Common.{ℕ, ◌<◌, get_or}
use Rattle.repair_single.specs.Costs.{rank_of}
use Rattle.repair_single.specs.declared.repair.Repair.{Repair}
use Rattle.repair_pairs.proofs.news.costs_less.Given as goal

abbrev pub invariant-loop-single : goal.invariant-loop-single
invariant-loop-single l = record { cheaper : (k : ℕ) (d : Repair) → k < l.single-index → l.fn.cost < (rank_of (get_or l.singles k d)).cost }
