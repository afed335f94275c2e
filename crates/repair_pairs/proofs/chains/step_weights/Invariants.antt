use Rattle.std.proofs.Common.{◌≡◌, ◌≤◌, ◌*◌, map, sum, take}
use Rattle.repair_pairs.specs.Totals.{step_weight}
use Rattle.repair_pairs.proofs.chains.step_weights.Given as goal

abbrev pub invariant-loop-number : goal.invariant-loop-number
invariant-loop-number l = record {
  weight : l.weight ≡ sum (map step_weight (take l.number l.steps));
  few : l.weight ≤ 18446744073709551615 * l.number;
}
