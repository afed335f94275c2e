use Rattle.std.proofs.Common.{◌≡◌, ◌*◌, ◌≤◌}
use Rattle.gen_moves.specs.Bounds.{rack_points, rack_ones}
use Rattle.gen_moves.proofs.anchors.rack_worth.Given as goal

abbrev pub invariant-loop-kind : goal.invariant-loop-kind
invariant-loop-kind l = record {
  points : l.points ≡ rack_points l.rules l.rack l.kind;
  ones : l.ones ≡ rack_ones l.rules l.rack l.kind;
  few_points : l.points ≤ 65025 * l.kind;
  few_ones : l.ones ≤ 65025 * l.kind;
}
