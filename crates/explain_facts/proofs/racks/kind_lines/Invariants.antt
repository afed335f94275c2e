use Rattle.std.proofs.Common.{◌≡◌, ◌++◌, drop}
use Rattle.explain_facts.specs.Racks.{kind_lines}
use Rattle.explain_facts.proofs.racks.kind_lines.Given as goal

abbrev pub invariant-loop-k : goal.invariant-loop-k
invariant-loop-k l = kind_lines l.kind l.past ≡ l.lines.items ++ kind_lines l.kind (drop l.k l.past)
