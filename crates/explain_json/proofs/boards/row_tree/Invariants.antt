use Rattle.std.proofs.Common.{◌≡◌}
use Rattle.explain_json.specs.Words.{marks_to}
use Rattle.explain_json.proofs.boards.row_tree.Given as goal

abbrev pub invariant-loop-column : goal.invariant-loop-column
invariant-loop-column l = l.marks.items ≡ marks_to l.squares l.row l.column
