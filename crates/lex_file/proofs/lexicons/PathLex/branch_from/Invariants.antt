use Rattle.std.proofs.Common.{ℕ, ◌<◌, ◌≤◌}
use Rattle.lex_file.specs.Lexicons.{NoTail}
use Rattle.lex_file.proofs.lexicons.PathLex.branch_from.Given as goal

-- no tail of the node begins with a label that was tried
abbrev pub invariant-loop-label : goal.invariant-loop-label
invariant-loop-label g l = (label : ℕ) → l.from ≤ label → label < l.label → NoTail (g.Self.PathLex.tail l.self) l.node label
