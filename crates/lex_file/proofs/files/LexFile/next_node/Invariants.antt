use Rattle.std.proofs.Common.{◌≡◌, ℕ, ◌<◌, ◌≤◌, false}
use Rattle.lex_file.specs.Shapes.{is_file_node}
use Rattle.lex_file.proofs.files.LexFile.next_node.Given as goal

-- no number passed names a node
abbrev pub invariant-loop-place : goal.invariant-loop-place
invariant-loop-place l = (n : ℕ) → l.number < n → n ≤ l.place → is_file_node l.self.bytes.now n ≡ false
