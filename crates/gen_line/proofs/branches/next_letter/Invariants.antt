use Rattle.std.proofs.Common.{◌≡◌, ◌-◌, ◌<◌, ◌≤◌, ℕ, true}
use Rattle.lex_file.specs.Lexicons.{NoTail, IsRemaining}
use Rattle.gen_line.specs.Model.{shows}
use Rattle.gen_line.proofs.branches.next_letter.Given as goal

abbrev pub invariant-loop-on : goal.invariant-loop-on
invariant-loop-on g l =
    record {
      low : l.from ≤ l.next;
      high : l.next ≤ 27;
      rest : IsRemaining (g.L.PathLex.is_rest l.lex) l.node l.next l.remaining;
      passed : (label : ℕ) → l.from ≤ label → label < l.next → shows l.free l.tiles.rack label ≡ true → NoTail (g.L.PathLex.tail l.lex) l.node label;
    }

abbrev pub decreases-loop-on : goal.decreases-loop-on
decreases-loop-on g l = 27 - l.next
