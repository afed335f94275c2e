use Rattle.std.proofs.Common.{◌-◌, ◌≡◌, ℕ, List, ◌++◌, ◌≤◌}
use Rattle.lex_file.specs.Walking.{strings, IsOpen}
use Rattle.gen_cross.specs.Paths.{labels_of, labels_down}
use Rattle.gen_cross.proofs.masks.walk_back.Given as goal

-- what the labels passed lead to, and the labels that are left
abbrev pub invariant-loop-place : goal.invariant-loop-place
invariant-loop-place g l =
    record {
      low : l.stretch.first ≤ l.place;
      high : l.place ≤ l.stretch.end;
      node : IsOpen (g.L.PathLex.is_node l.lex) l.step.next;
      left : (t : List ℕ) → strings (g.L.PathLex.tail l.lex) l.fn.at (labels_of l.board l.stretch ++ t)
          ≡ strings (g.L.PathLex.tail l.lex) l.step (labels_down l.board l.stretch.dir l.stretch.line l.stretch.first (l.place - l.stretch.first) ++ t);
    }

abbrev pub decreases-loop-place : goal.decreases-loop-place
decreases-loop-place g l = l.place - l.stretch.first
