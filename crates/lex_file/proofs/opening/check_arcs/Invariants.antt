use Rattle.std.proofs.Common.{◌≡◌, ◌-◌, ◌≤◌, None}
use Rattle.lex_file.specs.FileWords.{words_in}
use Rattle.lex_file.specs.Nodes.{start_at}
use Rattle.lex_file.specs.Shapes.{IsLeast, arcs_fault}
use Rattle.lex_file.proofs.opening.check_arcs.Given as goal

abbrev pub invariant-loop-place : goal.invariant-loop-place
invariant-loop-place l =
    record {
      fine : arcs_fault (words_in l.arcs) l.place ≡ None;
      node : l.following ≡ start_at (words_in l.arcs) l.place - 2;
      order : IsLeast (words_in l.arcs) l.place (27 - l.room);
      few : l.room ≤ 27;
    }
