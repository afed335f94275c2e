use Rattle.std.proofs.Common.{◌≡◌, ◌-◌, ◌≤◌, length}
use Rattle.lex_file.specs.FileWords.{words_in}
use Rattle.lex_file.specs.MaskShapes.{nodes_fault}
use Rattle.lex_file.proofs.mask_checks.check_nodes.Given as goal

-- the nodes passed have no fault
abbrev pub invariant-loop-place : goal.invariant-loop-place
invariant-loop-place l =
    record {
      inside : l.place ≤ length (words_in l.body);
      passed : nodes_fault (words_in l.body) (length (words_in l.body)) 0 ≡ nodes_fault (words_in l.body) (length (words_in l.body) - l.place) l.place;
    }

abbrev pub decreases-loop-place : goal.decreases-loop-place
decreases-loop-place l = length (words_in l.body) - l.place
