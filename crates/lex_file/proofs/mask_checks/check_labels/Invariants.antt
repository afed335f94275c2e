use Rattle.std.proofs.Common.{◌≡◌, ◌-◌, ◌≤◌, None}
use Rattle.lex_file.specs.FileWords.{words_in}
use Rattle.lex_file.specs.MaskShapes.{labels_fault}
use Rattle.lex_file.proofs.mask_checks.check_labels.Given as goal

abbrev pub invariant-loop-label : goal.invariant-loop-label
invariant-loop-label l =
    record {
      low : l.from ≤ 27;
      passed : labels_fault (words_in l.body) l.place l.from ≡ None;
    }

abbrev pub decreases-loop-label : goal.decreases-loop-label
decreases-loop-label l = 27 - l.from
