use Rattle.std.proofs.Common.{◌≡◌}
use Rattle.lex_file.specs.FileWords.{words_in}
use Rattle.lex_file.specs.Masks.{labels_within}
use Rattle.lex_file.proofs.masks.count_labels.Given as goal

abbrev pub invariant-loop-place : goal.invariant-loop-place
invariant-loop-place l = l.labels ≡ labels_within (words_in l.body) l.place
