use Rattle.std.proofs.Common.{◌≡◌, map, take}
use Rattle.explain_clues.specs.Words.{word_sum, sum_in}
use Rattle.explain_clues.proofs.words.words_on.Given as goal

abbrev pub invariant-loop-run : goal.invariant-loop-run
invariant-loop-run l = map sum_in l.words.items ≡ map (word_sum l.rules l.after l.tiles) (take l.run-index l.runs)
