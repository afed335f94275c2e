use Rattle.std.proofs.Common.{◌≡◌, map, take}
use Rattle.ref_play.specs.Words.{letters_of, items_of}
use Rattle.ref_play.proofs.spelling.words_of.Given as goal

abbrev pub invariant-loop-run : goal.invariant-loop-run
invariant-loop-run l = items_of l.words.items ≡ map (letters_of l.after) (take l.run-index l.runs)
