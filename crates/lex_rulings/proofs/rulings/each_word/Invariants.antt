use Rattle.std.proofs.Common.{◌≡◌, map, take}
use Rattle.lex_rulings.specs.Rulings.{is_acceptable}
use Rattle.lex_rulings.proofs.rulings.each_word.Given as goal

abbrev pub invariant-loop-word : goal.invariant-loop-word
invariant-loop-word l = l.each.items ≡ map (is_acceptable l.list) (take l.word-index l.words)
