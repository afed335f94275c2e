use Rattle.std.proofs.Common.{◌≡◌, true, take}
use Rattle.std.specs.List.{list_all}
use Rattle.lex_rulings.specs.Rulings.{is_acceptable}
use Rattle.lex_rulings.proofs.rulings.all_words.Given as goal

abbrev pub invariant-loop-word : goal.invariant-loop-word
invariant-loop-word l = list_all (is_acceptable l.list) (take l.word-index l.words) ≡ true
