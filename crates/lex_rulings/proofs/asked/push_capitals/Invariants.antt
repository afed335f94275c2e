use Rattle.std.proofs.Common.{◌≡◌, ◌++◌, take}
use Rattle.lex_list.specs.Lists.{capitals}
use Rattle.lex_rulings.proofs.asked.push_capitals.Given as goal

abbrev pub invariant-loop-byte : goal.invariant-loop-byte
invariant-loop-byte l = l.letters.items ≡ l.initial.letters.items ++ capitals (take l.byte-index l.text)
