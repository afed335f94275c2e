use Rattle.std.proofs.Common.{sym, arith}
use Rattle.ref_tiles.proofs.LetterLemmas.{letter_at_letter, letter_at_past}
use Rattle.ref_tiles.proofs.letters.Letter.new.Goals as goal

pub returns-then-index-lt26 : goal.returns-then-index-lt26
returns-then-index-lt26 c = sym (letter_at_letter _)

pub returns-else-index-lt26 : goal.returns-else-index-lt26
returns-else-index-lt26 c = search (arith, letter_at_past)
