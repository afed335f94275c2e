use Rattle.std.proofs.Common.{arith}
use Rattle.std.proofs.lemmas.Bool.Decides.{nat_tests}
use Rattle.lex_words.proofs.Steps.{remaining_more}
use Rattle.lex_words.proofs.sieves.Sieve.take_byte.Goals as goal

pub returns : goal.returns
returns c = λ remaining.
    rw (c.requires.ready, c.requires.byte, c.in_ok-push.ensures.held, c.in_ok-push.ensures.first) (remaining_more _ _ _ _ remaining (grind (arith, nat_tests)))
