use Rattle.lex_words.proofs.Steps.{remaining_first}
use Rattle.lex_words.proofs.sieves.Sieve.new.Goals as goal

pub returns : goal.returns
returns c = λ remaining. rw (c.new-2.ensures.items, c.first.ensures.first, c.first.ensures.held, c.new.ensures.items) (remaining_first remaining)
