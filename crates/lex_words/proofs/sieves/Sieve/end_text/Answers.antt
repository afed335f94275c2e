use Rattle.std.proofs.Common.{rules}
use Rattle.lex_words.proofs.Steps.{remaining_last, remaining_empty}
use Rattle.lex_words.proofs.sieves.Sieve.end_text.Goals as goal

pub returns-clause-keeps : goal.returns-clause-keeps
returns-clause-keeps c = λ remaining ends.
    rw (c.requires.ready, c.requires.chunk, c.end_text.ensures.kept, c.end_text.ensures.held, c.end_text.ensures.first) (remaining_last _ _ remaining ends)

pub returns-clause-end : goal.returns-clause-end
returns-clause-end c = λ none remaining ends.
    rw (c.requires.chunk, c.end_text.ensures.held, c.end_text.ensures.first) (remaining_empty _ _ _ _ c.end_text.ensures.kept (search rules) ends)
