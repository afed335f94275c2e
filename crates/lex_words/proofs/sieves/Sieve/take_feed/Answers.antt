use Rattle.lex_words.proofs.Steps.{remaining_ended}
use Rattle.lex_words.proofs.sieves.Sieve.take_feed.Goals as goal

pub returns : goal.returns
returns c = λ remaining.
    rw (c.requires.ready, c.requires.feed, c.in_ok-end_line.ensures.kept, c.in_ok-end_line.ensures.held, c.in_ok-end_line.ensures.first) (remaining_ended _ _ _ remaining)
