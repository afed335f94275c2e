use Rattle.std.proofs.Common.{rules}
use Rattle.std.proofs.KnownBytes.{Keeps-trans}
use Rattle.lex_words.proofs.Steps.{remaining_read, remaining_kept}
use Rattle.lex_words.proofs.sieves.Sieve.read_chunk.Goals as goal

pub returns-in_err-read-clause-keeps : goal.returns-in_err-read-clause-keeps
returns-in_err-read-clause-keeps g c =
    rw (c.requires.ready, c.requires.chunk, c.in_ok-reserve.ensures.items, c.clear.ensures.items) (remaining_kept _ _ _ _ c.in_err-read.ensures.bytes)

pub returns-then-read-gt0-clause-keeps : goal.returns-then-read-gt0-clause-keeps
returns-then-read-gt0-clause-keeps g c =
    rw (c.requires.ready, c.requires.chunk, c.in_ok-extend_from_slice.ensures.items, c.in_ok-reserve.ensures.items, c.clear.ensures.items)
    (remaining_read _ _ _ _ _ c.in_ok-read.ensures.bytes.0)

pub returns-clause-keeps : goal.returns-clause-keeps
returns-clause-keeps g c =
    Keeps-trans _ _ _
    (rw (c.requires.ready, c.requires.chunk, c.in_ok-extend_from_slice.ensures.items, c.in_ok-reserve.ensures.items, c.clear.ensures.items)
    (remaining_read _ _ _ _ _ c.in_ok-read.ensures.bytes.0))
    (c.end_text.ensures.keeps _ (search rules))
