-- Nothing was given out so far.
use Rattle.std.proofs.Common.{◌≡◌, length}
use Rattle.std.specs.Io.KnownBytes.{Keeps}
use Rattle.lex_words.specs.Reading.{remaining_in}
use Rattle.lex_words.proofs.sieves.Sieve.read.Given as goal

abbrev pub invariant-loop : goal.invariant-loop
invariant-loop g l = record {
  room : length l.buf ≡ length l.initial.buf;
  keeps : Keeps (remaining_in l.initial.self (g.R.Read.remaining l.initial.inner)) (remaining_in l.self (g.R.Read.remaining l.inner));
}
