-- Nothing was kept of the chunks so far.
use Rattle.std.proofs.Common.{◌≡◌, length, option_map}
use Rattle.std.specs.Io.KnownBytes.{Keeps}
use Rattle.lex_words.specs.Places.{fields_from}
use Rattle.lex_words.proofs.fields.read_fields.Given as goal

abbrev pub invariant-loop : goal.invariant-loop
invariant-loop g l = record {
  room : length l.buf ≡ length l.initial.buf;
  chunk : length l.chunk ≡ 8192;
  keeps : Keeps (option_map (fields_from l.initial.place) (g.R.Read.remaining l.initial.inner))
      (option_map (fields_from l.place) (g.R.Read.remaining l.inner));
}
