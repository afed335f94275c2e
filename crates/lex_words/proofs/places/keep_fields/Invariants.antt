-- The front of the buffer is what is kept of the bytes so far.
use Rattle.std.proofs.Common.{◌≡◌, ◌≤◌, length, take}
use Rattle.lex_words.specs.Places.{IsKept}
use Rattle.lex_words.proofs.places.keep_fields.Given as goal

abbrev pub invariant-loop-byte : goal.invariant-loop-byte
invariant-loop-byte l = record {
  room : length l.buf ≡ length l.initial.buf;
  few : l.kept.len ≤ l.byte-index;
  kept : IsKept l.fn.place (take l.byte-index l.chunk) l.kept.place (take l.kept.len l.buf);
}
