use Rattle.std.proofs.Common.{arith, ◌∙◌}
use Rattle.std.proofs.lemmas.List.{take_more}
use Rattle.lex_words.proofs.FieldSteps.{kept_more}
use Rattle.lex_words.proofs.places.keep_fields.Goals as goal

pub loop-byte-preserved : goal.loop-byte-preserved
loop-byte-preserved c = record {
  room = c.take_byte.ensures.room ∙ c.loop-byte.invariant.room;
  few = omega (arith, c.take_byte.ensures.few, c.loop-byte.invariant.few);
  kept = λ rest.
      rw (take_more c.args.chunk.now c.loop-byte.byte-index 0 c.loop-byte-test.true, c.take_byte.ensures.kept, c.take_byte.ensures.place)
      (kept_more _ _ _ _ _ c.loop-byte.invariant.kept rest);
}
