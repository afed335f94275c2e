use Rattle.std.proofs.Common.{false}
use Rattle.lex_file.specs.declared.arcs.Arc.{Arc}
use Rattle.lex_build.proofs.MaskBits.{label_low, accept_more, accept_passed}
use Rattle.lex_build.proofs.mask_writing.accept_word.Goals.{then-arc, else-arc}
use Rattle.lex_build.proofs.mask_writing.accept_word.Goals as goal

-- what follows the end of a slice of arcs
abbrev no_arc : Arc
no_arc = record { label = 0; accepts = false; target = 0 }

pub loop-arc-preserved : goal.loop-arc-preserved
loop-arc-preserved c = elim c.if-arc.branch [
  | then-arc w ↦
      rw w.word-is
      (accept_more c.loop-arc.word c.args.arcs.now c.loop-arc.arc-index no_arc c.loop-arc.invariant c.loop-arc-test.true
      (label_low c.args.arcs.now c.loop-arc.arc-index no_arc c.requires c.loop-arc-test.true) w.if-arc.true)
  | else-arc w ↦ rw w.word-is (accept_passed c.loop-arc.word c.args.arcs.now c.loop-arc.arc-index no_arc c.loop-arc.invariant c.loop-arc-test.true w.if-arc.false)
]
