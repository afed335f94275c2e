use Rattle.std.proofs.Common.{rules, ◌<◌, ℕ, Bool, List, [], get_or, arith}
use Rattle.std.specs.Prelude.{slice_index}
use Rattle.gen_cross.proofs.Filling.{values_more}
use Rattle.gen_moves.specs.Bounds.{AreOffers}
use Rattle.gen_moves.specs.Starts.{AreUnder}
use Rattle.gen_moves.proofs.anchors.all_bounds.Goals as goal

pub loop-line-preserved : goal.loop-line-preserved
loop-line-preserved c = record {
  size = search rules;
  passed =
      values_more
      (λ k v. (g : List ℕ → Bool) → AreOffers c.args.rules.now c.args.worth.points c.args.worth.ones c.args.board.now g (get_or c.args.lines.now k []) c.args.rack.now c.args.dir k
      → (h : ℕ) → h < 15 → AreUnder c.args.rules.now c.args.board.now g (get_or c.args.lines.now k []) c.args.rack.now c.args.dir k h (slice_index v h))
      c.loop-line.bounds [] c.line_bounds.result c.loop-line.line (omega arith) c.loop-line.invariant.passed c.line_bounds.ensures;
}

pub returns : goal.returns
returns c = λ line below. c.loop-line.invariant.passed line (omega arith)
