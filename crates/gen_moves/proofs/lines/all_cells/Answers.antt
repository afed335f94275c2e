use Rattle.std.proofs.Common.{rules, [], arith}
use Rattle.gen_cross.proofs.Filling.{values_more}
use Rattle.gen_moves.specs.BoardLines.{IsLineOf}
use Rattle.gen_moves.proofs.lines.all_cells.Goals as goal

pub loop-line-preserved : goal.loop-line-preserved
loop-line-preserved c = record {
  size = search rules;
  passed = λ words masks.
      values_more (λ k v. IsLineOf words c.args.dir c.args.board.now k v) c.loop-line.lines [] c.line_cells.result c.loop-line.line (omega arith)
      (c.loop-line.invariant.passed words masks) (c.line_cells.ensures words masks);
}

pub returns : goal.returns
returns c = λ words masks line below. c.loop-line.invariant.passed words masks line (omega arith)
