use Rattle.std.proofs.Common.{rules, ◌≡◌, subst, arith}
use Rattle.ref_board.specs.Lines.{square_at}
use Rattle.gen_line.specs.declared.cells.Cell.TheVariants.{Old}
use Rattle.gen_cross.proofs.Filling.{values_more}
use Rattle.gen_moves.specs.BoardLines.{IsCellOf}
use Rattle.gen_moves.proofs.CellLaws.{line_is}
use Rattle.gen_moves.proofs.lines.line_cells.Goals as goal

pub loop-place-preserved : goal.loop-place-preserved
loop-place-preserved c =
    let here : c.on_line.result ≡ square_at c.args.dir c.args.line c.loop-place.place = search rules in
    record {
      size = search rules;
      passed = λ words masks.
          values_more (λ k v. IsCellOf words c.args.dir c.args.board.now (square_at c.args.dir c.args.line k) v) c.loop-place.cells (Old 0) c.cell_of.result c.loop-place.place (omega arith)
          (c.loop-place.invariant.passed words masks)
          (subst (λ s. IsCellOf words c.args.dir c.args.board.now s c.cell_of.result) here (c.cell_of.ensures words masks));
    }

pub returns : goal.returns
returns c = λ words masks.
    line_is words c.args.dir c.args.board.now c.args.line c.loop-place.cells c.loop-place.invariant.size
    (λ place below. c.loop-place.invariant.passed words masks place (omega arith))
