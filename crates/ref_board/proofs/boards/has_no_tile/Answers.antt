use Rattle.std.proofs.Common.{length, refl, arith, ⊎_elim}
use Rattle.std.specs.Prelude.{None}
use Rattle.std.proofs.lemmas.List.{get_or_past}
use Rattle.std.proofs.lemmas.Bool.{cases_lt}
use Rattle.ref_board.proofs.boards.has_no_tile.Goals as goal

pub returns : goal.returns
returns c =
    let cells = c.args.cells.now in
    (λ _ square. ⊎_elim (λ h. c.loop-cell.invariant square (omega arith)) (λ h. get_or_past cells square None h) (cases_lt square (length cells)), λ _. refl)
