use Rattle.std.proofs.Common.{IfSome, sym, ◌∙◌, subst}
use Rattle.std.proofs.lemmas.Bool.{eqb-true}
use Rattle.game_notes.specs.Latest.{IsFound}
use Rattle.game_notes.proofs.SameBoards.{same_tile, same_board, same_numbers}
use Rattle.game_notes.proofs.LatestLaws.{found_for}
use Rattle.game_notes.proofs.latest.best_for.Goals as goal

pub returns-then-eq-2 : goal.returns-then-eq-2
returns-then-eq-2 c = λ by list is.
    found_for by list c.in_ok-found.found.now c.copy_best.result c.args.board.now c.args.rack.now
    (subst (λ o. IfSome o (IsFound by list)) (sym c.in_ok-found.ensures.value) is) c.copy_best.ensures
    (same_board _ same_tile _ _ (sym c.eq.ensures ∙ c.if-eq.true)) (same_numbers _ eqb-true _ _ (sym c.eq-then-eq.ensures ∙ c.if-eq-2.true))
