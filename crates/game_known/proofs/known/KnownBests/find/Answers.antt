use Rattle.std.proofs.Common.{rules, sym, ◌∙◌}
use Rattle.std.proofs.lemmas.Bool.{eqb-true}
use Rattle.game_notes.proofs.SameBoards.{same_tile, same_board, same_numbers}
use Rattle.game_known.proofs.TableLaws.{is_found}
use Rattle.game_known.proofs.known.KnownBests.find.Goals as goal

pub returns-then-eq-2 : goal.returns-then-eq-2
returns-then-eq-2 c = λ by list are.
    is_found by list c.args.self.now c.in_ok-place.place c.index.result.now c.in_ok-kept.kept.now c.args.board.now c.args.rack.now are (search rules) c.index.ensures
    (sym c.in_ok-kept.ensures.value) (same_board _ same_tile _ _ (sym c.eq.ensures ∙ c.if-eq.true)) (same_numbers _ eqb-true _ _ (sym c.eq-then-eq.ensures ∙ c.if-eq-2.true))
