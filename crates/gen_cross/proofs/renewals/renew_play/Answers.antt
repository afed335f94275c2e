use Rattle.std.proofs.Common.{get_or, subst, sym, ◌∙◌}
use Rattle.ref_board.specs.declared.directions.Dir.{Dir}
use Rattle.gen_cross.specs.Values.{no_value, IsValue}
use Rattle.gen_cross.proofs.PlayTiles.{agree_off, other_back}
use Rattle.gen_cross.proofs.renewals.renew_play.Goals as goal

pub renew_stretch-requires-clause-across : goal.renew_stretch-requires-clause-across
renew_stretch-requires-clause-across g c = c.stretch_of-stretch.ensures.dir ∙ other_back c.args.play.now.dir c.other.result c.other.ensures

pub returns-clause-along : goal.returns-clause-along
returns-clause-along g c = λ words before stands differ right. c.renew_tiles.ensures words before stands (rw c.deref.ensures.0 differ) right

pub returns-clause-across : goal.returns-clause-across
returns-clause-across g c =
    λ words before stands differ right s below.
    subst (λ (d : Dir). IsValue c.args.rules.now words d c.args.board.now s (get_or c.renew_stretch.new.values s no_value)) c.other.ensures
    (c.renew_stretch.ensures words before s stands differ.size below
    (agree_off c.other.result before c.args.board.now c.deref-2.result.now c.stretch_of-stretch.result
    (c.stretch_of-stretch.ensures.dir ∙ other_back c.args.play.now.dir c.other.result c.other.ensures)
    (rw c.deref-2.ensures.0 differ) c.stretch_of-stretch.ensures.within s below)
    (subst (λ (d : Dir). IsValue c.args.rules.now words d before s (get_or c.args.across.now s no_value)) (sym c.other.ensures) (right s below)))
