use Rattle.ref_board.specs.declared.directions.Dir.TheVariants.{Across, Down}
use Rattle.gen_cross.specs.declared.crosses.Cross.{Cross}
use Rattle.gen_cross.proofs.ValueLaws.{right_both_ways}
use Rattle.gen_cross.proofs.Renewing.{with_tile_agrees}
use Rattle.gen_cross.proofs.crosses.Cross.renew.Goals as goal

pub returns : goal.returns
returns g c =
    λ words before cell stands put right.
    let cross : Cross = record { across = c.renew_beside.new.values; down = c.renew_beside-2.new.values } in
    let across = with_tile_agrees Across before c.args.board.now c.args.square cell put in
    let down = with_tile_agrees Down before c.args.board.now c.args.square cell put in
    right_both_ways c.args.rules.now words c.args.board.now cross
    (λ s below. c.renew_beside.ensures.near words before s stands across.0 below (across.1 s) (right Across s below))
    (λ s below. c.renew_beside-2.ensures.near words before s stands down.0 below (down.1 s) (right Down s below))
