use Rattle.gen_cross.specs.declared.crosses.Cross.{Cross}
use Rattle.gen_cross.proofs.ValueLaws.{right_both_ways}
use Rattle.gen_cross.proofs.crosses.Cross.scratch.Goals as goal

pub returns : goal.returns
returns g c =
    λ words stands.
    let cross : Cross = record { across = c.values_along.result; down = c.values_along-2.result } in
    right_both_ways c.args.rules.now words c.args.board.now cross (c.values_along.ensures words stands) (c.values_along-2.ensures words stands)
