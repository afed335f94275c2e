use Rattle.ref_board.specs.declared.directions.Dir.TheVariants.{Across, Down}
use Rattle.gen_cross.specs.declared.crosses.Cross.{Cross}
use Rattle.gen_cross.proofs.ValueLaws.{right_both_ways}
use Rattle.gen_cross.proofs.crosses.Cross.after_play.Goals as goal

pub returns-in-Across : goal.returns-in-Across
returns-in-Across g c =
    λ words before stands differ right.
    let cross : Cross = record { across = c.renew_play.new.along; down = c.renew_play.new.across } in
    let along = rw c.in-Across.is at (c.renew_play.ensures.along words before stands differ) in
    let across = rw c.in-Across.is at (c.renew_play.ensures.across words before stands differ) in
    right_both_ways c.args.rules.now words c.args.board.now cross (along (right Across)) (across (right Down))

pub returns-in-Down : goal.returns-in-Down
returns-in-Down g c =
    λ words before stands differ right.
    let cross : Cross = record { across = c.renew_play-in-Down.new.across; down = c.renew_play-in-Down.new.along } in
    let along = rw c.in-Down.is at (c.renew_play-in-Down.ensures.along words before stands differ) in
    let across = rw c.in-Down.is at (c.renew_play-in-Down.ensures.across words before stands differ) in
    right_both_ways c.args.rules.now words c.args.board.now cross (across (right Across)) (along (right Down))
