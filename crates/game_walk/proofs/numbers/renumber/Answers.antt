use Rattle.std.proofs.Common.{sym}
use Rattle.game_walk.proofs.Renumbering.{no_numbers, renumbered_more}
use Rattle.game_walk.proofs.numbers.renumber.Goals as goal

pub loop-place-init : goal.loop-place-init
loop-place-init c = sym (no_numbers c.args.events.now)

pub loop-place-preserved : goal.loop-place-preserved
loop-place-preserved c =
    renumbered_more c.args.events.now c.args.numbers.now c.loop-place.place c.index-numbers-place.result c.loop-place.events c.set_score.new.self c.set_total.new.self
    c.loop-place-test.true c.index-numbers-place.is c.loop-place.invariant c.set_score.ensures.there c.set_score.ensures.past c.set_total.ensures.there c.set_total.ensures.past
