use Rattle.game_answers.proofs.RemainingLaws.{remaining_more}
use Rattle.game_answers.proofs.leaving.points_remaining.Goals as goal

pub loop-place-preserved : goal.loop-place-preserved
loop-place-preserved c =
    remaining_more c.args.player c.args.events.now c.args.answers.now c.loop-place.place c.index-events-place.result c.index-answers-place.result c.loop-place.remaining c.remaining_of-more.result c.in-Some.sum
    c.requires c.loop-place-test.true c.index-events-place.is c.index-answers-place.is c.loop-place.invariant c.remaining_of-more.ensures c.in-Some.ensures.1
