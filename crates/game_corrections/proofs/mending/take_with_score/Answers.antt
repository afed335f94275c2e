use Rattle.game_turns.specs.Machines.{rules_of, state_of}
use Rattle.game_corrections.proofs.Mends.{score_set, mended_through, score_remaining, refused_scored, score_points, points_through}
use Rattle.game_corrections.proofs.mending.take_with_score.Goals as goal

pub returns-clause-mended : goal.returns-clause-mended
returns-clause-mended c =
    let scored = score_set (rules_of c.args.machine.now) c.args.list.now (state_of c.args.machine.now) c.args.events.now c.set_score.new.self c.args.place c.args.score c.requires.reported c.set_score.ensures.there in
    mended_through c.args.events.now c.set_score.new.self c.take_with_total.new.events c.args.place scored.mended c.take_with_total.ensures.mended

pub returns-clause-remaining : goal.returns-clause-remaining
returns-clause-remaining c =
    let rules = rules_of c.args.machine.now in
    let s = state_of c.args.machine.now in
    let scored = score_set rules c.args.list.now s c.args.events.now c.set_score.new.self c.args.place c.args.score c.requires.reported c.set_score.ensures.there in
    score_remaining rules c.args.list.now s c.set_score.new.self c.take_with_total.new.events c.args.place c.take_with_total.result c.take_with_total.ensures.reported
    c.take_with_total.ensures.same scored.reported c.take_with_total.ensures.remaining

pub returns-clause-refused : goal.returns-clause-refused
returns-clause-refused c =
    refused_scored (rules_of c.args.machine.now) c.args.list.now (state_of c.args.machine.now) c.args.events.now c.set_score.new.self c.take_with_total.new.events c.args.place
    c.args.score c.take_with_total.result c.requires.reported c.set_score.ensures.there c.take_with_total.ensures.same

pub returns-clause-points : goal.returns-clause-points
returns-clause-points c =
    points_through c.args.events.now c.set_score.new.self c.take_with_total.new.events
    (score_points c.args.events.now c.set_score.new.self c.args.place c.args.score c.requires.fits c.set_score.ensures.there c.set_score.ensures.past)
    c.take_with_total.ensures.points
