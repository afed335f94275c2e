use Rattle.std.proofs.Common.{rules}
use Rattle.game_turns.specs.Passing.{record_in}
use Rattle.game_report.proofs.BesideLaws.{step_at, stays_beside, play_is_legal, applied_beside, tiles_lie, undone_beside}
use Rattle.game_report.proofs.replaying.follow_event.Goals as goal

pub returns-in_default : goal.returns-in_default
returns-in_default c =
    let step = step_at _ _ _ (record_in c.args.passed.now).events c.as_slice.result.now _ _ _ _ c.args.follow.now c.record.ensures.allowed c.requires.place (search rules) c.index-as_slice-place.is (search rules) c.requires.stand c.take_event.ensures.state in
    record { own = search rules; state = search rules; beside = stays_beside _ _ _ _ _ _ step (search rules) }

pub undo-requires-clause-there : goal.undo-requires-clause-there
undo-requires-clause-there c =
    let step = step_at _ _ _ (record_in c.args.passed.now).events c.as_slice.result.now _ _ _ _ c.args.follow.now c.record.ensures.allowed c.requires.place (search rules) c.index-as_slice-place.is (search rules) c.requires.stand c.take_event.ensures.state in
    tiles_lie _ _ _ _ _ _ c.in-Some.play.now.tiles.items step (search rules) (search rules)

pub apply-requires-clause-legal : goal.apply-requires-clause-legal
apply-requires-clause-legal c =
    let step = step_at _ _ _ (record_in c.args.passed.now).events c.as_slice.result.now _ _ _ _ c.args.follow.now c.record.ensures.allowed c.requires.place (search rules) c.index-as_slice-place.is (search rules) c.requires.stand c.take_event.ensures.state in
    play_is_legal _ _ _ _ _ _ c.in-Some.play.now.dir c.in-Some.play.now.tiles.items step (search rules) (search rules) c.in-Some.play.now.proper

pub returns-then-withdraws : goal.returns-then-withdraws
returns-then-withdraws c =
    let step = step_at _ _ _ (record_in c.args.passed.now).events c.as_slice.result.now _ _ _ _ c.args.follow.now c.record.ensures.allowed c.requires.place (search rules) c.index-as_slice-place.is (search rules) c.requires.stand c.take_event.ensures.state in
    record { own = search rules; state = search rules; beside = undone_beside _ _ _ _ _ c.undo.new.self _ c.in-Some.play.now.tiles.items step (search rules) (search rules) c.undo.ensures.board (search rules) }

pub returns-else-withdraws : goal.returns-else-withdraws
returns-else-withdraws c =
    let step = step_at _ _ _ (record_in c.args.passed.now).events c.as_slice.result.now _ _ _ _ c.args.follow.now c.record.ensures.allowed c.requires.place (search rules) c.index-as_slice-place.is (search rules) c.requires.stand c.take_event.ensures.state in
    record { own = search rules; state = search rules; beside = applied_beside _ _ _ _ _ c.apply.new.self _ c.in-Some.play.now.tiles.items step (search rules) (search rules) c.apply.ensures.board c.apply.ensures.there (search rules) }
