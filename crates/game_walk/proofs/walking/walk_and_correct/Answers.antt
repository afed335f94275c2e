use Rattle.std.proofs.Common.{◌<◌, ◌∙◌, None, length, refl, sym, subst, arith}
use Rattle.game_turns.proofs.PlaceLaws.{start_tally}
use Rattle.game_corrections.proofs.Mends.{points_kept, points_through}
use Rattle.game_walk.proofs.Steps.{IsUnderWay, at_first, first_item, step_more, walked_through, walk_stopped, own_there, item_there}
use Rattle.game_walk.proofs.walking.walk_and_correct.Goals as goal

pub loop-place-init : goal.loop-place-init
loop-place-init c =
    record {
      under = subst (λ rows. IsUnderWay c.args.rules.now c.args.list.now c.args.events.now c.args.events.now 0 c.new-machine.result rows None) (sym c.new-rows.ensures.items)
          (at_first c.args.rules.now c.args.list.now c.args.events.now c.new-machine.result c.new-machine.ensures.rules (c.new-machine.ensures.state ∙ start_tally c.args.rules.now c.args.events.now) (points_kept c.args.events.now));
    }

pub returns-in-Some-clause-walk : goal.returns-in-Some-clause-walk
returns-in-Some-clause-walk c =
    let rules = c.args.rules.now in
    let written = c.args.events.now in
    let a = c.loop-place.events in
    let b = c.take_right-taken.new.events in
    let place = c.loop-place.place in
    let taken = c.take_right-taken.result in
    let e = c.take_right-taken.ensures in
    let within : place < length written = omega arith in
    let own = own_there rules c.args.list.now written a place c.loop-place.machine c.loop-place.rows.items c.loop-place.refused c.loop-place.invariant.under within in
    let there = item_there rules c.args.list.now written a b c.as_slice-in-loop-place.result.now place c.loop-place.machine c.loop-place.rows.items c.loop-place.refused
    c.index-as_slice-place-in-loop-place.result c.loop-place.invariant.under e.mended within c.as_slice-in-loop-place.ensures c.index-as_slice-place-in-loop-place.is in
    walk_stopped rules c.args.list.now written a b place c.loop-place.machine c.take_right-taken.new.machine c.loop-place.refused taken.as_written taken.remaining c.in-Some.why
    own.event c.index-as_slice-place-in-loop-place.result c.stop_at.result _
    (record { by = c.copy-start.ensures.rules ∙ c.new-machine.ensures.rules; state = λ events. c.copy-start.ensures.state ∙ c.new-machine.ensures.state ∙ start_tally rules events })
    c.loop-place.invariant.under
    (record { mended = e.mended; points = e.points; fails = e.as_written; same = e.same; reported = e.reported; leaves = e.remaining; state = e.state; rules = e.rules })
    c.in-Some.is within own.stands there c.stop_at.ensures.line c.stop_at.ensures.why c.stop_at.ensures.numbers c.first_refusal-refused.ensures refl

pub returns-in-Some-clause-points : goal.returns-in-Some-clause-points
returns-in-Some-clause-points c =
    points_through c.args.events.now c.loop-place.events c.take_right-taken.new.events c.loop-place.invariant.under.points c.take_right-taken.ensures.points

pub returns-in_err-push-clause-points : goal.returns-in_err-push-clause-points
returns-in_err-push-clause-points c =
    points_through c.args.events.now c.loop-place.events c.take_right-taken.new.events c.loop-place.invariant.under.points c.take_right-taken.ensures.points

pub loop-place-preserved : goal.loop-place-preserved
loop-place-preserved c =
    let rules = c.args.rules.now in
    let written = c.args.events.now in
    let a = c.loop-place.events in
    let b = c.take_right-taken.new.events in
    let place = c.loop-place.place in
    let taken = c.take_right-taken.result in
    let e = c.take_right-taken.ensures in
    let within : place < length written = omega arith in
    let event = c.index-as_slice-place-in-loop-place.result in
    let own = first_item a c.as_slice.result.now place c.index-as_slice-place.result
    (subst (λ n. place < n) (sym c.loop-place.invariant.under.up.renumbered.as_many) within) c.as_slice.ensures c.index-as_slice-place.is in
    let there = item_there rules c.args.list.now written a b c.as_slice-in-loop-place.result.now place c.loop-place.machine c.loop-place.rows.items c.loop-place.refused
    event c.loop-place.invariant.under e.mended within c.as_slice-in-loop-place.ensures c.index-as_slice-place-in-loop-place.is in
    record {
      under = step_more c.law_of_tallies.ensures rules c.args.list.now written a b place c.loop-place.machine c.take_right-taken.new.machine c.loop-place.rows.items c.push.new.self.items c.loop-place.refused
          c.first_refusal-refused.result taken.as_written taken.remaining c.index-as_slice-place.result event c.row_of.result
          c.loop-place.invariant.under
          (record { mended = e.mended; points = e.points; fails = e.as_written; same = e.same; reported = e.reported; leaves = e.remaining; state = e.state; rules = e.rules })
          c.in_default.is within own there
          (record {
            written = c.row_of.ensures.written ∙ c.numbers_in-own.ensures;
            right = c.row_of.ensures.right;
            by = c.row_of.ensures.rules;
            following = c.row_of.ensures.state;
            listed = c.row_of.ensures.listed;
          })
          c.in_ok-push.ensures.items c.first_refusal-refused.ensures;
    }

pub returns-clause-walk : goal.returns-clause-walk
returns-clause-walk c =
    let rules = c.args.rules.now in
    walked_through rules c.args.list.now c.args.events.now c.loop-place.events c.loop-place.place c.loop-place.machine c.loop-place.refused _
    (record { by = c.copy-start.ensures.rules ∙ c.new-machine.ensures.rules; state = λ events. c.copy-start.ensures.state ∙ c.new-machine.ensures.state ∙ start_tally rules events })
    c.loop-place.invariant.under (omega arith) refl refl
