use Rattle.std.proofs.Common.{◌≡◌, length, ap, ◌∙◌, arith}
use Rattle.game_turns.specs.Passing.{rules_in, record_in, list_in}
use Rattle.game_case.specs.Archiving.{unlisted_plays, unlisted_to}
use Rattle.game_case.proofs.WalkedRecords.{unlisted_more}
use Rattle.game_case.proofs.unlisted.unlisted_plays.Goals as goal

pub loop-place-preserved : goal.loop-place-preserved
loop-place-preserved c =
    let passed = c.args.passed.now in
    let more = c.unlisted_here-plays.ensures.few in
    let so_far = c.loop-place.invariant.few in
    record {
      plays = unlisted_more (rules_in passed) (list_in passed) (record_in passed).events c.args.rows.now c.loop-place.place c.index-rows-place.result c.loop-place.plays c.unlisted_here-plays.result
          c.requires c.loop-place-test.true c.index-rows-place.is c.loop-place.invariant.plays c.unlisted_here-plays.ensures.number;
      few = omega (arith, more, so_far);
    }

pub returns : goal.returns
unfolding unlisted_plays
returns c =
    let passed = c.args.passed.now in
    let many = c.requires.are.as_many in
    let within = c.loop-place.auto.place-end in
    let past = c.loop-place-test.false in
    let place : c.loop-place.place ≡ length (record_in passed).events = omega (arith, many) in
    c.loop-place.invariant.plays ∙ ap (unlisted_to (rules_in passed) (list_in passed) (record_in passed).events) place
