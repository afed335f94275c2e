use Rattle.std.proofs.lemmas.Int.{ints}
use Rattle.std.proofs.Common.{rules, w32, to_z-of_z, refl, ap}
use Rattle.game_turns.specs.Machines.{state_of}
use Rattle.game_turns.specs.Tallies.{is_play, is_pass}
use Rattle.explain_facts.specs.Kinds.{is_exchange, is_withdrawal}
use Rattle.explain_facts.specs.Scores.{right_score}
use Rattle.explain_facts.proofs.Because.{legal_play, doubled_of}
use Rattle.explain_facts.proofs.Numbers.{scores_reported, none_given}
use Rattle.explain_facts.proofs.scores.score_fact.Goals as goal

pub returns-in-Play-clause-reported : goal.returns-in-Play-clause-reported
returns-in-Play-clause-reported c =
    let e = c.args.scene.now.event.now in (
      legal_play c.args.scene.now.rules.now c.args.scene.now.list.now (state_of c.args.scene.now.machine.now) e c.args.right c.requires.fails (ap is_play c.in-Play.is),
      scores_reported c.args.scene.now.rules.now c.args.scene.now.list.now (state_of c.args.scene.now.machine.now) e c.args.right c.value-written.result _ _ c.requires.fails
          (to_z-of_z c.ranges.right) (to_z-of_z {w = w32} {z = c.value-written.result} (search (rules, ints))) c.value-written.ensures.value,
    )

pub returns-in-Pass-clause-reported : goal.returns-in-Pass-clause-reported
returns-in-Pass-clause-reported c =
    let e = c.args.scene.now.event.now in (
      ap is_pass c.in-Pass.is,
      scores_reported c.args.scene.now.rules.now c.args.scene.now.list.now (state_of c.args.scene.now.machine.now) e c.args.right c.value-written.result _ _ c.requires.fails
          (to_z-of_z c.ranges.right) (to_z-of_z {w = w32} {z = c.value-written.result} (search (rules, ints))) c.value-written.ensures.value,
    )

pub returns-in-Withdraw-clause-reported : goal.returns-in-Withdraw-clause-reported
returns-in-Withdraw-clause-reported c =
    let e = c.args.scene.now.event.now in (
      ap is_withdrawal c.in-Withdraw.is,
      scores_reported c.args.scene.now.rules.now c.args.scene.now.list.now (state_of c.args.scene.now.machine.now) e c.args.right c.value-written.result _ _ c.requires.fails
          (to_z-of_z c.ranges.right) (to_z-of_z {w = w32} {z = c.value-written.result} (search (rules, ints))) c.value-written.ensures.value,
    )

pub returns-in-LastRack-clause-reported : goal.returns-in-LastRack-clause-reported
returns-in-LastRack-clause-reported c =
    let e = c.args.scene.now.event.now in (
      c.in-LastRack.is,
      refl,
      doubled_of c.args.scene.now.rules.now c.args.scene.now.list.now (state_of c.args.scene.now.machine.now) e c.args.right _ _ c.requires.fails c.in-LastRack.is (search rules),
      scores_reported c.args.scene.now.rules.now c.args.scene.now.list.now (state_of c.args.scene.now.machine.now) e c.args.right c.value-written.result _ _ c.requires.fails
          (to_z-of_z c.ranges.right) (to_z-of_z {w = w32} {z = c.value-written.result} (search (rules, ints))) c.value-written.ensures.value,
    )

pub returns-in-Challenge-clause-reported : goal.returns-in-Challenge-clause-reported
returns-in-Challenge-clause-reported c =
    let e = c.args.scene.now.event.now in
    scores_reported c.args.scene.now.rules.now c.args.scene.now.list.now (state_of c.args.scene.now.machine.now) e c.args.right c.value-written.result _ _ c.requires.fails
    (to_z-of_z c.ranges.right) (to_z-of_z {w = w32} {z = c.value-written.result} (search (rules, ints))) c.value-written.ensures.value

pub returns-in-Time-clause-reported : goal.returns-in-Time-clause-reported
returns-in-Time-clause-reported c =
    let e = c.args.scene.now.event.now in
    scores_reported c.args.scene.now.rules.now c.args.scene.now.list.now (state_of c.args.scene.now.machine.now) e c.args.right c.value-written.result _ _ c.requires.fails
    (to_z-of_z c.ranges.right) (to_z-of_z {w = w32} {z = c.value-written.result} (search (rules, ints))) c.value-written.ensures.value

pub returns-in-Challenge-clause-named : goal.returns-in-Challenge-clause-named
returns-in-Challenge-clause-named c =
    let scene = c.args.scene.now in
    absurd (none_given scene.rules.now scene.list.now (state_of scene.machine.now) scene.event.now c.args.right c.requires.fails (ap (right_score scene.rules.now (state_of scene.machine.now)) c.in-Challenge.is))

pub returns-in-Time-clause-named : goal.returns-in-Time-clause-named
returns-in-Time-clause-named c =
    let scene = c.args.scene.now in
    absurd (none_given scene.rules.now scene.list.now (state_of scene.machine.now) scene.event.now c.args.right c.requires.fails (ap (right_score scene.rules.now (state_of scene.machine.now)) c.in-Time.is))

pub returns-in-Exchange-clause-reported : goal.returns-in-Exchange-clause-reported
returns-in-Exchange-clause-reported c =
    let e = c.args.scene.now.event.now in (
      ap is_exchange c.in-Exchange.is,
      scores_reported c.args.scene.now.rules.now c.args.scene.now.list.now (state_of c.args.scene.now.machine.now) e c.args.right c.value-written.result _ _ c.requires.fails
          (to_z-of_z c.ranges.right) (to_z-of_z {w = w32} {z = c.value-written.result} (search (rules, ints))) c.value-written.ensures.value,
    )

pub returns-in-ExchangeUnknown-clause-reported : goal.returns-in-ExchangeUnknown-clause-reported
returns-in-ExchangeUnknown-clause-reported c =
    let e = c.args.scene.now.event.now in (
      ap is_exchange c.in-ExchangeUnknown.is,
      scores_reported c.args.scene.now.rules.now c.args.scene.now.list.now (state_of c.args.scene.now.machine.now) e c.args.right c.value-written.result _ _ c.requires.fails
          (to_z-of_z c.ranges.right) (to_z-of_z {w = w32} {z = c.value-written.result} (search (rules, ints))) c.value-written.ensures.value,
    )
