use Rattle.std.proofs.lemmas.Int.{ints}
use Rattle.std.proofs.Common.{rules, w32, to_z-of_z, refl, ◌∙◌}
use Rattle.game_turns.specs.Machines.{state_of}
use Rattle.game_turns.specs.Seats.{side_of}
use Rattle.explain_facts.proofs.Numbers.{total_reported, sum_shown, unlike}
use Rattle.explain_facts.proofs.Because.{total_differs}
use Rattle.explain_facts.proofs.totals.wrong_total.Goals as goal

pub returns-clause-reported : goal.returns-clause-reported
returns-clause-reported c =
    let e = c.args.scene.now.event.now in
    let s = state_of c.args.scene.now.machine.now in
    let had = to_z-of_z {w = w32} {z = c.total.result} (search (rules, ints)) in
    let score = to_z-of_z {w = w32} {z = c.value.result} (search (rules, ints)) in
    let written = to_z-of_z {w = w32} {z = c.value-2.result} (search (rules, ints)) in (
      refl,
      had ∙ c.total.ensures,
      score ∙ c.value.ensures.value,
      sum_shown c.args.right (side_of s.sides e.player).total e.score _ _ _ (total_reported c.args.scene.now.rules.now c.args.scene.now.list.now s e c.args.right c.requires.fails)
          (to_z-of_z c.ranges.right) (had ∙ c.total.ensures) (score ∙ c.value.ensures.value),
      written ∙ c.value-2.ensures.value,
      unlike c.args.right _ e.total _ (total_differs c.args.scene.now.rules.now c.args.scene.now.list.now s e c.args.right c.requires.fails) (to_z-of_z c.ranges.right)
          (written ∙ c.value-2.ensures.value),
    )
