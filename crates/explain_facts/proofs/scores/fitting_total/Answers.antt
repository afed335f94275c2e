use Rattle.std.proofs.lemmas.Int.{ints}
use Rattle.std.specs.Prelude.{◌+ℤ◌}
use Rattle.std.proofs.Common.{rules, w32, to_z, to_z-of_z, sym, ap, ◌∙◌}
use Rattle.std.specs.Prelude.{Some}
use Rattle.game_turns.specs.Machines.{state_of}
use Rattle.game_turns.specs.Seats.{side_of}
use Rattle.explain_facts.proofs.OrderLaws.{had_and}
use Rattle.explain_facts.proofs.Numbers.{score_reported}
use Rattle.explain_facts.proofs.scores.fitting_total.Goals as goal

pub returns : goal.returns
returns c =
    let scene = c.args.scene.now in
    let e = scene.event.now in
    let s = state_of scene.machine.now in
    let had = (side_of s.sides e.player).total in
    let right = to_z-of_z c.ranges.right in
    let reported = to_z-of_z {w = w32} {z = c.in_ok-sum.sum} (search (rules, ints)) in
    let makes = had_and had c.args.right c.in_ok-sum.sum _ _ (to_z-of_z {w = w32} {z = c.total.result} (search (rules, ints)) ∙ c.total.ensures) right c.in_ok-sum.ensures.1 in
    let written = sym c.value.ensures.value ∙ sym (to_z-of_z {w = w32} {z = c.value.result} (search (rules, ints))) ∙ ap (to_z w32) c.if-value-sum.false
    ∙ to_z-of_z {w = w32} {z = c.in_ok-sum.sum} (search (rules, ints)) in (
      score_reported scene.rules.now scene.list.now s e c.args.right c.requires.fails ∙ ap Some (sym right),
      reported ∙ sym written,
      reported ∙ makes ∙ ap (λ n. had +ℤ n) (sym right),
    )
