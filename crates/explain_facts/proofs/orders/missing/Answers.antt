use Rattle.std.proofs.lemmas.Int.{ints}
use Rattle.std.proofs.Common.{rules, w32, to_z, to_z-of_z, refl, sym, ap, ◌∙◌}
use Rattle.game_turns.specs.Machines.{state_of}
use Rattle.game_turns.specs.Seats.{side_of}
use Rattle.explain_facts.proofs.OrderLaws.{had_and, had_before, lacks}
use Rattle.explain_facts.proofs.orders.missing.Goals as goal

pub returns : goal.returns
returns c =
    let e = c.args.scene.now.event.now in
    let next = c.in_ok-next.next.now in
    let s = state_of c.args.scene.now.machine.now in
    let own = had_and (side_of s.sides e.player).total e.score c.in_ok-own.own _ _ (to_z-of_z {w = w32} {z = c.total.result} (search (rules, ints)) ∙ c.total.ensures)
    (to_z-of_z {w = w32} {z = c.value.result} (search (rules, ints)) ∙ c.value.ensures.value) c.in_ok-own.ensures.1 in
    let had = had_before next.total next.score c.in_ok-had.had _ _ (to_z-of_z {w = w32} {z = c.value-2.result} (search (rules, ints)) ∙ c.value-2.ensures.value)
    (to_z-of_z {w = w32} {z = c.value-3.result} (search (rules, ints)) ∙ c.value-3.ensures.value) c.in_ok-had.ensures.1 in
    let gap = had_before c.in_ok-had.had (side_of s.sides c.other-player.result).total c.in_ok-score.score _ _ (to_z-of_z {w = w32} {z = c.in_ok-had.had} (search (rules, ints)))
    (to_z-of_z {w = w32} {z = c.total-2.result} (search (rules, ints)) ∙ c.total-2.ensures) c.in_ok-score.ensures.1 in
    let reported = to_z-of_z {w = w32} {z = c.in_ok-score.score} (search (rules, ints)) in
    let written = sym c.value-else-score-lt0.ensures.value ∙ sym (to_z-of_z {w = w32} {z = c.value-else-score-lt0.result} (search (rules, ints))) ∙ ap (to_z w32) c.if-value-own.false
    ∙ to_z-of_z {w = w32} {z = c.in_ok-own.own} (search (rules, ints)) in
    record {
      other = c.other-player.ensures;
      right = written ∙ own;
      latest = c.in_ok-latest.latest.now;
      last = sym c.in_ok-latest.ensures.value;
      following = refl;
      ahead = refl;
      next = next;
      found = sym c.in_ok-next.ensures;
      gains = search (rules, ints);
      lacks = lacks (side_of s.sides c.other-player.result).total c.in_ok-had.had _ next.total next.score had (reported ∙ gap);
    }
