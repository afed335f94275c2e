use Rattle.std.proofs.lemmas.Int.{ints}
use Rattle.std.proofs.Common.{rules, w32, to_z, to_z-of_z, sym, ap, ◌∙◌}
use Rattle.game_turns.specs.Machines.{state_of}
use Rattle.game_turns.specs.Seats.{side_of}
use Rattle.explain_facts.proofs.Because.{total_differs}
use Rattle.explain_facts.proofs.Numbers.{total_reported, lacking, lacks_some, remaining_own, remaining_one}
use Rattle.explain_facts.proofs.totals.omitted.Goals as goal

pub returns-then-value-score : goal.returns-then-value-score
returns-then-value-score c =
    let e = c.args.scene.now.event.now in
    let s = state_of c.args.scene.now.machine.now in
    let had = (side_of s.sides e.player).total in
    let right = total_reported c.args.scene.now.rules.now c.args.scene.now.list.now s e c.args.right c.requires.fails in
    let same_score = sym (to_z-of_z {w = w32} {z = c.value-2.result} (search (rules, ints))) ∙ ap (to_z w32) c.if-value-score.true ∙ to_z-of_z {w = w32} {z = c.in_ok-score.score} (search (rules, ints)) in
    let lacks = lacking c.args.right e.total c.in_ok-score.score _ _ (to_z-of_z c.ranges.right) (to_z-of_z {w = w32} {z = c.value.result} (search (rules, ints)) ∙ c.value.ensures.value) c.in_ok-score.ensures.1 in
    let own_lacks = sym c.value-2.ensures.value ∙ same_score ∙ lacks in
    let wrong = total_differs c.args.scene.now.rules.now c.args.scene.now.list.now s e c.args.right c.requires.fails in
    (lacks_some c.args.right e.total e.score wrong own_lacks, remaining_own had e.score c.args.right e.total right own_lacks)

pub returns : goal.returns
returns c =
    let e = c.args.scene.now.event.now in
    let s = state_of c.args.scene.now.machine.now in
    let had = (side_of s.sides e.player).total in
    let right = total_reported c.args.scene.now.rules.now c.args.scene.now.list.now s e c.args.right c.requires.fails in
    let lacks = lacking c.args.right e.total c.in_ok-score.score _ _ (to_z-of_z c.ranges.right) (to_z-of_z {w = w32} {z = c.value.result} (search (rules, ints)) ∙ c.value.ensures.value) c.in_ok-score.ensures.1 in
    let own = to_z-of_z {w = w32} {z = c.in_ok-score.score} (search (rules, ints)) in
    let wrong = total_differs c.args.scene.now.rules.now c.args.scene.now.list.now s e c.args.right c.requires.fails in
    (sym c.latest_with.ensures ∙ c.in_ok-line.was, lacks_some c.args.right e.total _ wrong (own ∙ lacks), remaining_one had e.score _ c.args.right e.total right (own ∙ lacks))
