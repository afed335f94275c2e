use Rattle.std.proofs.lemmas.Int.{ints}
use Rattle.std.proofs.Common.{rules, ◌≡◌, ◌*◌, ℕ, ℤ, true, w32, to_z-of_z, List, length, map, arith, ap, sym, ◌∙◌, subst}
use Rattle.std.specs.List.{list_any, range_with_len}
use Rattle.std.proofs.lemmas.Bool.{both_ways, eqb-true}
use Rattle.std.proofs.lemmas.List.FromFn.{length-map-range_with_len}
use Rattle.game_turns.specs.Checks.{listed_in}
use Rattle.game_turns.specs.LatestEvents.{latest_words}
use Rattle.game_turns.specs.Machines.{state_of}
use Rattle.explain_facts.specs.Challenges.{is_amount}
use Rattle.explain_facts.proofs.FaultFactLaws.{some_amount, no_amount}
use Rattle.explain_facts.proofs.challenges.bonus.Goals as goal
use Rattle.explain_facts.proofs.challenges.bonus.Goals.{then-is_empty-via-then-is_empty, then-is_empty-via-else-is_empty+then-is_among}

pub returns-then-is_empty-clause-named : goal.returns-then-is_empty-clause-named
returns-then-is_empty-clause-named c = λ adds.
    let scene = c.args.scene.now in
    let e = scene.event.now in
    let s = state_of scene.machine.now in
    let unit = scene.rules.now.challenge_unit in
    let f : ℕ → ℕ = λ n. unit * n in
    let listed : c.listed_in-listed.result ≡ listed_in scene.list.now (latest_words s.latest) = search rules in
    let amounts = c.in_ok-amounts.amounts in
    let are : amounts.items ≡ map f (range_with_len 1 (listed_in scene.list.now (latest_words s.latest))) =
    c.in_ok-amounts.ensures ∙ ap (λ n. map f (range_with_len 1 n)) listed in
    elim c.then-is_empty.branch [
      | then-is_empty-via-then-is_empty w ↦
          let some = some_amount scene.rules.now scene.list.now s e scene.past.now c.args.play.now c.requires.fails adds.0 c.requires.before c.requires.own in
          let many = ap length are in
          let size = length-map-range_with_len f 1 (listed_in scene.list.now (latest_words s.latest)) in
          let nothing = eqb-true amounts.len 0 (sym c.is_empty.ensures ∙ w.if-is_empty.true) in
          let ok = amounts.ok in
          absurd (omega (arith, some, many, size, nothing, ok))
      | then-is_empty-via-else-is_empty+then-is_among w ↦
          let none = no_amount scene.rules.now scene.list.now s e scene.past.now c.args.play.now c.requires.fails adds.0 c.requires.before c.requires.own in
          let value = to_z-of_z {w = w32} {z = c.value-written.result} (search (rules, ints)) ∙ c.value-written.ensures.value in
          let same = w.as_slice.ensures.value ∙ are in
          let shown = sym w.is_among.ensures ∙ w.if-is_among.true in
          let among = subst (λ (points : ℤ). list_any (is_amount points) w.as_slice.result.now ≡ true) value shown in
          absurd (both_ways (list_any (is_amount e.score) (map f (range_with_len 1 (listed_in scene.list.now (latest_words s.latest))))) none
          (subst (λ (xs : List ℕ). list_any (is_amount e.score) xs ≡ true) same among))
    ]
