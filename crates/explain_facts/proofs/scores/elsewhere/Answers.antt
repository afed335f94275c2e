use Rattle.std.proofs.lemmas.Int.{ints}
use Rattle.std.proofs.Common.{rules, arith, w32, to_z-of_z, ◌-◌, ◌<◌, sym, subst, ap, length, List, take, ◌∙◌}
use Rattle.explain_clues.specs.declared.spots.Spot.{Spot}
use Rattle.explain_facts.specs.Moments.{moment_of}
use Rattle.explain_facts.proofs.Plays.{of_play}
use Rattle.explain_facts.specs.Elsewhere.{places}
use Rattle.explain_facts.proofs.FaultFactLaws.{not_zero}
use Rattle.explain_facts.proofs.Places.{some_named, all_score, all_stand}
use Rattle.explain_facts.proofs.scores.elsewhere.Goals as goal

pub returns : goal.returns
returns c =
    let m = moment_of c.args.scene.now in
    let word = c.args.word.now in
    let all = c.as_slice.ensures.value ∙ c.in_ok-spots.ensures in
    let written = to_z-of_z {w = w32} {z = c.value.result} (search (rules, ints)) ∙ c.value.ensures.value in
    let named = c.in_ok-named.ensures.0 ∙ ap (λ (spots : List Spot). take 3 spots) all in
    let some = not_zero c.in_ok-spots.spots.len (sym c.is_empty.ensures ∙ c.if-is_empty.false) in
    let ok = c.in_ok-spots.spots.ok in
    let there : 0 < length c.in_ok-spots.spots.items = omega (arith, some, ok) in
    of_play c.args.scene.now.event.now.kind c.args.at c.args.dir word _ c.requires (
      written,
      named,
      some_named (places m word) c.in_ok-named.named.spots.items (subst (λ (spots : List Spot). 0 < length spots) c.in_ok-spots.ensures there) named,
      c.in_ok-named.ensures.1 ∙ ap (λ (spots : List Spot). length spots - 3) all,
      all_score m word _ c.in_ok-named.named.spots.items written named,
      all_stand m word c.in_ok-named.named.spots.items named,
    )
