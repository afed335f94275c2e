use Rattle.std.proofs.Common.{rules, ◌≡◌, ◌≤◌, ◌<◌, ◌++◌, List, sum, reverse, take, ap, subst, sym, ◌∙◌}
use Rattle.explain_facts.specs.declared.facts.racks.RackLine.{RackLine}
use Rattle.explain_facts.specs.Racks.{rack_line, held_at}
use Rattle.explain_facts.proofs.RackLaws.{held_shown, rack_exceeds}
use Rattle.explain_facts.proofs.racks.too_big.Goals as goal

pub returns-clause-reported : goal.returns-clause-reported
returns-clause-reported c =
    let step = c.args.step.now in
    let player = c.holder_of-player.result in
    let tiles = c.together-needed.result in
    let adds_up : tiles ≡ held_at player (reverse (take c.args.place c.args.steps.now)) step = search rules in
    record {
      step = step;
      there = c.requires.there;
      of = c.holder_of-player.ensures;
      has = c.size_of-size.ensures;
      lines_are = c.in_ok-push_rack_line.ensures ∙ ap (λ (l : List RackLine). l ++ rack_line player step) c.in_ok-lines.ensures;
      shown = held_shown player step (reverse (take c.args.place c.args.steps.now)) tiles adds_up;
      adds_up = adds_up;
      more = subst (λ n. c.size_of-size.result < n) c.total.ensures.total c.if-total-size.false;
    }

pub returns-then-total-size-clause-found : goal.returns-then-total-size-clause-found
returns-then-total-size-clause-found c = λ line first.
    let step = c.args.step.now in
    let player = c.holder_of-player.result in
    let tiles = c.together-needed.result in
    let adds_up : tiles ≡ held_at player (reverse (take c.args.place c.args.steps.now)) step = search rules in
    let few : sum tiles ≤ c.size_of-size.result = subst (λ n. n ≤ c.size_of-size.result) c.total.ensures.total c.if-total-size.true in
    absurd (rack_exceeds c.args.rules.now c.args.steps.now c.args.place line step player c.size_of-size.result tiles c.requires.there c.holder_of-player.ensures c.size_of-size.ensures adds_up few first)
