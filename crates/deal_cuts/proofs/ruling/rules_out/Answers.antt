use Rattle.std.proofs.Common.{◌≡◌, ℕ, List, length, take, sym, ap, subst, ◌∙◌, arith}
use Rattle.deal_steps.specs.declared.steps.Step.{Step}
use Rattle.deal_cuts.specs.Cutting.{HasNoDeal}
use Rattle.deal_cuts.specs.Flowing.{IsCut}
use Rattle.deal_cuts.proofs.Fronts.{fronts_decide}
use Rattle.deal_cuts.proofs.Walking.{cut_in_front, cut_length}
use Rattle.deal_cuts.proofs.ruling.rules_out.Goals as goal

pub returns-then-steps-count-clause-found : goal.returns-then-steps-count-clause-found
returns-then-steps-count-clause-found c cut =
    let long = cut_length c.args.rules.now c.args.cut.now.kinds c.args.steps.now c.args.cut.now.places.items cut in
    absurd (omega (arith, long.1))

pub returns-clause-front : goal.returns-clause-front
returns-clause-front c yes_over =
    let front = c.split_at.ensures.front ∙ ap (λ (n : ℕ). take n c.args.steps.now) c.len-count.ensures in
    subst (λ (xs : List Step). HasNoDeal c.args.rules.now xs) front (c.shows_too_many.ensures.none yes_over)

pub returns-clause-whole : goal.returns-clause-whole
returns-clause-whole c yes_over =
    fronts_decide c.args.rules.now c.args.steps.now c.len-count.result
    (subst (λ (xs : List Step). HasNoDeal c.args.rules.now xs) c.split_at.ensures.front (c.shows_too_many.ensures.none yes_over))

pub returns-clause-found : goal.returns-clause-found
returns-clause-found c cut =
    let places = c.args.cut.now.places.items in
    let same : length places ≡ c.len-count.result = omega arith in
    let front : take (length places) c.args.steps.now ≡ c.split_at.result.0.now = ap (λ (n : ℕ). take n c.args.steps.now) same ∙ sym c.split_at.ensures.front in
    c.shows_too_many.ensures.found
    (subst (λ (xs : List Step). IsCut c.args.rules.now xs c.args.cut.now.kinds places) front
    (cut_in_front c.args.rules.now c.args.cut.now.kinds c.args.steps.now places cut))
