use Rattle.std.proofs.Common.{◌≡◌, ℕ, ◌+◌, ◌∙◌, ap, arith}
use Rattle.repair_answers.specs.Tried.{count_before}
use Rattle.repair_answers.proofs.Tries.{none_before, count_more}
use Rattle.repair_answers.proofs.lists.count_before.Goals as goal

pub loop-place-init : goal.loop-place-init
loop-place-init c = record { so_far = none_before c.args.rules.now c.args.events.now; few = omega arith }

pub loop-place-preserved : goal.loop-place-preserved
loop-place-preserved c =
    let few = c.loop-place.invariant.few in
    let here = c.in_ok-many.ensures.few in
    record {
      so_far = count_more c.args.rules.now c.args.events.now c.loop-place.place c.loop-place.many c.in_ok-many.field-0 c.loop-place.invariant.so_far c.in_ok-many.ensures.many;
      few = omega arith;
    }

pub returns-clause-many : goal.returns-clause-many
returns-clause-many c =
    let last : c.loop-place.place ≡ c.args.end = omega arith in
    c.loop-place.invariant.so_far ∙ ap (count_before c.args.rules.now c.args.events.now) last
