use Rattle.std.proofs.Common.{ℕ, List, count_by, eqb, refl, ap, ◌∙◌, arith}
use Rattle.std.proofs.lemmas.List.{take_all}
use Rattle.deal_completion.proofs.PickLoops.{times_none, times_few, times_are}
use Rattle.deal_completion.proofs.picking.times_of.Goals as goal

pub loop-kind-init : goal.loop-kind-init
loop-kind-init c = record { are = times_none; few = times_few; long = refl }

pub returns : goal.returns
returns c =
    times_are c.loop-kind.times c.args.list.now c.loop-kind.invariant.long
    (λ k below. c.loop-kind.invariant.are k below
    ∙ ap (λ (xs : List ℕ). count_by (λ j. eqb j k) xs) (take_all c.loop-kind.kind-index c.args.list.now (omega arith)))
