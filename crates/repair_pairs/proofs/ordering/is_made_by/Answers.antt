use Rattle.std.proofs.Common.{refl, sym}
use Rattle.repair_single.specs.Repairs.{SameRecord}
use Rattle.repair_single.proofs.SameLists.{none_more, none_at_all}
use Rattle.repair_pairs.specs.declared.found.Pair.{Pair}
use Rattle.repair_pairs.proofs.ordering.is_made_by.Goals as goal

pub returns-then-makes : goal.returns-then-makes
returns-then-makes c = (λ is. (c.loop-pair.pair-index, c.pair-item.result, c.loop-pair-test.true, sym c.pair-item.is, c.makes.ensures.0 c.if-makes.true), λ made. refl)

pub loop-pair-preserved : goal.loop-pair-preserved
loop-pair-preserved c =
    record {
      none = none_more (λ (p : Pair). SameRecord p.then.right c.args.right.now) c.args.reported.now c.loop-pair.pair-index c.pair-item.result c.loop-pair-test.true c.pair-item.is
          (λ same. let is = c.makes.ensures.1 same in let not = c.if-makes.false in cc) c.loop-pair.invariant.none;
    }

pub returns : goal.returns
returns c =
    (λ is. cc, λ made. absurd (none_at_all (λ (p : Pair). SameRecord p.then.right c.args.right.now) c.args.reported.now c.loop-pair.pair-index c.loop-pair-test.false c.loop-pair.invariant.none made))
