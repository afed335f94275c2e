use Rattle.std.proofs.Common.{List, refl, sym, subst}
use Rattle.gcg_read.specs.declared.events.Event.{Event}
use Rattle.repair_single.specs.Repairs.{SameRecord}
use Rattle.repair_single.specs.declared.repair.Repair.{Repair}
use Rattle.repair_single.proofs.SameLists.{none_more, none_at_all}
use Rattle.repair_single.proofs.comparing.is_among.Goals as goal

pub returns-then-same_record : goal.returns-then-same_record
returns-then-same_record c =
    let same = subst (λ (es : List Event). SameRecord es c.args.right.now) c.as_slice.ensures (c.same_record.ensures.0 c.if-same_record.true) in
    (λ is. (c.loop-repair.repair-index, c.repair-item.result, c.loop-repair-test.true, sym c.repair-item.is, same), λ among. refl)

pub loop-repair-preserved : goal.loop-repair-preserved
loop-repair-preserved c =
    record {
      none = none_more (λ (r : Repair). SameRecord r.right c.args.right.now) c.args.reported.now c.loop-repair.repair-index c.repair-item.result c.loop-repair-test.true c.repair-item.is
          (λ same. let is = c.same_record.ensures.1 (subst (λ (es : List Event). SameRecord es c.args.right.now) (sym c.as_slice.ensures) same) in let not = c.if-same_record.false in cc)
          c.loop-repair.invariant.none;
    }

pub returns : goal.returns
returns c =
    (λ is. cc, λ among. absurd (none_at_all (λ (r : Repair). SameRecord r.right c.args.right.now) c.args.reported.now c.loop-repair.repair-index c.loop-repair-test.false c.loop-repair.invariant.none among))
