use Rattle.std.proofs.Common.{rules, arith}
use Rattle.deal_steps.proofs.Refills.{refilled_kinds, refilled_number, refilled_from}
use Rattle.deal_steps.proofs.fitting.is_refilled.Goals as goal

pub returns-then-are_drawn : goal.returns-then-are_drawn
returns-then-are_drawn c =
    let off = c.total.ensures.total in
    let before = c.total-before.ensures.total in
    let after = c.total-after.ensures.total in
    let number = c.are_drawn.ensures.0 (search rules) in (
      λ comes.
          refilled_from _ _ _ _ _ c.total.ensures.kinds c.total-before.ensures.kinds c.total-after.ensures.kinds
          (omega (arith, number, off, before, after)) (c.come_from_bag.ensures.0 comes),
      λ is. c.come_from_bag.ensures.1 (refilled_kinds _ _ _ _ _ is),
    )

pub returns-else-are_drawn : goal.returns-else-are_drawn
returns-else-are_drawn c =
    let off = c.total.ensures.total in
    let before = c.total-before.ensures.total in
    let after = c.total-after.ensures.total in (
      λ drawn. search rules,
      λ is.
          let number = refilled_number _ _ _ _ _ c.total.ensures.kinds c.total-before.ensures.kinds c.total-after.ensures.kinds is in
          c.are_drawn.ensures.1 (omega (arith, number, off, before, after)),
    )
