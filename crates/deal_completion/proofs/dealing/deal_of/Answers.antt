use Rattle.std.proofs.Common.{◌≡◌, true, [], ◌∷◌, ◌++◌, refl, sym, ◌∙◌, arith}
use Rattle.deal_completion.specs.Completion.{start, acted, throws, is_met, held_at}
use Rattle.deal_completion.proofs.DealLaws.{dealing_starts, dealing_more, may_move}
use Rattle.deal_completion.proofs.DealLoops.{dealing_here, dealing_is}
use Rattle.deal_completion.proofs.dealing.deal_of.Goals as goal

pub loop-place-init : goal.loop-place-init
loop-place-init c =
    let rules = c.args.rules.now in
    let steps = c.args.steps.now in
    dealing_is rules steps steps steps (start rules steps) c.in_ok-hands.hands [] c.new-held.result.items refl c.in_ok-hands.ensures c.new-held.ensures.items
    (dealing_starts rules steps c.requires c.law_of_numbers.ensures.kinds)

pub deal_step-requires : goal.deal_step-requires
deal_step-requires c =
    let steps = c.args.steps.now in
    let s = c.index-steps-place.result in
    let rest = c.split_at.result.1.now in
    let here = dealing_here c.args.rules.now steps c.loop-place.place s rest c.loop-place.hands c.loop-place.held.items (omega arith) c.index-steps-place.is c.split_at.ensures.back c.loop-place.invariant in
    may_move c.args.rules.now steps s rest c.loop-place.hands c.loop-place.held.items here c.law_of_numbers.ensures.small

pub loop-place-preserved : goal.loop-place-preserved
loop-place-preserved c =
    let rules = c.args.rules.now in
    let steps = c.args.steps.now in
    let s = c.index-steps-place.result in
    let rest = c.split_at.result.1.now in
    let h = c.loop-place.hands in
    let so_far = c.loop-place.held.items in
    let here = dealing_here rules steps c.loop-place.place s rest h so_far (omega arith) c.index-steps-place.is c.split_at.ensures.back c.loop-place.invariant in
    let met : is_met s.player s.act h.racks ≡ true = sym c.in_ok-deal_step.ensures.met ∙ c.if-not-branch.false in
    dealing_is rules steps rest _ (acted s.player s.act (throws s.player s.act rest h.racks) rest h) c.deal_step.new.hands (so_far ++ held_at s rest h.racks ∷ []) c.deal_step.new.held.items
    (sym c.split_at.ensures.back) (c.in_ok-deal_step.ensures.hands c.if-not-branch.false) (c.in_ok-deal_step.ensures.held c.if-not-branch.false)
    (dealing_more rules steps s rest h so_far here met)
