use Rattle.std.proofs.Common.{◌≡◌, ℕ, ◌-◌, List, get_or, sum, ap, ◌∙◌, arith}
use Rattle.deal_steps.proofs.PileLaws.{get-no_tiles}
use Rattle.deal_completion.specs.declared.picking.Pick.{Pick}
use Rattle.deal_completion.specs.Completion.{pick, pick_then, pick_listed}
use Rattle.deal_completion.specs.Taking.{times_of, pick_spare}
use Rattle.deal_completion.proofs.PickLoops.{spare_is_more}
use Rattle.deal_completion.proofs.picking.pick_tiles.Goals as goal

pub take_listed-requires : goal.take_listed-requires
take_listed-requires c =
    record {
      room = λ k below.
          let none = ap (λ (xs : List ℕ). get_or xs k 0) c.new.ensures ∙ get-no_tiles k below in
          let few = c.law_of_numbers.ensures.small k below in
          omega arith;
    }

pub returns : goal.returns
unfolding pick
returns c =
    let number = c.args.number in
    let reserved = c.args.reserved.now in
    let listed = c.take_listed.new.self in
    let more : c.saturating_sub-more.result ≡ number - sum listed.taken = omega arith in
    c.take_more.ensures.taken
    ∙ ap (λ (times : List ℕ). pick_spare times c.saturating_sub-more.result listed) c.times_of.ensures
    ∙ ap (λ (n : ℕ). pick_spare (times_of reserved) n listed) more
    ∙ spare_is_more reserved (number - sum listed.taken) listed
    ∙ ap (λ (p : Pick). pick_then reserved number p)
    (c.take_listed.ensures.taken ∙ ap (λ (taken : List ℕ). pick_listed c.args.list.now number (record { taken = taken; remaining = c.args.tiles.now })) c.new.ensures)
