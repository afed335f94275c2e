use Rattle.std.proofs.Common.{◌∙◌, List, [], sym, subst}
use Rattle.std.specs.Prelude.{All, IfSome}
use Rattle.gcg_read.specs.declared.events.Event.{Event}
use Rattle.repair_single.specs.Repairs.{IsListed, IsRepair}
use Rattle.repair_pairs.specs.Finding.{AddsPairs}
use Rattle.repair_pairs.specs.Made.{IsMade}
use Rattle.repair_pairs.proofs.Adding.{head_added}
use Rattle.repair_pairs.proofs.finding.push_head.Goals as goal

pub returns : goal.returns
returns c =
    λ so.
    let rules = c.args.rules.now in
    let list = c.args.list.now in
    let written = c.args.events.now in
    let singles = c.args.singles.now in
    let first = c.in-Some.first in
    let made = c.repairs.new.events in
    let found = c.in_ok-found.found.reported.items in
    let same = sym c.in_ok-found.ensures.same in
    let single : IsListed rules written [] first = subst (λ o. IfSome o (IsListed rules written [])) c.in-Some.is c.in_ok-first.ensures in
    let is_made : IsMade rules list written first.change c.in-Some-2.made = subst (λ o. IfSome o (IsMade rules list written first.change)) c.in-Some-2.is c.in_ok-made.ensures in
    let repairs : All (IsRepair rules list made [] c.below_of-below.result) found =
    subst (λ (es : List Event). All (IsRepair rules list es [] c.below_of-below.result) found) same c.in_ok-found.ensures.reported.repairs in
    let adds = subst (λ (es : List Event). AddsPairs singles es c.len-number.result c.weight_of-weight.result found c.args.pairs.now.reported.items c.push_pairs.new.reported.items) c.as_slice.ensures
    c.in_ok-push_pairs.ensures in
    head_added rules list written singles c.args.pairs.now (record { heads = c.push.new.self; reported = c.push_pairs.new.reported }) (record { first = first; made = made }) c.below_of-below.result c.len-number.result
    c.weight_of-weight.result found
    (record { single = single; made = subst (λ (es : List Event). IsMade rules list written first.change es) same is_made }) (c.len-number.ensures ∙ c.args.pairs.now.heads.ok.0) c.weight_of-weight.ensures repairs c.in_ok-push.ensures.items
    adds so
