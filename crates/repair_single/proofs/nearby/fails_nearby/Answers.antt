use Rattle.std.proofs.Common.{◌≡◌, ◌<◌, ◌+◌, ◌-◌, ℕ, length, slice_get, sym, ◌∙◌, ap, subst, arith}
use Rattle.repair_changes.specs.Applied.{applied}
use Rattle.repair_single.specs.Nearby.{IsPartRefused, IsPartTaken}
use Rattle.repair_single.specs.Trying.{StandsBefore}
use Rattle.repair_single.proofs.GoingWrong.{start_is, stands_copy, if_ok_then}
use Rattle.repair_single.proofs.Starts.{moved}
use Rattle.repair_single.proofs.nearby.fails_nearby.Goals as goal

pub returns-then-not-branch : goal.returns-then-not-branch
returns-then-not-branch c =
    let rules = c.args.rules.now in
    let list = c.args.list.now in
    let written = c.args.events.now in
    let change = c.args.change.now in
    let changed = applied change written in
    let start = c.saturating_sub-start.result in
    let near = c.in_ok-near.near in
    let machine = c.copy-machine.result in
    let is = c.in_ok-near.ensures in
    let inside = is.part.within in
    let bounds = c.in-Some.ensures in
    let within = bounds.0 in
    let after = bounds.2 in
    let front = c.saturating_sub-start.ensures in
    let same : (k : ℕ) → k < change.place → slice_get changed k ≡ slice_get written k = λ k below. c.law_of_changes.ensures change written k below in
    let starts = start_is written changed change.place start front same in
    λ yes_it walked stopped right writable game.
    let before = moved rules list written changed change.place start c.in-Some-game_before.game.now (c.in-Some-game_before.ensures.game rules list written walked) starts
    (omega (arith, front, within, after)) (omega (arith, inside)) same in
    let stands = stands_copy rules list changed start c.in-Some-game_before.game.now machine before c.copy-machine.ensures.rules c.copy-machine.ensures.state in
    subst (λ r. IsPartRefused r list near machine) stands.by (c.in_ok-takes_part.ensures.refused c.if-not-branch.true) changed start is.part stands right writable

pub returns : goal.returns
returns c =
    let rules = c.args.rules.now in
    let list = c.args.list.now in
    let written = c.args.events.now in
    let change = c.args.change.now in
    let changed = applied change written in
    let start = c.saturating_sub-start.result in
    let many = c.saturating_sub-many.result in
    let near = c.in_ok-near.near in
    let machine = c.copy-machine.result in
    let next = c.takes_part.new.machine in
    let steps = c.takes_part.new.first.steps.items in
    let is = c.in_ok-near.ensures in
    let inside = is.part.within in
    let bounds = c.in-Some.ensures in
    let within = bounds.0 in
    let after = bounds.2 in
    let front = c.saturating_sub-start.ensures in
    let size : length near - 1 ≡ many = sym (c.saturating_sub-many.ensures ∙ ap (λ n. n - 1) c.len.ensures) in
    let same : (k : ℕ) → k < change.place → slice_get changed k ≡ slice_get written k = λ k below. c.law_of_changes.ensures change written k below in
    let starts = start_is written changed change.place start front same in
    if_ok_then c.goes_wrong_again.result
    (λ b wrong yes_it walked stopped.
    let before = moved rules list written changed change.place start c.in-Some-game_before.game.now (c.in-Some-game_before.ensures.game rules list written walked) starts
    (omega (arith, front, within, after)) (omega (arith, inside)) same in
    let stands = stands_copy rules list changed start c.in-Some-game_before.game.now machine before c.copy-machine.ensures.rules c.copy-machine.ensures.state in
    let part : IsPartTaken rules list near machine next steps =
    subst (λ r. IsPartTaken r list near machine next steps) stands.by (c.in_ok-takes_part.ensures.taken c.if-not-branch.false) in
    wrong yes_it list written changed walked stopped
    (record {
      near = near;
      is = is;
      as_many = size;
      front = λ k below. same k (omega (arith, below, front));
      starts = starts.same;
      stands = subst (λ n. StandsBefore rules list changed (start + n) next) size (part.stands changed start is.part stands);
      follow = part.follow changed start is.part stands;
    }))
    c.goes_wrong_again.ensures
