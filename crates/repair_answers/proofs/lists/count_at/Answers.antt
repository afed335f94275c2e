use Rattle.std.proofs.Common.{◌≡◌, length, arith}
use Rattle.repair_slips.specs.Changes.{changes_at}
use Rattle.repair_single.proofs.PlaceChanges.{rows_fit}
use Rattle.repair_answers.proofs.Tries.{count_here}
use Rattle.repair_answers.proofs.lists.count_at.Goals as goal

pub slips_at-requires : goal.slips_at-requires
slips_at-requires c =
    let fit = rows_fit c.args.rules.now c.args.list.now c.args.events.now c.args.walk.now c.requires.walk in
    let place = c.requires.place in
    omega arith

pub returns-clause-many : goal.returns-clause-many
returns-clause-many c =
    let ok = c.in_ok-slips.slips.ok in
    let many : length c.in_ok-slips.slips.items ≡ length (changes_at c.args.rules.now c.args.events.now c.args.place) =
    count_here c.law_of_slips.ensures c.args.rules.now c.args.list.now c.args.events.now c.args.place c.in-Some.game.now c.in_ok-slips.slips.items
    (c.in-Some.ensures.game c.args.rules.now c.args.list.now c.args.events.now c.requires.walk) c.in_ok-slips.ensures in
    let long = c.len.ensures in
    omega arith
