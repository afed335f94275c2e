use Rattle.std.proofs.Common.{◌<◌, ◌≤◌, ◌∙◌, [], length, refl, sym, arith}
use Rattle.repair_single.proofs.PlaceChanges.{is_listed, listed_here, rows_fit}
use Rattle.repair_single.proofs.WithPlays.{none_with}
use Rattle.repair_pairs.proofs.listed.listed_at.Goals as goal

pub returns : goal.returns
returns c =
    let fit = rows_fit c.args.rules.now c.args.list.now c.args.events.now c.args.walk.now c.requires in
    let near : c.args.place ≤ length c.args.walk.now.rows.items = c.in-Some.ensures.there.0 refl in
    let inside : c.args.place ≤ length c.args.events.now = omega arith in
    let slips = c.in_ok-slips.slips.items in
    let ok = c.in_ok-slips.slips.ok in
    let within : c.args.index < length slips = omega arith in
    let listed = listed_here c.law_of_slips.ensures c.args.rules.now c.args.list.now c.args.events.now c.args.place c.in-Some.game.now slips
    (c.in-Some.ensures.game c.args.rules.now c.args.list.now c.args.events.now c.requires) c.in_ok-slips.ensures in
    is_listed c.args.rules.now c.args.events.now [] c.args.place c.args.index slips c.swap_remove-slip.result (listed ∙ sym (none_with c.args.rules.now c.args.events.now c.args.place)) inside within
    c.swap_remove-slip.ensures.value
