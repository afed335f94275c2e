use Rattle.std.proofs.Common.{◌++◌, ◌∙◌, List, refl, ap, arith}
use Rattle.game_turns.specs.Machines.{state_of}
use Rattle.repair_slips.specs.Changes.{slips_by}
use Rattle.repair_changes.specs.declared.slips.Change.{Change}
use Rattle.repair_single.specs.Weighers.{wrong_by}
use Rattle.repair_single.specs.Listing.{those_at}
use Rattle.repair_single.proofs.PlaceChanges.{adds_none_at, added_with, listed_here, rows_fit}
use Rattle.repair_single.proofs.candidates.push_candidates.Goals as goal

pub is_past_room-requires : goal.is_past_room-requires
is_past_room-requires c =
    let fit = rows_fit c.args.rules.now c.args.list.now c.args.events.now c.args.walk.now c.requires.walk in
    let place = c.requires.place in
    record { place = place; within = omega arith }

pub returns-then-is_past_room : goal.returns-then-is_past_room
returns-then-is_past_room c =
    adds_none_at c.args.weigher.now c.args.rules.now c.args.list.now c.args.events.now c.args.plays.now c.args.below c.room-room.result c.args.place c.args.found.now.items c.room-room.ensures
    (c.is_past_room.ensures c.args.rules.now c.requires.walk c.if-is_past_room.true)

pub slips_with-requires : goal.slips_with-requires
slips_with-requires c =
    let fit = rows_fit c.args.rules.now c.args.list.now c.args.events.now c.args.walk.now c.requires.walk in
    let place = c.requires.place in
    omega arith

pub push_slips-requires-clause-within : goal.push_slips-requires-clause-within
push_slips-requires-clause-within c =
    let fit = rows_fit c.args.rules.now c.args.list.now c.args.events.now c.args.walk.now c.requires.walk in
    let place = c.requires.place in
    omega arith

pub returns : goal.returns
returns c =
    let here = listed_here c.law_of_slips.ensures c.args.rules.now c.args.list.now c.args.events.now c.args.place c.in-Some.game.now
    (slips_by c.args.rules.now (state_of c.in-Some.game.now) c.args.events.now c.args.place) (c.in-Some.ensures.game c.args.rules.now c.args.list.now c.args.events.now c.requires.walk) refl in
    added_with (wrong_by c.args.weigher.now) c.args.rules.now c.args.list.now c.args.events.now c.args.plays.now c.args.below c.args.place c.in_ok-slips.slips.items c.args.found.now.items c.push_slips.new.found.items c.push_slips.result
    (c.in_ok-slips.ensures ∙ ap (λ (cs : List Change). cs ++ those_at c.args.plays.now c.args.place) here) c.push_slips.ensures
