use Rattle.std.proofs.lemmas.Result.{IfOk-weaker}
use Rattle.std.proofs.Common.{◌<◌, ℕ, List, length, subst}
use Rattle.gcg_read.specs.declared.events.Event.{Event}
use Rattle.lex_check.specs.Pairs.{list_in}
use Rattle.game_turns.specs.Machines.{state_of}
use Rattle.game_walk.specs.Walks.{IsWalk}
use Rattle.sheet_notes.specs.Notes.{AreNextPlays, AreNextAt}
use Rattle.sheet_notes.proofs.NextPlays.{next_known}
use Rattle.sheet_notes.proofs.next_plays.next_at.Goals as goal

pub returns-in-Some : goal.returns-in-Some
returns-in-Some c =
    let rules = c.args.rules.now in
    let list = list_in c.args.pair.now in
    let walk = c.args.walk.now in
    let number = c.args.number in
    let place = c.args.place in
    let event = c.args.event.now in
    let s = state_of c.in-Some.machine.now in
    IfOk-weaker c.next_of_turn.result (λ plays. AreNextPlays c.most_of.result rules list s event plays.items)
    (λ plays. (written right : List Event) → IsWalk rules list written right walk → place < length written → AreNextAt number rules list right place event plays.items)
    (λ plays next written right is within.
    next_known number rules list written right walk place event s plays.items is c.in-Some.ensures.there c.if-number-lt2.false (c.in-Some.ensures.game rules list written right is)
    (subst (λ (n : ℕ). AreNextPlays n rules list s event plays.items) c.most_of.ensures.is next))
    c.next_of_turn.ensures
