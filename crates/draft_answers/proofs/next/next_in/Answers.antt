use Rattle.std.proofs.Common.{ℕ, List, length, refl, sym, subst}
use Rattle.gcg_read.specs.declared.events.Event.{Event}
use Rattle.lex_check.specs.Pairs.{list_in}
use Rattle.game_turns.specs.Tallies.{tally_at}
use Rattle.game_walk.specs.Walks.{IsWalk}
use Rattle.draft_answers.specs.Nexts.{IsNextOf}
use Rattle.draft_answers.proofs.Movers.{is_next}
use Rattle.draft_answers.proofs.next.next_in.Goals as goal

pub returns : goal.returns
returns c =
    λ text means.
    let rules = c.args.rules.now in
    let list = list_in c.args.pair.now in
    let old = c.args.game.events in
    let right = c.walk_and_correct.new.events in
    let walk = c.in_ok-walk.walk in
    let walked : IsWalk rules list old right walk = subst (λ (l : List (List ℕ)). IsWalk rules l old right walk) c.list.ensures.list c.in_ok-walk.ensures.walk in
    let of_slice : IsWalk rules list old c.as_slice.result.now walk = subst (λ (es : List Event). IsWalk rules list old es walk) (sym c.as_slice.ensures) walked in
    is_next rules list text c.args.game walk _ means refl walked c.refused_for_good.ensures
    (subst (λ (es : List Event). IsNextOf (tally_at rules es (length walk.rows.items)) c.next_of-next.result) c.as_slice.ensures (c.next_of-next.ensures rules list old of_slice))
