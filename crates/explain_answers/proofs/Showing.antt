-- What is shown of an event.
use Rattle.std.proofs.Common.{◌≡◌, ℕ, ◌<◌, ◌≤◌, List, slice_get, Option, Some, None, refl, ap, ◌∙◌, subst, arith}
use Rattle.ref_tiles.specs.declared.tiles.Tile.{Tile}
use Rattle.ref_tiles.specs.declared.rulebook.Rules.{Rules}
use Rattle.ref_play.specs.declared.faults.PlayFault.{PlayFault}
use Rattle.gcg_read.specs.declared.events.Event.{Event}
use Rattle.gcg_read.specs.declared.events.EventKind.{EventKind}
use Rattle.game_board.specs.Laying.{board_before, AreLaid}
use Rattle.explain_answers.specs.declared.events.Shown.{Shown}
use Rattle.explain_answers.specs.Events.{IsShown, IsNotLaid}

-- if laying ends before a place, the play there cannot be laid
pub not_laid : (events : List Event) (place end : ℕ) (why : Option PlayFault) (e : Event) → AreLaid events place end why → end < place → slice_get events end ≡ Some e → IsNotLaid events place e.line
not_laid events place end None e laid below stands = let same = laid.ended in absurd (omega (arith, below, same))
not_laid events place end (Some why) e laid below stands =
    record { end = end; event = e; why = why; before = below; stands = stands; on_line = refl; fails = laid.ended.1 }

-- and otherwise the board is the one before the place
pub shown_there : (rules : Rules) (list : List (List ℕ)) (events : List Event) (place end : ℕ) (board : List (Option Tile)) (what : EventKind) (shown : Shown) → end ≤ place → place ≤ end
    → board ≡ board_before events end → IsShown rules list board what shown → IsShown rules list (board_before events place) what shown
shown_there rules list events place end board what shown below above is holds =
    let same : end ≡ place = omega (arith, below, above) in
    subst (λ (b : List (Option Tile)). IsShown rules list b what shown) (is ∙ ap (board_before events) same) holds
