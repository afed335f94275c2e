-- The best play of an event is that of the same event with other numbers.
use Rattle.std.proofs.Common.{◌≡◌, ℕ, ℤ, List, Option, Some, None, sym, ap, ◌∙◌, subst}
use Rattle.ref_tiles.specs.declared.rulebook.Rules.{Rules}
use Rattle.gcg_read.specs.declared.events.Event.{Event}
use Rattle.game_turns.specs.Seats.{side_of}
use Rattle.game_turns.specs.Tallies.{State, tally_at}
use Rattle.game_report.specs.BestPlays.{is_judged, whole_rack, full_rack}
use Rattle.game_corrections.specs.Corrections.{IsRenumbered}
use Rattle.game_bests.specs.declared.bests.TurnBest.{TurnBest}
use Rattle.game_bests.specs.Bests.{IsBestByRack, IsTurnBest}
use Rattle.sheet_scores.specs.Rows.{IsBestAt}

same_rack : (s : State) (a b : Event) → IsRenumbered a b → full_rack s a ≡ full_rack s b
same_rack s a b same =
    ap (λ player. whole_rack (side_of s.sides player).rack a.rack) (sym same.player) ∙ ap (whole_rack (side_of s.sides b.player).rack) (sym same.rack)

same_turn : (rules : Rules) (list : List (List ℕ)) (s : State) (a b : Event) (gave : ℤ) (best : TurnBest) → IsRenumbered a b → IsTurnBest rules list s a gave best → IsTurnBest rules list s b gave best
same_turn rules list s a b gave best same is =
    record {
      turn = λ turns. subst (λ o. IsBestByRack rules list s.board gave o best) (same_rack s a b same) (is.turn (ap (λ k. is_judged s.out k) (sym same.kind) ∙ turns));
      idle = λ none. is.idle (ap (λ k. is_judged s.out k) (sym same.kind) ∙ none);
    }

pub same_best : (rules : Rules) (list : List (List ℕ)) (events : List Event) (place : ℕ) (a b : Event) (gave : ℤ) (best : Option TurnBest) → IsRenumbered a b → IsBestAt rules list events place a gave best
    → IsBestAt rules list events place b gave best
same_best rules list events place a b gave None same is = is
same_best rules list events place a b gave (Some best) same is = (is.0, same_turn rules list (tally_at rules events place) a b gave best same is.1)
