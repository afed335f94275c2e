-- The best play of a turn, by the state before it.
use Rattle.std.proofs.Common.{◌≡◌, ℕ, ℤ, true, false, List, Option, Some, None, sym, ◌∙◌, subst}
use Rattle.std.proofs.lemmas.Bool.{false≢true}
use Rattle.ref_tiles.specs.declared.tiles.Tile.{Tile}
use Rattle.ref_tiles.specs.declared.rulebook.Rules.{Rules}
use Rattle.gcg_read.specs.declared.events.Event.{Event}
use Rattle.game_turns.specs.Tallies.{State}
use Rattle.game_report.specs.BestPlays.{is_judged, full_rack}
use Rattle.game_bests.specs.declared.bests.TurnBest.{TurnBest}
use Rattle.game_bests.specs.declared.bests.TurnBest.TheVariants as best
use Rattle.game_bests.specs.Bests.{IsBestByRack, IsTurnBest}

-- a turn whose line shows the whole rack
pub shown_best : (rules : Rules) (list : List (List ℕ)) (s : State) (board : List (Option Tile)) (e : Event) (gave : ℤ) (rack : List ℕ) (b : TurnBest) → full_rack s e ≡ Some rack
    → is_judged s.out e.kind ≡ true → board ≡ s.board → IsBestByRack rules list board gave (Some rack) b → IsTurnBest rules list s e gave b
shown_best rules list s board e gave rack b shown turn same is =
    record {
      turn = λ turns.
          subst (λ o. IsBestByRack rules list s.board gave o b) (sym shown)
          (subst (λ board. IsBestByRack rules list board gave (Some rack) b) same is);
      idle = λ none. absurd (false≢true (sym none ∙ turn));
    }

-- a turn whose line does not show it
pub hidden_best : (rules : Rules) (list : List (List ℕ)) (s : State) (e : Event) (gave : ℤ) (b : TurnBest) → full_rack s e ≡ None → is_judged s.out e.kind ≡ true → b ≡ best.NotShown
    → IsTurnBest rules list s e gave b
hidden_best rules list s e gave b hidden turn is =
    record {
      turn = λ turns. subst (λ o. IsBestByRack rules list s.board gave o b) (sym hidden) is;
      idle = λ none. absurd (false≢true (sym none ∙ turn));
    }

-- an event that is not a turn
pub idle_best : (rules : Rules) (list : List (List ℕ)) (s : State) (e : Event) (gave : ℤ) (b : TurnBest) → is_judged s.out e.kind ≡ false → b ≡ best.NoTurn → IsTurnBest rules list s e gave b
idle_best rules list s e gave b idle is =
    record {
      turn = λ turns. absurd (false≢true (sym idle ∙ turns));
      idle = λ none. is;
    }
