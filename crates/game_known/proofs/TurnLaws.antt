-- What is said of the best play of a turn, by what is known.
use Rattle.std.proofs.Common.{◌≡◌, ℕ, ℤ, pos, true, List, Option, Some, None, sym, ◌∙◌, subst}
use Rattle.ref_tiles.specs.declared.tiles.Tile.{Tile}
use Rattle.ref_tiles.specs.declared.rulebook.Rules.{Rules}
use Rattle.gcg_read.specs.declared.events.Event.{Event}
use Rattle.game_turns.specs.Tallies.{State}
use Rattle.game_report.specs.BestPlays.{is_judged, full_rack}
use Rattle.game_bests.specs.declared.bests.TurnBest.{TurnBest}
use Rattle.game_bests.specs.declared.bests.TurnBest.TheVariants as best
use Rattle.game_bests.specs.Bests.{IsBestBy, IsBestByRack, IsTurnBest}
use Rattle.game_bests.proofs.BestLaws.{shown_best}
use Rattle.game_known.specs.Copying.{IsSameBest}

-- the best play by a rack, for a turn that gave `gave` points
same_by : (rules : Rules) (list : List (List ℕ)) (board : List (Option Tile)) (rack : List ℕ) (gave : ℤ) (a b : TurnBest) → IsBestBy rules list board rack (pos 0) a → IsSameBest gave a b
    → IsBestBy rules list board rack gave b
same_by rules list board rack gave best.NoTurn b is same = absurd is
same_by rules list board rack gave best.NotShown b is same = absurd is
same_by rules list board rack gave best.NoPlay b is same = subst (λ (x : TurnBest). IsBestBy rules list board rack gave x) (sym same) is
same_by rules list board rack gave (best.Best a) b is same =
    subst (λ (x : TurnBest). IsBestBy rules list board rack gave x) (sym same.1) (
      is.0,
      is.1,
      record { notation = same.2.notation ∙ is.2.notation; score = same.2.score ∙ is.2.score; more = same.2.more ∙ is.2.score },
    )

same_rack : (rules : Rules) (list : List (List ℕ)) (board : List (Option Tile)) (rack : Option (List ℕ)) (gave : ℤ) (a b : TurnBest) → IsBestByRack rules list board (pos 0) rack a
    → IsSameBest gave a b → IsBestByRack rules list board gave rack b
same_rack rules list board None gave a b is same = subst (λ (x : TurnBest). IsSameBest gave x b) is same
same_rack rules list board (Some rack) gave a b is same = same_by rules list board rack gave a b is same

-- what is said of a turn that gave `gave` points, by what is said of it as one that gave nothing
pub same_turn : (rules : Rules) (list : List (List ℕ)) (s : State) (e : Event) (gave : ℤ) (a b : TurnBest) → IsTurnBest rules list s e (pos 0) a → IsSameBest gave a b
    → IsTurnBest rules list s e gave b
same_turn rules list s e gave a b is same =
    record {
      turn = λ turns. same_rack rules list s.board (full_rack s e) gave a b (is.turn turns) same;
      idle = λ none. subst (λ (x : TurnBest). IsSameBest gave x b) (is.idle none) same;
    }

-- what is known for the board and the rack of a turn is said of it
pub known_turn : (rules : Rules) (list : List (List ℕ)) (s : State) (board : List (Option Tile)) (e : Event) (gave : ℤ) (rack : List ℕ) (a b : TurnBest) → full_rack s e ≡ Some rack
    → is_judged s.out e.kind ≡ true → board ≡ s.board → IsBestBy rules list board rack (pos 0) a → IsSameBest gave a b → IsTurnBest rules list s e gave b
known_turn rules list s board e gave rack a b shown turn same known said =
    shown_best rules list s board e gave rack b shown turn same (same_by rules list board rack gave a b known said)

-- what is said of a turn that shows its rack is known for its board and its rack
pub shown_turn : (rules : Rules) (list : List (List ℕ)) (s : State) (board : List (Option Tile)) (e : Event) (gave : ℤ) (rack : List ℕ) (b : TurnBest) → IsTurnBest rules list s e gave b
    → full_rack s e ≡ Some rack → is_judged s.out e.kind ≡ true → board ≡ s.board → IsBestBy rules list board rack gave b
shown_turn rules list s board e gave rack b is shown turn same =
    subst (λ (x : List (Option Tile)). IsBestBy rules list x rack gave b) (sym same)
    (subst (λ o. IsBestByRack rules list s.board gave o b) shown (is.turn turn))
