-- What the line of an event says of its best play, by the value of it.
use Rattle.std.proofs.Common.{ℕ, ℤ, List, ◌∷◌, ◌++◌, codes, refl, ap, ◌∙◌, Option, Some, None}
use Rattle.std.specs.Fmt.{signed_decimal}
use Rattle.ref_tiles.specs.declared.tiles.Tile.{Tile}
use Rattle.ref_tiles.specs.declared.rulebook.Rules.{Rules}
use Rattle.ref_play.specs.Notations.{Written, notation_of}
use Rattle.game_report.specs.BestPlays.{full_rack, notation_text, ReportsByRack}
use Rattle.game_bests.specs.declared.bests.TurnBest.{TurnBest}
use Rattle.game_bests.specs.declared.bests.TurnBest.TheVariants as best
use Rattle.game_bests.specs.Bests.{IsBestBy, IsBestByRack}
use Rattle.game_bests.specs.Reportings.{best_reported, BestsAreReported}

reported_by : (rules : Rules) (list : List (List ℕ)) (board : List (Option Tile)) (rack : List ℕ) (gave : ℤ) (b : TurnBest) → IsBestBy rules list board rack gave b
    → ReportsByRack rules list board (Some rack) (best_reported b)
reported_by rules list board rack gave best.NoTurn is = absurd is
reported_by rules list board rack gave best.NotShown is = absurd is
reported_by rules list board rack gave best.NoPlay is = (None, is, refl)
reported_by rules list board rack gave (best.Best b) is =
    let given = is.0 in (
      Some given,
      is.1,
      ap (λ (w : Written). codes " best " ++ notation_text w ++ 32 ∷ signed_decimal b.score) is.2.notation
          ∙ ap (λ (n : ℤ). codes " best " ++ notation_text (notation_of board given.tiles) ++ 32 ∷ signed_decimal n) is.2.score,
    )

reported_by_rack : (rules : Rules) (list : List (List ℕ)) (board : List (Option Tile)) (gave : ℤ) (rack : Option (List ℕ)) (b : TurnBest) → IsBestByRack rules list board gave rack b
    → ReportsByRack rules list board rack (best_reported b)
reported_by_rack rules list board gave None b is = ap best_reported is
reported_by_rack rules list board gave (Some rack) b is = reported_by rules list board rack gave b is

pub reports_best : BestsAreReported
reports_best rules list s e gave b is =
    record {
      judged = λ turn. reported_by_rack rules list s.board gave (full_rack s e) b (is.turn turn);
      silent = λ idle. ap best_reported (is.idle idle);
    }
