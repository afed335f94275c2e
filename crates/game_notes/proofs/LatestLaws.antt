-- The best plays that are kept.
use Rattle.std.proofs.Common.{◌≡◌, ℕ, ℤ, List, Option, Some, option_map, sym, ap, ◌∙◌, subst}
use Rattle.ref_tiles.specs.declared.tiles.Tile.{Tile}
use Rattle.ref_tiles.specs.declared.rulebook.Rules.{Rules}
use Rattle.ref_play.specs.declared.plays.Play.{Play}
use Rattle.ref_play.specs.Best.{IsAnnotation}
use Rattle.gen_sinks.specs.Sinks.{seen_pair}
use Rattle.game_notes.specs.declared.latest.FoundBest.{FoundBest}
use Rattle.game_notes.specs.Latest.{IsFound}

-- a play and its score that are copied
pub same_best : (best : Option (Play × ℤ)) (own play : Play) (given score : ℤ) → best ≡ Some (own, given) → play ≡ own → score ≡ given → Some (play, score) ≡ best
same_best best own play given score is plays scores = ap (λ (p : Play). Some (p, score)) plays ∙ ap (λ (s : ℤ). Some (own, s)) scores ∙ sym is

-- what was found for a board and a rack that are the same
pub found_for : (rules : Rules) (list : List (List ℕ)) (found : FoundBest) (best : Option (Play × ℤ)) (board : List (Option Tile)) (rack : List ℕ)
    → IsFound rules list found → best ≡ found.best → found.board ≡ board → found.rack ≡ rack → IsAnnotation rules list board rack (option_map seen_pair best)
found_for rules list found best board rack is same boards racks =
    subst (λ (b : List (Option Tile)). IsAnnotation rules list b rack (option_map seen_pair best)) boards
    (subst (λ (r : List ℕ). IsAnnotation rules list found.board r (option_map seen_pair best)) racks
    (subst (λ o. IsAnnotation rules list found.board found.rack (option_map seen_pair o)) (sym same) is))
