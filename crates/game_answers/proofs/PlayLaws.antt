-- The best plays as values, and the lines that a report makes from them.
use Rattle.std.proofs.Common.{◌≡◌, ℕ, ℤ, ◌≤◌, List, [], ◌∷◌, ◌++◌, length, map, take, refl, ap, ◌∙◌, Option}
use Rattle.std.specs.List.{flat_map}
use Rattle.std.proofs.lemmas.List.{take_all}
use Rattle.ref_tiles.specs.declared.tiles.Tile.{Tile}
use Rattle.ref_tiles.specs.declared.rulebook.Rules.{Rules}
use Rattle.ref_play.specs.declared.plays.Play.{Play}
use Rattle.ref_play.specs.Best.{Given}
use Rattle.gen_sinks.specs.Sinks.{seen_pair}
use Rattle.game_notes.specs.Keeping.{AreFirstPlays}
use Rattle.game_report.specs.TopPlays.{play_line, top_text, ReportsFirst}
use Rattle.game_report.proofs.Fronts.{fewer_plays}
use Rattle.game_answers.specs.declared.plays.ScoredPlay.{ScoredPlay}
use Rattle.game_answers.specs.Plays.{play_on, ArePlaysOn, AreBestPlays, reported_line, reported_text, plays_text}

-- all plays, when none is left
pub all_plays : (board : List (Option Tile)) (plays : List (Play × ℤ)) (many : ℕ) (kept : List ScoredPlay) → length plays ≤ many → ArePlaysOn board (map seen_pair (take many plays)) kept
    → ArePlaysOn board (map seen_pair plays) kept
all_plays board plays many kept all is = is ∙ ap (λ (ps : List (Play × ℤ)). map (play_on board) (map seen_pair ps)) (take_all many plays all)

-- the first n of the plays that were kept are the first n of all
pub front_best : (many n : ℕ) (rules : Rules) (list : List (List ℕ)) (board : List (Option Tile)) (rack : List ℕ) (kept seen : List Given) (plays : List ScoredPlay) → n ≤ many
    → AreFirstPlays many rules list board rack kept → seen ≡ kept → ArePlaysOn board (take n seen) plays → AreBestPlays n rules list board rack plays
front_best many n rules list board rack kept seen plays few are same reported =
    (take n kept, fewer_plays many n rules list board rack kept few are, reported ∙ ap (λ (ps : List Given). map (play_on board) (take n ps)) same)

-- ---- their lines

same_lines : (board : List (Option Tile)) (given : List Given) → flat_map reported_line (map (play_on board) given) ≡ flat_map (play_line board) given
same_lines board [] = refl
same_lines board (g ∷ more) = ap (λ t. play_line board g ++ t) (same_lines board more)

same_text : (board : List (Option Tile)) (given : List Given) → reported_text (map (play_on board) given) ≡ top_text board given
same_text board [] = refl
same_text board (g ∷ more) = same_lines board (g ∷ more)

pub reports_first : (number : ℕ) (rules : Rules) (list : List (List ℕ)) (board : List (Option Tile)) (rack : List ℕ) (plays : List ScoredPlay) → AreBestPlays number rules list board rack plays
    → ReportsFirst number rules list board rack (plays_text plays)
reports_first number rules list board rack plays are = (are.0, are.1, ap reported_text are.2 ∙ same_text board are.0)
