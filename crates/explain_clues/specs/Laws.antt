-- What the words of a play add up to.
use Rattle.std.specs.Prelude.{◌≡◌, ◌+◌, ◌*◌, List, Option, sum_by}
use Rattle.ref_tiles.specs.declared.tiles.Tile.{Tile}
use Rattle.ref_tiles.specs.declared.rulebook.Rules.{Rules}
use Rattle.ref_board.specs.declared.directions.Dir.{Dir}
use Rattle.ref_play.specs.declared.placed.Placed.{Placed}
use Rattle.ref_play.specs.declared.runs.Run.{Run}
use Rattle.ref_play.specs.Scores.{bonus_score, score_of}
use Rattle.explain_clues.specs.Words.{WordSum, word_sum, word_sums, worth}

-- A word scores what its squares add, times the product of its word premiums; and a play scores what its words score, plus the bonus.
pub record SumsAddUp : Type 0 where
  pub word : (rules : Rules) (after : List (Option Tile)) (ps : List Placed) (run : Run)
      → (word_sum rules after ps run).score ≡ sum_by worth (word_sum rules after ps run).squares * (word_sum rules after ps run).factor
  pub play : (rules : Rules) (d : Dir) (board : List (Option Tile)) (ps : List Placed)
      → sum_by (λ (w : WordSum). w.score) (word_sums rules d board ps) + bonus_score rules ps ≡ score_of rules board ps
