-- What is said of the best play of a turn that gave `gave` points, by what is said of one that gave nothing.
use Rattle.std.specs.Prelude.{◌≡◌, ℤ, ◌+ℤ◌}
use Rattle.ref_play.specs.Notations.{written}
use Rattle.game_bests.specs.declared.bests.BestPlay.{BestPlay}
use Rattle.game_bests.specs.declared.bests.TurnBest.{TurnBest}
use Rattle.game_bests.specs.declared.bests.TurnBest.TheVariants as best

-- the same play, as it is written and with its score, and how many points more it gives
pub record IsSamePlay (gave : ℤ) (a b : BestPlay) : Type 0 where
  pub notation : written b.written ≡ written a.written
  pub score : b.score ≡ a.score
  pub more : gave +ℤ b.more ≡ a.score

-- the same is said of the best play
abbrev pub IsSameBest : (gave : ℤ) → TurnBest → TurnBest → Type 0
IsSameBest gave best.NoTurn b = b ≡ best.NoTurn
IsSameBest gave best.NotShown b = b ≡ best.NotShown
IsSameBest gave best.NoPlay b = b ≡ best.NoPlay
IsSameBest gave (best.Best a) b = (same : BestPlay) × (b ≡ best.Best same) × IsSamePlay gave a same
