-- Changes of plays, one after another.
use Rattle.std.proofs.Common.{◌≡◌, ◌<◌, ◌≤◌, ℕ, List, [], ◌∷◌, ◌++◌, length, sym, subst, arith}
use Rattle.std.proofs.lemmas.List.Elements.{All-nil, All-push}
use Rattle.gcg_read.specs.declared.events.Event.{Event}
use Rattle.gcg_read.specs.declared.events.Seat.{Seat}
use Rattle.game_walk.specs.declared.walking.Walk.{Walk}
use Rattle.repair_changes.specs.declared.slips.Change.{Change}
use Rattle.repair_changes.specs.declared.slips.RightPlay.{RightPlay}
use Rattle.repair_changes.specs.declared.slips.MissingLine.TheVariants as line
use Rattle.repair_changes.specs.declared.slips.Slip.TheVariants as slip
use Rattle.repair_plays.specs.PlayChanges.{IsPlayChange, ArePlayChanges}

-- one more
pub one_more : (written : List Event) (walk : Walk) (changes new : List Change) (change : Change) → ArePlayChanges written walk changes → IsPlayChange written walk change → new ≡ changes ++ change ∷ []
    → ArePlayChanges written walk new
one_more written walk changes new change are is added = subst (ArePlayChanges written walk) (sym added) (All-push (IsPlayChange written walk) changes change are is)

pub missing_more : (written : List Event) (walk : Walk) (changes new : List Change) (place : ℕ) (player : Seat) (play : RightPlay) → ArePlayChanges written walk changes → place ≤ length written
    → place ≤ length walk.rows.items → new ≡ changes ++ record { place = place; slip = slip.Missing (line.Play player play) } ∷ [] → ArePlayChanges written walk new
missing_more written walk changes new place player play are within tried added =
    one_more written walk changes new (record { place = place; slip = slip.Missing (line.Play player play) }) are (record { within = within; tried = tried; play = tt }) added

pub other_more : (written : List Event) (walk : Walk) (changes new : List Change) (place : ℕ) (play : RightPlay) → ArePlayChanges written walk changes → place < length written
    → place ≤ length walk.rows.items → new ≡ changes ++ record { place = place; slip = slip.Replayed play } ∷ [] → ArePlayChanges written walk new
other_more written walk changes new place play are within tried added =
    one_more written walk changes new (record { place = place; slip = slip.Replayed play }) are (record { within = omega arith; tried = tried; play = tt }) added

-- none yet
pub none : (written : List Event) (walk : Walk) (changes : List Change) → changes ≡ [] → ArePlayChanges written walk changes
none written walk changes empty = subst (ArePlayChanges written walk) (sym empty) (All-nil (IsPlayChange written walk))
