-- What is said of the racks of a pair.
use Rattle.std.specs.Prelude.{◌≡◌, ◌⊎◌, ℕ, Bool, true, false, Option, Some, None, if◌then◌else◌}
use Rattle.gcg_read.specs.declared.events.Event.{Event}
use Rattle.gcg_read.specs.declared.events.Seat.{Seat}
use Rattle.compare_alignments.specs.declared.pairs.Pair.{Pair}
use Rattle.compare_alignments.specs.Merging.{line_at, own_side, is_chosen}
use Rattle.compare_choices.specs.declared.sheets.Sheets.{Sheets}
use Rattle.compare_choices.specs.declared.trials.Trial.{Trial}
use Rattle.compare_choices.specs.declared.trials.Trial.TheVariants as trial
use Rattle.compare_choices.specs.Results.{HaveOtherRacks}
use Rattle.compare_answers.specs.declared.racks.OwnRack.{OwnRack}
use Rattle.compare_answers.specs.declared.racks.OwnRack.TheVariants as own
use Rattle.compare_answers.specs.declared.racks.RacksAnswer.{RacksAnswer}
use Rattle.compare_answers.specs.declared.racks.RacksAnswer.TheVariants as racks

-- why the rack of the player's own sheet is not taken, if this comes of it
abbrev pub own_rack : Option Trial → OwnRack
own_rack None = own.NoGame
own_rack (Some (trial.Stops stopped)) = own.NoGame
own_rack (Some trial.NoGame) = own.NoDeal
own_rack (Some trial.Open) = own.NoDealFound
own_rack (Some (trial.Game game)) = own.MoreWrong

-- which rack of a player is taken
abbrev pub taken_rack : (owner player : Seat) → (is_other : Bool) → Option Trial → RacksAnswer
taken_rack owner player is_other flip = if is_other then racks.Other (own_side owner player) player (own_rack flip) else racks.Own (own_side owner player) player

-- the lines of a pair state other racks: those of one player are an item, and a choice takes one of them
abbrev pub other_racks_of : (is_item : Bool) → (owner : Seat) → Event → (is_other : Bool) → Option Trial → RacksAnswer
other_racks_of false owner e is_other flip = racks.Differ
other_racks_of true owner e is_other flip = taken_rack owner e.player is_other flip

-- the racks of a pair are not the same, if the first sheet has this line
abbrev pub AreOtherRacks : Sheets → Pair → Option Event → (choice number : ℕ) → Option Trial → RacksAnswer → Type 0
AreOtherRacks s p None choice number flip a = ⊥
AreOtherRacks s p (Some e) choice number flip a = HaveOtherRacks s p × (a ≡ other_racks_of p.other_racks s.owner e (is_chosen choice number) flip)

-- What is said of the racks of a pair, if they are the item with a number and a choice is the best: that they are the same, or one is not stated; or, if
-- they are of one player, which of them the choice takes, and why not the one of the player's own sheet.
abbrev pub IsRacksAnswer : Sheets → Pair → (choice number : ℕ) → Option Trial → RacksAnswer → Type 0
IsRacksAnswer s p choice number flip a =
    ((HaveOtherRacks s p → ⊥) × (a ≡ racks.Same)) ⊎ AreOtherRacks s p (line_at s.first.events p.first) choice number flip a
