-- The last totals of the two players.
use Rattle.std.specs.Prelude.{◌≡◌, ℤ, pos, List, [], ◌∷◌, Option}
use Rattle.std.specs.Option.{unwrap_or}
use Rattle.gcg_read.specs.declared.events.Seat.{Seat}
use Rattle.gcg_read.specs.declared.events.Seat.TheVariants.{First, Second}
use Rattle.gcg_read.specs.declared.events.Event.{Event}
use Rattle.game_corrections.specs.LastTotals.{later, last_total}
use Rattle.game_walk.specs.declared.totals.Totals.{Totals}

-- the last total of a player after one more event
abbrev pub total_after : Event → Seat → Option ℤ → Option ℤ
total_after e player total = later (last_total player (e ∷ [])) total

abbrev pub total_of : Totals → Seat → Option ℤ
total_of totals First = totals.first
total_of totals Second = totals.second

-- the last total of a player, or 0
abbrev pub had_of : Totals → Seat → ℤ
had_of totals player = unwrap_or (total_of totals player) (pos 0)

-- the last totals that some events have
pub record HasTotals (events : List Event) (totals : Totals) : Type 0 where
  pub first : totals.first ≡ last_total First events
  pub second : totals.second ≡ last_total Second events
