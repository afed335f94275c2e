-- How many numbers are put into a draft.
use Rattle.std.specs.Prelude.{ℕ, Bool, true, false, List, take, Option, Some, None}
use Rattle.gcg_read.specs.declared.events.Event.{Event}
use Rattle.game_board.specs.Places.{place_of_line}
use Rattle.game_walk.specs.declared.refusals.Refusal.{Refusal}
use Rattle.gcg_drafts.specs.declared.missing.Missing.{Missing}
use Rattle.gcg_drafts.specs.declared.missing.Missing.TheVariants as missing

-- whether an event lacks its total
abbrev pub is_missing : Missing → Bool
is_missing missing.Nothing = false
is_missing missing.Total = true
is_missing missing.Both = true

-- whether it lacks its score
abbrev pub is_both : Missing → Bool
is_both missing.Nothing = false
is_both missing.Total = false
is_both missing.Both = true

-- the first of some items, up to a place if there is one
abbrev pub up_to : (place : Option ℕ) → List Missing → List Missing
up_to None lacks = lacks
up_to (Some place) lacks = take place lacks

-- what the events lack that come before the line on which a correction stops
abbrev pub lacks_before : List Missing → List Event → (stopped : Option Refusal) → List Missing
lacks_before lacks events None = lacks
lacks_before lacks events (Some refusal) = up_to (place_of_line events refusal.line) lacks
