-- When two records are of the same game.
use Rattle.std.specs.Prelude.{⊤, ◌≡◌, ℕ, List, length, slice_get, Option, Some, None}
use Rattle.gcg_read.specs.declared.events.Event.{Event}
use Rattle.compare_alignments.specs.Agreeing.{Agree}

-- two lines state the same rack, or one of them does not state a rack
abbrev pub RacksAgree : Option (List ℕ) → Option (List ℕ) → Type 0
RacksAgree (Some tiles) (Some others) = tiles ≡ others
RacksAgree (Some tiles) None = ⊤
RacksAgree None other = ⊤

-- two lines say the same of what happened, and do not state different racks
pub record SameLine (e other : Event) : Type 0 where
  pub agree : Agree e other
  pub racks : RacksAgree e.rack other.rack

-- so do two records, line by line
pub record SameGame (events others : List Event) : Type 0 where
  pub as_many : length events ≡ length others
  pub each : (place : ℕ) (e other : Event) → slice_get events place ≡ Some e → slice_get others place ≡ Some other → SameLine e other
