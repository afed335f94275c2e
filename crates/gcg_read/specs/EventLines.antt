-- What the fields of an event line say, or which fault comes first.
use Rattle.std.specs.Prelude.{ℕ, Bool, List, [], ◌∷◌, Option, Some, None, Result, Ok, Err, if◌then◌else◌}
use Rattle.std.specs.List.{list_any}
use Rattle.std.specs.Char.{is_ascii_digit}
use Rattle.std.specs.Option.{ok_or}
use Rattle.gcg_read.specs.declared.faults.Why.{Why}
use Rattle.gcg_read.specs.declared.faults.Why.TheVariants as why
use Rattle.gcg_read.specs.declared.events.Event.{Event}
use Rattle.gcg_read.specs.declared.events.EventKind.{EventKind}
use Rattle.gcg_read.specs.declared.events.EventKind.TheVariants as kind
use Rattle.gcg_read.specs.declared.event_lines.Heading.{Heading}
use Rattle.gcg_read.specs.Codes.{code_of}
use Rattle.gcg_read.specs.Faults.{◌>>=◌}
use Rattle.gcg_read.specs.Numerals.{points_of}
use Rattle.gcg_read.specs.Positions.{position_of}
use Rattle.gcg_read.specs.Racks.{rack_of}
use Rattle.gcg_read.specs.Texts.{text_of}

-- what happened, and then the score and the total
unfoldable pub scored_of : Heading → Option (List ℕ) → EventKind → List ℕ → List ℕ → Result Event Why
scored_of heading rack what score total = do
  points ← ok_or (points_of score) why.Number
  after ← ok_or (points_of total) why.Number
  Ok (record { line = heading.line; player = heading.player; rack = rack; kind = what; score = points; total = after })

-- a play: position, word, score and total
unfoldable pub played_of : Heading → Option (List ℕ) → List ℕ → List ℕ → List ℕ → List ℕ → Result Event Why
played_of heading rack position word score total = do
  place ← ok_or (position_of position) why.Position
  text ← ok_or (text_of word) why.Word
  scored_of heading rack (kind.Play place.at place.dir text) score total

-- a code, and then the score and the total
unfoldable pub coded_of : Heading → Option (List ℕ) → List ℕ → List ℕ → List ℕ → Result Event Why
coded_of heading rack code score total = do
  what ← ok_or (code_of code) why.Code
  scored_of heading rack what score total

abbrev pub has_digit : List ℕ → Bool
has_digit bytes = list_any is_ascii_digit bytes

-- Three fields are a code without a rack. Four are a play without a rack if the first has a digit, and otherwise a code with a
-- rack. Five are a play with a rack.
unfoldable pub event_of : Heading → List (List ℕ) → Result Event Why
event_of heading (a ∷ b ∷ c ∷ []) = coded_of heading None a b c
event_of heading (a ∷ b ∷ c ∷ d ∷ []) =
    if has_digit a then played_of heading None a b c d
    else (ok_or (rack_of a) why.Rack >>= λ rack. coded_of heading (Some rack) b c d)
event_of heading (a ∷ b ∷ c ∷ d ∷ e ∷ []) = do
  rack ← ok_or (rack_of a) why.Rack
  played_of heading (Some rack) b c d e
event_of heading _ = Err why.Fields
