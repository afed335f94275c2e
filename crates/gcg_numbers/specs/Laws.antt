-- What a reader reads from a sheet with other numbers.
use Rattle.std.specs.Prelude.{◌≡◌, ◌≤◌, ℕ, List, [], ◌∷◌, length, Ok}
use Rattle.gcg_read.specs.declared.events.Event.{Event}
use Rattle.gcg_read.specs.declared.records.Record.{Record}
use Rattle.gcg_read.specs.Numerals.{IsPoints}
use Rattle.gcg_read.specs.Records.{record_of, most_bytes}
use Rattle.gcg_numbers.specs.Numbers.{text_with}

-- the same event with a score and a total that a record can write
pub record IsOther (old new : Event) : Type 0 where
  pub same : new ≡ record old { score = new.score; total = new.total }
  pub score : IsPoints new.score
  pub total : IsPoints new.total

-- the same events with other scores and totals
abbrev pub AreOther : List Event → List Event → Type 0
AreOther [] [] = Unit {0}
AreOther [] (new ∷ news) = ⊥
AreOther (old ∷ olds) [] = ⊥
AreOther (old ∷ olds) (new ∷ news) = IsOther old new × AreOther olds news

-- A sheet with the numbers of other events reads as the record with those events, on the same lines, if it is not too long.
abbrev pub IsReadWithNumbers : Type 0
IsReadWithNumbers =
    (text : List ℕ) (r : Record) (events : List Event) → record_of text ≡ Ok r → AreOther r.events events → length (text_with events text) ≤ most_bytes
    → record_of (text_with events text) ≡ Ok (record r { events = events })
