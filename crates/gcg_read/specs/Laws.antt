-- Laws: what holds for each record that a text gives.
use Rattle.std.specs.Prelude.{◌≡◌, ℕ, ◌<◌, List, Ok}
use Rattle.std.specs.List.{AllPairs}
use Rattle.gcg_read.specs.declared.records.Record.{Record}
use Rattle.gcg_read.specs.Records.{record_of}

-- of two events of a record the later one is on a later line
abbrev pub LinesRise : Type 0
LinesRise = (text : List ℕ) (r : Record) → record_of text ≡ Ok r → AllPairs (λ a b. a.line < b.line) r.events
