-- What holds of each line that is not read.
use Rattle.std.specs.Prelude.{◌≡◌, ℕ, Bool, List, Some, Ok}
use Rattle.gcg_read.specs.declared.records.Record.{Record}
use Rattle.gcg_read.specs.Records.{with_line}
use Rattle.gcg_unread.specs.declared.reasons.UnreadWhy.{UnreadWhy}
use Rattle.gcg_unread.specs.Lines.{why_unread}

-- a record with a line that is listed is what it was before
abbrev pub ArePassedOver : Type 0
ArePassedOver = (in_note : Bool) (line : List ℕ) (reason : UnreadWhy) → why_unread in_note line ≡ Some reason → (so_far : Record) (number : ℕ) → with_line so_far number line ≡ Ok so_far
