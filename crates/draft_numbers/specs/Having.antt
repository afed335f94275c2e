-- What the players have, as it is kept.
use Rattle.draft_numbers.specs.declared.totals.Had.{Had}
use Rattle.draft_numbers.specs.Numbers.{Totals}

abbrev pub totals_of : Had → Totals
totals_of had = record { first = had.first; second = had.second }
