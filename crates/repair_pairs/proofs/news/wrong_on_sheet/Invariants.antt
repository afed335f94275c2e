use Rattle.std.proofs.Common.{◌≡◌, ℕ, ◌<◌, get_or, true}
use Rattle.game_corrections.specs.declared.wrong_numbers.WrongNumber.{WrongNumber}
use Rattle.repair_pairs.specs.Pairs.{is_on_sheet}
use Rattle.repair_pairs.proofs.news.wrong_on_sheet.Given as goal

abbrev pub invariant-loop-number : goal.invariant-loop-number
invariant-loop-number l = record { on_sheet : (k : ℕ) (d : WrongNumber) → k < l.number-index → is_on_sheet (get_or l.number-items k d) ≡ true }
