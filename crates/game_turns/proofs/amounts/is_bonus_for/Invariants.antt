use Rattle.std.proofs.Common.{◌≡◌, ◌+◌, ◌-◌, ◌*◌, ◌==◌}
use Rattle.std.specs.List.{list_any, range_with_len}
use Rattle.game_turns.proofs.amounts.is_bonus_for.Given as goal

abbrev pub invariant-loop-number : goal.invariant-loop-number
invariant-loop-number l =
    list_any (λ n. l.amount == l.unit * n) (range_with_len l.number (l.words + 1 - l.number))
    ≡ list_any (λ n. l.amount == l.unit * n) (range_with_len 1 l.words)
