use Rattle.std.proofs.Common.{◌≡◌, ℕ, length, get_or}
use Rattle.lex_build.proofs.converting.put_number.Given as goal

abbrev pub invariant-loop : goal.invariant-loop
invariant-loop l =
    record {
      size : length l.numbers.items ≡ l.counter;
      same : (n : ℕ) → get_or l.numbers.items n 0 ≡ get_or l.initial.numbers.items n 0;
    }
