use Rattle.std.proofs.Common.{◌≡◌, ◌<◌, ℕ, length, get_or}
use Rattle.lex_agree.proofs.tables.put_byte.Given as goal

abbrev pub invariant-loop : goal.invariant-loop
invariant-loop l =
    record {
      size : length l.bytes.items ≡ l.counter;
      same : (n : ℕ) → n < length l.fn.bytes.items → get_or l.bytes.items n 0 ≡ get_or l.fn.bytes.items n 0;
    }
