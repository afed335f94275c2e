use Rattle.std.proofs.Common.{◌≡◌, ◌≤◌, ◌*◌, length, take}
use Rattle.std.specs.List.{sum_by}
use Rattle.lex_agree.proofs.letters.letter_count.Given as goal

abbrev pub invariant-loop-place : goal.invariant-loop-place
invariant-loop-place l =
    record {
      number : l.count ≡ sum_by length (take l.place l.list);
      few : l.count ≤ 15 * l.place;
    }
