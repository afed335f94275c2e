use Rattle.std.proofs.Common.{◌≡◌, length, take}
use Rattle.lex_list.specs.Lists.{capitals}
use Rattle.lex_list.proofs.words.Word.of_line.Given as goal

abbrev pub invariant-loop-place : goal.invariant-loop-place
invariant-loop-place l =
    record {
      letters : take l.place l.letters ≡ capitals (take l.place l.line);
      size : length l.letters ≡ 15;
    }
