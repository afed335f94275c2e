use Rattle.std.proofs.Common.{◌≡◌, ℕ, ◌+◌, ◌<◌, false, ◌∷◌, length, get_or}
use Rattle.lex_file.specs.Walking.{strings}
use Rattle.gen_cross.specs.Paths.{labels_of}
use Rattle.gen_cross.proofs.masks.letters_between.Given as goal

-- each letter passed has its answer
abbrev pub invariant-loop-letter : goal.invariant-loop-letter
invariant-loop-letter g l =
    record {
      size : length l.letters ≡ 26;
      passed : (k : ℕ) → k < l.letter → get_or l.letters k false ≡ strings (g.L.PathLex.tail l.lex) l.at ((k + 1) ∷ labels_of l.board l.before);
    }
