use Rattle.std.proofs.Common.{◌≡◌, ℕ, ◌+◌, ◌∷◌, false, rules, arith}
use Rattle.std.specs.Prelude.{Bool}
use Rattle.lex_file.specs.Walking.{strings}
use Rattle.gen_cross.specs.Paths.{labels_of}
use Rattle.gen_cross.proofs.Filling.{values_more}
use Rattle.gen_cross.proofs.masks.letters_between.Goals as goal

pub loop-letter-preserved : goal.loop-letter-preserved
loop-letter-preserved g c =
    let fits : ℕ → Bool = λ k. strings (g.L.PathLex.tail c.args.lex.now) c.in-Some.at ((k + 1) ∷ labels_of c.args.board.now c.args.before.now) in
    record {
      size = search rules;
      passed = values_more (λ k b. b ≡ fits k) c.loop-letter.letters false c.spells.result c.loop-letter.letter (omega arith) c.loop-letter.invariant.passed c.spells.ensures;
    }
