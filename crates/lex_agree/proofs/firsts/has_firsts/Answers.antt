use Rattle.std.proofs.Common.{◌≡◌, ℕ, List, [], get_or, true, inl, inr, subst, arith}
use Rattle.std.proofs.lemmas.Bool.{cases_lt}
use Rattle.lex_file.specs.Languages.{language_of}
use Rattle.lex_agree.specs.Chains.{first_path}
use Rattle.lex_agree.proofs.Walking.{steps_same, word_there}
use Rattle.lex_agree.proofs.firsts.has_firsts.Goals as goal

pub take_steps-requires-clause-steps : goal.take_steps-requires-clause-steps
take_steps-requires-clause-steps c =
    steps_same c.args.file.now.bytes.now c.loop-place.before.now c.word-word.result.now c.common_letters-same.result c.loop-place.steps
    c.loop-place.invariant.steps c.common_letters-same.ensures

pub loop-place-preserved : goal.loop-place-preserved
loop-place-preserved c =
    let bytes = c.args.file.now.bytes.now in
    let here = word_there bytes c.word-word.result.now c.take_steps.new.steps c.take_steps.ensures c.if-not-steps-word.false in
    record {
      there = λ place le. elim (cases_lt place c.loop-place.place) [
        | inl before ↦ c.loop-place.invariant.there place before
        | inr last ↦
            let same : c.loop-place.place ≡ place = omega arith in
            subst (λ (n : ℕ). language_of bytes (first_path (get_or c.args.list.now n [])) ≡ true) same
            (subst (λ (word : List ℕ). language_of bytes (first_path word) ≡ true) c.word-word.ensures.word here)
      ];
      steps = c.take_steps.ensures;
    }
