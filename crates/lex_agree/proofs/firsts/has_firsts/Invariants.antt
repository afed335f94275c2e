use Rattle.std.proofs.Common.{ℕ, ◌<◌, ◌≡◌, [], get_or, length, true}
use Rattle.lex_file.specs.Languages.{language_of}
use Rattle.lex_agree.specs.Chains.{first_path}
use Rattle.lex_agree.specs.Walks.{AreSteps}
use Rattle.lex_agree.proofs.firsts.has_firsts.Given as goal

abbrev pub invariant-loop-place : goal.invariant-loop-place
invariant-loop-place l =
    record {
      there : (place : ℕ) → place < l.place → language_of l.file.bytes.now (first_path (get_or l.list place [])) ≡ true;
      steps : AreSteps l.file.bytes.now l.before (length l.before) l.steps;
    }
