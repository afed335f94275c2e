use Rattle.std.proofs.Common.{◌++◌, List, ℕ, length, sym, ap, ◌∙◌}
use Rattle.lex_check.specs.Rotations.{paths_of, gathered}
use Rattle.lex_check.proofs.Rotations.{gathered_none, gathered_more}
use Rattle.lex_check.proofs.rotating.gather.Goals as goal

pub loop-place-init : goal.loop-place-init
loop-place-init c = c.in_ok-paths.ensures.items ∙ sym (gathered_none c.args.list.now)

pub loop-place-preserved : goal.loop-place-preserved
loop-place-preserved c =
    c.in_ok-push_paths.ensures
    ∙ ap (λ (paths : List (List ℕ)). paths ++ paths_of c.word.result.now (length c.word.result.now)) c.loop-place.invariant
    ∙ ap (λ (word : List ℕ). gathered c.args.list.now c.loop-place.place ++ paths_of word (length word)) c.word.ensures.word
    ∙ gathered_more c.args.list.now c.loop-place.place
