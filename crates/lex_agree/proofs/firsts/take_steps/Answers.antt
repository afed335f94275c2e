use Rattle.std.proofs.Common.{ℕ, ◌∷◌, get_or, sym, ap, ◌∙◌}
use Rattle.lex_file.specs.Walking.{next_strings}
use Rattle.lex_agree.specs.Walks.{node_tail, no_step}
use Rattle.lex_agree.proofs.Paths.{word_sizes}
use Rattle.lex_agree.proofs.Walking.{steps_more}
use Rattle.lex_agree.proofs.firsts.take_steps.Goals as goal

pub loop-split-preserved : goal.loop-split-preserved
loop-split-preserved c =
    let bytes = c.args.file.now.bytes.now in
    let before = get_or c.loop-split.steps c.loop-split.split no_step in
    steps_more bytes c.args.word.now c.loop-split.split c.loop-split.steps c.follow-step.result c.past_mark.result
    (word_sizes c.args.word.now c.requires.word).1 c.loop-split-test.true c.loop-split.invariant c.follow-step.ensures.open_there
    (λ t. ap (λ (label : ℕ). next_strings (node_tail bytes) before.next (label ∷ t)) (sym c.label_of.ensures) ∙ c.follow-step.ensures.strings t)
    c.past_mark.ensures
