use Rattle.lex_agree.proofs.Bounds.{label_low}
use Rattle.lex_agree.proofs.steps.law_of_labels.Goals as goal

pub returns : goal.returns
returns c =
    let branch = c.args.branch in
    label_low c.args.file.now.bytes.now c.args.file.now.shape c.args.node branch.label branch.step.accepts branch.step.next c.requires.node
    c.requires.accepts c.requires.next c.requires.alive
