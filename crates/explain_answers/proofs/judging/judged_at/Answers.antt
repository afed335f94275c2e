use Rattle.explain_answers.proofs.FirstRefused.{whole_allowed, rows_reach}
use Rattle.explain_answers.proofs.judging.judged_at.Goals as goal

pub returns-in_ok-before-in-None : goal.returns-in_ok-before-in-None
returns-in_ok-before-in-None c = λ rules list events w within.
    whole_allowed rules list events c.args.walk.now c.args.place c.in_ok-before-in-None.field-0.now w c.in-None.is within (λ right is. c.in_ok-before-in-None.ensures.game rules list events right is)

pub returns-in_err-before-in-None : goal.returns-in_err-before-in-None
returns-in_err-before-in-None c = λ rules list events w within.
    absurd (rows_reach rules list events c.args.walk.now c.args.place w c.in-None.is within c.in_err-before-in-None.ensures.none)
