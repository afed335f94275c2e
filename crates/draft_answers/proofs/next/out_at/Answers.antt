use Rattle.std.proofs.Common.{ap, ◌∙◌}
use Rattle.game_turns.specs.Tallies.{State}
use Rattle.draft_answers.proofs.next.out_at.Goals as goal

pub returns-in-Some : goal.returns-in-Some
returns-in-Some c = λ rules list written right is. c.out.ensures ∙ ap (λ (s : State). s.out) (c.in-Some.ensures.game rules list written right is)
