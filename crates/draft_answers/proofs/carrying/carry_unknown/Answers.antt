use Rattle.std.proofs.Common.{sym, ◌∙◌}
use Rattle.draft_answers.proofs.Carried.{carried_by}
use Rattle.draft_answers.proofs.carrying.carry_unknown.Goals as goal

pub returns : goal.returns
returns c =
    λ all were.
    carried_by c.args.stop c.args.lacks.now all c.args.events.now c.carry.new.events c.args.place c.requires (sym c.is_unknown.ensures ∙ c.if-not-is_unknown.false) c.carry.ensures were
