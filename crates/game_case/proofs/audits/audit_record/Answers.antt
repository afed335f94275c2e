use Rattle.std.proofs.Common.{sym, subst, ◌∙◌}
use Rattle.lex_check.specs.Pairs.{list_in}
use Rattle.game_walk.specs.Refusals.{IsReportedRefusal}
use Rattle.game_walk.specs.Walks.{IsWalk}
use Rattle.game_walk.proofs.WalkLaws.{refusal_right, through_unrefused}
use Rattle.game_case.proofs.audits.audit_record.Goals as goal

pub find-requires-clause-reported : goal.find-requires-clause-reported
find-requires-clause-reported c =
    let rules = c.args.rules.now in
    let right = c.audit.new.events in
    let walk = c.in_ok-audited.audited.walk in
    subst (IsReportedRefusal rules (list_in c.args.pair.now) right) (sym c.refused_for_good-refused.ensures)
    (refusal_right rules (list_in c.args.pair.now) c.args.game.events right walk
    (subst (λ l. IsWalk rules l c.args.game.events right walk) c.list.ensures.list c.in_ok-audited.ensures.walk))

pub find-requires-clause-walked : goal.find-requires-clause-walked
find-requires-clause-walked c =
    λ none.
    let rules = c.args.rules.now in
    let right = c.audit.new.events in
    let walk = c.in_ok-audited.audited.walk in
    through_unrefused rules (list_in c.args.pair.now) c.args.game.events right walk
    (subst (λ l. IsWalk rules l c.args.game.events right walk) c.list.ensures.list c.in_ok-audited.ensures.walk) (sym c.refused_for_good-refused.ensures ∙ none)
