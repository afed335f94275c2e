use Rattle.std.proofs.Common.{subst, refl}
use Rattle.compare_choices.specs.Settling.{IsOutcome}
use Rattle.compare_choices.proofs.Found.{one_after, no_game, remains_open}
use Rattle.compare_choices.proofs.finds.Find.try_right.Goals as goal

pub returns-then-is_cheaper : goal.returns-then-is_cheaper
returns-then-is_cheaper c =
    one_after c.law_of_corrections.ensures.one c.args.rules.now c.args.list.now c.args.sheets.now c.args.choice c.args.self.now c.args.corrected.right c.in_ok-cost.cost c.requires.found c.requires.right.is
    (c.in_ok-cost.ensures c.args.rules.now c.args.list.now c.requires.right.unlisted) (c.is_cheaper.ensures.0 c.if-is_cheaper.true)

pub returns-in-NoGame : goal.returns-in-NoGame
returns-in-NoGame c =
    no_game c.law_of_corrections.ensures.one c.args.rules.now c.args.list.now c.args.sheets.now c.args.choice c.args.self.now c.args.corrected.right c.requires.found c.requires.right.is
    (subst (IsOutcome c.args.rules.now c.args.list.now c.args.corrected.right) c.in-NoGame.is c.in_ok-settled.ensures)

pub returns-in_ok-push-in-Unsettled : goal.returns-in_ok-push-in-Unsettled
returns-in_ok-push-in-Unsettled c =
    let f = c.args.self.now in
    remains_open c.args.rules.now c.args.list.now c.args.sheets.now c.args.choice f (record { best = f.best; rivals = f.rivals; remaining = c.push.new.self }) c.args.corrected.right c.requires.found c.requires.right.is
    (subst (IsOutcome c.args.rules.now c.args.list.now c.args.corrected.right) c.in-Unsettled.is c.in_ok-settled.ensures) refl refl c.in_ok-push-in-Unsettled.ensures.items
