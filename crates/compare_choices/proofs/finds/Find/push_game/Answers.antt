use Rattle.std.proofs.Common.{Some, refl}
use Rattle.compare_choices.proofs.Found.{one_rival, one_better}
use Rattle.compare_choices.proofs.finds.Find.push_game.Goals as goal

pub returns-then-is_as_good : goal.returns-then-is_as_good
returns-then-is_as_good c =
    let f = c.args.self.now in
    one_rival c.args.rules.now c.args.list.now c.args.sheets.now f (record { best = f.best; rivals = c.push.new.self; remaining = f.remaining }) c.args.game c.requires.found c.requires.game
    (c.is_as_good.ensures.0 c.if-is_as_good.true) refl c.in_ok-push.ensures.items refl

pub returns : goal.returns
returns c =
    let f = c.args.self.now in
    one_better c.law_of_corrections.ensures.one c.args.rules.now c.args.list.now c.args.sheets.now f (record { best = Some c.args.game; rivals = c.new.result; remaining = f.remaining }) c.args.game c.requires.found
    c.requires.game c.requires.least (λ good. let is = c.is_as_good.ensures.1 good in let isnt = c.if-is_as_good.false in cc) refl c.new.ensures.items refl
