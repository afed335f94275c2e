use Rattle.std.proofs.Common.{◌≡◌, true, refl}
use Rattle.repair_answers.specs.Lines.{is_first}
use Rattle.repair_answers.proofs.Grouped.{adds_one}
use Rattle.repair_answers.proofs.evidence.push_line_of_first.Goals as goal

pub returns : goal.returns
returns g c =
    let is : is_first g.T.Lined.like c.args.items.now c.args.index ≡ true = cc (c.is_first.ensures, c.if-not-is_first.false) in
    adds_one g.T.Lined.like c.args.items.now c.args.index c.in_ok-others.others.items (record { first = c.args.index; others = c.in_ok-others.others }) c.args.lines.now.items c.push.new.self.items is
    c.in_ok-others.ensures refl refl c.in_ok-push.ensures.items
