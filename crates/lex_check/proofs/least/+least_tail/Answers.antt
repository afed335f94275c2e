use Rattle.std.proofs.Common.{sym, subst, ◌∙◌}
use Rattle.lex_check.specs.Orders.{IsLeast}
use Rattle.lex_check.proofs.Firsts.{least_one, least_more, found_alone}
use Rattle.lex_check.proofs.least.+least_tail.Goals as goal

pub returns-in-Some : goal.returns-in-Some
returns-in-Some g t c =
    let lexicon = c.args.lexicon.now in
    let following = rw c.in-Some.is at c.first_branch-label.ensures.next in
    subst (IsLeast (g.L.PathLex.tail lexicon c.args.node)) (sym c.with_front.ensures)
    (least_more (g.L.PathLex.tail lexicon c.args.node) (g.L.PathLex.tail lexicon c.in-Some.next) c.first_branch-label.result.label c.least_tail.result.items
    (g.met.L.PathLex.nonempty lexicon c.args.node c.requires.node) (sym c.first_branch-label.ensures.accepts ∙ c.if-step.false) following.tails
    (g.met.L.PathLex.nonempty lexicon c.in-Some.next following.node) c.first_branch-label.ensures.least c.least_tail.ensures)

pub returns-in-None : goal.returns-in-None
returns-in-None g t c =
    let has = g.L.PathLex.tail c.args.lexicon.now c.args.node in
    let label = c.first_branch-label.result.label in
    let none = rw c.in-None.is at c.first_branch-label.ensures.next in
    subst (IsLeast has) (sym c.only-in-None.ensures)
    (least_one has label (g.met.L.PathLex.nonempty c.args.lexicon.now c.args.node c.requires.node)
    (found_alone has label c.first_branch-label.ensures.found none) c.first_branch-label.ensures.least)
