use Rattle.gen_cross.specs.Paths.{labels_of}
use Rattle.gen_cross.proofs.Steps.{ends, ends_not}
use Rattle.gen_cross.proofs.masks.spells.Goals as goal

pub returns-in-Some-walk_back : goal.returns-in-Some-walk_back
returns-in-Some-walk_back g c =
    ends (g.L.PathLex.tail c.args.lex.now) c.args.at c.in-Some.next c.in-Some-walk_back.last c.args.label (labels_of c.args.board.now c.args.before.now)
    c.in-Some.ensures.some c.in-Some-walk_back.ensures.some

pub returns-in-None : goal.returns-in-None
returns-in-None g c =
    ends_not (g.L.PathLex.tail c.args.lex.now) c.args.at c.in-Some.next c.args.label (labels_of c.args.board.now c.args.before.now)
    c.in-Some.ensures.some c.in-None.ensures.none
