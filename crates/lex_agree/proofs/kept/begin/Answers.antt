use Rattle.std.proofs.Common.{◌-◌, arith}
use Rattle.lex_agree.proofs.Turned.{turned_same, front_same}
use Rattle.lex_agree.proofs.kept.begin.Goals as goal

pub returns-clause-steps : goal.returns-clause-steps
returns-clause-steps c =
    let some = c.if-kept-eq0.false in
    turned_same c.args.file.now.bytes.now c.args.first c.args.front.now c.args.kept.now (c.args.kept.now.known - 1) c.common_letters.result c.requires
    (omega arith) c.common_letters.ensures

pub returns-clause-front : goal.returns-clause-front
returns-clause-front c =
    let some = c.if-kept-eq0.false in
    let few = c.requires.few in
    let letters = c.requires.letters in
    front_same c.args.kept.now.front c.args.front.now (c.args.kept.now.known - 1) c.common_letters.result (omega arith) c.common_letters.ensures
