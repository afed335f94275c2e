use Rattle.lex_agree.proofs.Turned.{kept_none}
use Rattle.lex_agree.proofs.turning.all_turn_over.Goals as goal

pub turn_over-requires-clause-kept : goal.turn_over-requires-clause-kept
turn_over-requires-clause-kept c =
    let none = c.none_kept-kept.ensures in
    kept_none c.args.file.now.bytes.now c.none_kept-kept.result none.letters none.room none.none
