use Rattle.std.proofs.Common.{rules}
use Rattle.game_notes.proofs.FirstPlays.{long_words}
use Rattle.test_moves.proofs.tests.generating.plays_by.Goals as goal

pub plays_of-requires : goal.plays_of-requires
plays_of-requires g c κs within =
    let long = long_words c.args.list.now c.len-words.ensures.proper in
    search (long, rules)
