use Rattle.std.proofs.Common.{rules}
use Rattle.game_notes.proofs.FirstPlays.{long_words}
use Rattle.game_notes.proofs.searching.first_by.Goals as goal

pub first_plays-requires : goal.first_plays-requires
first_plays-requires g c κs within =
    let long = long_words c.args.list.now c.len-words.ensures.proper in
    search (long, rules)
