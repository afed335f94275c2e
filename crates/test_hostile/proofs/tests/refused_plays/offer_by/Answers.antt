use Rattle.std.proofs.Common.{rules}
use Rattle.game_notes.proofs.FirstPlays.{long_words}
use Rattle.test_hostile.proofs.tests.refused_plays.offer_by.Goals as goal

pub offer-requires : goal.offer-requires
offer-requires g c κs within =
    let long = long_words c.args.list.now c.len-words.ensures.proper in
    search (long, rules)
