use Rattle.std.proofs.Common.{◌≡◌, take}
use Rattle.ref_play.specs.Words.{items_of}
use Rattle.game_turns.proofs.copying.same_words.Given as goal

abbrev pub invariant-loop-word : goal.invariant-loop-word
invariant-loop-word l = items_of l.same.items ≡ items_of (take l.word-index l.words)
