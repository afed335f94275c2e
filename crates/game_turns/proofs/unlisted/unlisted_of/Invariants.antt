use Rattle.std.proofs.Common.{◌≡◌, take}
use Rattle.ref_play.specs.Words.{items_of}
use Rattle.game_turns.specs.Unlisted.{letters_in, unlisted_of}
use Rattle.game_turns.proofs.unlisted.unlisted_of.Given as goal

abbrev pub invariant-loop-word : goal.invariant-loop-word
invariant-loop-word l = letters_in l.kept.items ≡ unlisted_of l.list (items_of (take l.word-index l.words))
