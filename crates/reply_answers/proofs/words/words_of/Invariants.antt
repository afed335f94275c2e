use Rattle.std.proofs.Common.{take}
use Rattle.reply_answers.specs.Words.{AreWordsOf}
use Rattle.reply_answers.proofs.words.words_of.Given as goal

abbrev pub invariant-loop-text : goal.invariant-loop-text
invariant-loop-text l = AreWordsOf (take l.text-index l.texts) l.words.items
