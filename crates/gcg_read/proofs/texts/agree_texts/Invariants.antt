use Rattle.gcg_read.specs.Alike.{AgreeSymbols}
use Rattle.gcg_read.proofs.AlikeLists.{AreAlikeTo}
use Rattle.gcg_read.proofs.texts.agree_texts.Given as goal

abbrev pub invariant-loop-place : goal.invariant-loop-place
invariant-loop-place l = record { alike : AreAlikeTo AgreeSymbols l.word l.text l.place }
