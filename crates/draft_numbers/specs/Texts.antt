-- Events as a draft writes them.
use Rattle.std.specs.Prelude.{ℕ, List, ◌∷◌, ◌++◌}
use Rattle.gcg_read.specs.declared.events.Event.{Event}
use Rattle.gcg_write.specs.Fields.{kind_text, score_text}
use Rattle.gcg_write.specs.Normal.{event_text_of}
use Rattle.gcg_drafts.specs.declared.missing.Missing.{Missing}
use Rattle.gcg_drafts.specs.declared.missing.Missing.TheVariants as missing

-- what the line of an event says after its rack, without the numbers that it lacks: EVENT SCORE TOTAL, EVENT SCORE or EVENT
abbrev pub text_without : Missing → Event → List ℕ
text_without missing.Nothing e = event_text_of e
text_without missing.Total e = kind_text e.kind ++ 32 ∷ score_text e.score
text_without missing.Both e = kind_text e.kind
