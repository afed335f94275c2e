use Rattle.ref_play.proofs.Laying.{legal_is_sound}
use Rattle.ref_play.proofs.PlayLines.{words_of_lines}
use Rattle.ref_play.proofs.laws.law_of_lines.Goals as goal

pub returns-clause-sound : goal.returns-clause-sound
returns-clause-sound c = legal_is_sound

pub returns-clause-words : goal.returns-clause-words
returns-clause-words c = words_of_lines
