use Rattle.std.proofs.Common.{rules}
use Rattle.ref_play.proofs.texts.shows.Goals as goal

pub returns-in-Blank : goal.returns-in-Blank
returns-in-Blank c = search rules
