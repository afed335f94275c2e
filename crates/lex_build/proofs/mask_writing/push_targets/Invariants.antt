use Rattle.std.proofs.Common.{take}
use Rattle.lex_build.specs.Bodies.{HasAppended}
use Rattle.lex_build.specs.NodeWords.{targets_of}
use Rattle.lex_build.proofs.mask_writing.push_targets.Given as goal

abbrev pub invariant-loop-arc : goal.invariant-loop-arc
invariant-loop-arc l = HasAppended l.initial.bytes.items l.bytes.items (targets_of (take l.arc-index l.arcs))
