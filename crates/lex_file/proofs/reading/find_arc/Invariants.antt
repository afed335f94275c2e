use Rattle.std.proofs.Common.{◌≡◌, Bool, false}
use Rattle.std.specs.Prelude.{drop}
use Rattle.std.specs.List.{find}
use Rattle.lex_file.specs.declared.arcs.Arc.{Arc}
use Rattle.lex_file.specs.FileWords.{words_in}
use Rattle.lex_file.specs.Arcs.{is_sought}
use Rattle.lex_file.specs.Nodes.{node_at, run_of}
use Rattle.lex_file.proofs.reading.find_arc.Given as goal

-- skipping all arcs that are not sought finds from here on what the node has
abbrev pub invariant-loop-place : goal.invariant-loop-place
invariant-loop-place l =
    (wanted : Arc → Bool) → ((arc : Arc) → is_sought l.sought arc ≡ false → wanted arc ≡ false)
    → find wanted (node_at (words_in l.arcs) l.number) ≡ find wanted (run_of (drop l.place (words_in l.arcs)))
