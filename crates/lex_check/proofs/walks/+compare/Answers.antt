use Rattle.std.proofs.Common.{ℕ, ◌∷◌, ◌≡◌, List, sym, ◌∙◌}
use Rattle.lex_check.proofs.Firsts.{head_label, are_after, first_after, all_after, first_of_all, same_of_all, same_further, same_next}
use Rattle.lex_check.proofs.walks.+compare.Goals as goal
use Rattle.lex_check.proofs.walks.+compare.Goals.{in-Agree, in-Deeper+in-Ok}

pub returns-in-Err-clause-first : goal.returns-in-Err-clause-first
returns-in-Err-clause-first g t c =
    let file = g.A.PathLex.tail c.args.file.now c.args.of_file in
    let list = g.B.PathLex.tail c.args.list.now c.args.of_list in
    let label = c.in-Some.fork.label in
    let gives = c.in-Deeper.ensures.gives in
    let following =
    are_after (g.A.PathLex.is_node c.args.file.now) (g.A.PathLex.tail c.args.file.now) (g.A.PathLex.height c.args.file.now) c.args.of_file
    (g.B.PathLex.is_node c.args.list.now) (g.B.PathLex.tail c.args.list.now) (g.B.PathLex.height c.args.list.now) c.args.of_list
    label c.in-Deeper.next c.in-Deeper.listed_next gives.0 gives.1 gives.2
    in
    first_of_all label file list c.longer.result
    (g.met.A.PathLex.nonempty c.args.file.now c.args.of_file c.requires.file ∙ sym (g.met.B.PathLex.nonempty c.args.list.now c.args.of_list c.requires.list))
    (same_further file list c.loop-fork.from label c.loop-fork.invariant c.in-Some.ensures.same)
    (first_after label file list (g.A.PathLex.tail c.args.file.now c.in-Deeper.next) (g.B.PathLex.tail c.args.list.now c.in-Deeper.listed_next)
    following c.in-Err.difference c.longer.result c.longer.ensures c.in-Err.ensures.first)

pub loop-fork-preserved : goal.loop-fork-preserved
loop-fork-preserved g t c =
    let file = g.A.PathLex.tail c.args.file.now c.args.of_file in
    let list = g.B.PathLex.tail c.args.list.now c.args.of_list in
    let label = c.in-Some.fork.label in
    let here : (rest : List ℕ) → file (label ∷ rest) ≡ list (label ∷ rest) = elim c.match-meet.branch [
      | in-Agree w ↦ w.in-Agree.ensures.gives
      | in-Deeper+in-Ok w ↦
          let gives = w.in-Deeper.ensures.gives in
          all_after label file list (g.A.PathLex.tail c.args.file.now w.in-Deeper.next) (g.B.PathLex.tail c.args.list.now w.in-Deeper.listed_next)
          (are_after (g.A.PathLex.is_node c.args.file.now) (g.A.PathLex.tail c.args.file.now) (g.A.PathLex.height c.args.file.now) c.args.of_file
          (g.B.PathLex.is_node c.args.list.now) (g.B.PathLex.tail c.args.list.now) (g.B.PathLex.height c.args.list.now) c.args.of_list
          label w.in-Deeper.next w.in-Deeper.listed_next gives.0 gives.1 gives.2)
          w.in-Ok.ensures.same
    ] in
    same_next file list label (same_further file list c.loop-fork.from label c.loop-fork.invariant c.in-Some.ensures.same) here

pub returns-clause-same : goal.returns-clause-same
returns-clause-same g t c =
    let file = g.A.PathLex.tail c.args.file.now c.args.of_file in
    let list = g.B.PathLex.tail c.args.list.now c.args.of_list in
    same_of_all file list
    (g.met.A.PathLex.nonempty c.args.file.now c.args.of_file c.requires.file ∙ sym (g.met.B.PathLex.nonempty c.args.list.now c.args.of_list c.requires.list))
    (λ label rest tail. head_label label rest (g.met.A.PathLex.labels c.args.file.now c.args.of_file (label ∷ rest) c.requires.file tail))
    (λ label rest tail. head_label label rest (g.met.B.PathLex.labels c.args.list.now c.args.of_list (label ∷ rest) c.requires.list tail))
    (same_further file list c.loop-fork.from 27 c.loop-fork.invariant c.in_default.ensures.none)
