use Rattle.std.proofs.Common.{◌≡◌, ◌+◌, ◌++◌, ◌∷◌, [], List, ℕ, take, drop, append-nil, sym, ap, ◌∙◌}
use Rattle.lex_list.specs.RotatedPaths.{path_of}
use Rattle.lex_check.proofs.Rotations.{paths_none, paths_more}
use Rattle.lex_check.proofs.rotating.push_paths.Goals as goal

pub loop-split-init : goal.loop-split-init
loop-split-init c = sym (ap (λ (paths : List (List ℕ)). c.args.paths.now.items ++ paths) (paths_none c.args.word.now) ∙ append-nil c.args.paths.now.items)

pub loop-split-preserved : goal.loop-split-preserved
loop-split-preserved c =
    let here : c.rotated.result ≡ path_of (take (c.loop-split.split + 1) c.args.word.now) (drop (c.loop-split.split + 1) c.args.word.now) =
    rw (← c.split_at.ensures.front, ← c.split_at.ensures.back) c.rotated.ensures in
    c.in_ok-push.ensures.items
    ∙ ap (λ (paths : List (List ℕ)). paths ++ c.rotated.result ∷ []) c.loop-split.invariant
    ∙ paths_more c.args.word.now c.loop-split.split c.args.paths.now.items c.rotated.result here
