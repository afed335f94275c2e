use Rattle.std.proofs.Common.{◌≡◌, ◌+◌, pos, ap, ◌∙◌, arith}
use Rattle.std.specs.Int.{w32}
use Rattle.std.proofs.lemmas.Int.{to_z_pos}
use Rattle.ref_play.specs.Scores.{score_of}
use Rattle.ref_play.proofs.ScoreLemmas.{score_is, sum_as}
use Rattle.ref_play.proofs.scoring.score.Goals as goal

pub returns : goal.returns
returns c =
    let play = c.args.play.now in
    let ps = play.tiles.items in
    let runs = rw (c.deref.ensures.0, c.deref-2.ensures.0, c.formed-after.ensures.after, c.formed-after.ensures.runs) at c.runs_score-words.ensures.score in
    let bonus = rw c.deref-3.ensures.0 at c.bonus_score.ensures.score in
    let sum : c.runs_score-words.result + c.bonus_score.result ≡ score_of c.args.rules.now c.args.board.now ps =
    sum_as runs bonus (score_is play.dir c.args.rules.now c.args.board.now ps) in
    let low = c.runs_score-words.ensures.limit in
    let high = c.bonus_score.ensures.limit in
    to_z_pos w32 (c.runs_score-words.result + c.bonus_score.result) (omega arith) ∙ ap pos sum
