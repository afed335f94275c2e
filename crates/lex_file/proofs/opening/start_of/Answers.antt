use Rattle.std.proofs.Common.{rules, arith}
use Rattle.lex_file.specs.FileWords.{words_in}
use Rattle.lex_file.proofs.Runs.{count}
use Rattle.lex_file.proofs.Checks.{start_below, start_two, start_one}
use Rattle.lex_file.proofs.opening.start_of.Goals as goal
use Rattle.lex_file.proofs.opening.start_of.Goals.{else-place-gt0-via-then-place-gt0+else-is_last, else-place-gt0-via-else-place-gt0}

pub overflow_add-result : goal.overflow_add-result
overflow_add-result c =
    let under = start_below (words_in c.args.arcs.now) c.args.place in
    let words = count c.args.arcs.now in
    search (rules, arith)

pub returns-then-is_last : goal.returns-then-is_last
returns-then-is_last c = start_two (words_in c.args.arcs.now) c.args.place (omega arith) (omega arith) (search (rules, arith))

pub returns-else-place-gt0 : goal.returns-else-place-gt0
returns-else-place-gt0 c =
    elim c.else-place-gt0.branch [
      | else-place-gt0-via-then-place-gt0+else-is_last w ↦ start_one (words_in c.args.arcs.now) c.args.place (omega arith) (λ _. search (rules, arith))
      | else-place-gt0-via-else-place-gt0 w ↦ start_one (words_in c.args.arcs.now) c.args.place (omega arith) (λ some. absurd (omega arith))
    ]
