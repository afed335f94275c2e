use Rattle.std.proofs.Common.{rules, arith, ◌+◌, ◌≤◌, ◌-◌}
use Rattle.std.proofs.lemmas.Bool.{ltb-true}
use Rattle.lex_file.specs.FileWords.{words_in}
use Rattle.lex_file.specs.Nodes.{start_at}
use Rattle.lex_file.proofs.Runs.{count}
use Rattle.lex_file.proofs.Checks.{no_fault, leads_after, leads_to_first, start_below, in_order, lands}
use Rattle.lex_file.proofs.opening.is_fine.Goals as goal

pub word_at-requires-then-end-following : goal.word_at-requires-then-end-following
word_at-requires-then-end-following c = let under = start_below (words_in c.args.arcs.now) c.args.place in omega arith

pub returns-then-end-following : goal.returns-then-end-following
returns-then-end-following c last =
    let words = words_in c.args.arcs.now in
    let under : start_at words c.args.place ≤ c.args.place + 1 = start_below words c.args.place in
    let whole = count c.args.arcs.now in
    let order = in_order c.of_word-arc.result.label c.args.room (search (rules, arith)) c.requires.few c.if-above-room.false in
    let target = lands c.of_word-arc.result.target c.args.following (search (rules, arith)) (search (rules, arith)) c.if-end-following.true in
    let back = leads_after words (start_at words c.args.place) c.of_word-arc.result.target target.0 (omega arith) (omega arith) (search (rules, target)) in
    no_fault words c.args.place (27 - c.args.room) c.requires.order (search (rules, arith, order)) (search (rules, arith, order)) (search (rules, arith, back)) (search (rules, arith, target))

pub returns-in-0 : goal.returns-in-0
returns-in-0 c accepts =
    let words = words_in c.args.arcs.now in
    let order = in_order c.of_word-arc.result.label c.args.room (search (rules, arith)) c.requires.few c.if-above-room.false in
    no_fault words c.args.place (27 - c.args.room) c.requires.order (search (rules, arith, order)) (search (rules, arith, order)) (search (rules, arith)) (search (rules, arith))

pub returns-in-1 : goal.returns-in-1
returns-in-1 c following =
    let words = words_in c.args.arcs.now in
    let order = in_order c.of_word-arc.result.label c.args.room (search (rules, arith)) c.requires.few c.if-above-room.false in
    let some = ltb-true 0 c.args.following following in
    let back = leads_to_first words (start_at words c.args.place) (omega arith) (omega arith) in
    no_fault words c.args.place (27 - c.args.room) c.requires.order (search (rules, arith, order)) (search (rules, arith, order)) (search (rules, arith, back)) (search (rules, arith))
