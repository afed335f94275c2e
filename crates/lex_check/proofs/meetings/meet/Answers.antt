use Rattle.std.proofs.Common.{ℕ, ◌∷◌, List, sym, ap, ◌∙◌}
use Rattle.lex_check.proofs.Firsts.{same_ends, ended_first, same_under, extra_one, extra_two, missing_more, looked_none, looked_longer}
use Rattle.lex_check.proofs.meetings.meet.Goals as goal

pub returns-then-here-listed-clause-gives : goal.returns-then-here-listed-clause-gives
returns-then-here-listed-clause-gives g c =
    ended_first (g.A.PathLex.tail c.args.file.now c.args.of_file) (g.B.PathLex.tail c.args.list.now c.args.of_list) c.args.fork.label
    c.args.fork.here.accepts c.args.fork.listed.accepts c.ended.result c.requires.here.accepts c.requires.listed.accepts c.if-here-listed.true c.ended.ensures

pub returns-in-None-None-clause-gives : goal.returns-in-None-None-clause-gives
returns-in-None-None-clause-gives g c =
    let none = rw c.in-None-None.is-0 at c.requires.here.next in
    let listed_none = rw c.in-None-None.is-1 at c.requires.listed.next in
    same_under (g.A.PathLex.tail c.args.file.now c.args.of_file) (g.B.PathLex.tail c.args.list.now c.args.of_list) c.args.fork.label
    (same_ends _ _ _ _ c.requires.here.accepts c.requires.listed.accepts c.if-here-listed.false) (λ after rest. none after rest ∙ sym (listed_none after rest))

pub returns-in-None-Some-clause-gives : goal.returns-in-None-Some-clause-gives
returns-in-None-Some-clause-gives g c =
    let none = rw c.in-None-Some.is-0 at c.requires.here.next in
    let following = rw c.in-None-Some.is-1 at c.requires.listed.next in
    missing_more (g.A.PathLex.tail c.args.file.now c.args.of_file) (g.B.PathLex.tail c.args.list.now c.args.of_list)
    (g.B.PathLex.tail c.args.list.now c.in-None-Some.listed_next) c.args.fork.label c.least_tail.result c.with_front.result c.with_front.ensures
    (same_ends _ _ _ _ c.requires.here.accepts c.requires.listed.accepts c.if-here-listed.false) none following.tails
    (g.met.B.PathLex.nonempty c.args.list.now c.in-None-Some.listed_next following.node) c.least_tail.ensures

pub returns-in-Some-None-clause-gives : goal.returns-in-Some-None-clause-gives
returns-in-Some-None-clause-gives g c =
    let following = rw c.in-Some-None.is-0 at c.requires.here.next in
    let none = rw c.in-Some-None.is-1 at c.requires.listed.next in
    extra_two (g.A.PathLex.tail c.args.file.now c.args.of_file) (g.B.PathLex.tail c.args.list.now c.args.of_list)
    (g.A.PathLex.tail c.args.file.now c.in-Some-None.next) c.args.fork.label c.first_label.result c.with_front-in-Some-None.result
    (c.with_front-in-Some-None.ensures ∙ ap (λ (items : List ℕ). c.args.fork.label ∷ items) c.only.ensures)
    (same_ends _ _ _ _ c.requires.here.accepts c.requires.listed.accepts c.if-here-listed.false) (sym c.requires.listed.accepts ∙ c.if-listed.true)
    following.tails none c.first_label.ensures.found c.first_label.ensures.least

pub returns-in-Some-None-2-clause-gives : goal.returns-in-Some-None-2-clause-gives
returns-in-Some-None-2-clause-gives g c =
    let file = g.A.PathLex.tail c.args.file.now c.args.of_file in
    let list = g.B.PathLex.tail c.args.list.now c.args.of_list in
    let following = rw c.in-Some-None-2.is-0 at c.requires.here.next in
    let none = rw c.in-Some-None-2.is-1 at c.requires.listed.next in
    extra_one file list c.args.fork.label c.only-in-Some-None-2.result c.only-in-Some-None-2.ensures
    (looked_longer (g.A.PathLex.is_node c.args.file.now) (g.A.PathLex.tail c.args.file.now) (g.A.PathLex.height c.args.file.now) c.args.of_file c.args.fork.label
    c.in-Some-None-2.field-0-0 following)
    (looked_none (g.B.PathLex.tail c.args.list.now) c.args.of_list c.args.fork.label (sym c.requires.listed.accepts ∙ c.if-listed.false) none)
