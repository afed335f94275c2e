use Rattle.std.proofs.Common.{rules, arith, ◌≡◌, ◌<◌, ◌++◌, ◌-◌, ◌*◌, ℕ, Bool, true, false, List, is_some, ap, ◌∙◌}
use Rattle.gen_line.specs.Model.{may}
use Rattle.lex_file.specs.Walking.{strings}
use Rattle.gen_line.specs.Walk.{Every, gives_turn, gives_left, gives_tries_left, gives_letter_left, gives_one_left, gives_try_left}
use Rattle.gen_line.proofs.Sinks.{all-same, every-left, every-right, every-same, every-for, front-less, front-same, front-for, took-more, took-same, took-for, took-refused, all-for, nothing-took}
use Rattle.gen_line.proofs.LeftWalks.{gives_left-none, left-old-dead, left-old-goes, gives_left-stop, gives_left-go, gives_left-free, tries_left-is, tries_left-dead}
use Rattle.gen_line.proofs.Branching.{try_left-yes, try_left-no, goes_left, ends_left, labels-every, labels-took, labels-front}
use Rattle.gen_line.proofs.Walks.{may-left, no_more}
use Rattle.gen_line.proofs.walking.LineWalk.+left.Goals as goal

-- ---- one entry

pub one_left-put-requires-clause-left : goal.one_left-put-requires-clause-left
one_left-put-requires-clause-left g t c =
    let allowed : may c.args.free.now c.args.tiles.now.rack c.args.entry ≡ true = cc in
    may-left c.args.free.now c.args.tiles.now.rack c.args.entry allowed

pub one_left-left-requires : goal.one_left-left-requires
one_left-left-requires g t c κs within =
    let next : List ℕ → Bool = strings (g.L.PathLex.tail c.args.self.now.lex.now) c.args.next in
    let allowed : may c.args.free.now c.args.tiles.now.rack c.args.entry ≡ true = cc in
    let goes = try_left-yes next c.args.self.now.line.now c.args.self.now.last c.args.place c.args.free.now c.args.tiles.now c.args.entry c.put.new.self allowed c.put.ensures.fresh c.put.ensures.rack in
    let can : Every (g.T.Taker.can_take c.args.self.now.taker.now (g.T.Taker.made_for c.args.sink.now)) (gives_left next c.args.self.now.line.now c.args.self.now.last c.args.place c.put.new.self) =
    every-same _ _ _ goes c.requires.can in
    search (rules, arith, can)

pub one_left-returns-then-allow-clause-took : goal.one_left-returns-then-allow-clause-took
one_left-returns-then-allow-clause-took g t c =
    let next : List ℕ → Bool = strings (g.L.PathLex.tail c.args.self.now.lex.now) c.args.next in
    let allowed : may c.args.free.now c.args.tiles.now.rack c.args.entry ≡ true = cc in
    took-same _ _ _ _ _ _
    (try_left-yes next c.args.self.now.line.now c.args.self.now.last c.args.place c.args.free.now c.args.tiles.now c.args.entry c.put.new.self allowed c.put.ensures.fresh c.put.ensures.rack)
    c.left.ensures.took

pub one_left-returns-clause-took : goal.one_left-returns-clause-took
one_left-returns-clause-took g t c =
    let refused : may c.args.free.now c.args.tiles.now.rack c.args.entry ≡ false = cc in
    nothing-took _ _ _ (try_left-no _ _ _ _ _ _ _ refused)

-- ---- the entries of a label

pub letter_left-returns-in_err-one_left-clause-took : goal.letter_left-returns-in_err-one_left-clause-took
letter_left-returns-in_err-one_left-clause-took g t c =
    took-refused _ _ _ _ _ _ c.from_residual.ensures.1 (front-less _ _ _ _ _ c.in_err-one_left.ensures.took)

pub letter_left-one_left-requires-2 : goal.letter_left-one_left-requires-2
letter_left-one_left-requires-2 g t c κs within =
    let takes = g.T.Taker.can_take c.args.self.now.taker.now in
    let next : List ℕ → Bool = strings (g.L.PathLex.tail c.args.self.now.lex.now) c.args.next in
    let tile : List (List ℕ) = gives_try_left next c.args.self.now.line.now c.args.self.now.last c.args.place c.args.free.now c.args.tiles.now (2 * c.args.label - 1) in
    let blank : List (List ℕ) = gives_try_left next c.args.self.now.line.now c.args.self.now.last c.args.place c.args.free.now c.args.tiles.now (2 * c.args.label) in
    let can : Every (takes (g.T.Taker.made_for c.one_left.new.sink)) blank =
    every-for takes (g.T.Taker.made_for c.args.sink.now) (g.T.Taker.made_for c.one_left.new.sink) blank c.in_ok-one_left.ensures.made_for
    (every-right (takes (g.T.Taker.made_for c.args.sink.now)) tile blank c.requires.can) in
    search (rules, arith, can)

pub letter_left-returns-clause-took : goal.letter_left-returns-clause-took
letter_left-returns-clause-took g t c =
    let reports = g.T.Taker.report c.args.self.now.taker.now in
    let next : List ℕ → Bool = strings (g.L.PathLex.tail c.args.self.now.lex.now) c.args.next in
    let tile : List (List ℕ) = gives_try_left next c.args.self.now.line.now c.args.self.now.last c.args.place c.args.free.now c.args.tiles.now (2 * c.args.label - 1) in
    let blank : List (List ℕ) = gives_try_left next c.args.self.now.line.now c.args.self.now.last c.args.place c.args.free.now c.args.tiles.now (2 * c.args.label) in
    took-more (reports (g.T.Taker.made_for c.args.sink.now)) _ tile blank _ _ _ c.in_ok-one_left.ensures.took
    (took-for reports _ _ _ blank _ _ c.in_ok-one_left.ensures.made_for c.one_left-2.ensures.took)

-- ---- one cell

pub left-turn-requires : goal.left-turn-requires
left-turn-requires g t c =
    let none : c.args.places ≡ 0 = omega arith in
    record { node = c.requires.node; last = c.requires.last; can = every-same _ _ _ (gives_left-none (strings (g.L.PathLex.tail c.args.self.now.lex.now) c.args.at) c.args.self.now.line.now c.args.self.now.last c.args.places c.args.tiles.now none) c.requires.can }

pub left-returns-then-places-eq0-clause-took : goal.left-returns-then-places-eq0-clause-took
left-returns-then-places-eq0-clause-took g t c =
    let none : c.args.places ≡ 0 = omega arith in
    took-same _ _ _ _ _ _ (gives_left-none (strings (g.L.PathLex.tail c.args.self.now.lex.now) c.args.at) c.args.self.now.line.now c.args.self.now.last c.args.places c.args.tiles.now none) c.turn.ensures.took

pub left-left-requires : goal.left-left-requires
left-left-requires g t c κs within =
    let next : List ℕ → Bool = strings (g.L.PathLex.tail c.args.self.now.lex.now) c.in-Some.next in
    let some : 0 < c.args.places = omega arith in
    let can : Every (g.T.Taker.can_take c.args.self.now.taker.now (g.T.Taker.made_for c.args.sink.now)) (gives_left next c.args.self.now.line.now c.args.self.now.last (c.args.places - 1) c.args.tiles.now) =
    every-same _ _ _ (left-old-goes (strings (g.L.PathLex.tail c.args.self.now.lex.now) c.args.at) next c.args.self.now.line.now c.args.self.now.last c.args.places _ c.args.tiles.now some c.in-Old.is c.in-Some.ensures.some) c.requires.can in
    search (rules, arith, can)

pub left-returns-in-Some-clause-took : goal.left-returns-in-Some-clause-took
left-returns-in-Some-clause-took g t c =
    let some : 0 < c.args.places = omega arith in
    took-same _ _ _ _ _ _ (left-old-goes (strings (g.L.PathLex.tail c.args.self.now.lex.now) c.args.at) (strings (g.L.PathLex.tail c.args.self.now.lex.now) c.in-Some.next) c.args.self.now.line.now c.args.self.now.last c.args.places _ c.args.tiles.now some c.in-Old.is c.in-Some.ensures.some) c.left.ensures.took

pub left-returns-in-None-clause-took : goal.left-returns-in-None-clause-took
left-returns-in-None-clause-took g t c =
    let some : 0 < c.args.places = omega arith in
    nothing-took _ _ _ (left-old-dead (strings (g.L.PathLex.tail c.args.self.now.lex.now) c.args.at) c.args.self.now.line.now c.args.self.now.last c.args.places _ c.args.tiles.now some c.in-Old.is c.in-None.ensures.none)

pub left-turn-requires-in-Free : goal.left-turn-requires-in-Free
left-turn-requires-in-Free g t c =
    let some : 0 < c.args.places = omega arith in
    record { node = c.requires.node; last = c.requires.last; can = every-left _ _ _ (every-same _ _ _ (gives_left-free (strings (g.L.PathLex.tail c.args.self.now.lex.now) c.args.at) c.args.self.now.line.now c.args.self.now.last c.args.places _ c.args.tiles.now some c.in-Free.is) c.requires.can) }

pub left-returns-in_err-turn-in-Free-clause-took : goal.left-returns-in_err-turn-in-Free-clause-took
left-returns-in_err-turn-in-Free-clause-took g t c =
    let some : 0 < c.args.places = omega arith in
    took-refused _ _ _ _ _ _ c.from_residual.ensures.1
    (front-same _ _ _ _ _ (gives_left-free (strings (g.L.PathLex.tail c.args.self.now.lex.now) c.args.at) c.args.self.now.line.now c.args.self.now.last c.args.places _ c.args.tiles.now some c.in-Free.is) (front-less _ _ _ _ _ c.in_err-turn-in-Free.ensures.took))

pub left-returns-then-free-clause-took : goal.left-returns-then-free-clause-took
left-returns-then-free-clause-took g t c =
    let some : 0 < c.args.places = omega arith in
    all-same _ _ _ _ _ (gives_left-stop (strings (g.L.PathLex.tail c.args.self.now.lex.now) c.args.at) c.args.self.now.line.now c.args.self.now.last c.args.places _ c.args.tiles.now some c.in-Free.is c.if-free.true) c.in_ok-turn-in-Free.ensures.took

pub left-tries_left-requires : goal.left-tries_left-requires
left-tries_left-requires g t c κs within =
    let takes = g.T.Taker.can_take c.args.self.now.taker.now in
    let here : List ℕ → Bool = strings (g.L.PathLex.tail c.args.self.now.lex.now) c.args.at in
    let turned : List (List ℕ) = gives_turn here c.args.self.now.line.now c.args.self.now.last c.args.tiles.now in
    let tried : List (List ℕ) = gives_tries_left here c.args.self.now.line.now c.args.self.now.last (c.args.places - 1) c.in-Free.free c.args.tiles.now in
    let some : 0 < c.args.places = omega arith in
    let parts = gives_left-go here c.args.self.now.line.now c.args.self.now.last c.args.places c.in-Free.free c.args.tiles.now some c.in-Free.is c.if-free.false in
    let all : Every (takes (g.T.Taker.made_for c.args.sink.now)) (turned ++ tried) = every-same _ _ _ parts c.requires.can in
    let can : Every (takes (g.T.Taker.made_for c.turn-in-Free.new.sink)) tried =
    every-for takes (g.T.Taker.made_for c.args.sink.now) (g.T.Taker.made_for c.turn-in-Free.new.sink) tried c.in_ok-turn-in-Free.ensures.made_for
    (every-right (takes (g.T.Taker.made_for c.args.sink.now)) turned tried all) in
    search (rules, arith, can)

pub left-returns-else-free-clause-took : goal.left-returns-else-free-clause-took
left-returns-else-free-clause-took g t c =
    let some : 0 < c.args.places = omega arith in
    let reports = g.T.Taker.report c.args.self.now.taker.now in
    let here : List ℕ → Bool = strings (g.L.PathLex.tail c.args.self.now.lex.now) c.args.at in
    let turned : List (List ℕ) = gives_turn here c.args.self.now.line.now c.args.self.now.last c.args.tiles.now in
    let tried : List (List ℕ) = gives_tries_left here c.args.self.now.line.now c.args.self.now.last (c.args.places - 1) c.in-Free.free c.args.tiles.now in
    took-same _ _ _ _ _ _ (gives_left-go here c.args.self.now.line.now c.args.self.now.last c.args.places _ c.args.tiles.now some c.in-Free.is c.if-free.false)
    (took-more (reports (g.T.Taker.made_for c.args.sink.now)) _ turned tried _ _ _ c.in_ok-turn-in-Free.ensures.took
    (took-for reports _ _ _ tried _ _ c.in_ok-turn-in-Free.ensures.made_for c.tries_left.ensures.took))

-- ---- the entries of a cell

pub tries_left-returns-in_default-clause-took : goal.tries_left-returns-in_default-clause-took
tries_left-returns-in_default-clause-took g t c =
    nothing-took _ _ _ (tries_left-dead _ _ _ _ _ _ (no_more (g.L.PathLex.tail c.args.self.now.lex.now) c.args.at (ap is_some c.in_default.is)))

pub tries_left-letter_left-requires : goal.tries_left-letter_left-requires
tries_left-letter_left-requires g t c κs within =
    let takes = g.T.Taker.can_take c.args.self.now.taker.now in
    let tail = g.L.PathLex.tail c.args.self.now.lex.now in
    let here : List ℕ → Bool = strings tail c.args.at in
    let tried : ℕ → List (List ℕ) = gives_one_left here c.args.self.now.line.now c.args.self.now.last c.args.place c.args.free.now c.args.tiles.now in
    let label = c.in-Some-next_letter.on.branch.label in
    let on : List (List ℕ) = gives_letter_left (strings tail c.in-Some-next_letter.on.branch.step) c.args.self.now.line.now c.args.self.now.last c.args.place c.args.free.now c.args.tiles.now label in
    let goes =
    goes_left tail c.args.at c.in-Some.node c.args.self.now.line.now c.args.self.now.last c.args.place c.args.free.now c.args.tiles.now c.loop-on.from label c.in-Some-next_letter.on.branch.step
    c.in-Some.is c.loop-on.invariant.low c.in-Some-next_letter.ensures.reached c.in-Some-next_letter.ensures.passed c.in-Some-next_letter.ensures.some in
    let some : 0 < label = omega (arith, c.loop-on.invariant.low, c.in-Some-next_letter.ensures.reached) in
    let can : Every (takes (g.T.Taker.made_for c.loop-on.sink)) on =
    every-for takes _ _ _ c.loop-on.invariant.made_for
    (labels-every (takes (g.T.Taker.made_for c.args.sink.now)) tried label c.loop-on.from on some c.in-Some-next_letter.ensures.label goes (every-same _ _ _ (tries_left-is here c.args.self.now.line.now c.args.self.now.last c.args.place c.args.free.now c.args.tiles.now) c.requires.can)) in
    search (rules, arith, can)

pub tries_left-loop-on-preserved : goal.tries_left-loop-on-preserved
tries_left-loop-on-preserved g t c =
    let reports = g.T.Taker.report c.args.self.now.taker.now in
    let tail = g.L.PathLex.tail c.args.self.now.lex.now in
    let here : List ℕ → Bool = strings tail c.args.at in
    let tried : ℕ → List (List ℕ) = gives_one_left here c.args.self.now.line.now c.args.self.now.last c.args.place c.args.free.now c.args.tiles.now in
    let label = c.in-Some-next_letter.on.branch.label in
    let on : List (List ℕ) = gives_letter_left (strings tail c.in-Some-next_letter.on.branch.step) c.args.self.now.line.now c.args.self.now.last c.args.place c.args.free.now c.args.tiles.now label in
    let goes =
    goes_left tail c.args.at c.in-Some.node c.args.self.now.line.now c.args.self.now.last c.args.place c.args.free.now c.args.tiles.now c.loop-on.from label c.in-Some-next_letter.on.branch.step
    c.in-Some.is c.loop-on.invariant.low c.in-Some-next_letter.ensures.reached c.in-Some-next_letter.ensures.passed c.in-Some-next_letter.ensures.some in
    record {
      low = omega arith;
      high = omega (arith, c.in-Some-next_letter.ensures.label);
      rest = c.in-Some-next_letter.ensures.rest;
      made_for = c.in_ok-letter_left.ensures.made_for ∙ c.loop-on.invariant.made_for;
      took = labels-took _ tried label c.loop-on.from on _ _ _ goes c.loop-on.invariant.took
          (all-for reports _ _ _ on _ c.loop-on.invariant.made_for c.in_ok-letter_left.ensures.took);
    }

pub tries_left-returns-in_err-letter_left-clause-took : goal.tries_left-returns-in_err-letter_left-clause-took
tries_left-returns-in_err-letter_left-clause-took g t c =
    let reports = g.T.Taker.report c.args.self.now.taker.now in
    let tail = g.L.PathLex.tail c.args.self.now.lex.now in
    let here : List ℕ → Bool = strings tail c.args.at in
    let tried : ℕ → List (List ℕ) = gives_one_left here c.args.self.now.line.now c.args.self.now.last c.args.place c.args.free.now c.args.tiles.now in
    let label = c.in-Some-next_letter.on.branch.label in
    let on : List (List ℕ) = gives_letter_left (strings tail c.in-Some-next_letter.on.branch.step) c.args.self.now.line.now c.args.self.now.last c.args.place c.args.free.now c.args.tiles.now label in
    let goes =
    goes_left tail c.args.at c.in-Some.node c.args.self.now.line.now c.args.self.now.last c.args.place c.args.free.now c.args.tiles.now c.loop-on.from label c.in-Some-next_letter.on.branch.step
    c.in-Some.is c.loop-on.invariant.low c.in-Some-next_letter.ensures.reached c.in-Some-next_letter.ensures.passed c.in-Some-next_letter.ensures.some in
    let some : 0 < label = omega (arith, c.loop-on.invariant.low, c.in-Some-next_letter.ensures.reached) in
    took-refused _ _ _ _ _ _ c.from_residual.ensures.1
    (front-same _ _ _ _ _ (tries_left-is here c.args.self.now.line.now c.args.self.now.last c.args.place c.args.free.now c.args.tiles.now)
    (labels-front _ tried label c.loop-on.from on _ _ _ some c.in-Some-next_letter.ensures.label goes c.loop-on.invariant.took
    (front-for reports _ _ _ on _ c.loop-on.invariant.made_for c.in_err-letter_left.ensures.took)))

pub tries_left-returns-clause-took : goal.tries_left-returns-clause-took
tries_left-returns-clause-took g t c =
    let tail = g.L.PathLex.tail c.args.self.now.lex.now in
    let here : List ℕ → Bool = strings tail c.args.at in
    all-same _ _ _ _ _ (tries_left-is here c.args.self.now.line.now c.args.self.now.last c.args.place c.args.free.now c.args.tiles.now ∙ ends_left tail c.args.at c.in-Some.node c.args.self.now.line.now c.args.self.now.last c.args.place c.args.free.now c.args.tiles.now c.loop-on.from c.in-Some.is c.loop-on.invariant.low c.loop-on.invariant.high c.in_default-next_letter.ensures.none)
    c.loop-on.invariant.took
