use Rattle.std.proofs.Common.{rules, arith, ◌≡◌, ◌<◌, ◌≤◌, ◌+◌, ◌++◌, ◌-◌, ◌*◌, ℕ, Bool, true, false, List, length, is_some, ap, ◌∙◌}
use Rattle.gen_line.specs.Model.{may}
use Rattle.lex_file.specs.Walking.{strings}
use Rattle.gen_line.specs.Walk.{Every, gives_leaf, gives_right, gives_tries_right, gives_letter_right, gives_one_right, gives_try_right}
use Rattle.gen_line.proofs.Sinks.{all-same, every-left, every-right, every-same, every-for, front-less, front-same, front-for, took-more, took-same, took-for, took-refused, all-for, nothing-took}
use Rattle.gen_line.proofs.Walks.{gives_right-end, right-old-dead, right-old-goes, gives_right-free, tries_right-is, tries_right-dead, may-left, no_more}
use Rattle.gen_line.proofs.Branching.{try_right-yes, try_right-no, goes_right, ends_right, labels-every, labels-took, labels-front}
use Rattle.gen_line.proofs.walking.LineWalk.+right.Goals as goal

-- ---- one entry

pub one_right-put-requires-clause-left : goal.one_right-put-requires-clause-left
one_right-put-requires-clause-left g t c =
    let allowed : may c.args.free.now c.args.tiles.now.rack c.args.entry ≡ true = cc in
    may-left c.args.free.now c.args.tiles.now.rack c.args.entry allowed

pub one_right-right-requires : goal.one_right-right-requires
one_right-right-requires g t c κs within =
    let next : List ℕ → Bool = strings (g.L.PathLex.tail c.args.self.now.lex.now) c.args.next in
    let allowed : may c.args.free.now c.args.tiles.now.rack c.args.entry ≡ true = cc in
    let goes = try_right-yes next c.args.self.now.line.now c.args.place c.args.free.now c.args.tiles.now c.args.entry c.put.new.self allowed c.put.ensures.fresh c.put.ensures.rack in
    let can : Every (g.T.Taker.can_take c.args.self.now.taker.now (g.T.Taker.made_for c.args.sink.now)) (gives_right next c.args.self.now.line.now (c.args.place + 1) c.put.new.self) =
    every-same _ _ _ goes c.requires.can in
    search (rules, arith, can)

pub one_right-returns-then-allow-clause-took : goal.one_right-returns-then-allow-clause-took
one_right-returns-then-allow-clause-took g t c =
    let next : List ℕ → Bool = strings (g.L.PathLex.tail c.args.self.now.lex.now) c.args.next in
    let allowed : may c.args.free.now c.args.tiles.now.rack c.args.entry ≡ true = cc in
    took-same _ _ _ _ _ _
    (try_right-yes next c.args.self.now.line.now c.args.place c.args.free.now c.args.tiles.now c.args.entry c.put.new.self allowed c.put.ensures.fresh c.put.ensures.rack)
    c.right.ensures.took

pub one_right-returns-clause-took : goal.one_right-returns-clause-took
one_right-returns-clause-took g t c =
    let refused : may c.args.free.now c.args.tiles.now.rack c.args.entry ≡ false = cc in
    nothing-took _ _ _ (try_right-no _ _ _ _ _ _ refused)

-- ---- the entries of a label

pub letter_right-returns-in_err-one_right-clause-took : goal.letter_right-returns-in_err-one_right-clause-took
letter_right-returns-in_err-one_right-clause-took g t c =
    took-refused _ _ _ _ _ _ c.from_residual.ensures.1 (front-less _ _ _ _ _ c.in_err-one_right.ensures.took)

pub letter_right-one_right-requires-2 : goal.letter_right-one_right-requires-2
letter_right-one_right-requires-2 g t c κs within =
    let takes = g.T.Taker.can_take c.args.self.now.taker.now in
    let next : List ℕ → Bool = strings (g.L.PathLex.tail c.args.self.now.lex.now) c.args.next in
    let tile : List (List ℕ) = gives_try_right next c.args.self.now.line.now c.args.place c.args.free.now c.args.tiles.now (2 * c.args.label - 1) in
    let blank : List (List ℕ) = gives_try_right next c.args.self.now.line.now c.args.place c.args.free.now c.args.tiles.now (2 * c.args.label) in
    let can : Every (takes (g.T.Taker.made_for c.one_right.new.sink)) blank =
    every-for takes (g.T.Taker.made_for c.args.sink.now) (g.T.Taker.made_for c.one_right.new.sink) blank c.in_ok-one_right.ensures.made_for
    (every-right (takes (g.T.Taker.made_for c.args.sink.now)) tile blank c.requires.can) in
    search (rules, arith, can)

pub letter_right-returns-clause-took : goal.letter_right-returns-clause-took
letter_right-returns-clause-took g t c =
    let reports = g.T.Taker.report c.args.self.now.taker.now in
    let next : List ℕ → Bool = strings (g.L.PathLex.tail c.args.self.now.lex.now) c.args.next in
    let tile : List (List ℕ) = gives_try_right next c.args.self.now.line.now c.args.place c.args.free.now c.args.tiles.now (2 * c.args.label - 1) in
    let blank : List (List ℕ) = gives_try_right next c.args.self.now.line.now c.args.place c.args.free.now c.args.tiles.now (2 * c.args.label) in
    took-more (reports (g.T.Taker.made_for c.args.sink.now)) _ tile blank _ _ _ c.in_ok-one_right.ensures.took
    (took-for reports _ _ _ blank _ _ c.in_ok-one_right.ensures.made_for c.one_right-2.ensures.took)

-- ---- one cell

pub right-offer-requires : goal.right-offer-requires
right-offer-requires g t c =
    let past : length c.args.self.now.line.now ≤ c.args.place = omega arith in
    record { can = every-same _ _ _ (gives_right-end (strings (g.L.PathLex.tail c.args.self.now.lex.now) c.args.at) c.args.self.now.line.now c.args.place c.args.tiles.now past) c.requires.can }

pub right-returns-then-place-eq15-clause-took : goal.right-returns-then-place-eq15-clause-took
right-returns-then-place-eq15-clause-took g t c =
    let past : length c.args.self.now.line.now ≤ c.args.place = omega arith in
    took-same _ _ _ _ _ _ (gives_right-end (strings (g.L.PathLex.tail c.args.self.now.lex.now) c.args.at) c.args.self.now.line.now c.args.place c.args.tiles.now past) c.offer.ensures.took

pub right-right-requires : goal.right-right-requires
right-right-requires g t c κs within =
    let next : List ℕ → Bool = strings (g.L.PathLex.tail c.args.self.now.lex.now) c.in-Some.next in
    let inside : c.args.place < length c.args.self.now.line.now = omega arith in
    let can : Every (g.T.Taker.can_take c.args.self.now.taker.now (g.T.Taker.made_for c.args.sink.now)) (gives_right next c.args.self.now.line.now (c.args.place + 1) c.args.tiles.now) =
    every-same _ _ _ (right-old-goes (strings (g.L.PathLex.tail c.args.self.now.lex.now) c.args.at) next c.args.self.now.line.now c.args.place _ c.args.tiles.now inside c.in-Old.is c.in-Some.ensures.some) c.requires.can in
    search (rules, arith, can)

pub right-returns-in-Some-clause-took : goal.right-returns-in-Some-clause-took
right-returns-in-Some-clause-took g t c =
    let inside : c.args.place < length c.args.self.now.line.now = omega arith in
    took-same _ _ _ _ _ _ (right-old-goes (strings (g.L.PathLex.tail c.args.self.now.lex.now) c.args.at) (strings (g.L.PathLex.tail c.args.self.now.lex.now) c.in-Some.next) c.args.self.now.line.now c.args.place _ c.args.tiles.now inside c.in-Old.is c.in-Some.ensures.some) c.right.ensures.took

pub right-returns-in-None-clause-took : goal.right-returns-in-None-clause-took
right-returns-in-None-clause-took g t c =
    let inside : c.args.place < length c.args.self.now.line.now = omega arith in
    nothing-took _ _ _ (right-old-dead (strings (g.L.PathLex.tail c.args.self.now.lex.now) c.args.at) c.args.self.now.line.now c.args.place _ c.args.tiles.now inside c.in-Old.is c.in-None.ensures.none)

pub right-offer-requires-in-Free : goal.right-offer-requires-in-Free
right-offer-requires-in-Free g t c =
    let inside : c.args.place < length c.args.self.now.line.now = omega arith in
    record { can = every-left _ _ _ (every-same _ _ _ (gives_right-free (strings (g.L.PathLex.tail c.args.self.now.lex.now) c.args.at) c.args.self.now.line.now c.args.place _ c.args.tiles.now inside c.in-Free.is) c.requires.can) }

pub right-returns-in_err-offer-in-Free-clause-took : goal.right-returns-in_err-offer-in-Free-clause-took
right-returns-in_err-offer-in-Free-clause-took g t c =
    let inside : c.args.place < length c.args.self.now.line.now = omega arith in
    took-refused _ _ _ _ _ _ c.from_residual.ensures.1
    (front-same _ _ _ _ _ (gives_right-free (strings (g.L.PathLex.tail c.args.self.now.lex.now) c.args.at) c.args.self.now.line.now c.args.place _ c.args.tiles.now inside c.in-Free.is) (front-less _ _ _ _ _ c.in_err-offer-in-Free.ensures.took))

pub right-tries_right-requires : goal.right-tries_right-requires
right-tries_right-requires g t c κs within =
    let takes = g.T.Taker.can_take c.args.self.now.taker.now in
    let here : List ℕ → Bool = strings (g.L.PathLex.tail c.args.self.now.lex.now) c.args.at in
    let ending : List (List ℕ) = gives_leaf c.args.at.accepts c.args.tiles.now.fresh in
    let tried : List (List ℕ) = gives_tries_right here c.args.self.now.line.now c.args.place c.in-Free.free c.args.tiles.now in
    let inside : c.args.place < length c.args.self.now.line.now = omega arith in
    let parts = gives_right-free here c.args.self.now.line.now c.args.place c.in-Free.free c.args.tiles.now inside c.in-Free.is in
    let all : Every (takes (g.T.Taker.made_for c.args.sink.now)) (ending ++ tried) = every-same _ _ _ parts c.requires.can in
    let can : Every (takes (g.T.Taker.made_for c.offer-in-Free.new.sink)) tried =
    every-for takes (g.T.Taker.made_for c.args.sink.now) (g.T.Taker.made_for c.offer-in-Free.new.sink) tried c.in_ok-offer-in-Free.ensures.made_for
    (every-right (takes (g.T.Taker.made_for c.args.sink.now)) ending tried all) in
    search (rules, arith, can)

pub right-returns-in_ok-offer-in-Free-clause-took : goal.right-returns-in_ok-offer-in-Free-clause-took
right-returns-in_ok-offer-in-Free-clause-took g t c =
    let inside : c.args.place < length c.args.self.now.line.now = omega arith in
    let reports = g.T.Taker.report c.args.self.now.taker.now in
    let here : List ℕ → Bool = strings (g.L.PathLex.tail c.args.self.now.lex.now) c.args.at in
    let ending : List (List ℕ) = gives_leaf c.args.at.accepts c.args.tiles.now.fresh in
    let tried : List (List ℕ) = gives_tries_right here c.args.self.now.line.now c.args.place c.in-Free.free c.args.tiles.now in
    took-same _ _ _ _ _ _ (gives_right-free here c.args.self.now.line.now c.args.place _ c.args.tiles.now inside c.in-Free.is)
    (took-more (reports (g.T.Taker.made_for c.args.sink.now)) _ ending tried _ _ _ c.in_ok-offer-in-Free.ensures.took
    (took-for reports _ _ _ tried _ _ c.in_ok-offer-in-Free.ensures.made_for c.tries_right.ensures.took))

-- ---- the entries of a cell

pub tries_right-returns-in_default-clause-took : goal.tries_right-returns-in_default-clause-took
tries_right-returns-in_default-clause-took g t c =
    nothing-took _ _ _ (tries_right-dead _ _ _ _ _ (no_more (g.L.PathLex.tail c.args.self.now.lex.now) c.args.at (ap is_some c.in_default.is)))

pub tries_right-letter_right-requires : goal.tries_right-letter_right-requires
tries_right-letter_right-requires g t c κs within =
    let takes = g.T.Taker.can_take c.args.self.now.taker.now in
    let tail = g.L.PathLex.tail c.args.self.now.lex.now in
    let here : List ℕ → Bool = strings tail c.args.at in
    let tried : ℕ → List (List ℕ) = gives_one_right here c.args.self.now.line.now c.args.place c.args.free.now c.args.tiles.now in
    let label = c.in-Some-next_letter.on.branch.label in
    let on : List (List ℕ) = gives_letter_right (strings tail c.in-Some-next_letter.on.branch.step) c.args.self.now.line.now c.args.place c.args.free.now c.args.tiles.now label in
    let goes =
    goes_right tail c.args.at c.in-Some.node c.args.self.now.line.now c.args.place c.args.free.now c.args.tiles.now c.loop-on.from label c.in-Some-next_letter.on.branch.step
    c.in-Some.is c.loop-on.invariant.low c.in-Some-next_letter.ensures.reached c.in-Some-next_letter.ensures.passed c.in-Some-next_letter.ensures.some in
    let some : 0 < label = omega (arith, c.loop-on.invariant.low, c.in-Some-next_letter.ensures.reached) in
    let can : Every (takes (g.T.Taker.made_for c.loop-on.sink)) on =
    every-for takes _ _ _ c.loop-on.invariant.made_for
    (labels-every (takes (g.T.Taker.made_for c.args.sink.now)) tried label c.loop-on.from on some c.in-Some-next_letter.ensures.label goes (every-same _ _ _ (tries_right-is here c.args.self.now.line.now c.args.place c.args.free.now c.args.tiles.now) c.requires.can)) in
    search (rules, arith, can)

pub tries_right-loop-on-preserved : goal.tries_right-loop-on-preserved
tries_right-loop-on-preserved g t c =
    let reports = g.T.Taker.report c.args.self.now.taker.now in
    let tail = g.L.PathLex.tail c.args.self.now.lex.now in
    let here : List ℕ → Bool = strings tail c.args.at in
    let tried : ℕ → List (List ℕ) = gives_one_right here c.args.self.now.line.now c.args.place c.args.free.now c.args.tiles.now in
    let label = c.in-Some-next_letter.on.branch.label in
    let on : List (List ℕ) = gives_letter_right (strings tail c.in-Some-next_letter.on.branch.step) c.args.self.now.line.now c.args.place c.args.free.now c.args.tiles.now label in
    let goes =
    goes_right tail c.args.at c.in-Some.node c.args.self.now.line.now c.args.place c.args.free.now c.args.tiles.now c.loop-on.from label c.in-Some-next_letter.on.branch.step
    c.in-Some.is c.loop-on.invariant.low c.in-Some-next_letter.ensures.reached c.in-Some-next_letter.ensures.passed c.in-Some-next_letter.ensures.some in
    record {
      low = omega arith;
      high = omega (arith, c.in-Some-next_letter.ensures.label);
      rest = c.in-Some-next_letter.ensures.rest;
      made_for = c.in_ok-letter_right.ensures.made_for ∙ c.loop-on.invariant.made_for;
      took = labels-took _ tried label c.loop-on.from on _ _ _ goes c.loop-on.invariant.took
          (all-for reports _ _ _ on _ c.loop-on.invariant.made_for c.in_ok-letter_right.ensures.took);
    }

pub tries_right-returns-in_err-letter_right-clause-took : goal.tries_right-returns-in_err-letter_right-clause-took
tries_right-returns-in_err-letter_right-clause-took g t c =
    let reports = g.T.Taker.report c.args.self.now.taker.now in
    let tail = g.L.PathLex.tail c.args.self.now.lex.now in
    let here : List ℕ → Bool = strings tail c.args.at in
    let tried : ℕ → List (List ℕ) = gives_one_right here c.args.self.now.line.now c.args.place c.args.free.now c.args.tiles.now in
    let label = c.in-Some-next_letter.on.branch.label in
    let on : List (List ℕ) = gives_letter_right (strings tail c.in-Some-next_letter.on.branch.step) c.args.self.now.line.now c.args.place c.args.free.now c.args.tiles.now label in
    let goes =
    goes_right tail c.args.at c.in-Some.node c.args.self.now.line.now c.args.place c.args.free.now c.args.tiles.now c.loop-on.from label c.in-Some-next_letter.on.branch.step
    c.in-Some.is c.loop-on.invariant.low c.in-Some-next_letter.ensures.reached c.in-Some-next_letter.ensures.passed c.in-Some-next_letter.ensures.some in
    let some : 0 < label = omega (arith, c.loop-on.invariant.low, c.in-Some-next_letter.ensures.reached) in
    took-refused _ _ _ _ _ _ c.from_residual.ensures.1
    (front-same _ _ _ _ _ (tries_right-is here c.args.self.now.line.now c.args.place c.args.free.now c.args.tiles.now)
    (labels-front _ tried label c.loop-on.from on _ _ _ some c.in-Some-next_letter.ensures.label goes c.loop-on.invariant.took
    (front-for reports _ _ _ on _ c.loop-on.invariant.made_for c.in_err-letter_right.ensures.took)))

pub tries_right-returns-clause-took : goal.tries_right-returns-clause-took
tries_right-returns-clause-took g t c =
    let tail = g.L.PathLex.tail c.args.self.now.lex.now in
    let here : List ℕ → Bool = strings tail c.args.at in
    all-same _ _ _ _ _ (tries_right-is here c.args.self.now.line.now c.args.place c.args.free.now c.args.tiles.now ∙ ends_right tail c.args.at c.in-Some.node c.args.self.now.line.now c.args.place c.args.free.now c.args.tiles.now c.loop-on.from c.in-Some.is c.loop-on.invariant.low c.loop-on.invariant.high c.in_default-next_letter.ensures.none)
    c.loop-on.invariant.took
