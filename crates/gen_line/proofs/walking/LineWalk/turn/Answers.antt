use Rattle.std.proofs.Common.{◌+◌, ℕ, Bool, false, List, refl}
use Rattle.lex_file.specs.declared.lexicons.Step.{Step}
use Rattle.lex_file.specs.Walking.{strings}
use Rattle.gen_line.specs.Walk.{gives_leaf, gives_right}
use Rattle.gen_line.proofs.Sinks.{every-left, every-right, every-same, every-for, front-less, front-same, took-more, took-same, took-for, took-refused, all-same}
use Rattle.gen_line.proofs.LeftWalks.{turn-parts, turn-goes, turn-dead}
use Rattle.gen_line.proofs.walking.LineWalk.turn.Goals as goal

pub offer-requires : goal.offer-requires
offer-requires g c =
    let here : List ℕ → Bool = strings (g.L.PathLex.tail c.args.self.now.lex.now) c.args.at in
    record { can = every-left _ _ _ (every-same _ _ _ (turn-parts here c.args.self.now.line.now c.args.self.now.last c.args.tiles.now c.ends_at.result c.ends_at.ensures) c.requires.can) }

pub returns-in_err-offer-clause-took : goal.returns-in_err-offer-clause-took
returns-in_err-offer-clause-took g c =
    let here : List ℕ → Bool = strings (g.L.PathLex.tail c.args.self.now.lex.now) c.args.at in
    took-refused _ _ _ _ _ _ c.from_residual.ensures.1
    (front-same _ _ _ _ _ (turn-parts here c.args.self.now.line.now c.args.self.now.last c.args.tiles.now c.ends_at.result c.ends_at.ensures) (front-less _ _ _ _ _ c.in_err-offer.ensures.took))

pub right-requires-clause-can : goal.right-requires-clause-can
right-requires-clause-can g c =
    let tail = g.L.PathLex.tail c.args.self.now.lex.now in
    let here : List ℕ → Bool = strings tail c.args.at in
    every-for (g.T.Taker.can_take c.args.self.now.taker.now) (g.T.Taker.made_for c.args.sink.now) (g.T.Taker.made_for c.offer.new.sink) _ c.in_ok-offer.ensures.made_for
    (every-right _ _ _ (every-same _ _ _
    (turn-goes tail here c.in-Some.following (record { accepts = false; next = c.in-Some.following.next }) c.args.self.now.line.now c.args.self.now.last c.args.tiles.now c.ends_at.result refl refl c.in-Some.ensures.some c.ends_at.ensures) c.requires.can))

pub returns-in-Some-clause-took : goal.returns-in-Some-clause-took
returns-in-Some-clause-took g c =
    let tail = g.L.PathLex.tail c.args.self.now.lex.now in
    let reports = g.T.Taker.report c.args.self.now.taker.now in
    let here : List ℕ → Bool = strings tail c.args.at in
    let onward : Step g.row.L-Node.Denot = record { accepts = false; next = c.in-Some.following.next } in
    let ended : List (List ℕ) = gives_leaf c.ends_at.result c.args.tiles.now.fresh in
    let gone_on : List (List ℕ) = gives_right (strings tail onward) c.args.self.now.line.now (c.args.self.now.last + 1) c.args.tiles.now in
    took-same _ _ _ _ _ _ (turn-goes tail here c.in-Some.following onward c.args.self.now.line.now c.args.self.now.last c.args.tiles.now c.ends_at.result refl refl c.in-Some.ensures.some c.ends_at.ensures)
    (took-more (reports (g.T.Taker.made_for c.args.sink.now)) (g.T.Taker.items c.args.sink.now) ended gone_on (g.T.Taker.items c.offer.new.sink) _ _ c.in_ok-offer.ensures.took
    (took-for reports _ _ _ gone_on _ _ c.in_ok-offer.ensures.made_for c.right.ensures.took))

pub returns-in-None-clause-took : goal.returns-in-None-clause-took
returns-in-None-clause-took g c =
    let here : List ℕ → Bool = strings (g.L.PathLex.tail c.args.self.now.lex.now) c.args.at in
    all-same _ _ _ _ _ (turn-dead here c.args.self.now.line.now c.args.self.now.last c.args.tiles.now c.ends_at.result c.in-None.ensures.none c.ends_at.ensures) c.in_ok-offer.ensures.took
