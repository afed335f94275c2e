use Rattle.std.proofs.Common.{rules, true, ◌≡◌, ◌-◌, ◌+◌, ◌<◌, ◌≤◌, ℕ, arith, sym, ap, ◌∙◌, subst, ⊎_elim}
use Rattle.std.proofs.lemmas.Bool.{cases_eq, cases_lt, true≢false}
use Rattle.gen_line.specs.Cells.{cell_at, is_anchor_cell}
use Rattle.gen_moves.specs.Closing.{open_in}
use Rattle.gen_moves.specs.Bounds.{IsBoundFrom, place_in, one_if, free_count}
use Rattle.gen_moves.proofs.Longest.{bound_up, count_one, count_more, one_or_none, no_reach}
use Rattle.gen_moves.proofs.anchors.anchor_bound.Goals as goal
use Rattle.gen_moves.proofs.anchors.anchor_bound.Goals.{then-further-bound, else-further-bound}

pub returns-then-not-opens-anchor : goal.returns-then-not-opens-anchor
returns-then-not-opens-anchor c first high alone len inside within few passable =
    absurd (true≢false (sym (passable c.args.anchor high inside) ∙ search rules))

pub loop-back-init : goal.loop-back-init
loop-back-init c =
    let places = place_in c.args.places.now in
    let is : c.from-free.result ≡ one_if (places c.args.anchor).free = search rules in
    let start : c.args.anchor - 0 ≡ c.args.anchor = omega arith in
    record {
      bounds = λ first low high.
          let here : first ≡ c.args.anchor = omega arith in
          subst (λ (f : ℕ). IsBoundFrom c.args.bonus c.args.worth.points c.args.worth.ones places (open_in c.args.opens.now) f c.longest-bound.result) (sym here) c.longest-bound.ensures;
      free = is ∙ sym (count_one places c.args.anchor) ∙ ap (λ a. free_count places a 1) (sym start);
      few = let one = one_or_none (places c.args.anchor).free in omega arith;
    }

pub returns-then-free-gt7 : goal.returns-then-free-gt7
returns-then-free-gt7 c first high alone len inside within few passable =
    let places = place_in c.args.places.now in
    let further : ℕ = c.args.anchor - 1 - c.loop-back.back in
    let is : c.from-free-in-loop-back.result ≡ one_if (places further).free = search rules in
    let next : c.args.anchor - c.loop-back.back ≡ further + 1 = omega arith in
    let size : c.args.anchor - further + 1 ≡ c.loop-back.back + 1 + 1 = omega arith in
    let counted : free_count places further (c.args.anchor - further + 1) ≡ c.loop-back.free + c.from-free-in-loop-back.result =
    ap (free_count places further) size
    ∙ count_more places further (c.args.anchor - c.loop-back.back) (c.loop-back.back + 1) next
    ∙ ap (λ n. n + one_if (places further).free) (sym c.loop-back.invariant.free)
    ∙ ap (λ n. c.loop-back.free + n) (sym is) in
    ⊎_elim
    (λ (far : first < c.args.anchor - c.loop-back.back). absurd (no_reach places first further c.args.anchor len (omega arith) (omega arith) inside (omega arith) few))
    (λ (near : c.args.anchor - c.loop-back.back ≤ first). c.loop-back.invariant.bounds first near high len within few passable)
    (cases_lt first (c.args.anchor - c.loop-back.back))

pub returns-then-is_anchor : goal.returns-then-is_anchor
returns-then-is_anchor c first high alone len inside within few passable =
    let further : ℕ = c.args.anchor - 1 - c.loop-back.back in
    let is : is_anchor_cell (cell_at c.args.cells.now further) ≡ true = search rules in
    ⊎_elim
    (λ (far : first < c.args.anchor - c.loop-back.back). absurd (true≢false (sym is ∙ alone further (omega arith) (omega arith))))
    (λ (near : c.args.anchor - c.loop-back.back ≤ first). c.loop-back.invariant.bounds first near high len within few passable)
    (cases_lt first (c.args.anchor - c.loop-back.back))

pub returns-then-not-opens-first : goal.returns-then-not-opens-first
returns-then-not-opens-first c first high alone len inside within few passable =
    let further : ℕ = c.args.anchor - 1 - c.loop-back.back in
    ⊎_elim
    (λ (far : first < c.args.anchor - c.loop-back.back). absurd (true≢false (sym (passable further (omega arith) (omega arith)) ∙ search rules)))
    (λ (near : c.args.anchor - c.loop-back.back ≤ first). c.loop-back.invariant.bounds first near high len within few passable)
    (cases_lt first (c.args.anchor - c.loop-back.back))

pub loop-back-preserved : goal.loop-back-preserved
loop-back-preserved c =
    let places = place_in c.args.places.now in
    let more = c.if-further-bound.bound in
    let both : (c.loop-back.bound ≤ more) × (c.longest-further.result ≤ more) =
    elim c.if-further-bound.branch [
      | then-further-bound w ↦ let is = w.bound-is in let above = w.if-further-bound.true in (omega arith, omega arith)
      | else-further-bound w ↦ let is = w.bound-is in let below = w.if-further-bound.false in (omega arith, omega arith)
    ] in
    let further : ℕ = c.args.anchor - 1 - c.loop-back.back in
    let is : c.from-free-in-loop-back.result ≡ one_if (places further).free = search rules in
    let next : c.args.anchor - c.loop-back.back ≡ further + 1 = omega arith in
    let at : c.args.anchor - (c.loop-back.back + 1) ≡ further = omega arith in
    record {
      bounds = λ first low high.
          ⊎_elim
          (λ (here : first ≡ further).
          subst (λ (f : ℕ). IsBoundFrom c.args.bonus c.args.worth.points c.args.worth.ones places (open_in c.args.opens.now) f more) (sym here)
          (bound_up c.args.bonus c.args.worth.points c.args.worth.ones places (open_in c.args.opens.now) further c.longest-further.result more both.1 c.longest-further.ensures))
          (λ (ne : first ≡ further → ⊥).
          bound_up c.args.bonus c.args.worth.points c.args.worth.ones places (open_in c.args.opens.now) first c.loop-back.bound more both.0 (c.loop-back.invariant.bounds first (omega arith) high))
          (cases_eq first further);
      free = ap (λ n. c.loop-back.free + n) is
          ∙ ap (λ n. n + one_if (places further).free) c.loop-back.invariant.free
          ∙ sym (count_more places further (c.args.anchor - c.loop-back.back) (c.loop-back.back + 1) next)
          ∙ ap (λ a. free_count places a (c.loop-back.back + 1 + 1)) (sym at);
      few = c.if-free-gt7.false;
    }
