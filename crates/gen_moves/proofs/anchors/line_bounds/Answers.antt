use Rattle.std.proofs.Common.{rules, arith, ◌≡◌, ℕ, List, true, false, slice_index, ap, ◌∙◌, ⊎_elim}
use Rattle.std.proofs.lemmas.Bool.{cases_eq, cases_Bool, both_ways}
use Rattle.gen_cross.proofs.Filling.{values_more}
use Rattle.gen_line.specs.Cells.{cell_at, is_anchor_cell}
use Rattle.gen_line.specs.Walk.{anchor_moves}
use Rattle.gen_moves.specs.Closing.{open_in}
use Rattle.gen_moves.specs.Bounds.{IsAnchorBound, IsOffer, ReportsUnder, place_in}
use Rattle.gen_moves.proofs.Offering.{every-more, no_offers}
use Rattle.gen_moves.proofs.anchors.line_bounds.Goals as goal

pub loop-anchor-preserved-then-not-is_anchor : goal.loop-anchor-preserved-then-not-is_anchor
loop-anchor-preserved-then-not-is_anchor c =
    let not_one : is_anchor_cell (cell_at c.args.cells.now c.loop-anchor.anchor) ≡ false = search rules in
    record {
      size = c.loop-anchor.invariant.size;
      bounds = λ h below is.
          ⊎_elim
          (λ (here : h ≡ c.loop-anchor.anchor). absurd (both_ways (is_anchor_cell (cell_at c.args.cells.now h)) (ap (λ k. is_anchor_cell (cell_at c.args.cells.now k)) here ∙ not_one) is))
          (λ (other : h ≡ c.loop-anchor.anchor → ⊥). c.loop-anchor.invariant.bounds h (omega arith) is)
          (cases_eq h c.loop-anchor.anchor);
    }

pub loop-anchor-preserved : goal.loop-anchor-preserved
loop-anchor-preserved c =
    record {
      size = search rules;
      bounds =
          values_more
          (λ k v. is_anchor_cell (cell_at c.args.cells.now k) ≡ true
          → IsAnchorBound c.args.rules.now.bonus c.args.worth.points c.args.worth.ones c.args.cells.now (place_in c.line_places-places.result) (open_in c.open_places-opens.result) k v)
          c.loop-anchor.bounds 0 c.anchor_bound.result c.loop-anchor.anchor (omega arith) c.loop-anchor.invariant.bounds (λ is. c.anchor_bound.ensures);
    }

pub returns : goal.returns
returns c path offers h below =
    let rack = c.args.rack.now in
    let cells = c.args.cells.now in
    let places = place_in c.line_places-places.result in
    let bound = slice_index c.loop-anchor.bounds h in
    let under : List ℕ → Type 0 = λ y. ReportsUnder c.args.rules.now c.args.board.now c.args.dir c.args.line y bound in
    ⊎_elim
    (λ (is : is_anchor_cell (cell_at cells h) ≡ true).
    every-more (IsOffer c.args.rules.now c.args.worth.points c.args.worth.ones c.args.board.now c.args.dir c.args.line cells places (open_in c.open_places-opens.result) h) under (anchor_moves path cells rack h)
    (λ y offer. offer bound (c.loop-anchor.invariant.bounds h (omega arith) is))
    (offers places (c.line_places-places.ensures.places c.requires.scores) (open_in c.open_places-opens.result) c.open_places-opens.ensures h below))
    (λ (not_one : is_anchor_cell (cell_at cells h) ≡ false). no_offers under path cells rack h not_one)
    (cases_Bool (is_anchor_cell (cell_at cells h)))
