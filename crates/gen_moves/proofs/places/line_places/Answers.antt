use Rattle.std.proofs.Common.{◌≡◌, ◌<◌, ℕ, length, slice_set, sym, ◌∙◌, subst, arith, ⊎_elim}
use Rattle.std.proofs.lemmas.Bool.{cases_eq}
use Rattle.std.proofs.lemmas.List.{get_or-set_same, get_or-set_other, length-set}
use Rattle.ref_board.specs.Lines.{square_at}
use Rattle.gen_moves.specs.declared.places.Place.{Place}
use Rattle.gen_moves.specs.Bounds.{IsPlaceOf, IsSmall, no_place, place_in}
use Rattle.gen_moves.proofs.places.line_places.Goals as goal

pub loop-place-preserved : goal.loop-place-preserved
loop-place-preserved c =
    let places = c.loop-place.places in
    let at = c.loop-place.place in
    let p = c.place_of.result in
    let inside : at < length places = omega (arith, c.loop-place.invariant.size, c.loop-place-test.true) in
    let here : place_in (slice_set places at p) at ≡ p = get_or-set_same places at p no_place inside in
    record {
      size = length-set places at p ∙ c.loop-place.invariant.size;
      places = λ scores i below.
          ⊎_elim
          (λ (same : i ≡ at).
          subst (λ (k : ℕ). IsPlaceOf c.args.rules.now c.args.dir c.args.board.now (square_at c.args.dir c.args.line k) (place_in (slice_set places at p) k)) (sym same)
          (subst (λ (q : Place). IsPlaceOf c.args.rules.now c.args.dir c.args.board.now (square_at c.args.dir c.args.line at) q) (sym here)
          (subst (λ (s : ℕ). IsPlaceOf c.args.rules.now c.args.dir c.args.board.now s p) c.on_line.ensures (c.place_of.ensures.place scores))))
          (λ (ne : i ≡ at → ⊥).
          subst (λ (q : Place). IsPlaceOf c.args.rules.now c.args.dir c.args.board.now (square_at c.args.dir c.args.line i) q) (sym (get_or-set_other places at i p no_place ne))
          (c.loop-place.invariant.places scores i (omega arith)))
          (cases_eq i at);
      small = λ i below.
          ⊎_elim
          (λ (same : i ≡ at). subst (λ (k : ℕ). IsSmall (place_in (slice_set places at p) k)) (sym same) (subst IsSmall (sym here) c.place_of.ensures.small))
          (λ (ne : i ≡ at → ⊥). subst IsSmall (sym (get_or-set_other places at i p no_place ne)) (c.loop-place.invariant.small i (omega arith)))
          (cases_eq i at);
    }
