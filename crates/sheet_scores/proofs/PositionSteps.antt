-- What is said of the boards, one by one.
use Rattle.std.proofs.Common.{◌≡◌, ℕ, ◌+◌, List, [], ◌∷◌, ◌++◌, slice_get, Some, refl, sym, ap, ◌∙◌, subst}
use Rattle.ref_tiles.specs.declared.rulebook.Rules.{Rules}
use Rattle.gcg_read.specs.declared.events.Event.{Event}
use Rattle.sheet_scores.specs.declared.pictures.Picture.{Picture}
use Rattle.sheet_scores.specs.declared.positions.Position.{Position}
use Rattle.sheet_scores.specs.Positions.{IsPositionOf, IsPositionAt, ArePositions}
use Rattle.sheet_scores.proofs.SheetRows.{one_more, one_longer, none_yet}

pub no_positions : (rules : Rules) (events : List Event) (pictures : List Picture) → ArePositions rules events pictures 0 []
no_positions rules events pictures = record { as_many = refl; each = none_yet (IsPositionAt rules events pictures) }

-- one more board
pub positions_more : (rules : Rules) (events : List Event) (pictures : List Picture) (place : ℕ) (positions more : List Position) (x : Position) (e : Event) (p : Picture)
    → ArePositions rules events pictures place positions → slice_get events place ≡ Some e → slice_get pictures place ≡ Some p → IsPositionOf rules e.kind p x → more ≡ positions ++ x ∷ []
    → ArePositions rules events pictures (place + 1) more
positions_more rules events pictures place positions more x e p are stands shows is pushed =
    let at : IsPositionAt rules events pictures place x = record { event = e; picture = p; stands = stands; shows = shows; is = is } in
    subst (ArePositions rules events pictures (place + 1)) (sym pushed)
    (record {
      as_many = one_longer positions x ∙ ap (λ n. n + 1) are.as_many;
      each = one_more (IsPositionAt rules events pictures) positions x are.each (subst (λ n. IsPositionAt rules events pictures n x) (sym are.as_many) at);
    })
