-- The slips that a loop lists, one place after another.
use Rattle.std.proofs.Common.{◌≡◌, ℕ, zero, suc, ◌+◌, List, ◌++◌, sym, ap, ◌∙◌, arith}
use Rattle.std.specs.List.{flat_map, range_with_len}
use Rattle.std.proofs.lemmas.List.{append_assoc, append-nil}
use Rattle.ref_board.specs.declared.directions.Dir.{Dir}
use Rattle.gcg_read.specs.declared.events.Event.{Event}
use Rattle.repair_sheets.specs.declared.slips.SheetSlip.{SheetSlip}
use Rattle.repair_sheets.specs.BadListing.{place_slip}
use Rattle.repair_sheets.specs.Listing.{running_at}

last_of_range : {A : Type 0} (f : ℕ → List A) (a n : ℕ) → flat_map f (range_with_len a (suc n)) ≡ flat_map f (range_with_len a n) ++ f (a + n)
last_of_range f a zero = append-nil (f a) ∙ ap f (omega arith)
last_of_range {A} f a (suc n) =
    ap (λ (xs : List A). f a ++ xs) (last_of_range f (a + 1) n) ∙ sym (append_assoc (f a) (flat_map f (range_with_len (a + 1) n)) (f (a + 1 + n)))
    ∙ ap (λ k. (f a ++ flat_map f (range_with_len (a + 1) n)) ++ f k) (omega arith)

pub one_more : {A : Type 0} (f : ℕ → List A) (n : ℕ) → flat_map f (range_with_len 0 (n + 1)) ≡ flat_map f (range_with_len 0 n) ++ f n
one_more {A} f n =
    let step : n + 1 ≡ suc n = omega arith in
    let start : 0 + n ≡ n = omega arith in
    ap (λ k. flat_map f (range_with_len 0 k)) step ∙ last_of_range f 0 n ∙ ap (λ k. flat_map f (range_with_len 0 n) ++ f k) start

-- those of one more place
pub place_more : (events : List Event) (place : ℕ) (front old new : List SheetSlip) → old ≡ front ++ flat_map (running_at events) (range_with_len 0 place) → new ≡ old ++ running_at events place
    → new ≡ front ++ flat_map (running_at events) (range_with_len 0 (place + 1))
place_more events place front old new so_far more =
    more ∙ ap (λ (xs : List SheetSlip). xs ++ running_at events place) so_far ∙ append_assoc front (flat_map (running_at events) (range_with_len 0 place)) (running_at events place)
    ∙ ap (λ (xs : List SheetSlip). front ++ xs) (sym (one_more (running_at events) place))

-- ---- the squares of the board

-- those of one more square
pub square_more : (number square : ℕ) (d : Dir) (front old new : List SheetSlip) → old ≡ front ++ flat_map (place_slip number d) (range_with_len 0 square)
    → new ≡ old ++ place_slip number d square → new ≡ front ++ flat_map (place_slip number d) (range_with_len 0 (square + 1))
square_more number square d front old new so_far more =
    more ∙ ap (λ (xs : List SheetSlip). xs ++ place_slip number d square) so_far
    ∙ append_assoc front (flat_map (place_slip number d) (range_with_len 0 square)) (place_slip number d square)
    ∙ ap (λ (xs : List SheetSlip). front ++ xs) (sym (one_more (place_slip number d) square))
