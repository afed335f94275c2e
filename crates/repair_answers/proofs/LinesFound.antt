-- The lines of repairs that cost the same, one after another.
use Rattle.std.proofs.Common.{◌≡◌, ℕ, ◌+◌, ◌==◌, Bool, true, false, List, [], ◌∷◌, ◌++◌, length, take, slice_get, Some, sym, ap, ◌∙◌}
use Rattle.std.specs.Prelude.{if◌then◌else◌}
use Rattle.std.specs.List.{count_by, flat_map, range_with_len}
use Rattle.repair_sheets.proofs.Listed.{one_more}
use Rattle.repair_answers.specs.BadRecords.{costs, line_of, lines_at, all_lines}
use Rattle.repair_answers.specs.declared.bad_records.SameCost.{SameCost}
use Rattle.repair_answers.specs.declared.sheet_repair.SheetRepair.{SheetRepair}

-- those of one more repair
pub line_more : (found : List SheetRepair) (number : ℕ) (old new : List SameCost) → old ≡ flat_map (lines_at found) (range_with_len 0 number) → new ≡ old ++ lines_at found number
    → new ≡ flat_map (lines_at found) (range_with_len 0 (number + 1))
line_more found number old new so_far more = more ∙ ap (λ (ls : List SameCost). ls ++ lines_at found number) so_far ∙ sym (one_more (lines_at found) number)

-- the line of a repair that is the first with its cost
pub line_there : (found : List SheetRepair) (number : ℕ) (r : SheetRepair) → slice_get found number ≡ Some r → (count_by (costs r.cost) (take number found) == 0) ≡ true
    → lines_at found number ≡ record { first = number; many = count_by (costs r.cost) found } ∷ []
line_there found number r at first =
    let one : SameCost = record { first = number; many = count_by (costs r.cost) found } in
    ap (line_of found number) at ∙ ap (λ (b : Bool). if b then one ∷ [] else []) first

-- none of one that is not
pub none_there : (found : List SheetRepair) (number : ℕ) (r : SheetRepair) → slice_get found number ≡ Some r → (count_by (costs r.cost) (take number found) == 0) ≡ false
    → lines_at found number ≡ []
none_there found number r at later =
    let one : SameCost = record { first = number; many = count_by (costs r.cost) found } in
    ap (line_of found number) at ∙ ap (λ (b : Bool). if b then one ∷ [] else []) later

pub all_there : (found : List SheetRepair) (number : ℕ) (lines : List SameCost) → lines ≡ flat_map (lines_at found) (range_with_len 0 number) → number ≡ length found → lines ≡ all_lines found
unfolding all_lines
all_there found number lines so_far done = so_far ∙ ap (λ n. flat_map (lines_at found) (range_with_len 0 n)) done
