-- That no deal exists, and how many tiles of chosen kinds are in which places.
use Rattle.std.specs.Prelude.{◌≡◌, ℕ, ◌+◌, ◌≤◌, Bool, false, not, List, length, slice_index, slice_index_or, if◌then◌else◌}
use Rattle.std.specs.List.{sum_by}
use Rattle.ref_tiles.specs.declared.rulebook.Rules.{Rules}
use Rattle.deal_steps.specs.declared.steps.Step.{Step}
use Rattle.deal_steps.specs.declared.deals.Racks.{Racks}
use Rattle.deal_steps.specs.declared.deals.Held.{Held}
use Rattle.deal_steps.specs.Piles.{kinds}
use Rattle.deal_steps.specs.Fitting.{in_bag, FitsAt, Follows, Fits}
use Rattle.deal_cuts.specs.declared.cuts.Places.{Places}

-- no racks fit the steps
abbrev pub HasNoDeal : Rules → List Step → Type 0
HasNoDeal rules steps = (deal : List Held) → Fits rules steps deal → ⊥

-- a number that counts only if a condition holds
unfoldable pub where_so : Bool → ℕ → ℕ
where_so so number = if so then number else 0

-- the number of the tiles that are of the chosen kinds
unfoldable pub number_in : (chosen : List Bool) → (tiles : List ℕ) → ℕ
number_in chosen tiles = sum_by (λ k. where_so (slice_index_or chosen k false) (slice_index tiles k)) kinds

-- and the number that are of other kinds
unfoldable pub number_beside : (chosen : List Bool) → (tiles : List ℕ) → ℕ
number_beside chosen tiles = sum_by (λ k. where_so (not (slice_index_or chosen k false)) (slice_index tiles k)) kinds

-- the number of tiles of the chosen kinds in the places before a step
unfoldable pub inside_of : (chosen : List Bool) → Places → Rules → Step → Racks → ℕ
inside_of chosen places rules s racks =
    where_so places.bag (number_in chosen (in_bag rules s racks)) + where_so places.first (number_in chosen racks.first)
    + where_so places.second (number_in chosen racks.second)

-- there are at least this many tiles of the chosen kinds in the places before a step, in every deal
abbrev pub AreInside : (chosen : List Bool) → Places → Rules → Step → (inside : ℕ) → Type 0
AreInside chosen places rules s inside = (held : Held) → FitsAt rules s held → inside ≤ inside_of chosen places rules s held.racks

-- if there are this many in some places before a step, there are that many in others before the next
abbrev pub Carries : (chosen : List Bool) → (s next : Step) → (from to : Places) → (inside after : ℕ) → Type 0
Carries chosen s next from to inside after =
    (rules : Rules) (held next_held : Held) → length rules.counts ≡ 27
    → FitsAt rules s held → Follows rules s held next_held.racks → FitsAt rules next next_held
    → inside ≤ inside_of chosen from rules s held.racks → after ≤ inside_of chosen to rules next next_held.racks

-- more tiles are in the places before a step than there can be
abbrev pub AreTooMany : (chosen : List Bool) → Places → Rules → Step → (inside : ℕ) → Type 0
AreTooMany chosen places rules s inside = (held : Held) → FitsAt rules s held → inside ≤ inside_of chosen places rules s held.racks → ⊥
