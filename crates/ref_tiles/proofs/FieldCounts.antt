-- Statements whose fields are too few or too many.
use Rattle.std.proofs.Common.{◌≡◌, ◌≢◌, ℕ, List, [], ◌∷◌, length, Err, refl}
use Rattle.ref_tiles.specs.declared.rules_faults.RulesWhy.TheVariants as why
use Rattle.ref_tiles.specs.Statements.{tile_in, row_of, number_in}

pub tile_of_others : (fields : List (List ℕ)) → length fields ≢ 3 → tile_in fields ≡ Err why.Fields
unfolding tile_in
tile_of_others [] other = refl
tile_of_others (a ∷ []) other = refl
tile_of_others (a ∷ b ∷ []) other = refl
tile_of_others (a ∷ b ∷ c ∷ []) other = absurd (other refl)
tile_of_others (a ∷ b ∷ c ∷ d ∷ fields) other = refl

pub row_of_others : (fields : List (List ℕ)) → length fields ≢ 2 → row_of fields ≡ Err why.Fields
unfolding row_of
row_of_others [] other = refl
row_of_others (a ∷ []) other = refl
row_of_others (a ∷ b ∷ []) other = absurd (other refl)
row_of_others (a ∷ b ∷ c ∷ fields) other = refl

pub number_of_others : (item : ℕ) (fields : List (List ℕ)) → length fields ≢ 1 → number_in item fields ≡ Err why.Fields
unfolding number_in
number_of_others item [] other = refl
number_of_others item (a ∷ []) other = absurd (other refl)
number_of_others item (a ∷ b ∷ fields) other = refl
