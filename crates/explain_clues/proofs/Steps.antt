-- One more spot.
use Rattle.std.proofs.Common.{◌≡◌, ℕ, ℤ, ◌+◌, Bool, true, false, List, [], ◌∷◌, ◌++◌, Option, refl, sym, ap, ◌∙◌}
use Rattle.std.proofs.lemmas.List.{append-nil, append_assoc}
use Rattle.std.proofs.lemmas.List.Elements.{filter-append}
use Rattle.std.specs.Prelude.{filter, if◌then◌else◌}
use Rattle.ref_tiles.specs.declared.tiles.Tile.{Tile}
use Rattle.ref_tiles.specs.declared.symbols.Symbol.{Symbol}
use Rattle.ref_tiles.specs.declared.rulebook.Rules.{Rules}
use Rattle.ref_board.specs.declared.directions.Dir.{Dir}
use Rattle.ref_play.proofs.Ranges.{map_range_more}
use Rattle.explain_clues.specs.declared.spots.Spot.{Spot}
use Rattle.explain_clues.specs.Spots.{scores_at, spots_along, scoring_along}

filter_one : (f : Spot → Bool) (s : Spot) (b : Bool) → f s ≡ b → filter f (s ∷ []) ≡ (if b then s ∷ [] else [])
filter_one f s true is = rw is refl
filter_one f s false is = rw is refl

along_more : (rules : Rules) (board : List (Option Tile)) (word : List Symbol) (score : ℤ) (d : Dir) (k : ℕ) (b : Bool) → scores_at rules board word score (record { dir = d; at = k }) ≡ b
    → scoring_along rules board word score d (k + 1) ≡ scoring_along rules board word score d k ++ (if b then record { dir = d; at = k } ∷ [] else [])
unfolding scoring_along
along_more rules board word score d k b is =
    let f = scores_at rules board word score in
    let spot : Spot = record { dir = d; at = k } in
    ap (filter f) (map_range_more (λ (j : ℕ). record { dir = d; at = j }) k) ∙ filter-append f (spots_along d k) (spot ∷ []) ∙ ap (λ s. filter f (spots_along d k) ++ s) (filter_one f spot b is)

pub none_yet : (t : List Spot) (rules : Rules) (board : List (Option Tile)) (word : List Symbol) (score : ℤ) (d : Dir) → t ≡ t ++ scoring_along rules board word score d 0
unfolding scoring_along
none_yet t rules board word score d = sym (append-nil t)

pub one_more : (t old new : List Spot) (rules : Rules) (board : List (Option Tile)) (word : List Symbol) (score : ℤ) (d : Dir) (k at : ℕ) → at ≡ k → old ≡ t ++ scoring_along rules board word score d k
    → new ≡ old ++ (if scores_at rules board word score (record { dir = d; at = at }) then record { dir = d; at = at } ∷ [] else []) → new ≡ t ++ scoring_along rules board word score d (k + 1)
one_more t old new rules board word score d k at same before now =
    let Adds : ℕ → List Spot = λ j. if scores_at rules board word score (record { dir = d; at = j }) then record { dir = d; at = j } ∷ [] else [] in
    now ∙ ap (λ j. old ++ Adds j) same ∙ ap (λ s. s ++ Adds k) before ∙ append_assoc t (scoring_along rules board word score d k) (Adds k)
    ∙ ap (λ s. t ++ s) (sym (along_more rules board word score d k (scores_at rules board word score (record { dir = d; at = k })) refl))
