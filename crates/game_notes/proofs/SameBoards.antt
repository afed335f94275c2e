-- Boards and racks that compare equal.
use Rattle.std.proofs.Common.{◌≡◌, ℕ, Bool, true, List, [], ◌∷◌, Option, Some, None, refl, ap, ◌∙◌, subst, IsTrue}
use Rattle.std.specs.Option.{option_eq}
use Rattle.std.proofs.lemmas.Bool.{and_parts}
use Rattle.std.proofs.lemmas.Bool.{eqb-true}
use Rattle.ref_tiles.specs.declared.letters.Letter.{Letter}
use Rattle.ref_tiles.specs.declared.kinds.Kind.{Kind}
use Rattle.ref_tiles.specs.declared.kinds.Kind.TheVariants as kind
use Rattle.ref_tiles.specs.declared.tiles.Tile.{Tile}
use Rattle.ref_tiles.specs.contracts.letters.LetterPartialEq.TheImpl as letter_eq
use Rattle.ref_tiles.specs.contracts.kinds.KindPartialEq.TheImpl as kind_eq
use Rattle.ref_tiles.specs.contracts.tiles.TilePartialEq.TheImpl as tile_eq
use Rattle.ref_tiles.specs.Tiles.{can_show}
use Rattle.ref_tiles.proofs.LetterLemmas.{same_letter}
use denote.Struct.Props.{props}
use lib.Pointwise.{pointwise}

alike : (a b : Letter) → letter_eq.ghosts.eq a b ≡ true → a ≡ b
alike a b is = same_letter a b (eqb-true a.index b.index is)

same_kind : (a b : Kind) → kind_eq.ghosts.eq a b ≡ true → a ≡ b
same_kind (kind.Letter a) (kind.Letter b) is = ap kind.Letter (alike a b is)
same_kind (kind.Letter a) kind.Blank is = cc
same_kind kind.Blank (kind.Letter b) is = cc
same_kind kind.Blank kind.Blank is = refl

-- a tile is known by its kind and the letter that it shows
known_tile : (k m : Kind) (l n : Letter) (p : IsTrue (can_show k l)) (q : IsTrue (can_show m n)) → k ≡ m → l ≡ n
    → (let t : Tile = record { kind = k; shown = l; proper = p } in t) ≡ (let t : Tile = record { kind = m; shown = n; proper = q } in t)
known_tile k m l n p q kinds letters =
    let irrelevant : IsProp (IsTrue (can_show k l)) = hlevel props in
    subst (λ (x : Kind). (r : IsTrue (can_show x n)) → (let t : Tile = record { kind = k; shown = l; proper = p } in t) ≡ (let t : Tile = record { kind = x; shown = n; proper = r } in t)) kinds
    (subst (λ (y : Letter). (r : IsTrue (can_show k y)) → (let t : Tile = record { kind = k; shown = l; proper = p } in t) ≡ (let t : Tile = record { kind = k; shown = y; proper = r } in t)) letters
    (λ r. ap (λ (o : IsTrue (can_show k l)). let t : Tile = record { kind = k; shown = l; proper = o } in t) (irrelevant p r)))
    q

pub same_tile : (a b : Tile) → tile_eq.ghosts.eq a b ≡ true → a ≡ b
same_tile a b is =
    let parts = and_parts (kind_eq.ghosts.eq a.kind b.kind) (letter_eq.ghosts.eq a.shown b.shown) is in
    known_tile a.kind b.kind a.shown b.shown a.proper b.proper (same_kind a.kind b.kind parts.0) (alike a.shown b.shown parts.1)

same_cell : (same : Tile → Tile → Bool) → ((a b : Tile) → same a b ≡ true → a ≡ b) → (x y : Option Tile) → option_eq same x y ≡ true → x ≡ y
same_cell same reports None None is = refl
same_cell same reports None (Some b) is = cc
same_cell same reports (Some a) None is = cc
same_cell same reports (Some a) (Some b) is = ap Some (reports a b is)

pub same_board : (same : Tile → Tile → Bool) → ((a b : Tile) → same a b ≡ true → a ≡ b) → (xs ys : List (Option Tile)) → pointwise (option_eq same) xs ys ≡ true → xs ≡ ys
same_board same reports [] [] is = refl
same_board same reports [] (y ∷ ys) is = cc
same_board same reports (x ∷ xs) [] is = cc
same_board same reports (x ∷ xs) (y ∷ ys) is =
    let parts = and_parts (option_eq same x y) (pointwise (option_eq same) xs ys) is in
    ap (λ z. z ∷ xs) (same_cell same reports x y parts.0) ∙ ap (λ zs. y ∷ zs) (same_board same reports xs ys parts.1)

-- racks whose numbers are the same
pub same_numbers : (same : ℕ → ℕ → Bool) → ((a b : ℕ) → same a b ≡ true → a ≡ b) → (xs ys : List ℕ) → pointwise same xs ys ≡ true → xs ≡ ys
same_numbers same reports [] [] is = refl
same_numbers same reports [] (y ∷ ys) is = cc
same_numbers same reports (x ∷ xs) [] is = cc
same_numbers same reports (x ∷ xs) (y ∷ ys) is =
    let parts = and_parts (same x y) (pointwise same xs ys) is in
    ap (λ z. z ∷ xs) (reports x y parts.0) ∙ ap (λ zs. y ∷ zs) (same_numbers same reports xs ys parts.1)
