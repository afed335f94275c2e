-- The crosses that are right for a board are equal, and they stay right from moment to moment.
use Rattle.std.proofs.Common.{◌≡◌, ◌↔◌, ℕ, Bool, true, false, List, [], ◌∷◌, get_or, refl, ap, sym, ◌∙◌, ◌⊎◌, ⊎_elim, Option, Some, None, is_some, inl, inr}
use Rattle.ref_tiles.specs.declared.tiles.Tile.{Tile}
use Rattle.ref_tiles.specs.declared.letters.Letter.{Letter}
use Rattle.ref_tiles.specs.declared.rulebook.Rules.{Rules}
use Rattle.ref_board.specs.declared.directions.Dir.{Dir}
use Rattle.ref_board.specs.Cells.{tile_at}
use Rattle.ref_play.proofs.FormedRuns.{same_test}
use Rattle.gen_cross.specs.declared.crosses.Value.{Value}
use Rattle.gen_cross.specs.Values.{value_at, IsValue, IsRight}
use Rattle.gen_cross.specs.Following.{Moment, AreNext, last_of, RightAreSame, KeptAreSame}

-- two answers to one question are equal
same_answer : {X : Type 0} (a b : Bool) → (a ≡ true) ↔ X → (b ≡ true) ↔ X → a ≡ b
same_answer a b m n = same_test a b (λ yes. n.1 (m.0 yes)) (λ yes. m.1 (n.0 yes))

free_or_held : (cell : Option Tile) → (cell ≡ None) ⊎ (is_some cell ≡ true)
free_or_held None = inl refl
free_or_held (Some t) = inr refl

same_value : (rules : Rules) (words : List (List ℕ)) (d : Dir) (board : List (Option Tile)) (square : ℕ) (a b : Value) → IsValue rules words d board square a → IsValue rules words d board square b
    → ((l : Letter) → get_or a.mask l.index false ≡ get_or b.mask l.index false) × (a.side ≡ b.side)
same_value rules words d board square a b is_a is_b =
    ⊎_elim
    (λ (free : tile_at board square ≡ None). (
      (λ l. same_answer (get_or a.mask l.index false) (get_or b.mask l.index false) (is_a.mask free l) (is_b.mask free l)),
      is_a.side free ∙ sym (is_b.side free),
    ))
    (λ held.
    let same : a ≡ b = is_a.occupied held ∙ sym (is_b.occupied held) in
    ((λ l. ap (λ (v : Value). get_or v.mask l.index false) same), ap (λ (v : Value). v.side) same))
    (free_or_held (tile_at board square))

pub right_are_same : RightAreSame
right_are_same rules words board a b right_a right_b d square below =
    same_value rules words d board square (value_at a d square) (value_at b d square) (right_a d square below) (right_b d square below)

right_at_last : (rules : Rules) (words : List (List ℕ)) (first : Moment) (rest : List Moment) → IsRight rules words first.board first.cross → AreNext rules words first rest
    → IsRight rules words (last_of first rest).board (last_of first rest).cross
right_at_last rules words first [] right next = right
right_at_last rules words first (m ∷ rest) right next = right_at_last rules words m rest (next.0.renewed right) next.1

pub kept_are_same : KeptAreSame
kept_are_same rules words first rest made right next is =
    right_are_same rules words (last_of first rest).board (last_of first rest).cross made (right_at_last rules words first rest right next) is
