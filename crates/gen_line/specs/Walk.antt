-- What the walk over a line gives to a sink.
use Rattle.std.specs.Prelude.{◌≡◌, ℕ, zero, suc, ◌+◌, ◌-◌, ◌*◌, ◌==◌, Bool, List, [], ◌∷◌, ◌++◌, map, drop, slice_set, Result, Ok, Err, if◌then◌else◌}
use Rattle.ref_tiles.specs.declared.rulebook.TheConstants.{SIDE}
use Rattle.gen_line.specs.declared.cells.Cell.{Cell}
use Rattle.gen_line.specs.declared.cells.Cell.TheVariants.{Old, Free}
use Rattle.gen_line.specs.declared.cells.Open.{Open}
use Rattle.gen_line.specs.declared.tiles.Tiles.{Tiles}
use Rattle.gen_line.specs.Entries.{label_of_entry}
use Rattle.gen_line.specs.Cells.{cell_at}
use Rattle.gen_line.specs.Model.{right, left, turn, after, may, less, one_try, all_entries, left_of, zeros}

-- a line with the entries of the places walked
abbrev pub put : List ℕ → ℕ → ℕ → List ℕ
put fresh place e = if e == 0 then fresh else slice_set fresh place e

unfoldable pub finish_right : ℕ → List ℕ → List ℕ → List ℕ
finish_right place fresh [] = fresh
finish_right place fresh (e ∷ os) = finish_right (place + 1) (put fresh place e) os

unfoldable pub finish_left : ℕ → ℕ → List ℕ → List ℕ → List ℕ
finish_left h zero fresh os = finish_right (h + 1) fresh os
finish_left h (suc k) fresh [] = fresh
finish_left h (suc k) fresh (e ∷ os) = finish_left h k (put fresh k e) os

-- both entries of a label, the tile of its letter and then a blank, by what each gives
abbrev pub of_label : {A : Type 0} → (ℕ → List A) → ℕ → List A
of_label f label = f (2 * label - 1) ++ f (2 * label)

-- the tiles of a walk once a new one was put on a place
abbrev pub with_tile : Tiles → ℕ → ℕ → Tiles
with_tile tiles place e = record { fresh = slice_set tiles.fresh place e; rack = less tiles.rack e }

-- the tiles of a walk that begins
abbrev pub none_put : List ℕ → Tiles
none_put rack = record { fresh = zeros SIDE; rack = rack }

-- the line as it is, if it is a move
abbrev pub gives_leaf : Bool → List ℕ → List (List ℕ)
gives_leaf ok fresh = if ok then fresh ∷ [] else []

-- ---- to the right: from a place on, with one entry there, with an entry whose label the language is after, with both entries of such a
-- label, and with each entry
abbrev pub gives_right : (List ℕ → Bool) → List Cell → ℕ → Tiles → List (List ℕ)
gives_right g line place tiles = map (finish_right place tiles.fresh) (right g (drop place line) tiles.rack)

abbrev pub one_right_of : (List ℕ → Bool) → List Cell → ℕ → List ℕ → ℕ → List (List ℕ)
one_right_of g line place rack e = right (after g (label_of_entry e)) (drop (place + 1) line) (less rack e)

unfoldable pub gives_one_right : (List ℕ → Bool) → List Cell → ℕ → Open → Tiles → ℕ → List (List ℕ)
gives_one_right g line place m tiles e = map (finish_right place tiles.fresh) (one_try m tiles.rack (one_right_of g line place tiles.rack) e)

unfoldable pub gives_try_right : (List ℕ → Bool) → List Cell → ℕ → Open → Tiles → ℕ → List (List ℕ)
gives_try_right g line place m tiles e = if may m tiles.rack e then gives_right g line (place + 1) (with_tile tiles place e) else []

abbrev pub gives_letter_right : (List ℕ → Bool) → List Cell → ℕ → Open → Tiles → ℕ → List (List ℕ)
gives_letter_right g line place m tiles label = of_label (gives_try_right g line place m tiles) label

unfoldable pub gives_tries_right : (List ℕ → Bool) → List Cell → ℕ → Open → Tiles → List (List ℕ)
gives_tries_right g line place m tiles = all_entries (gives_one_right g line place m tiles)

-- ---- to the left of an anchor h, if there are k places before what was walked: the turn to the right, and the same for a place k
abbrev pub gives_turn : (List ℕ → Bool) → List Cell → ℕ → Tiles → List (List ℕ)
gives_turn g line h tiles = map (finish_right (h + 1) tiles.fresh) (turn g (drop (h + 1) line) tiles.rack)

abbrev pub gives_left : (List ℕ → Bool) → List Cell → ℕ → ℕ → Tiles → List (List ℕ)
gives_left g line h k tiles = map (finish_left h k tiles.fresh) (left g (left_of line k) (drop (h + 1) line) tiles.rack)

abbrev pub one_left_of : (List ℕ → Bool) → List Cell → ℕ → ℕ → List ℕ → ℕ → List (List ℕ)
one_left_of g line h k rack e = left (after g (label_of_entry e)) (left_of line k) (drop (h + 1) line) (less rack e)

unfoldable pub gives_one_left : (List ℕ → Bool) → List Cell → ℕ → ℕ → Open → Tiles → ℕ → List (List ℕ)
gives_one_left g line h k m tiles e = map (finish_left h (suc k) tiles.fresh) (one_try m tiles.rack (one_left_of g line h k tiles.rack) e)

unfoldable pub gives_try_left : (List ℕ → Bool) → List Cell → ℕ → ℕ → Open → Tiles → ℕ → List (List ℕ)
gives_try_left g line h k m tiles e = if may m tiles.rack e then gives_left g line h k (with_tile tiles k e) else []

abbrev pub gives_letter_left : (List ℕ → Bool) → List Cell → ℕ → ℕ → Open → Tiles → ℕ → List (List ℕ)
gives_letter_left g line h k m tiles label = of_label (gives_try_left g line h k m tiles) label

unfoldable pub gives_tries_left : (List ℕ → Bool) → List Cell → ℕ → ℕ → Open → Tiles → List (List ℕ)
gives_tries_left g line h k m tiles = all_entries (gives_one_left g line h k m tiles)

-- ---- What the walk from one place h gives, by its cell: its anchor is the first place walked. The walk turns to the right after
-- the place `last`, which is the anchor, or the last of the old tiles right after it if a language has what follows these, read
-- backwards.
abbrev pub gives_cell : (List ℕ → Bool) → List Cell → ℕ → ℕ → Tiles → Cell → List (List ℕ)
gives_cell g line last h tiles (Old a) = []
gives_cell g line last h tiles (Free m) = if m.anchor then gives_tries_left g line last h m tiles else []

unfoldable pub gives_after : (List ℕ → Bool) → List Cell → ℕ → Tiles → ℕ → List (List ℕ)
gives_after g line last tiles h = gives_cell g line last h tiles (cell_at line h)

unfoldable pub gives_anchor : (List ℕ → Bool) → List Cell → Tiles → ℕ → List (List ℕ)
gives_anchor g line tiles h = gives_cell g line h h tiles (cell_at line h)

abbrev pub after_moves : (List ℕ → Bool) → List Cell → ℕ → List ℕ → ℕ → List (List ℕ)
after_moves g line last rack h = gives_after g line last (none_put rack) h

-- the moves of a line whose first covered anchor is a place
abbrev pub anchor_moves : (List ℕ → Bool) → List Cell → List ℕ → ℕ → List (List ℕ)
anchor_moves g line rack h = gives_anchor g line (none_put rack) h

-- ---- sinks

abbrev pub add_all : {I X : Type 0} → (I → X → I) → I → List X → I
add_all add items [] = items
add_all add items (x ∷ xs) = add_all add (add items x) xs

pub record Front {I X : Type 0} (add : I → X → I) (old : I) (xs : List X) (new : I) : Type 0 where
  pub front : List X
  pub rest : List X
  pub parts : xs ≡ front ++ rest
  pub items : new ≡ add_all add old front

-- all were added, or, if the sink refused, a front of them
abbrev pub Took : {I X U E : Type 0} → (I → X → I) → I → List X → I → Result U E → Type 0
Took add old xs new (Ok u) = new ≡ add_all add old xs
Took add old xs new (Err e) = Front add old xs new

-- each of some things passes a test
abbrev pub Every : {X : Type 0} → (X → Type 0) → List X → Type 0
Every P [] = Unit {0}
Every P (x ∷ xs) = P x × Every P xs

-- A sink may be given some moves: it can take each of them, by what it was made for.
abbrev pub MayGive : {P S X : Type 0} → (P → X → Type 0) → (S → P) → S → List X → Type 0
MayGive can_take made_for sink moves = Every (can_take (made_for sink)) moves

-- A sink was given some moves, or, if it refused, a front of them: it has what it had before, plus what each of them adds.
abbrev pub Gave : {P I S X U E : Type 0} → (P → I → X → I) → (S → P) → (S → I) → S → List X → S → Result U E → Type 0
Gave report made_for items old moves new result = Took (report (made_for old)) (items old) moves (items new) result
