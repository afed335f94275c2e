-- The walks from the anchors of an empty line give its moves.
use Rattle.std.proofs.Common.{◌≡◌, ℕ, zero, suc, ◌+◌, ◌<◌, ◌&&◌, Bool, true, false, List, [], ◌∷◌, ◌++◌, length, map, drop, replicate, if◌then◌else◌, refl, sym, ap, ◌∙◌, subst, length-append, arith}
use Rattle.std.proofs.lemmas.List.{length-drop}
use Rattle.gen_line.specs.declared.cells.Cell.{Cell}
use Rattle.gen_line.specs.declared.cells.Cell.TheVariants.{Old, Free}
use Rattle.gen_line.specs.declared.cells.Open.{Open}
use Rattle.gen_line.specs.declared.tiles.Tiles.{Tiles}
use Rattle.gen_line.specs.Entries.{label_of_entry}
use Rattle.gen_line.specs.Cells.{cell_at}
use Rattle.gen_line.specs.Model.{join_range, zeros, after, longer, may, less, one_try, tries, leaf, right, starts_free, turn, left, left_of, rest_of_anchor, cell_moves, unwalk, line_moves}
use Rattle.gen_line.specs.Walk.{finish_left, gives_one_left, gives_tries_left, gives_cell, gives_anchor, gives_after, none_put, Every}
use Rattle.gen_line.proofs.Walks.{map-join, join-same}
use Rattle.gen_line.proofs.LeftWalks.{length-left_of}
use Rattle.gen_line.proofs.Anchoring.{walk_written}

-- ---- the length of what is given

every-append : {X : Type 0} (P : X → Type 0) (xs ys : List X) → Every P xs → Every P ys → Every P (xs ++ ys)
every-append P [] ys h k = k
every-append P (x ∷ xs) ys h k = (h.0, every-append P xs ys h.1 k)

every-map : {X Y : Type 0} (P : X → Type 0) (Q : Y → Type 0) (f : X → Y) (xs : List X) → ((x : X) → P x → Q (f x)) → Every P xs → Every Q (map f xs)
every-map P Q f [] so h = tt
every-map P Q f (x ∷ xs) so h = (so x h.0, every-map P Q f xs so h.1)

every-joined : {X : Type 0} (P : X → Type 0) (f : ℕ → List X) (from n : ℕ) → ((i : ℕ) → Every P (f i)) → Every P (join_range f from n)
every-joined P f from zero h = tt
every-joined P f from (suc n) h = every-append P (join_range f from n) (f (from + n)) (every-joined P f from n h) (h (from + n))

-- each has this number of entries
abbrev Sized : ℕ → List (List ℕ) → Type 0
Sized n xs = Every (λ os. length os ≡ n) xs

longer-sized : (e n : ℕ) (xs : List (List ℕ)) → Sized n xs → Sized (suc n) (map (λ os. e ∷ os) xs)
longer-sized e n xs h = every-map (λ os. length os ≡ n) (λ os. length os ≡ suc n) (λ os. e ∷ os) xs (λ os same. ap suc same) h

zeros-sized : (n : ℕ) → length (zeros n) ≡ n
zeros-sized zero = refl
zeros-sized (suc n) = ap suc (zeros-sized n)

leaf-sized : (ok : Bool) (n : ℕ) → Sized n (leaf ok n)
leaf-sized true n = (zeros-sized n, tt)
leaf-sized false n = tt

tries-sized : (m : Open) (rack : List ℕ) (f : ℕ → List (List ℕ)) (n : ℕ) → ((e : ℕ) → Sized n (f e)) → Sized (suc n) (tries m rack f)
unfolding tries
tries-sized m rack f n h =
    every-joined (λ os. length os ≡ suc n) (one_try m rack f) 1 52
    (λ e. elim (may m rack e) as (λ b. Sized (suc n) (if b then map (λ os. e ∷ os) (f e) else [])) [ true ↦ longer-sized e n (f e) (h e) | false ↦ tt ])

right-sized : (g : List ℕ → Bool) (cs : List Cell) (rack : List ℕ) → Sized (length cs) (right g cs rack)
unfolding right
right-sized g [] rack = leaf-sized (g []) 0
right-sized g (Old a ∷ cs) rack = longer-sized 0 (length cs) (right (after g a) cs rack) (right-sized (after g a) cs rack)
right-sized g (Free m ∷ cs) rack =
    let tried : ℕ → List (List ℕ) = λ e. right (after g (label_of_entry e)) cs (less rack e) in
    every-append (λ os. length os ≡ suc (length cs)) (leaf (g []) (suc (length cs))) (tries m rack tried)
    (leaf-sized (g []) (suc (length cs)))
    (tries-sized m rack tried (length cs) (λ e. right-sized (after g (label_of_entry e)) cs (less rack e)))

turn-sized : (g : List ℕ → Bool) (cs : List Cell) (rack : List ℕ) → Sized (length cs) (turn g cs rack)
unfolding turn
turn-sized g cs rack =
    every-append (λ os. length os ≡ length cs) (leaf (starts_free cs && g []) (length cs)) (right (longer (after g 0)) cs rack)
    (leaf-sized (starts_free cs && g []) (length cs)) (right-sized (longer (after g 0)) cs rack)

left-sized : (g : List ℕ → Bool) (ls cs : List Cell) (rack : List ℕ) → Sized (length ls + length cs) (left g ls cs rack)
unfolding left
left-sized g [] cs rack = let same : 0 + length cs ≡ length cs = omega arith in subst (λ n. Sized n (turn g cs rack)) (sym same) (turn-sized g cs rack)
left-sized g (Old a ∷ ls) cs rack =
    let same : suc (length ls + length cs) ≡ suc (length ls) + length cs = omega arith in
    subst (λ n. Sized n (map (λ os. 0 ∷ os) (left (after g a) ls cs rack))) same
    (longer-sized 0 (length ls + length cs) (left (after g a) ls cs rack) (left-sized (after g a) ls cs rack))
left-sized g (Free m ∷ ls) cs rack =
    let n : ℕ = suc (length ls) + length cs in
    let same : suc (length ls + length cs) ≡ suc (length ls) + length cs = omega arith in
    let tried : ℕ → List (List ℕ) = λ e. left (after g (label_of_entry e)) ls cs (less rack e) in
    let turned : Sized n (map (λ os. zeros (suc (length ls)) ++ os) (turn g cs rack)) =
    every-map (λ os. length os ≡ length cs) (λ os. length os ≡ n) (λ os. zeros (suc (length ls)) ++ os) (turn g cs rack)
    (λ os h. length-append (zeros (suc (length ls))) os ∙ ap (λ k. k + length os) (zeros-sized (suc (length ls))) ∙ ap (λ k. suc (length ls) + k) h)
    (turn-sized g cs rack) in
    let further : Sized n (tries m rack tried) = subst (λ k. Sized k (tries m rack tried)) same
    (tries-sized m rack tried (length ls + length cs) (λ e. left-sized (after g (label_of_entry e)) ls cs (less rack e))) in
    every-append (λ os. length os ≡ n) (map (λ os. zeros (suc (length ls)) ++ os) (turn g cs rack)) (if m.anchor then [] else tries m rack tried)
    turned (elim m.anchor as (λ b. Sized n (if b then [] else tries m rack tried)) [ true ↦ tt | false ↦ further ])

-- ---- what is written

map-alike : {X Y : Type 0} (P : X → Type 0) (f k : X → Y) (xs : List X) → Every P xs → ((x : X) → P x → f x ≡ k x) → map f xs ≡ map k xs
map-alike P f k [] h same = refl
map-alike P f k (x ∷ xs) h same = rw (same x h.0, map-alike P f k xs h.1 same) refl

anchor_given : (g : List ℕ → Bool) (line : List Cell) (rack : List ℕ) (h : ℕ) (m : Open) → length line ≡ 15 → h < 15
    → gives_tries_left g line h h m (none_put rack) ≡ map (unwalk h) (tries m rack (rest_of_anchor g line h rack))
unfolding gives_tries_left gives_one_left tries
anchor_given g line rack h m size inside =
    let cs : List Cell = drop (h + 1) line in
    let ls : List Cell = left_of line h in
    let long : suc (length ls + length cs) ≡ 15 = omega (arith, length-left_of line h, length-drop (h + 1) line) in
    let sized : Sized 15 (tries m rack (rest_of_anchor g line h rack)) = subst (λ n. Sized n (tries m rack (rest_of_anchor g line h rack))) long
    (tries-sized m rack (rest_of_anchor g line h rack) (length ls + length cs) (λ e. left-sized (after g (label_of_entry e)) ls cs (less rack e))) in
    sym (map-join (finish_left h (suc h) (zeros 15)) (one_try m rack (rest_of_anchor g line h rack)) 1 52)
    ∙ map-alike (λ os. length os ≡ 15) (finish_left h (suc h) (zeros 15)) (unwalk h) (tries m rack (rest_of_anchor g line h rack)) sized
    (λ x long. walk_written h x inside long)

pub cell_given : (g : List ℕ → Bool) (line : List Cell) (rack : List ℕ) (h : ℕ) (c : Cell) → length line ≡ 15 → h < 15
    → gives_cell g line h h (none_put rack) c ≡ map (unwalk h) (cell_moves g line h rack c)
cell_given g line rack h (Old a) size inside = refl
cell_given g line rack h (Free m) size inside =
    elim m.anchor as (λ b. (if b then gives_tries_left g line h h m (none_put rack) else []) ≡ map (unwalk h) (if b then tries m rack (rest_of_anchor g line h rack) else []))
    [ true ↦ anchor_given g line rack h m size inside | false ↦ refl ]

pub all_given : (g : List ℕ → Bool) (line : List Cell) (rack : List ℕ) → length line ≡ 15 → join_range (gives_anchor g line (record { fresh = replicate 15 0; rack = rack })) 0 15 ≡ line_moves g line rack
unfolding gives_anchor line_moves
all_given g line rack size =
    join-same (gives_anchor g line (none_put rack)) (λ h. map (unwalk h) (cell_moves g line h rack (cell_at line h))) 0 15
    (λ h low high. cell_given g line rack h (cell_at line h) size (omega arith))

-- ---- what one place gives, by its cell

pub anchor_old : (g : List ℕ → Bool) (line : List Cell) (tiles : Tiles) (h a : ℕ) → cell_at line h ≡ Old a → gives_anchor g line tiles h ≡ []
unfolding gives_anchor
anchor_old g line tiles h a e = ap (gives_cell g line h h tiles) e

pub anchor_not : (g : List ℕ → Bool) (line : List Cell) (tiles : Tiles) (h : ℕ) (m : Open) → cell_at line h ≡ Free m → m.anchor ≡ false → gives_anchor g line tiles h ≡ []
unfolding gives_anchor
anchor_not g line tiles h m e not =
    ap (gives_cell g line h h tiles) e ∙ ap (λ b. if b then gives_tries_left g line h h m tiles else []) not

pub after_old : (g : List ℕ → Bool) (line : List Cell) (last : ℕ) (tiles : Tiles) (h a : ℕ) → cell_at line h ≡ Old a → gives_after g line last tiles h ≡ []
unfolding gives_after
after_old g line last tiles h a e = ap (gives_cell g line last h tiles) e

pub after_not : (g : List ℕ → Bool) (line : List Cell) (last : ℕ) (tiles : Tiles) (h : ℕ) (m : Open) → cell_at line h ≡ Free m → m.anchor ≡ false → gives_after g line last tiles h ≡ []
unfolding gives_after
after_not g line last tiles h m e not =
    ap (gives_cell g line last h tiles) e ∙ ap (λ b. if b then gives_tries_left g line last h m tiles else []) not

pub after_is : (g : List ℕ → Bool) (line : List Cell) (last : ℕ) (tiles : Tiles) (h : ℕ) (m : Open) → cell_at line h ≡ Free m → m.anchor ≡ true → gives_after g line last tiles h ≡ gives_tries_left g line last h m tiles
unfolding gives_after
after_is g line last tiles h m e anchor =
    ap (gives_cell g line last h tiles) e ∙ ap (λ b. if b then gives_tries_left g line last h m tiles else []) anchor
