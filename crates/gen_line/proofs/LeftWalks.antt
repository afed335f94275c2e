-- What the walk to the left gives, cell by cell, and the turn to the right after the mark.
use Rattle.std.proofs.Common.{◌≡◌, ℕ, zero, suc, ◌+◌, ◌-◌, ◌<◌, ◌&&◌, Bool, true, false, List, [], ◌∷◌, ◌++◌, length, map, drop, slice_set, if◌then◌else◌, refl, sym, ap, ◌∙◌, subst, append-nil, arith}
use Rattle.std.proofs.lemmas.List.{map-append}
use Rattle.lex_file.specs.declared.lexicons.Step.{Step}
use Rattle.gen_line.specs.declared.cells.Cell.{Cell}
use Rattle.gen_line.specs.declared.cells.Cell.TheVariants.{Old, Free}
use Rattle.gen_line.specs.declared.cells.Open.{Open}
use Rattle.gen_line.specs.declared.tiles.Tiles.{Tiles}
use Rattle.gen_line.specs.Entries.{label_of_entry}
use Rattle.gen_line.specs.Cells.{cell_at}
use Rattle.gen_line.specs.Model.{join_range, zeros, after, longer, may, less, one_try, tries, starts_free, leaf, right, turn, left, left_of}
use Rattle.lex_file.specs.Walking.{next_strings, strings}
use Rattle.gen_line.specs.Walk.{finish_right, finish_left, gives_right, gives_leaf, gives_turn, gives_left, one_left_of, gives_one_left, gives_tries_left, with_tile}
use Rattle.gen_line.proofs.Walks.{map-join, join-none, join-same, one_try-none, one_try-same, tries-none, tries-same, leaf-none, right-never, right-alike, right-same, leaf-lines, map-same, put-some}

-- ---- the turn

both_false : (a b : Bool) → b ≡ false → (a && b) ≡ false
both_false true b e = e
both_false false b e = refl

longer-never : (f : List ℕ → Bool) → ((t : List ℕ) → f t ≡ false) → (t : List ℕ) → longer f t ≡ false
longer-never f h [] = refl
longer-never f h (b ∷ t) = h (b ∷ t)

longer-alike : (f k : List ℕ → Bool) → ((t : List ℕ) → f t ≡ k t) → (t : List ℕ) → longer f t ≡ longer k t
longer-alike f k h [] = refl
longer-alike f k h (b ∷ t) = h (b ∷ t)

turn-never : (g : List ℕ → Bool) (cs : List Cell) (rack : List ℕ) → ((t : List ℕ) → g t ≡ false) → turn g cs rack ≡ []
unfolding turn
turn-never g cs rack none =
    rw (leaf-none (starts_free cs && g []) (length cs) (both_false (starts_free cs) (g []) (none [])))
    (right-never (longer (after g 0)) cs rack (longer-never (after g 0) (λ t. none (0 ∷ t))))

turn-alike : (g f : List ℕ → Bool) (cs : List Cell) (rack : List ℕ) → ((t : List ℕ) → g t ≡ f t) → turn g cs rack ≡ turn f cs rack
unfolding turn
turn-alike g f cs rack same =
    ap (λ b. leaf (starts_free cs && b) (length cs) ++ right (longer (after g 0)) cs rack) (same [])
    ∙ ap (λ xs. leaf (starts_free cs && f []) (length cs) ++ xs)
    (right-alike (longer (after g 0)) (longer (after f 0)) cs rack (longer-alike (after g 0) (after f 0) (λ t. same (0 ∷ t))))

pub turn-parts : (g : List ℕ → Bool) (line : List Cell) (h : ℕ) (tiles : Tiles) (ends : Bool) → ends ≡ (starts_free (drop (h + 1) line) && g []) → gives_turn g line h tiles ≡ gives_leaf ends tiles.fresh ++ gives_right (longer (after g 0)) line (h + 1) tiles
unfolding turn
turn-parts g line h tiles ends e =
    let cs : List Cell = drop (h + 1) line in
    map-append (finish_right (h + 1) tiles.fresh) (leaf (starts_free cs && g []) (length cs)) (right (longer (after g 0)) cs tiles.rack)
    ∙ ap (λ xs. xs ++ gives_right (longer (after g 0)) line (h + 1) tiles) (leaf-lines (starts_free cs && g []) (length cs) (h + 1) tiles.fresh)
    ∙ ap (λ b. gives_leaf b tiles.fresh ++ gives_right (longer (after g 0)) line (h + 1) tiles) (sym e)

-- after the mark, without the empty string
over_mark : {N : Type 0} (tail : N → List ℕ → Bool) (g : List ℕ → Bool) (s on : Step N) → on.accepts ≡ false → on.next ≡ s.next → ((t : List ℕ) → after g 0 t ≡ strings tail s t) → (t : List ℕ) → longer (after g 0) t ≡ strings tail on t
over_mark tail g s on none next same [] = sym none
over_mark tail g s on none next same (b ∷ t) = same (b ∷ t) ∙ ap (λ n. next_strings tail n (b ∷ t)) (sym next)

pub turn-goes : {N : Type 0} (tail : N → List ℕ → Bool) (g : List ℕ → Bool) (s on : Step N) (line : List Cell) (h : ℕ) (tiles : Tiles) (ends : Bool) → on.accepts ≡ false → on.next ≡ s.next → ((t : List ℕ) → after g 0 t ≡ strings tail s t)
    → ends ≡ (starts_free (drop (h + 1) line) && g []) → gives_turn g line h tiles ≡ gives_leaf ends tiles.fresh ++ gives_right (strings tail on) line (h + 1) tiles
turn-goes tail g s on line h tiles ends none next same e =
    turn-parts g line h tiles ends e
    ∙ ap (λ xs. gives_leaf ends tiles.fresh ++ xs)
    (right-same (longer (after g 0)) (strings tail on) line (h + 1) tiles (over_mark tail g s on none next same))

append-none : {A : Type 0} (xs ys : List A) → ys ≡ [] → xs ++ ys ≡ xs
append-none xs ys e = ap (λ zs. xs ++ zs) e ∙ append-nil xs

pub turn-dead : (g : List ℕ → Bool) (line : List Cell) (h : ℕ) (tiles : Tiles) (ends : Bool) → ((t : List ℕ) → after g 0 t ≡ false) → ends ≡ (starts_free (drop (h + 1) line) && g []) → gives_turn g line h tiles ≡ gives_leaf ends tiles.fresh
turn-dead g line h tiles ends none e =
    turn-parts g line h tiles ends e
    ∙ append-none (gives_leaf ends tiles.fresh) (gives_right (longer (after g 0)) line (h + 1) tiles)
    (ap (map (finish_right (h + 1) tiles.fresh)) (right-never (longer (after g 0)) (drop (h + 1) line) tiles.rack (longer-never (after g 0) none)))

-- ---- to the left

left-never : (g : List ℕ → Bool) (ls cs : List Cell) (rack : List ℕ) → ((t : List ℕ) → g t ≡ false) → left g ls cs rack ≡ []
unfolding left
left-never g [] cs rack none = turn-never g cs rack none
left-never g (Old a ∷ ls) cs rack none = ap (map (λ os. 0 ∷ os)) (left-never (after g a) ls cs rack (λ t. none (a ∷ t)))
left-never g (Free m ∷ ls) cs rack none =
    let tried : List (List ℕ) = tries m rack (λ e. left (after g (label_of_entry e)) ls cs (less rack e)) in
    let untried : tried ≡ [] = tries-none m rack (λ e. left (after g (label_of_entry e)) ls cs (less rack e)) (λ e. left-never (after g (label_of_entry e)) ls cs (less rack e) (λ t. none (label_of_entry e ∷ t))) in
    let stopped : (b : Bool) → (if b then [] else tried) ≡ [] = elim [ true ↦ refl | false ↦ untried ] in
    ap (λ xs. map (λ os. zeros (suc (length ls)) ++ os) xs ++ (if m.anchor then [] else tried)) (turn-never g cs rack none) ∙ stopped m.anchor

left-alike : (g f : List ℕ → Bool) (ls cs : List Cell) (rack : List ℕ) → ((t : List ℕ) → g t ≡ f t) → left g ls cs rack ≡ left f ls cs rack
unfolding left
left-alike g f [] cs rack same = turn-alike g f cs rack same
left-alike g f (Old a ∷ ls) cs rack same = ap (map (λ os. 0 ∷ os)) (left-alike (after g a) (after f a) ls cs rack (λ t. same (a ∷ t)))
left-alike g f (Free m ∷ ls) cs rack same =
    ap (λ xs. map (λ os. zeros (suc (length ls)) ++ os) xs ++ (if m.anchor then [] else tries m rack (λ e. left (after g (label_of_entry e)) ls cs (less rack e)))) (turn-alike g f cs rack same)
    ∙ ap (λ xs. map (λ os. zeros (suc (length ls)) ++ os) (turn f cs rack) ++ (if m.anchor then [] else xs))
    (tries-same m rack (λ e. left (after g (label_of_entry e)) ls cs (less rack e)) (λ e. left (after f (label_of_entry e)) ls cs (less rack e))
    (λ e. left-alike (after g (label_of_entry e)) (after f (label_of_entry e)) ls cs (less rack e) (λ t. same (label_of_entry e ∷ t))))

left-same : (g f : List ℕ → Bool) (line : List Cell) (h k : ℕ) (tiles : Tiles) → ((t : List ℕ) → g t ≡ f t) → gives_left g line h k tiles ≡ gives_left f line h k tiles
left-same g f line h k tiles same = ap (map (finish_left h k tiles.fresh)) (left-alike g f (left_of line k) (drop (h + 1) line) tiles.rack same)

pub length-left_of : (line : List Cell) (k : ℕ) → length (left_of line k) ≡ k
unfolding left_of
length-left_of line zero = refl
length-left_of line (suc k) = ap suc (length-left_of line k)

-- places that are left free
finish_left-zeros : (h k : ℕ) (fresh os : List ℕ) → finish_left h k fresh (zeros k ++ os) ≡ finish_right (h + 1) fresh os
unfolding finish_left
finish_left-zeros h zero fresh os = refl
finish_left-zeros h (suc k) fresh os = finish_left-zeros h k fresh os

pub gives_left-none : (g : List ℕ → Bool) (line : List Cell) (h places : ℕ) (tiles : Tiles) → places ≡ 0 → gives_left g line h places tiles ≡ gives_turn g line h tiles
unfolding left left_of finish_left
gives_left-none g line h places tiles e = ap (λ k. gives_left g line h k tiles) e

pub left-old : (g : List ℕ → Bool) (line : List Cell) (h k a : ℕ) (tiles : Tiles) → cell_at line k ≡ Old a → gives_left g line h (suc k) tiles ≡ gives_left (after g a) line h k tiles
unfolding left left_of finish_left
left-old g line h k a tiles e =
    ap (λ c. map (finish_left h (suc k) tiles.fresh) (left g (c ∷ left_of line k) (drop (h + 1) line) tiles.rack)) e
    ∙ map-same (finish_left h (suc k) tiles.fresh) (λ os. 0 ∷ os) (finish_left h k tiles.fresh) (left (after g a) (left_of line k) (drop (h + 1) line) tiles.rack) (λ os. refl)

pub left-free : (g : List ℕ → Bool) (line : List Cell) (h k : ℕ) (m : Open) (tiles : Tiles) → cell_at line k ≡ Free m → gives_left g line h (suc k) tiles ≡ gives_turn g line h tiles ++ (if m.anchor then [] else gives_tries_left g line h k m tiles)
unfolding left left_of gives_tries_left gives_one_left tries finish_left
left-free g line h k m tiles e =
    let cs : List Cell = drop (h + 1) line in
    let ls : List Cell = left_of line k in
    let tried : List (List ℕ) = join_range (one_try m tiles.rack (one_left_of g line h k tiles.rack)) 1 52 in
    let written : List ℕ → List ℕ = finish_left h (suc k) tiles.fresh in
    let turned : map written (map (λ os. zeros (suc (length ls)) ++ os) (turn g cs tiles.rack)) ≡ gives_turn g line h tiles =
    map-same written (λ os. zeros (suc (length ls)) ++ os) (finish_right (h + 1) tiles.fresh) (turn g cs tiles.rack)
    (λ os. ap (λ n. finish_left h k tiles.fresh (zeros n ++ os)) (length-left_of line k) ∙ finish_left-zeros h k tiles.fresh os) in
    let chosen : (b : Bool) → map written (if b then [] else tried) ≡ (if b then [] else gives_tries_left g line h k m tiles) =
    elim [ true ↦ refl | false ↦ map-join written (one_try m tiles.rack (one_left_of g line h k tiles.rack)) 1 52 ] in
    ap (λ c. map written (left g (c ∷ ls) cs tiles.rack)) e
    ∙ map-append written (map (λ os. zeros (suc (length ls)) ++ os) (turn g cs tiles.rack)) (if m.anchor then [] else tried)
    ∙ ap (λ xs. xs ++ map written (if m.anchor then [] else tried)) turned
    ∙ ap (λ xs. gives_turn g line h tiles ++ xs) (chosen m.anchor)

pub left-old-goes : (g f : List ℕ → Bool) (line : List Cell) (h places a : ℕ) (tiles : Tiles) → 0 < places → cell_at line (places - 1) ≡ Old a → ((t : List ℕ) → after g a t ≡ f t) → gives_left g line h places tiles ≡ gives_left f line h (places - 1) tiles
left-old-goes g f line h places a tiles some e same =
    let at : places ≡ suc (places - 1) = omega arith in
    ap (λ n. gives_left g line h n tiles) at ∙ left-old g line h (places - 1) a tiles e
    ∙ left-same (after g a) f line h (places - 1) tiles same

pub left-old-dead : (g : List ℕ → Bool) (line : List Cell) (h places a : ℕ) (tiles : Tiles) → 0 < places → cell_at line (places - 1) ≡ Old a → ((t : List ℕ) → after g a t ≡ false) → gives_left g line h places tiles ≡ []
left-old-dead g line h places a tiles some e none =
    let at : places ≡ suc (places - 1) = omega arith in
    ap (λ n. gives_left g line h n tiles) at ∙ left-old g line h (places - 1) a tiles e
    ∙ ap (map (finish_left h (places - 1) tiles.fresh)) (left-never (after g a) (left_of line (places - 1)) (drop (h + 1) line) tiles.rack none)

pub gives_left-free : (g : List ℕ → Bool) (line : List Cell) (h places : ℕ) (m : Open) (tiles : Tiles) → 0 < places → cell_at line (places - 1) ≡ Free m → gives_left g line h places tiles ≡ gives_turn g line h tiles ++ (if m.anchor then [] else gives_tries_left g line h (places - 1) m tiles)
gives_left-free g line h places m tiles some e =
    let at : places ≡ suc (places - 1) = omega arith in
    ap (λ n. gives_left g line h n tiles) at ∙ left-free g line h (places - 1) m tiles e

pub gives_left-stop : (g : List ℕ → Bool) (line : List Cell) (h places : ℕ) (m : Open) (tiles : Tiles) → 0 < places → cell_at line (places - 1) ≡ Free m → m.anchor ≡ true → gives_left g line h places tiles ≡ gives_turn g line h tiles
gives_left-stop g line h places m tiles some e stops =
    gives_left-free g line h places m tiles some e
    ∙ append-none (gives_turn g line h tiles) (if m.anchor then [] else gives_tries_left g line h (places - 1) m tiles)
    (ap (λ b. if b then [] else gives_tries_left g line h (places - 1) m tiles) stops)

pub gives_left-go : (g : List ℕ → Bool) (line : List Cell) (h places : ℕ) (m : Open) (tiles : Tiles) → 0 < places → cell_at line (places - 1) ≡ Free m → m.anchor ≡ false → gives_left g line h places tiles ≡ gives_turn g line h tiles ++ gives_tries_left g line h (places - 1) m tiles
gives_left-go g line h places m tiles some e goes =
    gives_left-free g line h places m tiles some e
    ∙ ap (λ b. gives_turn g line h tiles ++ (if b then [] else gives_tries_left g line h (places - 1) m tiles)) goes

-- ---- one entry

pub gives_one_left-no : (g : List ℕ → Bool) (line : List Cell) (h k : ℕ) (m : Open) (tiles : Tiles) (e : ℕ) → may m tiles.rack e ≡ false → gives_one_left g line h k m tiles e ≡ []
unfolding gives_one_left
gives_one_left-no g line h k m tiles e refused =
    ap (λ b. map (finish_left h (suc k) tiles.fresh) (if b then map (λ os. e ∷ os) (one_left_of g line h k tiles.rack e) else [])) refused

pub one_left-dead : (g : List ℕ → Bool) (line : List Cell) (h k : ℕ) (m : Open) (tiles : Tiles) (e label : ℕ) → label ≡ label_of_entry e → ((t : List ℕ) → after g label t ≡ false) → gives_one_left g line h k m tiles e ≡ []
unfolding gives_one_left
one_left-dead g line h k m tiles e label same none =
    ap (map (finish_left h (suc k) tiles.fresh))
    (one_try-none m tiles.rack (one_left_of g line h k tiles.rack) e
    (left-never (after g (label_of_entry e)) (left_of line k) (drop (h + 1) line) (less tiles.rack e) (subst (λ l. (t : List ℕ) → after g l t ≡ false) same none)))

pub one_left-goes : (g f : List ℕ → Bool) (line : List Cell) (h k : ℕ) (m : Open) (tiles : Tiles) (e label : ℕ) → 0 < e → may m tiles.rack e ≡ true → label ≡ label_of_entry e
    → ((t : List ℕ) → after g label t ≡ f t) → gives_one_left g line h k m tiles e ≡ gives_left f line h k (with_tile tiles k e)
unfolding gives_one_left finish_left
one_left-goes g f line h k m tiles e label some allowed same goes =
    ap (λ b. map (finish_left h (suc k) tiles.fresh) (if b then map (λ os. e ∷ os) (one_left_of g line h k tiles.rack e) else [])) allowed
    ∙ map-same (finish_left h (suc k) tiles.fresh) (λ os. e ∷ os) (finish_left h k (slice_set tiles.fresh k e)) (one_left_of g line h k tiles.rack e)
    (λ os. ap (λ y. finish_left h k y os) (put-some tiles.fresh k e some))
    ∙ left-same (after g (label_of_entry e)) f line h k (with_tile tiles k e) (subst (λ l. (t : List ℕ) → after g l t ≡ f t) same goes)

-- the entries, one after another
pub tries_left-is : (g : List ℕ → Bool) (line : List Cell) (h k : ℕ) (m : Open) (tiles : Tiles) → gives_tries_left g line h k m tiles ≡ join_range (gives_one_left g line h k m tiles) 1 52
unfolding gives_tries_left
tries_left-is g line h k m tiles = refl

-- no string continues: no entry is tried
pub tries_left-dead : (g : List ℕ → Bool) (line : List Cell) (h k : ℕ) (m : Open) (tiles : Tiles) → ((a : ℕ) (t : List ℕ) → after g a t ≡ false) → gives_tries_left g line h k m tiles ≡ []
unfolding gives_tries_left
tries_left-dead g line h k m tiles none =
    join-none (gives_one_left g line h k m tiles) 1 52 (λ e. one_left-dead g line h k m tiles e (label_of_entry e) refl (none (label_of_entry e)))

-- tests that agree on the strings that are not empty are tried alike
pub tries_left-same : (g f : List ℕ → Bool) (line : List Cell) (h k : ℕ) (m : Open) (tiles : Tiles) → ((a : ℕ) (t : List ℕ) → after g a t ≡ after f a t) → gives_tries_left g line h k m tiles ≡ gives_tries_left f line h k m tiles
unfolding gives_tries_left gives_one_left
tries_left-same g f line h k m tiles same =
    join-same (gives_one_left g line h k m tiles) (gives_one_left f line h k m tiles) 1 52
    (λ e low high. ap (map (finish_left h (suc k) tiles.fresh))
    (one_try-same m tiles.rack (one_left_of g line h k tiles.rack) (one_left_of f line h k tiles.rack) e
    (left-alike (after g (label_of_entry e)) (after f (label_of_entry e)) (left_of line k) (drop (h + 1) line) (less tiles.rack e) (same (label_of_entry e)))))
