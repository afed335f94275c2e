-- What the walk gives, cell by cell.
use Rattle.std.proofs.Common.{◌&&◌, ◌||◌, ◌≡◌, ℕ, zero, suc, ◌+◌, ◌-◌, ◌*◌, ◌<◌, ◌≤◌, Bool, true, false, List, [], ◌∷◌, ◌++◌, length, map, drop, get_or, slice_set, nat_lt, Option, Some, None, is_some, if◌then◌else◌, refl, sym, ap, ◌∙◌, subst, arith, add-one}
use borrow.Author.Tests.{lt-ltb, le-ltb}
use Rattle.std.proofs.lemmas.List.{map-append, drop_all}
use Rattle.std.proofs.lemmas.Bool.{ne_eqb, true≢false, and_parts, ltb-true}
use Rattle.std.proofs.Math.Seq.{drop-cons}
use Rattle.lex_file.specs.declared.lexicons.Step.{Step}
use Rattle.gen_line.specs.declared.cells.Cell.{Cell}
use Rattle.gen_line.specs.declared.cells.Cell.TheVariants.{Old, Free}
use Rattle.gen_line.specs.declared.cells.Open.{Open}
use Rattle.gen_line.specs.declared.tiles.Tiles.{Tiles}
use Rattle.gen_line.specs.Entries.{letter_of_entry, label_of_entry, kind_of_entry, is_blank_entry}
use Rattle.gen_line.specs.Cells.{cell_at}
use Rattle.gen_line.specs.Model.{join_range, zeros, after, may, shows, less, one_try, tries, leaf, right}
use Rattle.lex_file.specs.Walking.{next_strings, strings}
use Rattle.gen_line.specs.Walk.{put, finish_right, gives_right, one_right_of, gives_one_right, gives_tries_right, gives_leaf, with_tile}

-- ---- joins

pub map-join : {A B : Type 0} (f : A → B) (h : ℕ → List A) (from n : ℕ) → map f (join_range h from n) ≡ join_range (λ i. map f (h i)) from n
map-join f h from zero = refl
map-join f h from (suc n) = map-append f (join_range h from n) (h (from + n)) ∙ ap (λ xs. xs ++ map f (h (from + n))) (map-join f h from n)

pub join-none : {A : Type 0} (h : ℕ → List A) (from n : ℕ) → ((i : ℕ) → h i ≡ []) → join_range h from n ≡ []
join-none h from zero none = refl
join-none h from (suc n) none = rw (join-none h from n none, none (from + n)) refl

pub join-same : {A : Type 0} (h k : ℕ → List A) (from n : ℕ) → ((i : ℕ) → from ≤ i → i < from + n → h i ≡ k i) → join_range h from n ≡ join_range k from n
join-same h k from zero same = refl
join-same h k from (suc n) same =
    let fewer : join_range h from n ≡ join_range k from n = join-same h k from n (λ i low high. same i low (omega arith)) in
    let last : h (from + n) ≡ k (from + n) = same (from + n) (omega arith) (omega arith) in
    rw (fewer, last) refl

-- ---- no string, no entries

pub one_try-none : (m : Open) (rack : List ℕ) (f : ℕ → List (List ℕ)) (e : ℕ) → f e ≡ [] → one_try m rack f e ≡ []
one_try-none m rack f e none = elim (may m rack e) as (λ b. (if b then map (λ os. e ∷ os) (f e) else []) ≡ []) [ true ↦ ap (map (λ os. e ∷ os)) none | false ↦ refl ]

pub one_try-same : (m : Open) (rack : List ℕ) (f k : ℕ → List (List ℕ)) (e : ℕ) → f e ≡ k e → one_try m rack f e ≡ one_try m rack k e
one_try-same m rack f k e same = ap (λ xs. if may m rack e then map (λ os. e ∷ os) xs else []) same

pub tries-none : (m : Open) (rack : List ℕ) (f : ℕ → List (List ℕ)) → ((e : ℕ) → f e ≡ []) → tries m rack f ≡ []
unfolding tries
tries-none m rack f none = join-none (one_try m rack f) 1 52 (λ e. one_try-none m rack f e (none e))

pub tries-same : (m : Open) (rack : List ℕ) (f k : ℕ → List (List ℕ)) → ((e : ℕ) → f e ≡ k e) → tries m rack f ≡ tries m rack k
unfolding tries
tries-same m rack f k same = join-same (one_try m rack f) (one_try m rack k) 1 52 (λ e low high. one_try-same m rack f k e (same e))

pub leaf-none : (ok : Bool) (n : ℕ) → ok ≡ false → leaf ok n ≡ []
leaf-none ok n e = ap (λ b. leaf b n) e

pub right-never : (g : List ℕ → Bool) (cs : List Cell) (rack : List ℕ) → ((t : List ℕ) → g t ≡ false) → right g cs rack ≡ []
unfolding right
right-never g [] rack none = leaf-none (g []) 0 (none [])
right-never g (Old a ∷ cs) rack none = ap (map (λ os. 0 ∷ os)) (right-never (after g a) cs rack (λ t. none (a ∷ t)))
right-never g (Free m ∷ cs) rack none =
    rw (leaf-none (g []) (suc (length cs)) (none []))
    (tries-none m rack (λ e. right (after g (label_of_entry e)) cs (less rack e)) (λ e. right-never (after g (label_of_entry e)) cs (less rack e) (λ t. none (label_of_entry e ∷ t))))

-- ---- tests of strings that agree are the same

pub right-alike : (g h : List ℕ → Bool) (cs : List Cell) (rack : List ℕ) → ((t : List ℕ) → g t ≡ h t) → right g cs rack ≡ right h cs rack
unfolding right
right-alike g h [] rack same = ap (λ b. leaf b 0) (same [])
right-alike g h (Old a ∷ cs) rack same = ap (map (λ os. 0 ∷ os)) (right-alike (after g a) (after h a) cs rack (λ t. same (a ∷ t)))
right-alike g h (Free m ∷ cs) rack same =
    ap (λ b. leaf b (suc (length cs)) ++ tries m rack (λ e. right (after g (label_of_entry e)) cs (less rack e))) (same [])
    ∙ ap (λ xs. leaf (h []) (suc (length cs)) ++ xs)
    (tries-same m rack (λ e. right (after g (label_of_entry e)) cs (less rack e)) (λ e. right (after h (label_of_entry e)) cs (less rack e))
    (λ e. right-alike (after g (label_of_entry e)) (after h (label_of_entry e)) cs (less rack e) (λ t. same (label_of_entry e ∷ t))))

pub right-same : (g h : List ℕ → Bool) (line : List Cell) (place : ℕ) (tiles : Tiles) → ((t : List ℕ) → g t ≡ h t) → gives_right g line place tiles ≡ gives_right h line place tiles
right-same g h line place tiles same = ap (map (finish_right place tiles.fresh)) (right-alike g h (drop place line) tiles.rack same)

-- ---- what is written

finish-zeros : (n place : ℕ) (fresh : List ℕ) → finish_right place fresh (zeros n) ≡ fresh
unfolding finish_right
finish-zeros zero place fresh = refl
finish-zeros (suc n) place fresh = finish-zeros n (place + 1) fresh

pub leaf-lines : (ok : Bool) (n place : ℕ) (fresh : List ℕ) → map (finish_right place fresh) (leaf ok n) ≡ gives_leaf ok fresh
leaf-lines true n place fresh = ap (λ x. x ∷ []) (finish-zeros n place fresh)
leaf-lines false n place fresh = refl

pub map-same : {A B C : Type 0} (f : B → C) (k : A → B) (j : A → C) (xs : List A) → ((x : A) → f (k x) ≡ j x) → map f (map k xs) ≡ map j xs
map-same f k j [] same = refl
map-same f k j (x ∷ xs) same = rw (same x, map-same f k j xs same) refl

-- the cells from a place on
cells-from : (line : List Cell) (place : ℕ) → place < length line → drop place line ≡ cell_at line place ∷ drop (place + 1) line
cells-from line place inside = rw add-one (drop-cons line place (Old 0) inside)

cells-at : (line : List Cell) (place : ℕ) (c : Cell) → place < length line → cell_at line place ≡ c → drop place line ≡ c ∷ drop (place + 1) line
cells-at line place c inside e = cells-from line place inside ∙ ap (λ x. x ∷ drop (place + 1) line) e

-- ---- to the right

pub gives_right-end : (g : List ℕ → Bool) (line : List Cell) (place : ℕ) (tiles : Tiles) → length line ≤ place → gives_right g line place tiles ≡ gives_leaf (g []) tiles.fresh
unfolding right
gives_right-end g line place tiles past =
    ap (λ cs. map (finish_right place tiles.fresh) (right g cs tiles.rack)) (drop_all place line past) ∙ leaf-lines (g []) 0 place tiles.fresh

gives_right-old : (g : List ℕ → Bool) (line : List Cell) (place a : ℕ) (tiles : Tiles) → place < length line → cell_at line place ≡ Old a → gives_right g line place tiles ≡ gives_right (after g a) line (place + 1) tiles
unfolding right finish_right
gives_right-old g line place a tiles inside e =
    ap (λ cs. map (finish_right place tiles.fresh) (right g cs tiles.rack)) (cells-at line place (Old a) inside e)
    ∙ map-same (finish_right place tiles.fresh) (λ os. 0 ∷ os) (finish_right (place + 1) tiles.fresh) (right (after g a) (drop (place + 1) line) tiles.rack) (λ os. refl)

pub gives_right-free : (g : List ℕ → Bool) (line : List Cell) (place : ℕ) (m : Open) (tiles : Tiles) → place < length line → cell_at line place ≡ Free m → gives_right g line place tiles ≡ gives_leaf (g []) tiles.fresh ++ gives_tries_right g line place m tiles
unfolding right gives_tries_right gives_one_right tries
gives_right-free g line place m tiles inside e =
    let following : List Cell = drop (place + 1) line in
    ap (λ cs. map (finish_right place tiles.fresh) (right g cs tiles.rack)) (cells-at line place (Free m) inside e)
    ∙ map-append (finish_right place tiles.fresh) (leaf (g []) (suc (length following))) (join_range (one_try m tiles.rack (one_right_of g line place tiles.rack)) 1 52)
    ∙ ap (λ xs. xs ++ map (finish_right place tiles.fresh) (join_range (one_try m tiles.rack (one_right_of g line place tiles.rack)) 1 52)) (leaf-lines (g []) (suc (length following)) place tiles.fresh)
    ∙ ap (λ xs. gives_leaf (g []) tiles.fresh ++ xs) (map-join (finish_right place tiles.fresh) (one_try m tiles.rack (one_right_of g line place tiles.rack)) 1 52)

pub right-old-dead : (g : List ℕ → Bool) (line : List Cell) (place a : ℕ) (tiles : Tiles) → place < length line → cell_at line place ≡ Old a → ((t : List ℕ) → after g a t ≡ false) → gives_right g line place tiles ≡ []
right-old-dead g line place a tiles inside e none =
    gives_right-old g line place a tiles inside e ∙ ap (map (finish_right (place + 1) tiles.fresh)) (right-never (after g a) (drop (place + 1) line) tiles.rack none)

pub right-old-goes : (g k : List ℕ → Bool) (line : List Cell) (place a : ℕ) (tiles : Tiles) → place < length line → cell_at line place ≡ Old a → ((t : List ℕ) → after g a t ≡ k t) → gives_right g line place tiles ≡ gives_right k line (place + 1) tiles
right-old-goes g k line place a tiles inside e same =
    gives_right-old g line place a tiles inside e ∙ right-same (after g a) k line (place + 1) tiles same

-- ---- one entry

pub gives_one_right-no : (g : List ℕ → Bool) (line : List Cell) (place : ℕ) (m : Open) (tiles : Tiles) (e : ℕ) → may m tiles.rack e ≡ false → gives_one_right g line place m tiles e ≡ []
unfolding gives_one_right
gives_one_right-no g line place m tiles e refused =
    ap (λ b. map (finish_right place tiles.fresh) (if b then map (λ os. e ∷ os) (one_right_of g line place tiles.rack e) else [])) refused

pub one_right-dead : (g : List ℕ → Bool) (line : List Cell) (place : ℕ) (m : Open) (tiles : Tiles) (e label : ℕ) → label ≡ label_of_entry e → ((t : List ℕ) → after g label t ≡ false) → gives_one_right g line place m tiles e ≡ []
unfolding gives_one_right
one_right-dead g line place m tiles e label same none =
    ap (map (finish_right place tiles.fresh))
    (one_try-none m tiles.rack (one_right_of g line place tiles.rack) e
    (right-never (after g (label_of_entry e)) (drop (place + 1) line) (less tiles.rack e) (subst (λ l. (t : List ℕ) → after g l t ≡ false) same none)))

-- an entry that is put down is written
pub put-some : (fresh : List ℕ) (place e : ℕ) → 0 < e → put fresh place e ≡ slice_set fresh place e
put-some fresh place e some = ap (λ b. if b then fresh else slice_set fresh place e) (ne_eqb e 0 (omega arith))

pub one_right-goes : (g h : List ℕ → Bool) (line : List Cell) (place : ℕ) (m : Open) (tiles : Tiles) (e label : ℕ) → 0 < e → may m tiles.rack e ≡ true → label ≡ label_of_entry e
    → ((t : List ℕ) → after g label t ≡ h t) → gives_one_right g line place m tiles e ≡ gives_right h line (place + 1) (with_tile tiles place e)
unfolding gives_one_right finish_right
one_right-goes g h line place m tiles e label some allowed same goes =
    ap (λ b. map (finish_right place tiles.fresh) (if b then map (λ os. e ∷ os) (one_right_of g line place tiles.rack e) else [])) allowed
    ∙ map-same (finish_right place tiles.fresh) (λ os. e ∷ os) (finish_right (place + 1) (slice_set tiles.fresh place e)) (one_right_of g line place tiles.rack e)
    (λ os. ap (λ y. finish_right (place + 1) y os) (put-some tiles.fresh place e some))
    ∙ right-same (after g (label_of_entry e)) h line (place + 1) (with_tile tiles place e) (subst (λ l. (t : List ℕ) → after g l t ≡ h t) same goes)

-- the rack has the tile of an entry that is allowed
pub may-left : (m : Open) (rack : List ℕ) (e : ℕ) → may m rack e ≡ true → 0 < get_or rack (kind_of_entry e) 0
unfolding may
may-left m rack e allowed = ltb-true 0 (get_or rack (kind_of_entry e) 0) (and_parts (get_or m.mask (letter_of_entry e) false) (nat_lt 0 (get_or rack (kind_of_entry e) 0)) allowed).1

and-swap : (a b : Bool) → (a && b) ≡ (b && a)
and-swap true true = refl
and-swap true false = refl
and-swap false true = refl
and-swap false false = refl

-- an entry is allowed if the rack has its tile and the square takes its letter
may-by : (m : Open) (rack : List ℕ) (e kind : ℕ) (has : Bool) → kind ≡ kind_of_entry e → nat_lt 0 (get_or rack kind 0) ≡ has → (has && get_or m.mask (letter_of_entry e) false) ≡ may m rack e
unfolding may
may-by m rack e kind has same e_has =
    and-swap has (get_or m.mask (letter_of_entry e) false)
    ∙ ap (λ b. get_or m.mask (letter_of_entry e) false && b) (sym e_has ∙ ap (λ k. nat_lt 0 (get_or rack k 0)) same)

pub may-here : (m : Open) (rack : List ℕ) (e kind letter : ℕ) → kind ≡ kind_of_entry e → letter ≡ letter_of_entry e → 0 < get_or rack kind 0 → get_or m.mask letter false ≡ may m rack e
may-here m rack e kind letter same shown some =
    ap (λ l. get_or m.mask l false) shown ∙ may-by m rack e kind true same (lt-ltb 0 (get_or rack kind 0) some)

pub may-nowhere : (m : Open) (rack : List ℕ) (e kind : ℕ) → kind ≡ kind_of_entry e → get_or rack kind 0 ≤ 0 → nat_lt 0 (get_or rack kind 0) ≡ may m rack e
may-nowhere m rack e kind same none =
    let no_tile : nat_lt 0 (get_or rack kind 0) ≡ false = le-ltb 0 (get_or rack kind 0) none in
    no_tile ∙ may-by m rack e kind false same no_tile

-- the entries, one after another: a square and the rack show a letter if the square allows it and the rack has a tile of it or a blank
pub shows-letter : (m : Open) (rack : List ℕ) (label letter : ℕ) → 0 < label → label ≡ letter + 1
    → shows m rack label ≡ (get_or m.mask letter false && (nat_lt 0 (get_or rack letter 0) || nat_lt 0 (get_or rack 26 0)))
unfolding shows may
shows-letter m rack label letter low is =
    let tile : letter_of_entry (2 * label - 1) ≡ letter = omega arith in
    let blank : letter_of_entry (2 * label) ≡ letter = omega arith in
    let no_blank : is_blank_entry (2 * label - 1) ≡ false = grind arith in
    let is_blank : is_blank_entry (2 * label) ≡ true = grind arith in
    rw (tile, blank) (rw (no_blank, is_blank) (by (get_or m.mask letter false) (nat_lt 0 (get_or rack letter 0)) (nat_lt 0 (get_or rack 26 0))))
  where
    by : (a b c : Bool) → ((a && b) || (a && c)) ≡ (a && (b || c))
    by true b c = refl
    by false b c = refl

pub tries_right-is : (g : List ℕ → Bool) (line : List Cell) (place : ℕ) (m : Open) (tiles : Tiles) → gives_tries_right g line place m tiles ≡ join_range (gives_one_right g line place m tiles) 1 52
unfolding gives_tries_right
tries_right-is g line place m tiles = refl

-- no string continues: no entry is tried
pub tries_right-dead : (g : List ℕ → Bool) (line : List Cell) (place : ℕ) (m : Open) (tiles : Tiles) → ((a : ℕ) (t : List ℕ) → after g a t ≡ false) → gives_tries_right g line place m tiles ≡ []
unfolding gives_tries_right
tries_right-dead g line place m tiles none =
    join-none (gives_one_right g line place m tiles) 1 52 (λ e. one_right-dead g line place m tiles e (label_of_entry e) refl (none (label_of_entry e)))

none_next : {N : Type 0} (tail : N → List ℕ → Bool) (next : Option N) → is_some next ≡ false → (a : ℕ) (t : List ℕ) → next_strings tail next (a ∷ t) ≡ false
none_next tail None ends a t = refl
none_next tail (Some n) ends a t = absurd (true≢false ends)

pub no_more : {N : Type 0} (tail : N → List ℕ → Bool) (at : Step N) → is_some at.next ≡ false → (a : ℕ) (t : List ℕ) → after (strings tail at) a t ≡ false
no_more tail at ends a t = none_next tail at.next ends a t
