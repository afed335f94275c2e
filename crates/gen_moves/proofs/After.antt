-- The moves of an anchor before old tiles are those of the walk that begins with these tiles.
use Rattle.std.proofs.Common.{◌≡◌, ℕ, zero, suc, ◌+◌, ◌<◌, ◌≤◌, Bool, true, false, List, [], ◌∷◌, ◌++◌, map, length, drop, refl, sym, ap, ◌∙◌, subst, arith, All, if◌then◌else◌, Some, append-nil}
use Rattle.lex_file.specs.declared.lexicons.Step.{Step}
use Rattle.lex_file.specs.Walking.{strings, next_strings}
use Rattle.gen_line.specs.declared.cells.Cell.{Cell}
use Rattle.gen_line.specs.declared.cells.Cell.TheVariants.{Old, Free}
use Rattle.gen_line.specs.declared.cells.Open.{Open}
use Rattle.gen_line.specs.declared.tiles.Tiles.{Tiles}
use Rattle.gen_line.specs.Cells.{cell_at}
use Rattle.gen_line.specs.Entries.{label_of_entry}
use Rattle.gen_line.specs.Model.{after, longer, may, less, tries, right, leaf, turn}
use Rattle.gen_line.specs.Moves.{AreSplits, back, after_mark}
use Rattle.gen_line.specs.Walk.{finish_right, gives_turn, gives_left, gives_one_left, gives_tries_left, gives_cell, gives_anchor, gives_after, anchor_moves, after_moves, none_put, with_tile}
use Rattle.gen_line.proofs.Walks.{map-same, join-same, tries-same, right-alike}
use Rattle.gen_line.proofs.LeftWalks.{gives_left-none, left-free, left-old, gives_one_left-no, one_left-goes, tries_left-is, tries_left-dead, tries_left-same}
use Rattle.gen_moves.specs.OldTiles.{olds, IsSpelt}

-- ---- labels read backwards
back-append : (bs xs ys : List ℕ) → back bs xs ++ ys ≡ back bs (xs ++ ys)
back-append [] xs ys = refl
back-append (b ∷ bs) xs ys = back-append bs (b ∷ xs) ys

back-twice : (bs xs ys : List ℕ) → back (back bs xs) ys ≡ back xs (bs ++ ys)
back-twice [] xs ys = refl
back-twice (b ∷ bs) xs ys = back-twice bs (b ∷ xs) ys

abbrev Above : List ℕ → Type 0
Above xs = All (λ l. 0 < l) xs

above-none : Above []
above-none k d below = absurd (omega arith)

above-more : (x : ℕ) (xs : List ℕ) → 0 < x → Above xs → Above (x ∷ xs)
above-more x xs here there zero d below = here
above-more x xs here there (suc k) d below = there k d (omega arith)

above-back : (bs xs : List ℕ) → Above bs → Above xs → Above (back bs xs)
above-back [] xs these those = those
above-back (b ∷ bs) xs these those =
    above-back bs (b ∷ xs) (λ k d below. these (suc k) d (omega arith)) (above-more b xs (these 0 b (omega arith)) those)

back-length : (bs xs : List ℕ) → length (back bs xs) ≡ length bs + length xs
back-length [] xs = omega arith
back-length (b ∷ bs) xs = back-length bs (b ∷ xs) ∙ omega arith

-- a word's path that turns before old tiles, and its path that begins with them
one_word : (g listed : List ℕ → Bool) → AreSplits g listed → (b : ℕ) (bs : List ℕ) → Above (b ∷ bs) → (l : ℕ) → 0 < l → (u rest : List ℕ) → Above u
    → g (l ∷ (u ++ 0 ∷ ((b ∷ bs) ++ rest))) ≡ g (back (b ∷ bs) (l ∷ (u ++ after_mark rest)))
one_word g listed splits b bs these l pos u rest those =
    let front = above-more l u pos those in
    let size = back-length (b ∷ bs) (l ∷ u) in
    splits (l ∷ u) ((b ∷ bs) ++ rest) (omega arith) front
    ∙ ap listed (sym (back-twice (b ∷ bs) (l ∷ u) rest))
    ∙ sym (splits (back (b ∷ bs) (l ∷ u)) rest (omega arith) (above-back (b ∷ bs) (l ∷ u) these front))
    ∙ ap g (back-append (b ∷ bs) (l ∷ u) (after_mark rest))

-- ---- to the right over old tiles, and the turn after them
right_over : (k f : List ℕ → Bool) (cs : List Cell) (rack fresh : List ℕ) (place : ℕ) → ((rest : List ℕ) → k (olds cs ++ rest) ≡ f (after_mark rest))
    → map (finish_right place fresh) (right k cs rack) ≡ map (finish_right (place + length (olds cs)) fresh) (turn f (drop (length (olds cs)) cs) rack)
unfolding right turn finish_right
right_over k f [] rack fresh place same =
    let here : place ≡ place + 0 = omega arith in
    ap (λ b. map (finish_right place fresh) (leaf b 0)) (same [])
    ∙ ap (map (finish_right place fresh)) (sym (append-nil (leaf (f []) 0)))
    ∙ ap (λ (n : ℕ). map (finish_right n fresh) (turn f [] rack)) here
right_over k f (Old a ∷ cs) rack fresh place same =
    let next : (place + 1) + length (olds cs) ≡ place + suc (length (olds cs)) = omega arith in
    map-same (finish_right place fresh) (λ os. 0 ∷ os) (finish_right (place + 1) fresh) (right (after k a) cs rack) (λ os. refl)
    ∙ right_over (after k a) f cs rack fresh (place + 1) same
    ∙ ap (λ (n : ℕ). map (finish_right n fresh) (turn f (drop (length (olds cs)) cs) rack)) next
right_over k f (Free m ∷ cs) rack fresh place same =
    let here : place ≡ place + 0 = omega arith in
    let tried = tries-same m rack (λ e. right (after k (label_of_entry e)) cs (less rack e)) (λ e. right (after (longer (after f 0)) (label_of_entry e)) cs (less rack e))
    (λ e. right-alike (after k (label_of_entry e)) (after (longer (after f 0)) (label_of_entry e)) cs (less rack e) (λ t. same (label_of_entry e ∷ t))) in
    ap (λ b. map (finish_right place fresh) (leaf b (suc (length cs)) ++ tries m rack (λ e. right (after k (label_of_entry e)) cs (less rack e)))) (same [])
    ∙ ap (λ ts. map (finish_right place fresh) (leaf (f []) (suc (length cs)) ++ ts)) tried
    ∙ ap (λ (n : ℕ). map (finish_right n fresh) (turn f (Free m ∷ cs) rack)) here

turn_over : (k f : List ℕ → Bool) (b : ℕ) (cs : List Cell) (rack fresh : List ℕ) (place : ℕ) → ((rest : List ℕ) → k (0 ∷ ((b ∷ olds cs) ++ rest)) ≡ f (after_mark rest))
    → map (finish_right place fresh) (turn k (Old b ∷ cs) rack) ≡ map (finish_right (place + suc (length (olds cs))) fresh) (turn f (drop (length (olds cs)) cs) rack)
unfolding turn
turn_over k f b cs rack fresh place same = right_over (longer (after k 0)) f (Old b ∷ cs) rack fresh place same

-- ---- to the left: one walk turns right after the anchor, the other after the old tiles
drop-none : {A : Type 0} (n : ℕ) → drop {A = A} n [] ≡ []
drop-none zero = refl
drop-none (suc n) = refl

drop-more : {A : Type 0} (n m k : ℕ) (xs : List A) → k ≡ m + n → drop n (drop m xs) ≡ drop k xs
drop-more n zero k xs e = let same : n ≡ k = omega arith in ap (λ (i : ℕ). drop i xs) same
drop-more n (suc m) zero xs e = absurd (omega arith)
drop-more n (suc m) (suc k) [] e = drop-none n
drop-more n (suc m) (suc k) (x ∷ xs) e = drop-more n m k xs (omega arith)

module _ (line : List Cell) (h b : ℕ) (cs : List Cell) (following : drop (h + 1) line ≡ Old b ∷ cs) where
  abbrev last : ℕ
  last = h + suc (length (olds cs))

  abbrev AreOne : (List ℕ → Bool) → (List ℕ → Bool) → Type 0
  AreOne k f = (u rest : List ℕ) → Above u → k (u ++ 0 ∷ ((b ∷ olds cs) ++ rest)) ≡ f (u ++ after_mark rest)

  on_one : (k f : List ℕ → Bool) (a : ℕ) → 0 < a → AreOne k f → AreOne (after k a) (after f a)
  on_one k f a pos one u rest above = one (a ∷ u) rest (above-more a u pos above)

  same_turn : (k f : List ℕ → Bool) (tiles : Tiles) → AreOne k f → gives_turn k line h tiles ≡ gives_turn f line last tiles
  same_turn k f tiles one =
      let n : ℕ = length (olds cs) in
      let next : (h + 1) + suc n ≡ last + 1 = omega arith in
      let rest : drop n cs ≡ drop (last + 1) line =
      ap (λ (ds : List Cell). drop (suc n) ds) (sym following) ∙ drop-more (suc n) (h + 1) (last + 1) line (omega arith) in
      ap (λ (ds : List Cell). map (finish_right (h + 1) tiles.fresh) (turn k ds tiles.rack)) following
      ∙ turn_over k f b cs tiles.rack tiles.fresh (h + 1) (λ rest. one [] rest above-none)
      ∙ ap (λ (i : ℕ). map (finish_right i tiles.fresh) (turn f (drop n cs) tiles.rack)) next
      ∙ ap (λ (ds : List Cell). map (finish_right (last + 1) tiles.fresh) (turn f ds tiles.rack)) rest

  same_tries : (k f : List ℕ → Bool) (place : ℕ) (m : Open) (tiles : Tiles)
      → ((e : ℕ) → 0 < e → gives_left (after k (label_of_entry e)) line h place (with_tile tiles place e) ≡ gives_left (after f (label_of_entry e)) line last place (with_tile tiles place e))
      → gives_tries_left k line h place m tiles ≡ gives_tries_left f line last place m tiles
  same_tries k f place m tiles below =
      tries_left-is k line h place m tiles
      ∙ join-same (gives_one_left k line h place m tiles) (gives_one_left f line last place m tiles) 1 52 (λ e low high. each e low (may m tiles.rack e) refl)
      ∙ sym (tries_left-is f line last place m tiles)
    where
      each : (e : ℕ) → 1 ≤ e → (ok : Bool) → may m tiles.rack e ≡ ok → gives_one_left k line h place m tiles e ≡ gives_one_left f line last place m tiles e
      each e low false refused = gives_one_left-no k line h place m tiles e refused ∙ sym (gives_one_left-no f line last place m tiles e refused)
      each e low true allowed =
          one_left-goes k (after k (label_of_entry e)) line h place m tiles e (label_of_entry e) low allowed refl (λ t. refl)
          ∙ below e low
          ∙ sym (one_left-goes f (after f (label_of_entry e)) line last place m tiles e (label_of_entry e) low allowed refl (λ t. refl))

  same_left : (k f : List ℕ → Bool) (places : ℕ) (tiles : Tiles) → ((i a : ℕ) → i < places → cell_at line i ≡ Old a → 0 < a) → AreOne k f
      → gives_left k line h places tiles ≡ gives_left f line last places tiles
  same_left k f zero tiles old one = gives_left-none k line h 0 tiles refl ∙ same_turn k f tiles one ∙ sym (gives_left-none f line last 0 tiles refl)
  same_left k f (suc place) tiles old one =
      let before : (i a : ℕ) → i < place → cell_at line i ≡ Old a → 0 < a = λ i a below is. old i a (omega arith) is in
      by (cell_at line place) refl
      (λ a pos. same_left (after k a) (after f a) place tiles before (on_one k f a pos one))
      (λ e pos. same_left (after k (label_of_entry e)) (after f (label_of_entry e)) place (with_tile tiles place e) before (on_one k f (label_of_entry e) pos one))
    where
      by : (c : Cell) → cell_at line place ≡ c → ((a : ℕ) → 0 < a → gives_left (after k a) line h place tiles ≡ gives_left (after f a) line last place tiles)
          → ((e : ℕ) → 0 < label_of_entry e → gives_left (after k (label_of_entry e)) line h place (with_tile tiles place e) ≡ gives_left (after f (label_of_entry e)) line last place (with_tile tiles place e))
          → gives_left k line h (suc place) tiles ≡ gives_left f line last (suc place) tiles
      by (Old a) is on_old on_new =
          left-old k line h place a tiles is
          ∙ on_old a (old place a (omega arith) is)
          ∙ sym (left-old f line last place a tiles is)
      by (Free m) is on_old on_new =
          left-free k line h place m tiles is
          ∙ ap (λ (xs : List (List ℕ)). xs ++ (if m.anchor then [] else gives_tries_left k line h place m tiles)) (same_turn k f tiles one)
          ∙ ap (λ (xs : List (List ℕ)). gives_turn f line last tiles ++ (if m.anchor then [] else xs)) (same_tries k f place m tiles (λ e some. on_new e (omega arith)))
          ∙ sym (left-free f line last place m tiles is)

  -- what one place gives
  same_cell : (g : List ℕ → Bool) (spelt : IsSpelt g line) (rack : List ℕ) → h < 15 → Above (b ∷ olds cs) → (c : Cell) → gives_cell g line h h (none_put rack) c ≡ gives_cell (λ t. g (back (b ∷ olds cs) t)) line last h (none_put rack) c
  same_cell g spelt rack below these (Old a) = refl
  same_cell g spelt rack below these (Free m) =
      let f : List ℕ → Bool = λ t. g (back (b ∷ olds cs) t) in
      let size = spelt.labels.size in
      ap (λ (xs : List (List ℕ)). if m.anchor then xs else [])
      (same_tries g f h m (none_put rack)
      (λ e some. same_left (after g (label_of_entry e)) (after f (label_of_entry e)) h (with_tile (none_put rack) h e) (λ i a low is. spelt.labels.old i a (omega arith) is)
      (λ u rest above. one_word g spelt.listed spelt.splits b (olds cs) these (label_of_entry e) (omega arith) u rest above)))

-- ---- the labels of a line
abbrev Positive : List Cell → Type 0
Positive [] = Unit {0}
Positive (Old a ∷ cs) = (0 < a) × Positive cs
Positive (Free m ∷ cs) = Positive cs

positive : (cs : List Cell) → ((i a : ℕ) → i < length cs → cell_at cs i ≡ Old a → 0 < a) → Positive cs
positive [] old = tt
positive (Old a ∷ cs) old = (old 0 a (omega arith) refl, positive cs (λ i b below e. old (suc i) b (omega arith) e))
positive (Free m ∷ cs) old = positive cs (λ i b below e. old (suc i) b (omega arith) e)

positive-drop : (n : ℕ) (cs : List Cell) → Positive cs → Positive (drop n cs)
positive-drop zero cs pos = pos
positive-drop (suc n) [] pos = tt
positive-drop (suc n) (Old a ∷ cs) pos = positive-drop n cs pos.1
positive-drop (suc n) (Free m ∷ cs) pos = positive-drop n cs pos

above-olds : (cs : List Cell) → Positive cs → Above (olds cs)
above-olds [] pos = above-none
above-olds (Old a ∷ cs) pos = above-more a (olds cs) pos.0 (above-olds cs pos.1)
above-olds (Free m ∷ cs) pos = above-none

-- ---- the moves of an anchor
one_place : (g f : List ℕ → Bool) (line : List Cell) (to h : ℕ) (rack : List ℕ) → ((label : ℕ) (t : List ℕ) → g (label ∷ t) ≡ f (label ∷ t))
    → (c : Cell) → gives_cell g line to h (none_put rack) c ≡ gives_cell f line to h (none_put rack) c
one_place g f line to h rack same (Old a) = refl
one_place g f line to h rack same (Free m) =
    ap (λ (xs : List (List ℕ)). if m.anchor then xs else []) (tries_left-same g f line to h m (none_put rack) (λ a t. same a t))

-- the walk from after the old tiles gives the moves of the anchor
pub same_moves : (g f : List ℕ → Bool) (line : List Cell) (rack : List ℕ) (h : ℕ) → IsSpelt g line → h < 15
    → ((label : ℕ) (t : List ℕ) → g (back (olds (drop (h + 1) line)) (label ∷ t)) ≡ f (label ∷ t))
    → after_moves f line (h + length (olds (drop (h + 1) line))) rack h ≡ anchor_moves g line rack h
unfolding gives_anchor gives_after
same_moves g f line rack h spelt below same = sym (by (drop (h + 1) line) refl same)
  where
    by : (ds : List Cell) → drop (h + 1) line ≡ ds → ((label : ℕ) (t : List ℕ) → g (back (olds ds) (label ∷ t)) ≡ f (label ∷ t))
        → gives_cell g line h h (none_put rack) (cell_at line h) ≡ gives_cell f line (h + length (olds ds)) h (none_put rack) (cell_at line h)
    by [] is same =
        let here : h ≡ h + 0 = omega arith in
        one_place g f line h h rack same (cell_at line h) ∙ ap (λ (n : ℕ). gives_cell f line n h (none_put rack) (cell_at line h)) here
    by (Free m ∷ cs) is same =
        let here : h ≡ h + 0 = omega arith in
        one_place g f line h h rack same (cell_at line h) ∙ ap (λ (n : ℕ). gives_cell f line n h (none_put rack) (cell_at line h)) here
    by (Old b ∷ cs) is same =
        let size = spelt.labels.size in
        let pos : Positive (Old b ∷ cs) = subst Positive is (positive-drop (h + 1) line (positive line (λ i a low e. spelt.labels.old i a (omega arith) e))) in
        same_cell line h b cs is g spelt rack below (above-olds (Old b ∷ cs) pos) (cell_at line h)
        ∙ one_place (λ t. g (back (b ∷ olds cs) t)) f line (h + suc (length (olds cs))) h rack same (cell_at line h)

chosen : (anchor : Bool) → (let none : List (List ℕ) = [] in if anchor then none else none) ≡ []
chosen true = refl
chosen false = refl

-- the same if the line is that of other cells, and the last of the old tiles has a place of its own
pub moves_from : (g f : List ℕ → Bool) (line cells : List Cell) (rack : List ℕ) (h last : ℕ) → line ≡ cells → IsSpelt g cells → h < 15
    → ((label : ℕ) (t : List ℕ) → g (back (olds (drop (h + 1) line)) (label ∷ t)) ≡ f (label ∷ t))
    → last ≡ h + length (olds (drop (h + 1) line)) → after_moves f line last rack h ≡ anchor_moves g cells rack h
moves_from g f line cells rack h last is spelt below same end =
    ap (λ (n : ℕ). after_moves f line n rack h) end ∙ same_moves g f line rack h (subst (IsSpelt g) (sym is) spelt) below same
    ∙ ap (λ (ds : List Cell). anchor_moves g ds rack h) is

-- if no word has the old tiles after it, an anchor has no moves
pub no_moves : (g : List ℕ → Bool) (line : List Cell) (rack : List ℕ) (h : ℕ) → IsSpelt g line → h < 15
    → ((label : ℕ) (t : List ℕ) → g (back (olds (drop (h + 1) line)) (label ∷ t)) ≡ false) → anchor_moves g line rack h ≡ []
unfolding gives_after
no_moves g line rack h spelt below none =
    sym (same_moves g (λ t. false) line rack h spelt below none) ∙ by (cell_at line h)
  where
    by : (c : Cell) → gives_cell (λ t. false) line (h + length (olds (drop (h + 1) line))) h (none_put rack) c ≡ []
    by (Old a) = refl
    by (Free m) =
        ap (λ (xs : List (List ℕ)). if m.anchor then xs else []) (tries_left-dead (λ t. false) line (h + length (olds (drop (h + 1) line))) h m (none_put rack) (λ a t. refl))
        ∙ chosen m.anchor

-- ---- by places of the line
pub olds-old : (line : List Cell) (place a : ℕ) → place < length line → cell_at line place ≡ Old a → drop place line ≡ Old a ∷ drop (place + 1) line
olds-old [] place a below is = absurd (omega arith)
olds-old (c ∷ cs) zero a below is = ap (λ (d : Cell). d ∷ cs) is
olds-old (c ∷ cs) (suc place) a below is =
    let next : suc (place + 1) ≡ suc place + 1 = omega arith in
    olds-old cs place a (omega arith) is ∙ ap (λ (n : ℕ). Old a ∷ drop n (c ∷ cs)) next

pub olds-free : (line : List Cell) (place : ℕ) (m : Open) → place < length line → cell_at line place ≡ Free m → olds (drop place line) ≡ []
olds-free [] place m below is = absurd (omega arith)
olds-free (c ∷ cs) zero m below is = ap (λ (d : Cell). olds (d ∷ cs)) is
olds-free (c ∷ cs) (suc place) m below is = olds-free cs place m (omega arith) is

pub olds-end : (line : List Cell) (place : ℕ) → length line ≤ place → olds (drop place line) ≡ []
olds-end [] zero le = refl
olds-end [] (suc place) le = refl
olds-end (c ∷ cs) zero le = absurd (omega arith)
olds-end (c ∷ cs) (suc place) le = olds-end cs place (omega arith)

-- ---- the strings of a whole lexicon
pub whole_strings : {N : Type 0} (tail : N → List ℕ → Bool) (root : N) (whole : Step N) → whole.next ≡ Some root → (bs : List ℕ) (y : ℕ) (t : List ℕ)
    → strings tail whole (back bs (y ∷ t)) ≡ tail root (back bs (y ∷ t))
whole_strings tail root whole e [] y t = ap (λ n. next_strings tail n (y ∷ t)) e
whole_strings tail root whole e (b ∷ bs) y t = whole_strings tail root whole e bs b (y ∷ t)
