-- The labels with which strings of a lexicon continue, each once: the entries of the labels between give nothing.
use Rattle.std.proofs.Common.{◌≡◌, ℕ, zero, suc, ◌+◌, ◌-◌, ◌*◌, ◌<◌, ◌≤◌, Bool, true, false, ◌||◌, IsTrue, List, [], ◌∷◌, ◌++◌, Option, Some, None, slice_set, refl, sym, ap, ◌∙◌, append-nil, append_assoc, arith, ⊎_elim, if◌then◌else◌}
use Rattle.std.specs.Prelude.{IsSome}
use Rattle.std.specs.List.{list_all}
use Rattle.std.proofs.lemmas.Bool.{cases_eq, and_parts, ltb-true, false≢true}
use Rattle.lex_file.specs.declared.lexicons.Step.{Step}
use Rattle.lex_file.specs.Lexicons.{is_label, NextGives}
use Rattle.lex_file.specs.Walking.{next_strings, strings, IsOpen}
use Rattle.gen_line.specs.declared.cells.Cell.{Cell}
use Rattle.gen_line.specs.declared.cells.Open.{Open}
use Rattle.gen_line.specs.declared.tiles.Tiles.{Tiles}
use Rattle.gen_line.specs.Entries.{label_of_entry}
use Rattle.gen_line.specs.Model.{join_range, after, may, shows, less}
use Rattle.gen_line.specs.Walk.{gives_right, gives_one_right, gives_try_right, gives_letter_right, gives_left, gives_one_left, gives_try_left, gives_letter_left, with_tile, Every, Front, add_all}
use Rattle.gen_line.proofs.Sinks.{every-left, every-right, every-same, add_all-append, front-more, front-less, front-same}
use Rattle.gen_line.proofs.Walks.{gives_one_right-no, one_right-dead, one_right-goes}
use Rattle.gen_line.proofs.LeftWalks.{gives_one_left-no, one_left-dead, one_left-goes}

-- ---- a branch of a node

-- the strings after its label
pub branch_strings : {N : Type 0} (is_node : N → Type 0) (tail : N → List ℕ → Bool) (height : N → ℕ) (node : N) (label : ℕ) (accepts : Bool) (next : Option N)
    → accepts ≡ tail node (label ∷ []) → NextGives is_node tail height node label next
    → (t : List ℕ) → tail node (label ∷ t) ≡ strings tail (record { accepts = accepts; next = next }) t
branch_strings is_node tail height node label accepts next a gives [] = sym a
branch_strings is_node tail height node label accepts None a gives (b ∷ t) = gives b t
branch_strings is_node tail height node label accepts (Some n) a gives (b ∷ t) = gives.tails b t

pub branch_open : {N : Type 0} (is_node : N → Type 0) (tail : N → List ℕ → Bool) (height : N → ℕ) (node : N) (label : ℕ) (next : Option N)
    → NextGives is_node tail height node label next → IsOpen is_node next
branch_open is_node tail height node label None gives = tt
branch_open is_node tail height node label (Some n) gives = gives.node

-- a label with which a string begins is a letter or the mark
first_label : (label : ℕ) (rest : List ℕ) → IsTrue (list_all is_label (label ∷ rest)) → label < 27
first_label label rest all = ltb-true label 27 (and_parts (is_label label) (list_all is_label rest) all).0

pub branch_label : {N : Type 0} (is_node : N → Type 0) (tail : N → List ℕ → Bool) (height : N → ℕ) (node : N) (label : ℕ) (accepts : Bool) (next : Option N)
    → ((string : List ℕ) → tail node string ≡ true → IsTrue (list_all is_label string))
    → accepts ≡ tail node (label ∷ []) → (accepts ≡ false → IsSome next) → NextGives is_node tail height node label next → label < 27
branch_label is_node tail height node label true next labels a alive gives = first_label label [] (labels (label ∷ []) (sym a))
branch_label is_node tail height node label false None labels a alive gives = absurd (false≢true (alive refl))
branch_label is_node tail height node label false (Some n) labels a alive gives =
    let some = gives.some in
    first_label label (some.0 ∷ some.1) (labels (label ∷ some.0 ∷ some.1) (gives.tails some.0 some.1 ∙ some.2))

-- what the strings of a step are, if it continues to a node
pub after_step : {N : Type 0} (tail : N → List ℕ → Bool) (at : Step N) (node : N) → at.next ≡ Some node → (label : ℕ) (t : List ℕ) → after (strings tail at) label t ≡ tail node (label ∷ t)
after_step tail at node e label t = ap (λ n. next_strings tail n (label ∷ t)) e

-- ---- entries that give nothing

pub join-skip : {A : Type 0} (f : ℕ → List A) (n m : ℕ) → n ≤ m → ((e : ℕ) → n < e → e ≤ m → f e ≡ []) → join_range f 1 m ≡ join_range f 1 n
join-skip f n zero le none = let e : n ≡ 0 = omega arith in ap (join_range f 1) (sym e)
join-skip f n (suc m) le none =
    ⊎_elim
    (λ (same : n ≡ suc m). ap (join_range f 1) (sym same))
    (λ (ne : n ≡ suc m → ⊥).
    ap (λ xs. join_range f 1 m ++ xs) (none (1 + m) (omega arith) (omega arith))
    ∙ append-nil (join_range f 1 m)
    ∙ join-skip f n m (omega arith) (λ e low high. none e low (omega arith)))
    (cases_eq n (suc m))

or_first : (a b : Bool) → a ≡ true → (a || b) ≡ true
or_first true b e = refl
or_first false b e = absurd (false≢true e)

or_second : (a b : Bool) → b ≡ true → (a || b) ≡ true
or_second true b e = refl
or_second false b e = e

-- an allowed entry is one of its label
shows-of : (m : Open) (rack : List ℕ) (e : ℕ) → 0 < e → may m rack e ≡ true → shows m rack (label_of_entry e) ≡ true
unfolding shows
shows-of m rack e some allowed =
    ⊎_elim
    (λ (same : e ≡ 2 * label_of_entry e). or_second (may m rack (2 * label_of_entry e - 1)) (may m rack (2 * label_of_entry e)) (ap (may m rack) (sym same) ∙ allowed))
    (λ (ne : e ≡ 2 * label_of_entry e → ⊥).
    let same : 2 * label_of_entry e - 1 ≡ e = omega arith in
    or_first (may m rack (2 * label_of_entry e - 1)) (may m rack (2 * label_of_entry e)) (ap (may m rack) same ∙ allowed))
    (cases_eq e (2 * label_of_entry e))

-- for a label with which no string continues, or that nothing allows
idle_right : (g : List ℕ → Bool) (line : List Cell) (place : ℕ) (m : Open) (tiles : Tiles) (e : ℕ) → 0 < e
    → (shows m tiles.rack (label_of_entry e) ≡ true → (t : List ℕ) → after g (label_of_entry e) t ≡ false) → gives_one_right g line place m tiles e ≡ []
idle_right g line place m tiles e some none = by (may m tiles.rack e) refl
  where
    by : (b : Bool) → may m tiles.rack e ≡ b → gives_one_right g line place m tiles e ≡ []
    by true allowed = one_right-dead g line place m tiles e (label_of_entry e) refl (none (shows-of m tiles.rack e some allowed))
    by false refused = gives_one_right-no g line place m tiles e refused

idle_left : (g : List ℕ → Bool) (line : List Cell) (h k : ℕ) (m : Open) (tiles : Tiles) (e : ℕ) → 0 < e
    → (shows m tiles.rack (label_of_entry e) ≡ true → (t : List ℕ) → after g (label_of_entry e) t ≡ false) → gives_one_left g line h k m tiles e ≡ []
idle_left g line h k m tiles e some none = by (may m tiles.rack e) refl
  where
    by : (b : Bool) → may m tiles.rack e ≡ b → gives_one_left g line h k m tiles e ≡ []
    by true allowed = one_left-dead g line h k m tiles e (label_of_entry e) refl (none (shows-of m tiles.rack e some allowed))
    by false refused = gives_one_left-no g line h k m tiles e refused

-- for labels between two
pub skip_right : (g : List ℕ → Bool) (line : List Cell) (place : ℕ) (m : Open) (tiles : Tiles) (from to : ℕ) → 1 ≤ from → from ≤ to
    → ((label : ℕ) → from ≤ label → label < to → shows m tiles.rack label ≡ true → (t : List ℕ) → after g label t ≡ false)
    → join_range (gives_one_right g line place m tiles) 1 (2 * (to - 1)) ≡ join_range (gives_one_right g line place m tiles) 1 (2 * (from - 1))
skip_right g line place m tiles from to low le none =
    join-skip (gives_one_right g line place m tiles) (2 * (from - 1)) (2 * (to - 1)) (omega arith)
    (λ e above below. idle_right g line place m tiles e (omega arith) (none (label_of_entry e) (omega arith) (omega arith)))

pub skip_left : (g : List ℕ → Bool) (line : List Cell) (h k : ℕ) (m : Open) (tiles : Tiles) (from to : ℕ) → 1 ≤ from → from ≤ to
    → ((label : ℕ) → from ≤ label → label < to → shows m tiles.rack label ≡ true → (t : List ℕ) → after g label t ≡ false)
    → join_range (gives_one_left g line h k m tiles) 1 (2 * (to - 1)) ≡ join_range (gives_one_left g line h k m tiles) 1 (2 * (from - 1))
skip_left g line h k m tiles from to low le none =
    join-skip (gives_one_left g line h k m tiles) (2 * (from - 1)) (2 * (to - 1)) (omega arith)
    (λ e above below. idle_left g line h k m tiles e (omega arith) (none (label_of_entry e) (omega arith) (omega arith)))

-- ---- the entries of a label

one_right-is : (g next : List ℕ → Bool) (line : List Cell) (place : ℕ) (m : Open) (tiles : Tiles) (e label : ℕ) → 0 < e → label ≡ label_of_entry e → ((t : List ℕ) → after g label t ≡ next t)
    → gives_one_right g line place m tiles e ≡ gives_try_right next line place m tiles e
unfolding gives_try_right
one_right-is g next line place m tiles e label some is goes = by (may m tiles.rack e) refl
  where
    by : (b : Bool) → may m tiles.rack e ≡ b → gives_one_right g line place m tiles e ≡ gives_try_right next line place m tiles e
    by true h = one_right-goes g next line place m tiles e label some h is goes ∙ sym (ap (λ (b : Bool). if b then gives_right next line (place + 1) (with_tile tiles place e) else []) h)
    by false h = gives_one_right-no g line place m tiles e h ∙ sym (ap (λ (b : Bool). if b then gives_right next line (place + 1) (with_tile tiles place e) else []) h)

one_left-is : (g next : List ℕ → Bool) (line : List Cell) (h k : ℕ) (m : Open) (tiles : Tiles) (e label : ℕ) → 0 < e → label ≡ label_of_entry e → ((t : List ℕ) → after g label t ≡ next t)
    → gives_one_left g line h k m tiles e ≡ gives_try_left next line h k m tiles e
unfolding gives_try_left
one_left-is g next line h k m tiles e label some is goes = by (may m tiles.rack e) refl
  where
    by : (b : Bool) → may m tiles.rack e ≡ b → gives_one_left g line h k m tiles e ≡ gives_try_left next line h k m tiles e
    by true a = one_left-goes g next line h k m tiles e label some a is goes ∙ sym (ap (λ (b : Bool). if b then gives_left next line h k (with_tile tiles k e) else []) a)
    by false a = gives_one_left-no g line h k m tiles e a ∙ sym (ap (λ (b : Bool). if b then gives_left next line h k (with_tile tiles k e) else []) a)

-- two more entries
join-two : {A : Type 0} (f : ℕ → List A) (label : ℕ) (xs ys : List A) → 0 < label → f (2 * label - 1) ≡ xs → f (2 * label) ≡ ys
    → join_range f 1 (2 * (label + 1 - 1)) ≡ join_range f 1 (2 * (label - 1)) ++ (xs ++ ys)
join-two f label xs ys some a b =
    let n : ℕ = 2 * (label - 1) in
    let e : 2 * (label + 1 - 1) ≡ suc (suc n) = omega arith in
    let first : 1 + n ≡ 2 * label - 1 = omega arith in
    let second : 1 + suc n ≡ 2 * label = omega arith in
    ap (join_range f 1) e
    ∙ ap (λ zs. (join_range f 1 n ++ f (1 + n)) ++ zs) (ap f second ∙ b)
    ∙ ap (λ zs. (join_range f 1 n ++ zs) ++ ys) (ap f first ∙ a)
    ∙ append_assoc (join_range f 1 n) xs ys

-- the labels up to one that continues, and that one
pub more_right : (g next : List ℕ → Bool) (line : List Cell) (place : ℕ) (m : Open) (tiles : Tiles) (from label : ℕ) → 1 ≤ from → from ≤ label
    → ((between : ℕ) → from ≤ between → between < label → shows m tiles.rack between ≡ true → (t : List ℕ) → after g between t ≡ false) → ((t : List ℕ) → after g label t ≡ next t)
    → join_range (gives_one_right g line place m tiles) 1 (2 * (label + 1 - 1))
    ≡ join_range (gives_one_right g line place m tiles) 1 (2 * (from - 1)) ++ gives_letter_right next line place m tiles label
more_right g next line place m tiles from label low le none goes =
    join-two (gives_one_right g line place m tiles) label (gives_try_right next line place m tiles (2 * label - 1)) (gives_try_right next line place m tiles (2 * label)) (omega arith)
    (one_right-is g next line place m tiles (2 * label - 1) label (omega arith) (omega arith) goes)
    (one_right-is g next line place m tiles (2 * label) label (omega arith) (omega arith) goes)
    ∙ ap (λ xs. xs ++ gives_letter_right next line place m tiles label) (skip_right g line place m tiles from label low le none)

pub more_left : (g next : List ℕ → Bool) (line : List Cell) (h k : ℕ) (m : Open) (tiles : Tiles) (from label : ℕ) → 1 ≤ from → from ≤ label
    → ((between : ℕ) → from ≤ between → between < label → shows m tiles.rack between ≡ true → (t : List ℕ) → after g between t ≡ false) → ((t : List ℕ) → after g label t ≡ next t)
    → join_range (gives_one_left g line h k m tiles) 1 (2 * (label + 1 - 1))
    ≡ join_range (gives_one_left g line h k m tiles) 1 (2 * (from - 1)) ++ gives_letter_left next line h k m tiles label
more_left g next line h k m tiles from label low le none goes =
    join-two (gives_one_left g line h k m tiles) label (gives_try_left next line h k m tiles (2 * label - 1)) (gives_try_left next line h k m tiles (2 * label)) (omega arith)
    (one_left-is g next line h k m tiles (2 * label - 1) label (omega arith) (omega arith) goes)
    (one_left-is g next line h k m tiles (2 * label) label (omega arith) (omega arith) goes)
    ∙ ap (λ xs. xs ++ gives_letter_left next line h k m tiles label) (skip_left g line h k m tiles from label low le none)

-- ---- the loop over the labels

-- what was taken before a label, and its own entries
pub labels-took : {I X : Type 0} (add : I → X → I) (f : ℕ → List X) (label from : ℕ) (ys : List X) (old mid new : I)
    → join_range f 1 (2 * (label + 1 - 1)) ≡ join_range f 1 (2 * (from - 1)) ++ ys
    → mid ≡ add_all add old (join_range f 1 (2 * (from - 1))) → new ≡ add_all add mid ys → new ≡ add_all add old (join_range f 1 (2 * (label + 1 - 1)))
labels-took add f label from ys old mid new parts e h =
    h ∙ ap (λ items. add_all add items ys) e ∙ sym (add_all-append add old (join_range f 1 (2 * (from - 1))) ys) ∙ ap (add_all add old) (sym parts)

join-front : {A : Type 0} (f : ℕ → List A) (n m : ℕ) → n ≤ m → (rest : List A) × (join_range f 1 m ≡ join_range f 1 n ++ rest)
join-front f n zero le = let e : n ≡ 0 = omega arith in ([], ap (join_range f 1) (sym e) ∙ sym (append-nil (join_range f 1 n)))
join-front f n (suc m) le =
    ⊎_elim
    (λ (same : n ≡ suc m). ([], ap (join_range f 1) (sym same) ∙ sym (append-nil (join_range f 1 n))))
    (λ (ne : n ≡ suc m → ⊥).
    let more = join-front f n m (omega arith) in
    (more.0 ++ f (1 + m), ap (λ xs. xs ++ f (1 + m)) more.1 ∙ append_assoc (join_range f 1 n) more.0 (f (1 + m))))
    (cases_eq n (suc m))

pub labels-front : {I X : Type 0} (add : I → X → I) (f : ℕ → List X) (label from : ℕ) (ys : List X) (old mid new : I) → 0 < label → label < 27
    → join_range f 1 (2 * (label + 1 - 1)) ≡ join_range f 1 (2 * (from - 1)) ++ ys
    → mid ≡ add_all add old (join_range f 1 (2 * (from - 1))) → Front add mid ys new → Front add old (join_range f 1 52) new
labels-front add f label from ys old mid new some few parts e h =
    let all = join-front f (2 * (label + 1 - 1)) 52 (omega arith) in
    front-same add old (join_range f 1 52) (join_range f 1 (2 * (label + 1 - 1)) ++ all.0) new all.1
    (front-less add old (join_range f 1 (2 * (label + 1 - 1))) all.0 new
    (front-same add old (join_range f 1 (2 * (label + 1 - 1))) (join_range f 1 (2 * (from - 1)) ++ ys) new parts
    (front-more add old (join_range f 1 (2 * (from - 1))) ys mid new e h)))

-- what holds for all entries holds for those of a label
pub labels-every : {X : Type 0} (P : X → Type 0) (f : ℕ → List X) (label from : ℕ) (ys : List X) → 0 < label → label < 27
    → join_range f 1 (2 * (label + 1 - 1)) ≡ join_range f 1 (2 * (from - 1)) ++ ys → Every P (join_range f 1 52) → Every P ys
labels-every P f label from ys some few parts all =
    let front = join-front f (2 * (label + 1 - 1)) 52 (omega arith) in
    every-right P (join_range f 1 (2 * (from - 1))) ys
    (every-same P (join_range f 1 (2 * (label + 1 - 1))) (join_range f 1 (2 * (from - 1)) ++ ys) parts
    (every-left P (join_range f 1 (2 * (label + 1 - 1))) front.0
    (every-same P (join_range f 1 52) (join_range f 1 (2 * (label + 1 - 1)) ++ front.0) front.1 all)))

-- no label from one on: all were taken
pub all_right : (g : List ℕ → Bool) (line : List Cell) (place : ℕ) (m : Open) (tiles : Tiles) (from : ℕ) → 1 ≤ from → from ≤ 27
    → ((label : ℕ) → from ≤ label → shows m tiles.rack label ≡ true → (t : List ℕ) → after g label t ≡ false)
    → join_range (gives_one_right g line place m tiles) 1 52 ≡ join_range (gives_one_right g line place m tiles) 1 (2 * (from - 1))
all_right g line place m tiles from low few none = skip_right g line place m tiles from 27 low few (λ label le lt. none label le)

pub all_left : (g : List ℕ → Bool) (line : List Cell) (h k : ℕ) (m : Open) (tiles : Tiles) (from : ℕ) → 1 ≤ from → from ≤ 27
    → ((label : ℕ) → from ≤ label → shows m tiles.rack label ≡ true → (t : List ℕ) → after g label t ≡ false)
    → join_range (gives_one_left g line h k m tiles) 1 52 ≡ join_range (gives_one_left g line h k m tiles) 1 (2 * (from - 1))
all_left g line h k m tiles from low few none = skip_left g line h k m tiles from 27 low few (λ label le lt. none label le)

-- ---- one entry

pub try_right-yes : (g : List ℕ → Bool) (line : List Cell) (place : ℕ) (m : Open) (tiles : Tiles) (e : ℕ) (onward : Tiles) → may m tiles.rack e ≡ true → onward.fresh ≡ slice_set tiles.fresh place e → onward.rack ≡ less tiles.rack e
    → gives_try_right g line place m tiles e ≡ gives_right g line (place + 1) onward
unfolding gives_try_right
try_right-yes g line place m tiles e onward allowed is has =
    ap (λ (b : Bool). if b then gives_right g line (place + 1) (with_tile tiles place e) else []) allowed
    ∙ ap (λ y. gives_right g line (place + 1) (record { fresh = y; rack = less tiles.rack e })) (sym is)
    ∙ ap (λ r. gives_right g line (place + 1) (record { fresh = onward.fresh; rack = r })) (sym has)

pub try_right-no : (g : List ℕ → Bool) (line : List Cell) (place : ℕ) (m : Open) (tiles : Tiles) (e : ℕ) → may m tiles.rack e ≡ false → gives_try_right g line place m tiles e ≡ []
unfolding gives_try_right
try_right-no g line place m tiles e refused = ap (λ (b : Bool). if b then gives_right g line (place + 1) (with_tile tiles place e) else []) refused

pub try_left-yes : (g : List ℕ → Bool) (line : List Cell) (h k : ℕ) (m : Open) (tiles : Tiles) (e : ℕ) (onward : Tiles) → may m tiles.rack e ≡ true → onward.fresh ≡ slice_set tiles.fresh k e → onward.rack ≡ less tiles.rack e
    → gives_try_left g line h k m tiles e ≡ gives_left g line h k onward
unfolding gives_try_left
try_left-yes g line h k m tiles e onward allowed is has =
    ap (λ (b : Bool). if b then gives_left g line h k (with_tile tiles k e) else []) allowed
    ∙ ap (λ y. gives_left g line h k (record { fresh = y; rack = less tiles.rack e })) (sym is)
    ∙ ap (λ r. gives_left g line h k (record { fresh = onward.fresh; rack = r })) (sym has)

pub try_left-no : (g : List ℕ → Bool) (line : List Cell) (h k : ℕ) (m : Open) (tiles : Tiles) (e : ℕ) → may m tiles.rack e ≡ false → gives_try_left g line h k m tiles e ≡ []
unfolding gives_try_left
try_left-no g line h k m tiles e refused = ap (λ (b : Bool). if b then gives_left g line h k (with_tile tiles k e) else []) refused

-- ---- at a node, to the right

pub goes_right : {N : Type 0} (tail : N → List ℕ → Bool) (at : Step N) (node : N) (line : List Cell) (place : ℕ) (m : Open) (tiles : Tiles) (from label : ℕ) (step : Step N)
    → at.next ≡ Some node → 1 ≤ from → from ≤ label
    → ((between : ℕ) → from ≤ between → between < label → shows m tiles.rack between ≡ true → (t : List ℕ) → tail node (between ∷ t) ≡ false) → ((t : List ℕ) → tail node (label ∷ t) ≡ strings tail step t)
    → join_range (gives_one_right (strings tail at) line place m tiles) 1 (2 * (label + 1 - 1))
    ≡ join_range (gives_one_right (strings tail at) line place m tiles) 1 (2 * (from - 1)) ++ gives_letter_right (strings tail step) line place m tiles label
goes_right tail at node line place m tiles from label step e low le none goes =
    more_right (strings tail at) (strings tail step) line place m tiles from label low le
    (λ between a b shown t. after_step tail at node e between t ∙ none between a b shown t) (λ t. after_step tail at node e label t ∙ goes t)

pub ends_right : {N : Type 0} (tail : N → List ℕ → Bool) (at : Step N) (node : N) (line : List Cell) (place : ℕ) (m : Open) (tiles : Tiles) (from : ℕ)
    → at.next ≡ Some node → 1 ≤ from → from ≤ 27 → ((label : ℕ) → from ≤ label → shows m tiles.rack label ≡ true → (t : List ℕ) → tail node (label ∷ t) ≡ false)
    → join_range (gives_one_right (strings tail at) line place m tiles) 1 52 ≡ join_range (gives_one_right (strings tail at) line place m tiles) 1 (2 * (from - 1))
ends_right tail at node line place m tiles from e low few none =
    all_right (strings tail at) line place m tiles from low few (λ label le shown t. after_step tail at node e label t ∙ none label le shown t)

-- ---- at a node, to the left

pub goes_left : {N : Type 0} (tail : N → List ℕ → Bool) (at : Step N) (node : N) (line : List Cell) (h k : ℕ) (m : Open) (tiles : Tiles) (from label : ℕ) (step : Step N)
    → at.next ≡ Some node → 1 ≤ from → from ≤ label
    → ((between : ℕ) → from ≤ between → between < label → shows m tiles.rack between ≡ true → (t : List ℕ) → tail node (between ∷ t) ≡ false) → ((t : List ℕ) → tail node (label ∷ t) ≡ strings tail step t)
    → join_range (gives_one_left (strings tail at) line h k m tiles) 1 (2 * (label + 1 - 1))
    ≡ join_range (gives_one_left (strings tail at) line h k m tiles) 1 (2 * (from - 1)) ++ gives_letter_left (strings tail step) line h k m tiles label
goes_left tail at node line h k m tiles from label step e low le none goes =
    more_left (strings tail at) (strings tail step) line h k m tiles from label low le
    (λ between a b shown t. after_step tail at node e between t ∙ none between a b shown t) (λ t. after_step tail at node e label t ∙ goes t)

pub ends_left : {N : Type 0} (tail : N → List ℕ → Bool) (at : Step N) (node : N) (line : List Cell) (h k : ℕ) (m : Open) (tiles : Tiles) (from : ℕ)
    → at.next ≡ Some node → 1 ≤ from → from ≤ 27 → ((label : ℕ) → from ≤ label → shows m tiles.rack label ≡ true → (t : List ℕ) → tail node (label ∷ t) ≡ false)
    → join_range (gives_one_left (strings tail at) line h k m tiles) 1 52 ≡ join_range (gives_one_left (strings tail at) line h k m tiles) 1 (2 * (from - 1))
ends_left tail at node line h k m tiles from e low few none =
    all_left (strings tail at) line h k m tiles from low few (λ label le shown t. after_step tail at node e label t ∙ none label le shown t)
