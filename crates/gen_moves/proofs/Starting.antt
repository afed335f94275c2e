-- What the places of a board give, and what is known about them.
use Rattle.std.proofs.Common.{◌≡◌, ℕ, zero, suc, ◌+◌, ◌*◌, ◌/◌, ◌%◌, ◌<◌, ◌≤◌, ◌≤ℤ◌, pos, Bool, true, false, List, [], ◌∷◌, ◌++◌, length, get_or, refl, sym, ap, ◌∙◌, subst, append_assoc, arith, take, drop, Option, Some, None, ℤ}
use Rattle.std.specs.Prelude.{All, nat_lt, slice_index_or, if◌then◌else◌}
use Rattle.std.specs.List.{flat_map, range_with_len}
use Rattle.std.specs.List.Sorted.{IsPermutation}
use Rattle.std.proofs.lemmas.Bool.{lt-ltb, ltb-true}
use Rattle.std.proofs.lemmas.List.{append-nil, take_more}
use Rattle.std.proofs.lemmas.List.Elements.{All-from_get_or}
use Rattle.std.proofs.lemmas.List.Concat.{flat_map-append}
use Rattle.std.proofs.lemmas.List.Sorted.{All-permutation}
use Rattle.ref_tiles.specs.declared.tiles.Tile.{Tile}
use Rattle.ref_tiles.specs.declared.rulebook.Rules.{Rules}
use Rattle.ref_board.specs.declared.directions.Dir.{Dir}
use Rattle.ref_board.specs.declared.directions.Dir.TheVariants.{Across, Down}
use Rattle.ref_play.specs.Best.{Given, AreAll}
use Rattle.ref_play.specs.Scores.{score_of}
use Rattle.ref_play.specs.Directions.{is_wanted, direction_of}
use Rattle.ref_play.specs.Notations.{notation_of, written_on}
use Rattle.ref_play.specs.Placements.{with_tiles}
use Rattle.ref_play.specs.Formed.{runs_along}
use Rattle.ref_play.specs.declared.runs.Run.{Run}
use Rattle.gen_sinks.specs.Sinks.{IsFor}
use Rattle.gen_moves.specs.LineTiles.{tiles_of}
use Rattle.gen_line.specs.declared.cells.Cell.{Cell}
use Rattle.gen_line.specs.Model.{join_range, line_moves}
use Rattle.gen_line.specs.Walk.{Every, Front, add_all, anchor_moves}
use Rattle.gen_line.proofs.Anchors.{all_given}
use Rattle.gen_line.proofs.Sinks.{every-same, every-join, all-still, add_all-append, front-same, front-less, front-more}
use Rattle.gen_moves.specs.declared.starts.Start.{Start}
use Rattle.gen_moves.specs.Findings.{reported, given_on, given_along, given_by}
use Rattle.gen_moves.specs.Laws.{Setting}
use Rattle.gen_moves.specs.Reporting.{IsFitMove, both_cells}
use Rattle.gen_moves.specs.Bounds.{ReportsUnder, AreOffers, rack_points, rack_ones}
use Rattle.gen_moves.specs.Starts.{IsStartOf, AreStarts, IsGood, GoesAlong, AreUnder, dir_of, bound_in, given_at, given_from}
use Rattle.gen_moves.proofs.Fitting.{moves_fit, add_all-flat_map, join_flat}
use Rattle.gen_moves.proofs.Offering.{passed_over, every-both, all_tallied, all_offers}
use Rattle.gen_moves.proofs.Gathering.{line_labelled, wanted_few, given_all}
use Rattle.gen_moves.proofs.Settings.{lists}
use Rattle.gen_moves.proofs.Reordering.{all_reordered}

-- ---- a start that is skipped
-- what a move gives is written along its line
goes_along : (for : Option (List (Option Tile))) (board : List (Option Tile)) (d : Dir) (line : ℕ) (y : List ℕ) (score : ℤ) → IsFor for board → IsFitMove board d line y
    → is_wanted board d (tiles_of d line y) ≡ true → GoesAlong for d (record { dir = d; tiles = tiles_of d line y; score = score })
unfolding notation_of
goes_along for board Across line y score is fit wanted = tt
goes_along None board Down line y score is fit wanted = tt
goes_along (Some own) board Down line y score is fit wanted =
    let ps = tiles_of Down line y in
    let few = wanted_few board Down ps wanted in
    let runs = (fit.1.1 few.1).1.runs in
    ap (λ (b : List (Option Tile)). (written_on ps (runs_along (direction_of b ps) (with_tiles b ps) ps)).dir) is
    ∙ ap (λ (d : Dir). (written_on ps (runs_along d (with_tiles board ps) ps)).dir) few.0
    ∙ ap (λ (rs : List Run). (written_on ps rs).dir) runs

pub reported_along : (for : Option (List (Option Tile))) (rules : Rules) (board : List (Option Tile)) (d : Dir) (line : ℕ) (y : List ℕ) → IsFor for board → IsFitMove board d line y
    → Every (GoesAlong for d) (reported rules board d line y)
unfolding reported
reported_along for rules board d line y is fit = by (is_wanted board d (tiles_of d line y)) refl
  where
    by : (b : Bool) → is_wanted board d (tiles_of d line y) ≡ b
        → Every (GoesAlong for d) (if b then record { dir = d; tiles = tiles_of d line y; score = pos (score_of rules board (tiles_of d line y)) } ∷ [] else [])
    by true wanted = (goes_along for board d line y (pos (score_of rules board (tiles_of d line y))) is fit wanted, tt)
    by false wanted = tt

pub left_out : (for : Option (List (Option Tile))) (rules : Rules) (board : List (Option Tile)) (d : Dir) (line bound : ℕ) (ys : List (List ℕ)) (add : List Given → Given → List Given) (items : List Given)
    → ((given : Given) → GoesAlong for d given → given.score ≤ℤ pos bound → add items given ≡ items) → IsFor for board → Every (IsFitMove board d line) ys
    → Every (λ y. ReportsUnder rules board d line y bound) ys → items ≡ add_all add items (flat_map (reported rules board d line) ys)
left_out for rules board d line bound ys add items still is fits under =
    all-still (λ items y. add_all add items (reported rules board d line y)) items (λ y. IsFitMove board d line y × ReportsUnder rules board d line y bound) ys
    (λ y known. passed_over rules board d line y bound (GoesAlong for d) add items still (reported_along for rules board d line y is known.0) known.1)
    (every-both (IsFitMove board d line) (λ y. ReportsUnder rules board d line y bound) ys fits under)
    ∙ add_all-flat_map add (reported rules board d line) items ys

-- ---- a sink that was refused memory in the middle of the starts
parts : {X A : Type 0} (f : X → List A) (xs : List X) (n : ℕ) (d : X) → n < length xs → flat_map f xs ≡ (flat_map f (take n xs) ++ f (get_or xs n d)) ++ flat_map f (drop (suc n) xs)
parts f [] n d below = absurd (omega arith)
parts f (x ∷ xs) zero d below = refl
parts f (x ∷ xs) (suc n) d below =
    ap (λ zs. f x ++ zs) (parts f xs n d (omega arith))
    ∙ sym (append_assoc (f x) (flat_map f (take n xs) ++ f (get_or xs n d)) (flat_map f (drop (suc n) xs)))
    ∙ ap (λ zs. zs ++ flat_map f (drop (suc n) xs)) (sym (append_assoc (f x) (flat_map f (take n xs)) (f (get_or xs n d))))

pub front_of_starts : {X : Type 0} (add : List Given → Given → List Given) (f : X → List Given) (xs : List X) (n : ℕ) (d : X) (old mid new : List Given) → n < length xs
    → mid ≡ add_all add old (flat_map f (take n xs)) → Front add mid (f (get_or xs n d)) new → Front add old (flat_map f xs) new
front_of_starts add f xs n d old mid new below e h =
    front-same add old (flat_map f xs) ((flat_map f (take n xs) ++ f (get_or xs n d)) ++ flat_map f (drop (suc n) xs)) new (parts f xs n d below)
    (front-less add old (flat_map f (take n xs) ++ f (get_or xs n d)) (flat_map f (drop (suc n) xs)) new
    (front-more add old (flat_map f (take n xs)) (f (get_or xs n d)) mid new e h))

-- one more start, from which everything was taken
pub starts_more : {X : Type 0} (add : List Given → Given → List Given) (f : X → List Given) (xs : List X) (n : ℕ) (d : X) (old mid new : List Given) → n < length xs
    → mid ≡ add_all add old (flat_map f (take n xs)) → new ≡ add_all add mid (f (get_or xs n d)) → new ≡ add_all add old (flat_map f (take (n + 1) xs))
starts_more add f xs n d old mid new below e h =
    let one : flat_map f (get_or xs n d ∷ []) ≡ f (get_or xs n d) = append-nil (f (get_or xs n d)) in
    h ∙ ap (λ items. add_all add items (f (get_or xs n d))) e
    ∙ sym (add_all-append add old (flat_map f (take n xs)) (f (get_or xs n d)))
    ∙ ap (λ zs. add_all add old (flat_map f (take n xs) ++ zs)) (sym one)
    ∙ ap (add_all add old) (sym (flat_map-append f (take n xs) (get_or xs n d ∷ [])))
    ∙ ap (λ ys. add_all add old (flat_map f ys)) (sym (take_more xs n d below))

-- ---- what is known about each start
anchor_fits : (words : List (List ℕ)) (board : List (Option Tile)) (g listed : List ℕ → Bool) (cells : Dir → ℕ → List Cell) → Setting words board g listed cells
    → (rack : List ℕ) (d : Dir) (line h : ℕ) → line < 15 → h < 15 → Every (IsFitMove board d line) (anchor_moves g (cells d line) rack h)
anchor_fits words board g listed cells s rack d line h low below =
    every-join (IsFitMove board d line) (anchor_moves g (cells d line) rack) 0 15 h
    (every-same (IsFitMove board d line) (line_moves g (cells d line) rack) (join_range (anchor_moves g (cells d line) rack) 0 15) (sym (all_given g (cells d line) rack (s.lines d line low).size))
    (moves_fit words board g listed cells s rack d line low))
    (omega arith) (omega arith)

good_by : (rules : Rules) (words : List (List ℕ)) (board : List (Option Tile)) (g listed : List ℕ → Bool) (cells : Dir → ℕ → List Cell) → Setting words board g listed cells
    → (rack : List ℕ) (s : Start) (d : Dir) (line h bound : ℕ) → s.dir ≡ d → s.line ≡ line → s.place ≡ h → s.bound ≡ bound → line < 15 → h < 15
    → AreUnder rules board g (cells d line) rack d line h bound → IsGood rules board g cells rack s
good_by rules words board g listed cells setting rack s d line h bound is_dir is_line is_place is_bound low below under =
    let there : IsGood rules board g cells rack (record { dir = d; line = line; place = h; bound = bound }) =
    record { line = low; place = below; fits = anchor_fits words board g listed cells setting rack d line h low below; under = under; tallied = λ places are. all_tallied rules words board g listed cells setting rack d line low places are h below; spelt = record { listed = listed; splits = setting.splits; labels = line_labelled words d board line (cells d line) (setting.lines d line low) } } in
    let with_bound = subst (λ (n : ℕ). IsGood rules board g cells rack (record { dir = d; line = line; place = h; bound = n })) (sym is_bound) there in
    let with_place = subst (λ (n : ℕ). IsGood rules board g cells rack (record { dir = d; line = line; place = n; bound = s.bound })) (sym is_place) with_bound in
    let with_line = subst (λ (n : ℕ). IsGood rules board g cells rack (record { dir = d; line = n; place = s.place; bound = s.bound })) (sym is_line) with_place in
    subst (λ (e : Dir). IsGood rules board g cells rack (record { dir = e; line = s.line; place = s.place; bound = s.bound })) (sym is_dir) with_line

-- the bounds of both directions
abbrev pub AreBounds : Rules → List (Option Tile) → (List ℕ → Bool) → (Dir → ℕ → List Cell) → List ℕ → Dir → List (List ℕ) → Type 0
AreBounds rules board g cells rack d bounds = (line : ℕ) → line < 15 → (h : ℕ) → h < 15 → AreUnder rules board g (cells d line) rack d line h (bound_in bounds line h)

-- what makes those of one direction
abbrev pub MakesBounds : Rules → (points ones : ℕ) → List (Option Tile) → List (List Cell) → List ℕ → Dir → List (List ℕ) → Type 0
MakesBounds rules points ones board lines rack d bounds =
    (line : ℕ) → line < 15 → (g : List ℕ → Bool) → AreOffers rules points ones board g (slice_index_or lines line []) rack d line
    → (h : ℕ) → h < 15 → AreUnder rules board g (slice_index_or lines line []) rack d line h (bound_in bounds line h)

pub all_good : (rules : Rules) (words : List (List ℕ)) (board : List (Option Tile)) (g listed : List ℕ → Bool) (cells : Dir → ℕ → List Cell) → Setting words board g listed cells
    → (rack : List ℕ) (across down : List (List ℕ)) (starts : List Start) → length starts ≡ 450 → AreStarts across down starts
    → AreBounds rules board g cells rack Across across → AreBounds rules board g cells rack Down down → All (IsGood rules board g cells rack) starts
all_good rules words board g listed cells setting rack across down starts size are under_across under_down =
    All-from_get_or (IsGood rules board g cells rack) starts (record { dir = Across; line = 0; place = 0; bound = 0 })
    (λ k below. one k (get_or starts k (record { dir = Across; line = 0; place = 0; bound = 0 })) (are k (record { dir = Across; line = 0; place = 0; bound = 0 }) (omega arith)) (nat_lt k 225) refl)
  where
    one : (k : ℕ) (s : Start) → IsStartOf across down k s → (b : Bool) → nat_lt k 225 ≡ b → IsGood rules board g cells rack s
    one k s is true e =
        good_by rules words board g listed cells setting rack s Across (k / 15 % 15) (k % 15) (bound_in across (k / 15 % 15) (k % 15))
        (is.dir ∙ ap (λ (b : Bool). let d : Dir = if b then Across else Down in d) e) is.line is.place
        (is.bound ∙ ap (λ (b : Bool). bound_in (if b then across else down) (k / 15 % 15) (k % 15)) e) (omega arith) (omega arith) (under_across (k / 15 % 15) (omega arith) (k % 15) (omega arith))
    one k s is false e =
        good_by rules words board g listed cells setting rack s Down (k / 15 % 15) (k % 15) (bound_in down (k / 15 % 15) (k % 15))
        (is.dir ∙ ap (λ (b : Bool). let d : Dir = if b then Across else Down in d) e) is.line is.place
        (is.bound ∙ ap (λ (b : Bool). bound_in (if b then across else down) (k / 15 % 15) (k % 15)) e) (omega arith) (omega arith) (under_down (k / 15 % 15) (omega arith) (k % 15) (omega arith))

-- the bounds of both directions come from what the tiles of the rack add, and the starts are put in another order
pub good_sorted : (rules : Rules) (words : List (List ℕ)) (board : List (Option Tile)) (g : List ℕ → Bool) (a b : List (List Cell)) → Setting words board g (lists words) (both_cells a b)
    → (rack : List ℕ) (points ones : ℕ) → points ≡ rack_points rules rack 27 → ones ≡ rack_ones rules rack 27
    → (across down : List (List ℕ)) (starts sorted : List Start) → length starts ≡ 450 → AreStarts across down starts → IsPermutation starts sorted
    → MakesBounds rules points ones board a rack Across across → MakesBounds rules points ones board b rack Down down → All (IsGood rules board g (both_cells a b) rack) sorted
good_sorted rules words board g a b s rack points ones points_are ones_are across down starts sorted size are order of_across of_down =
    All-permutation (IsGood rules board g (both_cells a b) rack) starts sorted order
    (all_good rules words board g (lists words) (both_cells a b) s rack across down starts size are
    (λ line low h below. of_across line low g (offers Across line low) h below)
    (λ line low h below. of_down line low g (offers Down line low) h below))
  where
    offers : (d : Dir) (line : ℕ) → line < 15 → AreOffers rules points ones board g (both_cells a b d line) rack d line
    offers d line low = rw (points_are, ones_are) (all_offers rules words board g (lists words) (both_cells a b) s rack d line low)

-- ---- what all places give
split : {A : Type 0} (f : ℕ → List A) (a m n : ℕ) → join_range f a (m + n) ≡ join_range f a m ++ join_range f (a + m) n
split f a m zero = let at : m + 0 ≡ m = omega arith in rw at (sym (append-nil (join_range f a m)))
split f a m (suc n) =
    let at : m + suc n ≡ suc (m + n) = omega arith in
    let there : a + (m + n) ≡ a + m + n = omega arith in
    ap (join_range f a) at ∙ ap (λ (xs : List _). xs ++ f (a + (m + n))) (split f a m n) ∙ append_assoc (join_range f a m) (join_range f (a + m) n) (f (a + (m + n)))
    ∙ ap (λ (k : ℕ). join_range f a m ++ (join_range f (a + m) n ++ f k)) there

alike : {A : Type 0} (f k : ℕ → List A) (a b n : ℕ) → ((i : ℕ) → i < n → f (a + i) ≡ k (b + i)) → join_range f a n ≡ join_range k b n
alike f k a b zero same = refl
alike f k a b (suc n) same = rw (alike f k a b n (λ i below. same i (omega arith)), same n (omega arith)) refl

-- lines of 15 places, one after another
by_lines : {A : Type 0} (f : ℕ → List A) (k : ℕ → ℕ → List A) (a n : ℕ) → ((l i : ℕ) → l < n → i < 15 → f (a + 15 * l + i) ≡ k l i)
    → join_range f a (15 * n) ≡ join_range (λ l. join_range (k l) 0 15) 0 n
by_lines f k a zero same = refl
by_lines f k a (suc n) same =
    let more : 15 * suc n ≡ 15 * n + 15 = omega arith in
    ap (join_range f a) more ∙ split f a (15 * n) 15
    ∙ ap (λ (xs : List _). xs ++ join_range f (a + 15 * n) 15) (by_lines f k a n (λ l i low below. same l i (omega arith) below))
    ∙ ap (λ (xs : List _). join_range (λ l. join_range (k l) 0 15) 0 n ++ xs) (alike f (k (0 + n)) (a + 15 * n) 0 15 (λ i below. same n i (omega arith) below ∙ ap (λ (m : ℕ). k m i) (omega arith) ∙ ap (k (0 + n)) (omega arith)))

join_reported : {X A : Type 0} (t : X → List A) (f : ℕ → List X) (a n : ℕ) → join_range (λ i. flat_map t (f i)) a n ≡ flat_map t (join_range f a n)
join_reported t f a zero = refl
join_reported t f a (suc n) = ap (λ (xs : List _). xs ++ flat_map t (f (a + n))) (join_reported t f a n) ∙ sym (flat_map-append t (join_range f a n) (f (a + n)))

line_given : (rules : Rules) (board : List (Option Tile)) (g : List ℕ → Bool) (cells : Dir → ℕ → List Cell) (rack : List ℕ) (d : Dir) (line : ℕ) → length (cells d line) ≡ 15
    → join_range (given_at rules board g cells rack d line) 0 15 ≡ given_on rules board g cells rack d line
line_given rules board g cells rack d line size =
    join_reported (reported rules board d line) (anchor_moves g (cells d line) rack) 0 15 ∙ ap (flat_map (reported rules board d line)) (all_given g (cells d line) rack size)

-- a list by its places
by_places : {X A : Type 0} (f : X → List A) (k : ℕ → List A) (xs : List X) (d : X) (a : ℕ) → ((i : ℕ) → i < length xs → f (get_or xs i d) ≡ k (a + i)) → flat_map f xs ≡ flat_map k (range_with_len a (length xs))
by_places f k [] d a same = refl
by_places f k (x ∷ xs) d a same =
    let here : f x ≡ k a = same 0 (omega arith) ∙ ap k (omega arith) in
    let rest = by_places f k xs d (a + 1) (λ i below. same (suc i) (omega arith) ∙ ap k (omega arith)) in
    rw (here, rest) refl

abbrev numbered : Rules → List (Option Tile) → (List ℕ → Bool) → (Dir → ℕ → List Cell) → List ℕ → ℕ → List Given
numbered rules board g cells rack k = given_at rules board g cells rack (dir_of k) (k / 15 % 15) (k % 15)

from_number : (rules : Rules) (board : List (Option Tile)) (g : List ℕ → Bool) (cells : Dir → ℕ → List Cell) (rack : List ℕ) (across down : List (List ℕ)) (k : ℕ) (s : Start)
    → IsStartOf across down k s → given_from rules board g cells rack s ≡ numbered rules board g cells rack k
from_number rules board g cells rack across down k s is =
    ap (λ (d : Dir). given_at rules board g cells rack d s.line s.place) is.dir
    ∙ ap (λ (l : ℕ). given_at rules board g cells rack (dir_of k) l s.place) is.line
    ∙ ap (λ (h : ℕ). given_at rules board g cells rack (dir_of k) (k / 15 % 15) h) is.place

number_at : (rules : Rules) (board : List (Option Tile)) (g : List ℕ → Bool) (cells : Dir → ℕ → List Cell) (rack : List ℕ) (k : ℕ) (d : Dir) (l i : ℕ)
    → dir_of k ≡ d → k / 15 % 15 ≡ l → k % 15 ≡ i → numbered rules board g cells rack k ≡ given_at rules board g cells rack d l i
number_at rules board g cells rack k d l i is_dir is_line is_place =
    ap (λ (e : Dir). given_at rules board g cells rack e (k / 15 % 15) (k % 15)) is_dir
    ∙ ap (λ (n : ℕ). given_at rules board g cells rack d n (k % 15)) is_line
    ∙ ap (λ (n : ℕ). given_at rules board g cells rack d l n) is_place

direction_given : (rules : Rules) (words : List (List ℕ)) (board : List (Option Tile)) (g listed : List ℕ → Bool) (cells : Dir → ℕ → List Cell) → Setting words board g listed cells
    → (rack : List ℕ) (d : Dir) (a : ℕ) → ((l i : ℕ) → l < 15 → i < 15 → numbered rules board g cells rack (a + 15 * l + i) ≡ given_at rules board g cells rack d l i)
    → join_range (numbered rules board g cells rack) a 225 ≡ given_along rules board g cells rack d
direction_given rules words board g listed cells s rack d a same =
    by_lines (numbered rules board g cells rack) (given_at rules board g cells rack d) a 15 same
    ∙ alike (λ l. join_range (given_at rules board g cells rack d l) 0 15) (given_on rules board g cells rack d) 0 0 15
    (λ l low. line_given rules board g cells rack d (0 + l) (s.lines d (0 + l) (omega arith)).size)
    ∙ join_flat (given_on rules board g cells rack d) 0 15

pub starts_give : (rules : Rules) (words : List (List ℕ)) (board : List (Option Tile)) (g listed : List ℕ → Bool) (cells : Dir → ℕ → List Cell) → Setting words board g listed cells
    → (rack : List ℕ) (across down : List (List ℕ)) (starts : List Start) → length starts ≡ 450 → AreStarts across down starts
    → flat_map (given_from rules board g cells rack) starts ≡ given_by rules board g cells rack
unfolding given_by
starts_give rules words board g listed cells s rack across down starts size are =
    let at : ℕ → List Given = numbered rules board g cells rack in
    by_places (given_from rules board g cells rack) at starts (record { dir = Across; line = 0; place = 0; bound = 0 }) 0
    (λ i below. from_number rules board g cells rack across down i (get_or starts i (record { dir = Across; line = 0; place = 0; bound = 0 })) (are i (record { dir = Across; line = 0; place = 0; bound = 0 }) (omega arith)) ∙ ap at (omega arith))
    ∙ ap (λ (n : ℕ). flat_map at (range_with_len 0 n)) size
    ∙ sym (join_flat at 0 450)
    ∙ split at 0 225 225
    ∙ ap (λ (xs : List Given). xs ++ join_range at 225 225)
    (direction_given rules words board g listed cells s rack Across 0
    (λ l i low below. number_at rules board g cells rack (0 + 15 * l + i) Across l i (first (0 + 15 * l + i) (omega arith)) (omega arith) (omega arith)))
    ∙ ap (λ (xs : List Given). given_along rules board g cells rack Across ++ xs)
    (direction_given rules words board g listed cells s rack Down 225
    (λ l i low below. number_at rules board g cells rack (225 + 15 * l + i) Down l i (second (225 + 15 * l + i) (omega arith)) (omega arith) (omega arith)))
  where
    first : (k : ℕ) → k < 225 → dir_of k ≡ Across
    first k low = let e = lt-ltb k 225 low in rw e refl

    second : (k : ℕ) → 225 ≤ k → dir_of k ≡ Down
    second k high = by_test k (nat_lt k 225) refl high
      where
        by_test : (k : ℕ) (b : Bool) → nat_lt k 225 ≡ b → 225 ≤ k → dir_of k ≡ Down
        by_test k true e high = absurd (let low = ltb-true k 225 e in omega arith)
        by_test k false e high = rw e refl

-- and so do the starts in another order
pub all_sorted : (rules : Rules) (words : List (List ℕ)) (board : List (Option Tile)) (g : List ℕ → Bool) (a b : List (List Cell)) → Setting words board g (lists words) (both_cells a b)
    → (rack : List ℕ) (across down : List (List ℕ)) (starts sorted : List Start) → length starts ≡ 450 → AreStarts across down starts → IsPermutation starts sorted
    → AreAll rules words board rack (flat_map (given_from rules board g (both_cells a b) rack) sorted)
all_sorted rules words board g a b s rack across down starts sorted size are order =
    all_reordered (given_from rules board g (both_cells a b) rack) starts sorted rules words board rack order
    (subst (AreAll rules words board rack) (sym (starts_give rules words board g (lists words) (both_cells a b) s rack across down starts size are))
    (given_all rules words board g (lists words) (both_cells a b) s rack))
