-- Tiles without those of a board, and without those of last racks.
use Rattle.std.proofs.Common.{◌≡◌, ℕ, ◌+◌, ◌-◌, ◌<◌, ◌≤◌, ◌==◌, Bool, true, false, nat_lt, cond, List, [], ◌∷◌, ◌++◌, drop, length, get_or, set, sum_by, count_by, Option, Some, None, refl, sym, ap, ◌∙◌, arith, ⊎_elim, if◌then◌else◌}
use Rattle.std.proofs.lemmas.Bool.{cases_eq, eq-eqb, ne_eqb, ltb-false}
use Rattle.std.proofs.lemmas.List.{length-set, get_or-set_same, get_or-set_other, drop_more, drop_all}
use Rattle.std.proofs.lemmas.List.Sums.{sum_by-cons, sum_by-append}
use Rattle.ref_tiles.specs.declared.tiles.Tile.{Tile}
use Rattle.ref_tiles.specs.declared.kinds.Kind.{Kind}
use Rattle.ref_tiles.specs.Kinds.{number_of}
use Rattle.ref_tiles.proofs.Counted.{number_below}
use Rattle.ref_tiles.specs.Counting.{count_of, with_count}
use Rattle.gcg_read.specs.declared.events.Event.{Event}
use Rattle.deal_steps.specs.Piles.{table, without}
use Rattle.deal_steps.proofs.PileLaws.{length-table, get-table, same_numbers}
use Rattle.repair_changes.specs.TileCounts.{one_less}
use Rattle.repair_slips.specs.Rests.{has_kind, last_rack, remaining_at, off_board, off_racks}

-- ---- tables

-- what is taken off in two steps is taken off together
off_both : (counts : List ℕ) (f g h : ℕ → ℕ) → ((k : ℕ) → h k ≡ f k + g k)
    → table (λ n. get_or (table (λ m. get_or counts m 0 - f m)) n 0 - g n) ≡ table (λ n. get_or counts n 0 - h n)
off_both counts f g h both =
    same_numbers (table (λ n. get_or (table (λ m. get_or counts m 0 - f m)) n 0 - g n)) (table (λ n. get_or counts n 0 - h n)) (length-table _) (length-table _)
    (λ k below.
    let last = get-table (λ n. get_or (table (λ m. get_or counts m 0 - f m)) n 0 - g n) k below in
    let first = get-table (λ m. get_or counts m 0 - f m) k below in
    let all = get-table (λ n. get_or counts n 0 - h n) k below in
    let is = both k in
    omega arith)

-- if nothing is taken off, the tiles stay
off_nothing : (counts : List ℕ) (f : ℕ → ℕ) → length counts ≡ 27 → ((k : ℕ) → f k ≡ 0) → table (λ n. get_or counts n 0 - f n) ≡ counts
off_nothing counts f long none =
    same_numbers (table (λ n. get_or counts n 0 - f n)) counts (length-table _) long
    (λ k below. let all = get-table (λ n. get_or counts n 0 - f n) k below in let is = none k in omega arith)

-- ---- a board

count_first : (k : ℕ) (cell : Option Tile) (cells : List (Option Tile)) → count_by (has_kind k) (cell ∷ cells) ≡ count_by (has_kind k) (cell ∷ []) + count_by (has_kind k) cells
count_first k cell cells =
    let all : count_by (has_kind k) (cell ∷ cells) ≡ cond (has_kind k cell) 1 0 + count_by (has_kind k) cells = sum_by-cons (λ (c : Option Tile). cond (has_kind k c) 1 0) cell cells in
    omega (arith, all)

off_next : (counts : List ℕ) (cell : Option Tile) (cells : List (Option Tile)) → off_board (off_board counts (cell ∷ [])) cells ≡ off_board counts (cell ∷ cells)
unfolding off_board
off_next counts cell cells =
    off_both counts (λ k. count_by (has_kind k) (cell ∷ [])) (λ k. count_by (has_kind k) cells) (λ k. count_by (has_kind k) (cell ∷ cells)) (λ k. count_first k cell cells)

off_no_square : (counts : List ℕ) → length counts ≡ 27 → off_board counts [] ≡ counts
unfolding off_board
off_no_square counts long = off_nothing counts (λ k. count_by (has_kind k) []) long (λ k. refl)

pub off_free : (counts : List ℕ) → length counts ≡ 27 → counts ≡ off_board counts (None ∷ [])
unfolding off_board
off_free counts long = sym (off_nothing counts (λ k. count_by (has_kind k) (None ∷ [])) long (λ k. sum_by-cons (λ (c : Option Tile). cond (has_kind k c) 1 0) None []))

-- one less of the number at a place, if there is one
set_less : (counts : List ℕ) (n k : ℕ) → n < length counts → get_or (set counts n (get_or counts n 0 - 1)) k 0 ≡ get_or counts k 0 - cond {A = ℕ} (n == k) 1 0
set_less counts n k within =
    let less = get_or counts n 0 - 1 in
    ⊎_elim
    (λ (s : n ≡ k).
    let one : cond {A = ℕ} (n == k) 1 0 ≡ 1 = ap (λ (b : Bool). cond {A = ℕ} b 1 0) (eq-eqb n k s) in
    let new : get_or (set counts n less) k 0 ≡ less = ap (λ (i : ℕ). get_or (set counts n less) i 0) (sym s) ∙ get_or-set_same counts n less 0 within in
    let same : get_or counts n 0 ≡ get_or counts k 0 = ap (λ (i : ℕ). get_or counts i 0) s in
    omega (arith, one, new, same))
    (λ (other : n ≡ k → ⊥).
    let nought : cond {A = ℕ} (n == k) 1 0 ≡ 0 = ap (λ (b : Bool). cond {A = ℕ} b 1 0) (ne_eqb n k other) in
    let new : get_or (set counts n less) k 0 ≡ get_or counts k 0 = get_or-set_other counts n k less 0 (λ (e : k ≡ n). other (sym e)) in
    omega (arith, nought, new))
    (cases_eq n k)

-- the same if there is none
set_none : (counts : List ℕ) (n k : ℕ) → get_or counts n 0 ≡ 0 → get_or counts k 0 ≡ get_or counts k 0 - cond {A = ℕ} (n == k) 1 0
set_none counts n k none =
    ⊎_elim
    (λ (s : n ≡ k). let same : get_or counts n 0 ≡ get_or counts k 0 = ap (λ (i : ℕ). get_or counts i 0) s in omega (arith, same, none))
    (λ (other : n ≡ k → ⊥).
    let nought : cond {A = ℕ} (n == k) 1 0 ≡ 0 = ap (λ (b : Bool). cond {A = ℕ} b 1 0) (ne_eqb n k other) in
    omega (arith, nought))
    (cases_eq n k)

-- one fewer tile of a kind, for each kind
less_at : (counts : List ℕ) (kind : Kind) (b : Bool) → length counts ≡ 27 → nat_lt 0 (count_of counts kind) ≡ b → (k : ℕ)
    → get_or (if b then with_count counts kind (count_of counts kind - 1) else counts) k 0 ≡ get_or counts k 0 - cond {A = ℕ} (number_of kind == k) 1 0
less_at counts kind true long some k = let small = number_below kind in set_less counts (number_of kind) k (omega (arith, small, long))
less_at counts kind false long none k = let past = ltb-false 0 (get_or counts (number_of kind) 0) none in set_none counts (number_of kind) k (omega (arith, past))

less_long : (counts : List ℕ) (kind : Kind) (b : Bool) → length counts ≡ 27 → length (if b then with_count counts kind (count_of counts kind - 1) else counts) ≡ 27
less_long counts kind true long = length-set counts (number_of kind) (get_or counts (number_of kind) 0 - 1) ∙ long
less_long counts kind false long = long

-- a square with a tile
pub off_tile : (counts : List ℕ) (tile : Tile) → length counts ≡ 27 → one_less counts tile.kind ≡ off_board counts (Some tile ∷ [])
unfolding off_board
off_tile counts tile long =
    let kind = tile.kind in
    let b = nat_lt 0 (count_of counts kind) in
    let size : length (one_less counts kind) ≡ 27 = less_long counts kind b long in
    same_numbers (one_less counts kind) (table (λ n. get_or counts n 0 - count_by (has_kind n) (Some tile ∷ []))) size (length-table _)
    (λ k below.
    let less = less_at counts kind b long refl k in
    let all = get-table (λ n. get_or counts n 0 - count_by (has_kind n) (Some tile ∷ [])) k below in
    let one = sum_by-cons (λ (c : Option Tile). cond (has_kind k c) 1 0) (Some tile) [] in
    omega arith)

-- ---- last racks

pub off_rack_is : (counts : List ℕ) (e : Event) → without counts (last_rack e.kind) ≡ off_racks counts (e ∷ [])
unfolding without off_racks
off_rack_is counts e =
    same_numbers (table (λ n. get_or counts n 0 - get_or (last_rack e.kind) n 0)) (table (λ n. get_or counts n 0 - sum_by (remaining_at n) (e ∷ []))) (length-table _) (length-table _)
    (λ k below.
    let off = get-table (λ n. get_or counts n 0 - get_or (last_rack e.kind) n 0) k below in
    let all = get-table (λ n. get_or counts n 0 - sum_by (remaining_at n) (e ∷ [])) k below in
    let one = sum_by-cons (remaining_at k) e [] in
    omega arith)

off_rack_next : (counts : List ℕ) (e : Event) (events : List Event) → off_racks (off_racks counts (e ∷ [])) events ≡ off_racks counts (e ∷ events)
unfolding off_racks
off_rack_next counts e events =
    off_both counts (λ k. sum_by (remaining_at k) (e ∷ [])) (λ k. sum_by (remaining_at k) events) (λ k. sum_by (remaining_at k) (e ∷ events))
    (λ k. let one = sum_by-cons (remaining_at k) e [] in let all = sum_by-cons (remaining_at k) e events in omega arith)

off_no_rack : (counts : List ℕ) → length counts ≡ 27 → off_racks counts [] ≡ counts
unfolding off_racks
off_no_rack counts long = off_nothing counts (λ k. sum_by (remaining_at k) []) long (λ k. refl)

-- the last racks before a place and after it
pub off_both_racks : (counts : List ℕ) (before following : List Event) → off_racks (off_racks counts before) following ≡ off_racks counts (before ++ following)
unfolding off_racks
off_both_racks counts before following =
    off_both counts (λ k. sum_by (remaining_at k) before) (λ k. sum_by (remaining_at k) following) (λ k. sum_by (remaining_at k) (before ++ following)) (λ k. sum_by-append (remaining_at k) before following)

-- ---- one step of the loops

pub squares_more : (counts rest new : List ℕ) (cells : List (Option Tile)) (i : ℕ) (cell : Option Tile) → i < length cells → cell ≡ get_or cells i cell
    → off_board rest (drop i cells) ≡ off_board counts cells → new ≡ off_board rest (cell ∷ []) → off_board new (drop (i + 1) cells) ≡ off_board counts cells
squares_more counts rest new cells i cell within is so_far made =
    ap (λ (tiles : List ℕ). off_board tiles (drop (i + 1) cells)) made ∙ off_next rest cell (drop (i + 1) cells)
    ∙ ap (λ (c : Option Tile). off_board rest (c ∷ drop (i + 1) cells)) is ∙ sym (ap (off_board rest) (drop_more cells i cell within)) ∙ so_far

pub squares_end : (counts rest : List ℕ) (cells : List (Option Tile)) (i : ℕ) → length cells ≤ i → length rest ≡ 27 → off_board rest (drop i cells) ≡ off_board counts cells → rest ≡ off_board counts cells
squares_end counts rest cells i past long so_far = sym (off_no_square rest long) ∙ sym (ap (off_board rest) (drop_all i cells past)) ∙ so_far

pub racks_more : (counts rest new : List ℕ) (events : List Event) (i : ℕ) (e : Event) → i < length events → e ≡ get_or events i e
    → off_racks rest (drop i events) ≡ off_racks counts events → new ≡ off_racks rest (e ∷ []) → off_racks new (drop (i + 1) events) ≡ off_racks counts events
racks_more counts rest new events i e within is so_far made =
    ap (λ (tiles : List ℕ). off_racks tiles (drop (i + 1) events)) made ∙ off_rack_next rest e (drop (i + 1) events)
    ∙ ap (λ (x : Event). off_racks rest (x ∷ drop (i + 1) events)) is ∙ sym (ap (off_racks rest) (drop_more events i e within)) ∙ so_far

pub racks_end : (counts rest : List ℕ) (events : List Event) (i : ℕ) → length events ≤ i → length rest ≡ 27 → off_racks rest (drop i events) ≡ off_racks counts events → rest ≡ off_racks counts events
racks_end counts rest events i past long so_far = sym (off_no_rack rest long) ∙ sym (ap (off_racks rest) (drop_all i events past)) ∙ so_far
