-- The stretches of the moves of an anchor: it is the first anchor in them.
use Rattle.std.proofs.Common.{◌≡◌, ◌≢◌, ℕ, suc, ◌+◌, ◌-◌, ◌<◌, ◌≤◌, not, nat_lt, Bool, true, false, List, length, map, drop, get_or, slice_index_or, refl, sym, ap, ◌∙◌, arith}
use Rattle.std.proofs.lemmas.Bool.{ne_eqb, eq-eqb, and_from, lt-ltb, false≢true}
use Rattle.gen_line.specs.declared.cells.Cell.{Cell}
use Rattle.gen_line.specs.declared.cells.Cell.TheVariants.{Old, Free}
use Rattle.gen_line.specs.declared.cells.Open.{Open}
use Rattle.gen_line.specs.Entries.{letter_of_entry}
use Rattle.gen_line.specs.Cells.{cell_at, is_full, is_anchor_cell}
use Rattle.gen_line.specs.Moves.{IsMove, Labelled, AreSplits}
use Rattle.gen_line.specs.Model.{left_of, cell_moves, unwalk}
use Rattle.gen_line.proofs.Tests.{left_entries, owes}
use Rattle.gen_line.specs.Walk.{gives_anchor, anchor_moves, Every}
use Rattle.gen_line.proofs.Meaning.{no_bar, at_anchor}
use Rattle.gen_line.proofs.Joins.{every-each}
use Rattle.gen_line.proofs.Shaping.{Shaped, shaped}
use Rattle.gen_line.proofs.Sides.{left_of-at}
use Rattle.gen_line.proofs.Owing.{Owed, owed, around, move_around}
use Rattle.gen_line.proofs.Lines.{each-anchor}
use Rattle.gen_line.proofs.Anchors.{cell_given}
use Rattle.gen_line.proofs.Sinks.{every-same}

-- the stretch of a move has its anchor, and none before that
pub record Reaches (line : List Cell) (first len h : ℕ) : Type 0 where
  pub low : first ≤ h
  pub high : h < first + len
  pub first_anchor : (i : ℕ) → first ≤ i → i < h → is_anchor_cell (cell_at line i) ≡ false

free_entry : (m : Open) (e : ℕ) → is_full (Free m) e ≡ true → e ≢ 0
free_entry m e full z = false≢true (sym (ap not (eq-eqb e 0 z)) ∙ full)

unbarred_at : (line : List Cell) (y : List ℕ) (h n : ℕ) → Shaped at_anchor (left_of line h) (left_entries y h) n → (i : ℕ) → h - n ≤ i → i < h → n ≤ h → (c : Cell) → cell_at line i ≡ c → is_anchor_cell c ≡ false
unbarred_at line y h n s i from below few (Old a) e = refl
unbarred_at line y h n s i from below few (Free m) e =
    let place = h - 1 - i in
    let is = left_of-at line h place i (omega arith) ∙ e in
    let full = s.full place (omega arith) in
    s.unbarred place m (omega arith) is (free_entry m (get_or (left_entries y h) place 0) (sym (ap (λ (c : Cell). is_full c (get_or (left_entries y h) place 0)) is) ∙ full))

pub owed_reach : (g listed : List ℕ → Bool) → AreSplits g listed → (line : List Cell) (rack y : List ℕ) (h : ℕ) → Labelled line → h < 15
    → Owed g line rack h y → (first : ℕ) × (len : ℕ) × IsMove listed line rack y first len × Reaches line first len h
owed_reach g listed splits line rack y h labelled below o =
    let l = shaped at_anchor (left_of line h) (left_entries y h) o.left in
    let r = shaped no_bar (drop (h + 1) line) (drop (h + 1) y) o.right in
    let not_zero = ne_eqb (get_or y h 0) 0 o.some in
    let allowed = and_from (nat_lt (get_or y h 0) 53) (slice_index_or o.square.mask (letter_of_entry (get_or y h 0)) false) (lt-ltb (get_or y h 0) 53 o.low) o.mask in
    let s = around line y h l.0 r.0 below labelled.size (rw (o.is, not_zero) refl) (rw (o.is, not_zero) allowed) l.1 r.1 in
    let left_sum = s.left in (
      h - l.0,
      l.0 + suc r.0,
      move_around g listed splits line rack y h (h - l.0) l.0 r.0 labelled below o s l.2 r.2,
      record { low = omega arith; high = omega arith; first_anchor = λ i from less. unbarred_at line y h l.0 l.1 i from less (omega arith) (cell_at line i) refl },
    )

-- an anchor owes what it gives
pub anchor_owes : (g : List ℕ → Bool) (line : List Cell) (rack : List ℕ) (h : ℕ) → length line ≡ 15 → h < 15 → Every (λ y. owes g line rack h y ≡ true) (anchor_moves g line rack h)
unfolding gives_anchor
anchor_owes g line rack h size high =
    every-same (λ y. owes g line rack h y ≡ true) (map (unwalk h) (cell_moves g line h rack (cell_at line h))) (anchor_moves g line rack h)
    (sym (cell_given g line rack h (cell_at line h) size high))
    (every-each (owes g line rack h) (map (unwalk h) (cell_moves g line h rack (cell_at line h))) (each-anchor g line rack h size high))

pub anchor_reach : (g listed : List ℕ → Bool) → AreSplits g listed → (line : List Cell) (rack y : List ℕ) (h : ℕ) → Labelled line → h < 15
    → owes g line rack h y ≡ true → (first : ℕ) × (len : ℕ) × IsMove listed line rack y first len × Reaches line first len h
anchor_reach g listed splits line rack y h labelled below e = owed_reach g listed splits line rack y h labelled below (owed g line rack h y e)
