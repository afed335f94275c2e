-- The text of tiles that are laid over a line: its dots are on the squares that have a tile, and its tiles on the free ones.
use Rattle.std.proofs.Common.{◌≡◌, ℕ, zero, suc, Bool, true, false, cond, List, [], ◌∷◌, length, slice_get, Some, refl, sym, ap, ◌∙◌, arith}
use Rattle.std.specs.Prelude.{⊤, not}
use Rattle.std.specs.List.{filter}
use Rattle.std.proofs.lemmas.Bool.{false≢true}
use Rattle.std.proofs.lemmas.Option.{same_Some, slice_get_past}
use Rattle.first_faults.proofs.CheckLaws.{some_fault}
use Rattle.ref_tiles.specs.declared.symbols.Symbol.{Symbol}
use Rattle.ref_tiles.specs.declared.symbols.Symbol.TheVariants as symbol
use Rattle.repair_slips.specs.Laying.{is_tile, tiles_of, laid_over}
use Rattle.repair_slips.specs.Laws.{LiesOver, LaidTextsLie}

-- ---- texts over a line

-- a text with one symbol before it
each_more : (b : Bool) (occupied : List Bool) (s : Symbol) (text : List Symbol) → is_tile s ≡ not b → LiesOver occupied text
    → (k : ℕ) (t : Symbol) (c : Bool) → slice_get (s ∷ text) k ≡ Some t → slice_get (b ∷ occupied) k ≡ Some c → is_tile t ≡ not c
each_more b occupied s text is over zero t c at on = sym (ap is_tile (same_Some s t at)) ∙ is ∙ ap not (same_Some b c on)
each_more b occupied s text is over (suc k) t c at on = over.each k t c at on

lies_more : (b : Bool) (occupied : List Bool) (s : Symbol) (text : List Symbol) → is_tile s ≡ not b → LiesOver occupied text → LiesOver (b ∷ occupied) (s ∷ text)
lies_more b occupied s text is over =
    let short = over.within in
    record { within = omega (arith, short); each = each_more b occupied s text is over; following = over.following }

-- no text
nothing_lies : (occupied : List Bool) → (slice_get occupied 0 ≡ Some true → ⊥) → LiesOver occupied []
nothing_lies occupied free =
    record { within = omega arith; each = λ k s b at on. absurd (some_fault s (sym at ∙ slice_get_past [] k (omega arith))); following = free }

-- ---- the tiles of a text

-- each symbol is a tile
abbrev AreTiles : List Symbol → Type 0
AreTiles [] = ⊤
AreTiles (s ∷ tiles) = (is_tile s ≡ true) × AreTiles tiles

one_tile : (s : Symbol) (tiles : List Symbol) (b : Bool) → is_tile s ≡ b → AreTiles tiles → AreTiles (cond b (s ∷ tiles) tiles)
one_tile s tiles true is all = (is, all)
one_tile s tiles false is all = all

are_tiles : (word : List Symbol) → AreTiles (filter is_tile word)
are_tiles [] = tt
are_tiles (s ∷ word) = one_tile s (filter is_tile word) (is_tile s) refl (are_tiles word)

-- ---- the text that they make

lies : (occupied : List Bool) (tiles : List Symbol) → AreTiles tiles → length (filter is_tile (laid_over occupied tiles)) ≡ length tiles
    → LiesOver occupied (laid_over occupied tiles) × (filter is_tile (laid_over occupied tiles) ≡ tiles)
unfolding laid_over
lies [] [] all many = (nothing_lies [] (λ is. some_fault true (sym is)), refl)
lies [] (t ∷ ts) all many = absurd (omega (arith, many))
lies (true ∷ rest) tiles all many =
    let below = lies rest tiles all many in
    (lies_more true rest symbol.Dot (laid_over rest tiles) refl below.0, below.1)
lies (false ∷ rest) [] all many = (nothing_lies (false ∷ rest) (λ is. false≢true (same_Some false true is)), refl)
lies (false ∷ rest) (t ∷ ts) all many =
    let text = laid_over rest ts in
    let kept : filter is_tile (t ∷ text) ≡ t ∷ filter is_tile text = ap (λ (b : Bool). cond b (t ∷ filter is_tile text) (filter is_tile text)) all.0 in
    let long : suc (length (filter is_tile text)) ≡ suc (length ts) = sym (ap (λ (xs : List Symbol). length xs) kept) ∙ many in
    let below = lies rest ts all.1 (omega (arith, long)) in
    (lies_more false rest t text all.0 below.0, kept ∙ ap (λ (xs : List Symbol). t ∷ xs) below.1)

pub laid_lies : LaidTextsLie
unfolding tiles_of
laid_lies occupied word many = lies occupied (filter is_tile word) (are_tiles word) many
