-- The order by notations is a strict total order on the legal placements of a board, and the derived comparison of
-- notations computes it.
use Rattle.std.proofs.Common.{◌≡◌, ℕ, Bool, ◌+◌, ◌<◌, true, List, [], ◌∷◌, map, length, refl, sym, ap, ◌∙◌, arith, ⊎_elim, inl, inr, Option, Some}
use Rattle.std.specs.Prelude.{◌⊎◌, ◌↔◌, IsTrue}
use Rattle.std.specs.declared.cmp.Ordering.{Ordering}
use Rattle.std.specs.declared.cmp.Ordering.TheVariants.{Less, Equal, Greater}
use Rattle.std.specs.Ordering.{MatchOrdering, nat_cmp, ordering_then, ordering_reverse, is_lt, is_some_and, partial_lt}
use Rattle.std.specs.Cmp.{IsTotalOrder, nat_cmp_is}
use Rattle.std.specs.Cmp.Lexicographic.{slice_cmp, on_texts}
use Rattle.std.proofs.lemmas.Cmp.{ranked, nat_cmp_total, on_total, then_total, tied_itself}
use Rattle.std.proofs.lemmas.Map.Lookups.{CmpEqualImpliesEq, exact_unsigned, exact_bytes}
use Rattle.ref_tiles.specs.declared.tiles.Tile.{Tile}
use Rattle.ref_tiles.specs.declared.symbols.Symbol.{Symbol}
use Rattle.ref_tiles.specs.declared.symbols.Symbol.TheVariants as symbol
use Rattle.ref_tiles.specs.Symbols.{symbol_of, byte_of}
use Rattle.ref_tiles.specs.contracts.symbols.SymbolOrd.TheImpl as symbol_ord
use Rattle.ref_tiles.proofs.SymbolLemmas.{read_again}
use Rattle.ref_board.specs.declared.directions.Dir.{Dir}
use Rattle.ref_board.specs.declared.directions.Dir.TheVariants.{Across, Down}
use Rattle.ref_board.specs.contracts.directions.DirOrd.TheImpl as dir_ord
use Rattle.ref_play.specs.declared.placed.Placed.{Placed}
use Rattle.ref_play.specs.declared.notations.Notation.{Notation}
use Rattle.ref_play.specs.contracts.notations.NotationOrd.TheImpl as notation_ord
use Rattle.ref_play.specs.contracts.notations.NotationOrd.TheImpl.Laws as notation_laws
use Rattle.ref_play.specs.contracts.notations.NotationPartialOrd.TheImpl as notation_partial_ord
use Rattle.ref_play.specs.Placements.{is_play}
use Rattle.ref_play.specs.Legality.{IsLegal}
use Rattle.ref_play.specs.Notations.{Written, notation_of, dir_number, written, written_cmp, ComesBefore}
use Rattle.ref_play.proofs.Naming.{notation_differs}

-- ---- the order of texts and of where they are
pub written_total : IsTotalOrder written_cmp
written_total = then_total (on_total (λ (w : Written). dir_number w.dir) nat_cmp_total) (then_total (on_total (λ (w : Written). w.at) nat_cmp_total) (on_texts (λ (w : Written). map byte_of w.word)))

-- an answer of two orders in turn is a tie only if both are ties
both_tied : (o p : Ordering) → ordering_then o p ≡ Equal → (o ≡ Equal) × (p ≡ Equal)
both_tied Less p e = absurd (let same : Less ≡ Equal = e in cc)
both_tied Equal p e = (refl, e)
both_tied Greater p e = absurd (let same : Greater ≡ Equal = e in cc)

same_dir : (a b : Dir) → dir_number a ≡ dir_number b → a ≡ b
same_dir Across Across e = refl
same_dir Across Down e = absurd (omega arith)
same_dir Down Across e = absurd (omega arith)
same_dir Down Down e = refl

same_symbol : (a b : Symbol) → byte_of a ≡ byte_of b → a ≡ b
same_symbol a b e =
    let reported : Some a ≡ Some b = sym (read_again a) ∙ ap symbol_of e ∙ read_again b in cc

same_word : (xs ys : List Symbol) → map byte_of xs ≡ map byte_of ys → xs ≡ ys
same_word [] [] e = refl
same_word [] (y ∷ ys) e = absurd (let h = e in cc)
same_word (x ∷ xs) [] e = absurd (let h = e in cc)
same_word (x ∷ xs) (y ∷ ys) e =
    let first : byte_of x ≡ byte_of y = cc in
    let rest : map byte_of xs ≡ map byte_of ys = cc in
    let one = same_symbol x y first in
    let others = same_word xs ys rest in cc

pub written_exact : CmpEqualImpliesEq written_cmp
written_exact v w e =
    let outer = both_tied (nat_cmp (dir_number v.dir) (dir_number w.dir)) (ordering_then (nat_cmp v.at w.at) (slice_cmp nat_cmp (map byte_of v.word) (map byte_of w.word))) e in
    let inner = both_tied (nat_cmp v.at w.at) (slice_cmp nat_cmp (map byte_of v.word) (map byte_of w.word)) outer.1 in
    let dir : v.dir ≡ w.dir = same_dir v.dir w.dir (exact_unsigned (dir_number v.dir) (dir_number w.dir) outer.0) in
    let at : v.at ≡ w.at = exact_unsigned v.at w.at inner.0 in
    let word : v.word ≡ w.word = same_word v.word w.word (exact_bytes (map byte_of v.word) (map byte_of w.word) inner.1) in
    λ i. record { dir = dir i; at = at i; word = word i }

-- ---- the order of placements
pub irreflexive : (board : List (Option Tile)) (ps : List Placed) → ComesBefore board ps ps → ⊥
irreflexive board ps e =
    let tied = tied_itself written_total (notation_of board ps) in
    let same : Less ≡ Equal = sym e ∙ tied in cc

pub transitive : (board : List (Option Tile)) (a b c : List Placed) → ComesBefore board a b → ComesBefore board b c → ComesBefore board a c
transitive board a b c = written_total.trans (notation_of board a) (notation_of board b) (notation_of board c)

-- two texts are equal, or one comes first
of_answer : (v w : Written) (o p : Ordering) → written_cmp v w ≡ o → written_cmp w v ≡ p → o ≡ ordering_reverse p
    → (v ≡ w) ⊎ ((written_cmp v w ≡ Less) ⊎ (written_cmp w v ≡ Less))
of_answer v w Less p e f turned = inr (inl e)
of_answer v w Equal p e f turned = inl (written_exact v w e)
of_answer v w Greater Less e f turned = inr (inr f)
of_answer v w Greater Equal e f turned = absurd (let h : Greater ≡ Equal = turned in cc)
of_answer v w Greater Greater e f turned = absurd (let h : Greater ≡ Less = turned in cc)

-- of two different legal placements one comes first
pub one_first : (d e : Dir) (board : List (Option Tile)) (a b : List Placed) → length board ≡ 225 → is_play d a ≡ true → is_play e b ≡ true → IsLegal board a → IsLegal board b
    → (a ≡ b) ⊎ (ComesBefore board a b ⊎ ComesBefore board b a)
one_first d e board a b size play_a play_b legal_a legal_b =
    let v = notation_of board a in
    let w = notation_of board b in
    ⊎_elim
    (λ (same : v ≡ w). inl (notation_differs d e board a b size play_a play_b legal_a legal_b same))
    (λ (one : (written_cmp v w ≡ Less) ⊎ (written_cmp w v ≡ Less)). inr one)
    (of_answer v w (written_cmp v w) (written_cmp w v) refl refl (written_total.antisymm v w))

-- ---- the derived comparison of notations
dirs : (a b : Dir) → (dir_ord.cmp-value).it a b ≡ nat_cmp (dir_number a) (dir_number b)
dirs Across Across = refl
dirs Across Down = refl
dirs Down Across = refl
dirs Down Down = refl

-- numbers keep their order if the same is added to both
moved : (k x y : ℕ) (o : Ordering) → MatchOrdering o (x < y) (x ≡ y) (y < x) → MatchOrdering o (k + x < k + y) (k + x ≡ k + y) (k + y < k + x)
moved k x y Less h = omega arith
moved k x y Equal h = ap (λ n. k + n) h
moved k x y Greater h = omega arith

shifted : (k x y : ℕ) → nat_cmp x y ≡ nat_cmp (k + x) (k + y)
shifted k x y = nat_cmp_is (k + x) (k + y) (nat_cmp x y) (moved k x y (nat_cmp x y) (ranked x y (nat_cmp x y) refl))

-- the order of symbols is that of the bytes that write them
symbols : (a b : Symbol) → (symbol_ord.cmp-value).it a b ≡ nat_cmp (byte_of a) (byte_of b)
symbols symbol.Dot symbol.Dot = refl
symbols symbol.Dot (symbol.Letter m) = nat_cmp_is 46 (65 + m.index) Less (omega arith)
symbols symbol.Dot (symbol.Blank m) = nat_cmp_is 46 (97 + m.index) Less (omega arith)
symbols (symbol.Letter l) symbol.Dot = nat_cmp_is (65 + l.index) 46 Greater (omega arith)
symbols (symbol.Letter l) (symbol.Letter m) = shifted 65 l.index m.index
symbols (symbol.Letter l) (symbol.Blank m) = nat_cmp_is (65 + l.index) (97 + m.index) Less (let in_range = l.in_range in omega arith)
symbols (symbol.Blank l) symbol.Dot = nat_cmp_is (97 + l.index) 46 Greater (omega arith)
symbols (symbol.Blank l) (symbol.Letter m) = nat_cmp_is (97 + l.index) (65 + m.index) Greater (let in_range = m.in_range in omega arith)
symbols (symbol.Blank l) (symbol.Blank m) = shifted 97 l.index m.index

words : (xs ys : List Symbol) → slice_cmp (symbol_ord.cmp-value).it xs ys ≡ slice_cmp nat_cmp (map byte_of xs) (map byte_of ys)
words [] [] = refl
words [] (y ∷ ys) = refl
words (x ∷ xs) [] = refl
words (x ∷ xs) (y ∷ ys) =
    ap (λ o. ordering_then o (slice_cmp (symbol_ord.cmp-value).it xs ys)) (symbols x y) ∙ ap (λ o. ordering_then (nat_cmp (byte_of x) (byte_of y)) o) (words xs ys)

notations : (a b : Notation) → (notation_ord.cmp-value).it a b ≡ written_cmp (written a) (written b)
notations a b =
    ap (λ o. ordering_then o (ordering_then (nat_cmp a.at b.at) (slice_cmp (symbol_ord.cmp-value).it a.word.items b.word.items))) (dirs a.dir b.dir)
    ∙ ap (λ o. ordering_then (nat_cmp (dir_number a.dir) (dir_number b.dir)) (ordering_then (nat_cmp a.at b.at) o)) (words a.word.items b.word.items)

is_less : (a b : Notation) → partial_lt (notation_partial_ord.partial_cmp-value).it a b ≡ is_lt (written_cmp (written a) (written b))
is_less a b = ap (is_some_and is_lt) (notation_laws.matches_partial_cmp-law a b) ∙ ap is_lt (notations a b)

less-from : (o : Ordering) → is_lt o ≡ true → o ≡ Less
less-from Less e = refl
less-from Equal e = absurd (let h = e in cc)
less-from Greater e = absurd (let h = e in cc)

-- one notation is less than another exactly when its placement comes before the other's
pub before_is : (board : List (Option Tile)) (a b : List Placed) (x y : Notation) (r : Bool) → written x ≡ notation_of board a → written y ≡ notation_of board b
    → r ≡ partial_lt (notation_partial_ord.partial_cmp-value).it x y → IsTrue r ↔ ComesBefore board a b
before_is board a b x y r first second e =
    let reported : r ≡ is_lt (written_cmp (notation_of board a) (notation_of board b)) =
    e ∙ is_less x y ∙ ap (λ v. is_lt (written_cmp v (written y))) first ∙ ap (λ w. is_lt (written_cmp (notation_of board a) w)) second in
    (λ t. less-from (written_cmp (notation_of board a) (notation_of board b)) (sym reported ∙ t), λ less. reported ∙ ap is_lt less)
