-- The order of plays by score and then by notation, and the first of all candidates in this order.
use Rattle.std.proofs.Common.{◌≡◌, ℕ, ◌<◌, ℤ, pos, ◌<ℤ◌, true, List, [], ◌∷◌, ◌++◌, length, ◌↔◌, refl, sym, ap, subst, ◌∙◌, arith, append_assoc, length-append, get_or, ◌⊎◌, inl, inr, ⊎_elim, Option}
use Rattle.std.specs.Prelude.{◌≢◌, fold, Contains}
use Rattle.std.specs.List.{AllPairs}
use Rattle.std.specs.declared.cmp.Ordering.{Ordering}
use Rattle.std.specs.declared.cmp.Ordering.TheVariants.{Less, Equal, Greater}
use Rattle.std.specs.Ordering.{int_cmp, ordering_then, ordering_reverse, is_lt, MatchOrdering}
use Rattle.std.specs.Cmp.{IsTotalOrder}
use Rattle.std.proofs.lemmas.Cmp.{int_ranked, tied_itself, on_total, then_total, back_total}
use Rattle.std.specs.Cmp.{int_cmp_total}
use Rattle.std.proofs.lemmas.Int.{ints}
use Rattle.std.proofs.lemmas.List.{get_or_append_left, get_or_at, append-nil}
use Rattle.std.proofs.lemmas.List.Elements.{All-contains, Contains-append_left, Contains-append_right}
use Rattle.ref_tiles.specs.declared.tiles.Tile.{Tile}
use Rattle.ref_tiles.specs.declared.rulebook.Rules.{Rules}
use Rattle.ref_play.specs.declared.placed.Placed.{Placed}
use Rattle.ref_play.specs.Notations.{notation_of, written_cmp}
use Rattle.ref_play.specs.Scores.{score_of}
use Rattle.ref_play.specs.Candidates.{IsCandidate}
use Rattle.ref_play.specs.Best.{Given, given_of, Outranks, IsAnnotation, AreAll}
use Rattle.ref_play.proofs.RangeLaws.{Contains-cases, Contains-here}
use Rattle.ref_play.proofs.Naming.{notation_differs}
use Rattle.ref_play.proofs.Ordering.{written_total, written_exact}
use Rattle.gen_sinks.specs.Ranks.{rank_cmp, ranks_before, add_top, AreFirst, head_of}
use Rattle.gen_sinks.proofs.Ranking.{first_more, first_none, first_unique}
use Rattle.gen_sinks.proofs.AnyOrder.{add_swap, apart, same_fold}

-- ---- a strict total order
pub rank_total : (board : List (Option Tile)) → IsTotalOrder (rank_cmp board)
rank_total board =
    then_total (back_total (on_total (λ (g : Given). g.score) int_cmp_total)) (on_total (λ (g : Given). notation_of board g.tiles) written_total)

pub less : (o : Ordering) → is_lt o ≡ true → o ≡ Less
less Less e = refl
less Equal e = absurd (let h = e in cc)
less Greater e = absurd (let h = e in cc)

pub ranks_trans : (board : List (Option Tile)) (a b c : Given) → ranks_before board a b ≡ true → ranks_before board b c ≡ true → ranks_before board a c ≡ true
ranks_trans board a b c p q = ap is_lt ((rank_total board).trans a b c (less (rank_cmp board a b) p) (less (rank_cmp board b c) q))

pub ranks_never : (board : List (Option Tile)) (a : Given) → ranks_before board a a ≡ true → ⊥
ranks_never board a e =
    let tied = tied_itself (rank_total board) a in
    let same : Less ≡ Equal = sym (less (rank_cmp board a a) e) ∙ tied in cc

-- what the two orders say if the first play ranks before the second
parts : (o p : Ordering) → ordering_then o p ≡ Less → (o ≡ Less) ⊎ ((o ≡ Equal) × (p ≡ Less))
parts Less p e = inl refl
parts Equal p e = inr (refl, e)
parts Greater p e = absurd (let h : Greater ≡ Less = e in cc)

both_tied : (o p : Ordering) → ordering_then o p ≡ Equal → p ≡ Equal
both_tied Less p e = absurd (let h : Less ≡ Equal = e in cc)
both_tied Equal p e = e
both_tied Greater p e = absurd (let h : Greater ≡ Equal = e in cc)

less_score : (x y : ℤ) → int_cmp x y ≡ Less → x <ℤ y
less_score x y e = subst (λ (r : Ordering). MatchOrdering r (x <ℤ y) (x ≡ y) (y <ℤ x)) e (int_ranked x y (int_cmp x y) refl)

same_score : (x y : ℤ) → int_cmp x y ≡ Equal → x ≡ y
same_score x y e = subst (λ (r : Ordering). MatchOrdering r (x <ℤ y) (x ≡ y) (y <ℤ x)) e (int_ranked x y (int_cmp x y) refl)

-- a play and its score on a board, which is allowed there
abbrev IsScored : Rules → List (List ℕ) → List (Option Tile) → List ℕ → Given → Type 0
IsScored rules words board rack g = IsCandidate words board rack g.tiles × (g ≡ given_of rules board g.tiles)

-- of two that differ one ranks before the other
pub ranks_total : (rules : Rules) (words : List (List ℕ)) (board : List (Option Tile)) (rack : List ℕ) (a b : Given) → length board ≡ 225 → IsScored rules words board rack a
    → IsScored rules words board rack b → a ≢ b → (ranks_before board a b ≡ true) ⊎ (ranks_before board b a ≡ true)
ranks_total rules words board rack a b size scored_a scored_b differ = by (rank_cmp board a b) refl where
  by : (o : Ordering) → rank_cmp board a b ≡ o → (ranks_before board a b ≡ true) ⊎ (ranks_before board b a ≡ true)
  by Less e = inl (ap is_lt e)
  by Greater e = inr (ap is_lt ((rank_total board).antisymm b a ∙ ap ordering_reverse e))
  by Equal e =
      let v = notation_of board a.tiles in
      let w = notation_of board b.tiles in
      let same = written_exact v w (both_tied (int_cmp b.score a.score) (written_cmp v w) e) in
      let tiles = notation_differs scored_a.0.play.0 scored_b.0.play.0 board a.tiles b.tiles size scored_a.0.play.1 scored_b.0.play.1 scored_a.0.legal scored_b.0.legal same in
      absurd (differ (scored_a.1 ∙ ap (given_of rules board) tiles ∙ sym scored_b.1))

pos_less : (m n : ℕ) → pos m <ℤ pos n → m < n
pos_less m n h = omega (arith, ints)

pos_same : (m n : ℕ) → pos m ≡ pos n → m ≡ n
pos_same m n h = cc

-- what ranks before a candidate outranks it
outranks : (rules : Rules) (board : List (Option Tile)) (a b : List Placed) → ranks_before board (given_of rules board a) (given_of rules board b) ≡ true → Outranks rules board a b
outranks rules board a b e =
    ⊎_elim
    (λ (more : int_cmp (pos (score_of rules board b)) (pos (score_of rules board a)) ≡ Less). let s = less_score (pos (score_of rules board b)) (pos (score_of rules board a)) more in inl (pos_less (score_of rules board b) (score_of rules board a) s))
    (λ (tied : (int_cmp (pos (score_of rules board b)) (pos (score_of rules board a)) ≡ Equal) × (written_cmp (notation_of board a) (notation_of board b) ≡ Less)).
    let s = same_score (pos (score_of rules board b)) (pos (score_of rules board a)) tied.0 in inr (sym (pos_same (score_of rules board b) (score_of rules board a) s), tied.1))
    (parts (int_cmp (pos (score_of rules board b)) (pos (score_of rules board a))) (written_cmp (notation_of board a) (notation_of board b))
    (less (rank_cmp board (given_of rules board a) (given_of rules board b)) e))

-- ---- the first of all candidates
-- an element that is still to come differs from each that has come
comes_new : {A : Type 0} (done rest : List A) (x y : A) → AllPairs (λ a b. a ≢ b) (done ++ x ∷ rest) → Contains done y → x ≢ y
comes_new done rest x y once c same =
    let lt = c.1 in
    let long = length-append done (x ∷ rest) in
    let old : get_or (done ++ x ∷ rest) c.0 y ≡ y = get_or_append_left done (x ∷ rest) y c.0 lt ∙ c.2 in
    let new : get_or (done ++ x ∷ rest) (length done) y ≡ x = get_or_at done x rest y (length done) refl in
    let inside : length done < length (done ++ x ∷ rest) = omega arith in
    once c.0 (length done) y lt inside (old ∙ sym same ∙ sym new)

-- adding the rest of some elements that differ in pairs
add_rest : (rules : Rules) (words : List (List ℕ)) (board : List (Option Tile)) (rack : List ℕ) (n : ℕ) (done rest kept : List Given) → length board ≡ 225
    → ((g : Given) → Contains (done ++ rest) g → IsScored rules words board rack g) → AllPairs (λ a b. a ≢ b) (done ++ rest)
    → AreFirst n (ranks_before board) done kept → AreFirst n (ranks_before board) (done ++ rest) (fold (add_top n (ranks_before board)) kept rest)
add_rest rules words board rack n done [] kept size scored once first = subst (λ (all : List Given). AreFirst n (ranks_before board) all kept) (sym (append-nil done)) first
add_rest rules words board rack n done (x ∷ rest) kept size scored once first =
    let moved : done ++ x ∷ [] ++ rest ≡ done ++ x ∷ rest = append_assoc done (x ∷ []) rest in
    let next = first_more (ranks_before board) (ranks_trans board) n done kept x
    (λ y c. let old = first.some y c in ranks_total rules words board rack x y size
    (scored x (Contains-append_right done (x ∷ rest) x (Contains-here x rest)))
    (scored y (Contains-append_left done (x ∷ rest) y old)) (comes_new done rest x y once old)) first in
    subst (λ (all : List Given). AreFirst n (ranks_before board) all (fold (add_top n (ranks_before board)) (add_top n (ranks_before board) kept x) rest)) moved
    (add_rest rules words board rack n (done ++ x ∷ []) rest (add_top n (ranks_before board) kept x) size
    (subst (λ (all : List Given). (g : Given) → Contains all g → IsScored rules words board rack g) (sym moved) scored)
    (subst (λ (all : List Given). AllPairs (λ a b. a ≢ b) all) (sym moved) once) next)

scored_in : (rules : Rules) (words : List (List ℕ)) (board : List (Option Tile)) (rack : List ℕ) (all : List Given) → AreAll rules words board rack all
    → (g : Given) → Contains all g → IsScored rules words board rack g
scored_in rules words board rack all are g c = All-contains (λ (given : Given). IsScored rules words board rack given) all g are.sound c

pub added_are_first : (n : ℕ) (rules : Rules) (words : List (List ℕ)) (board : List (Option Tile)) (rack : List ℕ) (all : List Given) → length board ≡ 225
    → AreAll rules words board rack all → AreFirst n (ranks_before board) all (fold (add_top n (ranks_before board)) [] all)
added_are_first n rules words board rack all size are =
    add_rest rules words board rack n [] all [] size (scored_in rules words board rack all are) are.once (first_none (ranks_before board) n)

-- two lists of all candidates have the same elements
same_all : (rules : Rules) (words : List (List ℕ)) (board : List (Option Tile)) (rack : List ℕ) (all more : List Given) → AreAll rules words board rack all
    → AreAll rules words board rack more → (z : Given) → Contains all z → Contains more z
same_all rules words board rack all more are those z c =
    let scored = scored_in rules words board rack all are z c in
    subst (λ (g : Given). Contains more g) (sym scored.1) (those.complete z.tiles scored.0)

-- in whatever order they come, and whatever was kept before
pub order_no_matter : (n : ℕ) (rules : Rules) (words : List (List ℕ)) (board : List (Option Tile)) (rack : List ℕ) (kept all more : List Given) → length board ≡ 225
    → AreAll rules words board rack all → AreAll rules words board rack more
    → fold (add_top n (ranks_before board)) kept all ≡ fold (add_top n (ranks_before board)) kept more
order_no_matter n rules words board rack kept all more size are those =
    same_fold (add_top n (ranks_before board)) (IsScored rules words board rack)
    (λ held x y one other differ. add_swap (ranks_before board) (ranks_trans board) (ranks_never board) n held x y (ranks_total rules words board rack x y size one other differ))
    all more (apart all are.once) (apart more those.once) (scored_in rules words board rack all are) (same_all rules words board rack all more are those)
    (same_all rules words board rack more all those are) kept

pub firsts_are_one : (n : ℕ) (board : List (Option Tile)) (all more kept held : List Given) → ((given : Given) → Contains all given ↔ Contains more given)
    → AreFirst n (ranks_before board) all kept → AreFirst n (ranks_before board) more held → kept ≡ held
firsts_are_one n board all more kept held same =
    first_unique (ranks_before board) (ranks_never board) (ranks_trans board) n all more kept held (λ z. (same z).0) (λ z. (same z).1)

-- the first of all candidates is the best one
pub first_is_best : (rules : Rules) (words : List (List ℕ)) (board : List (Option Tile)) (rack : List ℕ) (all kept : List Given) → AreAll rules words board rack all
    → AreFirst 1 (ranks_before board) all kept → IsAnnotation rules words board rack (head_of kept)
first_is_best rules words board rack all [] are first = λ ps candidate.
    ⊎_elim
    (λ (c : Contains [] (given_of rules board ps)). let lt = c.1 in absurd (omega arith))
    (λ full. absurd (let h : 0 ≡ 1 = full.0 in omega arith))
    (first.others (given_of rules board ps) (are.complete ps candidate))
first_is_best rules words board rack all (g ∷ rest) are first =
    let scored = scored_in rules words board rack all are g (first.some g (Contains-here g rest)) in (
      record {
        candidate = scored.0;
        outranks = λ qs candidate.
            let q = given_of rules board qs in
            ⊎_elim
            (λ (c : Contains (g ∷ rest) q).
            ⊎_elim
            (λ (e : g ≡ q). inl (sym (ap (λ (h : Given). h.tiles) e)))
            (λ (r : Contains rest q). let lt = r.1 in let few = first.few in absurd (omega arith))
            (Contains-cases g rest q c))
            (λ (full : (length (g ∷ rest) ≡ 1) × ((k : Given) → Contains (g ∷ rest) k → ranks_before board k q ≡ true)).
            inr (outranks rules board g.tiles qs (subst (λ (h : Given). ranks_before board h q ≡ true) scored.1 (full.1 g (Contains-here g rest)))))
            (first.others q (are.complete qs candidate));
      },
      scored.1,
    )
