-- Lists in which no element comes before the one in front of it, by a total order: what does not come before the last one comes
-- after them all, and one more element at its place leaves them so.
use Rattle.std.proofs.Common.{◌≡◌, ℕ, zero, suc, ◌-◌, ◌<◌, ℤ, Bool, true, false, not, IsTrue, List, [], ◌∷◌, map, length, get_or, take, refl, sym, ap, ◌∙◌, arith, Option, if◌then◌else◌}
use Rattle.std.specs.declared.cmp.Ordering.{Ordering}
use Rattle.std.specs.declared.cmp.Ordering.TheVariants.{Less, Equal, Greater}
use Rattle.std.specs.Ordering.{ordering_reverse, is_lt}
use Rattle.std.proofs.lemmas.Bool.{and_parts, and_from, false≢true}
use Rattle.ref_tiles.specs.declared.tiles.Tile.{Tile}
use Rattle.ref_play.specs.declared.plays.Play.{Play}
use Rattle.ref_play.specs.Best.{Given}
use Rattle.gen_sinks.specs.Sinks.{seen_pair}
use Rattle.gen_sinks.specs.Ranks.{rank_cmp, ranks_before, put_in, may_lead, in_turn}
use Rattle.gen_sinks.proofs.RankOrder.{rank_total, less}

pub not_so : (b : Bool) → not b ≡ true → b ≡ false
not_so false e = refl
not_so true e = absurd (false≢true e)

module _ (board : List (Option Tile)) where
  -- of two in turn, what does not come before the second does not come before the first
  not_first : (x y z : Given) → ranks_before board z y ≡ false → ranks_before board x z ≡ false → ranks_before board x y ≡ false
  not_first x y z second first = by (rank_cmp board x y) (rank_cmp board z y) refl refl
    where
      by : (o p : Ordering) → rank_cmp board x y ≡ o → rank_cmp board z y ≡ p → ranks_before board x y ≡ false
      by Less Less e f = absurd (false≢true (sym second ∙ ap is_lt f))
      by Less Equal e f =
          let same : rank_cmp board x z ≡ Less = (rank_total board).antisymm x z ∙ ap ordering_reverse ((rank_total board).congr z y x f) ∙ sym ((rank_total board).antisymm x y) ∙ e in
          absurd (false≢true (sym first ∙ ap is_lt same))
      by Less Greater e f =
          let after : rank_cmp board y z ≡ Less = (rank_total board).antisymm y z ∙ ap ordering_reverse f in
          absurd (false≢true (sym first ∙ ap is_lt ((rank_total board).trans x y z e after)))
      by Equal p e f = ap is_lt e
      by Greater p e f = ap is_lt e

  not_back : (x y : Given) → ranks_before board x y ≡ true → ranks_before board y x ≡ false
  not_back x y e = ap is_lt ((rank_total board).antisymm y x ∙ ap ordering_reverse (less (rank_cmp board x y) e))

  -- ---- after them all
  abbrev last_or : Play × ℤ → List (Play × ℤ) → Play × ℤ
  last_or p [] = p
  last_or p (q ∷ qs) = last_or q qs

  last_or-at : (p : Play × ℤ) (ps : List (Play × ℤ)) (d : Play × ℤ) → get_or (p ∷ ps) (length ps) d ≡ last_or p ps
  last_or-at p [] d = refl
  last_or-at p (q ∷ qs) d = last_or-at q qs d

  all_after : (x : Given) (p : Play × ℤ) (ps : List (Play × ℤ)) → IsTrue (in_turn (ranks_before board) (map seen_pair (p ∷ ps)))
      → ranks_before board x (seen_pair (last_or p ps)) ≡ false → (place : ℕ) (d : Play × ℤ) → place < length (p ∷ ps)
      → ranks_before board x (seen_pair (get_or (p ∷ ps) place d)) ≡ false
  unfolding in_turn
  all_after x p [] turn following zero d lt = following
  all_after x p [] turn following (suc place) d lt = absurd (omega arith)
  all_after x p (q ∷ qs) turn following zero d lt =
      let parts = and_parts (not (ranks_before board (seen_pair q) (seen_pair p))) (in_turn (ranks_before board) (map seen_pair (q ∷ qs))) turn in
      not_first x (seen_pair p) (seen_pair q) (not_so (ranks_before board (seen_pair q) (seen_pair p)) parts.0) (all_after x q qs parts.1 following zero d (omega arith))
  all_after x p (q ∷ qs) turn following (suc place) d lt =
      let parts = and_parts (not (ranks_before board (seen_pair q) (seen_pair p))) (in_turn (ranks_before board) (map seen_pair (q ∷ qs))) turn in
      all_after x q qs parts.1 following place d (omega arith)

  pub after_last : (x : Given) (kept : List (Play × ℤ)) (last : Play × ℤ) → IsTrue (in_turn (ranks_before board) (map seen_pair kept)) → last ≡ get_or kept (length kept - 1) last
      → ranks_before board x (seen_pair last) ≡ false → (place : ℕ) (d : Play × ℤ) → place < length kept → ranks_before board x (seen_pair (get_or kept place d)) ≡ false
  after_last x [] last turn is following place d lt = absurd (omega arith)
  after_last x (p ∷ ps) last turn is following place d lt =
      let at : length (p ∷ ps) - 1 ≡ length ps = omega arith in
      let found : last ≡ last_or p ps = is ∙ ap (λ i. get_or (p ∷ ps) i last) at ∙ last_or-at p ps last in
      all_after x p ps turn (ap (λ (one : Play × ℤ). ranks_before board x (seen_pair one)) (sym found) ∙ following) place d lt

  -- ---- one more element
  put_leads : (x y : Given) (ys : List Given) → may_lead (ranks_before board) y ys ≡ true → ranks_before board x y ≡ false
      → may_lead (ranks_before board) y (put_in (ranks_before board) x ys) ≡ true
  put_leads x y [] leads e = ap not e
  put_leads x y (z ∷ zs) leads e = by (ranks_before board x z) where
    by : (b : Bool) → may_lead (ranks_before board) y (if b then x ∷ z ∷ zs else z ∷ put_in (ranks_before board) x zs) ≡ true
    by true = ap not e
    by false = leads

  put_turn : (x : Given) (ys : List Given) → IsTrue (in_turn (ranks_before board) ys) → IsTrue (in_turn (ranks_before board) (put_in (ranks_before board) x ys))
  unfolding in_turn
  put_turn x [] turn = refl
  put_turn x (y ∷ ys) turn =
      let parts = and_parts (may_lead (ranks_before board) y ys) (in_turn (ranks_before board) ys) turn in
      by (ranks_before board x y) refl (put_leads x y ys parts.0) (put_turn x ys parts.1)
    where
      by : (b : Bool) → ranks_before board x y ≡ b
          → (ranks_before board x y ≡ false → may_lead (ranks_before board) y (put_in (ranks_before board) x ys) ≡ true)
          → IsTrue (in_turn (ranks_before board) (put_in (ranks_before board) x ys))
          → IsTrue (in_turn (ranks_before board) (if b then x ∷ y ∷ ys else y ∷ put_in (ranks_before board) x ys))
      by true e leads rest = and_from (not (ranks_before board y x)) (in_turn (ranks_before board) (y ∷ ys)) (ap not (not_back x y e)) turn
      by false e leads rest =
          and_from (may_lead (ranks_before board) y (put_in (ranks_before board) x ys)) (in_turn (ranks_before board) (put_in (ranks_before board) x ys)) (leads e) rest

  take_leads : (n : ℕ) (y : Given) (ys : List Given) → may_lead (ranks_before board) y ys ≡ true → may_lead (ranks_before board) y (take n ys) ≡ true
  take_leads zero y ys leads = refl
  take_leads (suc n) y [] leads = refl
  take_leads (suc n) y (z ∷ zs) leads = leads

  take_turn : (n : ℕ) (ys : List Given) → IsTrue (in_turn (ranks_before board) ys) → IsTrue (in_turn (ranks_before board) (take n ys))
  unfolding in_turn
  take_turn zero ys turn = refl
  take_turn (suc n) [] turn = refl
  take_turn (suc n) (y ∷ ys) turn =
      let parts = and_parts (may_lead (ranks_before board) y ys) (in_turn (ranks_before board) ys) turn in
      and_from (may_lead (ranks_before board) y (take n ys)) (in_turn (ranks_before board) (take n ys)) (take_leads n y ys parts.0) (take_turn n ys parts.1)

  -- the first `n` with one more element stay in turn
  pub top_turn : (n : ℕ) (x : Given) (ys : List Given) → IsTrue (in_turn (ranks_before board) ys) → IsTrue (in_turn (ranks_before board) (take n (put_in (ranks_before board) x ys)))
  top_turn n x ys turn = take_turn n (put_in (ranks_before board) x ys) (put_turn x ys turn)
