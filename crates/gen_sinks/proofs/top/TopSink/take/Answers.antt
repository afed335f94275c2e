use Rattle.std.proofs.Common.{◌≡◌, IsTrue, ℕ, ℤ, Bool, List, map, take, insert, sym, ap, subst, ◌∙◌, to_z, of_z, w32, to_z-of_z}
use Rattle.ref_play.specs.declared.plays.Play.{Play}
use Rattle.ref_play.specs.Legality.{IsLegal}
use Rattle.ref_play.specs.Best.{Given}
use Rattle.gen_sinks.specs.Sinks.{seen, seen_pair}
use Rattle.gen_sinks.specs.Ranks.{ranks_before, put_in, in_turn}
use Rattle.gen_sinks.specs.Legals.{are_legal}
use Rattle.gen_sinks.proofs.Keeping.{seen_insert, legal_insert}
use Rattle.gen_sinks.proofs.Turns.{top_turn}
use Rattle.gen_sinks.proofs.top.TopSink.take.Goals as goal

-- a play put at the place that it has, as it is seen
shown : (n : ℕ) (before : Given → Given → Bool) (kept new : List (Play × ℤ)) (play copy : Play) (place : ℕ) (score : ℤ) → copy ≡ play
    → new ≡ take n (insert kept place (copy, score)) → put_in before (seen play score) (map seen_pair kept) ≡ insert (map seen_pair kept) place (seen play score)
    → map seen_pair new ≡ take n (put_in before (seen play score) (map seen_pair kept))
shown n before kept new play copy place score same is there =
    ap (map seen_pair) is
    ∙ seen_insert seen_pair n kept place (copy, score)
    ∙ ap (λ (one : Play). take n (insert (map seen_pair kept) place (seen one score))) same
    ∙ ap (take n) (sym there)

pub invariant_of-self : goal.invariant_of-self
invariant_of-self g c =
    let board = c.args.self.now.board in
    let before = ranks_before board in
    let kept = c.args.self.now.kept.items in
    let play = c.args.play.now in
    let place = c.place_of-place.result in
    let score = to_z w32 (of_z w32 c.args.score) in
    let new = subst (λ (play : Play). IsLegal board play.tiles.items) (sym c.copy.ensures) c.requires in
    let there : put_in before (seen play score) (map seen_pair kept) ≡ insert (map seen_pair kept) place (seen play score) =
    subst (λ (ys : List (Play × ℤ)). put_in before (seen play score) (map seen_pair ys) ≡ insert (map seen_pair ys) place (seen play score)) c.deref.ensures.0
    c.place_of-place.ensures.place in
    record {
      legal = subst (λ (items : List (Play × ℤ)). IsTrue (are_legal board items)) (sym c.put_at.ensures)
          (legal_insert board g.row.N kept place (c.copy.result, score) c.law_of_squares.ensures c.args.self.now.legal new);
      turn = subst (λ (items : List Given). IsTrue (in_turn before items)) (sym (shown g.row.N before kept _ play c.copy.result place score c.copy.ensures c.put_at.ensures there))
          (top_turn board g.row.N (seen play score) (map seen_pair kept) c.args.self.now.turn);
    }

pub returns-clause-taken : goal.returns-clause-taken
returns-clause-taken g c =
    let before = ranks_before c.args.self.now.board in
    let items = c.args.self.now.kept.items in
    let play = c.args.play.now in
    let place = c.place_of-place.result in
    let score = to_z w32 (of_z w32 c.args.score) in
    let there : put_in before (seen play score) (map seen_pair items) ≡ insert (map seen_pair items) place (seen play score) =
    subst (λ (ys : List (Play × ℤ)). put_in before (seen play score) (map seen_pair ys) ≡ insert (map seen_pair ys) place (seen play score)) c.deref.ensures.0
    c.place_of-place.ensures.place in
    shown g.row.N before items _ play c.copy.result place score c.copy.ensures c.put_at.ensures there
    ∙ ap (λ (s : ℤ). take g.row.N (put_in before (seen play s) (map seen_pair items))) (to_z-of_z c.ranges.score)
