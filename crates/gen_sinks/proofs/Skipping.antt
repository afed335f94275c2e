-- A play that scores less than all of a full list does not change it.
use Rattle.std.proofs.Common.{◌≡◌, ℕ, ℤ, ◌<ℤ◌, ◌≤ℤ◌, false, List, map, length, get_or, take, insert, refl, sym, ap, ◌∙◌, arith, ⊎_elim, Option, Some}
use Rattle.std.specs.declared.cmp.Ordering.{Ordering}
use Rattle.std.specs.declared.cmp.Ordering.TheVariants.{Less, Equal, Greater}
use Rattle.ref_board.specs.declared.directions.Dir.TheVariants.{Across, Down}
use Rattle.std.specs.Ordering.{int_cmp, ordering_then, is_lt}
use Rattle.std.proofs.lemmas.Cmp.{int_ranked}
use Rattle.std.proofs.lemmas.Int.{ints}
use Rattle.std.proofs.lemmas.List.{length-map}
use Rattle.ref_tiles.specs.declared.tiles.Tile.{Tile}
use Rattle.ref_play.specs.declared.plays.Play.{Play}
use Rattle.ref_play.specs.Notations.{Written, notation_of, written_cmp}
use Rattle.ref_play.specs.Best.{Given}
use Rattle.gen_sinks.specs.Sinks.{seen_pair}
use Rattle.gen_sinks.specs.Ranks.{ranks_before, add_top}
use Rattle.gen_sinks.specs.Skips.{AllAbove, IsBeforeDown, AllBeforeDown, GoesDown}
use Rattle.gen_sinks.proofs.Keeping.{put_there, insert_after}

-- a play that scores less than another does not rank before it
lower : (x y : ℤ) (o p : Ordering) → int_cmp y x ≡ o → x <ℤ y → is_lt (ordering_then o p) ≡ false
lower x y Less p e less = absurd (let more : y <ℤ x = int_ranked y x Less (sym e) in omega (arith, ints))
lower x y Equal p e less = absurd (let same : y ≡ x = int_ranked y x Equal (sym e) in omega (arith, ints))
lower x y Greater p e less = refl

not_before : (board : List (Option Tile)) (a b : Given) → a.score <ℤ b.score → ranks_before board a b ≡ false
not_before board a b less = lower a.score b.score (int_cmp b.score a.score) (written_cmp (notation_of board a.tiles) (notation_of board b.tiles)) refl less

pub still_kept : (n : ℕ) (board : List (Option Tile)) (kept : List (Play × ℤ)) (bound : ℤ) (given : Given) → length kept ≡ n → AllAbove bound kept → given.score ≤ℤ bound
    → add_top n (ranks_before board) (map seen_pair kept) given ≡ map seen_pair kept
still_kept n board kept bound given full above low =
    let size : length (map seen_pair kept) ≡ n = length-map kept seen_pair ∙ full in
    ap (take n)
    (put_there (ranks_before board) seen_pair given kept (length kept) (omega arith)
    (λ k d lt. not_before board given (seen_pair (get_or kept k d)) (let more = above k d lt in omega (arith, ints)))
    (λ d lt. absurd (omega arith)))
    ∙ ap (λ m. take n (insert (map seen_pair kept) m given)) full
    ∙ sym (insert_after n (map seen_pair kept) given size)

-- ---- plays that are written down
-- a play that scores less than another, or as much and comes after it
no_higher : (x y : ℤ) (o p : Ordering) → int_cmp y x ≡ o → x ≤ℤ y → is_lt p ≡ false → is_lt (ordering_then o p) ≡ false
no_higher x y Less p e le following = absurd (let more : y <ℤ x = int_ranked y x Less (sym e) in omega (arith, ints))
no_higher x y Equal p e le following = following
no_higher x y Greater p e le following = refl

down_after : (a b : Written) → a.dir ≡ Down → b.dir ≡ Across → is_lt (written_cmp a b) ≡ false
down_after a b down across = rw (down, across) refl

not_before_down : (board : List (Option Tile)) (bound : ℤ) (given : Given) (kept : Play × ℤ) → GoesDown (Some board) given → given.score ≤ℤ bound → IsBeforeDown board bound kept
    → ranks_before board given (seen_pair kept) ≡ false
not_before_down board bound given kept down low before =
    ⊎_elim
    (λ (above : bound <ℤ kept.1). not_before board given (seen_pair kept) (omega (arith, ints)))
    (λ as_much.
    let same : kept.1 ≡ bound = as_much.0 in
    no_higher given.score kept.1 (int_cmp kept.1 given.score) (written_cmp (notation_of board given.tiles) (notation_of board kept.0.tiles.items)) refl (omega (arith, ints))
    (down_after (notation_of board given.tiles) (notation_of board kept.0.tiles.items) down as_much.1))
    before

pub still_kept_down : (n : ℕ) (board : List (Option Tile)) (kept : List (Play × ℤ)) (bound : ℤ) (given : Given) → length kept ≡ n → AllBeforeDown board bound kept → GoesDown (Some board) given
    → given.score ≤ℤ bound → add_top n (ranks_before board) (map seen_pair kept) given ≡ map seen_pair kept
still_kept_down n board kept bound given full before down low =
    let size : length (map seen_pair kept) ≡ n = length-map kept seen_pair ∙ full in
    ap (take n)
    (put_there (ranks_before board) seen_pair given kept (length kept) (omega arith)
    (λ k d lt. not_before_down board bound given (get_or kept k d) down low (before k d lt))
    (λ d lt. absurd (omega arith)))
    ∙ ap (λ m. take n (insert (map seen_pair kept) m given)) full
    ∙ sym (insert_after n (map seen_pair kept) given size)
