-- Rows of a walk, place by place.
use Rattle.std.proofs.Common.{◌≡◌, ◌⊎◌, inl, inr, ℕ, zero, suc, ◌+◌, ◌<◌, ◌≤◌, List, [], ◌∷◌, ◌++◌, length, slice_get, Some, refl, sym, ap, ◌∙◌, subst, arith}
use Rattle.std.specs.List.{list_all}
use Rattle.std.proofs.lemmas.Option.{same_Some, slice_get_within}
use Rattle.ref_tiles.specs.declared.rulebook.Rules.{Rules}
use Rattle.lex_list.specs.Words.{is_listed}
use Rattle.gcg_read.specs.declared.events.Event.{Event}
use Rattle.game_turns.specs.Tallies.{State}
use Rattle.game_turns.specs.LatestEvents.{standing_words}
use Rattle.game_corrections.specs.Mending.{IsMendedAt}
use Rattle.game_corrections.proofs.Sheets.{tally_kept}
use Rattle.game_walk.specs.declared.rows.Row.{Row}
use Rattle.game_walk.specs.Rows.{IsRowAt, AreRowsTo}

-- ---- lists with one more item

append_within : {X : Type 0} (xs : List X) (x y : X) (k : ℕ) → slice_get (xs ++ x ∷ []) k ≡ Some y → k < length xs → slice_get xs k ≡ Some y
append_within [] x y k is within = absurd (omega arith)
append_within (z ∷ xs) x y zero is within = is
append_within (z ∷ xs) x y (suc k) is within = append_within xs x y k is (omega arith)

append_last : {X : Type 0} (xs : List X) (x y : X) (k : ℕ) → slice_get (xs ++ x ∷ []) k ≡ Some y → length xs ≤ k → (k ≡ length xs) × (x ≡ y)
append_last [] x y zero is past = (refl, same_Some x y is)
append_last [] x y (suc k) is past = cc
append_last (z ∷ xs) x y zero is past = absurd (omega arith)
append_last (z ∷ xs) x y (suc k) is past = let rest = append_last xs x y k is (omega arith) in (ap suc rest.0, rest.1)

append_long : {X : Type 0} (xs : List X) (x : X) → length (xs ++ x ∷ []) ≡ length xs + 1
append_long [] x = refl
append_long (z ∷ xs) x = let rest = append_long xs x in omega (arith, rest)

-- ---- rows

-- what is done to an event after a row does not change the row
row_kept : (rules : Rules) (list : List (List ℕ)) (written a b : List Event) (place k : ℕ) (row : Row) → IsMendedAt a b place → k < place → IsRowAt rules list written a k row
    → IsRowAt rules list written b k row
row_kept rules list written a b place k row is below at =
    let kept = tally_kept rules a b place (k + 1) is (omega arith) in
    record {
      own = at.own;
      event = at.event;
      stood = at.stood;
      stands = is.others k (λ same. absurd (omega (arith, same))) ∙ at.stands;
      own_numbers = at.own_numbers;
      right_numbers = at.right_numbers;
      by = at.by;
      following = at.following ∙ sym kept;
      listed = at.listed ∙ ap (λ (s : State). list_all (is_listed list) (standing_words s.latest)) (sym kept);
    }

each_more : (rules : Rules) (list : List (List ℕ)) (written a b : List Event) (place : ℕ) (rows : List Row) (row : Row) → AreRowsTo rules list written a place rows → IsMendedAt a b place
    → IsRowAt rules list written b place row → (k : ℕ) (x : Row) → slice_get (rows ++ row ∷ []) k ≡ Some x → (k < length rows) ⊎ (length rows ≤ k) → IsRowAt rules list written b k x
each_more rules list written a b place rows row are is at k x there (inl below) =
    let size = are.as_many in
    row_kept rules list written a b place k x is (omega (arith, size)) (are.each k x (append_within rows row x k there below))
each_more rules list written a b place rows row are is at k x there (inr past) =
    let last = append_last rows row x k there past in
    subst (λ n. IsRowAt rules list written b n x) (sym (last.0 ∙ are.as_many)) (subst (λ (r : Row). IsRowAt rules list written b place r) last.1 at)

further : (k n : ℕ) → (k < n) ⊎ (n ≤ k) → (suc k < suc n) ⊎ (suc n ≤ suc k)
further k n (inl below) = inl (omega arith)
further k n (inr past) = inr (omega arith)

below_or_past : (k n : ℕ) → (k < n) ⊎ (n ≤ k)
below_or_past k zero = inr (omega arith)
below_or_past zero (suc n) = inl (omega arith)
below_or_past (suc k) (suc n) = further k n (below_or_past k n)

no_item : (k : ℕ) (x : Row) → slice_get [] k ≡ Some x → ⊥
no_item k x there = cc

pub no_rows : (rules : Rules) (list : List (List ℕ)) (events : List Event) → AreRowsTo rules list events events 0 []
no_rows rules list events = record { as_many = refl; each = λ k x there. absurd (no_item k x there) }

-- one more row
pub rows_more : (rules : Rules) (list : List (List ℕ)) (written a b : List Event) (place : ℕ) (rows more : List Row) (row : Row) → AreRowsTo rules list written a place rows
    → IsMendedAt a b place → IsRowAt rules list written b place row → more ≡ rows ++ row ∷ [] → AreRowsTo rules list written b (place + 1) more
rows_more rules list written a b place rows more row are is at pushed =
    subst (λ xs. AreRowsTo rules list written b (place + 1) xs) (sym pushed)
    (record {
      as_many = append_long rows row ∙ ap (λ n. n + 1) are.as_many;
      each = λ k x there. each_more rules list written a b place rows row are is at k x there (below_or_past k (length rows));
    })

-- the rows so far, if the event at the next place was changed
pub rows_kept : (rules : Rules) (list : List (List ℕ)) (written a b : List Event) (place : ℕ) (rows : List Row) → AreRowsTo rules list written a place rows → IsMendedAt a b place
    → AreRowsTo rules list written b place rows
rows_kept rules list written a b place rows are is =
    record {
      as_many = are.as_many;
      each = λ k x there.
          let size = are.as_many in
          let within = slice_get_within rows k x there in
          row_kept rules list written a b place k x is (omega (arith, size, within)) (are.each k x there);
    }
