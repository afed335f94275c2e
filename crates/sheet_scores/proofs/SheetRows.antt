-- The rows of a score sheet, place by place.
use Rattle.std.proofs.Common.{Bor, ◌≡◌, ◌⊎◌, inl, inr, ℕ, zero, suc, ◌+◌, ◌<◌, ◌≤◌, nat_lt, List, [], ◌∷◌, ◌++◌, length, get_or, slice_get, Option, Some, None, is_some, IfSome, refl, sym, ap, ◌∙◌, subst, arith}
use Rattle.std.specs.Option.{option_copied}
use Rattle.std.proofs.lemmas.Bool.{ltb-false, ltb-true}
use Rattle.std.proofs.lemmas.Option.{same_Some, slice_get_past, slice_get_read}
use Rattle.ref_tiles.specs.declared.rulebook.Rules.{Rules}
use Rattle.gcg_read.specs.declared.events.Event.{Event}
use Rattle.sheet_scores.specs.declared.rows.SheetRow.{SheetRow}
use Rattle.sheet_scores.specs.Rows.{IsSheetRowAt, AreSheetRows}

append_within : {X : Type 0} (xs : List X) (x y : X) (k : ℕ) → slice_get (xs ++ x ∷ []) k ≡ Some y → k < length xs → slice_get xs k ≡ Some y
append_within [] x y k is within = absurd (omega arith)
append_within (z ∷ xs) x y zero is within = is
append_within (z ∷ xs) x y (suc k) is within = append_within xs x y k is (omega arith)

append_last : {X : Type 0} (xs : List X) (x y : X) (k : ℕ) → slice_get (xs ++ x ∷ []) k ≡ Some y → length xs ≤ k → (k ≡ length xs) × (x ≡ y)
append_last [] x y zero is past = (refl, same_Some x y is)
append_last [] x y (suc k) is past = cc
append_last (z ∷ xs) x y zero is past = absurd (omega arith)
append_last (z ∷ xs) x y (suc k) is past = let rest = append_last xs x y k is (omega arith) in (ap suc rest.0, rest.1)

append_long : {X : Type 0} (xs : List X) (x : X) → length (xs ++ x ∷ []) ≡ length xs + 1
append_long [] x = refl
append_long (z ∷ xs) x = let rest = append_long xs x in omega (arith, rest)

further : (k n : ℕ) → (k < n) ⊎ (n ≤ k) → (suc k < suc n) ⊎ (suc n ≤ suc k)
further k n (inl below) = inl (omega arith)
further k n (inr past) = inr (omega arith)

below_or_past : (k n : ℕ) → (k < n) ⊎ (n ≤ k)
below_or_past k zero = inr (omega arith)
below_or_past zero (suc n) = inl (omega arith)
below_or_past (suc k) (suc n) = further k n (below_or_past k n)

-- What is said of each item of a list by its place, and of one more item.
each_more : {X : Type 0} (says : ℕ → X → Type 0) (xs : List X) (x y : X) (k : ℕ) → ((place : ℕ) (z : X) → slice_get xs place ≡ Some z → says place z) → says (length xs) x
    → slice_get (xs ++ x ∷ []) k ≡ Some y → (k < length xs) ⊎ (length xs ≤ k) → says k y
each_more says xs x y k each last there (inl below) = each k y (append_within xs x y k there below)
each_more says xs x y k each last there (inr past) =
    let at = append_last xs x y k there past in
    subst (λ n. says n y) (sym at.0) (subst (says (length xs)) at.1 last)

pub one_more : {X : Type 0} (says : ℕ → X → Type 0) (xs : List X) (x : X) → ((place : ℕ) (z : X) → slice_get xs place ≡ Some z → says place z) → says (length xs) x
    → (place : ℕ) (y : X) → slice_get (xs ++ x ∷ []) place ≡ Some y → says place y
one_more says xs x each last place y there = each_more says xs x y place each last there (below_or_past place (length xs))

pub one_longer : {X : Type 0} (xs : List X) (x : X) → length (xs ++ x ∷ []) ≡ length xs + 1
one_longer xs x = append_long xs x

no_item : {X : Type 0} (k : ℕ) (x : X) → slice_get [] k ≡ Some x → ⊥
no_item k x there = cc

pub none_yet : {X : Type 0} (says : ℕ → X → Type 0) (place : ℕ) (y : X) → slice_get [] place ≡ Some y → says place y
none_yet says place y there = absurd (no_item place y there)

pub no_rows : (rules : Rules) (list : List (List ℕ)) (written right : List Event) → AreSheetRows rules list written right 0 []
no_rows rules list written right = record { as_many = refl; each = none_yet (IsSheetRowAt rules list written right) }

-- one more row
pub rows_more : (rules : Rules) (list : List (List ℕ)) (written right : List Event) (place : ℕ) (rows more : List SheetRow) (row : SheetRow) → AreSheetRows rules list written right place rows
    → IsSheetRowAt rules list written right place row → more ≡ rows ++ row ∷ [] → AreSheetRows rules list written right (place + 1) more
rows_more rules list written right place rows more row are at pushed =
    subst (λ xs. AreSheetRows rules list written right (place + 1) xs) (sym pushed)
    (record {
      as_many = one_longer rows row ∙ ap (λ n. n + 1) are.as_many;
      each = one_more (IsSheetRowAt rules list written right) rows row are.each (subst (λ n. IsSheetRowAt rules list written right n row) (sym are.as_many) at);
    })

-- ---- the row at a place

pub copied_sheet_row : (rows : List SheetRow) (place : ℕ) (o : Option (Bor SheetRow)) → is_some o ≡ nat_lt place (length rows) → IfSome o (λ x. x.now ≡ get_or rows place x.now)
    → option_copied o ≡ slice_get rows place
copied_sheet_row rows place None there item = sym (slice_get_past rows place (ltb-false place (length rows) (sym there)))
copied_sheet_row rows place (Some x) there item = sym (slice_get_read rows (length rows) place x.now refl (ltb-true place (length rows) (sym there)) item)
