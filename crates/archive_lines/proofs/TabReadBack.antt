-- A reader gets the fields of a line back.
use Rattle.std.proofs.Common.{◌≡◌, ℕ, ◌==◌, Bool, true, false, not, List, [], ◌∷◌, get_or, map, refl, ap, ◌∙◌}
use Rattle.std.specs.List.{All, list_all}
use Rattle.std.proofs.lemmas.List.Folds.{list_all-append}
use Rattle.std.proofs.lemmas.List.Sums.{AllPass-from_list_all}
use Rattle.std.proofs.lemmas.List.Splits.{slice_split_none, slice_split_at}
use Rattle.archive_lines.specs.TabLines.{escaped, joined, unescaped, is_tab}
use Rattle.archive_lines.specs.TabLaws.{IsReadBack, IsOneLine}
use Rattle.archive_lines.proofs.Escapes.{undone, kept}

not_true : (b : Bool) → not b ≡ true → b ≡ false
not_true true e = absurd cc
not_true false e = refl

is_not : (b : Bool) → b ≡ false → not b ≡ true
is_not b e = rw e refl

no_tab : (text : List ℕ) → All (λ byte. is_tab byte ≡ false) (escaped text)
no_tab text =
    let all : list_all (λ byte. not (is_tab byte)) (escaped text) ≡ true = kept (λ byte. not (is_tab byte)) refl refl refl (λ byte t l. is_not (byte == 9) t) text in
    λ k d lt. not_true (is_tab (get_or (escaped text) k d)) (AllPass-from_list_all (λ byte. not (is_tab byte)) (escaped text) all k d lt)

pub read_back : IsReadBack
read_back field [] = ap (map unescaped) (slice_split_none is_tab (escaped field) (no_tab field)) ∙ ap (λ f. f ∷ []) (undone field)
read_back field (next ∷ fields) =
    ap (map unescaped) (slice_split_at is_tab (escaped field) 9 (joined (next ∷ fields)) (no_tab field) refl)
    ∙ rw (undone field, read_back next fields) refl

no_feed : (text : List ℕ) → list_all (λ byte. not (byte == 10)) (escaped text) ≡ true
no_feed text = kept (λ byte. not (byte == 10)) refl refl refl (λ byte t l. is_not (byte == 10) l) text

pub one_line : IsOneLine
one_line [] = refl
one_line (field ∷ []) = no_feed field
one_line (field ∷ next ∷ fields) =
    list_all-append (λ byte. not (byte == 10)) (escaped field) (9 ∷ joined (next ∷ fields)) ∙ rw (no_feed field, one_line (next ∷ fields)) refl
