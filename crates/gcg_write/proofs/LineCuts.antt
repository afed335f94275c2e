-- Lines as they are written, cut again.
use Rattle.std.proofs.Common.{◌≡◌, ℕ, suc, ◌-◌, ◌<◌, ◌⊎◌, Bool, false, eqb, List, [], ◌∷◌, ◌++◌, length, take, drop, map, if◌then◌else◌, arith, sym, ap, subst, refl, ◌∙◌, inl, inr}
use Rattle.std.specs.List.{slice_split, ends_with}
use Rattle.std.proofs.lemmas.List.{append_assoc}
use Rattle.std.proofs.lemmas.Bool.Decides.{nat_tests}
use lib.Pointwise.{pointwise}
use Rattle.gcg_read.specs.Cutting.{is_feed, without_mark, without_return, lines_in, lines_of}
use Rattle.gcg_write.specs.Normal.{text_of_lines}
use Rattle.gcg_write.proofs.Each.{Each, each_drop}
use Rattle.gcg_write.proofs.Entries.{IsInk}
use Rattle.gcg_write.proofs.Splitting.{Fails, split_next}

-- a CR at the end
abbrev pub returns : List ℕ → Bool
returns line = ends_with eqb line (13 ∷ [])

-- '#' (35) or '>' (62) at the front
abbrev pub Leads : List ℕ → Type 0
Leads [] = ⊥
Leads (byte ∷ bytes) = (byte ≡ 35) ⊎ (byte ≡ 62)

pub record IsLine (line : List ℕ) : Type 0 where
  pub one : Each (Fails is_feed) line
  pub ends : returns line ≡ false
  pub leads : Leads line

-- ---- the end of a line

last_bytes : (x : ℕ) (zs : List ℕ) → 0 < length zs → drop (length zs) (x ∷ zs) ≡ drop (length zs - 1) zs
last_bytes x [] some = absurd (omega arith)
last_bytes x (z ∷ zs) some = ap (λ k. drop k (z ∷ zs)) (omega arith)

some_after : (xs ys : List ℕ) → 0 < length ys → 0 < length (xs ++ ys)
some_after [] ys some = some
some_after (x ∷ xs) ys some = omega arith

end_of : (xs ys : List ℕ) → 0 < length ys → drop (length (xs ++ ys) - 1) (xs ++ ys) ≡ drop (length ys - 1) ys
end_of [] ys some = refl
end_of (x ∷ xs) ys some =
    let back : suc (length (xs ++ ys)) - 1 ≡ length (xs ++ ys) = omega arith in
    ap (λ k. drop k (x ∷ (xs ++ ys))) back ∙ last_bytes x (xs ++ ys) (some_after xs ys some) ∙ end_of xs ys some

-- what follows decides how a line ends
pub ends_after : (xs ys : List ℕ) → 0 < length ys → returns (xs ++ ys) ≡ returns ys
ends_after xs ys some = ap (pointwise eqb (13 ∷ [])) (end_of xs ys some)

ink_ends : (ys : List ℕ) → Each IsInk ys → pointwise eqb (13 ∷ []) ys ≡ false
ink_ends [] h = refl
ink_ends (y ∷ ys) h =
    let other : eqb 13 y ≡ false = let ink = h.0 in grind (arith, nat_tests) in
    rw other refl

pub ends_in_ink : (ys : List ℕ) → Each IsInk ys → returns ys ≡ false
ends_in_ink ys h = ink_ends (drop (length ys - 1) ys) (each_drop IsInk (length ys - 1) ys h)

-- ---- the lines of a text

keep : (line : List ℕ) → returns line ≡ false → without_return line ≡ line
keep line e = ap (λ (b : Bool). if b then take (length line - 1) line else line) e

split_lines : (lines : List (List ℕ)) → Each IsLine lines → slice_split is_feed (text_of_lines lines) ≡ lines ++ [] ∷ []
split_lines [] h = refl
split_lines (line ∷ lines) h =
    ap (slice_split is_feed) (append_assoc line (10 ∷ []) (text_of_lines lines))
    ∙ split_next is_feed line 10 (text_of_lines lines) h.0.one refl
    ∙ ap (λ (rest : List (List ℕ)). line ∷ rest) (split_lines lines h.1)

keep_lines : (lines : List (List ℕ)) → Each IsLine lines → map without_return (lines ++ [] ∷ []) ≡ lines ++ [] ∷ []
keep_lines [] h = refl
keep_lines (line ∷ lines) h =
    ap (λ (first : List ℕ). first ∷ map without_return (lines ++ [] ∷ [])) (keep line h.0.ends)
    ∙ ap (λ (rest : List (List ℕ)). line ∷ rest) (keep_lines lines h.1)

no_mark : (byte : ℕ) (bytes : List ℕ) → (byte ≡ 35) ⊎ (byte ≡ 62) → without_mark (byte ∷ bytes) ≡ byte ∷ bytes
no_mark byte bytes (inl e) = let P : ℕ → Type 0 = λ b. without_mark (b ∷ bytes) ≡ b ∷ bytes in subst P (sym e) refl
no_mark byte bytes (inr e) = let P : ℕ → Type 0 = λ b. without_mark (b ∷ bytes) ≡ b ∷ bytes in subst P (sym e) refl

no_mark_lines : (lines : List (List ℕ)) → Each IsLine lines → without_mark (text_of_lines lines) ≡ text_of_lines lines
no_mark_lines [] h = refl
no_mark_lines ([] ∷ lines) h = absurd h.0.leads
no_mark_lines ((byte ∷ bytes) ∷ lines) h = no_mark byte ((bytes ++ 10 ∷ []) ++ text_of_lines lines) h.0.leads

-- written lines are cut again, and an empty one comes after them
pub lines_again : (lines : List (List ℕ)) → Each IsLine lines → lines_of (text_of_lines lines) ≡ lines ++ [] ∷ []
unfolding lines_in
lines_again lines h =
    ap lines_in (no_mark_lines lines h) ∙ ap (map without_return) (split_lines lines h) ∙ keep_lines lines h
