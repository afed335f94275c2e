-- Undoing escapes; no escape has a tab or an LF.
use Rattle.std.proofs.Common.{◌≡◌, ℕ, ◌==◌, Bool, true, false, List, [], ◌∷◌, ◌++◌, refl, ap, ◌∙◌, arith}
use Rattle.std.specs.List.{list_all}
use Rattle.std.proofs.lemmas.List.Folds.{list_all-append}
use Rattle.std.proofs.lemmas.Bool.Decides.{nat_tests}
use Rattle.archive_lines.specs.TabLines.{escaped_byte, escaped, unescaped}

same_byte : (a b : ℕ) → (a == b) ≡ true → a ≡ b
same_byte a b e = grind (arith, nat_tests)

undone_by : (byte : ℕ) (text : List ℕ) (tab lf backslash : Bool) → (byte == 9) ≡ tab → (byte == 10) ≡ lf → (byte == 92) ≡ backslash
    → unescaped text ≡ unescaped text → unescaped (escaped_byte byte ++ text) ≡ byte ∷ unescaped text
undone_by byte text true lf backslash is_tab is_lf is_backslash h = rw (same_byte byte 9 is_tab) refl
undone_by byte text false true backslash is_tab is_lf is_backslash h = rw (same_byte byte 10 is_lf) refl
undone_by byte text false false true is_tab is_lf is_backslash h = rw (same_byte byte 92 is_backslash) refl
undone_by byte text false false false is_tab is_lf is_backslash h = rw (is_tab, is_lf, is_backslash, is_backslash) refl

pub undone : (text : List ℕ) → unescaped (escaped text) ≡ text
unfolding escaped
undone [] = refl
undone (byte ∷ text) = undone_by byte (escaped text) _ _ _ refl refl refl refl ∙ ap (λ l. byte ∷ l) (undone text)

-- ---- bytes that no escape has

kept_by : (stays : ℕ → Bool) → stays 92 ≡ true → stays 116 ≡ true → stays 110 ≡ true → (byte : ℕ) (tab lf backslash : Bool) → (byte == 9) ≡ tab → (byte == 10) ≡ lf → (byte == 92) ≡ backslash
    → (tab ≡ false → lf ≡ false → stays byte ≡ true) → list_all stays (escaped_byte byte) ≡ true
kept_by stays a b c byte true lf backslash is_tab is_lf is_backslash plain = rw (is_tab, a, b) refl
kept_by stays a b c byte false true backslash is_tab is_lf is_backslash plain = rw (is_tab, is_lf, a, c) refl
kept_by stays a b c byte false false true is_tab is_lf is_backslash plain = rw (is_tab, is_lf, is_backslash, a) refl
kept_by stays a b c byte false false false is_tab is_lf is_backslash plain = rw (is_tab, is_lf, is_backslash, plain refl refl) refl

-- each byte of an escaped text satisfies a test that every byte but a tab and an LF satisfies
pub kept : (stays : ℕ → Bool) → stays 92 ≡ true → stays 116 ≡ true → stays 110 ≡ true → ((byte : ℕ) → (byte == 9) ≡ false → (byte == 10) ≡ false → stays byte ≡ true)
    → (text : List ℕ) → list_all stays (escaped text) ≡ true
unfolding escaped
kept stays a b c plain [] = refl
kept stays a b c plain (byte ∷ text) =
    let first : list_all stays (escaped_byte byte) ≡ true = kept_by stays a b c byte (byte == 9) (byte == 10) (byte == 92) refl refl refl (λ t l. plain byte t l) in
    list_all-append stays (escaped_byte byte) (escaped text) ∙ rw (first, kept stays a b c plain text) refl
