-- Labels that are tried one after another.
use Rattle.std.proofs.Common.{◌≡◌, ℕ, ◌<◌, ◌≤◌, Bool, true, false, List, ◌∷◌, arith, refl, inl, inr}
use Rattle.std.specs.Prelude.{IsTrue}
use Rattle.std.specs.List.{list_all}
use Rattle.std.proofs.lemmas.Bool.{ltb-true, and_parts, cases_lt}
use Rattle.lex_file.specs.Lexicons.{is_label}

not_held : (b : Bool) → (b ≡ true → ⊥) → b ≡ false
not_held true h = absurd (h refl)
not_held false h = refl

-- if each label below 27 was tried, no label is left
pub none_remaining : (has : List ℕ → Bool) (from end : ℕ) → 27 ≤ end
    → ((string : List ℕ) → has string ≡ true → IsTrue (list_all is_label string))
    → ((label : ℕ) → from ≤ label → label < end → (rest : List ℕ) → has (label ∷ rest) ≡ false)
    → (label : ℕ) → from ≤ label → (rest : List ℕ) → has (label ∷ rest) ≡ false
none_remaining has from end high labels tried label reached rest =
    elim (cases_lt label end) [
      | inl below ↦ tried label reached below rest
      | inr above ↦ not_held (has (label ∷ rest)) (λ held.
          let low = ltb-true label 27 (and_parts (is_label label) (list_all is_label rest) (labels (label ∷ rest) held)).0 in
          absurd (omega arith))
    ]
