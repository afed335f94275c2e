-- The symbols of a word, one after another.
use Rattle.std.proofs.Common.{◌≡◌, ℕ, ◌+◌, List, [], ◌∷◌, ◌++◌, drop, sym, ap, ◌∙◌}
use Rattle.std.proofs.lemmas.List.{append_assoc}
use Rattle.ref_tiles.specs.declared.symbols.Symbol.{Symbol}
use Rattle.repair_sheets.specs.Blanks.{as_laid, remaining_after, laid_from}

-- one more symbol
pub one_more : (done : List Symbol) (remaining : List ℕ) (word : List Symbol) (number : ℕ) (s : Symbol) → drop number word ≡ s ∷ drop (number + 1) word
    → (done ++ as_laid remaining s ∷ []) ++ laid_from (remaining_after remaining (as_laid remaining s)) (drop (number + 1) word) ≡ done ++ laid_from remaining (drop number word)
one_more done remaining word number s there =
    append_assoc done (as_laid remaining s ∷ []) (laid_from (remaining_after remaining (as_laid remaining s)) (drop (number + 1) word))
    ∙ ap (λ (ss : List Symbol). done ++ laid_from remaining ss) (sym there)
