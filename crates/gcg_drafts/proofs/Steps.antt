-- Lines gone through one after another.
use Rattle.std.proofs.Common.{◌≡◌, ℕ, List, [], ◌∷◌, ◌++◌, sym, ap, ◌∙◌}
use Rattle.std.specs.List.{flat_map}
use Rattle.std.proofs.lemmas.List.{append_assoc, append-nil}
use Rattle.std.proofs.lemmas.List.Concat.{flat_map-cons}
use Rattle.gcg_drafts.specs.declared.missing.Missing.{Missing}
use Rattle.gcg_drafts.specs.Texts.{missing_on}

-- one more line
pub line_more : (lacks : List Missing) (following : List (List ℕ)) (line : List ℕ) (others : List (List ℕ)) (total : List Missing)
    → following ≡ line ∷ others → lacks ++ flat_map missing_on following ≡ total → (lacks ++ missing_on line) ++ flat_map missing_on others ≡ total
line_more lacks following line others total cut before =
    append_assoc lacks (missing_on line) (flat_map missing_on others) ∙ ap (λ l. lacks ++ l) (sym (flat_map-cons missing_on line others))
    ∙ ap (λ l. lacks ++ flat_map missing_on l) (sym cut) ∙ before

-- no more lines
pub lines_done : (lacks : List Missing) (following : List (List ℕ)) (total : List Missing) → following ≡ [] → lacks ++ flat_map missing_on following ≡ total → lacks ≡ total
lines_done lacks following total none before = sym (append-nil lacks) ∙ ap (λ l. lacks ++ flat_map missing_on l) (sym none) ∙ before

-- what a loop over the lines of a text needs
pub ruleset steps = (line_more, lines_done)
