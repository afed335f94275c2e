-- Pages stay in their folder.
use Rattle.std.proofs.Common.{◌≡◌, ℕ, true, not, List, [], ◌∷◌, refl, ap, ◌∙◌}
use Rattle.std.specs.List.{list_all}
use Rattle.page_pieces.specs.Names.{parts_of, is_step, page_name}
use Rattle.page_pieces.specs.NameLaws.{StayInside}
use Rattle.page_pieces.proofs.Folders.{folder_own}
use Rattle.page_pieces.proofs.Pages.{page_own}
use Rattle.page_pieces.proofs.Paths.{texts, path_of_name}

inside_texts : (parts : List (List ℕ)) → list_all (λ part. not (is_step part)) (texts parts) ≡ true
inside_texts [] = refl
inside_texts (part ∷ []) = rw (page_own part) refl
inside_texts (part ∷ next ∷ parts) = rw (folder_own part, inside_texts (next ∷ parts)) refl

pub inside : StayInside
unfolding page_name
inside name = ap (list_all (λ part. not (is_step part))) (path_of_name name) ∙ inside_texts (parts_of name)
