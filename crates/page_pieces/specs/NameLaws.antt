-- What the names of pages guarantee.
use Rattle.std.specs.Prelude.{◌≡◌, ℕ, true, not, List, codes}
use Rattle.std.specs.List.{list_all}
use Rattle.page_pieces.specs.Names.{parts_of, is_step, page_name}

-- two games have the same page only if they have the same name
abbrev pub AreNamedApart : Type 0
AreNamedApart = (one other : List ℕ) → page_name one ≡ page_name other → one ≡ other

-- no page has the name of the index
abbrev pub NoneIsIndex : Type 0
NoneIsIndex = (name : List ℕ) → page_name name ≡ codes "index.html" → ⊥

-- no part of the path of a page is empty, . or .., so that it begins in the folder of the pages and does not leave it
abbrev pub StayInside : Type 0
StayInside = (name : List ℕ) → list_all (λ part. not (is_step part)) (parts_of (page_name name)) ≡ true
