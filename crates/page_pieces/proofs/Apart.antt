-- No two games have the same page, and none is the index.
use Rattle.std.proofs.Common.{◌≡◌, ℕ, List, [], ◌∷◌, codes, sym, ap, ◌∙◌}
use Rattle.std.specs.List.{join_with_byte}
use Rattle.std.proofs.lemmas.List.Splits.{join_with_byte-slice_split}
use Rattle.page_pieces.specs.Names.{parts_of, page_text, page_name}
use Rattle.page_pieces.specs.NameLaws.{AreNamedApart, NoneIsIndex}
use Rattle.page_pieces.proofs.Pages.{page_no_index}
use Rattle.page_pieces.proofs.Paths.{texts, path_of_name, same_texts}

pub apart : AreNamedApart
unfolding page_name
apart one other e =
    let cut : texts (parts_of one) ≡ texts (parts_of other) = sym (path_of_name one) ∙ ap parts_of e ∙ path_of_name other in
    let same : parts_of one ≡ parts_of other = same_texts (parts_of one) (parts_of other) cut in
    sym (join_with_byte-slice_split 47 one) ∙ ap (join_with_byte 47) same ∙ join_with_byte-slice_split 47 other

index_texts : (parts : List (List ℕ)) → texts parts ≡ codes "index.html" ∷ [] → ⊥
index_texts [] e = absurd cc
index_texts (part ∷ []) e = let same : page_text part ≡ codes "index.html" = cc in page_no_index part same
index_texts (part ∷ next ∷ []) e = absurd cc
index_texts (part ∷ next ∷ third ∷ parts) e = absurd cc

pub no_index : NoneIsIndex
unfolding page_name
no_index name e = index_texts (parts_of name) (sym (path_of_name name) ∙ ap parts_of e)
