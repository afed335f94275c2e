-- The path of a page falls into its parts again.
use Rattle.std.proofs.Common.{◌≡◌, ℕ, Bool, true, false, not, cond, List, [], ◌∷◌, length, get_or, refl, ap, ◌∙◌, arith}
use Rattle.std.specs.List.{All, list_all, slice_split, onto_first}
use Rattle.std.proofs.lemmas.List.Sums.{AllPass-from_list_all}
use Rattle.std.proofs.lemmas.List.Splits.{slice_split_none, slice_split_at, length-slice_split}
use Rattle.page_pieces.specs.Names.{is_slash, parts_of, folder_text, page_text, page_path}
use Rattle.page_pieces.proofs.Escapes.{is_whole}
use Rattle.page_pieces.proofs.Folders.{folder_whole, same_folder}
use Rattle.page_pieces.proofs.Pages.{both, page_whole, same_page}

not_true : (b : Bool) → not b ≡ true → b ≡ false
not_true true e = absurd cc
not_true false e = refl

free : (text : List ℕ) → is_whole text ≡ true → All (λ byte. is_slash byte ≡ false) text
free text h = λ k d lt. not_true (is_slash (get_or text k d)) (AllPass-from_list_all (λ byte. not (is_slash byte)) text h k d lt)

-- ---- the parts of a name have no slash

onto_whole : (byte : ℕ) (parts : List (List ℕ)) → is_slash byte ≡ false → list_all is_whole parts ≡ true → list_all is_whole (onto_first byte parts) ≡ true
onto_whole byte [] e h = rw e refl
onto_whole byte (part ∷ parts) e h = rw e h

cut_by : (byte : ℕ) (parts : List (List ℕ)) (is : Bool) → is_slash byte ≡ is → list_all is_whole parts ≡ true
    → list_all is_whole (cond is ([] ∷ parts) (onto_first byte parts)) ≡ true
cut_by byte parts true e h = h
cut_by byte parts false e h = onto_whole byte parts e h

pub parts_whole : (name : List ℕ) → list_all is_whole (parts_of name) ≡ true
parts_whole [] = refl
parts_whole (byte ∷ name) = cut_by byte (parts_of name) (is_slash byte) refl (parts_whole name)

-- ---- the parts of the path of a page

abbrev pub texts : List (List ℕ) → List (List ℕ)
texts [] = []
texts (part ∷ []) = page_text part ∷ []
texts (part ∷ next ∷ parts) = folder_text part ∷ texts (next ∷ parts)

path_parts : (part : List ℕ) (parts : List (List ℕ)) → list_all is_whole (part ∷ parts) ≡ true → slice_split is_slash (page_path (part ∷ parts)) ≡ texts (part ∷ parts)
path_parts part [] h =
    let two = both (is_whole part) true h in
    slice_split_none is_slash (page_text part) (free (page_text part) (page_whole part two.0))
path_parts part (next ∷ parts) h =
    let two = both (is_whole part) (list_all is_whole (next ∷ parts)) h in
    slice_split_at is_slash (folder_text part) 47 (page_path (next ∷ parts)) (free (folder_text part) (folder_whole part two.0)) refl
    ∙ ap (λ l. folder_text part ∷ l) (path_parts next parts two.1)

path_by : (name : List ℕ) (parts : List (List ℕ)) → parts_of name ≡ parts → list_all is_whole parts ≡ true → slice_split is_slash (page_path parts) ≡ texts parts
path_by name [] e h =
    let many : length (parts_of name) ≡ _ = length-slice_split is_slash name in
    let none : length (parts_of name) ≡ 0 = ap length e in
    absurd (omega arith)
path_by name (part ∷ parts) e h = path_parts part parts h

pub path_of_name : (name : List ℕ) → parts_of (page_path (parts_of name)) ≡ texts (parts_of name)
path_of_name name = path_by name (parts_of name) refl (parts_whole name)

pub same_texts : (one other : List (List ℕ)) → texts one ≡ texts other → one ≡ other
same_texts [] [] e = refl
same_texts [] (q ∷ []) e = absurd cc
same_texts [] (q ∷ n ∷ r) e = absurd cc
same_texts (p ∷ []) [] e = absurd cc
same_texts (p ∷ m ∷ s) [] e = absurd cc
same_texts (p ∷ []) (q ∷ []) e = let same : page_text p ≡ page_text q = cc in rw (same_page p q same) refl
same_texts (p ∷ []) (q ∷ n ∷ []) e = absurd cc
same_texts (p ∷ []) (q ∷ n ∷ m ∷ r) e = absurd cc
same_texts (p ∷ n ∷ []) (q ∷ []) e = absurd cc
same_texts (p ∷ n ∷ m ∷ r) (q ∷ []) e = absurd cc
same_texts (p ∷ m ∷ s) (q ∷ n ∷ r) e =
    let first : folder_text p ≡ folder_text q = cc in
    let rest : texts (m ∷ s) ≡ texts (n ∷ r) = cc in
    rw (same_folder p q first, same_texts (m ∷ s) (n ∷ r) rest) refl
