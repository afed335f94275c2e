-- A name that is cut at its first slash.
use Rattle.std.proofs.Common.{◌≡◌, ℕ, ◌+◌, ◌-◌, List, [], ◌∷◌, ◌++◌, length, take, drop, Some, None, sym, ◌∙◌}
use Rattle.std.specs.List.{position}
use Rattle.std.proofs.lemmas.List.{append_assoc}
use Rattle.text_lines.proofs.Cuts.{rest_is, split_none, split_at}
use Rattle.page_pieces.specs.Names.{is_slash, parts_of, folder_text, page_path}

pub parts_end : (name : List ℕ) → None ≡ position is_slash name → parts_of name ≡ name ∷ []
parts_end name e = split_none is_slash name (sym e)

pub parts_cut : (name : List ℕ) (i : ℕ) → Some i ≡ position is_slash name → parts_of name ≡ take i name ∷ parts_of (take (length name - (i + 1)) (drop (i + 1) name))
parts_cut name i e = rw (rest_is (i + 1) name) (split_at is_slash name i (sym e))

-- one more folder, and the slash after it
pub one_part_more : (out part next : List ℕ) (parts following : List (List ℕ)) → parts ≡ next ∷ following
    → ((out ++ folder_text part) ++ 47 ∷ []) ++ page_path (next ∷ following) ≡ out ++ page_path (part ∷ parts)
one_part_more out part next parts following e =
    rw e (append_assoc (out ++ folder_text part) (47 ∷ []) (page_path (next ∷ following)) ∙ append_assoc out (folder_text part) (47 ∷ page_path (next ∷ following)))
