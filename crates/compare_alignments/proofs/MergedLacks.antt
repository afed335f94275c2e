-- What is missing of what a choice takes, with one more pair.
use Rattle.std.proofs.Common.{◌≡◌, ℕ, ◌+◌, ◌<◌, ◌≤◌, List, ◌++◌, length, drop, get_or, sym, ap, ◌∙◌, append_assoc, append-nil}
use Rattle.gcg_read.specs.declared.events.Event.{Event}
use Rattle.gcg_drafts.specs.declared.missing.Missing.{Missing}
use Rattle.compare_alignments.specs.declared.lacking.Lacks.{Lacks}
use Rattle.compare_alignments.specs.declared.pairs.Pair.{Pair}
use Rattle.compare_alignments.specs.declared.pairs.Side.{Side}
use Rattle.compare_alignments.specs.Merging.{next_item}
use Rattle.compare_alignments.specs.Lacking.{lacks_taken, lacks_from}
use Rattle.compare_alignments.proofs.Merged.{dropped, past_all}

-- one more pair is taken
pub lacks_more : (sheet : Side) (choice number next : ℕ) (first second : List Event) (l : Lacks) (pairs : List Pair) (i : ℕ) (d : Pair) (found new all : List Missing)
    → i < length pairs → next ≡ next_item number (get_or pairs i d) → new ≡ found ++ lacks_taken sheet choice number first second l (get_or pairs i d)
    → found ++ lacks_from sheet choice number first second l (drop i pairs) ≡ all → new ++ lacks_from sheet choice next first second l (drop (i + 1) pairs) ≡ all
unfolding lacks_from
lacks_more sheet choice number next first second l pairs i d found new all within is_next added so_far =
    let p = get_or pairs i d in
    let now = lacks_taken sheet choice number first second l p in
    ap (λ (xs : List Missing). xs ++ lacks_from sheet choice next first second l (drop (i + 1) pairs)) added
    ∙ ap (λ n. (found ++ now) ++ lacks_from sheet choice n first second l (drop (i + 1) pairs)) is_next
    ∙ append_assoc found now (lacks_from sheet choice (next_item number p) first second l (drop (i + 1) pairs))
    ∙ ap (λ (ps : List Pair). found ++ lacks_from sheet choice number first second l ps) (sym (dropped pairs i d within)) ∙ so_far

-- no pair more
pub lacks_all : (sheet : Side) (choice number : ℕ) (first second : List Event) (l : Lacks) (pairs : List Pair) (i : ℕ) (found all : List Missing) → length pairs ≤ i
    → found ++ lacks_from sheet choice number first second l (drop i pairs) ≡ all → found ≡ all
unfolding lacks_from
lacks_all sheet choice number first second l pairs i found all past so_far =
    sym (append-nil found) ∙ ap (λ (ps : List Pair). found ++ lacks_from sheet choice number first second l ps) (sym (past_all pairs i past)) ∙ so_far
