-- One answer more is counted.
use Rattle.std.proofs.Common.{◌≡◌, ◌∙◌, ◌+◌, Bool, cond, List, [], ◌∷◌, ◌++◌, count_by, refl, sym, ap, arith}
use Rattle.std.proofs.lemmas.List.Sums.{sum_by-append, sum_by-cons}
use Rattle.archive_lines.specs.declared.answers.Answer.{Answer}
use Rattle.archive_lines.specs.declared.answers.Answer.TheVariants as answer
use Rattle.page_game.specs.declared.counts.AnswerCounts.{AnswerCounts}
use Rattle.page_game.specs.Counts.{count_of, is_same, one_if, one_more, AreCountsOf}

count_one_more : (counts : AnswerCounts) (a kind : Answer) → count_of (one_more counts a) kind ≡ count_of counts kind + one_if (is_same kind a)
count_one_more counts a answer.Legal = refl
count_one_more counts a answer.Illegal = refl
count_one_more counts a answer.Unsettled = refl
count_one_more counts a answer.BadRecord = refl
count_one_more counts a answer.NoGame = refl
count_one_more counts a answer.Unread = refl

-- how often a test holds of a list with one item more
count_by_push : (p : Answer → Bool) (answers : List Answer) (a : Answer) → count_by p (answers ++ a ∷ []) ≡ count_by p answers + one_if (p a)
count_by_push p answers a =
    let both = sum_by-append (λ x. cond (p x) 1 0) answers (a ∷ []) in
    let last = sum_by-cons (λ x. cond (p x) 1 0) a [] in
    omega (arith, both, last)

pub counted_more : (answers : List Answer) (counts more : AnswerCounts) (a : Answer) → AreCountsOf answers counts → more ≡ one_more counts a → AreCountsOf (answers ++ a ∷ []) more
counted_more answers counts more a are same =
    λ kind.
    ap (λ (c : AnswerCounts). count_of c kind) same ∙ count_one_more counts a kind ∙ ap (λ n. n + one_if (is_same kind a)) (are kind) ∙ sym (count_by_push (is_same kind) answers a)
