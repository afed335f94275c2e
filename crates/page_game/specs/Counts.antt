-- How many games had each answer.
use Rattle.std.specs.Prelude.{◌≡◌, ℕ, ◌+◌, ◌==◌, Bool, List, count_by, if◌then◌else◌}
use Rattle.archive_lines.specs.declared.answers.Answer.{Answer}
use Rattle.archive_lines.specs.declared.answers.Answer.TheVariants as answer
use Rattle.page_game.specs.declared.counts.AnswerCounts.{AnswerCounts}

-- how many games had an answer, by the counts
abbrev pub count_of : AnswerCounts → Answer → ℕ
count_of counts answer.Legal = counts.legal
count_of counts answer.Illegal = counts.illegal
count_of counts answer.Unsettled = counts.unsettled
count_of counts answer.BadRecord = counts.bad_record
count_of counts answer.NoGame = counts.no_game
count_of counts answer.Unread = counts.unread

-- the answers in the order in which they are counted
abbrev pub order_of : Answer → ℕ
order_of answer.Legal = 0
order_of answer.Illegal = 1
order_of answer.Unsettled = 2
order_of answer.BadRecord = 3
order_of answer.NoGame = 4
order_of answer.Unread = 5

abbrev pub is_same : Answer → Answer → Bool
is_same a b = order_of a == order_of b

-- these are the counts of some answers: of each kind, how many of them are of that kind
abbrev pub AreCountsOf : List Answer → AnswerCounts → Type 0
AreCountsOf answers counts = (kind : Answer) → count_of counts kind ≡ count_by (is_same kind) answers

-- one if it is so
abbrev pub one_if : Bool → ℕ
one_if same = if same then 1 else 0

-- the counts with one answer more
abbrev pub one_more : AnswerCounts → Answer → AnswerCounts
one_more counts a = record {
  legal = counts.legal + one_if (is_same answer.Legal a);
  illegal = counts.illegal + one_if (is_same answer.Illegal a);
  unsettled = counts.unsettled + one_if (is_same answer.Unsettled a);
  bad_record = counts.bad_record + one_if (is_same answer.BadRecord a);
  no_game = counts.no_game + one_if (is_same answer.NoGame a);
  unread = counts.unread + one_if (is_same answer.Unread a);
}
