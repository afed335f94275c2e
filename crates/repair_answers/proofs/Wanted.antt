-- Requests for more repairs than a list can hold.
use Rattle.std.proofs.Common.{◌≡◌, ◌⊎◌, inl, inr, ℕ, ◌+◌, ◌-◌, ◌*◌, ◌<◌, ◌≤◌, ◌^◌, List, length, Option, ap, ◌∙◌, subst, arith}
use Rattle.std.specs.Prelude.{min, filter, Contains}
use Rattle.ref_tiles.specs.declared.rulebook.Rules.{Rules}
use Rattle.gcg_read.specs.declared.events.Event.{Event}
use Rattle.game_walk.specs.declared.walking.Walk.{Walk}
use Rattle.repair_plays.specs.PlayChanges.{ArePlayChanges}
use Rattle.repair_changes.specs.declared.slips.Change.{Change}
use Rattle.repair_single.specs.Costs.{Rank}
use Rattle.repair_single.specs.Remaining.{Weighing, wrong_with}
use Rattle.repair_single.specs.Repairs.{AreFirstBy, AreAhead, IsReportedAt}
use Rattle.repair_single.specs.declared.listed.Listed.{Listed}
use Rattle.repair_single.specs.declared.repair.Repair.{Repair}
use Rattle.repair_pairs.specs.Pairs.{ArePairs}
use Rattle.repair_pairs.specs.declared.found.Pair.{Pair}
use Rattle.repair_pairs.specs.declared.found.Pairs.{Pairs}
use Rattle.repair_answers.specs.Alike.{is_like, are_like_pairs}
use Rattle.repair_answers.specs.Answers.{below_of, RepairsIn}
use Rattle.repair_answers.specs.Lines.{AreLines, before_numbers}
use Rattle.repair_answers.specs.Sheets.{sheet_room, slips_tried, AreSheetRepairs}
use Rattle.repair_answers.specs.Tried.{count_walked, count_untried, count_changes}
use Rattle.repair_answers.specs.Trades.{is_reported, AreReported, AreReportedBy}
use Rattle.repair_answers.specs.Unchanged.{IsUnchanged}
use Rattle.repair_answers.specs.declared.numbers_alone.NumbersAlone.{NumbersAlone}
use Rattle.repair_answers.specs.declared.answers.Faulty.{Faulty}

few_wanted : (reported most wanted : ℕ) → wanted ≡ min (most * 27) (2 ^ 64 - 1) → reported ≤ wanted → reported ≤ 27 * most
few_wanted reported most wanted is few = omega arith

count_wanted : (reported most wanted : ℕ) → wanted ≡ min (most * 27) (2 ^ 64 - 1) → reported < 2 ^ 63 → reported ≡ wanted → reported ≡ 27 * most
count_wanted reported most wanted is short many = omega arith

ahead_wanted : (most wanted : ℕ) (reported : List Repair) (by : Rank) → wanted ≡ min (most * 27) (2 ^ 64 - 1) → length reported < 2 ^ 63 → AreAhead wanted reported by → AreAhead (27 * most) reported by
ahead_wanted most wanted reported by is short ahead = record { many = count_wanted (length reported) most wanted is short ahead.many; each = ahead.each }

one_wanted : (most wanted : ℕ) (reported : List Repair) (remaining : List Listed) (listed : Listed) (right : List Event) (by : Rank) → wanted ≡ min (most * 27) (2 ^ 64 - 1) → length reported < 2 ^ 63
    → Contains remaining listed ⊎ IsReportedAt reported right by ⊎ AreAhead wanted reported by → Contains remaining listed ⊎ IsReportedAt reported right by ⊎ AreAhead (27 * most) reported by
one_wanted most wanted reported remaining listed right by is short (inl among) = inl among
one_wanted most wanted reported remaining listed right by is short (inr (inl at)) = inr (inl at)
one_wanted most wanted reported remaining listed right by is short (inr (inr ahead)) = inr (inr (ahead_wanted most wanted reported by is short ahead))

pub all_wanted : (weigh : Weighing) (rules : Rules) (list : List (List ℕ)) (written : List Event) (plays : List Change) (below : Option ℕ) (from most wanted : ℕ) (reported : List Repair) (remaining : List Listed)
    → wanted ≡ min (most * 27) (2 ^ 64 - 1) → length reported < 2 ^ 63 → AreFirstBy weigh rules list written plays below from wanted reported remaining
    → AreFirstBy weigh rules list written plays below from (27 * most) reported remaining
all_wanted weigh rules list written plays below from most wanted reported remaining is short first =
    record {
      repairs = first.repairs;
      few = few_wanted (length reported) most wanted is first.few;
      ordered = first.ordered;
      once = first.once;
      unsettled = first.unsettled;
      others = λ listed right late makes. one_wanted most wanted reported remaining listed right _ is short (first.others listed right late makes);
    }

-- the repairs that are listed, as many as lines can have
reported_wanted : (weigh : Weighing) (rules : Rules) (list : List (List ℕ)) (written : List Event) (alone : Option NumbersAlone) (plays : List Change) (below : Option ℕ) (from most wanted : ℕ) (reported : List Repair) (remaining : List Listed)
    → wanted ≡ min (most * 27) (2 ^ 64 - 1) → AreReportedBy weigh rules list written alone plays below from wanted reported remaining → AreReportedBy weigh rules list written alone plays below from (27 * most) reported remaining
reported_wanted weigh rules list written alone plays below from most wanted reported remaining is are =
    record { found = are.found; first = all_wanted weigh rules list written plays below from most wanted are.found remaining is are.few are.first; few = are.few; kept = are.kept }

-- the repairs that are listed of those that were found
pub reported_so : (weigh : Weighing) (rules : Rules) (list : List (List ℕ)) (written : List Event) (alone : Option NumbersAlone) (plays : List Change) (below : Option ℕ) (from most : ℕ) (found reported : List Repair) (remaining : List Listed)
    → AreFirstBy weigh rules list written plays below from most found remaining → length found < 2 ^ 63 → reported ≡ filter (is_reported alone) found → AreReportedBy weigh rules list written alone plays below from most reported remaining
reported_so weigh rules list written alone plays below from most found reported remaining first few is = record { found = found; first = first; few = few; kept = is }

pub pairs_wanted : (rules : Rules) (list : List (List ℕ)) (written : List Event) (singles : List Repair) (most wanted : ℕ) (pairs : Pairs) → wanted ≡ min (most * 27) (2 ^ 64 - 1)
    → ArePairs rules list written singles wanted pairs → ArePairs rules list written singles (27 * most) pairs
pairs_wanted rules list written singles most wanted pairs is are =
    record { each = are.each; few = few_wanted (length pairs.reported.items) most wanted is are.few; ordered = are.ordered; once = are.once }

-- what is found of an illegal record
pub found_of : (rules : Rules) (list words : List (List ℕ)) (text : List ℕ) (written between between_too seen : List Event) (walk : Walk) (most wanted : ℕ) (below : Option ℕ) (shown singles : List Repair) (shown_pairs : List Pair) (f : Faulty)
    → words ≡ list → between ≡ written → IsUnchanged rules words written f.alone → below ≡ below_of f.alone → wanted ≡ min (most * 27) (2 ^ 64 - 1) → ArePlayChanges between walk f.plays.items
    → AreReported rules list between f.alone f.plays.items below f.found.from wanted f.found.reported.items f.found.remaining.items → shown ≡ f.found.reported.items → AreLines is_like shown most f.lines.items
    → f.before_numbers ≡ before_numbers f.alone shown f.lines.items → between_too ≡ written → singles ≡ f.found.reported.items → ArePairs rules words between_too singles wanted f.pairs
    → shown_pairs ≡ f.pairs.reported.items → AreLines are_like_pairs shown_pairs most f.pair_lines.items → seen ≡ written → AreSheetRepairs rules words text seen (sheet_room f.alone) (slips_tried text seen walk) f.sheets.items
    → (count_walked rules written walk * length written ≤ 4000000 → f.found.from ≡ 0) → f.untried ≡ count_untried rules seen walk f.found.from
    → f.changes ≡ count_changes rules written walk f.plays.items → f.tried ≡ f.changes - f.untried → RepairsIn rules list text written walk most f
found_of rules list words text written between between_too seen walk most wanted below shown singles shown_pairs f by same alone limit is plays first reported lines numbers still of pairs two pair_lines kept sheets all untried changes tried =
    let here : AreReported rules list written f.alone f.plays.items (below_of f.alone) f.found.from wanted f.found.reported.items f.found.remaining.items =
    subst (λ (es : List Event). AreReported rules list es f.alone f.plays.items (below_of f.alone) f.found.from wanted f.found.reported.items f.found.remaining.items) same
    (subst (λ (o : Option ℕ). AreReported rules list between f.alone f.plays.items o f.found.from wanted f.found.reported.items f.found.remaining.items) limit first) in
    let both : ArePairs rules list written f.found.reported.items wanted f.pairs =
    subst (λ (ws : List (List ℕ)). ArePairs rules ws written f.found.reported.items wanted f.pairs) by
    (subst (λ (es : List Event). ArePairs rules words es f.found.reported.items wanted f.pairs) still
    (subst (λ (rs : List Repair). ArePairs rules words between_too rs wanted f.pairs) of pairs)) in
    record {
      alone = subst (λ (ws : List (List ℕ)). IsUnchanged rules ws written f.alone) by alone;
      plays = subst (λ (es : List Event). ArePlayChanges es walk f.plays.items) same plays;
      repairs = reported_wanted wrong_with rules list written f.alone f.plays.items (below_of f.alone) f.found.from most wanted f.found.reported.items f.found.remaining.items is here;
      lines = subst (λ (rs : List Repair). AreLines is_like rs most f.lines.items) reported lines;
      before = numbers ∙ ap (λ (rs : List Repair). before_numbers f.alone rs f.lines.items) reported;
      pairs = pairs_wanted rules list written f.found.reported.items most wanted f.pairs is both;
      pair_lines = subst (λ (ps : List Pair). AreLines are_like_pairs ps most f.pair_lines.items) two pair_lines;
      sheets = subst (λ (ws : List (List ℕ)). AreSheetRepairs rules ws text written (sheet_room f.alone) (slips_tried text written walk) f.sheets.items) by
          (subst (λ (es : List Event). AreSheetRepairs rules words text es (sheet_room f.alone) (slips_tried text es walk) f.sheets.items) kept sheets);
      all = all;
      untried = untried ∙ ap (λ (es : List Event). count_untried rules es walk f.found.from) kept;
      changes = changes;
      tried = tried;
    }
