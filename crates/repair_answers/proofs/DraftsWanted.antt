-- What is found of a draft whose sheet is illegal, also for requests for more repairs than a list can hold.
use Rattle.std.proofs.Common.{◌≡◌, ℕ, ◌+◌, ◌*◌, ◌-◌, ◌<◌, ◌≤◌, ◌^◌, List, length, Option, ap, sym, ◌∙◌, subst}
use Rattle.std.specs.Prelude.{min, filter}
use Rattle.ref_tiles.specs.declared.rulebook.Rules.{Rules}
use Rattle.gcg_read.specs.declared.events.Event.{Event}
use Rattle.game_walk.specs.declared.walking.Walk.{Walk}
use Rattle.gcg_drafts.specs.declared.missing.Missing.{Missing}
use Rattle.repair_plays.specs.PlayChanges.{ArePlayChanges}
use Rattle.repair_changes.specs.declared.slips.Change.{Change}
use Rattle.repair_single.specs.Repairs.{AreFirstBy}
use Rattle.repair_single.specs.Weighers.{written_with}
use Rattle.repair_single.specs.declared.found.Found.{Found}
use Rattle.repair_single.specs.declared.listed.Listed.{Listed}
use Rattle.repair_answers.specs.Answers.{below_of}
use Rattle.repair_answers.specs.Given.{IsFaultyWith}
use Rattle.repair_answers.specs.Lines.{before_numbers}
use Rattle.repair_answers.specs.Tried.{count_walked, count_untried}
use Rattle.repair_answers.specs.Trades.{is_reported}
use Rattle.repair_answers.specs.declared.numbers_alone.NumbersAlone.{NumbersAlone}
use Rattle.repair_answers.specs.declared.answers.Faulty.{Faulty}
use Rattle.repair_answers.specs.Drafts.{IsDraftUnchanged, DraftRepairsIn}
use Rattle.repair_answers.proofs.Wanted.{all_wanted}

-- what is found of a draft whose sheet is illegal
pub faulty_so : (rules : Rules) (list words : List (List ℕ)) (lacks : List Missing) (written seen : List Event) (walk : Walk) (most wanted : ℕ) (below : Option ℕ) (alone : Option NumbersAlone) (plays : List Change) (found : Found) (f : Faulty)
    → words ≡ list → IsDraftUnchanged rules words lacks written alone → below ≡ below_of alone → wanted ≡ min (most * 27) (2 ^ 64 - 1) → seen ≡ written → ArePlayChanges seen walk plays
    → AreFirstBy (written_with lacks) rules list seen plays below found.from wanted found.reported.items found.remaining.items → length found.reported.items < 2 ^ 63
    → (count_walked rules written walk * length written ≤ 4000000 → found.from ≡ 0) → IsFaultyWith rules seen walk alone plays found most f → DraftRepairsIn rules list lacks written walk most f
faulty_so rules list words lacks written seen walk most wanted below alone plays found f by unchanged limit is same tried first short all w =
    let reported = found.reported.items in
    let here : AreFirstBy (written_with lacks) rules list written plays (below_of alone) found.from (27 * most) reported found.remaining.items =
    all_wanted (written_with lacks) rules list written plays (below_of alone) found.from most wanted reported found.remaining.items is short
    (subst (λ (es : List Event). AreFirstBy (written_with lacks) rules list es plays (below_of alone) found.from wanted reported found.remaining.items) same
    (subst (λ (o : Option ℕ). AreFirstBy (written_with lacks) rules list seen plays o found.from wanted reported found.remaining.items) limit first)) in
    let kept : AreFirstBy (written_with lacks) rules list written f.plays.items (below_of f.alone) f.found.from (27 * most) reported f.found.remaining.items =
    subst (λ (ps : List Change). AreFirstBy (written_with lacks) rules list written ps (below_of f.alone) f.found.from (27 * most) reported f.found.remaining.items) (sym w.tried_plays)
    (subst (λ (o : Option NumbersAlone). AreFirstBy (written_with lacks) rules list written plays (below_of o) f.found.from (27 * most) reported f.found.remaining.items) (sym w.numbers)
    (subst (λ (n : ℕ). AreFirstBy (written_with lacks) rules list written plays (below_of alone) n (27 * most) reported f.found.remaining.items) (sym w.from)
    (subst (λ (ls : List Listed). AreFirstBy (written_with lacks) rules list written plays (below_of alone) found.from (27 * most) reported ls) (sym w.remaining) here))) in
    record {
      alone = subst (λ (o : Option NumbersAlone). IsDraftUnchanged rules list lacks written o) (sym w.numbers) (subst (λ (ws : List (List ℕ)). IsDraftUnchanged rules ws lacks written alone) by unchanged);
      plays = subst (λ (ps : List Change). ArePlayChanges written walk ps) (sym w.tried_plays) (subst (λ (es : List Event). ArePlayChanges es walk plays) same tried);
      repairs = record { found = reported; first = kept; few = short; kept = w.reported ∙ ap (λ (o : Option NumbersAlone). filter (is_reported o) reported) (sym w.numbers) };
      lines = w.lines;
      before = w.before ∙ ap (λ (o : Option NumbersAlone). before_numbers o f.found.reported.items f.lines.items) (sym w.numbers);
      pairs = w.pairs;
      pair_lines = w.pair_lines;
      sheets = w.sheets;
      all = λ few. w.from ∙ all few;
      untried = w.untried ∙ ap (λ (es : List Event). count_untried rules es walk found.from) same ∙ ap (λ (n : ℕ). count_untried rules written walk n) (sym w.from);
      changes = w.changes ∙ ap (λ (es : List Event). count_walked rules es walk + length plays) same ∙ ap (λ (ps : List Change). count_walked rules written walk + length ps) (sym w.tried_plays);
      tried = w.tried;
    }
