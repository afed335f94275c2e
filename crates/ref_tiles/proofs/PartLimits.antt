-- What is outside the limits of rules, and how a draft ends.
use Rattle.std.proofs.Common.{◌≡◌, ℕ, ◌/◌, ◌%◌, ◌<◌, Bool, true, false, ◌&&◌, List, length, get_or, Option, Ok, Err, refl, sym, ap, subst, ◌∙◌, arith}
use Rattle.std.specs.Prelude.{is_some, nat_le, sum}
use Rattle.std.specs.List.{list_all}
use Rattle.std.proofs.lemmas.Bool.{lt-leb}
use Rattle.std.proofs.lemmas.List.Folds.{list_all_at}
use Rattle.std.proofs.lemmas.List.Sums.{get_or-le-sum_by}
use Rattle.std.proofs.lemmas.List.FromFn.{length-map-range_with_len, get_or-map-range_with_len, fill_by_all}
use Rattle.ref_tiles.specs.declared.rulebook.Rules.{Rules}
use Rattle.ref_tiles.specs.declared.parts.RuleParts.{RuleParts}
use Rattle.ref_tiles.specs.declared.statements.Entry.{Entry}
use Rattle.ref_tiles.specs.declared.premiums.Premium.{Premium}
use Rattle.ref_tiles.specs.declared.premiums.Premium.TheVariants as premium
use Rattle.ref_tiles.specs.Statements.{row_item}
use Rattle.ref_tiles.specs.declared.rules_faults.RulesWhy.TheVariants as why
use Rattle.ref_tiles.specs.Limits.{most_tiles, is_tile_set, are_points, is_bonus, is_parameter}
use Rattle.ref_tiles.specs.Parts.{are_in_limits, parts_of}
use Rattle.ref_tiles.specs.RulesFaults.{at_line}
use Rattle.ref_tiles.specs.RulesTexts.{entry_at, count_in, points_in, premium_in, counts_with, points_with, premiums_with, parts_with, whole_fault, ended}

-- ---- one part that is outside its limits

first : (a b : Bool) → a ≡ false → (a && b) ≡ false
first a b e = rw e refl

second : (a b : Bool) → b ≡ false → (a && b) ≡ false
second true b e = e
second false b e = refl

pub no_counts : (parts : RuleParts) → is_tile_set parts.counts ≡ false → are_in_limits parts ≡ false
no_counts parts e = first _ _ (first _ _ (first _ _ (first _ _ (first _ _ (first _ _ e)))))

pub no_points : (parts : RuleParts) → are_points parts.points ≡ false → are_in_limits parts ≡ false
no_points parts e = first _ _ (first _ _ (first _ _ (first _ _ (first _ _ (second _ _ e)))))

pub no_bonus : (parts : RuleParts) → is_bonus parts.bonus ≡ false → are_in_limits parts ≡ false
no_bonus parts e = first _ _ (first _ _ (first _ _ (first _ _ (second _ _ e))))

pub no_exchange_min : (parts : RuleParts) → is_parameter parts.exchange_min ≡ false → are_in_limits parts ≡ false
no_exchange_min parts e = first _ _ (first _ _ (first _ _ (second _ _ e)))

pub no_zero_limit : (parts : RuleParts) → is_parameter parts.zero_limit ≡ false → are_in_limits parts ≡ false
no_zero_limit parts e = first _ _ (first _ _ (second _ _ e))

pub no_challenge_unit : (parts : RuleParts) → is_parameter parts.challenge_unit ≡ false → are_in_limits parts ≡ false
no_challenge_unit parts e = first _ _ (second _ _ e)

pub no_time_step : (parts : RuleParts) → is_parameter parts.time_step ≡ false → are_in_limits parts ≡ false
no_time_step parts e = second _ _ e

-- a part outside its limits
pub ruleset refusals = (no_counts, no_points, no_bonus, no_exchange_min, no_zero_limit, no_challenge_unit, no_time_step)

-- ---- one number past its limit

-- a kind with more tiles than a byte counts
pub count_tiles : (draft : List (Option Entry)) (kind : ℕ) → kind < 27 → 255 < count_in (entry_at draft kind) → is_tile_set (counts_with draft) ≡ false
unfolding most_tiles counts_with
count_tiles draft kind below over =
    let counts = counts_with draft in
    let size = length-map-range_with_len (λ k. count_in (entry_at draft k)) 0 27 in
    let here = get_or-map-range_with_len (λ k. count_in (entry_at draft k)) 0 27 kind kind 0 below (omega arith) in
    let part = get_or-le-sum_by (λ n. n) counts kind 0 (omega (arith, size)) in
    second (nat_le 14 (sum counts)) (nat_le (sum counts) most_tiles) (lt-leb (sum counts) most_tiles (omega (arith, here, part)))

-- a letter with more points than a byte counts
pub count_points : (draft : List (Option Entry)) (letter : ℕ) → letter < 26 → 255 < points_in (entry_at draft letter) → are_points (points_with draft) ≡ false
unfolding points_with
count_points draft letter below over =
    let points = points_with draft in
    let size = length-map-range_with_len (λ k. points_in (entry_at draft k)) 0 26 in
    let here = get_or-map-range_with_len (λ k. points_in (entry_at draft k)) 0 26 letter letter 0 below (omega arith) in
    list_all_at (λ p. nat_le p 99) points letter 0 (omega (arith, size)) (lt-leb (get_or points letter 0) 99 (omega (arith, here)))

-- ---- lists that were filled place by place

pub counts_filled : (draft : List (Option Entry)) (counts : List ℕ) → length counts ≡ 27 → ((k : ℕ) → k < 27 → get_or counts k 0 ≡ count_in (entry_at draft k)) → counts ≡ counts_with draft
unfolding counts_with
counts_filled draft counts size filled = fill_by_all (λ k. count_in (entry_at draft k)) counts 27 0 size filled

pub points_filled : (draft : List (Option Entry)) (points : List ℕ) → length points ≡ 26 → ((k : ℕ) → k < 26 → get_or points k 0 ≡ points_in (entry_at draft k)) → points ≡ points_with draft
unfolding points_with
points_filled draft points size filled = fill_by_all (λ k. points_in (entry_at draft k)) points 26 0 size filled

pub premiums_filled : (draft : List (Option Entry)) (premiums : List Premium) → length premiums ≡ 225
    → ((k : ℕ) → k < 225 → get_or premiums k premium.Plain ≡ premium_in (entry_at draft (row_item (k / 15))) (k % 15)) → premiums ≡ premiums_with draft
unfolding premiums_with
premiums_filled draft premiums size filled = fill_by_all (λ k. premium_in (entry_at draft (row_item (k / 15))) (k % 15)) premiums 225 premium.Plain size filled

-- ---- the end of a draft

pub missing : (draft : List (Option Entry)) → list_all is_some draft ≡ false → ended draft ≡ Err (at_line 0 why.Missing)
unfolding ended whole_fault
missing draft e = rw e refl

pub past_limits : (draft : List (Option Entry)) → list_all is_some draft ≡ true → are_in_limits (parts_with draft) ≡ false → ended draft ≡ Err (at_line 0 why.Limits)
unfolding ended whole_fault
past_limits draft all e = rw (all, e) refl

pub within : (draft : List (Option Entry)) (parts : RuleParts) (rules : Rules) → list_all is_some draft ≡ true → parts ≡ parts_with draft → are_in_limits parts ≡ true → parts_of rules ≡ parts
    → ended draft ≡ Ok (parts_of rules)
unfolding ended whole_fault
within draft parts rules all is e same =
    let inside : are_in_limits (parts_with draft) ≡ true = subst (λ p. are_in_limits p ≡ true) is e in
    rw (all, inside) (ap Ok (sym (same ∙ is)))

pub ruleset endings = (missing, past_limits, within)
