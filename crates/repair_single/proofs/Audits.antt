-- What an audit of the sheet with a change says.
use Rattle.std.proofs.Common.{◌≡◌, ◌⊎◌, inl, inr, ℕ, zero, suc, ◌+◌, ◌<◌, List, [], ◌∷◌, ◌++◌, map, length, set, take, get_or, slice_get, Option, Some, None, refl, sym, ap, ◌∙◌, subst, arith}
use Rattle.std.specs.List.{filter, flat_map, range_with_len}
use Rattle.std.proofs.lemmas.Bool.{cases_eq}
use Rattle.std.proofs.lemmas.List.{append-nil, length-set, take_more}
use Rattle.std.proofs.lemmas.List.Concat.{flat_map-append}
use Rattle.std.proofs.lemmas.Option.{same_Some}
use Rattle.ref_tiles.specs.declared.rulebook.Rules.{Rules}
use Rattle.gcg_read.specs.declared.events.Event.{Event}
use Rattle.game_turns.specs.LatestEvents.{standing_words}
use Rattle.game_turns.specs.Tallies.{State}
use Rattle.game_corrections.specs.Auditing.{IsAudited}
use Rattle.game_corrections.specs.Corrections.{IsRenumbered, AreRenumbered, IsCorrection}
use Rattle.game_corrections.specs.WrongNumbers.{wrong_lines, all_wrong}
use Rattle.game_corrections.specs.declared.wrong_numbers.WrongNumber.{WrongNumber}
use Rattle.game_corrections.proofs.Fronts.{one_correction}
use Rattle.game_corrections.proofs.Mends.{set_there, set_elsewhere}
use Rattle.game_walk.specs.declared.refusals.Stop.{Stop}
use Rattle.game_walk.specs.declared.rows.Row.{Row}
use Rattle.game_walk.specs.declared.walking.Walk.{Walk}
use Rattle.game_walk.specs.Refusals.{EndsAt}
use Rattle.game_walk.specs.Rows.{AreRowsTo}
use Rattle.game_walk.specs.Walks.{IsWalk}
use Rattle.game_turns.specs.declared.unlisted.SpelledWord.{SpelledWord}
use Rattle.game_turns.specs.Unlisted.{letters_in, unlisted_of}
use Rattle.repair_changes.specs.Splices.{spliced}
use Rattle.repair_changes.specs.Applied.{applied}
use Rattle.repair_changes.specs.declared.slips.Change.{Change}
use Rattle.repair_changes.specs.declared.slips.Slip.{Slip}
use Rattle.repair_changes.specs.declared.slips.Slip.TheVariants as slip
use Rattle.repair_single.specs.OnSheet.{score_in, line_on_sheet, sheet_by, on_sheet}
use Rattle.repair_single.specs.Remaining.{is_on_line, wrong_with, unlisted_at, unlisted_words, words_of_row, words_of_rows}
use Rattle.repair_single.specs.Trying.{IsWritable}
use Rattle.repair_single.proofs.SheetLines.{one_spliced, none_spliced}
use Rattle.repair_single.proofs.WrongLines.{lines_alone}

-- ---- the events on the sheet are the right ones except for their numbers

line_renumbered : (changed right : List Event) (place : ℕ) (e b : Event) → slice_get right place ≡ Some b → IsRenumbered e b → IsRenumbered (line_on_sheet changed right place e) b
line_renumbered changed right place e b at is =
    record { line = is.line; player = is.player; rack = is.rack; kind = is.kind; given = λ given. sym (ap score_in at) }

each_set : (changed right : List Event) (place k : ℕ) (e a b : Event) → AreRenumbered changed right → slice_get changed place ≡ Some e
    → slice_get (set changed place (line_on_sheet changed right place e)) k ≡ Some a → slice_get right k ≡ Some b → (k ≡ place) ⊎ (k ≡ place → ⊥) → IsRenumbered a b
each_set changed right place k e a b are at of_a of_b (inl same) =
    let x : Event = line_on_sheet changed right place e in
    let there : slice_get right place ≡ Some b = ap (slice_get right) (sym same) ∙ of_b in
    let is_a : x ≡ a = same_Some x a (sym (set_there changed place e x at) ∙ ap (slice_get (set changed place x)) (sym same) ∙ of_a) in
    subst (λ (y : Event). IsRenumbered y b) is_a (line_renumbered changed right place e b there (are.each place e b at there))
each_set changed right place k e a b are at of_a of_b (inr other) =
    are.each k a b (sym (set_elsewhere changed place k (line_on_sheet changed right place e) other) ∙ of_a) of_b

set_renumbered : (changed right : List Event) (place : ℕ) (e : Event) → AreRenumbered changed right → slice_get changed place ≡ Some e
    → AreRenumbered (set changed place (line_on_sheet changed right place e)) right
set_renumbered changed right place e are at =
    record {
      as_many = are.as_many ∙ sym (length-set changed place (line_on_sheet changed right place e));
      each = λ k a b of_a of_b. each_set changed right place k e a b are at of_a of_b (cases_eq k place);
    }

missing_by : (changed right : List Event) (place : ℕ) (o : Option Event) → slice_get changed place ≡ o → AreRenumbered changed right
    → AreRenumbered (spliced place 1 (map (line_on_sheet changed right place)) changed) right
missing_by changed right place None at are =
    subst (λ (es : List Event). AreRenumbered es right) (sym (none_spliced (line_on_sheet changed right place) changed place at)) are
missing_by changed right place (Some e) at are =
    subst (λ (es : List Event). AreRenumbered es right) (sym (one_spliced (line_on_sheet changed right place) changed place e at)) (set_renumbered changed right place e are at)

by_slip : (what : Slip) (place : ℕ) (changed right : List Event) → AreRenumbered changed right → AreRenumbered (sheet_by what place changed right) right
by_slip (slip.Missing line) place changed right are = missing_by changed right place (slice_get changed place) refl are
by_slip (slip.Position s) place changed right are = are
by_slip (slip.Spelling s) place changed right are = are
by_slip (slip.Replayed play) place changed right are = are
by_slip (slip.Tile of s) place changed right are = are
by_slip (slip.Misread m) place changed right are = are
by_slip slip.NoRack place changed right are = are
by_slip (slip.Number n) place changed right are = are
by_slip (slip.Code s) place changed right are = are
by_slip (slip.Rest counts) place changed right are = are
by_slip (slip.Amount score) place changed right are = are
by_slip slip.OtherPlayer place changed right are = are
by_slip slip.Repeated place changed right are = are
by_slip slip.ExtraPass place changed right are = are
by_slip slip.Extra place changed right are = are
by_slip slip.Swapped place changed right are = are
by_slip slip.SwappedOver place changed right are = are

pub sheet_renumbered : (change : Change) (changed right sheet : List Event) → sheet ≡ on_sheet change changed right → AreRenumbered changed right → AreRenumbered sheet right
sheet_renumbered change changed right sheet is are =
    subst (λ (es : List Event). AreRenumbered es right) (sym is) (by_slip change.slip change.place changed right are)

-- ---- its audit

-- the right events are those of the sheet too, and the wrong numbers are those compared with them
pub record IsAuditOf (sheet right audited : List Event) (wrong : List WrongNumber) : Type 0 where
  pub same : audited ≡ right
  pub all : wrong ≡ all_wrong (wrong_lines None sheet right) sheet right

pub audited_right : (rules : Rules) (list : List (List ℕ)) (changed sheet right audited : List Event) (wrong : List WrongNumber) → IsWritable rules list changed right → AreRenumbered sheet right
    → IsAudited rules list sheet audited wrong → IsAuditOf sheet right audited wrong
audited_right rules list changed sheet right audited wrong is are (inl audit) =
    let own : IsCorrection rules list sheet right = record { renumbered = are; allowed = is.correction.allowed } in
    let same : audited ≡ right = one_correction rules list sheet audited right audit.correction own in
    record { same = same; all = audit.all ∙ ap (λ (es : List Event). all_wrong (wrong_lines None sheet es) sheet es) same }
audited_right rules list changed sheet right audited wrong is are (inr audit) =
    absurd (audit.none right is.points (record { renumbered = are; allowed = is.correction.allowed }))

pub kept_wrong : (change : Change) (written sheet right audited : List Event) (wrong kept : List WrongNumber) → sheet ≡ on_sheet change (applied change written) right
    → IsAuditOf sheet right audited wrong → kept ≡ filter is_on_line wrong → kept ≡ wrong_with change written right
unfolding wrong_with
kept_wrong change written sheet right audited wrong kept is audit keeps =
    keeps ∙ ap (filter is_on_line) audit.all ∙ lines_alone None sheet right ∙ ap (λ (es : List Event). wrong_lines None es right) is

-- ---- its rows

rows_at : {X Y : Type 0} (f : X → List Y) (g : ℕ → List Y) (rows : List X) (start n : ℕ) → length rows ≡ n → ((k : ℕ) (row : X) → slice_get rows k ≡ Some row → f row ≡ g (start + k))
    → flat_map f rows ≡ flat_map g (range_with_len start n)
rows_at f g [] start zero many each = refl
rows_at f g [] start (suc n) many each = absurd (omega (arith, many))
rows_at f g (row ∷ rows) start zero many each = absurd (omega (arith, many))
rows_at {X} {Y} f g (row ∷ rows) start (suc n) many each =
    let first : f row ≡ g start = each 0 row refl ∙ ap g (omega arith) in
    let rest : flat_map f rows ≡ flat_map g (range_with_len (start + 1) n) =
    rows_at f g rows (start + 1) n (omega (arith, many)) (λ k other at. each (suc k) other at ∙ ap g (omega arith)) in
    ap (λ (ys : List Y). ys ++ flat_map f rows) first ∙ ap (λ (ys : List Y). g start ++ ys) rest

end_by : (rules : Rules) (list : List (List ℕ)) (sheet right : List Event) (end : ℕ) (stopped : Option Stop) → EndsAt rules list sheet right end stopped → IsWritable rules list sheet right
    → end ≡ length right
end_by rules list sheet right end None ends is = ends.0 ∙ sym is.correction.renumbered.as_many
end_by rules list sheet right end (Some stop) ends is = absurd (ends.none right is.points is.correction)

words_by : (rules : Rules) (list : List (List ℕ)) (sheet right : List Event) (rows : List Row) → AreRowsTo rules list sheet right (length right) rows
    → words_of_rows list rows ≡ unlisted_words rules list right
unfolding words_of_rows unlisted_words
words_by rules list sheet right rows are =
    rows_at (words_of_row list) (unlisted_at rules list right) rows 0 (length right) are.as_many
    (λ k row at. ap (λ (s : State). unlisted_of list (standing_words s.latest)) (are.each k row at).following ∙ ap (unlisted_at rules list right) (omega arith))

pub audited_words : (rules : Rules) (list : List (List ℕ)) (changed sheet right audited : List Event) (wrong : List WrongNumber) (walk : Walk) (words : List (List ℕ)) → IsWritable rules list changed right
    → AreRenumbered sheet right → IsAuditOf sheet right audited wrong → IsWalk rules list sheet audited walk → words ≡ words_of_rows list walk.rows.items → words ≡ unlisted_words rules list right
audited_words rules list changed sheet right audited wrong walk words is are audit walked reported =
    let here : IsWalk rules list sheet right walk = subst (λ (es : List Event). IsWalk rules list sheet es walk) audit.same walked in
    let own : IsWritable rules list sheet right = record { correction = record { renumbered = are; allowed = is.correction.allowed }; points = is.points } in
    let end = end_by rules list sheet right here.end walk.stopped here.ends own in
    reported ∙ words_by rules list sheet right walk.rows.items (subst (λ n. AreRowsTo rules list sheet right n walk.rows.items) end here.rows)

-- one more row
pub rows_more : (list : List (List ℕ)) (rows : List Row) (place : ℕ) (row : Row) (words more all : List (List ℕ)) → place < length rows → row ≡ get_or rows place row
    → words ≡ words_of_rows list (take place rows) → more ≡ words_of_row list row → all ≡ words ++ more → all ≡ words_of_rows list (take (place + 1) rows)
unfolding words_of_rows
rows_more list rows place row words more all within here so_far now both =
    both ∙ ap (λ (xs : List (List ℕ)). xs ++ more) so_far
    ∙ ap (λ (xs : List (List ℕ)). words_of_rows list (take place rows) ++ xs) (now ∙ ap (words_of_row list) here)
    ∙ ap (λ (xs : List (List ℕ)). flat_map (words_of_row list) (take place rows) ++ xs) (sym (append-nil (words_of_row list (get_or rows place row))))
    ∙ sym (flat_map-append (words_of_row list) (take place rows) (get_or rows place row ∷ [])) ∙ ap (flat_map (words_of_row list)) (sym (take_more rows place row within))

pub no_rows : (list : List (List ℕ)) (words : List SpelledWord) → words ≡ [] → letters_in words ≡ words_of_rows list []
unfolding words_of_rows
no_rows list words none = ap letters_in none
