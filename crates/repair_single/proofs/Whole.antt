-- A record is the draft in which nothing is missing.
use Rattle.std.proofs.Common.{◌≡◌, ℕ, zero, suc, ◌+◌, Bool, true, false, nat_le, List, [], ◌∷◌, ◌++◌, length, take, drop, reverse, None, refl, sym, ap, ◌∙◌, if◌then◌else◌}
use Rattle.std.proofs.lemmas.List.{reverse-append}
use Rattle.gcg_read.specs.declared.events.Event.{Event}
use Rattle.game_corrections.specs.WrongNumbers.{wrong_lines}
use Rattle.gcg_drafts.specs.declared.missing.Missing.{Missing}
use Rattle.gcg_drafts.specs.declared.missing.Missing.TheVariants as missing
use Rattle.repair_changes.specs.Applied.{applied, wrong_events}
use Rattle.repair_changes.specs.Splices.{spliced}
use Rattle.repair_changes.specs.declared.slips.Change.{Change}
use Rattle.repair_changes.specs.declared.slips.Slip.{Slip}
use Rattle.repair_changes.specs.declared.slips.Slip.TheVariants as slip
use Rattle.repair_single.specs.OnSheet.{sheet_by}
use Rattle.repair_single.specs.Laws.{is_missing_line, WholeIsRecord}
use Rattle.repair_single.specs.Remaining.{wrong_with}
use Rattle.draft_numbers.specs.Lacks.{right_lacks, lacks_with}
use Rattle.draft_numbers.specs.Laws.{is_whole}
use Rattle.draft_numbers.proofs.Whole.{whole_is_sheet}

-- ---- parts of lines that lack nothing

whole_take : (many : ℕ) (lacks : List Missing) → is_whole lacks ≡ true → is_whole (take many lacks) ≡ true
whole_take zero lacks whole = refl
whole_take (suc many) [] whole = refl
whole_take (suc many) (missing.Nothing ∷ lacks) whole = whole_take many lacks whole
whole_take (suc many) (missing.Total ∷ lacks) whole = cc
whole_take (suc many) (missing.Both ∷ lacks) whole = cc

whole_drop : (many : ℕ) (lacks : List Missing) → is_whole lacks ≡ true → is_whole (drop many lacks) ≡ true
whole_drop zero lacks whole = whole
whole_drop (suc many) [] whole = refl
whole_drop (suc many) (missing.Nothing ∷ lacks) whole = whole_drop many lacks whole
whole_drop (suc many) (missing.Total ∷ lacks) whole = cc
whole_drop (suc many) (missing.Both ∷ lacks) whole = cc

whole_both : (lacks others : List Missing) → is_whole lacks ≡ true → is_whole others ≡ true → is_whole (lacks ++ others) ≡ true
whole_both [] others whole also = also
whole_both (missing.Nothing ∷ lacks) others whole also = whole_both lacks others whole also
whole_both (missing.Total ∷ lacks) others whole also = cc
whole_both (missing.Both ∷ lacks) others whole also = cc

whole_reverse : (lacks : List Missing) → is_whole lacks ≡ true → is_whole (reverse lacks) ≡ true
whole_reverse [] whole = refl
whole_reverse (missing.Nothing ∷ lacks) whole =
    ap is_whole (reverse-append (missing.Nothing ∷ []) lacks) ∙ whole_both (reverse lacks) (missing.Nothing ∷ []) (whole_reverse lacks whole) refl
whole_reverse (missing.Total ∷ lacks) whole = cc
whole_reverse (missing.Both ∷ lacks) whole = cc

-- ---- a change

whole_right : (what : Slip) (there : List Missing) → is_missing_line what ≡ false → is_whole there ≡ true → is_whole (right_lacks what there) ≡ true
whole_right (slip.Position s) there other whole = whole
whole_right (slip.Spelling s) there other whole = whole
whole_right (slip.Replayed right) there other whole = whole
whole_right (slip.Tile of s) there other whole = whole
whole_right (slip.Misread m) there other whole = whole
whole_right slip.NoRack there other whole = whole
whole_right (slip.Number n) there other whole = whole
whole_right (slip.Code s) there other whole = whole
whole_right (slip.Rest counts) there other whole = whole
whole_right (slip.Amount right) there other whole = whole
whole_right slip.OtherPlayer there other whole = whole
whole_right slip.Repeated there other whole = refl
whole_right slip.ExtraPass there other whole = refl
whole_right slip.Extra there other whole = refl
whole_right slip.Swapped there other whole = whole_reverse there whole
whole_right slip.SwappedOver there other whole = whole_reverse there whole
whole_right (slip.Missing line) there other whole = cc

either_whole : (within : Bool) (lacks others : List Missing) → is_whole lacks ≡ true → is_whole others ≡ true → is_whole (if within then lacks else others) ≡ true
either_whole true lacks others whole also = whole
either_whole false lacks others whole also = also

whole_with : (change : Change) (lacks : List Missing) → is_missing_line change.slip ≡ false → is_whole lacks ≡ true → is_whole (lacks_with change lacks) ≡ true
unfolding spliced
whole_with change lacks other whole =
    let place = change.place in
    let many = wrong_events change.slip in
    let there = take many (drop place lacks) in
    let right : is_whole (right_lacks change.slip there) ≡ true = whole_right change.slip there other (whole_take many (drop place lacks) (whole_drop place lacks whole)) in
    either_whole (nat_le (place + many) (length lacks)) (take place lacks ++ right_lacks change.slip there ++ drop (place + many) lacks) lacks
    (whole_both (take place lacks ++ right_lacks change.slip there) (drop (place + many) lacks)
    (whole_both (take place lacks) (right_lacks change.slip there) (whole_take place lacks whole) right)
    (whole_drop (place + many) lacks whole))
    whole

-- the sheet has all lines of the record
as_changed : (what : Slip) (place : ℕ) (changed right : List Event) → is_missing_line what ≡ false → sheet_by what place changed right ≡ changed
as_changed (slip.Position s) place changed right other = refl
as_changed (slip.Spelling s) place changed right other = refl
as_changed (slip.Replayed play) place changed right other = refl
as_changed (slip.Tile of s) place changed right other = refl
as_changed (slip.Misread m) place changed right other = refl
as_changed slip.NoRack place changed right other = refl
as_changed (slip.Number n) place changed right other = refl
as_changed (slip.Code s) place changed right other = refl
as_changed (slip.Rest counts) place changed right other = refl
as_changed (slip.Amount score) place changed right other = refl
as_changed slip.OtherPlayer place changed right other = refl
as_changed slip.Repeated place changed right other = refl
as_changed slip.ExtraPass place changed right other = refl
as_changed slip.Extra place changed right other = refl
as_changed slip.Swapped place changed right other = refl
as_changed slip.SwappedOver place changed right other = refl
as_changed (slip.Missing line) place changed right other = cc

pub whole_is_record : WholeIsRecord
unfolding wrong_with
whole_is_record lacks change written right whole other =
    whole_is_sheet (lacks_with change lacks) (applied change written) right (whole_with change lacks other whole)
    ∙ ap (λ (es : List Event). wrong_lines None es right) (sym (as_changed change.slip change.place (applied change written) right other))
