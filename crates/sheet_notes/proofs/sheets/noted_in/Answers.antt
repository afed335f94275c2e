use Rattle.std.proofs.Common.{ℕ, List, sym, subst}
use Rattle.gcg_read.specs.declared.events.Event.{Event}
use Rattle.lex_check.specs.Pairs.{list_in}
use Rattle.game_walk.specs.Walks.{IsWalk}
use Rattle.explain_answers.specs.Openings.{place_of_fault}
use Rattle.sheet_notes.specs.Notes.{AreNotes, noted_to, IsRefusalExplained}
use Rattle.sheet_notes.proofs.sheets.noted_in.Goals as goal

pub returns : goal.returns
returns c =
    let number = c.args.number in
    let rules = c.args.rules.now in
    let list = list_in c.args.pair.now in
    let entry = c.args.entry.now in
    let right = c.requires.right in
    let own = c.as_slice-events.result.now in
    let same = c.as_slice-events.ensures in
    let is = subst (λ (es : List Event). IsWalk rules list es right c.args.walk.now) (sym same) c.requires.is in
    let notes = c.in_ok-notes.notes.items in
    let to_end = c.in_ok-notes.ensures right is (c.in_ok-rows.ensures right is) in
    let to_place = subst (λ (n : ℕ). AreNotes number rules list own right n notes) c.noted_to-end.ensures.is to_end in
    record {
      right = right;
      walk = c.args.walk.now;
      walked = c.requires.is;
      notes_are = subst (λ (es : List Event). AreNotes number rules list es right (noted_to es (place_of_fault es entry.finding)) notes) same to_place;
      refusal_is = subst (λ (l : List (List ℕ)). IsRefusalExplained rules l entry entry.finding c.in_ok-refusal.refusal) c.list.ensures.list c.in_ok-refusal.ensures;
    }
