use Rattle.std.proofs.Common.{◌≡◌, ◌+◌, ◌∙◌, ℕ, [], ◌∷◌, ◌++◌, length, sym, ap, subst, arith}
use Rattle.std.proofs.lemmas.Iterator.Adapters.{YieldsList-from_vec}
use Rattle.std.proofs.lemmas.Iterator.Consumers.{YieldsList-turn, YieldsList-end}
use Rattle.std.proofs.lemmas.List.{length_push}
use Rattle.lex_check.specs.Pairs.{list_in}
use Rattle.sheet_scores.specs.Rows.{IsSheetRowAt}
use Rattle.sheet_notes.specs.Notes.{IsNoteAt, AreNotes}
use Rattle.sheet_notes.proofs.NoteSteps.{notes_more, row_of}
use Rattle.sheet_notes.proofs.sheets.notes_to.Goals as goal

pub returns-then-place-end : goal.returns-then-place-end
returns-then-place-end c =
    λ right is are.
    let last : length c.loop-row.notes.items ≡ c.args.end = omega (arith, c.len-place.ensures, c.if-place-end.true, c.loop-row.notes.ok.0) in
    subst (λ (n : ℕ). AreNotes c.args.number c.args.rules.now (list_in c.args.pair.now) c.args.events.now right n c.loop-row.notes.items) last (c.loop-row.invariant.notes right is are)

pub loop-row-preserved : goal.loop-row-preserved
loop-row-preserved c =
    let number = c.args.number in
    let rules = c.args.rules.now in
    let list = list_in c.args.pair.now in
    let events = c.args.events.now in
    let rows = c.args.rows.items in
    let row = c.in-Some.row in
    let notes = c.loop-row.notes.items in
    let note = c.in_ok-note.note in
    let t = YieldsList-turn (YieldsList-from_vec rows c.into_iter-row-iterator.ensures.into_iter_gives.0 (c.into_iter-row-iterator.ensures.into_iter_gives.1 ∙ c.args.rows.ok.0)) c.loop-row.yielded _
    c.loop-row.yielded_by c.next.result c.next.new.self row c.in-Some.is c.next.ensures.steps in
    let counted = c.loop-row.invariant.counted in
    let here : c.len-place.result ≡ length notes = omega (arith, c.len-place.ensures, c.loop-row.notes.ok.0) in
    let pushed : c.push.new.self.items ≡ notes ++ note ∷ [] = c.in_ok-push.ensures.items in
    let longer : length c.push.new.self.items ≡ length notes + 1 = ap length pushed ∙ length_push notes note in
    record {
      counted = longer ∙ ap (λ n. n + 1) counted ∙ sym (length_push c.loop-row.yielded row);
      within = omega (arith, longer, here, c.loop-row.invariant.within, c.if-place-end.false);
      notes = λ right is are.
          let there = row_of rules list events right (length events) (length c.loop-row.yielded) rows row are t.0 t.1 in
          let at_place = subst (λ (n : ℕ). IsSheetRowAt rules list events right n row) (sym counted ∙ sym here) there in
          let noted = subst (λ (n : ℕ). IsNoteAt number rules list events right n note) here (c.in_ok-note.ensures right is at_place) in
          subst (λ (n : ℕ). AreNotes number rules list events right n c.push.new.self.items) (sym longer)
          (notes_more number rules list events right (length notes) notes c.push.new.self.items note (c.loop-row.invariant.notes right is are) noted pushed);
    }

pub returns : goal.returns
returns c =
    λ right is are.
    let rows = c.args.rows.items in
    let t = YieldsList-end (YieldsList-from_vec rows c.into_iter-row-iterator.ensures.into_iter_gives.0 (c.into_iter-row-iterator.ensures.into_iter_gives.1 ∙ c.args.rows.ok.0)) c.loop-row.yielded _
    c.loop-row.yielded_by c.next.result c.next.new.self c.in-None.is c.next.ensures.steps in
    let all : length c.loop-row.notes.items ≡ length rows = c.loop-row.invariant.counted ∙ t.1 in
    let many = are.as_many in
    let last : length c.loop-row.notes.items ≡ c.args.end = omega (arith, all, many, c.loop-row.invariant.within, c.requires) in
    subst (λ (n : ℕ). AreNotes c.args.number c.args.rules.now (list_in c.args.pair.now) c.args.events.now right n c.loop-row.notes.items) last (c.loop-row.invariant.notes right is are)
