-- Every record is a draft that means itself.
use Rattle.std.proofs.Common.{◌≡◌, ℕ, suc, ◌+◌, ◌-◌, ◌==◌, ◌≤◌, ◌&&◌, Bool, true, false, eqb, List, [], ◌∷◌, ◌++◌, length, take, drop, map, Option, Some, None, Ok, Err, if◌then◌else◌, ◌⊎◌, inl, inr, arith, refl, sym, ap, subst, ◌∙◌}
use Rattle.std.specs.List.{slice_split, starts_with, after_first, flat_map, join_with_byte}
use Rattle.std.proofs.lemmas.Bool.Decides.{nat_tests}
use Rattle.std.proofs.lemmas.List.{append-nil, append_assoc}
use Rattle.std.proofs.lemmas.List.Concat.{flat_map-cons}
use Rattle.std.proofs.lemmas.List.Splits.{join_with_byte-slice_split}
use Rattle.text_lines.specs.Fields.{fields_of}
use Rattle.text_lines.specs.Lines.{without_mark, without_return, is_feed, lines_of}
use Rattle.gcg_read.specs.declared.events.Event.{Event}
use Rattle.gcg_read.specs.declared.event_lines.Heading.{Heading}
use Rattle.gcg_read.specs.declared.players.Players.{Players}
use Rattle.gcg_read.specs.declared.records.Record.{Record}
use Rattle.gcg_read.specs.Cutting.{is_colon, Named, head_of}
use Rattle.gcg_read.specs.EventLines.{event_of}
use Rattle.gcg_read.specs.Players.{no_players}
use Rattle.gcg_read.specs.Records.{with_line, record_from, record_of, no_record}
use Rattle.gcg_write.proofs.Each.{Each}
use Rattle.gcg_write.proofs.Inversions.{both, stepped, ok_same}
use Rattle.gcg_write.proofs.LineCuts.{returns, ends_after}
use Rattle.gcg_write.proofs.Parts.{drop_more}
use Rattle.gcg_write.proofs.Splitting.{Fails, first_place}
use Rattle.gcg_numbers.specs.Numbers.{after_colon, in_line, is_event_line, mark_of}
use Rattle.gcg_numbers.proofs.Entries.{entered}
use Rattle.gcg_numbers.proofs.Heads.{Colon, cut, head_cut, named_other, no_head, changed_cut}
use Rattle.gcg_numbers.proofs.Lines.{Cons, cons, begins}
use Rattle.gcg_numbers.proofs.Marks as marks
use Rattle.gcg_numbers.proofs.Texts.{read_lines, as_split}
use Rattle.gcg_numbers.proofs.Walks.{so_far, Added, added, passed, eventful, no_colon}
use Rattle.gcg_drafts.specs.declared.missing.Missing.{Missing}
use Rattle.gcg_drafts.specs.declared.missing.Missing.TheVariants as missing
use Rattle.gcg_drafts.specs.Lacks.{lacks_in}
use Rattle.gcg_drafts.specs.Texts.{completed_by, completed, completed_line, completed_text, missing_by, missing_on, missing_in}
use Rattle.gcg_drafts.specs.Laws.{count_of, IsReported, HasNoScore, MeansItself, OwnDraft}
use Rattle.gcg_drafts.proofs.Reported.{lacks_are_reported}

-- ---- the fields of an event lack nothing

nothing_by : (m : Missing) → count_of m ≡ 0 → m ≡ missing.Nothing
nothing_by missing.Nothing e = refl
nothing_by missing.Total e = absurd (omega (arith, e))
nothing_by missing.Both e = absurd (omega (arith, e))

whole_by : (fields : List (List ℕ)) (e : Event) → IsReported fields [] ⊎ HasNoScore fields [] e → lacks_in fields ≡ Ok missing.Nothing
whole_by fields e (inl t) = t.reported ∙ ap (λ m. Ok m) (nothing_by t.lacks t.many)
whole_by fields e (inr h) = absurd (omega (arith, h.many))

whole : (heading : Heading) (fields : List (List ℕ)) (e : Event) → event_of heading fields ≡ Ok e → lacks_in fields ≡ Ok missing.Nothing
whole heading fields e read =
    whole_by fields e (lacks_are_reported heading fields [] e (omega arith) (ap (event_of heading) (append-nil fields) ∙ read))

-- ---- one line

stays_after : (text : List ℕ) → lacks_in (fields_of text) ≡ Ok missing.Nothing → completed text ≡ text
unfolding completed
stays_after text e = ap (λ l. completed_by l text) e

after_cut : (before after : List ℕ) → Each (Fails is_colon) before → after_first is_colon (before ++ 58 ∷ after) ≡ after
after_cut before after first = ap (λ k. drop (k + 1) (before ++ 58 ∷ after)) (first_place is_colon before 58 after first refl) ∙ drop_more before 58 after

-- an event line with nothing amiss, after its '>'
record IsWhole (line : List ℕ) : Type 0 where
  stays : after_colon completed line ≡ line
  lacks : lacks_in (fields_of (after_first is_colon line)) ≡ Ok missing.Nothing

whole_cut : (byte : ℕ) (text : List ℕ) (head : Named) → (byte == 62) ≡ true → head_of text ≡ Some head → lacks_in (fields_of head.after) ≡ Ok missing.Nothing
    → Each (Fails is_colon) text ⊎ Colon text → IsWhole (byte ∷ text)
whole_cut byte text head is_event headed lacks (inl none) = absurd (no_head text head none headed)
whole_cut byte text head is_event headed lacks (inr c) =
    let there = named_other _ c.after c.after head (sym (head_cut c.before c.after c.first) ∙ ap head_of (sym c.whole) ∙ headed) in
    let first : Each (Fails is_colon) (byte ∷ c.before) = (no_colon byte is_event, c.first) in
    let is : byte ∷ text ≡ (byte ∷ c.before) ++ 58 ∷ c.after = ap (λ l. byte ∷ l) c.whole in
    let own : lacks_in (fields_of c.after) ≡ Ok missing.Nothing = ap (λ l. lacks_in (fields_of l)) (sym there.0) ∙ lacks in
    record {
      stays = ap (after_colon completed) is ∙ changed_cut completed (byte ∷ c.before) c.after first ∙ ap (λ l. (byte ∷ c.before) ++ 58 ∷ l) (stays_after c.after own) ∙ sym is;
      lacks = ap (λ l. lacks_in (fields_of (after_first is_colon l))) is ∙ ap (λ l. lacks_in (fields_of l)) (after_cut (byte ∷ c.before) c.after first) ∙ own;
    }

event_whole : (players : Players) (done : List Event) (n byte : ℕ) (text : List ℕ) (next : Record) → (byte == 62) ≡ true → Added players done n text next → IsWhole (byte ∷ text)
event_whole players done n byte text next is_event a =
    let h = entered (so_far players done) n text a.entry a.read in
    whole_cut byte text h.head is_event h.headed (whole (record { line = n; player = h.seat }) (fields_of h.head.after) a.entry.event h.event) (cut text)

-- a CR at the end of a line

same_byte : (a b : ℕ) → (a == b) ≡ true → a ≡ b
same_byte a b e = grind (arith, nat_tests)

first_holds : (a b : Bool) → (a && b) ≡ true → a ≡ true
first_holds true b e = refl
first_holds false b e = absurd cc

ends : (a : ℕ) (line : List ℕ) → returns (a ∷ line) ≡ true → take (length (a ∷ line) - 1) (a ∷ line) ++ 13 ∷ [] ≡ a ∷ line
ends a [] e = ap (λ x. x ∷ []) (same_byte 13 a (first_holds (eqb 13 a) true e))
ends a (c ∷ line) e =
    let many : length (a ∷ c ∷ line) - 1 ≡ suc (length line) = omega arith in
    let less : length line ≡ length (c ∷ line) - 1 = omega arith in
    let rest : returns (c ∷ line) ≡ true = sym (ends_after (a ∷ []) (c ∷ line) (omega arith)) ∙ e in
    ap (λ k. take k (a ∷ c ∷ line) ++ 13 ∷ []) many ∙ ap (λ l. a ∷ l) (ap (λ k. take k (c ∷ line) ++ 13 ∷ []) less ∙ ends c line rest)

ended : (line : List ℕ) → returns line ≡ true → take (length line - 1) line ++ 13 ∷ [] ≡ line
ended [] e = absurd cc
ended (a ∷ line) e = ends a line e

in_by : (line : List ℕ) (b : Bool) → returns line ≡ b → after_colon completed (if b then take (length line - 1) line else line) ≡ (if b then take (length line - 1) line else line)
    → (if b then after_colon completed (take (length line - 1) line) ++ 13 ∷ [] else after_colon completed line) ≡ line
in_by line true e stays = ap (λ l. l ++ 13 ∷ []) stays ∙ ended line e
in_by line false e stays = stays

-- what is shown of one line: it stays, and what it lacks and adds
record IsLine (line : List ℕ) (done events : List Event) : Type 0 where
  stays : completed_line line ≡ line
  more : List Event
  added : events ≡ done ++ more
  lacks : missing_on (without_return line) ≡ map (λ e. missing.Nothing) more

event_line : (players : Players) (done : List Event) (n : ℕ) (line : List ℕ) (next : Record) → is_event_line line ≡ true → with_line (so_far players done) n (without_return line) ≡ Ok next
    → IsLine line done next.events
unfolding completed_line
event_line players done n line next e h =
    let begun : is_event_line (without_return line) ≡ true = begins line ∙ e in
    let c = cons (without_return line) begun in
    let a = added players done n c.text next (eventful players done n c.byte c.text next c.event (subst (λ l. with_line (so_far players done) n l ≡ Ok next) c.whole h)) in
    let w : IsWhole (without_return line) = subst IsWhole (sym c.whole) (event_whole players done n c.byte c.text next c.event a) in
    record {
      stays = rw e (in_by line (returns line) refl w.stays);
      more = a.entry.event ∷ [];
      added = a.events;
      lacks = rw begun (ap (λ l. missing_by l ∷ []) w.lacks);
    }

other_line : (players : Players) (done : List Event) (n : ℕ) (line : List ℕ) (next : Record) → is_event_line line ≡ false → with_line (so_far players done) n (without_return line) ≡ Ok next
    → IsLine line done next.events
unfolding completed_line
other_line players done n line next e h =
    let begun : is_event_line (without_return line) ≡ false = begins line ∙ e in
    let p = passed players done done n n (without_return line) next begun refl h in
    record { stays = rw e refl; more = []; added = p.0 ∙ sym (append-nil done); lacks = rw begun refl }

line_by : (players : Players) (done : List Event) (n : ℕ) (line : List ℕ) (next : Record) (b : Bool) → is_event_line line ≡ b → with_line (so_far players done) n (without_return line) ≡ Ok next
    → IsLine line done next.events
line_by players done n line next true e h = event_line players done n line next e h
line_by players done n line next false e h = other_line players done n line next e h

-- ---- the lines

record AreLines (lines : List (List ℕ)) (done events : List Event) : Type 0 where
  stay : map completed_line lines ≡ lines
  more : List Event
  added : events ≡ done ++ more
  lacks : flat_map missing_on (map without_return lines) ≡ map (λ e. missing.Nothing) more

map_append : (xs ys : List Event) → map (λ (e : Event). missing.Nothing) (xs ++ ys) ≡ map (λ (e : Event). missing.Nothing) xs ++ map (λ (e : Event). missing.Nothing) ys
map_append [] ys = refl
map_append (x ∷ xs) ys = ap (λ l. missing.Nothing ∷ l) (map_append xs ys)

are_lines : (lines : List (List ℕ)) (n : ℕ) (players : Players) (done : List Event) (r : Record) → record_from (so_far players done) n (map without_return lines) ≡ Ok r
    → AreLines lines done r.events
unfolding record_from
are_lines [] n players done r h =
    let same = ok_same (so_far players done) r h in
    record { stay = refl; more = []; added = ap (λ (x : Record). x.events) (sym same) ∙ sym (append-nil done); lacks = refl }
are_lines (line ∷ lines) n players done r h =
    let a = stepped (with_line (so_far players done) n (without_return line)) _ r h in
    let first = line_by players done n line a.0 (is_event_line line) refl a.1.0 in
    let rest = are_lines lines (n + 1) a.0.players a.0.events r a.1.1 in
    record {
      stay = rw (first.stays, rest.stay) refl;
      more = first.more ++ rest.more;
      added = rest.added ∙ ap (λ l. l ++ rest.more) first.added ∙ append_assoc done first.more rest.more;
      lacks = flat_map-cons missing_on (without_return line) (map without_return lines) ∙ rw (first.lacks, rest.lacks) (sym (map_append first.more rest.more));
    }

-- ---- the text

and_false : (a : Bool) → (a && false) ≡ false
and_false true = refl
and_false false = refl

mark_cut : (text : List ℕ) → marks.begins text ≡ true → marks.mark ++ drop 3 text ≡ text
mark_cut [] e = absurd cc
mark_cut (a ∷ []) e = let f : (eqb 0xef a && false) ≡ false = and_false (eqb 0xef a) in absurd cc
mark_cut (a ∷ b ∷ []) e =
    let f : (eqb 0xef a && (eqb 0xbb b && false)) ≡ false = ap (λ x. eqb 0xef a && x) (and_false (eqb 0xbb b)) ∙ and_false (eqb 0xef a) in
    absurd cc
mark_cut (a ∷ b ∷ c ∷ text) e =
    let first = both (eqb 0xef a) _ e in
    let second = both (eqb 0xbb b) _ first.1 in
    let third = both (eqb 0xbf c) _ second.1 in
    rw (sym (same_byte 0xef a first.0), sym (same_byte 0xbb b second.0), sym (same_byte 0xbf c third.0)) refl

text_by : (text : List ℕ) (b : Bool) → marks.begins text ≡ b → (if b then marks.mark else []) ++ (if b then drop 3 text else text) ≡ text
text_by text true e = mark_cut text e
text_by text false e = refl

pub own_draft : OwnDraft
unfolding completed_text missing_in
own_draft text r read =
    let raws = slice_split is_feed (without_mark text) in
    let old : record_from no_record 1 (map without_return raws) ≡ Ok r = ap (record_from no_record 1) (sym (as_split text)) ∙ read_lines text r read in
    let all = are_lines raws 1 no_players [] r old in
    record {
      same = ap (λ l. mark_of text ++ join_with_byte 10 l) all.stay ∙ ap (λ l. mark_of text ++ l) (join_with_byte-slice_split 10 (without_mark text)) ∙ text_by text (marks.begins text) refl;
      whole = ap (flat_map missing_on) (as_split text) ∙ all.lacks ∙ ap (map (λ e. missing.Nothing)) (sym all.added);
    }
