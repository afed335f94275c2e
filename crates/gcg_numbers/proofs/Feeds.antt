-- Other numbers bring no LF into a line, and joined lines can be cut apart again.
use Rattle.std.proofs.Common.{◌≡◌, ℕ, ℤ, ◌-◌, ◌==◌, Bool, true, false, eqb, List, [], ◌∷◌, ◌++◌, length, take, Option, Some, None, if◌then◌else◌, arith, refl, sym, ap, subst, ◌∙◌}
use Rattle.std.specs.List.{slice_split, ends_with, join_with_byte}
use Rattle.std.specs.Fmt.{signed_decimal}
use Rattle.std.proofs.lemmas.Bool.Decides.{nat_tests}
use Rattle.std.proofs.lemmas.List.Splits.{slice_split-cons_yes, slice_split-cons_no}
use Rattle.text_lines.specs.Lines.{is_feed}
use Rattle.gcg_read.specs.declared.events.Event.{Event}
use Rattle.gcg_read.specs.Numerals.{IsPoints}
use Rattle.gcg_write.specs.Fields.{score_text}
use Rattle.gcg_write.proofs.Each.{Each, each_append, each_weaken, each_take}
use Rattle.gcg_write.proofs.Entries.{IsInk, ink_score, ink_total}
use Rattle.gcg_write.proofs.Splitting.{Fails, split_one, split_next}
use Rattle.std.specs.List.{onto_first}
use Rattle.gcg_numbers.specs.Numbers.{Last, last_field, with_score, with_total, with_numbers, after_colon, line_with, is_event_line, lines_with}
use Rattle.gcg_numbers.specs.Laws.{AreOther}
use Rattle.gcg_numbers.proofs.Lasts.{IsLastOf, last_is}
use Rattle.gcg_numbers.proofs.Scored.{number_has}

abbrev pub HasNoFeed : List ℕ → Type 0
HasNoFeed text = Each (Fails is_feed) text

each_front : {X : Type 0} (P : X → Type 0) (xs ys : List X) → Each P (xs ++ ys) → Each P xs
each_front P [] ys h = tt
each_front P (x ∷ xs) ys h = (h.0, each_front P xs ys h.1)

each_back : {X : Type 0} (P : X → Type 0) (xs ys : List X) → Each P (xs ++ ys) → Each P ys
each_back P [] ys h = h
each_back P (x ∷ xs) ys h = each_back P xs ys h.1

ink_no_feed : (bytes : List ℕ) → Each IsInk bytes → HasNoFeed bytes
ink_no_feed bytes h = each_weaken IsInk (Fails is_feed) bytes (λ byte ink. grind (arith, nat_tests)) h

three : (front field new back : List ℕ) → HasNoFeed (front ++ (field ++ back)) → HasNoFeed front → HasNoFeed new → HasNoFeed (front ++ (new ++ back))
three front field new back h k n =
    each_append (Fails is_feed) front (new ++ back) k (each_append (Fails is_feed) new back n (each_back (Fails is_feed) field back (each_back (Fails is_feed) front (field ++ back) h)))

score_by : (text : List ℕ) (score : ℤ) (o : Option Last) → IsPoints score → HasNoFeed text → IsLastOf text o → HasNoFeed (with_score text score o)
score_by text score None points h is = h
score_by text score (Some s) points h is =
    let all : HasNoFeed (s.front ++ (s.field ++ s.back)) = subst HasNoFeed is.whole h in
    let field : HasNoFeed s.field = each_front (Fails is_feed) s.field s.back (each_back (Fails is_feed) s.front (s.field ++ s.back) all) in
    three s.front s.field _ s.back all (each_front (Fails is_feed) s.front (s.field ++ s.back) all)
    (number_has HasNoFeed s.field score (score_text score) field (ink_no_feed (score_text score) (ink_score score points)))

total_by : (text : List ℕ) (event : Event) (o : Option Last) → IsPoints event.score → IsPoints event.total → HasNoFeed text → IsLastOf text o → HasNoFeed (with_total text event o)
total_by text event None score total h is = h
total_by text event (Some t) score total h is =
    let all : HasNoFeed (t.front ++ (t.field ++ t.back)) = subst HasNoFeed is.whole h in
    let front : HasNoFeed t.front = each_front (Fails is_feed) t.front (t.field ++ t.back) all in
    let following : HasNoFeed (t.field ++ t.back) = each_back (Fails is_feed) t.front (t.field ++ t.back) all in
    let field : HasNoFeed t.field = each_front (Fails is_feed) t.field t.back following in
    each_append (Fails is_feed) (with_score t.front event.score (last_field t.front)) _
    (score_by t.front event.score (last_field t.front) score front (last_is t.front))
    (each_append (Fails is_feed) _ t.back (number_has HasNoFeed t.field event.total (signed_decimal event.total) field (ink_no_feed (signed_decimal event.total) (ink_total event.total total)))
    (each_back (Fails is_feed) t.field t.back following))

numbers_no_feed : (event : Event) (text : List ℕ) → IsPoints event.score → IsPoints event.total → HasNoFeed text → HasNoFeed (with_numbers event text)
unfolding with_numbers
numbers_no_feed event text score total h = total_by text event (last_field text) score total h (last_is text)

colon_by : (change : List ℕ → List ℕ) (byte : ℕ) (text : List ℕ) (b : Bool) → is_feed byte ≡ false → HasNoFeed (change text) → HasNoFeed (after_colon change text)
    → HasNoFeed (if b then byte ∷ change text else byte ∷ after_colon change text)
colon_by change byte text true e h k = (e, h)
colon_by change byte text false e h k = (e, k)

colon_no_feed : (change : List ℕ → List ℕ) → ((text : List ℕ) → HasNoFeed text → HasNoFeed (change text)) → (text : List ℕ) → HasNoFeed text → HasNoFeed (after_colon change text)
colon_no_feed change each [] h = tt
colon_no_feed change each (byte ∷ text) h = colon_by change byte text (byte == 58) h.0 (each text h.1) (colon_no_feed change each text h.1)

line_by : (event : Event) (line : List ℕ) (b : Bool) → IsPoints event.score → IsPoints event.total → HasNoFeed line
    → HasNoFeed (if b then after_colon (with_numbers event) (take (length line - 1) line) ++ 13 ∷ [] else after_colon (with_numbers event) line)
line_by event line true score total h =
    each_append (Fails is_feed) (after_colon (with_numbers event) (take (length line - 1) line)) (13 ∷ [])
    (colon_no_feed (with_numbers event) (λ text k. numbers_no_feed event text score total k) (take (length line - 1) line) (each_take (Fails is_feed) (length line - 1) line h)) (refl, tt)
line_by event line false score total h = colon_no_feed (with_numbers event) (λ text k. numbers_no_feed event text score total k) line h

line_no_feed : (event : Event) (line : List ℕ) → IsPoints event.score → IsPoints event.total → HasNoFeed line → HasNoFeed (line_with event line)
unfolding line_with
line_no_feed event line score total h = line_by event line (ends_with eqb line (13 ∷ [])) score total h

-- events that a record can write
abbrev pub AreWritten : List Event → Type 0
AreWritten events = Each (λ (e : Event). IsPoints e.score × IsPoints e.total) events

pub others_written : (olds news : List Event) → AreOther olds news → AreWritten news
others_written [] [] h = tt
others_written [] (n ∷ ns) h = absurd h
others_written (o ∷ os) [] h = tt
others_written (o ∷ os) (n ∷ ns) h = ((h.0.score, h.0.total), others_written os ns h.1)

lines_by : (event : Event) (events : List Event) (line : List ℕ) (lines : List (List ℕ)) (b : Bool) → IsPoints event.score → IsPoints event.total → HasNoFeed line
    → Each HasNoFeed (lines_with events lines) → Each HasNoFeed (lines_with (event ∷ events) lines)
    → Each HasNoFeed (if b then line_with event line ∷ lines_with events lines else line ∷ lines_with (event ∷ events) lines)
lines_by event events line lines true score total h k l = (line_no_feed event line score total h, k)
lines_by event events line lines false score total h k l = (h, l)

pub lines_no_feed : (events : List Event) (lines : List (List ℕ)) → AreWritten events → Each HasNoFeed lines → Each HasNoFeed (lines_with events lines)
lines_no_feed events [] written h = tt
lines_no_feed [] (line ∷ lines) written h = h
lines_no_feed (event ∷ events) (line ∷ lines) written h =
    lines_by event events line lines (is_event_line line) written.0.0 written.0.1 h.0 (lines_no_feed events lines written.1 h.1) (lines_no_feed (event ∷ events) lines written h.1)

-- ---- lines of a text

onto_no_feed : (byte : ℕ) (parts : List (List ℕ)) → is_feed byte ≡ false → Each HasNoFeed parts → Each HasNoFeed (onto_first byte parts)
onto_no_feed byte [] e h = ((e, tt), tt)
onto_no_feed byte (part ∷ parts) e h = ((e, h.0), h.1)

split_by : (byte : ℕ) (text : List ℕ) (b : Bool) → is_feed byte ≡ b → Each HasNoFeed (slice_split is_feed text) → Each HasNoFeed (slice_split is_feed (byte ∷ text))
split_by byte text true e h = subst (Each HasNoFeed) (sym (slice_split-cons_yes is_feed byte text e)) (tt, h)
split_by byte text false e h = subst (Each HasNoFeed) (sym (slice_split-cons_no is_feed byte text e)) (onto_no_feed byte (slice_split is_feed text) e h)

pub split_no_feed : (text : List ℕ) → Each HasNoFeed (slice_split is_feed text)
split_no_feed [] = (tt, tt)
split_no_feed (byte ∷ text) = split_by byte text (is_feed byte) refl (split_no_feed text)

pub joined_again : (part : List ℕ) (parts : List (List ℕ)) → Each HasNoFeed (part ∷ parts) → slice_split is_feed (join_with_byte 10 (part ∷ parts)) ≡ part ∷ parts
joined_again part [] h = split_one is_feed part h.0
joined_again part (next ∷ parts) h =
    split_next is_feed part 10 (join_with_byte 10 (next ∷ parts)) h.0 refl ∙ ap (λ l. part ∷ l) (joined_again next parts h.1)
