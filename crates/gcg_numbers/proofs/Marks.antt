-- A sheet with other numbers begins with a byte order mark if it did.
use Rattle.std.proofs.Common.{◌≡◌, ℕ, suc, ◌-◌, ◌==◌, ◌&&◌, Bool, true, false, eqb, List, [], ◌∷◌, ◌++◌, length, take, drop, if◌then◌else◌, arith, refl, ap, subst, ◌∙◌}
use Rattle.std.specs.List.{slice_split, starts_with, join_with_byte}
use Rattle.std.proofs.lemmas.Bool.Decides.{nat_tests}
use Rattle.std.proofs.lemmas.List.Splits.{join_with_byte-slice_split}
use Rattle.text_lines.specs.Lines.{without_mark, is_feed}
use Rattle.gcg_read.specs.declared.events.Event.{Event}
use Rattle.gcg_write.proofs.LineCuts.{returns}
use Rattle.gcg_numbers.specs.Numbers.{with_numbers, after_colon, line_with, is_event_line, lines_with, mark_of}
use Rattle.gcg_numbers.proofs.Walks.{no_colon}

abbrev pub mark : List ℕ
mark = 0xef ∷ 0xbb ∷ 0xbf ∷ []

abbrev pub begins : List ℕ → Bool
begins text = starts_with eqb text mark

and_false : (a : Bool) → (a && false) ≡ false
and_false true = refl
and_false false = refl

same_byte : (a b : ℕ) → (a == b) ≡ true → a ≡ b
same_byte a b e = grind (arith, nat_tests)

-- ---- an event line begins with its '>'

record Same (a : ℕ) (line : List ℕ) : Type 0 where
  rest : List ℕ
  whole : line ≡ a ∷ rest

only_by : (change : List ℕ → List ℕ) (a : ℕ) (b : Bool) → (a == 62) ≡ true → returns (a ∷ []) ≡ b
    → Same a (if b then after_colon change (take (length (a ∷ []) - 1) (a ∷ [])) ++ 13 ∷ [] else after_colon change (a ∷ []))
only_by change a true e r =
    let ends : returns (62 ∷ []) ≡ true = subst (λ n. returns (n ∷ []) ≡ true) (same_byte a 62 e) r in
    absurd cc
only_by change a false e r = record { rest = []; whole = rw (no_colon a e) refl }

more_by : (change : List ℕ → List ℕ) (a c : ℕ) (text : List ℕ) (b : Bool) → (a == 62) ≡ true
    → Same a (if b then after_colon change (take (length (a ∷ c ∷ text) - 1) (a ∷ c ∷ text)) ++ 13 ∷ [] else after_colon change (a ∷ c ∷ text))
more_by change a c text true e =
    let many : length (a ∷ c ∷ text) - 1 ≡ suc (length text) = omega arith in
    let cut : take (length (a ∷ c ∷ text) - 1) (a ∷ c ∷ text) ≡ a ∷ take (length text) (c ∷ text) = ap (λ k. take k (a ∷ c ∷ text)) many in
    let colon : after_colon change (a ∷ take (length text) (c ∷ text)) ≡ a ∷ after_colon change (take (length text) (c ∷ text)) = rw (no_colon a e) refl in
    record { rest = after_colon change (take (length text) (c ∷ text)) ++ 13 ∷ []; whole = ap (λ l. after_colon change l ++ 13 ∷ []) cut ∙ ap (λ l. l ++ 13 ∷ []) colon }
more_by change a c text false e = record { rest = after_colon change (c ∷ text); whole = rw (no_colon a e) refl }

event_first : (event : Event) (a : ℕ) (text : List ℕ) → (a == 62) ≡ true → Same a (line_with event (a ∷ text))
unfolding line_with
event_first event a [] e = only_by (with_numbers event) a (returns (a ∷ [])) e refl
event_first event a (c ∷ text) e = more_by (with_numbers event) a c text (returns (a ∷ c ∷ text)) e

no_mark : (a : ℕ) (text : List ℕ) → (a == 62) ≡ true → begins (a ∷ text) ≡ false
no_mark a text e = rw (same_byte a 62 e) refl

event_join : (a : ℕ) (rest : List ℕ) (lines : List (List ℕ)) → (a == 62) ≡ true → begins (join_with_byte 10 ((a ∷ rest) ∷ lines)) ≡ false
event_join a rest [] e = no_mark a rest e
event_join a rest (line ∷ lines) e = no_mark a (rest ++ 10 ∷ join_with_byte 10 (line ∷ lines)) e

-- ---- other lines stay

pub stays : (line : List ℕ) (lines others : List (List ℕ)) → begins (join_with_byte 10 (line ∷ lines)) ≡ false → begins (join_with_byte 10 (line ∷ others)) ≡ false
stays [] lines [] h = refl
stays [] lines (other ∷ others) h = refl
stays (a ∷ []) lines [] h = and_false (eqb 0xef a)
stays (a ∷ []) lines (other ∷ others) h = and_false (eqb 0xef a)
stays (a ∷ b ∷ []) lines [] h = ap (λ x. eqb 0xef a && x) (and_false (eqb 0xbb b)) ∙ and_false (eqb 0xef a)
stays (a ∷ b ∷ []) lines (other ∷ others) h = ap (λ x. eqb 0xef a && x) (and_false (eqb 0xbb b)) ∙ and_false (eqb 0xef a)
stays (a ∷ b ∷ c ∷ rest) [] [] h = h
stays (a ∷ b ∷ c ∷ rest) [] (other ∷ others) h = h
stays (a ∷ b ∷ c ∷ rest) (line ∷ lines) [] h = h
stays (a ∷ b ∷ c ∷ rest) (line ∷ lines) (other ∷ others) h = h

line_by : (event : Event) (events : List Event) (line : List ℕ) (lines : List (List ℕ)) (b : Bool) → is_event_line line ≡ b → begins (join_with_byte 10 (line ∷ lines)) ≡ false
    → begins (join_with_byte 10 (if b then line_with event line ∷ lines_with events lines else line ∷ lines_with (event ∷ events) lines)) ≡ false
line_by event events [] lines true e h = absurd cc
line_by event events (a ∷ text) lines true e h =
    let first = event_first event a text e in
    rw first.whole (event_join a first.rest (lines_with events lines) e)
line_by event events line lines false e h = stays line lines (lines_with (event ∷ events) lines) h

marks : (events : List Event) (lines : List (List ℕ)) → begins (join_with_byte 10 lines) ≡ false → begins (join_with_byte 10 (lines_with events lines)) ≡ false
marks events [] h = refl
marks [] (line ∷ lines) h = h
marks (event ∷ events) (line ∷ lines) h = line_by event events line lines (is_event_line line) refl h

-- ---- the text

mark_by : (events : List Event) (text : List ℕ) (b : Bool) → begins text ≡ b
    → without_mark ((if b then mark else []) ++ join_with_byte 10 (lines_with events (slice_split is_feed (if b then drop 3 text else text))))
    ≡ join_with_byte 10 (lines_with events (slice_split is_feed (if b then drop 3 text else text)))
mark_by events text true e = refl
mark_by events text false e =
    let own : begins (join_with_byte 10 (slice_split is_feed text)) ≡ false = ap begins (join_with_byte-slice_split 10 text) ∙ e in
    let out = join_with_byte 10 (lines_with events (slice_split is_feed text)) in
    ap (λ (x : Bool). if x then drop 3 out else out) (marks events (slice_split is_feed text) own)

pub marked : (events : List Event) (text : List ℕ)
    → without_mark (mark_of text ++ join_with_byte 10 (lines_with events (slice_split is_feed (without_mark text)))) ≡ join_with_byte 10 (lines_with events (slice_split is_feed (without_mark text)))
marked events text = mark_by events text (begins text) refl
