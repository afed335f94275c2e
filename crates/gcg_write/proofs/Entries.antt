-- Events as they are written, read again.
use Rattle.std.proofs.Common.{◌≡◌, ℕ, suc, ◌+◌, ◌/◌, ◌<◌, ◌≤◌, Bool, true, false, ◌||◌, List, [], ◌∷◌, ◌++◌, length, Option, Some, None, Ok, ℤ, pos, negsuc, arith, ap, subst, refl, ◌∙◌, inl, inr}
use Rattle.std.specs.Prelude.{decimal}
use Rattle.std.specs.Char.{is_ascii_digit}
use Rattle.std.specs.Fmt.{signed_decimal}
use Rattle.std.specs.Option.{ok_or}
use Rattle.std.proofs.lemmas.List.{append_assoc, length-append, length-map}
use Rattle.std.proofs.lemmas.Int.{ints}
use Rattle.std.proofs.lemmas.Bool.Decides.{nat_tests}
use Rattle.ref_board.specs.declared.directions.Dir.{Dir}
use Rattle.ref_board.specs.declared.directions.Dir.TheVariants.{Across, Down}
use Rattle.ref_tiles.specs.declared.symbols.Symbol.{Symbol}
use Rattle.gcg_read.specs.declared.faults.Why.TheVariants as why
use Rattle.gcg_read.specs.declared.events.Event.{Event}
use Rattle.gcg_read.specs.declared.events.EventKind.{EventKind}
use Rattle.gcg_read.specs.declared.events.EventKind.TheVariants as kind
use Rattle.gcg_read.specs.declared.event_lines.Heading.{Heading}
use Rattle.gcg_read.specs.Faults.{◌>>=◌}
use Rattle.gcg_read.specs.Numerals.{IsPoints, points_of}
use Rattle.gcg_read.specs.Positions.{position_of}
use Rattle.gcg_read.specs.Racks.{rack_of}
use Rattle.gcg_read.specs.Texts.{text_of}
use Rattle.gcg_read.specs.Codes.{code_of}
use Rattle.gcg_read.specs.Cutting.{is_blank, fields_of}
use Rattle.gcg_read.specs.EventLines.{scored_of, played_of, coded_of, has_digit, event_of}
use Rattle.gcg_write.specs.Fields.{tiles_text, row_text, column_byte, position_text, word_text, score_text, points_text, kind_text}
use Rattle.gcg_write.specs.Normal.{rack_text, event_text_of}
use Rattle.gcg_write.proofs.Inversions.{stepped, given, ok_same, either_of}
use Rattle.gcg_write.proofs.Each.{Each, each_append, each_weaken}
use Rattle.gcg_write.proofs.Splitting.{Fails, field_one, field_more, field_after}
use Rattle.gcg_write.proofs.Digits.{IsDigit, is_digit_true, digits_each, digits_some, points_total, points_score, points_read}
use Rattle.gcg_write.proofs.Spots.{position_again, position_read}
use Rattle.gcg_write.proofs.Symbols.{IsGraphic, word_graphic, word_again, text_read}
use Rattle.gcg_write.proofs.Tiles.{IsTileByte, tiles_bytes, IsRack, rack_again, rack_read}
use Rattle.gcg_write.proofs.Written.{IsCode, code_again, code_read}

-- what may happen in an event
abbrev pub IsKind : EventKind → Type 0
IsKind (kind.Play at dir word) = (at < 225) × (1 ≤ length word) × (length word ≤ 15)
IsKind kind.Pass = IsCode kind.Pass
IsKind (kind.Exchange tiles) = IsCode (kind.Exchange tiles)
IsKind (kind.ExchangeUnknown number) = IsCode (kind.ExchangeUnknown number)
IsKind kind.Withdraw = IsCode kind.Withdraw
IsKind kind.Challenge = IsCode kind.Challenge
IsKind kind.Time = IsCode kind.Time
IsKind (kind.LastRack tiles) = IsCode (kind.LastRack tiles)

-- what may be stated as a rack
abbrev pub IsStated : Option (List ℕ) → Type 0
IsStated None = Unit {0}
IsStated (Some rack) = IsRack rack

-- what may be read as an event
pub record IsEvent (e : Event) : Type 0 where
  pub rack : IsStated e.rack
  pub what : IsKind e.kind
  pub score : IsPoints e.score
  pub total : IsPoints e.total

-- ---- ink: bytes that are not blanks and do not end a line

abbrev pub IsInk : ℕ → Type 0
IsInk byte = 33 ≤ byte

pub ink_no_blank : (bytes : List ℕ) → Each IsInk bytes → Each (Fails is_blank) bytes
ink_no_blank bytes h = each_weaken IsInk (Fails is_blank) bytes (λ byte ink. grind (arith, nat_tests)) h

ink_digits : (bytes : List ℕ) → Each IsDigit bytes → Each IsInk bytes
ink_digits bytes h = each_weaken IsDigit IsInk bytes (λ byte digit. omega (arith, digit.0)) h

small_pos : (n : ℕ) → IsPoints (pos n) → n < 1000000
small_pos n h = omega (arith, ints, h.0, h.1)

small_neg : (n : ℕ) → IsPoints (negsuc n) → suc n < 1000000
small_neg n h = omega (arith, ints, h.0, h.1)

ink_decimal : (n : ℕ) → n < 1000000 → Each IsInk (decimal n)
ink_decimal n h = ink_digits (decimal n) (digits_each n (omega arith))

pub ink_score : (z : ℤ) → IsPoints z → Each IsInk (score_text z)
ink_score (pos n) h = (omega arith, ink_decimal n (small_pos n h))
ink_score (negsuc n) h = (omega arith, ink_decimal (suc n) (small_neg n h))

pub ink_total : (z : ℤ) → IsPoints z → Each IsInk (signed_decimal z)
ink_total (pos n) h = ink_decimal n (small_pos n h)
ink_total (negsuc n) h = ink_score (negsuc n) h

pub some_score : (z : ℤ) → 0 < length (score_text z)
some_score (pos n) = omega arith
some_score (negsuc n) = omega arith

pub some_total : (z : ℤ) → IsPoints z → 0 < length (signed_decimal z)
some_total (pos n) h = digits_some n (omega (arith, small_pos n h))
some_total (negsuc n) h = omega arith

ink_tiles : (tiles : List ℕ) → Each IsInk (tiles_text tiles)
ink_tiles tiles = each_weaken IsTileByte IsInk (tiles_text tiles) (λ byte h. omega (arith, h.0)) (tiles_bytes tiles)

ink_code : (what : EventKind) → IsCode what → Each IsInk (kind_text what)
unfolding kind_text
ink_code (kind.Play at dir word) h = absurd h
ink_code kind.Pass h = (omega arith, tt)
ink_code (kind.Exchange tiles) h = (omega arith, ink_tiles tiles)
ink_code (kind.ExchangeUnknown number) h = (omega arith, ink_decimal number (omega (arith, h.1)))
ink_code kind.Withdraw h = (omega arith, (omega arith, tt))
ink_code kind.Challenge h =
    (omega arith, (omega arith, (omega arith, (omega arith, (omega arith, (omega arith, (omega arith, (omega arith, (omega arith, (omega arith, (omega arith, tt)))))))))))
ink_code kind.Time h = (omega arith, (omega arith, (omega arith, (omega arith, (omega arith, (omega arith, tt))))))
ink_code (kind.LastRack tiles) h = (omega arith, each_append IsInk (tiles_text tiles) (41 ∷ []) (ink_tiles tiles) (omega arith, tt))

some_code : (what : EventKind) → IsCode what → 0 < length (kind_text what)
unfolding kind_text
some_code (kind.Play at dir word) h = absurd h
some_code kind.Pass h = omega arith
some_code (kind.Exchange tiles) h = omega arith
some_code (kind.ExchangeUnknown number) h = omega arith
some_code kind.Withdraw h = omega arith
some_code kind.Challenge h = omega arith
some_code kind.Time h = omega arith
some_code (kind.LastRack tiles) h = omega arith

ink_position : (at : ℕ) (dir : Dir) → at < 225 → Each IsInk (position_text at dir)
ink_position at Across h =
    each_append IsInk (row_text at) (column_byte at ∷ []) (ink_decimal (at / 15 + 1) (omega arith)) (omega arith, tt)
ink_position at Down h = (omega arith, ink_decimal (at / 15 + 1) (omega arith))

some_position : (at : ℕ) (dir : Dir) → 0 < length (position_text at dir)
some_position at Across = omega (arith, length-append (row_text at) (column_byte at ∷ []))
some_position at Down = omega arith

ink_word : (word : List Symbol) → Each IsInk (word_text word)
ink_word word = each_weaken IsGraphic IsInk (word_text word) (λ byte h. omega (arith, h.0)) (word_graphic word)

-- ---- fields

points_fields : (score total : ℤ) → IsPoints score → IsPoints total → fields_of (points_text score total) ≡ score_text score ∷ signed_decimal total ∷ []
points_fields score total h k =
    field_more (score_text score) (signed_decimal total) (some_score score) (ink_no_blank (score_text score) (ink_score score h))
    ∙ ap (λ (rest : List (List ℕ)). score_text score ∷ rest) (field_one (signed_decimal total) (some_total total k) (ink_no_blank (signed_decimal total) (ink_total total k)))

code_fields : (what : EventKind) (rest : List ℕ) → IsCode what → fields_of (kind_text what ++ 32 ∷ rest) ≡ kind_text what ∷ fields_of rest
code_fields what rest h = field_more (kind_text what) rest (some_code what h) (ink_no_blank (kind_text what) (ink_code what h))

play_fields : (at : ℕ) (dir : Dir) (word : List Symbol) (rest : List ℕ) → at < 225 → 1 ≤ length word
    → fields_of (kind_text (kind.Play at dir word) ++ 32 ∷ rest) ≡ position_text at dir ∷ word_text word ∷ fields_of rest
unfolding kind_text
play_fields at dir word rest small some =
    ap fields_of (append_assoc (position_text at dir) (32 ∷ word_text word) (32 ∷ rest))
    ∙ field_more (position_text at dir) (word_text word ++ 32 ∷ rest) (some_position at dir) (ink_no_blank (position_text at dir) (ink_position at dir small))
    ∙ ap (λ (fields : List (List ℕ)). position_text at dir ∷ fields)
    (field_more (word_text word) rest (omega (arith, length-map word Rattle.ref_tiles.specs.Symbols.byte_of)) (ink_no_blank (word_text word) (ink_word word)))

rack_fields : (rack rest : List ℕ) → IsRack rack → fields_of (rack_text (Some rack) ++ rest) ≡ tiles_text rack ∷ fields_of rest
rack_fields rack rest h =
    ap fields_of (append_assoc (tiles_text rack) (32 ∷ []) rest)
    ∙ field_more (tiles_text rack) rest (omega (arith, h.some)) (ink_no_blank (tiles_text rack) (ink_tiles rack))

tile_no_digit : (byte : ℕ) → IsTileByte byte → is_ascii_digit byte ≡ false
tile_no_digit byte h = let low = h.0 in grind (arith, nat_tests)

tiles_no_digit : (bytes : List ℕ) → Each IsTileByte bytes → has_digit bytes ≡ false
tiles_no_digit [] h = refl
tiles_no_digit (byte ∷ bytes) h = rw (tile_no_digit byte h.0, tiles_no_digit bytes h.1) refl

any_digit : (digits rest : List ℕ) → 0 < length digits → Each IsDigit digits → has_digit (digits ++ rest) ≡ true
any_digit [] rest some h = absurd (omega arith)
any_digit (d ∷ ds) rest some h = ap (λ b. b || has_digit (ds ++ rest)) (is_digit_true d h.0)

digits_have : (digits : List ℕ) → 0 < length digits → Each IsDigit digits → has_digit digits ≡ true
digits_have [] some h = absurd (omega arith)
digits_have (d ∷ ds) some h = ap (λ b. b || has_digit ds) (is_digit_true d h.0)

or_true : (a b : Bool) → b ≡ true → (a || b) ≡ true
or_true true b e = refl
or_true false b e = e

position_digit : (at : ℕ) (dir : Dir) → at < 225 → has_digit (position_text at dir) ≡ true
position_digit at Across h = any_digit (row_text at) (column_byte at ∷ []) (digits_some (at / 15 + 1) (omega arith)) (digits_each (at / 15 + 1) (omega arith))
position_digit at Down h =
    or_true (is_ascii_digit (column_byte at)) (has_digit (row_text at)) (digits_have (row_text at) (digits_some (at / 15 + 1) (omega arith)) (digits_each (at / 15 + 1) (omega arith)))

-- ---- written and read

-- the event with these parts, on the line of a heading
abbrev pub event_at : Heading → Option (List ℕ) → EventKind → ℤ → ℤ → Event
event_at heading rack what score total =
    record { line = heading.line; player = heading.player; rack = rack; kind = what; score = score; total = total }

scored_again : (heading : Heading) (rack : Option (List ℕ)) (what : EventKind) (score total : ℤ) → IsPoints score → IsPoints total
    → scored_of heading rack what (score_text score) (signed_decimal total) ≡ Ok (event_at heading rack what score total)
unfolding scored_of
scored_again heading rack what score total h k = rw (points_score score h, points_total total k) refl

coded_again : (heading : Heading) (rack : Option (List ℕ)) (what : EventKind) (score total : ℤ) → IsCode what → IsPoints score → IsPoints total
    → coded_of heading rack (kind_text what) (score_text score) (signed_decimal total) ≡ Ok (event_at heading rack what score total)
unfolding coded_of
coded_again heading rack what score total c h k = rw (code_again what c) (scored_again heading rack what score total h k)

played_again : (heading : Heading) (rack : Option (List ℕ)) (at : ℕ) (dir : Dir) (word : List Symbol) (score total : ℤ)
    → IsKind (kind.Play at dir word) → IsPoints score → IsPoints total
    → played_of heading rack (position_text at dir) (word_text word) (score_text score) (signed_decimal total)
    ≡ Ok (event_at heading rack (kind.Play at dir word) score total)
unfolding played_of
played_again heading rack at dir word score total c h k =
    rw (position_again at dir c.0, word_again word c.1 c.2) (scored_again heading rack (kind.Play at dir word) score total h k)

-- the fields of an event, after the colon
abbrev fields_after : Option (List ℕ) → EventKind → ℤ → ℤ → List (List ℕ)
fields_after rack what score total = fields_of (32 ∷ (rack_text rack ++ (kind_text what ++ 32 ∷ points_text score total)))

code_event : (heading : Heading) (rack : Option (List ℕ)) (what : EventKind) (score total : ℤ) → IsStated rack → IsCode what → IsPoints score → IsPoints total
    → event_of heading (fields_after rack what score total) ≡ Ok (event_at heading rack what score total)
unfolding event_of
code_event heading None what score total r c h k =
    let fields : fields_after None what score total ≡ kind_text what ∷ score_text score ∷ signed_decimal total ∷ [] =
    field_after (kind_text what ++ 32 ∷ points_text score total) ∙ code_fields what (points_text score total) c
    ∙ ap (λ (rest : List (List ℕ)). kind_text what ∷ rest) (points_fields score total h k) in
    ap (event_of heading) fields ∙ coded_again heading None what score total c h k
code_event heading (Some rack) what score total r c h k =
    let fields : fields_after (Some rack) what score total ≡ tiles_text rack ∷ kind_text what ∷ score_text score ∷ signed_decimal total ∷ [] =
    field_after (rack_text (Some rack) ++ (kind_text what ++ 32 ∷ points_text score total))
    ∙ rack_fields rack (kind_text what ++ 32 ∷ points_text score total) r
    ∙ ap (λ (rest : List (List ℕ)). tiles_text rack ∷ rest) (code_fields what (points_text score total) c)
    ∙ ap (λ (rest : List (List ℕ)). tiles_text rack ∷ kind_text what ∷ rest) (points_fields score total h k) in
    ap (event_of heading) fields
    ∙ rw (tiles_no_digit (tiles_text rack) (tiles_bytes rack), rack_again rack r) (coded_again heading (Some rack) what score total c h k)

play_event : (heading : Heading) (rack : Option (List ℕ)) (at : ℕ) (dir : Dir) (word : List Symbol) (score total : ℤ)
    → IsStated rack → IsKind (kind.Play at dir word) → IsPoints score → IsPoints total
    → event_of heading (fields_after rack (kind.Play at dir word) score total) ≡ Ok (event_at heading rack (kind.Play at dir word) score total)
unfolding event_of
play_event heading None at dir word score total r c h k =
    let what = kind.Play at dir word in
    let fields : fields_after None what score total ≡ position_text at dir ∷ word_text word ∷ score_text score ∷ signed_decimal total ∷ [] =
    field_after (kind_text what ++ 32 ∷ points_text score total) ∙ play_fields at dir word (points_text score total) c.0 c.1
    ∙ ap (λ (rest : List (List ℕ)). position_text at dir ∷ word_text word ∷ rest) (points_fields score total h k) in
    ap (event_of heading) fields ∙ rw (position_digit at dir c.0) (played_again heading None at dir word score total c h k)
play_event heading (Some rack) at dir word score total r c h k =
    let what = kind.Play at dir word in
    let fields : fields_after (Some rack) what score total ≡ tiles_text rack ∷ position_text at dir ∷ word_text word ∷ score_text score ∷ signed_decimal total ∷ [] =
    field_after (rack_text (Some rack) ++ (kind_text what ++ 32 ∷ points_text score total))
    ∙ rack_fields rack (kind_text what ++ 32 ∷ points_text score total) r
    ∙ ap (λ (rest : List (List ℕ)). tiles_text rack ∷ rest) (play_fields at dir word (points_text score total) c.0 c.1)
    ∙ ap (λ (rest : List (List ℕ)). tiles_text rack ∷ position_text at dir ∷ word_text word ∷ rest) (points_fields score total h k) in
    ap (event_of heading) fields ∙ rw (rack_again rack r) (played_again heading (Some rack) at dir word score total c h k)

any_event : (heading : Heading) (rack : Option (List ℕ)) (what : EventKind) (score total : ℤ) → IsStated rack → IsKind what → IsPoints score → IsPoints total
    → event_of heading (fields_after rack what score total) ≡ Ok (event_at heading rack what score total)
any_event heading rack (kind.Play at dir word) score total r c h k = play_event heading rack at dir word score total r c h k
any_event heading rack kind.Pass score total r c h k = code_event heading rack kind.Pass score total r c h k
any_event heading rack (kind.Exchange tiles) score total r c h k = code_event heading rack (kind.Exchange tiles) score total r c h k
any_event heading rack (kind.ExchangeUnknown number) score total r c h k = code_event heading rack (kind.ExchangeUnknown number) score total r c h k
any_event heading rack kind.Withdraw score total r c h k = code_event heading rack kind.Withdraw score total r c h k
any_event heading rack kind.Challenge score total r c h k = code_event heading rack kind.Challenge score total r c h k
any_event heading rack kind.Time score total r c h k = code_event heading rack kind.Time score total r c h k
any_event heading rack (kind.LastRack tiles) score total r c h k = code_event heading rack (kind.LastRack tiles) score total r c h k

-- what is written after the colon gives the event
pub event_again : (heading : Heading) (e : Event) → IsEvent e
    → event_of heading (fields_of (32 ∷ (rack_text e.rack ++ event_text_of e))) ≡ Ok (event_at heading e.rack e.kind e.score e.total)
unfolding event_text_of
event_again heading e h = any_event heading e.rack e.kind e.score e.total h.rack h.what h.score h.total

-- ---- what is read as an event

abbrev pub IsRead : Heading → Event → Type 0
IsRead heading e = IsEvent e × (e.player ≡ heading.player)

scored_read : (heading : Heading) (rack : Option (List ℕ)) (what : EventKind) (score total : List ℕ) (e : Event) → IsStated rack → IsKind what
    → scored_of heading rack what score total ≡ Ok e → IsRead heading e
unfolding scored_of
scored_read heading rack what score total e r c is =
    let one = stepped (ok_or (points_of score) why.Number)
    (λ points. ok_or (points_of total) why.Number >>= λ after. Ok (event_at heading rack what points after)) e is in
    let two = stepped (ok_or (points_of total) why.Number) (λ after. Ok (event_at heading rack what one.0 after)) e one.1.1 in
    let made : event_at heading rack what one.0 two.0 ≡ e = ok_same (event_at heading rack what one.0 two.0) e two.1.1 in
    subst (IsRead heading) made (
      record {
        rack = r;
        what = c;
        score = points_read score one.0 (given (points_of score) why.Number one.0 one.1.0);
        total = points_read total two.0 (given (points_of total) why.Number two.0 two.1.0);
      },
      refl,
    )

kind_from_code : (what : EventKind) → IsCode what → IsKind what
kind_from_code (kind.Play at dir word) c = absurd c
kind_from_code kind.Pass c = c
kind_from_code (kind.Exchange tiles) c = c
kind_from_code (kind.ExchangeUnknown number) c = c
kind_from_code kind.Withdraw c = c
kind_from_code kind.Challenge c = c
kind_from_code kind.Time c = c
kind_from_code (kind.LastRack tiles) c = c

coded_read : (heading : Heading) (rack : Option (List ℕ)) (code score total : List ℕ) (e : Event) → IsStated rack
    → coded_of heading rack code score total ≡ Ok e → IsRead heading e
unfolding coded_of
coded_read heading rack code score total e r is =
    let one = stepped (ok_or (code_of code) why.Code) (λ what. scored_of heading rack what score total) e is in
    scored_read heading rack one.0 score total e r (kind_from_code one.0 (code_read code one.0 (given (code_of code) why.Code one.0 one.1.0))) one.1.1

played_read : (heading : Heading) (rack : Option (List ℕ)) (position word score total : List ℕ) (e : Event) → IsStated rack
    → played_of heading rack position word score total ≡ Ok e → IsRead heading e
unfolding played_of
played_read heading rack position word score total e r is =
    let one = stepped (ok_or (position_of position) why.Position)
    (λ place. ok_or (text_of word) why.Word >>= λ text. scored_of heading rack (kind.Play place.at place.dir text) score total) e is in
    let two = stepped (ok_or (text_of word) why.Word) (λ text. scored_of heading rack (kind.Play one.0.at one.0.dir text) score total) e one.1.1 in
    let text = text_read word two.0 (given (text_of word) why.Word two.0 two.1.0) in
    scored_read heading rack (kind.Play one.0.at one.0.dir two.0) score total e r
    (position_read position one.0 (given (position_of position) why.Position one.0 one.1.0), text.0, text.1) two.1.1

racked_read : (heading : Heading) (rack code score total : List ℕ) (e : Event)
    → (ok_or (rack_of rack) why.Rack >>= λ counts. coded_of heading (Some counts) code score total) ≡ Ok e → IsRead heading e
racked_read heading rack code score total e is =
    let one = stepped (ok_or (rack_of rack) why.Rack) (λ counts. coded_of heading (Some counts) code score total) e is in
    coded_read heading (Some one.0) code score total e (rack_read rack one.0 (given (rack_of rack) why.Rack one.0 one.1.0)) one.1.1

pub event_read : (heading : Heading) (fields : List (List ℕ)) (e : Event) → event_of heading fields ≡ Ok e → IsRead heading e
unfolding event_of
event_read heading [] e is = absurd cc
event_read heading (a ∷ []) e is = absurd cc
event_read heading (a ∷ b ∷ []) e is = absurd cc
event_read heading (a ∷ b ∷ c ∷ []) e is = coded_read heading None a b c e tt is
event_read heading (a ∷ b ∷ c ∷ d ∷ []) e is =
    elim (either_of (has_digit a) (played_of heading None a b c d) (ok_or (rack_of a) why.Rack >>= λ rack. coded_of heading (Some rack) b c d) e is) [
      | inl play ↦ played_read heading None a b c d e tt play
      | inr code ↦ racked_read heading a b c d e code
    ]
event_read heading (a ∷ b ∷ c ∷ d ∷ f ∷ []) e is =
    let one = stepped (ok_or (rack_of a) why.Rack) (λ rack. played_of heading (Some rack) b c d f) e is in
    played_read heading (Some one.0) b c d f e (rack_read a one.0 (given (rack_of a) why.Rack one.0 one.1.0)) one.1.1
event_read heading (a ∷ b ∷ c ∷ d ∷ f ∷ g ∷ rest) e is = absurd cc

-- ---- what holds for ink and for blanks holds for the parts of an event line

ink_each : (p : ℕ → Bool) → ((byte : ℕ) → IsInk byte → Fails p byte) → (bytes : List ℕ) → Each IsInk bytes → Each (Fails p) bytes
ink_each p ink bytes h = each_weaken IsInk (Fails p) bytes ink h

pub ink_stated : (p : ℕ → Bool) → p 32 ≡ false → ((byte : ℕ) → IsInk byte → Fails p byte) → (rack : Option (List ℕ)) → Each (Fails p) (rack_text rack)
ink_stated p blank ink None = tt
ink_stated p blank ink (Some rack) = each_append (Fails p) (tiles_text rack) (32 ∷ []) (ink_each p ink (tiles_text rack) (ink_tiles rack)) (blank, tt)

ink_kind : (p : ℕ → Bool) → p 32 ≡ false → ((byte : ℕ) → IsInk byte → Fails p byte) → (what : EventKind) → IsKind what → Each (Fails p) (kind_text what)
unfolding kind_text
ink_kind p blank ink (kind.Play at dir word) h =
    each_append (Fails p) (position_text at dir) (32 ∷ word_text word) (ink_each p ink (position_text at dir) (ink_position at dir h.0))
    (blank, ink_each p ink (word_text word) (ink_word word))
ink_kind p blank ink kind.Pass h = ink_each p ink (kind_text kind.Pass) (ink_code kind.Pass h)
ink_kind p blank ink (kind.Exchange tiles) h = ink_each p ink (kind_text (kind.Exchange tiles)) (ink_code (kind.Exchange tiles) h)
ink_kind p blank ink (kind.ExchangeUnknown number) h = ink_each p ink (kind_text (kind.ExchangeUnknown number)) (ink_code (kind.ExchangeUnknown number) h)
ink_kind p blank ink kind.Withdraw h = ink_each p ink (kind_text kind.Withdraw) (ink_code kind.Withdraw h)
ink_kind p blank ink kind.Challenge h = ink_each p ink (kind_text kind.Challenge) (ink_code kind.Challenge h)
ink_kind p blank ink kind.Time h = ink_each p ink (kind_text kind.Time) (ink_code kind.Time h)
ink_kind p blank ink (kind.LastRack tiles) h = ink_each p ink (kind_text (kind.LastRack tiles)) (ink_code (kind.LastRack tiles) h)

pub ink_event : (p : ℕ → Bool) → p 32 ≡ false → ((byte : ℕ) → IsInk byte → Fails p byte) → (e : Event) → IsEvent e → Each (Fails p) (event_text_of e)
unfolding event_text_of
ink_event p blank ink e h =
    each_append (Fails p) (kind_text e.kind) (32 ∷ points_text e.score e.total) (ink_kind p blank ink e.kind h.what) (
      blank,
      each_append (Fails p) (score_text e.score) (32 ∷ signed_decimal e.total) (ink_each p ink (score_text e.score) (ink_score e.score h.score))
          (blank, ink_each p ink (signed_decimal e.total) (ink_total e.total h.total)),
    )
