-- Each record that differs slightly from a sheet is the sheet with one of its changes.
use Rattle.std.proofs.Common.{◌≡◌, ◌⊎◌, inl, inr, ℕ, ◌+◌, ◌<◌, ◌≤◌, ◌==◌, Bool, true, false, nat_le, nat_lt, List, [], ◌∷◌, ◌++◌, length, map, reverse, slice_get, Contains, Option, Some, refl, sym, ap, ◌∙◌, subst, arith, if◌then◌else◌}
use Rattle.std.proofs.lemmas.Bool.{and_from, eq-eqb, le-leb, lt-ltb, ne_eqb, or_left, or_right}
use Rattle.std.proofs.lemmas.List.{length-append}
use Rattle.std.proofs.lemmas.List.Elements.{Contains-append_left, Contains-append_right}
use Rattle.ref_tiles.specs.declared.letters.Letter.{Letter}
use Rattle.ref_tiles.specs.declared.symbols.Symbol.{Symbol}
use Rattle.ref_tiles.specs.declared.symbols.Symbol.TheVariants as symbol
use Rattle.ref_tiles.specs.declared.rulebook.Rules.{Rules}
use Rattle.ref_board.specs.declared.directions.Dir.{Dir}
use Rattle.ref_board.specs.declared.directions.Dir.TheVariants.{Across, Down}
use Rattle.ref_board.specs.Lines.{line_of, place_of, square_at}
use Rattle.gcg_read.specs.declared.events.Event.{Event}
use Rattle.gcg_read.specs.declared.events.EventKind.{EventKind}
use Rattle.gcg_read.specs.declared.events.EventKind.TheVariants as kind
use Rattle.game_turns.specs.Tallies.{State, tally_at}
use Rattle.repair_changes.specs.declared.slips.Slip.{Slip}
use Rattle.repair_changes.specs.declared.slips.Slip.TheVariants as slip
use Rattle.repair_changes.specs.declared.slips.PositionSlip.TheVariants as position
use Rattle.repair_changes.specs.declared.slips.SpellingSlip.{SpellingSlip}
use Rattle.repair_changes.specs.declared.slips.SpellingSlip.TheVariants as spelling
use Rattle.repair_changes.specs.Splices.{spliced}
use Rattle.repair_changes.specs.Applied.{text_or, right_word, right_spelling, right_event, applied}
use Rattle.repair_changes.specs.Differences.{IsReplacedAt, IsOmittedAt, AreExchangedAt}
use Rattle.repair_changes.proofs.Splicing.{spliced_there}
use Rattle.repair_slips.specs.Each.{for_letters}
use Rattle.repair_slips.specs.Positions.{are_beside, elsewhere, on_line, interchanged, position_slips}
use Rattle.repair_slips.specs.Spellings.{letter_for_dot, other_letter, symbol_slips, slips_of_symbol, slips_at_symbol, other_symbols, extra_symbols, missing_symbols, twisted_symbols, spelling_slips}
use Rattle.repair_slips.specs.Lines.{kind_slips, rack_slips, event_before, repeats, extra_slip, extra_line, swapped_lines, line_slips, event_slips}
use Rattle.repair_slips.specs.Misreadings.{misread_slips}
use Rattle.repair_slips.specs.MissingLines.{missing_slips}
use Rattle.repair_slips.specs.Changes.{slips_of_event, slips_by, change_at}
use Rattle.repair_slips.specs.Commonest.{IsMistaken, IsMisspelt, AreBesideOn, AreBeside, IsShiftedOnBoard, IsTriedAt}
use Rattle.repair_slips.specs.Laws.{CommonestAreTried}
use Rattle.repair_slips.proofs.Members.{contains_first, contains_rest, contains_map, contains_below, contains_letter, slice_there}

-- ---- one symbol

-- a slip of the list that makes a text of another one
record IsSpelled (word right : List Symbol) : Type 0 where
  by : SpellingSlip
  listed : Contains (spelling_slips word) (slip.Spelling by)
  makes : right_word by word ≡ right

in_spelling : (word : List Symbol) (place : ℕ) (written : Symbol) (what : Slip) → place < length word → slice_get word place ≡ Some written → Contains (symbol_slips place written) what
    → Contains (spelling_slips word) what
unfolding spelling_slips other_symbols
in_spelling word place written what within is there =
    Contains-append_left (other_symbols word ++ extra_symbols word ++ missing_symbols word) (twisted_symbols word) what
    (Contains-append_left (other_symbols word ++ extra_symbols word) (missing_symbols word) what
    (Contains-append_left (other_symbols word) (extra_symbols word) what
    (contains_below (slips_at_symbol word) (length word) place what within (subst (λ (o : Option Symbol). Contains (slips_of_symbol place o) what) (sym is) there))))

-- a text in which one symbol is replaced
text_is : (place : ℕ) (f : List Symbol → List Symbol) (word right front following : List Symbol) (written meant : Symbol) → length front ≡ place → word ≡ front ++ written ∷ following
    → right ≡ front ++ meant ∷ following → length word ≤ 15 → f (written ∷ []) ≡ meant ∷ [] → text_or (spliced place 1 f word) word ≡ right
text_is place f word right front following written meant there is becomes fits by =
    let made : spliced place 1 f word ≡ right =
    ap (spliced place 1 f) is ∙ spliced_there front (written ∷ []) following place 1 f there refl ∙ ap (λ (zs : List Symbol). front ++ (zs ++ following)) by ∙ sym becomes in
    let long_word : length word ≡ length front + length (written ∷ following) = ap length is ∙ length-append front (written ∷ following) in
    let long_right : length right ≡ length front + length (meant ∷ following) = ap length becomes ∙ length-append front (meant ∷ following) in
    let some : nat_le 1 (length right) ≡ true = le-leb 1 (length right) (omega (arith, long_right)) in
    let few : nat_le (length right) 15 ≡ true = le-leb (length right) 15 (omega (arith, long_word, long_right, fits)) in
    ap (λ (r : List Symbol). text_or r word) made ∙ ap (λ (b : Bool). if b then right else word) (and_from (nat_le 1 (length right)) (nat_le (length right) 15) some few)

spelled_by : (by : SpellingSlip) (place : ℕ) (f : List Symbol → List Symbol) (word right front following : List Symbol) (written meant : Symbol) → length front ≡ place
    → word ≡ front ++ written ∷ following → right ≡ front ++ meant ∷ following → length word ≤ 15 → f (written ∷ []) ≡ meant ∷ [] → right_word by word ≡ text_or (spliced place 1 f word) word
    → Contains (symbol_slips place written) (slip.Spelling by) → IsSpelled word right
spelled_by by place f word right front following written meant there is becomes fits made same listed =
    let long_word : length word ≡ length front + length (written ∷ following) = ap length is ∙ length-append front (written ∷ following) in
    record {
      by = by;
      listed = in_spelling word place written (slip.Spelling by) (omega (arith, there, long_word)) (ap (λ (ws : List Symbol). slice_get ws place) is ∙ slice_there front written following place there) listed;
      makes = same ∙ text_is place f word right front following written meant there is becomes fits made;
    }

-- another letter is in the list
letter_listed : (b : Bool) (by : SpellingSlip) → b ≡ false → Contains (if b then [] else slip.Spelling by ∷ []) (slip.Spelling by)
letter_listed b by is = subst (λ (t : Bool). Contains (if t then [] else slip.Spelling by ∷ []) (slip.Spelling by)) (sym is) (contains_first (slip.Spelling by) [])

-- what a tile may have been: this symbol, a dot, and the rest
tile_listed : (place : ℕ) (same : Symbol) (rest : List Slip)
    → Contains (slip.Spelling (spelling.OtherTile place same) ∷ slip.Spelling (spelling.Dot place) ∷ rest) (slip.Spelling (spelling.OtherTile place same))
tile_listed place same rest = contains_first (slip.Spelling (spelling.OtherTile place same)) (slip.Spelling (spelling.Dot place) ∷ rest)

dot_listed : (place : ℕ) (same : Symbol) (rest : List Slip)
    → Contains (slip.Spelling (spelling.OtherTile place same) ∷ slip.Spelling (spelling.Dot place) ∷ rest) (slip.Spelling (spelling.Dot place))
dot_listed place same rest =
    contains_rest (slip.Spelling (spelling.OtherTile place same)) (slip.Spelling (spelling.Dot place) ∷ rest) (slip.Spelling (spelling.Dot place)) (contains_first (slip.Spelling (spelling.Dot place)) rest)

rest_listed : (place : ℕ) (same : Symbol) (rest : List Slip) (what : Slip) → Contains rest what
    → Contains (slip.Spelling (spelling.OtherTile place same) ∷ slip.Spelling (spelling.Dot place) ∷ rest) what
rest_listed place same rest what there =
    contains_rest (slip.Spelling (spelling.OtherTile place same)) (slip.Spelling (spelling.Dot place) ∷ rest) what (contains_rest (slip.Spelling (spelling.Dot place)) rest what there)

spelled : (written meant : Symbol) (place : ℕ) (word right front following : List Symbol) → IsMistaken written meant → length front ≡ place → word ≡ front ++ written ∷ following
    → right ≡ front ++ meant ∷ following → length word ≤ 15 → IsSpelled word right
unfolding symbol_slips
spelled symbol.Dot symbol.Dot place word right front following mistaken there is becomes fits = absurd mistaken
spelled symbol.Dot (symbol.Letter m) place word right front following mistaken there is becomes fits =
    spelled_by (spelling.Letter place m) place (λ (ws : List Symbol). symbol.Letter m ∷ []) word right front following symbol.Dot (symbol.Letter m) there is becomes fits refl refl
    (contains_letter (letter_for_dot place) m (slip.Spelling (spelling.Letter place m)) (contains_first (slip.Spelling (spelling.Letter place m)) []))
spelled symbol.Dot (symbol.Blank m) place word right front following mistaken there is becomes fits = absurd mistaken
spelled (symbol.Letter l) symbol.Dot place word right front following mistaken there is becomes fits =
    spelled_by (spelling.Dot place) place (λ (ws : List Symbol). symbol.Dot ∷ []) word right front following (symbol.Letter l) symbol.Dot there is becomes fits refl refl
    (dot_listed place (symbol.Blank l) (for_letters (other_letter place (symbol.Letter l))))
spelled (symbol.Letter l) (symbol.Letter m) place word right front following mistaken there is becomes fits =
    let what = spelling.OtherLetter place (symbol.Letter m) in
    spelled_by what place (λ (ws : List Symbol). symbol.Letter m ∷ []) word right front following (symbol.Letter l) (symbol.Letter m) there is becomes fits refl refl
    (rest_listed place (symbol.Blank l) (for_letters (other_letter place (symbol.Letter l))) (slip.Spelling what)
    (contains_letter (other_letter place (symbol.Letter l)) m (slip.Spelling what)
    (letter_listed (65 + m.index == 65 + l.index) what (ne_eqb (65 + m.index) (65 + l.index) (λ same. mistaken (omega (arith, same)))))))
spelled (symbol.Letter l) (symbol.Blank m) place word right front following mistaken there is becomes fits =
    spelled_by (spelling.OtherTile place (symbol.Blank l)) place (λ (ws : List Symbol). symbol.Blank l ∷ []) word right front following (symbol.Letter l) (symbol.Blank m) there is becomes fits
    (ap (λ (k : Letter). symbol.Blank k ∷ []) (sym mistaken)) refl (tile_listed place (symbol.Blank l) (for_letters (other_letter place (symbol.Letter l))))
spelled (symbol.Blank l) symbol.Dot place word right front following mistaken there is becomes fits =
    spelled_by (spelling.Dot place) place (λ (ws : List Symbol). symbol.Dot ∷ []) word right front following (symbol.Blank l) symbol.Dot there is becomes fits refl refl
    (dot_listed place (symbol.Letter l) (for_letters (other_letter place (symbol.Blank l))))
spelled (symbol.Blank l) (symbol.Letter m) place word right front following mistaken there is becomes fits =
    spelled_by (spelling.OtherTile place (symbol.Letter l)) place (λ (ws : List Symbol). symbol.Letter l ∷ []) word right front following (symbol.Blank l) (symbol.Letter m) there is becomes fits
    (ap (λ (k : Letter). symbol.Letter k ∷ []) (sym mistaken)) refl (tile_listed place (symbol.Letter l) (for_letters (other_letter place (symbol.Blank l))))
spelled (symbol.Blank l) (symbol.Blank m) place word right front following mistaken there is becomes fits =
    let what = spelling.OtherLetter place (symbol.Blank m) in
    spelled_by what place (λ (ws : List Symbol). symbol.Blank m ∷ []) word right front following (symbol.Blank l) (symbol.Blank m) there is becomes fits refl refl
    (rest_listed place (symbol.Letter l) (for_letters (other_letter place (symbol.Blank l))) (slip.Spelling what)
    (contains_letter (other_letter place (symbol.Blank l)) m (slip.Spelling what)
    (letter_listed (97 + m.index == 97 + l.index) what (ne_eqb (97 + m.index) (97 + l.index) (λ same. mistaken (omega (arith, same)))))))

-- ---- one square

-- the square at a place of the line of another one
there_on : (d : Dir) (at square : ℕ) → line_of d square ≡ line_of d at → square_at d (line_of d at) (place_of d square) ≡ square
there_on Across at square line = omega (arith, line)
there_on Down at square line = omega (arith, line)

within_line : (d : Dir) (square : ℕ) → square < 225 → place_of d square < 15
within_line Across square on_board = omega arith
within_line Down square on_board = omega (arith, on_board)

apart : (p q : ℕ) → (p + 1 ≡ q) ⊎ (q + 1 ≡ p) → p ≡ q → ⊥
apart p q (inl less) same = omega (arith, less, same)
apart p q (inr more) same = omega (arith, more, same)

are_near : (p q : ℕ) → (p + 1 ≡ q) ⊎ (q + 1 ≡ p) → are_beside p q ≡ true
are_near p q (inl less) = or_left (p + 1 == q) (q + 1 == p) (eq-eqb (p + 1) q less)
are_near p q (inr more) = or_right (p + 1 == q) (q + 1 == p) (eq-eqb (q + 1) p more)

shift : (square : ℕ) → Slip
shift square = slip.Position (position.OneOff square)

one_of_three : (same near : Bool) (xs ys : List Slip) (what : Slip) → same ≡ false → near ≡ true → Contains xs what → Contains (if same then [] else (if near then xs else ys)) what
one_of_three same near xs ys what not_same is_near there =
    subst (λ (b : Bool). Contains (if b then [] else (if near then xs else ys)) what) (sym not_same)
    (subst (λ (b : Bool). Contains (if b then xs else ys) what) (sym is_near) there)

on_this_line : (d : Dir) (at square : ℕ) → AreBesideOn d at square → square < 225 → Contains (on_line d at) (shift square)
unfolding on_line elsewhere shift
on_this_line d at square near on_board =
    let p = place_of d square in
    let q = place_of d at in
    let first = slip.Position (position.OneOff (square_at d (line_of d at) p)) in
    let is : first ≡ shift square = ap (λ (n : ℕ). slip.Position (position.OneOff n)) (there_on d at square near.line) in
    contains_below (elsewhere d at) 15 p (shift square) (within_line d square on_board)
    (one_of_three (p == q) (are_beside p q) (first ∷ []) (slip.Position (position.Further (square_at d (line_of d at) p)) ∷ []) (shift square)
    (ne_eqb p q (apart p q near.beside)) (are_near p q near.beside) (subst (λ (w : Slip). Contains (first ∷ []) w) is (contains_first first [])))

in_positions : (at square : ℕ) → AreBeside at square → square < 225 → Contains (position_slips at) (shift square)
unfolding position_slips
in_positions at square (inl row) on_board =
    Contains-append_left (slip.Position position.OtherDirection ∷ on_line Across at ++ on_line Down at) (interchanged at) (shift square)
    (Contains-append_left (slip.Position position.OtherDirection ∷ on_line Across at) (on_line Down at) (shift square)
    (contains_rest (slip.Position position.OtherDirection) (on_line Across at) (shift square) (on_this_line Across at square row on_board)))
in_positions at square (inr column) on_board =
    Contains-append_left (slip.Position position.OtherDirection ∷ on_line Across at ++ on_line Down at) (interchanged at) (shift square)
    (Contains-append_right (slip.Position position.OtherDirection ∷ on_line Across at) (on_line Down at) (shift square) (on_this_line Down at square column on_board))

-- ---- among the changes at a place

by_kind : (rules : Rules) (s : State) (events : List Event) (place : ℕ) (e : Event) (what : Slip) → Contains (kind_slips rules e e.kind) what → Contains (event_slips rules s events place e) what
unfolding event_slips
by_kind rules s events place e what there =
    Contains-append_left _ (misread_slips e) what (Contains-append_left _ (line_slips events place e) what (Contains-append_left _ (rack_slips e) what (Contains-append_left (kind_slips rules e e.kind) _ what there)))

by_line : (rules : Rules) (s : State) (events : List Event) (place : ℕ) (e : Event) (what : Slip) → Contains (line_slips events place e) what → Contains (event_slips rules s events place e) what
unfolding event_slips
by_line rules s events place e what there = Contains-append_left _ (misread_slips e) what (Contains-append_right _ (line_slips events place e) what there)

tried : (rules : Rules) (place : ℕ) (written other front following : List Event) (one : Event) (what : Slip) → length front ≡ place → written ≡ front ++ one ∷ following
    → ((s : State) → Contains (event_slips rules s written place one) what) → applied (change_at place what) written ≡ other → IsTriedAt rules place written other
unfolding slips_by
tried rules place written other front following one what there is listed makes =
    let s = tally_at rules written place in
    let long : length written ≡ length front + length (one ∷ following) = ap length is ∙ length-append front (one ∷ following) in
    let get : slice_get written place ≡ Some one = ap (λ (ws : List Event). slice_get ws place) is ∙ slice_there front one following place there in
    record {
      within = omega (arith, there, long);
      change = change_at place what;
      listed = contains_map (change_at place) (slips_by rules s written place) what
          (Contains-append_left (slips_of_event rules s written place (slice_get written place)) (missing_slips rules s written place) what
          (subst (λ (o : Option Event). Contains (slips_of_event rules s written place o) what) (sym get) (listed s)));
      makes = makes;
    }

-- the record with another line at the place
one_made : (place : ℕ) (f : List Event → List Event) (written other front following : List Event) (one new : Event) → length front ≡ place → written ≡ front ++ one ∷ following
    → other ≡ front ++ new ∷ following → f (one ∷ []) ≡ new ∷ [] → spliced place 1 f written ≡ other
one_made place f written other front following one new there is becomes by =
    ap (spliced place 1 f) is ∙ spliced_there front (one ∷ []) following place 1 f there refl ∙ ap (λ (zs : List Event). front ++ (zs ++ following)) by ∙ sym becomes

-- ---- the four kinds

misspelt : (rules : Rules) (place : ℕ) (written other : List Event) → IsReplacedAt IsMisspelt place written other → IsTriedAt rules place written other
misspelt rules place written other d =
    let m = d.which in
    let o = m.one in
    let sp = spelled o.one o.other m.place m.word m.right o.front o.following o.which o.there o.is o.becomes m.fits in
    let what = slip.Spelling sp.by in
    let e = d.one in
    tried rules place written other d.front d.following e what d.there d.is
    (λ s. by_kind rules s written place e what
    (subst (λ (k : EventKind). Contains (kind_slips rules e k) what) (sym m.is) (Contains-append_right (position_slips m.at) (spelling_slips m.word) what sp.listed)))
    (one_made place (map (right_event what)) written other d.front d.following e d.other d.there d.is d.becomes
    (ap (λ (k : EventKind). record e { kind = right_spelling sp.by k } ∷ []) m.is ∙ ap (λ (w : List Symbol). record e { kind = kind.Play m.at m.dir w } ∷ []) sp.makes
    ∙ ap (λ (n : Event). n ∷ []) (sym m.becomes)))

shifted : (rules : Rules) (place : ℕ) (written other : List Event) → IsReplacedAt IsShiftedOnBoard place written other → IsTriedAt rules place written other
unfolding shift
shifted rules place written other d =
    let m = d.which.shift in
    let what = shift m.square in
    let e = d.one in
    tried rules place written other d.front d.following e what d.there d.is
    (λ s. by_kind rules s written place e what
    (subst (λ (k : EventKind). Contains (kind_slips rules e k) what) (sym m.is)
    (Contains-append_left (position_slips m.at) (spelling_slips m.word) what (in_positions m.at m.square m.beside d.which.on_board))))
    (one_made place (map (right_event what)) written other d.front d.following e d.other d.there d.is d.becomes
    (ap (λ (k : EventKind). right_event what (record e { kind = k }) ∷ []) m.is ∙ ap (λ (n : Event). n ∷ []) (sym m.becomes)))

-- a slip for a line that should not be there
record IsOut (slips : List Slip) : Type 0 where
  what : Slip
  there : Contains slips what
  leaves : (place : ℕ) (events : List Event) → applied (change_at place what) events ≡ spliced place 1 (λ (es : List Event). []) events

extra_out : (what : EventKind) → IsOut (extra_slip what ∷ [])
extra_out kind.Pass = record { what = slip.ExtraPass; there = contains_first slip.ExtraPass []; leaves = λ place events. refl }
extra_out (kind.Play at dir word) = record { what = slip.Extra; there = contains_first slip.Extra []; leaves = λ place events. refl }
extra_out (kind.Exchange tiles) = record { what = slip.Extra; there = contains_first slip.Extra []; leaves = λ place events. refl }
extra_out (kind.ExchangeUnknown n) = record { what = slip.Extra; there = contains_first slip.Extra []; leaves = λ place events. refl }
extra_out kind.Withdraw = record { what = slip.Extra; there = contains_first slip.Extra []; leaves = λ place events. refl }
extra_out kind.Challenge = record { what = slip.Extra; there = contains_first slip.Extra []; leaves = λ place events. refl }
extra_out kind.Time = record { what = slip.Extra; there = contains_first slip.Extra []; leaves = λ place events. refl }
extra_out (kind.LastRack tiles) = record { what = slip.Extra; there = contains_first slip.Extra []; leaves = λ place events. refl }

line_out : (b : Bool) (what : EventKind) → IsOut (if b then slip.Repeated ∷ [] else extra_slip what ∷ [])
line_out true what = record { what = slip.Repeated; there = contains_first slip.Repeated []; leaves = λ place events. refl }
line_out false what = extra_out what

omitted : (rules : Rules) (place : ℕ) (written other : List Event) → IsOmittedAt place written other → IsTriedAt rules place written other
omitted rules place written other d =
    let e = d.one in
    let before = event_before written place in
    let out = line_out (repeats e before) e.kind in
    tried rules place written other d.front d.following e out.what d.there d.is
    (λ s. by_line rules s written place e out.what
    (Contains-append_left (slip.OtherPlayer ∷ extra_line e before) (swapped_lines written place) out.what (contains_rest slip.OtherPlayer (extra_line e before) out.what out.there)))
    (out.leaves place written ∙ ap (spliced place 1 (λ (es : List Event). [])) d.is
    ∙ spliced_there d.front (e ∷ []) d.following place 1 (λ (es : List Event). []) d.there refl ∙ sym d.becomes)

swap_listed : (b : Bool) (rest : List Slip) → b ≡ true → Contains ((if b then slip.Swapped ∷ [] else []) ++ rest) slip.Swapped
swap_listed b rest is = subst (λ (t : Bool). Contains ((if t then slip.Swapped ∷ [] else []) ++ rest) slip.Swapped) (sym is) (contains_first slip.Swapped rest)

exchanged : (rules : Rules) (place : ℕ) (written other : List Event) → AreExchangedAt place written other → IsTriedAt rules place written other
unfolding swapped_lines
exchanged rules place written other d =
    let e = d.first in
    let before = event_before written place in
    let there = d.there in
    let long : length written ≡ length d.front + length (e ∷ d.second ∷ d.following) = ap length d.is ∙ length-append d.front (e ∷ d.second ∷ d.following) in
    tried rules place written other d.front (d.second ∷ d.following) e slip.Swapped d.there d.is
    (λ s. by_line rules s written place e slip.Swapped
    (Contains-append_right (slip.OtherPlayer ∷ extra_line e before) (swapped_lines written place) slip.Swapped
    (swap_listed (nat_lt (place + 1) (length written)) (if nat_lt (place + 2) (length written) then slip.SwappedOver ∷ [] else []) (lt-ltb (place + 1) (length written) (omega (arith, there, long))))))
    (ap (spliced place 2 (λ (es : List Event). reverse es)) d.is ∙ spliced_there d.front (e ∷ d.second ∷ []) d.following place 2 (λ (es : List Event). reverse es) d.there refl ∙ sym d.becomes)

pub commonest_are_tried : CommonestAreTried
commonest_are_tried rules place written other (inl d) = misspelt rules place written other d
commonest_are_tried rules place written other (inr (inl d)) = shifted rules place written other d
commonest_are_tried rules place written other (inr (inr (inl d))) = omitted rules place written other d
commonest_are_tried rules place written other (inr (inr (inr d))) = exchanged rules place written other d
