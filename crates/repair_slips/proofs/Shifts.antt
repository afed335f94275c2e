-- What is listed as a shift of a play by one square is one.
use Rattle.std.proofs.Common.{◌≡◌, ◌⊎◌, inl, inr, ℕ, ◌+◌, ◌<◌, ◌==◌, ◌&&◌, not, Bool, true, false, nat_lt, sum, List, [], ◌∷◌, ◌++◌, length, map, take, drop, slice_get, All, Option, Some, None, refl, ap, ◌∙◌, arith, if◌then◌else◌}
use Rattle.std.specs.List.{list_any}
use Rattle.std.specs.Ordering.{int_eq}
use Rattle.std.specs.Str.{bytes_eq}
use Rattle.std.proofs.lemmas.Bool.{eqb-true, or_cases}
use Rattle.std.proofs.lemmas.List.Elements.{All-nil, All-cons, All-append, All-map, All-contains}
use Rattle.ref_tiles.specs.declared.letters.Letter.{Letter}
use Rattle.ref_tiles.specs.declared.symbols.Symbol.{Symbol}
use Rattle.ref_tiles.specs.declared.symbols.Symbol.TheVariants as symbol
use Rattle.ref_tiles.specs.declared.rulebook.Rules.{Rules}
use Rattle.ref_tiles.specs.Symbols.{byte_of}
use Rattle.ref_tiles.specs.Kinds.{number_of}
use Rattle.ref_board.specs.declared.directions.Dir.{Dir}
use Rattle.ref_board.specs.declared.directions.Dir.TheVariants.{Across, Down}
use Rattle.ref_board.specs.Lines.{line_of, place_of, square_at}
use Rattle.gcg_read.specs.declared.events.Event.{Event}
use Rattle.gcg_read.specs.declared.events.EventKind.{EventKind}
use Rattle.gcg_read.specs.declared.events.EventKind.TheVariants as kind
use Rattle.gcg_read.specs.declared.events.Seat.{Seat}
use Rattle.gcg_read.specs.declared.events.Seat.TheVariants.{First, Second}
use Rattle.game_turns.specs.Tallies.{State, tally_at}
use Rattle.repair_changes.specs.declared.slips.Change.{Change}
use Rattle.repair_changes.specs.declared.slips.Slip.{Slip}
use Rattle.repair_changes.specs.declared.slips.Slip.TheVariants as slip
use Rattle.repair_changes.specs.declared.slips.PositionSlip.{PositionSlip}
use Rattle.repair_changes.specs.declared.slips.PositionSlip.TheVariants as position
use Rattle.repair_changes.specs.declared.slips.SpellingSlip.TheVariants as spelling
use Rattle.repair_changes.specs.declared.slips.TilesOf.{TilesOf}
use Rattle.repair_changes.specs.declared.slips.TilesOf.TheVariants as tiles_of
use Rattle.repair_changes.specs.Splices.{spliced}
use Rattle.repair_changes.specs.Applied.{right_event, applied}
use Rattle.repair_changes.specs.Differences.{IsReplacedAt}
use Rattle.repair_changes.proofs.Splicing.{spliced_there}
use Rattle.repair_slips.specs.Each.{for_letters}
use Rattle.repair_slips.specs.Positions.{are_beside, elsewhere, on_line, interchanged, position_slips}
use Rattle.repair_slips.specs.Spellings.{letter_for_dot, relettered, other_letter, symbol_slips, slips_of_symbol, slips_at_symbol, other_symbols, extra_symbol, extra_symbols, missing_letter, missing_symbol, missing_symbols, twisted_pair, twisted_two, twisted_at, twisted_symbols, spelling_slips}
use Rattle.repair_slips.specs.Tiles.{has, other_tile, other_for, other_tiles, extra_tile, extra_tiles, missing_tile, missing_tiles, tile_slips}
use Rattle.repair_slips.specs.Amounts.{bonus_for, penalty_of, other_bonus, other_penalty, other_bonuses, other_penalties, other_number, other_numbers, exchange_of, exchanges}
use Rattle.repair_slips.specs.Laying.{laid_text, is_other_laying, laying_slips}
use Rattle.repair_slips.specs.Rests.{is_rack, rest_tiles, rest_for, missing_rest}
use Rattle.repair_slips.specs.Misreadings.{misread_letter, misread_symbol, misread_at, misread_word, misread_tile, misread_tiles, misread_exchange, misread_with, misread_by, misread_slips}
use Rattle.repair_slips.specs.Lines.{kind_slips, board_slips, states_rack, slips_of_rack, rack_slips, event_before, repeats, extra_slip, extra_line, swapped_lines, line_slips, event_slips}
use Rattle.repair_slips.specs.MissingLines.{missing_exchange, missing_exchanges, missing_penalty, missing_penalties, missing_of, missing_bonus, missing_bonuses, missing_after, missing_following, is_played, missing_slips}
use Rattle.repair_slips.specs.Changes.{slips_of_event, slips_by, change_at, changes_at}
use Rattle.repair_slips.specs.Commonest.{AreBeside, IsShifted}
use Rattle.repair_slips.specs.Laws.{ShiftsAreByOne}
use Rattle.repair_slips.proofs.Members.{all_below, all_to, all_letters, all_kinds, all_one, all_if, split_at}

-- ---- what is to be true of each slip on a line of a kind

abbrev IsNear : (right : ℕ) → EventKind → Type 0
IsNear right (kind.Play at dir word) = AreBeside at right
IsNear right kind.Pass = ⊥
IsNear right (kind.Exchange tiles) = ⊥
IsNear right (kind.ExchangeUnknown n) = ⊥
IsNear right kind.Withdraw = ⊥
IsNear right kind.Challenge = ⊥
IsNear right kind.Time = ⊥
IsNear right (kind.LastRack tiles) = ⊥

abbrev IsNearBy : PositionSlip → EventKind → Type 0
IsNearBy position.OtherDirection what = Unit {0}
IsNearBy (position.OneOff right) what = IsNear right what
IsNearBy (position.Further right) what = Unit {0}
IsNearBy position.Interchanged what = Unit {0}

abbrev Proper : EventKind → Slip → Type 0
Proper what (slip.Position s) = IsNearBy s what
Proper what other = Unit {0}

-- the same for the line at a place, if there is one
abbrev ProperAt : Option Event → Slip → Type 0
ProperAt None s = Proper kind.Pass s
ProperAt (Some e) s = Proper e.kind s

-- ---- the position of a play

on_own_line : (d : Dir) (at place : ℕ) → place < 15 → (place + 1 ≡ place_of d at) ⊎ (place_of d at + 1 ≡ place) → AreBeside at (square_at d (line_of d at) place)
on_own_line Across at place below (inl less) = inl (record { line = omega (arith, below); beside = inl (omega (arith, below, less)) })
on_own_line Across at place below (inr more) = inl (record { line = omega (arith, below); beside = inr (omega (arith, below, more)) })
on_own_line Down at place below (inl less) = inr (record { line = omega arith; beside = inl (omega (arith, less)) })
on_own_line Down at place below (inr more) = inr (record { line = omega arith; beside = inr (omega (arith, more)) })

one_way : (p q : ℕ) → (p + 1 == q) ≡ true ⊎ (q + 1 == p) ≡ true → (p + 1 ≡ q) ⊎ (q + 1 ≡ p)
one_way p q (inl less) = inl (eqb-true (p + 1) q less)
one_way p q (inr more) = inr (eqb-true (q + 1) p more)

near_or_further : (d : Dir) (at place : ℕ) (word : List Symbol) (dir : Dir) (b : Bool) → place < 15 → are_beside place (place_of d at) ≡ b
    → All (Proper (kind.Play at dir word)) (if b then slip.Position (position.OneOff (square_at d (line_of d at) place)) ∷ [] else slip.Position (position.Further (square_at d (line_of d at) place)) ∷ [])
near_or_further d at place word dir true below near =
    let q = place_of d at in
    all_one (Proper (kind.Play at dir word)) (slip.Position (position.OneOff (square_at d (line_of d at) place)))
    (on_own_line d at place below (one_way place q (or_cases (place + 1 == q) (q + 1 == place) near)))
near_or_further d at place word dir false below near = all_one (Proper (kind.Play at dir word)) (slip.Position (position.Further (square_at d (line_of d at) place))) tt

here_or_not : (d : Dir) (at place : ℕ) (word : List Symbol) (dir : Dir) → place < 15 → All (Proper (kind.Play at dir word)) (elsewhere d at place)
unfolding elsewhere
here_or_not d at place word dir below =
    all_if (Proper (kind.Play at dir word)) (place == place_of d at) []
    (if are_beside place (place_of d at) then slip.Position (position.OneOff (square_at d (line_of d at) place)) ∷ [] else slip.Position (position.Further (square_at d (line_of d at) place)) ∷ [])
    (All-nil (Proper (kind.Play at dir word))) (near_or_further d at place word dir (are_beside place (place_of d at)) below refl)

on_lines : (d : Dir) (at : ℕ) (word : List Symbol) (dir : Dir) → All (Proper (kind.Play at dir word)) (on_line d at)
unfolding on_line
on_lines d at word dir = all_below (Proper (kind.Play at dir word)) (elsewhere d at) 15 (λ place below. here_or_not d at place word dir below)

positions : (at : ℕ) (dir : Dir) (word : List Symbol) → All (Proper (kind.Play at dir word)) (position_slips at)
unfolding position_slips interchanged
positions at dir word =
    let P = Proper (kind.Play at dir word) in
    All-append P (slip.Position position.OtherDirection ∷ on_line Across at ++ on_line Down at) (interchanged at)
    (All-append P (slip.Position position.OtherDirection ∷ on_line Across at) (on_line Down at)
    (All-cons P (slip.Position position.OtherDirection) (on_line Across at) tt (on_lines Across at word dir)) (on_lines Down at word dir))
    (all_if P _ [] (slip.Position position.Interchanged ∷ []) (All-nil P) (all_one P (slip.Position position.Interchanged) tt))

-- ---- the text of a play

by_letter : (k : EventKind) (place : ℕ) (written : Symbol) (l : Letter) → All (Proper k) (other_letter place written l)
by_letter k place written l =
    let s = slip.Spelling (spelling.OtherLetter place (relettered written l)) in
    all_if (Proper k) (byte_of (relettered written l) == byte_of written) [] (s ∷ []) (All-nil (Proper k)) (all_one (Proper k) s tt)

symbols : (k : EventKind) (place : ℕ) (o : Option Symbol) → All (Proper k) (slips_of_symbol place o)
unfolding symbol_slips
symbols k place None = All-nil (Proper k)
symbols k place (Some symbol.Dot) = all_letters (Proper k) (letter_for_dot place) (λ l. all_one (Proper k) _ tt)
symbols k place (Some (symbol.Letter l)) =
    let first = slip.Spelling (spelling.OtherTile place (symbol.Blank l)) in
    let second = slip.Spelling (spelling.Dot place) in
    let rest = for_letters (other_letter place (symbol.Letter l)) in
    All-cons (Proper k) first (second ∷ rest) tt
    (All-cons (Proper k) second rest tt (all_letters (Proper k) (other_letter place (symbol.Letter l)) (λ m. by_letter k place (symbol.Letter l) m)))
symbols k place (Some (symbol.Blank l)) =
    let first = slip.Spelling (spelling.OtherTile place (symbol.Letter l)) in
    let second = slip.Spelling (spelling.Dot place) in
    let rest = for_letters (other_letter place (symbol.Blank l)) in
    All-cons (Proper k) first (second ∷ rest) tt
    (All-cons (Proper k) second rest tt (all_letters (Proper k) (other_letter place (symbol.Blank l)) (λ m. by_letter k place (symbol.Blank l) m)))

twisted : (k : EventKind) (place : ℕ) (a b : Option Symbol) → All (Proper k) (twisted_two place a b)
unfolding twisted_pair
twisted k place (Some a) (Some b) =
    let s = slip.Spelling (spelling.Twisted place) in
    all_if (Proper k) (byte_of a == byte_of b) [] (s ∷ []) (All-nil (Proper k)) (all_one (Proper k) s tt)
twisted k place None b = All-nil (Proper k)
twisted k place (Some a) None = All-nil (Proper k)

spellings : (k : EventKind) (word : List Symbol) → All (Proper k) (spelling_slips word)
unfolding spelling_slips other_symbols extra_symbols missing_symbols twisted_symbols
spellings k word =
    let P = Proper k in
    All-append P (other_symbols word ++ extra_symbols word ++ missing_symbols word) (twisted_symbols word)
    (All-append P (other_symbols word ++ extra_symbols word) (missing_symbols word)
    (All-append P (other_symbols word) (extra_symbols word) (all_below P (slips_at_symbol word) (length word) (λ place below. symbols k place (slice_get word place)))
    (all_if P _ _ [] (all_below P extra_symbol (length word) (λ place below. all_one P _ tt)) (All-nil P)))
    (all_if P _ _ [] (all_below P missing_symbol (length word + 1) (λ place below. All-cons P _ _ tt (all_letters P (missing_letter place) (λ l. all_one P _ tt)))) (All-nil P)))
    (all_below P (twisted_at word) (length word) (λ place below. twisted k place (slice_get word place) (slice_get word (place + 1))))

-- ---- tiles

other_ones : (k : EventKind) (of : TilesOf) (counts : List ℕ) → All (Proper k) (other_tiles of counts)
unfolding other_tiles
other_ones k of counts =
    let P = Proper k in
    all_kinds P (other_for of counts) (λ t. all_if P (has counts t) _ [] (all_kinds P (other_tile of t) (λ u. all_if P (number_of u == number_of t) [] _ (All-nil P) (all_one P _ tt))) (All-nil P))

extra_ones : (k : EventKind) (of : TilesOf) (counts : List ℕ) → All (Proper k) (extra_tiles of counts)
unfolding extra_tiles
extra_ones k of counts =
    let P = Proper k in
    all_if P (nat_lt 1 (sum counts)) _ [] (all_kinds P (extra_tile of counts) (λ t. all_if P (has counts t) _ [] (all_one P _ tt) (All-nil P))) (All-nil P)

missing_ones : (k : EventKind) (of : TilesOf) (counts : List ℕ) → All (Proper k) (missing_tiles of counts)
unfolding missing_tiles
missing_ones k of counts =
    let P = Proper k in
    all_if P (nat_lt (sum counts) 7) _ [] (all_kinds P (missing_tile of) (λ t. all_one P _ tt)) (All-nil P)

tiles : (k : EventKind) (of : TilesOf) (counts : List ℕ) → All (Proper k) (tile_slips of counts)
unfolding tile_slips
tiles k of counts =
    let P = Proper k in
    All-append P (other_tiles of counts ++ extra_tiles of counts) (missing_tiles of counts)
    (All-append P (other_tiles of counts) (extra_tiles of counts) (other_ones k of counts) (extra_ones k of counts)) (missing_ones k of counts)

-- ---- amounts

amounts : (k : EventKind) (rules : Rules) (e : Event) → All (Proper k) (other_bonuses rules e.score) × All (Proper k) (other_penalties rules e.score)
unfolding other_bonuses other_penalties
amounts k rules e =
    let P = Proper k in (
      all_to P (other_bonus rules e.score) 8 (λ n. all_if P (int_eq (bonus_for rules n) e.score) [] _ (All-nil P) (all_one P _ tt)),
      all_to P (other_penalty rules e.score) 20 (λ n. all_if P (int_eq (penalty_of rules n) e.score) [] _ (All-nil P) (all_one P _ tt)),
    )

exchanged : (k : EventKind) → All (Proper k) exchanges
unfolding exchanges
exchanged k = all_to (Proper k) exchange_of 7 (λ n. all_one (Proper k) _ tt)

numbers : (k : EventKind) (written : ℕ) → All (Proper k) (other_numbers written)
unfolding other_numbers
numbers k written = all_to (Proper k) (other_number written) 7 (λ n. all_if (Proper k) (n == written) [] _ (All-nil (Proper k)) (all_one (Proper k) _ tt))

-- ---- what happened

kinds : (rules : Rules) (e : Event) (k : EventKind) → All (Proper k) (kind_slips rules e k)
kinds rules e (kind.Play at dir word) = All-append (Proper (kind.Play at dir word)) (position_slips at) (spelling_slips word) (positions at dir word) (spellings (kind.Play at dir word) word)
kinds rules e kind.Pass = All-append (Proper kind.Pass) exchanges _ (exchanged kind.Pass) (all_one (Proper kind.Pass) _ tt)
kinds rules e (kind.Exchange counts) = tiles (kind.Exchange counts) tiles_of.Exchange counts
kinds rules e (kind.ExchangeUnknown n) = All-append (Proper (kind.ExchangeUnknown n)) (other_numbers n) _ (numbers (kind.ExchangeUnknown n) n) (all_one (Proper (kind.ExchangeUnknown n)) _ tt)
kinds rules e kind.Withdraw = all_one (Proper kind.Withdraw) _ tt
kinds rules e kind.Challenge = let both = amounts kind.Challenge rules e in both.0
kinds rules e kind.Time = let both = amounts kind.Time rules e in both.1
kinds rules e (kind.LastRack counts) = tiles (kind.LastRack counts) tiles_of.LastRack counts

rests : (k : EventKind) (written rest : List ℕ) → All (Proper k) (rest_for written rest)
rests k written rest = all_if (Proper k) (is_rack rest && not (bytes_eq rest written)) (slip.Rest rest ∷ []) [] (all_one (Proper k) (slip.Rest rest) tt) (All-nil (Proper k))

boards : (rules : Rules) (s : State) (before following : List Event) (k what : EventKind) → All (Proper k) (board_slips rules s before following what)
unfolding laying_slips
boards rules s before following k (kind.Play at dir word) =
    all_if (Proper k) (is_other_laying word (laid_text s.board dir at word)) _ [] (all_one (Proper k) _ tt) (All-nil (Proper k))
boards rules s before following k (kind.LastRack counts) = rests k counts (rest_tiles rules s.board before following)
boards rules s before following k kind.Pass = All-nil (Proper k)
boards rules s before following k (kind.Exchange counts) = All-nil (Proper k)
boards rules s before following k (kind.ExchangeUnknown n) = All-nil (Proper k)
boards rules s before following k kind.Withdraw = All-nil (Proper k)
boards rules s before following k kind.Challenge = All-nil (Proper k)
boards rules s before following k kind.Time = All-nil (Proper k)

racks : (k : EventKind) (rack : Option (List ℕ)) → All (Proper k) (slips_of_rack rack)
racks k None = All-nil (Proper k)
racks k (Some counts) =
    All-append (Proper k) (other_tiles tiles_of.Rack counts ++ extra_tiles tiles_of.Rack counts) (slip.NoRack ∷ [])
    (All-append (Proper k) (other_tiles tiles_of.Rack counts) (extra_tiles tiles_of.Rack counts) (other_ones k tiles_of.Rack counts) (extra_ones k tiles_of.Rack counts))
    (all_one (Proper k) slip.NoRack tt)

-- ---- the line

extra : (k what : EventKind) → Proper k (extra_slip what)
extra k kind.Pass = tt
extra k (kind.Play at dir word) = tt
extra k (kind.Exchange counts) = tt
extra k (kind.ExchangeUnknown n) = tt
extra k kind.Withdraw = tt
extra k kind.Challenge = tt
extra k kind.Time = tt
extra k (kind.LastRack counts) = tt

lines : (k : EventKind) (events : List Event) (place : ℕ) (e : Event) → All (Proper k) (line_slips events place e)
unfolding swapped_lines
lines k events place e =
    let P = Proper k in
    let before = event_before events place in
    All-append P (slip.OtherPlayer ∷ extra_line e before) (swapped_lines events place)
    (All-cons P slip.OtherPlayer (extra_line e before) tt
    (all_if P (repeats e before) (slip.Repeated ∷ []) (extra_slip e.kind ∷ []) (all_one P slip.Repeated tt) (all_one P (extra_slip e.kind) (extra k e.kind))))
    (All-append P _ _ (all_if P (nat_lt (place + 1) (length events)) (slip.Swapped ∷ []) [] (all_one P slip.Swapped tt) (All-nil P))
    (all_if P (nat_lt (place + 2) (length events)) (slip.SwappedOver ∷ []) [] (all_one P slip.SwappedOver tt) (All-nil P)))

-- ---- a tile that is misread twice

misread_one : (k : EventKind) (rack : List ℕ) (place : ℕ) (o : Option Symbol) → All (Proper k) (misread_symbol rack place o)
misread_one k rack place None = All-nil (Proper k)
misread_one k rack place (Some symbol.Dot) = All-nil (Proper k)
misread_one k rack place (Some (symbol.Blank l)) = All-nil (Proper k)
misread_one k rack place (Some (symbol.Letter l)) =
    let P = Proper k in
    all_if P _ _ [] (all_letters P (misread_letter place l) (λ m. all_if P (m.index == l.index) [] _ (All-nil P) (all_one P _ tt))) (All-nil P)

misread_here : (k : EventKind) (rack : List ℕ) (what : EventKind) → All (Proper k) (misread_with rack what)
unfolding misread_word misread_exchange
misread_here k rack (kind.Play at dir word) = all_below (Proper k) (misread_at rack word) (length word) (λ place below. misread_one k rack place (slice_get word place))
misread_here k rack (kind.Exchange counts) =
    let P = Proper k in
    all_kinds P (misread_tiles rack counts) (λ t. all_if P (has rack t && has counts t) _ [] (all_kinds P (misread_tile t) (λ u. all_if P (number_of u == number_of t) [] _ (All-nil P) (all_one P _ tt))) (All-nil P))
misread_here k rack kind.Pass = All-nil (Proper k)
misread_here k rack (kind.ExchangeUnknown n) = All-nil (Proper k)
misread_here k rack kind.Withdraw = All-nil (Proper k)
misread_here k rack kind.Challenge = All-nil (Proper k)
misread_here k rack kind.Time = All-nil (Proper k)
misread_here k rack (kind.LastRack counts) = All-nil (Proper k)

misread_all : (k : EventKind) (rack : Option (List ℕ)) (what : EventKind) → All (Proper k) (misread_by rack what)
misread_all k None what = All-nil (Proper k)
misread_all k (Some rack) what = misread_here k rack what

-- ---- all of an event

of_event : (rules : Rules) (s : State) (events : List Event) (place : ℕ) (e : Event) → All (Proper e.kind) (event_slips rules s events place e)
unfolding event_slips
of_event rules s events place e =
    let P = Proper e.kind in
    All-append P _ (misread_slips e)
    (All-append P _ (line_slips events place e)
    (All-append P _ (rack_slips e)
    (All-append P (kind_slips rules e e.kind) (board_slips rules s (take place events) (drop (place + 1) events) e.kind) (kinds rules e e.kind)
    (boards rules s (take place events) (drop (place + 1) events) e.kind e.kind))
    (all_if P (states_rack e.kind) (slips_of_rack e.rack) [] (racks e.kind e.rack) (All-nil P)))
    (lines e.kind events place e))
    (misread_all e.kind e.rack e.kind)

-- ---- what is missing

missing_lines : (k : EventKind) (rules : Rules) (early : Bool) (player : Seat) → All (Proper k) (missing_of rules early player)
unfolding missing_exchanges missing_penalties
missing_lines k rules early player =
    let P = Proper k in
    All-append P (_ ∷ missing_exchanges player) (missing_penalties rules early player)
    (All-cons P _ (missing_exchanges player) tt (all_to P (missing_exchange player) 7 (λ n. all_one P _ tt)))
    (all_to P (missing_penalty rules early player) 20 (λ n. all_one P _ tt))

missing_kinds : (k : EventKind) (rules : Rules) (player : Seat) (what : EventKind) → All (Proper k) (missing_after rules player what)
unfolding missing_bonuses
missing_kinds k rules player (kind.Play at dir word) = All-cons (Proper k) _ (missing_bonuses rules player) tt (all_to (Proper k) (missing_bonus rules player) 8 (λ n. all_one (Proper k) _ tt))
missing_kinds k rules player kind.Pass = All-nil (Proper k)
missing_kinds k rules player (kind.Exchange counts) = All-nil (Proper k)
missing_kinds k rules player (kind.ExchangeUnknown n) = All-nil (Proper k)
missing_kinds k rules player kind.Withdraw = All-nil (Proper k)
missing_kinds k rules player kind.Challenge = All-nil (Proper k)
missing_kinds k rules player kind.Time = All-nil (Proper k)
missing_kinds k rules player (kind.LastRack counts) = All-nil (Proper k)

missing_next : (k : EventKind) (rules : Rules) (before : Option Event) → All (Proper k) (missing_following rules before)
missing_next k rules None = All-nil (Proper k)
missing_next k rules (Some e) = missing_kinds k rules e.player e.kind

missing_last : (k : EventKind) (complete : Bool) (out : Option Seat) (rest : List ℕ) → All (Proper k) (missing_rest complete out rest)
missing_last k true out rest = All-nil (Proper k)
missing_last k false None rest = All-nil (Proper k)
missing_last k false (Some player) rest = all_if (Proper k) (is_rack rest) _ [] (all_one (Proper k) _ tt) (All-nil (Proper k))

missing : (k : EventKind) (rules : Rules) (s : State) (events : List Event) (place : ℕ) → All (Proper k) (missing_slips rules s events place)
unfolding missing_slips
missing k rules s events place =
    let P = Proper k in
    let early = list_any is_played (drop place events) in
    All-append P (missing_of rules early First ++ missing_of rules early Second ++ missing_following rules (event_before events place))
    (missing_rest s.complete s.out (rest_tiles rules s.board (take place events) (drop place events)))
    (All-append P (missing_of rules early First ++ missing_of rules early Second) (missing_following rules (event_before events place))
    (All-append P (missing_of rules early First) (missing_of rules early Second) (missing_lines k rules early First) (missing_lines k rules early Second))
    (missing_next k rules (event_before events place)))
    (missing_last k s.complete s.out (rest_tiles rules s.board (take place events) (drop place events)))

-- ---- all at a place

at_place : (rules : Rules) (s : State) (events : List Event) (place : ℕ) (o : Option Event) → All (ProperAt o) (slips_of_event rules s events place o ++ missing_slips rules s events place)
at_place rules s events place None = missing kind.Pass rules s events place
at_place rules s events place (Some e) =
    All-append (Proper e.kind) (event_slips rules s events place e) (missing_slips rules s events place) (of_event rules s events place e) (missing e.kind rules s events place)

all_proper : (rules : Rules) (s : State) (events : List Event) (place : ℕ) → All (ProperAt (slice_get events place)) (slips_by rules s events place)
unfolding slips_by
all_proper rules s events place = at_place rules s events place (slice_get events place)

-- ---- a shift

shift : (right : ℕ) → Slip
shift right = slip.Position (position.OneOff right)

play_shifted : (written : List Event) (place right : ℕ) (e : Event) (what : EventKind) → slice_get written place ≡ Some e → e.kind ≡ what → IsNear right what
    → IsReplacedAt IsShifted place written (applied (change_at place (shift right)) written)
unfolding shift
play_shifted written place right e (kind.Play at dir word) get is near =
    let there = split_at written place e get in
    let what = shift right in
    record {
      front = there.front;
      one = e;
      other = record e { kind = kind.Play right dir word };
      following = there.following;
      there = there.there;
      is = there.is;
      becomes = ap (spliced place 1 (map (right_event what))) there.is ∙ spliced_there there.front (e ∷ []) there.following place 1 (map (right_event what)) there.there refl
          ∙ ap (λ (k : EventKind). there.front ++ (right_event what (record e { kind = k }) ∷ there.following)) is;
      which = record { at = at; square = right; dir = dir; word = word; is = is; becomes = refl; beside = near };
    }
play_shifted written place right e kind.Pass get is near = absurd near
play_shifted written place right e (kind.Exchange counts) get is near = absurd near
play_shifted written place right e (kind.ExchangeUnknown n) get is near = absurd near
play_shifted written place right e kind.Withdraw get is near = absurd near
play_shifted written place right e kind.Challenge get is near = absurd near
play_shifted written place right e kind.Time get is near = absurd near
play_shifted written place right e (kind.LastRack counts) get is near = absurd near

line_shifted : (written : List Event) (place right : ℕ) (o : Option Event) → slice_get written place ≡ o → ProperAt o (shift right)
    → IsReplacedAt IsShifted place written (applied (change_at place (shift right)) written)
unfolding shift
line_shifted written place right None get near = absurd near
line_shifted written place right (Some e) get near = play_shifted written place right e e.kind get refl near

pub shifts_are_by_one : ShiftsAreByOne
unfolding shift
shifts_are_by_one rules place right written listed =
    let s = tally_at rules written place in
    let o = slice_get written place in
    line_shifted written place right o refl
    (All-contains (λ (c : Change). ProperAt o c.slip) (changes_at rules written place) (change_at place (shift right))
    (All-map (λ (c : Change). ProperAt o c.slip) (change_at place) (slips_by rules s written place) (all_proper rules s written place)) listed)
