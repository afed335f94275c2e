-- In what a record with a change differs from the sheet.
use Rattle.std.proofs.Common.{◌≡◌, ◌⊎◌, inl, inr, ℕ, Bool, true, false, ◌&&◌, nat_le, List, [], ◌∷◌, map, reverse, length, refl, sym, ap, if◌then◌else◌}
use Rattle.ref_tiles.specs.declared.symbols.Symbol.{Symbol}
use Rattle.ref_tiles.specs.declared.symbols.Symbol.TheVariants as symbol
use Rattle.ref_board.specs.declared.directions.Dir.{Dir}
use Rattle.gcg_read.specs.declared.events.Event.{Event}
use Rattle.gcg_read.specs.declared.events.EventKind.{EventKind}
use Rattle.gcg_read.specs.declared.events.EventKind.TheVariants as kind
use Rattle.repair_changes.specs.declared.slips.Slip.{Slip}
use Rattle.repair_changes.specs.declared.slips.Slip.TheVariants as slip
use Rattle.repair_changes.specs.declared.slips.PositionSlip.{PositionSlip}
use Rattle.repair_changes.specs.declared.slips.PositionSlip.TheVariants as position
use Rattle.repair_changes.specs.declared.slips.SpellingSlip.{SpellingSlip}
use Rattle.repair_changes.specs.declared.slips.SpellingSlip.TheVariants as spelling
use Rattle.repair_changes.specs.declared.slips.TilesOf.{TilesOf}
use Rattle.repair_changes.specs.declared.slips.TilesOf.TheVariants as tiles_of
use Rattle.repair_changes.specs.declared.slips.TileSlip.{TileSlip}
use Rattle.repair_changes.specs.Splices.{spliced}
use Rattle.repair_changes.specs.Applied.{right_square, right_dir, right_position, right_word, right_spelling, text_or, missing_event, right_event, right_events, applied}
use Rattle.repair_changes.specs.Differences.{BeginsAt, IsMoved, IsRespelled, IsRewritten, IsReplacedAt, LinesDiffer, DifferInTiles, RecordsDiffer}
use Rattle.repair_changes.specs.Laws.{NothingMore}
use Rattle.repair_changes.proofs.Splicing.{replaced, omitted, put_in, exchanged, exchanged_over}

-- ---- the position of a play

begins_at : (s : PositionSlip) (at : ℕ) (dir : Dir) → BeginsAt s at (right_square s at) dir (right_dir s dir)
begins_at position.OtherDirection at dir = (refl, refl)
begins_at (position.OneOff right) at dir = (refl, refl)
begins_at (position.Further right) at dir = (refl, refl)
begins_at position.Interchanged at dir = (refl, refl)

-- the line of an event that is no play stays
moved : (s : PositionSlip) (e : Event) (what : EventKind) → e.kind ≡ what
    → (record e { kind = right_position s what } ≡ e) ⊎ IsMoved s e (record e { kind = right_position s what })
moved s e (kind.Play at dir word) is =
    inr (record { at = at; square = right_square s at; dir = dir; way = right_dir s dir; word = word; is = is; becomes = refl; begins = begins_at s at dir })
moved s e kind.Pass is = inl (ap (λ (k : EventKind). record e { kind = k }) (sym is))
moved s e (kind.Exchange tiles) is = inl (ap (λ (k : EventKind). record e { kind = k }) (sym is))
moved s e (kind.ExchangeUnknown n) is = inl (ap (λ (k : EventKind). record e { kind = k }) (sym is))
moved s e kind.Withdraw is = inl (ap (λ (k : EventKind). record e { kind = k }) (sym is))
moved s e kind.Challenge is = inl (ap (λ (k : EventKind). record e { kind = k }) (sym is))
moved s e kind.Time is = inl (ap (λ (k : EventKind). record e { kind = k }) (sym is))
moved s e (kind.LastRack tiles) is = inl (ap (λ (k : EventKind). record e { kind = k }) (sym is))

-- ---- the text of a play

or_stays : (P : List Symbol → Type 0) (b : Bool) (right word : List Symbol) → (right ≡ word) ⊎ P right → ((if b then right else word) ≡ word) ⊎ P (if b then right else word)
or_stays P true right word is = is
or_stays P false right word is = inl refl

-- a text that is too long or empty stays as it was
stays : (P : List Symbol → Type 0) (right word : List Symbol) → (right ≡ word) ⊎ P right → (text_or right word ≡ word) ⊎ P (text_or right word)
stays P right word is = or_stays P (nat_le 1 (length right) && nat_le (length right) 15) right word is

one_symbol : (place : ℕ) (meant : Symbol) (word : List Symbol)
    → (spliced place 1 (λ (there : List Symbol). meant ∷ []) word ≡ word) ⊎ IsReplacedAt (λ (a b : Symbol). b ≡ meant) place word (spliced place 1 (λ (there : List Symbol). meant ∷ []) word)
one_symbol place meant word = replaced (λ (a b : Symbol). b ≡ meant) place (λ (there : List Symbol). meant ∷ []) (λ (a : Symbol). meant) word (λ a. refl) (λ a. refl)

respelled : (s : SpellingSlip) (word : List Symbol) → (right_word s word ≡ word) ⊎ IsRespelled s word (right_word s word)
respelled (spelling.OtherTile place meant) word = stays (IsRespelled (spelling.OtherTile place meant) word) (spliced place 1 (λ (there : List Symbol). meant ∷ []) word) word (one_symbol place meant word)
respelled (spelling.Dot place) word = stays (IsRespelled (spelling.Dot place) word) (spliced place 1 (λ (there : List Symbol). symbol.Dot ∷ []) word) word (one_symbol place symbol.Dot word)
respelled (spelling.Letter place meant) word =
    stays (IsRespelled (spelling.Letter place meant) word) (spliced place 1 (λ (there : List Symbol). symbol.Letter meant ∷ []) word) word (one_symbol place (symbol.Letter meant) word)
respelled (spelling.OtherLetter place meant) word =
    stays (IsRespelled (spelling.OtherLetter place meant) word) (spliced place 1 (λ (there : List Symbol). meant ∷ []) word) word (one_symbol place meant word)
respelled (spelling.Extra place) word =
    stays (IsRespelled (spelling.Extra place) word) (spliced place 1 (λ (there : List Symbol). []) word) word (omitted place (λ (there : List Symbol). []) word (λ a. refl))
respelled (spelling.MissingDot place) word =
    stays (IsRespelled (spelling.MissingDot place) word) (spliced place 0 (λ (there : List Symbol). symbol.Dot ∷ []) word) word
    (put_in symbol.Dot place (λ (there : List Symbol). symbol.Dot ∷ []) word refl)
respelled (spelling.MissingLetter place meant) word =
    stays (IsRespelled (spelling.MissingLetter place meant) word) (spliced place 0 (λ (there : List Symbol). symbol.Letter meant ∷ []) word) word
    (put_in (symbol.Letter meant) place (λ (there : List Symbol). symbol.Letter meant ∷ []) word refl)
respelled (spelling.Twisted place) word = stays (IsRespelled (spelling.Twisted place) word) (spliced place 2 reverse word) word (exchanged place reverse word (λ a b. refl))
respelled (spelling.Laid laid) word = inr refl

-- the line of an event that is no play stays
rewritten : (s : SpellingSlip) (e : Event) (what : EventKind) → e.kind ≡ what
    → (record e { kind = right_spelling s what } ≡ e) ⊎ IsRewritten s e (record e { kind = right_spelling s what })
rewritten s e (kind.Play at dir word) is = inr (record { at = at; dir = dir; word = word; right = right_word s word; is = is; becomes = refl; text = respelled s word })
rewritten s e kind.Pass is = inl (ap (λ (k : EventKind). record e { kind = k }) (sym is))
rewritten s e (kind.Exchange tiles) is = inl (ap (λ (k : EventKind). record e { kind = k }) (sym is))
rewritten s e (kind.ExchangeUnknown n) is = inl (ap (λ (k : EventKind). record e { kind = k }) (sym is))
rewritten s e kind.Withdraw is = inl (ap (λ (k : EventKind). record e { kind = k }) (sym is))
rewritten s e kind.Challenge is = inl (ap (λ (k : EventKind). record e { kind = k }) (sym is))
rewritten s e kind.Time is = inl (ap (λ (k : EventKind). record e { kind = k }) (sym is))
rewritten s e (kind.LastRack tiles) is = inl (ap (λ (k : EventKind). record e { kind = k }) (sym is))

-- ---- tiles

tiles_differ : (of : TilesOf) (s : TileSlip) (e : Event) → DifferInTiles of e (right_event (slip.Tile of s) e)
tiles_differ tiles_of.Rack s e = refl
tiles_differ tiles_of.Exchange s e = refl
tiles_differ tiles_of.LastRack s e = refl

-- ---- a record

one_line : (what : Slip) (place : ℕ) (events : List Event) → ((e : Event) → LinesDiffer what e (right_event what e))
    → (spliced place 1 (map (right_event what)) events ≡ events) ⊎ IsReplacedAt (LinesDiffer what) place events (spliced place 1 (map (right_event what)) events)
one_line what place events lines = replaced (LinesDiffer what) place (map (right_event what)) (right_event what) events (λ e. refl) lines

by_slip : (what : Slip) (place : ℕ) (events : List Event)
    → (applied (record { place = place; slip = what }) events ≡ events) ⊎ RecordsDiffer what place events (applied (record { place = place; slip = what }) events)
by_slip (slip.Position s) place events = one_line (slip.Position s) place events (λ e. moved s e e.kind refl)
by_slip (slip.Spelling s) place events = one_line (slip.Spelling s) place events (λ e. rewritten s e e.kind refl)
by_slip (slip.Replayed right) place events = one_line (slip.Replayed right) place events (λ e. refl)
by_slip (slip.Tile of s) place events = one_line (slip.Tile of s) place events (tiles_differ of s)
by_slip (slip.Misread m) place events = one_line (slip.Misread m) place events (λ e. refl)
by_slip slip.NoRack place events = one_line slip.NoRack place events (λ e. refl)
by_slip (slip.Number n) place events = one_line (slip.Number n) place events (λ e. refl)
by_slip (slip.Code s) place events = one_line (slip.Code s) place events (λ e. refl)
by_slip (slip.Rest counts) place events = one_line (slip.Rest counts) place events (λ e. refl)
by_slip (slip.Amount right) place events = one_line (slip.Amount right) place events (λ e. refl)
by_slip slip.OtherPlayer place events = one_line slip.OtherPlayer place events (λ e. refl)
by_slip slip.Repeated place events = omitted place (right_events slip.Repeated) events (λ e. refl)
by_slip slip.ExtraPass place events = omitted place (right_events slip.ExtraPass) events (λ e. refl)
by_slip slip.Extra place events = omitted place (right_events slip.Extra) events (λ e. refl)
by_slip slip.Swapped place events = exchanged place (right_events slip.Swapped) events (λ d e. refl)
by_slip slip.SwappedOver place events = exchanged_over place (right_events slip.SwappedOver) events (λ c d e. refl)
by_slip (slip.Missing line) place events = put_in (missing_event line) place (right_events (slip.Missing line)) events refl

pub nothing_more : NothingMore
nothing_more change events = by_slip change.slip change.place events
