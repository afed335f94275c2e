-- No line of a draft has two readings.
use Rattle.std.proofs.Common.{◌≡◌, ℕ, suc, ◌≤◌, Bool, true, false, List, [], ◌∷◌, ◌++◌, length, Option, Some, None, Ok, Err, if◌then◌else◌, ◌⊎◌, inl, inr, arith, refl, sym, ap, subst, ◌∙◌}
use Rattle.std.specs.Option.{ok_or}
use Rattle.std.proofs.lemmas.List.{append-nil, append_assoc}
use Rattle.gcg_read.specs.declared.faults.Why.TheVariants as why
use Rattle.gcg_read.specs.declared.events.Event.{Event}
use Rattle.gcg_read.specs.declared.events.EventKind.{EventKind}
use Rattle.gcg_read.specs.declared.events.EventKind.TheVariants as kind
use Rattle.gcg_read.specs.declared.event_lines.Heading.{Heading}
use Rattle.gcg_read.specs.Codes.{code_of}
use Rattle.gcg_read.specs.EventLines.{scored_of, played_of, coded_of, has_digit, event_of}
use Rattle.gcg_read.specs.Faults.{◌>>=◌}
use Rattle.gcg_read.specs.Numerals.{points_of}
use Rattle.gcg_read.specs.Positions.{position_of}
use Rattle.gcg_read.specs.Racks.{rack_of}
use Rattle.gcg_read.specs.Texts.{text_of}
use Rattle.gcg_write.proofs.Inversions.{stepped, given, ok_same}
use Rattle.gcg_numbers.proofs.Events.{event_other}
use Rattle.gcg_drafts.specs.declared.missing.Missing.{Missing}
use Rattle.gcg_drafts.specs.Lacks.{lacks_in}
use Rattle.gcg_drafts.specs.Laws.{count_of, IsReported, HasNoScore, IsSameBut, OneReading}
use Rattle.gcg_drafts.proofs.Reported.{lacks_are_reported}

-- ---- the last two fields of an event are its numbers

record HasNumbers (s t : List ℕ) (e : Event) : Type 0 where
  score : points_of s ≡ Some e.score
  total : points_of t ≡ Some e.total

scored_numbers : (heading : Heading) (rack : Option (List ℕ)) (what : EventKind) (s t : List ℕ) (e : Event) → scored_of heading rack what s t ≡ Ok e → HasNumbers s t e
unfolding scored_of
scored_numbers heading rack what s t e read =
    let a = stepped (ok_or (points_of s) why.Number) _ e read in
    let b = stepped (ok_or (points_of t) why.Number) _ e a.1.1 in
    let same = ok_same _ e b.1.1 in
    record {
      score = given (points_of s) why.Number a.0 a.1.0 ∙ ap (λ (x : Event). Some x.score) same;
      total = given (points_of t) why.Number b.0 b.1.0 ∙ ap (λ (x : Event). Some x.total) same;
    }

coded_numbers : (heading : Heading) (rack : Option (List ℕ)) (code s t : List ℕ) (e : Event) → coded_of heading rack code s t ≡ Ok e → HasNumbers s t e
unfolding coded_of
coded_numbers heading rack code s t e read =
    let a = stepped (ok_or (code_of code) why.Code) _ e read in
    scored_numbers heading rack a.0 s t e a.1.1

played_numbers : (heading : Heading) (rack : Option (List ℕ)) (position word s t : List ℕ) (e : Event) → played_of heading rack position word s t ≡ Ok e → HasNumbers s t e
unfolding played_of
played_numbers heading rack position word s t e read =
    let a = stepped (ok_or (position_of position) why.Position) _ e read in
    let b = stepped (ok_or (text_of word) why.Word) _ e a.1.1 in
    scored_numbers heading rack (kind.Play a.0.at a.0.dir b.0) s t e b.1.1

four_numbers : (heading : Heading) (a b s t : List ℕ) (e : Event) (digit : Bool)
    → (if digit then played_of heading None a b s t else (ok_or (rack_of a) why.Rack >>= λ rack. coded_of heading (Some rack) b s t)) ≡ Ok e → HasNumbers s t e
four_numbers heading a b s t e true read = played_numbers heading None a b s t e read
four_numbers heading a b s t e false read =
    let r = stepped (ok_or (rack_of a) why.Rack) _ e read in
    coded_numbers heading (Some r.0) b s t e r.1.1

numbers : (heading : Heading) (front : List (List ℕ)) (s t : List ℕ) (e : Event) → event_of heading ((front ++ s ∷ []) ++ t ∷ []) ≡ Ok e → HasNumbers s t e
unfolding event_of
numbers heading [] s t e read = absurd cc
numbers heading (a ∷ []) s t e read = coded_numbers heading None a s t e read
numbers heading (a ∷ b ∷ []) s t e read = four_numbers heading a b s t e (has_digit a) read
numbers heading (a ∷ b ∷ c ∷ []) s t e read =
    let r = stepped (ok_or (rack_of a) why.Rack) _ e read in
    played_numbers heading (Some r.0) b c s t e r.1.1
numbers heading (a ∷ b ∷ c ∷ d ∷ []) s t e read = absurd cc
numbers heading (a ∷ b ∷ c ∷ d ∷ f ∷ []) s t e read = absurd cc
numbers heading (a ∷ b ∷ c ∷ d ∷ f ∷ g ∷ front) s t e read = absurd cc

-- two events whose fields are the same but for the last two
same_but : (heading : Heading) (front : List (List ℕ)) (s t u v : List ℕ) (e f : Event) → event_of heading ((front ++ s ∷ []) ++ t ∷ []) ≡ Ok e
    → event_of heading ((front ++ u ∷ []) ++ v ∷ []) ≡ Ok f → IsSameBut e f
same_but heading front s t u v e f read other =
    let n = numbers heading front u v f other in
    ok_same f _ (sym other ∙ event_other heading front s t u v e f.score f.total read n.score n.total)

-- ---- the fields of a line

record Ended (fields : List (List ℕ)) : Type 0 where
  front : List (List ℕ)
  last : List ℕ
  whole : fields ≡ front ++ last ∷ []

ended : (a : List ℕ) (fields : List (List ℕ)) → Ended (a ∷ fields)
ended a [] = record { front = []; last = a; whole = refl }
ended a (b ∷ fields) = let e = ended b fields in record { front = a ∷ e.front; last = e.last; whole = ap (λ l. a ∷ l) e.whole }

one_event : (heading : Heading) (t : List ℕ) (e : Event) → event_of heading (t ∷ []) ≡ Ok e → ⊥
unfolding event_of
one_event heading t e read = absurd cc

one_by : (heading : Heading) (fields : List (List ℕ)) (t v : List ℕ) (e f : Event) → event_of heading (fields ++ t ∷ []) ≡ Ok e → event_of heading (fields ++ v ∷ []) ≡ Ok f → IsSameBut e f
one_by heading [] t v e f read other = absurd (one_event heading t e read)
one_by heading (a ∷ fields) t v e f read other =
    let n = ended a fields in
    same_but heading n.front n.last t n.last v e f
    (ap (λ l. event_of heading (l ++ t ∷ [])) (sym n.whole) ∙ read) (ap (λ l. event_of heading (l ++ v ∷ [])) (sym n.whole) ∙ other)

same_by : (heading : Heading) (fields more other : List (List ℕ)) (e f : Event) → length more ≤ 2 → length more ≡ length other
    → event_of heading (fields ++ more) ≡ Ok e → event_of heading (fields ++ other) ≡ Ok f → IsSameBut e f
same_by heading fields [] [] e f few many read rest =
    let same : e ≡ f = ok_same e f (sym read ∙ rest) in
    subst (λ x. IsSameBut e x) same refl
same_by heading fields [] (v ∷ other) e f few many read rest = absurd (omega (arith, many))
same_by heading fields (t ∷ []) [] e f few many read rest = absurd (omega (arith, many))
same_by heading fields (t ∷ []) (v ∷ []) e f few many read rest = one_by heading fields t v e f read rest
same_by heading fields (t ∷ []) (v ∷ w ∷ other) e f few many read rest = absurd (omega (arith, many))
same_by heading fields (s ∷ t ∷ []) [] e f few many read rest = absurd (omega (arith, many))
same_by heading fields (s ∷ t ∷ []) (v ∷ []) e f few many read rest = absurd (omega (arith, many))
same_by heading fields (s ∷ t ∷ []) (u ∷ v ∷ []) e f few many read rest =
    same_but heading fields s t u v e f
    (ap (event_of heading) (append_assoc fields (s ∷ []) (t ∷ [])) ∙ read) (ap (event_of heading) (append_assoc fields (u ∷ []) (v ∷ [])) ∙ rest)
same_by heading fields (s ∷ t ∷ []) (u ∷ v ∷ w ∷ other) e f few many read rest = absurd (omega (arith, many))
same_by heading fields (s ∷ t ∷ w ∷ more) other e f few many read rest = absurd (omega arith)

-- ---- as many

number_by : (fields more other : List (List ℕ)) (e f : Event) → IsReported fields more ⊎ HasNoScore fields more e → IsReported fields other ⊎ HasNoScore fields other f
    → length more ≡ length other
number_by fields more other e f (inl a) (inl b) =
    let same : a.lacks ≡ b.lacks = ok_same a.lacks b.lacks (sym a.reported ∙ b.reported) in
    sym a.many ∙ ap count_of same ∙ b.many
number_by fields more other e f (inl a) (inr b) = let both = sym a.reported ∙ b.reported in absurd cc
number_by fields more other e f (inr a) (inl b) = let both = sym a.reported ∙ b.reported in absurd cc
number_by fields more other e f (inr a) (inr b) = sym a.many ∙ b.many

pub one_reading : OneReading
one_reading heading fields more other e f few less read rest =
    let many = number_by fields more other e f (lacks_are_reported heading fields more e few read) (lacks_are_reported heading fields other f less rest) in
    (many, same_by heading fields more other e f few many read rest)
