-- The event of a line with other numbers.
use Rattle.std.proofs.Common.{◌≡◌, ℕ, ℤ, Bool, true, false, List, [], ◌∷◌, ◌++◌, Option, Some, None, Result, Ok, Err, if◌then◌else◌, refl, sym}
use Rattle.std.specs.Option.{ok_or}
use Rattle.gcg_read.specs.declared.faults.Why.{Why}
use Rattle.gcg_read.specs.declared.faults.Why.TheVariants as why
use Rattle.gcg_read.specs.declared.events.Event.{Event}
use Rattle.gcg_read.specs.declared.events.EventKind.{EventKind}
use Rattle.gcg_read.specs.declared.events.EventKind.TheVariants as kind
use Rattle.gcg_read.specs.declared.event_lines.Heading.{Heading}
use Rattle.gcg_read.specs.Codes.{code_of}
use Rattle.gcg_read.specs.Faults.{◌>>=◌}
use Rattle.gcg_read.specs.Numerals.{points_of}
use Rattle.gcg_read.specs.Positions.{position_of}
use Rattle.gcg_read.specs.Racks.{rack_of}
use Rattle.gcg_read.specs.Texts.{text_of}
use Rattle.gcg_read.specs.EventLines.{scored_of, played_of, coded_of, has_digit, event_of}
use Rattle.gcg_write.proofs.Inversions.{stepped, ok_same}

abbrev pub with_points : Event → ℤ → ℤ → Event
with_points e score total = record e { score = score; total = total }

scored_other : (heading : Heading) (rack : Option (List ℕ)) (what : EventKind) (s t u v : List ℕ) (e : Event) (score total : ℤ)
    → scored_of heading rack what s t ≡ Ok e → points_of u ≡ Some score → points_of v ≡ Some total → scored_of heading rack what u v ≡ Ok (with_points e score total)
unfolding scored_of
scored_other heading rack what s t u v e score total read p q =
    let a = stepped (ok_or (points_of s) why.Number) _ e read in
    let b = stepped (ok_or (points_of t) why.Number) _ e a.1.1 in
    let same = ok_same _ e b.1.1 in
    rw (p, q, sym same) refl

coded_other : (heading : Heading) (rack : Option (List ℕ)) (code s t u v : List ℕ) (e : Event) (score total : ℤ)
    → coded_of heading rack code s t ≡ Ok e → points_of u ≡ Some score → points_of v ≡ Some total → coded_of heading rack code u v ≡ Ok (with_points e score total)
unfolding coded_of
coded_other heading rack code s t u v e score total read p q =
    let a = stepped (ok_or (code_of code) why.Code) _ e read in
    rw a.1.0 (scored_other heading rack a.0 s t u v e score total a.1.1 p q)

-- two steps that continue in the same way
pub two_steps : {A B : Type 0} (a : Result A Why) (b : Result B Why) (f g : A → B → Result Event Why) (e d : Event) → ((x : A) (y : B) → f x y ≡ Ok e → g x y ≡ Ok d)
    → (a >>= λ x. b >>= λ y. f x y) ≡ Ok e → (a >>= λ x. b >>= λ y. g x y) ≡ Ok d
two_steps (Ok x) (Ok y) f g e d more read = more x y read
two_steps (Ok x) (Err w) f g e d more read = absurd cc
two_steps (Err w) b f g e d more read = absurd cc

played_other : (heading : Heading) (rack : Option (List ℕ)) (position word s t u v : List ℕ) (e : Event) (score total : ℤ)
    → played_of heading rack position word s t ≡ Ok e → points_of u ≡ Some score → points_of v ≡ Some total → played_of heading rack position word u v ≡ Ok (with_points e score total)
unfolding played_of
played_other heading rack position word s t u v e score total read p q =
    two_steps (ok_or (position_of position) why.Position) (ok_or (text_of word) why.Word)
    (λ place text. scored_of heading rack (kind.Play place.at place.dir text) s t) (λ place text. scored_of heading rack (kind.Play place.at place.dir text) u v)
    e (with_points e score total) (λ place text r. scored_other heading rack (kind.Play place.at place.dir text) s t u v e score total r p q) read

racked_other : (heading : Heading) (a b s t u v : List ℕ) (e : Event) (score total : ℤ)
    → (ok_or (rack_of a) why.Rack >>= λ rack. coded_of heading (Some rack) b s t) ≡ Ok e → points_of u ≡ Some score → points_of v ≡ Some total
    → (ok_or (rack_of a) why.Rack >>= λ rack. coded_of heading (Some rack) b u v) ≡ Ok (with_points e score total)
racked_other heading a b s t u v e score total read p q =
    let r = stepped (ok_or (rack_of a) why.Rack) _ e read in
    rw r.1.0 (coded_other heading (Some r.0) b s t u v e score total r.1.1 p q)

four_by : (heading : Heading) (a b s t u v : List ℕ) (e : Event) (score total : ℤ) (digit : Bool)
    → (if digit then played_of heading None a b s t else (ok_or (rack_of a) why.Rack >>= λ rack. coded_of heading (Some rack) b s t)) ≡ Ok e
    → points_of u ≡ Some score → points_of v ≡ Some total
    → (if digit then played_of heading None a b u v else (ok_or (rack_of a) why.Rack >>= λ rack. coded_of heading (Some rack) b u v)) ≡ Ok (with_points e score total)
four_by heading a b s t u v e score total true read p q = played_other heading None a b s t u v e score total read p q
four_by heading a b s t u v e score total false read p q = racked_other heading a b s t u v e score total read p q

five_other : (heading : Heading) (a b c s t u v : List ℕ) (e : Event) (score total : ℤ)
    → (ok_or (rack_of a) why.Rack >>= λ rack. played_of heading (Some rack) b c s t) ≡ Ok e → points_of u ≡ Some score → points_of v ≡ Some total
    → (ok_or (rack_of a) why.Rack >>= λ rack. played_of heading (Some rack) b c u v) ≡ Ok (with_points e score total)
five_other heading a b c s t u v e score total read p q =
    let r = stepped (ok_or (rack_of a) why.Rack) _ e read in
    rw r.1.0 (played_other heading (Some r.0) b c s t u v e score total r.1.1 p q)

-- the same event with the numbers that its last two fields then give
pub event_other : (heading : Heading) (fields : List (List ℕ)) (s t u v : List ℕ) (e : Event) (score total : ℤ)
    → event_of heading ((fields ++ s ∷ []) ++ t ∷ []) ≡ Ok e → points_of u ≡ Some score → points_of v ≡ Some total
    → event_of heading ((fields ++ u ∷ []) ++ v ∷ []) ≡ Ok (with_points e score total)
unfolding event_of
event_other heading [] s t u v e score total read p q = absurd cc
event_other heading (a ∷ []) s t u v e score total read p q = coded_other heading None a s t u v e score total read p q
event_other heading (a ∷ b ∷ []) s t u v e score total read p q = four_by heading a b s t u v e score total (has_digit a) read p q
event_other heading (a ∷ b ∷ c ∷ []) s t u v e score total read p q = five_other heading a b c s t u v e score total read p q
event_other heading (a ∷ b ∷ c ∷ d ∷ []) s t u v e score total read p q = absurd cc
event_other heading (a ∷ b ∷ c ∷ d ∷ f ∷ []) s t u v e score total read p q = absurd cc
event_other heading (a ∷ b ∷ c ∷ d ∷ f ∷ g ∷ fields) s t u v e score total read p q = absurd cc
