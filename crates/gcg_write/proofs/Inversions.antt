-- What the outcome of a test says about its parts.
use Rattle.std.proofs.Common.{◌≡◌, ℕ, ◌≤◌, Bool, true, false, not, ◌&&◌, ◌||◌, ◌⊎◌, inl, inr, nat_le, Option, Some, None, is_some, Result, Ok, Err, if◌then◌else◌, arith, refl}
use Rattle.std.proofs.lemmas.Bool.Decides.{nat_tests}
use Rattle.gcg_read.specs.Faults.{◌>>=◌, on_line}
use Rattle.std.specs.Option.{ok_or, option_map, option_and_then, option_or}
use Rattle.gcg_read.specs.declared.faults.Why.{Why}

pub both : (a b : Bool) → (a && b) ≡ true → (a ≡ true) × (b ≡ true)
both true b e = (refl, e)
both false b e = absurd cc

pub not_true : (b : Bool) → not b ≡ true → b ≡ false
not_true true e = absurd cc
not_true false e = refl

pub le_from : (a b : ℕ) → nat_le a b ≡ true → a ≤ b
le_from a b e = grind (arith, nat_tests)

pub chosen : {X : Type 0} (b : Bool) (x y : X) → (if b then Some x else None) ≡ Some y → (b ≡ true) × (x ≡ y)
chosen true x y e = (refl, cc)
chosen false x y e = absurd cc

pub there : {X : Type 0} (o : Option X) → is_some o ≡ true → (x : X) × (o ≡ Some x)
there None e = absurd cc
there (Some x) e = (x, refl)

pub mapped : {X Y : Type 0} (f : X → Y) (o : Option X) (y : Y) → option_map f o ≡ Some y → (x : X) × ((o ≡ Some x) × (f x ≡ y))
mapped f None y e = absurd cc
mapped f (Some x) y e = (x, (refl, cc))

pub chained : {X Y : Type 0} (f : X → Option Y) (o : Option X) (y : Y) → option_and_then f o ≡ Some y → (x : X) × ((o ≡ Some x) × (f x ≡ Some y))
chained f None y e = absurd cc
chained f (Some x) y e = (x, (refl, e))

-- a step that succeeded, and what was done with its result
pub stepped : {A B E : Type 0} (r : Result A E) (f : A → Result B E) (y : B) → (r >>= f) ≡ Ok y → (x : A) × ((r ≡ Ok x) × (f x ≡ Ok y))
stepped (Ok x) f y e = (x, (refl, e))
stepped (Err w) f y e = absurd cc

pub given : {X E : Type 0} (o : Option X) (w : E) (x : X) → ok_or o w ≡ Ok x → o ≡ Some x
given None w x e = absurd cc
given (Some y) w x e = cc

pub on_its_line : {X : Type 0} (line : ℕ) (r : Result X Why) (x : X) → on_line line r ≡ Ok x → r ≡ Ok x
on_its_line line (Ok y) x e = cc
on_its_line line (Err w) x e = absurd cc

-- the first choice, or another
pub chosen_or : {X : Type 0} (b : Bool) (x y : X) (o : Option X) → (if b then Some x else o) ≡ Some y → ((b ≡ true) × (x ≡ y)) ⊎ (o ≡ Some y)
chosen_or true x y o e = inl (refl, cc)
chosen_or false x y o e = inr e

pub one_of : {X : Type 0} (b : Bool) (o p : Option X) (y : X) → (if b then o else p) ≡ Some y → (o ≡ Some y) ⊎ (p ≡ Some y)
one_of true o p y e = inl e
one_of false o p y e = inr e

pub first_or : {X : Type 0} (o p : Option X) (y : X) → option_or o p ≡ Some y → (o ≡ Some y) ⊎ (p ≡ Some y)
first_or None p y e = inr e
first_or (Some x) p y e = inl e

pub either_of : {X E : Type 0} (b : Bool) (o p : Result X E) (y : X) → (if b then o else p) ≡ Ok y → (o ≡ Ok y) ⊎ (p ≡ Ok y)
either_of true o p y e = inl e
either_of false o p y e = inr e

pub ok_same : {X E : Type 0} (x y : X) → (let r : Result X E = Ok x in r) ≡ Ok y → x ≡ y
ok_same x y e = cc

pub some_same : {X : Type 0} (x y : X) → (let o : Option X = Some x in o) ≡ Some y → x ≡ y
some_same x y e = cc

pub neither : (a b : Bool) → (a || b) ≡ false → (a ≡ false) × (b ≡ false)
neither true b e = absurd cc
neither false b e = (refl, e)

pub chosen_else : {X : Type 0} (b : Bool) (x y : X) (o : Option X) → (if b then Some x else o) ≡ Some y → ((b ≡ true) × (x ≡ y)) ⊎ ((b ≡ false) × (o ≡ Some y))
chosen_else true x y o e = inl (refl, cc)
chosen_else false x y o e = inr (refl, e)

-- what was not refused
pub passed : {X E : Type 0} (b : Bool) (w : E) (r : Result X E) (y : X) → (if b then Err w else r) ≡ Ok y → (b ≡ false) × (r ≡ Ok y)
passed true w r y e = absurd cc
passed false w r y e = (refl, e)

pub first_of_two : {X E : Type 0} (b : Bool) (o p : Result X E) (y : X) → b ≡ true → (if b then o else p) ≡ Ok y → o ≡ Ok y
first_of_two true o p y h e = e
first_of_two false o p y h e = absurd cc

pub second_of_two : {X E : Type 0} (b : Bool) (o p : Result X E) (y : X) → b ≡ false → (if b then o else p) ≡ Ok y → p ≡ Ok y
second_of_two true o p y h e = absurd cc
second_of_two false o p y h e = e
