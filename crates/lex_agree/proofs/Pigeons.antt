-- Different strings, all of them in a list that is no longer than their number: the list has no others.
use Rattle.std.proofs.Common.{◌≡◌, ℕ, zero, suc, ◌+◌, ◌<◌, ◌≤◌, List, [], ◌∷◌, ◌++◌, length, get_or, inl, inr, ◌⊎◌, refl, sym, subst, ◌∙◌, arith}
use Rattle.std.specs.List.{Contains}
use Rattle.std.proofs.lemmas.List.Elements.{Contains-append_cases}

-- no two of the strings are the same
abbrev pub AreApart : List (List ℕ) → Type 0
AreApart [] = Unit {0}
AreApart (string ∷ strings) = (Contains strings string → ⊥) × AreApart strings

-- strings without the one at a place
abbrev without : List (List ℕ) → ℕ → List (List ℕ)
without [] place = []
without (string ∷ strings) zero = strings
without (string ∷ strings) (suc place) = string ∷ without strings place

without_size : (strings : List (List ℕ)) (place : ℕ) → place < length strings → length (without strings place) + 1 ≡ length strings
without_size [] place lt = absurd (omega arith)
without_size (string ∷ strings) zero lt = omega arith
without_size (string ∷ strings) (suc place) lt = let rest = without_size strings place (omega arith) in omega arith

pub is_first : (string : List ℕ) (strings : List (List ℕ)) → Contains (string ∷ strings) string
is_first string strings = (0, omega arith, refl)

pub is_after : (string other : List ℕ) (strings : List (List ℕ)) → Contains strings string → Contains (other ∷ strings) string
is_after string other strings (place, lt, at) = (suc place, omega arith, at)

pub first_or_after : (string other : List ℕ) (strings : List (List ℕ)) → Contains (other ∷ strings) string → (other ≡ string) ⊎ Contains strings string
first_or_after string other strings (zero, lt, at) = inl at
first_or_after string other strings (suc place, lt, at) = inr (place, omega arith, at)

-- a string of the list is at the place, or one of the others
there_or_remaining : (strings : List (List ℕ)) (place : ℕ) (one string : List ℕ) → place < length strings → get_or strings place one ≡ one → Contains strings string
    → (string ≡ one) ⊎ Contains (without strings place) string
there_or_remaining [] place one string lt at has = absurd (omega arith)
there_or_remaining (first ∷ strings) zero one string lt at has = elim (first_or_after string first strings has) [
  | inl same ↦ inl (sym same ∙ at)
  | inr other ↦ inr other
]
there_or_remaining (first ∷ strings) (suc place) one string lt at has = elim (first_or_after string first strings has) [
  | inl same ↦ inr (0, omega arith, same)
  | inr other ↦ elim (there_or_remaining strings place one string (omega arith) at other) [
    | inl same ↦ inl same
    | inr more ↦ inr (is_after string first (without strings place) more)
  ]
]

pub all_there : (strings all : List (List ℕ)) → AreApart strings → ((string : List ℕ) → Contains strings string → Contains all string)
    → length all ≤ length strings → (string : List ℕ) → Contains all string → Contains strings string
all_there [] all apart inside few string has = absurd (omega (arith, has.1))
all_there (first ∷ strings) all apart inside few string has =
    let at = inside first (is_first first strings) in
    let size = without_size all at.0 at.1 in
    let inside_remaining : (other : List ℕ) → Contains strings other → Contains (without all at.0) other = λ other there.
    elim (there_or_remaining all at.0 first other at.1 at.2 (inside other (is_after other first strings there))) [
      | inl same ↦ absurd (apart.0 (subst (Contains strings) same there))
      | inr remaining ↦ remaining
    ]
    in
    elim (there_or_remaining all at.0 first string at.1 at.2 has) [
      | inl same ↦ (0, omega arith, sym same)
      | inr remaining ↦ is_after string first strings (all_there strings (without all at.0) apart.1 inside_remaining (omega (arith, size)) string remaining)
    ]

-- different strings, and other different strings that are none of them
pub apart_both : (strings others : List (List ℕ)) → AreApart strings → AreApart others
    → ((string : List ℕ) → Contains strings string → Contains others string → ⊥) → AreApart (strings ++ others)
apart_both [] others apart more none = more
apart_both (first ∷ strings) others apart more none = (
  (λ has. elim (Contains-append_cases strings others first has) [
    | inl here ↦ apart.0 here
    | inr there ↦ none first (is_first first strings) there
  ]),
  apart_both strings others apart.1 more (λ string here there. none string (is_after string first strings here) there),
)
