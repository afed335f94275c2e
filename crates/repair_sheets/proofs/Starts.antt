-- Where the fields of a line begin, and what is put in there.
use Rattle.std.proofs.Common.{◌≡◌, ℕ, ◌≤◌, List, [], ◌∷◌, ◌++◌, length, take, drop, Option, Some, None, arith, sym, ap, ◌∙◌, subst}
use Rattle.std.specs.Option.{option_map}
use Rattle.std.proofs.lemmas.List.{append_assoc, length-append}
use Rattle.ref_board.specs.declared.directions.Dir.{Dir}
use Rattle.gcg_write.specs.Fields.{position_text, play_text}
use Rattle.gcg_numbers.specs.declared.cutting.Last.{Last as Found}
use Rattle.gcg_numbers.specs.Fields.{seen}
use Rattle.gcg_numbers.specs.Numbers.{Last, last_field}
use Rattle.gcg_numbers.proofs.Lasts.{IsCut, IsLastOf, last_is}
use Rattle.repair_sheets.specs.Places.{last_start, word_start, placed_at}

abbrev start_of : Option Last → Option ℕ
start_of o = option_map (λ (last : Last). length last.front) o

-- a text of blanks
pub no_start : (text : List ℕ) → seen None ≡ last_field text → None ≡ last_start text
no_start text is = ap start_of is

-- the last field of any other text
pub its_start : (text : List ℕ) (found : Found) → seen (Some found) ≡ last_field text → Some (length found.front.now) ≡ last_start text
its_start text found is = ap start_of is

cut_within : (text : List ℕ) (last : Last) → IsCut text last → length last.front ≤ length text
cut_within text last cut = omega (arith, ap (λ (bytes : List ℕ). length bytes) cut.whole, length-append last.front (last.field ++ last.back))

-- it begins within the text
pub start_within : (text : List ℕ) (found : Found) → seen (Some found) ≡ last_field text → length found.front.now ≤ length text
start_within text found is =
    cut_within text (record { front = found.front.now; field = found.field.now; back = found.back.now }) (subst (λ (o : Option Last). IsLastOf text o) (sym is) (last_is text))

pub ruleset starts = (no_start, its_start, start_within)

-- a text with fewer than three fields
pub stays : (out text : List ℕ) (at : ℕ) (d : Dir) → None ≡ word_start text → out ++ text ≡ out ++ placed_at at d text (word_start text)
stays out text at d is = ap (λ (o : Option ℕ). out ++ placed_at at d text o) is

-- a place before the word
pub put_in : (out text : List ℕ) (at : ℕ) (d : Dir) (start : ℕ) → Some start ≡ word_start text
    → ((out ++ take start text) ++ play_text at d []) ++ drop start text ≡ out ++ placed_at at d text (word_start text)
put_in out text at d start is =
    append_assoc (out ++ take start text) (position_text at d ++ 32 ∷ []) (drop start text)
    ∙ append_assoc out (take start text) ((position_text at d ++ 32 ∷ []) ++ drop start text)
    ∙ ap (λ (bytes : List ℕ). out ++ (take start text ++ bytes)) (append_assoc (position_text at d) (32 ∷ []) (drop start text))
    ∙ ap (λ (o : Option ℕ). out ++ placed_at at d text o) is

pub ruleset placed = (stays, put_in)
