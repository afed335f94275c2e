-- Lists that a loop goes through from the front.
pub use Rattle.text_lines.proofs.Fronts.{filter_map_step, list_all_step}
use Rattle.std.proofs.Common.{◌≡◌, ℕ, ◌+◌, ◌<◌, ◌≤◌, Bool, true, List, [], ◌∷◌, ◌++◌, length, get_or, take, drop, Option, Some, None, arith, sym, ap, ◌∙◌}
use Rattle.std.specs.List.{filter, filter_map, cons_option}
use Rattle.std.proofs.lemmas.List.{take-append-drop, length-append}
use Rattle.std.proofs.lemmas.List.Elements.{filter-append}
use Rattle.std.proofs.lemmas.List.Filters.{length-filter_more}

-- a filter keeps at least as much of the whole as of a front and the element after it
pub filter_over : {X : Type 0} (p : X → Bool) (xs : List X) (i : ℕ) (d : X) → i < length xs → p (get_or xs i d) ≡ true
    → length (filter p (take i xs)) + 1 ≤ length (filter p xs)
filter_over p xs i d lt here =
    let more : length (filter p (take (i + 1) xs)) ≡ length (filter p (take i xs)) + 1 = rw here at (length-filter_more p xs i d lt) in
    let parts : filter p xs ≡ filter p (take (i + 1) xs) ++ filter p (drop (i + 1) xs) =
    ap (filter p) (sym (take-append-drop (i + 1) xs)) ∙ filter-append p (take (i + 1) xs) (drop (i + 1) xs) in
    omega (arith, more, ap length parts, length-append (filter p (take (i + 1) xs)) (filter p (drop (i + 1) xs)))

cons_option_len : {Y : Type 0} (o : Option Y) (ys : List Y) → length (cons_option o ys) ≤ length ys + 1
cons_option_len None ys = omega arith
cons_option_len (Some y) ys = omega arith

-- at most one element is given for each element
pub filter_map_len : {X Y : Type 0} (h : X → Option Y) (xs : List X) → length (filter_map h xs) ≤ length xs
filter_map_len h [] = omega arith
filter_map_len h (x ∷ xs) = omega (arith, cons_option_len (h x) (filter_map h xs), filter_map_len h xs)
