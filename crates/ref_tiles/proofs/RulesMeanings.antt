-- The rules that a text states, and its first fault.
use Rattle.std.specs.Prelude.{option_map, IfErr}
use Rattle.std.proofs.Common.{◌≡◌, ℕ, ◌<◌, ◌≤◌, Bool, true, false, cond, ltb, arith, List, [], length, Option, Some, None, Result, Ok, Err, sym, subst, ap, ◌∙◌, refl, ◌⊎◌, inl, inr}
use Rattle.std.specs.Option.{option_or}
use Rattle.std.proofs.lemmas.Bool.Decides.{nat_tests}
use Rattle.text_lines.specs.Lines.{lines_of}
use Rattle.first_faults.specs.Checks.{or_fault}
use Rattle.first_faults.proofs.FirstBadLaws.{first_bad-is}
use Rattle.ref_tiles.specs.declared.rules_faults.RulesWhy.{RulesWhy}
use Rattle.ref_tiles.specs.declared.rules_faults.RulesWhy.TheVariants as why
use Rattle.ref_tiles.specs.declared.rules_faults.RulesFault.{RulesFault}
use Rattle.ref_tiles.specs.declared.rulebook.Rules.{Rules}
use Rattle.ref_tiles.specs.declared.statements.Entry.{Entry}
use Rattle.ref_tiles.specs.RulesFaults.{at_line}
use Rattle.ref_tiles.specs.RulesTexts.{most_text_bytes, entries_in, fault_after, first_bad_line, parts_with, whole_fault, parts_in, meaning_of, drafted, ended, Gives, IsFirstFault, IsWholeFault, IsFaultOf}

-- ---- the meaning, by what is read

-- the lines give a draft
whole_parts : (lines : List (List ℕ)) (entries : List (Option Entry)) → drafted lines ≡ Ok entries → parts_in lines ≡ ended entries
unfolding drafted parts_in ended
whole_parts lines entries e = by (first_bad_line [] lines) e
  where
    by : (o : Option RulesFault) → or_fault o (entries_in lines) ≡ Ok entries
        → or_fault (option_or o (option_map (at_line 0) (whole_fault (entries_in lines)))) (parts_with (entries_in lines))
        ≡ or_fault (option_map (at_line 0) (whole_fault entries)) (parts_with entries)
    by None e = let same : entries_in lines ≡ entries = cc in rw same refl
    by (Some fault) e = absurd cc

-- a line has a fault
line_parts : (lines : List (List ℕ)) (fault : RulesFault) → drafted lines ≡ Err fault → parts_in lines ≡ Err fault
unfolding drafted parts_in
line_parts lines fault e = by (first_bad_line [] lines) e
  where
    by : (o : Option RulesFault) → or_fault o (entries_in lines) ≡ Err fault
        → or_fault (option_or o (option_map (at_line 0) (whole_fault (entries_in lines)))) (parts_with (entries_in lines)) ≡ Err fault
    by None e = absurd cc
    by (Some f) e = cc

short_text : (text : List ℕ) → length text ≤ most_text_bytes → meaning_of text ≡ parts_in (lines_of text)
unfolding meaning_of
short_text text short =
    let fits : ltb most_text_bytes (length text) ≡ false = grind (arith, nat_tests) in
    rw fits refl

pub text_meaning : (text : List ℕ) (entries : List (Option Entry)) (result : Result Rules RulesFault) → length text ≤ most_text_bytes → drafted (lines_of text) ≡ Ok entries → Gives result (ended entries)
    → Gives result (meaning_of text)
text_meaning text entries result short e gives = subst (Gives result) (sym (short_text text short ∙ whole_parts (lines_of text) entries e)) gives

pub line_meaning : (text : List ℕ) (fault : RulesFault) → length text ≤ most_text_bytes → drafted (lines_of text) ≡ Err fault → meaning_of text ≡ Err fault
line_meaning text fault short e = short_text text short ∙ line_parts (lines_of text) fault e

pub too_long : (text : List ℕ) → most_text_bytes < length text → meaning_of text ≡ Err (at_line 0 why.TooLong)
unfolding meaning_of
too_long text long =
    let over : ltb most_text_bytes (length text) ≡ true = grind (arith, nat_tests) in
    rw over refl

-- ---- the first fault

-- the fault of lines
lines_fault : (lines : List (List ℕ)) (fault : RulesFault) → parts_in lines ≡ Err fault → IsFirstFault lines fault ⊎ IsWholeFault lines fault
unfolding parts_in first_bad_line
lines_fault lines fault e = by (first_bad_line [] lines) refl e
  where
    whole : (o : Option RulesWhy) → whole_fault (entries_in lines) ≡ o → first_bad_line [] lines ≡ None → or_fault (option_map (at_line 0) o) (parts_with (entries_in lines)) ≡ Err fault
        → IsWholeFault lines fault
    whole None is none e = absurd cc
    whole (Some w) is none e =
        let same : at_line 0 w ≡ fault = cc in
        record { lines_fine = none; number = ap (λ f. f.line) (sym same); fails = is ∙ ap (λ f. Some f.why) same }

    by : (o : Option RulesFault) → first_bad_line [] lines ≡ o
        → or_fault (option_or o (option_map (at_line 0) (whole_fault (entries_in lines)))) (parts_with (entries_in lines)) ≡ Err fault
        → IsFirstFault lines fault ⊎ IsWholeFault lines fault
    by None none e = inr (whole (whole_fault (entries_in lines)) refl none e)
    by (Some f) is e = let same : f ≡ fault = cc in inl (first_bad-is at_line fault_after lines fault (is ∙ ap Some same))

-- the fault of a text
pub text_fault : (text : List ℕ) (fault : RulesFault) → meaning_of text ≡ Err fault → IsFaultOf text fault
unfolding meaning_of
text_fault text fault e = by (ltb most_text_bytes (length text)) refl e
  where
    by : (long : Bool) → ltb most_text_bytes (length text) ≡ long → cond long (Err (at_line 0 why.TooLong)) (parts_in (lines_of text)) ≡ Err fault → IsFaultOf text fault
    by true long e = let same : at_line 0 why.TooLong ≡ fault = cc in inl (grind (arith, nat_tests), sym same)
    by false long e = inr (grind (arith, nat_tests), lines_fault (lines_of text) fault e)

-- the fault of a text whose lines give a draft
pub whole_text : (text : List ℕ) (entries : List (Option Entry)) (result : Result Rules RulesFault) → length text ≤ most_text_bytes → drafted (lines_of text) ≡ Ok entries → Gives result (ended entries)
    → IfErr result (λ fault. IsFaultOf text fault)
whole_text text entries (Ok rules) short e gives = tt
whole_text text entries (Err fault) short e gives = text_fault text fault (text_meaning text entries (Err fault) short e gives)
