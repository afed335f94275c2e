-- Reports as the definitions give them, computed.
use Rattle.std.proofs.Common.{◌≡◌, ℕ, pos, [], ◌∷◌, refl}
use Rattle.std.specs.Prelude.{codes}
use Rattle.std.specs.Fmt.{digits}
use Rattle.arrayvec.specs.ArrayVec.{ArrayVec}
use Rattle.lex_file.specs.declared.faults.FileFault.TheVariants as form
use Rattle.ref_play.specs.declared.faults.PlayFault.TheVariants as play
use Rattle.ref_tiles.specs.declared.rules_faults.RulesWhy.TheVariants as rules_why
use Rattle.lex_list.specs.declared.faults.ListWhy.TheVariants as list_why
use Rattle.gcg_read.specs.declared.faults.Why.TheVariants as why
use Rattle.game_turns.specs.declared.faults.RuleFault.TheVariants as rule
use Rattle.engine_stages.specs.declared.verdicts.GameFault.TheVariants as game
use Rattle.engine_stages.specs.declared.lexicons.LexiconFault.TheVariants as lexicon
use Rattle.engine_stages.specs.Reports.{illegal_line, bad_record_line, bad_rules_line, bad_list_line, bad_file_line, too_many_arcs_line, ok_line}

-- the lines of faults
faults_are_reported :
    (illegal_line 1 (game.Rule (rule.WrongScore (pos 16))) ≡ codes "illegal line 1: WrongScore 16\n")
    × (illegal_line 12 (game.Rule (rule.Play play.MissesCentre)) ≡ codes "illegal line 12: MissesCentre\n")
    × (bad_record_line (record { line = 2; why = why.NoColon }) ≡ codes "bad record line 2: NoColon\n")
    × (bad_record_line (record { line = 0; why = why.TooLong }) ≡ codes "bad record: TooLong\n")
    × (bad_rules_line (record { line = 48; why = rules_why.Twice }) ≡ codes "bad rules line 48: Twice\n")
    × (bad_rules_line (record { line = 0; why = rules_why.Limits }) ≡ codes "bad rules: Limits\n")
    × (bad_list_line (record { line = 2; why = list_why.BadLetter }) ≡ codes "bad word list line 2: BadLetter\n")
    × (bad_file_line (lexicon.Form form.Magic) ≡ codes "bad lexicon: Magic\n")
    × (too_many_arcs_line ≡ codes "bad lexicon: TooManyArcs\n")
unfolding digits illegal_line bad_record_line bad_rules_line bad_list_line bad_file_line too_many_arcs_line
faults_are_reported = (refl, refl, refl, refl, refl, refl, refl, refl, refl)

path_is_reported : (path : ArrayVec ℕ) → path.items ≡ 9 ∷ 0 ∷ 20 ∷ [] → bad_file_line (lexicon.Missing path) ≡ codes "bad lexicon: Missing I+T\n"
unfolding bad_file_line
path_is_reported path is = rw is refl

-- the line of a file that is the lexicon of a list
number_is_reported : ok_line 12 ≡ codes "ok 12\n"
unfolding digits ok_line
number_is_reported = refl
