-- That a game is legal means what the headline says.
use Rattle.std.proofs.Common.{◌≡◌, ◌+◌, ◌≢◌, IfOk, ◌<◌, ◌≤◌, ℕ, pos, Bool, true, false, List, [], ◌∷◌, ◌++◌, length, refl, ap, subst, sym, ◌∙◌, arith, ◌⊎◌, inl, inr, ⊎_elim, Option, Some, None, Result, Ok, Err, if◌then◌else◌}
use Rattle.std.specs.Prelude.{codes, nat_lt, slice_index_or}
use Rattle.std.specs.Fmt.{signed_decimal}
use Rattle.std.proofs.lemmas.Option.{slice_get_within}
use Rattle.ref_tiles.specs.declared.tiles.Tile.{Tile}
use Rattle.ref_tiles.specs.declared.rulebook.Rules.{Rules}
use Rattle.ref_tiles.specs.RulesTexts.{meaning_of}
use Rattle.ref_play.specs.declared.placed.Placed.{Placed}
use Rattle.ref_play.specs.Scores.{score_of}
use Rattle.ref_play.specs.Notations.{notation_of, ComesBefore}
use Rattle.ref_play.specs.Best.{Given, Outranks, IsAnnotation}
use Rattle.gcg_read.specs.declared.records.Record.{Record}
use Rattle.gcg_read.specs.Records.{record_of}
use Rattle.lex_list.specs.Lists.{list_of}
use Rattle.lex_file.specs.declared.faults.FileFault.{FileFault}
use Rattle.lex_file.specs.declared.faults.FileFault.TheVariants as form
use Rattle.lex_file.specs.Shapes.{fault_of}
use Rattle.lex_check.specs.laws.{LexiconsAreExact}
use Rattle.deal_completion.specs.Completion.{dealt}
use Rattle.deal_steps.specs.Fitting.{Fits}
use Rattle.game_deal.specs.Recorded.{steps_of}
use Rattle.io_devices.specs.Devices.{Device}
use Rattle.std.specs.Io.KnownBytes.{Appends}
use Rattle.deal_steps.specs.declared.faults.DealBound.{DealBound}
use Rattle.deal_steps.specs.declared.faults.DealBound.TheVariants as deal
use Rattle.game_turns.specs.Places.{is_finished}
use Rattle.game_deal.specs.Plain.{HaveNoExchange}
use Rattle.game_turns.specs.Tallies.{tally_at}
use Rattle.engine_stages.specs.declared.faults.RunFault.{RunFault}
use Rattle.game_report.specs.BestPlays.{full_rack, notation_text, best_text, ReportsByRack}
use Rattle.engine_stages.specs.Lexicons.{file_fault, most_lexicon_bytes}
use Rattle.engine_stages.specs.declared.verdicts.Verdict.TheVariants as verdict
use Rattle.engine_stages.specs.declared.verdicts.GameFault.{GameFault}
use Rattle.engine_stages.specs.declared.verdicts.Verdict.{Verdict}
use Rattle.engine.specs.Judging.{IsReportedLegal, IsLegal, IsRefused, IsPastBound, RemainsOpen, IsReportedBound, IsJudged, IsDecided}
use Rattle.engine_stages.specs.Lexicons.{IsLexicon}
use Rattle.engine_stages.specs.Reading.{ReadsNoMore, ReadsList, ByMeaning, ByParts, ReadsRecord, ByLexicon, ReadsLexicon, IsReportedFile}
use Rattle.engine_stages.specs.Reports.{legal_line, bad_list_line, bad_record_line, bad_rules_line}
use Rattle.engine.specs.LegalReports.{IsLegalReport}
use Rattle.engine_stages.specs.Runs.{IsRun}
use Rattle.deal_cuts.specs.Laws.{FrontsDecide}
use Rattle.engine.specs.Settling.{IsSettledLegal, IsUndealt, IsSettled, IsSettledBy, SettledLegalMeansLegal, SettledIllegalMeansNoGame}
use Rattle.engine_stages.specs.Sources.{Source, AreGiven}
use Rattle.engine_stages.specs.Reporting.{IsOwn}
use Rattle.game_deal.specs.Verdicts.{IsGame}
use Rattle.engine.specs.Headlines.{Texts, in_order, IsBestPrinted, IsLegalGame, IsLegalRun, LegalMeansLegal, LegalMeansLegalByText, IllegalMeansNoGame, PlainGamesAreDecided}
use Rattle.engine.specs.laws.Judging.{legal_own}
use Rattle.game_deal.proofs.FoundRacks.{some_of}
use Rattle.game_turns.proofs.PlaceLaws.{first_not_allowed}
use Rattle.engine.specs.laws.Verdicts.{illegal_own}

-- a file without a fault has the shape of a lexicon
shape_by : (b : Bool) (rest : Option FileFault) → (if b then Some form.Length else rest) ≡ None → rest ≡ None
shape_by true rest h = cc
shape_by false rest h = h

shape_of : (bytes : List ℕ) → file_fault bytes ≡ None → fault_of bytes ≡ None
unfolding file_fault
shape_of bytes h = shape_by (nat_lt most_lexicon_bytes (length bytes)) (fault_of bytes) h

-- what does not outrank scores no more
no_more : (rules : Rules) (board : List (Option Tile)) (ps others : List Placed) → (others ≡ ps) ⊎ Outranks rules board ps others → score_of rules board others ≤ score_of rules board ps
no_more rules board ps others h =
    ⊎_elim
    (λ (same : others ≡ ps). let e = ap (score_of rules board) same in omega arith)
    (λ (out : Outranks rules board ps others).
    ⊎_elim
    (λ (less : score_of rules board others < score_of rules board ps). omega arith)
    (λ (tie : (score_of rules board ps ≡ score_of rules board others) × ComesBefore board ps others). let e = tie.0 in omega arith)
    out)
    h

best_printed : (rules : Rules) (list : List (List ℕ)) (board : List (Option Tile)) (rack reported : List ℕ) (answer : Option Given) → IsAnnotation rules list board rack answer → reported ≡ best_text board answer
    → IsBestPrinted rules list board rack reported
best_printed rules list board rack reported None none is = inr (none, is)
best_printed rules list board rack reported (Some given) best is =
    let score : given.score ≡ pos (score_of rules board given.tiles) = ap (λ (g : Given). g.score) best.1 in
    inl (
      given.tiles,
      best.0.candidate,
      λ others candidate. no_more rules board given.tiles others (best.0.outranks others candidate),
      is ∙ ap (λ n. codes " best " ++ notation_text (notation_of board given.tiles) ++ 32 ∷ signed_decimal n) score,
    )

-- what is said of a full rack
by_rack : (rules : Rules) (list : List (List ℕ)) (board : List (Option Tile)) (rack reported : List ℕ) (full : Option (List ℕ)) → full ≡ Some rack → ReportsByRack rules list board full reported
    → IsBestPrinted rules list board rack reported
by_rack rules list board rack reported full is reports =
    let here = subst (λ f. ReportsByRack rules list board f reported) is reports in
    best_printed rules list board rack reported here.0 here.1 here.2

same_ok : {A E : Type 0} (a b : A) (r : Result A E) → r ≡ Ok a → r ≡ Ok b → a ≡ b
same_ok a b r one other = let same : Ok a ≡ Ok b = sym one ∙ other in cc

-- two verdicts that a game is legal
pub same_complete : (complete other : Bool) → verdict.Legal complete ≡ verdict.Legal other → complete ≡ other
same_complete complete other same = cc

-- ---- answers that come by the meaning of an input

-- a verdict that is not that the text is bad comes by its meaning
by_meaning : {A F : Type 0} (bad : Verdict) (line : F → List ℕ) (IsAnswer : A → List (List ℕ) → Verdict → List ℕ → Type 0) (meaning : Result A F) (rest : List (List ℕ)) (v : Verdict) (report : List ℕ)
    → v ≢ bad → ByMeaning bad line IsAnswer meaning rest v report → (a : A) × (meaning ≡ Ok a) × IsAnswer a rest v report
by_meaning bad line IsAnswer (Ok a) rest v report other is = (a, refl, is)
by_meaning bad line IsAnswer (Err fault) rest v report other is = absurd (other is.verdict_is)

by_lexicon : (words : List (List ℕ)) (bytes : List ℕ) (IsAnswer : List (List ℕ) → Verdict → List ℕ → Type 0) (rest : List (List ℕ)) (v : Verdict) (report : List ℕ)
    → v ≢ verdict.BadFile → ByLexicon words IsAnswer bytes rest v report → IsLexicon words bytes × IsAnswer rest v report
by_lexicon words bytes IsAnswer rest v report other is =
    ⊎_elim (λ (good : IsLexicon words bytes × IsAnswer rest v report). good) (λ (reported : IsReportedFile words bytes v report). absurd (other reported.verdict_is)) is

-- what is answered on the inputs of a game, by what is answered on its record
abbrev pub ReadsGame : ((words : List (List ℕ)) → Record → Verdict → List ℕ → Type 0) → (texts : List (List ℕ)) → Verdict → List ℕ → Type 0
ReadsGame IsAnswer = ReadsList (λ words. ReadsLexicon words (ReadsRecord (λ r. ReadsNoMore (IsAnswer words r))))

-- the inputs of a verdict that is not that one of them is bad
pub record IsOnGame (IsAnswer : (words : List (List ℕ)) → Record → Verdict → List ℕ → Type 0) (texts : Texts) (v : Verdict) (report : List ℕ) : Type 0 where
  pub words : List (List ℕ)
  pub listed : list_of texts.words ≡ Ok words
  pub paired : IsLexicon words texts.lexicon
  pub game : Record
  pub recorded : record_of texts.game ≡ Ok game
  pub answer : IsAnswer words game v report

on_game : (IsAnswer : (words : List (List ℕ)) → Record → Verdict → List ℕ → Type 0) (texts : Texts) (v : Verdict) (report : List ℕ) → IsOwn v → ReadsGame IsAnswer (in_order texts) v report
    → IsOnGame IsAnswer texts v report
on_game IsAnswer texts v report own is =
    let Last : List (List ℕ) → Record → List (List ℕ) → Verdict → List ℕ → Type 0 = λ words r. ReadsNoMore (IsAnswer words r) in
    let list = by_meaning verdict.BadList bad_list_line (λ words. ReadsLexicon words (ReadsRecord (Last words))) (list_of texts.words) (texts.lexicon ∷ texts.game ∷ []) v report own.words is in
    let lexicon = by_lexicon list.0 texts.lexicon (ReadsRecord (Last list.0)) (texts.game ∷ []) v report own.lexicon list.2 in
    let game = by_meaning verdict.BadRecord bad_record_line (Last list.0) (record_of texts.game) [] v report own.game lexicon.1 in
    record { words = list.0; listed = list.1; paired = lexicon.0; game = game.0; recorded = game.1; answer = game.2 }

-- ---- which of the four answers a verdict is

bound_line : (bound : DealBound) (complete : Bool) (report : List ℕ) → IsReportedBound bound (verdict.Legal complete) report → ⊥
bound_line (deal.RackTooBig line) complete report reported = let both = reported.verdict_is in cc
bound_line (deal.TilesShort line kind) complete report reported = let both = reported.verdict_is in cc

pub legal_answer : (rules : Rules) (words : List (List ℕ)) (r : Record) (complete : Bool) (report : List ℕ) → IsJudged rules words r (verdict.Legal complete) report
    → IsLegal rules words r (verdict.Legal complete) report
legal_answer rules words r complete report is =
    ⊎_elim
    (λ (legal : IsLegal rules words r (verdict.Legal complete) report). legal)
    (λ (rest : IsRefused rules words r (verdict.Legal complete) report ⊎ IsPastBound rules words r (verdict.Legal complete) report ⊎ RemainsOpen rules words r (verdict.Legal complete) report).
    ⊎_elim
    (λ (refused : IsRefused rules words r (verdict.Legal complete) report). let both = refused.reported.verdict_is in cc)
    (λ (others : IsPastBound rules words r (verdict.Legal complete) report ⊎ RemainsOpen rules words r (verdict.Legal complete) report).
    ⊎_elim
    (λ (past : IsPastBound rules words r (verdict.Legal complete) report). absurd (bound_line past.bound complete report past.reported))
    (λ (remaining : RemainsOpen rules words r (verdict.Legal complete) report). let both = remaining.reported.verdict_is in cc)
    others)
    rest)
    is

-- ---- legal

-- a game that is reported as legal, by its inputs
legal_game : LexiconsAreExact → (rules : Rules) (texts : Texts) (complete : Bool) (report : List ℕ) (words : List (List ℕ)) (game : Record) → list_of texts.words ≡ Ok words
    → IsLexicon words texts.lexicon → record_of texts.game ≡ Ok game → IsGame rules words game.events → IsReportedLegal rules words game (verdict.Legal complete) report
    → IsLegalGame rules texts complete report
legal_game exact rules texts complete report words game listed paired recorded is reported =
    let ended : complete ≡ is_finished rules game.events = same_complete complete (is_finished rules game.events) reported.verdict_is in
    let lines = subst (λ c. IsLegalReport rules words c game report) (sym ended) reported.reported in
    record {
      list = words;
      listed = listed;
      game = game;
      recorded = recorded;
      lexicon = exact texts.words texts.lexicon words listed (record { shape = shape_of texts.lexicon paired.form; agreed = paired.agreed });
      racks = is.racks;
      dealt = is.dealt;
      allowed = is.allowed;
      ended = ended;
      reported = lines.is_reported.best;
      lines = lines.is_reported.count;
      printed = lines.following ∙ ap (λ t. legal_line complete ++ t) lines.is_reported.are;
      best = λ place e rack turn.
          let reports = lines.is_reported.each place (slice_get_within game.events place e turn.event) e turn.event in
          by_rack rules words (tally_at rules game.events place).board rack (slice_index_or lines.is_reported.best place []) (full_rack (tally_at rules game.events place) e) turn.is_full (reports.judged turn.is_turn);
    }

pub game_of : (rules : Rules) (words : List (List ℕ)) (r : Record) (v : Verdict) (report : List ℕ) → IsLegal rules words r v report → IsGame rules words r.events
game_of rules words r v report legal =
    let deal = some_of (dealt rules (steps_of rules r.events)) (Fits rules (steps_of rules r.events)) legal.is_dealt in
    record { allowed = legal.allowed; racks = deal.0; dealt = deal.1 }

pub legal_is : LexiconsAreExact → LegalMeansLegal
legal_is exact rules texts complete report decided =
    let on = on_game (IsJudged rules) texts (verdict.Legal complete) report (legal_own complete) decided in
    let is = legal_answer rules on.words on.game complete report on.answer in
    legal_game exact rules texts complete report on.words on.game on.listed on.paired on.recorded
    (game_of rules on.words on.game (verdict.Legal complete) report is) is.reported

-- the same for a settled verdict

settled_answer : (rules : Rules) (words : List (List ℕ)) (r : Record) (complete : Bool) (report : List ℕ) → IsSettled rules words r (verdict.Legal complete) report
    → IsSettledLegal rules words r (verdict.Legal complete) report
settled_answer rules words r complete report is =
    ⊎_elim
    (λ (legal : IsSettledLegal rules words r (verdict.Legal complete) report). legal)
    (λ (rest : IsRefused rules words r (verdict.Legal complete) report ⊎ IsPastBound rules words r (verdict.Legal complete) report ⊎ IsUndealt rules words r (verdict.Legal complete) report ⊎ RemainsOpen rules words r (verdict.Legal complete) report).
    ⊎_elim
    (λ (refused : IsRefused rules words r (verdict.Legal complete) report). let both = refused.reported.verdict_is in cc)
    (λ (others : IsPastBound rules words r (verdict.Legal complete) report ⊎ IsUndealt rules words r (verdict.Legal complete) report ⊎ RemainsOpen rules words r (verdict.Legal complete) report).
    ⊎_elim
    (λ (past : IsPastBound rules words r (verdict.Legal complete) report). absurd (bound_line past.bound complete report past.reported))
    (λ (last : IsUndealt rules words r (verdict.Legal complete) report ⊎ RemainsOpen rules words r (verdict.Legal complete) report).
    ⊎_elim
    (λ (none : IsUndealt rules words r (verdict.Legal complete) report). let both = none.reported.verdict_is in cc)
    (λ (remaining : RemainsOpen rules words r (verdict.Legal complete) report). let both = remaining.reported.verdict_is in cc)
    last)
    others)
    rest)
    is

pub settled_legal_is : LexiconsAreExact → SettledLegalMeansLegal
settled_legal_is exact rules texts complete report decided =
    let on = on_game (IsSettled rules) texts (verdict.Legal complete) report (legal_own complete) decided in
    let is = settled_answer rules on.words on.game complete report on.answer in
    legal_game exact rules texts complete report on.words on.game on.listed on.paired on.recorded is.game is.reported

-- ---- the same by the rules of a text

pub legal_by_text : LexiconsAreExact → LegalMeansLegalByText
legal_by_text exact stated texts complete report decided =
    let own = legal_own complete in
    let by = by_meaning verdict.BadRules bad_rules_line (ByParts IsDecided) (meaning_of stated) (in_order texts) (verdict.Legal complete) report own.rules decided in
    let rules = by.2.0 in
    (rules, by.1 ∙ ap Ok (sym by.2.1), legal_is exact rules texts complete report by.2.2)

-- ---- what a run says of it

abbrev texts_of : (words lexicon game : List ℕ) → Texts
texts_of words lexicon game = record { words = words; lexicon = lexicon; game = game }

run_of : (rules : Rules) (IsAnswer : List (List ℕ) → Verdict → List ℕ → Type 0) (first second third : Source) (texts : List (List ℕ)) (complete : Bool) (report : List ℕ) (old new : Device)
    → ((given : Texts) → IsAnswer (in_order given) (verdict.Legal complete) report → IsLegalGame rules given complete report)
    → AreGiven (first ∷ second ∷ third ∷ []) texts → IsAnswer texts (verdict.Legal complete) report → Appends old.bytes new.bytes report
    → IsLegalRun rules (first ∷ second ∷ third ∷ []) complete old new
run_of rules IsAnswer first second third [] complete report old new law given is reported = absurd given
run_of rules IsAnswer first second third (a ∷ []) complete report old new law given is reported = absurd given.1
run_of rules IsAnswer first second third (a ∷ b ∷ []) complete report old new law given is reported = absurd given.1.1
run_of rules IsAnswer first second third (a ∷ b ∷ c ∷ []) complete report old new law given is reported =
    record {
      texts = texts_of a b c;
      given = given;
      report = report;
      game = law (texts_of a b c) is;
      reported = reported;
    }
run_of rules IsAnswer first second third (a ∷ b ∷ c ∷ d ∷ texts) complete report old new law given is reported = absurd given.1.1.1

legal_run_by : (rules : Rules) (IsAnswer : List (List ℕ) → Verdict → List ℕ → Type 0) (first second third : Source) (old new : Device) (result : Result Verdict RunFault)
    → ((given : Texts) (complete : Bool) (report : List ℕ) → IsAnswer (in_order given) (verdict.Legal complete) report → IsLegalGame rules given complete report)
    → IsRun (first ∷ second ∷ third ∷ []) IsAnswer old new result
    → IfOk result (λ v. (complete : Bool) → v ≡ verdict.Legal complete → IsLegalRun rules (first ∷ second ∷ third ∷ []) complete old new)
legal_run_by rules IsAnswer first second third old new (Ok v) law run =
    λ complete same.
    let there = run.answered in
    let texts = there.answered.texts in
    run_of rules IsAnswer first second third texts complete there.report old new (λ given. law given complete there.report) there.answered.given
    (subst (λ x. IsAnswer texts x there.report) same there.answered.answer) there.reported
legal_run_by rules IsAnswer first second third old new (Err fault) law run = tt

pub legal_run : LegalMeansLegal → (rules : Rules) (first second third : Source) (old new : Device) (result : Result Verdict RunFault)
    → IsRun (first ∷ second ∷ third ∷ []) (IsDecided rules) old new result
    → IfOk result (λ v. (complete : Bool) → v ≡ verdict.Legal complete → IsLegalRun rules (first ∷ second ∷ third ∷ []) complete old new)
legal_run law rules first second third old new result run =
    legal_run_by rules (IsDecided rules) first second third old new result (λ given complete report. law rules given complete report) run

pub settled_run : SettledLegalMeansLegal → (rules : Rules) (first second third : Source) (old new : Device) (result : Result Verdict RunFault)
    → IsRun (first ∷ second ∷ third ∷ []) (IsSettledBy rules) old new result
    → IfOk result (λ v. (complete : Bool) → v ≡ verdict.Legal complete → IsLegalRun rules (first ∷ second ∷ third ∷ []) complete old new)
settled_run law rules first second third old new result run =
    legal_run_by rules (IsSettledBy rules) first second third old new result (λ given complete report. law rules given complete report) run

-- ---- illegal

legal_never : (rules : Rules) (words : List (List ℕ)) (r : Record) (line : ℕ) (fault : GameFault) (report : List ℕ) → IsLegal rules words r (verdict.Illegal line fault) report → ⊥
legal_never rules words r line fault report legal = let both = legal.reported.verdict_is in cc

refused_no_game : (rules : Rules) (words : List (List ℕ)) (r : Record) (v : Verdict) (report : List ℕ) → IsRefused rules words r v report → IsGame rules words r.events → ⊥
refused_no_game rules words r v report refused game = first_not_allowed rules words r.events refused.line refused.why refused.first game.allowed

no_game : (rules : Rules) (words : List (List ℕ)) (r : Record) (line : ℕ) (fault : GameFault) (report : List ℕ) → IsJudged rules words r (verdict.Illegal line fault) report → IsGame rules words r.events → ⊥
no_game rules words r line fault report is game =
    ⊎_elim
    (λ (legal : IsLegal rules words r (verdict.Illegal line fault) report). legal_never rules words r line fault report legal)
    (λ (rest : IsRefused rules words r (verdict.Illegal line fault) report ⊎ IsPastBound rules words r (verdict.Illegal line fault) report ⊎ RemainsOpen rules words r (verdict.Illegal line fault) report).
    ⊎_elim
    (λ (refused : IsRefused rules words r (verdict.Illegal line fault) report). refused_no_game rules words r (verdict.Illegal line fault) report refused game)
    (λ (others : IsPastBound rules words r (verdict.Illegal line fault) report ⊎ RemainsOpen rules words r (verdict.Illegal line fault) report).
    ⊎_elim
    (λ (past : IsPastBound rules words r (verdict.Illegal line fault) report). past.exceeded.undealt game.racks game.dealt)
    (λ (remaining : RemainsOpen rules words r (verdict.Illegal line fault) report). let both = remaining.reported.verdict_is in cc)
    others)
    rest)
    is

-- the words and the record of a game, if they are given twice
same_game : (IsAnswer : (words : List (List ℕ)) → Record → Verdict → List ℕ → Type 0) (texts : Texts) (v : Verdict) (report : List ℕ) (words : List (List ℕ)) (game : Record) → IsOwn v
    → ReadsGame IsAnswer (in_order texts) v report → list_of texts.words ≡ Ok words → record_of texts.game ≡ Ok game → IsAnswer words game v report
same_game IsAnswer texts v report words game own decided listed recorded =
    let on = on_game IsAnswer texts v report own decided in
    let same_words : on.words ≡ words = same_ok on.words words (list_of texts.words) on.listed listed in
    let same_record : on.game ≡ game = same_ok on.game game (record_of texts.game) on.recorded recorded in
    subst (λ r. IsAnswer words r v report) same_record (subst (λ ws. IsAnswer ws on.game v report) same_words on.answer)

pub illegal_is : IllegalMeansNoGame
illegal_is rules texts line fault report decided words game listed recorded is =
    no_game rules words game line fault report (same_game (IsJudged rules) texts (verdict.Illegal line fault) report words game (illegal_own line fault) decided listed recorded) is

-- the same for a settled verdict

settled_no_game : FrontsDecide → (rules : Rules) (words : List (List ℕ)) (r : Record) (line : ℕ) (fault : GameFault) (report : List ℕ) → IsSettled rules words r (verdict.Illegal line fault) report
    → IsGame rules words r.events → ⊥
settled_no_game fronts rules words r line fault report is game =
    ⊎_elim
    (λ (legal : IsSettledLegal rules words r (verdict.Illegal line fault) report). let both = legal.reported.verdict_is in cc)
    (λ (rest : IsRefused rules words r (verdict.Illegal line fault) report ⊎ IsPastBound rules words r (verdict.Illegal line fault) report ⊎ IsUndealt rules words r (verdict.Illegal line fault) report ⊎ RemainsOpen rules words r (verdict.Illegal line fault) report).
    ⊎_elim
    (λ (refused : IsRefused rules words r (verdict.Illegal line fault) report). refused_no_game rules words r (verdict.Illegal line fault) report refused game)
    (λ (others : IsPastBound rules words r (verdict.Illegal line fault) report ⊎ IsUndealt rules words r (verdict.Illegal line fault) report ⊎ RemainsOpen rules words r (verdict.Illegal line fault) report).
    ⊎_elim
    (λ (past : IsPastBound rules words r (verdict.Illegal line fault) report). past.exceeded.undealt game.racks game.dealt)
    (λ (last : IsUndealt rules words r (verdict.Illegal line fault) report ⊎ RemainsOpen rules words r (verdict.Illegal line fault) report).
    ⊎_elim
    (λ (none : IsUndealt rules words r (verdict.Illegal line fault) report). fronts rules (steps_of rules r.events) (none.ends.place + 1) none.ends.undealt game.racks game.dealt)
    (λ (remaining : RemainsOpen rules words r (verdict.Illegal line fault) report). let both = remaining.reported.verdict_is in cc)
    last)
    others)
    rest)
    is

pub settled_illegal_is : FrontsDecide → SettledIllegalMeansNoGame
settled_illegal_is fronts rules texts line fault report decided words game listed recorded is =
    settled_no_game fronts rules words game line fault report
    (same_game (IsSettled rules) texts (verdict.Illegal line fault) report words game (illegal_own line fault) decided listed recorded) is

-- ---- without an exchange

good_list : (rules : Rules) (texts : Texts) (v : Verdict) (report : List ℕ) (words : List (List ℕ)) (game : Record) → IsDecided rules (in_order texts) v report → list_of texts.words ≡ Ok words
    → IsLexicon words texts.lexicon → record_of texts.game ≡ Ok game → IsJudged rules words game v report
good_list rules texts v report words game decided listed paired recorded =
    let Last : List (List ℕ) → Record → List (List ℕ) → Verdict → List ℕ → Type 0 = λ ws r. ReadsNoMore (IsJudged rules ws r) in
    let by_list : ByLexicon words (ReadsRecord (Last words)) texts.lexicon (texts.game ∷ []) v report
    = subst (λ m. ByMeaning verdict.BadList bad_list_line (λ ws. ReadsLexicon ws (ReadsRecord (Last ws))) m (texts.lexicon ∷ texts.game ∷ []) v report) listed decided in
    let by_pair : ByMeaning verdict.BadRecord bad_record_line (Last words) (record_of texts.game) [] v report
    = ⊎_elim
    (λ (good : IsLexicon words texts.lexicon × ReadsRecord (Last words) (texts.game ∷ []) v report). good.1)
    (λ (reported : IsReportedFile words texts.lexicon v report). absurd (reported.bad.unlike paired))
    by_list in
    subst (λ m. ByMeaning verdict.BadRecord bad_record_line (Last words) m [] v report) recorded by_pair

legal_of : (rules : Rules) (words : List (List ℕ)) (r : Record) (v : Verdict) (report : List ℕ) → HaveNoExchange r.events → IsJudged rules words r v report → IsGame rules words r.events
    → v ≡ verdict.Legal (is_finished rules r.events)
legal_of rules words r v report plain is game =
    ⊎_elim
    (λ (legal : IsLegal rules words r v report). legal.reported.verdict_is)
    (λ (rest : IsRefused rules words r v report ⊎ IsPastBound rules words r v report ⊎ RemainsOpen rules words r v report).
    ⊎_elim
    (λ (refused : IsRefused rules words r v report). absurd (refused_no_game rules words r v report refused game))
    (λ (others : IsPastBound rules words r v report ⊎ RemainsOpen rules words r v report).
    ⊎_elim
    (λ (past : IsPastBound rules words r v report). absurd (past.exceeded.undealt game.racks game.dealt))
    (λ (remaining : RemainsOpen rules words r v report). absurd (remaining.unsettled.exchanged plain))
    others)
    rest)
    is

pub plain_is : PlainGamesAreDecided
plain_is rules texts v report decided words game listed paired recorded plain =
    let judged = good_list rules texts v report words game decided listed paired recorded in (
      λ same. game_of rules words game (verdict.Legal (is_finished rules game.events)) report
          (legal_answer rules words game (is_finished rules game.events) report (subst (λ x. IsJudged rules words game x report) same judged)),
      λ is. legal_of rules words game v report plain judged is,
    )
