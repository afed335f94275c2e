-- What is found of records that are read as drafts.
use Rattle.std.proofs.Common.{◌≡◌, ℕ, zero, suc, Bool, true, false, ◌&&◌, ◌||◌, List, [], ◌∷◌, map, slice_get, Option, Some, None, Ok, refl, sym, ap, subst, ◌∙◌}
use Rattle.std.specs.Prelude.{is_some}
use Rattle.std.specs.List.{filter}
use Rattle.gcg_read.specs.declared.events.Event.{Event}
use Rattle.gcg_read.specs.declared.records.Record.{Record}
use Rattle.gcg_read.specs.Records.{record_of}
use Rattle.game_board.specs.Places.{place_of_line}
use Rattle.explain_facts.specs.declared.facts.Fact.{Fact}
use Rattle.explain_facts.specs.declared.facts.Fact.TheVariants as fact
use Rattle.explain_answers.specs.declared.events.Explanation.{Explanation}
use Rattle.gcg_drafts.specs.declared.missing.Missing.{Missing}
use Rattle.gcg_drafts.specs.declared.missing.Missing.TheVariants as missing
use Rattle.gcg_drafts.proofs.Own.{own_draft}
use Rattle.draft_answers.specs.Filling.{said, has_missing, sheet_of}
use Rattle.compare_alignments.specs.declared.lacking.Lacks.{Lacks}
use Rattle.reply_answers.specs.declared.compared.BadSheet.{BadSheet}
use Rattle.reply_answers.specs.declared.compared.BadSheet.TheVariants as bad
use Rattle.reply_answers.specs.declared.compared.SheetsFound.TheVariants as sheets
use Rattle.reply_answers.specs.Compared.{HasEvents, IsDraftRead, IsBadSheet, IsBadDraft, AreLacks}
use Rattle.reply_answers.specs.DraftFacts.{is_reported, lack_at, lack_of, IsExplanationWithout}
use Rattle.reply_answers.specs.Explained.{IsExplainedCase}
use Rattle.reply_answers.specs.Given.{read_of}
use Rattle.reply_answers.specs.OnDrafts.{events_of, unless}
use Rattle.reply_answers.specs.WholeDrafts.{IsSameOf, ExplainedAsRecord, ComparedAsRecords}

-- what the lines of a record lack
abbrev nothing_on : List Event → List Missing
nothing_on events = map (λ (e : Event). missing.Nothing) events

none_missing : (events : List Event) → has_missing (nothing_on events) ≡ false
none_missing [] = refl
none_missing (e ∷ events) = none_missing events

-- ---- explanations

every_fact : (f : Fact) → is_reported false missing.Nothing f ≡ true
every_fact (fact.Game f) = refl
every_fact (fact.Ruling f) = refl
every_fact (fact.Turn f) = refl
every_fact (fact.Order f) = refl
every_fact (fact.Play f) = refl
every_fact (fact.Score f) = refl
every_fact (fact.Reading f) = refl
every_fact (fact.Total f) = refl
every_fact (fact.Challenge f) = refl
every_fact (fact.Tile f) = refl
every_fact (fact.Rack f) = refl
every_fact (fact.Deal f) = refl

all_facts : (facts : List Fact) → filter (is_reported false missing.Nothing) facts ≡ facts
all_facts [] = refl
all_facts (f ∷ facts) = rw (every_fact f) (ap (λ (rest : List Fact). f ∷ rest) (all_facts facts))

nothing_said : (events : List Event) (place : ℕ) → said (slice_get (nothing_on events) place) ≡ missing.Nothing
nothing_said [] zero = refl
nothing_said [] (suc place) = refl
nothing_said (e ∷ events) zero = refl
nothing_said (e ∷ events) (suc place) = nothing_said events place

nothing_at : (events : List Event) (place : Option ℕ) → lack_at (nothing_on events) place ≡ missing.Nothing
nothing_at events None = refl
nothing_at events (Some place) = nothing_said events place

nothing_of : (events others : List Event) (line : Option ℕ) → lack_of (nothing_on events) others line ≡ missing.Nothing
nothing_of events others None = refl
nothing_of events others (Some line) = nothing_at events (place_of_line others line)

all_reported : (lacks : List Missing) (events others : List Event) (found reported : Option Explanation) → lacks ≡ nothing_on events → IsExplanationWithout false lacks others found reported → IsSameOf found reported
all_reported lacks events others None None whole is = tt
all_reported lacks events others None (Some reported) whole is = absurd is
all_reported lacks events others (Some found) None whole is = absurd is
all_reported lacks events others (Some found) (Some reported) whole is =
    let here : lack_of lacks others found.line ≡ missing.Nothing = ap (λ (ls : List Missing). lack_of ls others found.line) whole ∙ nothing_of events others found.line in
    record {
      line = is.line;
      picture = is.picture;
      facts = is.facts ∙ ap (λ (m : Missing). filter (is_reported false m) found.facts.items) here ∙ all_facts found.facts.items;
    }

and_false : (b : Bool) → (b && false) ≡ false
and_false true = refl
and_false false = refl

pub explained_as_record : ExplainedAsRecord
unfolding sheet_of
explained_as_record rules list game r line likely lead reported means is =
    let s = is.0 in
    let found = is.1 in
    let t = is.4 in
    let own = own_draft game r means in
    let d = is.2.drafted in
    let whole : s.lacks.items ≡ nothing_on r.events = d.missing ∙ own.whole in
    let none : has_missing s.lacks.items ≡ false = ap has_missing whole ∙ none_missing r.events in
    let same : s.text.items ≡ game = d.is ∙ rw none own.same in
    let same_facts = subst (λ (b : Bool). IsExplanationWithout b s.lacks.items (events_of found.case.read) found.explanation reported.explanation) none t.explanation in
    record {
      found = found;
      is = subst (λ (bytes : List ℕ). IsExplainedCase rules list (read_of bytes) line false lead found) same is.3;
      all =
          record {
            read = t.read;
            line = t.line;
            explanation = all_reported s.lacks.items r.events (events_of found.case.read) found.explanation reported.explanation whole same_facts;
            likely = t.likely;
            amount = t.amount;
            wrong = t.wrong ∙ ap (λ (b : Bool). unless (is_some s.stopped && b) found.wrong) none ∙ ap (λ (b : Bool). unless b found.wrong) (and_false (is_some s.stopped));
            unread = t.unread;
          };
    }

-- ---- comparisons

as_record : (text : List ℕ) (one r : Record) (lacks : List Missing) → record_of text ≡ Ok one → IsDraftRead text r lacks → HasEvents text r
as_record text one r lacks means is =
    let own = own_draft text one means in
    record {
      means = subst (λ (g : Record). record_of text ≡ Ok g) (sym is.game) (ap record_of (sym own.same) ∙ is.is.means);
      events = λ none. is.events (ap (λ (g : Record). g.events) (sym is.game) ∙ none);
    }

none_lacking : (text : List ℕ) (one r : Record) (lacks : List Missing) → record_of text ≡ Ok one → IsDraftRead text r lacks → has_missing lacks ≡ false
none_lacking text one r lacks means is =
    let own = own_draft text one means in
    ap has_missing (is.lacking ∙ is.is.missing ∙ own.whole) ∙ none_missing one.events

no_lacks : (first second : List Missing) (lacks : Option Lacks) → has_missing first ≡ false → has_missing second ≡ false → AreLacks first second lacks → AreLacks [] [] lacks
no_lacks first second None none none_either are = refl
no_lacks first second (Some lacks) none none_either are =
    let neither : (has_missing first || has_missing second) ≡ false = ap (λ (b : Bool). b || has_missing second) none ∙ none_either in
    let clash : false ≡ true = sym neither ∙ are.0 in
    cc

as_bad_record : (text : List ℕ) (one : Record) (why : BadSheet) → record_of text ≡ Ok one → IsBadDraft text why → IsBadSheet text why
as_bad_record text one (bad.NoRecord fault) means is = absurd is
as_bad_record text one (bad.NoDraft fault) means is =
    let own = own_draft text one means in
    let clash = sym means ∙ ap record_of (sym own.same) ∙ is.fails in
    cc
as_bad_record text one (bad.NoEvent lines) means is =
    let own = own_draft text one means in
    let d = is.0.draft in
    (record { written = d.record; means = ap record_of (sym own.same) ∙ is.0.is.means; none = is.0.none }, is.1)

pub compared_as_records : ComparedAsRecords
compared_as_records rules list first second one other merged (sheets.Both both) means also is =
    let c = is.0 in
    let lacking = no_lacks c.of_one c.of_other c.lacks (none_lacking first one c.one c.of_one means c.is_one) (none_lacking second other c.other c.of_other also c.is_other) c.are in (
      record {
        one = c.one;
        other = c.other;
        of_one = [];
        of_other = [];
        is_one = (as_record first one c.one c.of_one means c.is_one, refl);
        is_other = (as_record second other c.other c.of_other also c.is_other, refl);
        lacks = c.lacks;
        are = lacking;
        answer = c.answer;
      },
      is.1,
      is.2,
    )
compared_as_records rules list first second one other merged (sheets.FirstBad why) means also is = as_bad_record first one why means is
compared_as_records rules list first second one other merged (sheets.SecondBad why) means also is =
    (is.0, [], (as_record first one is.0 is.1 means is.2, refl), as_bad_record second other why also is.3)
