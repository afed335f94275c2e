use Rattle.std.proofs.Common.{subst}
use Rattle.explain_answers.specs.Judging.{IsJudgedAt}
use Rattle.explain_facts.proofs.Beginnings.{each_ok}
use Rattle.explain_answers.proofs.Ruling.{of_allowed, of_refused, of_later}
use Rattle.explain_answers.proofs.Bounding.{any_ok, none_due, one_refused, one_before}
use Rattle.explain_answers.proofs.sheets.facts_at.Goals as goal

pub allowed_facts-requires-clause-state : goal.allowed_facts-requires-clause-state
allowed_facts-requires-clause-state c =
    let sheet = c.args.sheet.now in
    let arm = c.in-Some-Allowed in
    let events = sheet.record.now.events in
    (subst (IsJudgedAt sheet.rules.now sheet.list.now events c.args.place) arm.field-0-is (arm.ensures sheet.rules.now sheet.list.now events c.requires.walk c.requires.within)).0

pub allowed_facts-requires-clause-allowed : goal.allowed_facts-requires-clause-allowed
allowed_facts-requires-clause-allowed c =
    let sheet = c.args.sheet.now in
    let arm = c.in-Some-Allowed in
    let events = sheet.record.now.events in
    (subst (IsJudgedAt sheet.rules.now sheet.list.now events c.args.place) arm.field-0-is (arm.ensures sheet.rules.now sheet.list.now events c.requires.walk c.requires.within)).1

pub refused_facts-requires-clause-state : goal.refused_facts-requires-clause-state
refused_facts-requires-clause-state c =
    let sheet = c.args.sheet.now in
    let arm = c.in-Some-Refused in
    let events = sheet.record.now.events in
    (subst (IsJudgedAt sheet.rules.now sheet.list.now events c.args.place) arm.field-0-is (arm.ensures sheet.rules.now sheet.list.now events c.requires.walk c.requires.within)).0

pub refused_facts-requires-clause-fails : goal.refused_facts-requires-clause-fails
refused_facts-requires-clause-fails c =
    let sheet = c.args.sheet.now in
    let arm = c.in-Some-Refused in
    let events = sheet.record.now.events in
    (subst (IsJudgedAt sheet.rules.now sheet.list.now events c.args.place) arm.field-0-is (arm.ensures sheet.rules.now sheet.list.now events c.requires.walk c.requires.within)).1

pub refused_facts-requires-clause-allowed : goal.refused_facts-requires-clause-allowed
refused_facts-requires-clause-allowed c =
    let sheet = c.args.sheet.now in
    let arm = c.in-Some-Refused in
    let events = sheet.record.now.events in
    (subst (IsJudgedAt sheet.rules.now sheet.list.now events c.args.place) arm.field-0-is (arm.ensures sheet.rules.now sheet.list.now events c.requires.walk c.requires.within)).2

pub unjudged_facts-requires : goal.unjudged_facts-requires
unjudged_facts-requires c =
    let sheet = c.args.sheet.now in
    let arm = c.in-Some-After in
    let events = sheet.record.now.events in
    subst (IsJudgedAt sheet.rules.now sheet.list.now events c.args.place) arm.field-0-is (arm.ensures sheet.rules.now sheet.list.now events c.requires.walk c.requires.within)

pub returns-in-Some-Allowed-clause-ruling : goal.returns-in-Some-Allowed-clause-ruling
returns-in-Some-Allowed-clause-ruling c =
    let sheet = c.args.sheet.now in
    let arm = c.in-Some-Allowed in
    let events = sheet.record.now.events in
    let how = subst (IsJudgedAt sheet.rules.now sheet.list.now events c.args.place) arm.field-0-is (arm.ensures sheet.rules.now sheet.list.now events c.requires.walk c.requires.within) in
    each_ok _ _ c.allowed_facts.result (λ facts some. of_allowed sheet.rules.now sheet.list.now events c.args.place facts.items how.1 some) c.allowed_facts.ensures.some

pub returns-in-Some-Refused-clause-ruling : goal.returns-in-Some-Refused-clause-ruling
returns-in-Some-Refused-clause-ruling c =
    let sheet = c.args.sheet.now in
    let arm = c.in-Some-Refused in
    let events = sheet.record.now.events in
    let how = subst (IsJudgedAt sheet.rules.now sheet.list.now events c.args.place) arm.field-0-is (arm.ensures sheet.rules.now sheet.list.now events c.requires.walk c.requires.within) in
    each_ok _ _ c.refused_facts.result (λ facts first. of_refused sheet.rules.now sheet.list.now events c.args.place _ facts.items how.2 how.1 first) c.refused_facts.ensures.first

pub returns-in-Some-After-clause-ruling : goal.returns-in-Some-After-clause-ruling
returns-in-Some-After-clause-ruling c =
    let sheet = c.args.sheet.now in
    let arm = c.in-Some-After in
    let events = sheet.record.now.events in
    let how = subst (IsJudgedAt sheet.rules.now sheet.list.now events c.args.place) arm.field-0-is (arm.ensures sheet.rules.now sheet.list.now events c.requires.walk c.requires.within) in
    each_ok _ _ c.unjudged_facts.result (λ facts are. of_later sheet.rules.now sheet.list.now events c.args.place _ how.0 facts.items how.1 are) c.unjudged_facts.ensures.are

pub returns-in-None : goal.returns-in-None
returns-in-None c = absurd (c.in-None.ensures c.args.sheet.now.rules.now c.args.sheet.now.list.now c.args.sheet.now.record.now.events c.requires.walk c.requires.within)

pub returns-in-Some-Refused-clause-racks : goal.returns-in-Some-Refused-clause-racks
returns-in-Some-Refused-clause-racks c =
    let sheet = c.args.sheet.now in
    let arm = c.in-Some-Refused in
    let events = sheet.record.now.events in
    let how = subst (IsJudgedAt sheet.rules.now sheet.list.now events c.args.place) arm.field-0-is (arm.ensures sheet.rules.now sheet.list.now events c.requires.walk c.requires.within) in
    any_ok _ c.refused_facts.result (λ facts. none_due sheet.rules.now sheet.list.now events c.args.place _ facts.items
    (one_refused sheet.rules.now sheet.list.now events c.args.place _ c.requires.within how.1))

pub returns-in-Some-After-clause-racks : goal.returns-in-Some-After-clause-racks
returns-in-Some-After-clause-racks c =
    let sheet = c.args.sheet.now in
    let arm = c.in-Some-After in
    let events = sheet.record.now.events in
    let how = subst (IsJudgedAt sheet.rules.now sheet.list.now events c.args.place) arm.field-0-is (arm.ensures sheet.rules.now sheet.list.now events c.requires.walk c.requires.within) in
    any_ok _ c.unjudged_facts.result (λ facts. none_due sheet.rules.now sheet.list.now events c.args.place _ facts.items
    (one_before sheet.rules.now sheet.list.now events c.args.place _ how.0 c.requires.within how.1))
