use Rattle.std.proofs.Common.{◌≡◌, true, refl, subst}
use Rattle.gcg_drafts.specs.Drafts.{IsDraft}
use Rattle.draft_answers.specs.Filled.{IsDraftIn}
use Rattle.reply_answers.proofs.compared.draft_on.Goals as goal

pub returns-then-is_empty : goal.returns-then-is_empty
returns-then-is_empty c =
    let is : IsDraft c.args.text.now c.in-Ok.draft = subst (IsDraftIn c.args.text.now) c.in-Ok.is c.in_ok-draft.ensures in
    (record { draft = c.in-Ok.draft; is = is; none = c.is_empty.ensures.0 c.if-is_empty.true }, c.in_ok-unread_lines-in-Ok.ensures)

pub returns-else-is_empty : goal.returns-else-is_empty
returns-else-is_empty c =
    let is : IsDraft c.args.text.now c.in-Ok.draft = subst (IsDraftIn c.args.text.now) c.in-Ok.is c.in_ok-draft.ensures in
    record {
      draft = c.in-Ok.draft;
      is = is;
      events = λ none.
          let no = c.if-is_empty.false in
          let clash : c.is_empty.result ≡ true = c.is_empty.ensures.1 none in
          cc;
      game = refl;
      lacking = refl;
    }
