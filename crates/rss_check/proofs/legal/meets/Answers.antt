use Rattle.std.proofs.Common.{◌∙◌, sym, arith, Some, None, ap}
use Rattle.std.proofs.lemmas.Slice.Eq.{slice_eq-Decides}
use Rattle.rss_model.specs.Operation.{values_of, guard_holds}
use Rattle.plain_model.specs.Found.{found_reply}
use Rattle.plain_model.proofs.FoundLemmas.{meets_by}
use Rattle.plain_model.proofs.Turns.{shown-Decides}
use Rattle.rss_check.specs.Table.{table_in}
use Rattle.rss_check.proofs.legal.meets.Goals as goal

pub returns-in-Some-reply_of : goal.returns-in-Some-reply_of
returns-in-Some-reply_of c =
    let both =
    meets_by c.args.h.now (table_in c.args.table.now) c.args.call
    (Some c.in-Some.op.now) (Some c.in-Some-reply_of.reply.now)
    (sym c.in-Some.ensures) (sym c.in-Some-reply_of.ensures) in
    let same = slice_eq-Decides shown-Decides _ _ _ c.eq.ensures in
    let shown = c.as_slice-in-Some-reply_of.ensures.value ∙ c.in_ok-shown-in-Some.ensures in (
      λ t. both.0 (sym c.as_slice.ensures ∙ same.0 t ∙ shown),
      λ m. same.1 (c.as_slice.ensures ∙ both.1 m ∙ sym shown),
    )

pub returns-in-Some : goal.returns-in-Some
returns-in-Some c =
    let both =
    meets_by c.args.h.now (table_in c.args.table.now) c.args.call
    (Some c.in-Some.op.now) None (sym c.in-Some.ensures) (sym c.in-None-reply_of.ensures) in
    let holds =
    c.guard_holds.ensures ∙
    ap (λ shown. guard_holds c.in-Some.op.now (values_of shown))
    (c.deref.ensures.value ∙ c.in_ok-shown-in-Some.ensures) in
    (λ t. both.0 (sym holds ∙ t), λ m. holds ∙ both.1 m)

pub returns : goal.returns
returns c =
    let both =
    meets_by c.args.h.now (table_in c.args.table.now) c.args.call
    None (found_reply c.args.h.now c.args.call) (sym c.in-None.ensures) (λ i. found_reply c.args.h.now c.args.call) in
    (λ t. absurd (grind (arith, t)), λ m. absurd (both.1 m))
