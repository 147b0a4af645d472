use Rattle.std.proofs.Common.{◌∙◌, ap, arith, subst, sym, refl}
use Rattle.rss_model.specs.Legal.{table_at, MeetsTable}
use Rattle.std.proofs.lemmas.Bool.{false≢true}
use Rattle.std.proofs.lemmas.Option.{slice_get_within}
use Rattle.plain_model.specs.Written.{table_of}
use Rattle.plain_model.proofs.LegalTurns.{stands_at, met_here, met_there, met_more, made_more}
use Rattle.plain_model.proofs.legality.is_legal.Goals as goal

pub loop-call-init : goal.loop-call-init
unfolding table_at
loop-call-init c = record {
  met = λ call i l s. absurd (omega (arith, l));
  made = λ key. ap (λ w. table_of w key) c.new-written.ensures.items;
}

pub returns-then-not-branch : goal.returns-then-not-branch
returns-then-not-branch c =
    let n = c.loop-call.call-index in
    let call = c.call-item.result in (
      λ t. absurd (false≢true t),
      λ legal.
          sym c.if-not-branch.true ∙
          c.in_ok-meets.ensures.1
          (subst (λ w. MeetsTable c.args.h.now (table_of w) call) (sym c.deref.ensures.value)
          (met_there c.args.h.now c.args.c.now n call c.loop-call.written.items
          c.loop-call.invariant.made
          (legal call n (stands_at c.args.c.now n call c.loop-call-test.true c.call-item.is)))),
    )

pub loop-call-preserved : goal.loop-call-preserved
loop-call-preserved c =
    let n = c.loop-call.call-index in
    let call = c.call-item.result in
    let inside = c.loop-call-test.true in
    let is = c.call-item.is in
    let made = c.loop-call.invariant.made in
    record {
      met =
          met_more c.args.h.now c.args.c.now n call is c.loop-call.invariant.met
          (met_here c.args.h.now c.args.c.now n call c.loop-call.written.items made
          (subst (λ w. MeetsTable c.args.h.now (table_of w) call) c.deref.ensures.value
          (c.in_ok-meets.ensures.0 c.if-not-branch.false)));
      made =
          made_more c.args.h.now c.args.c.now n call c.loop-call.written.items
          c.apply.new.written.items inside is made c.in_ok-apply.ensures;
    }

pub returns : goal.returns
returns c =
    (λ t call i s. c.loop-call.invariant.met call i (omega (arith, slice_get_within c.args.c.now i call s)) s, λ legal. refl)
