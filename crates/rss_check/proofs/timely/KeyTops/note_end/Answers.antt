use Rattle.std.proofs.Common.{◌≡◌, ◌∙◌, sym, ap, subst, OnOk}
use Rattle.rss_names.specs.declared.service.Key.{Key}
use Rattle.plain_model.proofs.Turns.{not_begun}
use Rattle.rss_check.specs.Places.{kept}
use Rattle.rss_check.specs.Table.{number_of_key}
use Rattle.rss_check.specs.Bad.{Latest}
use Rattle.rss_check.specs.Passes.{kept_of_key, latest_of}
use Rattle.rss_check.proofs.Ended.{ended_mutation, ended_other}
use Rattle.rss_check.proofs.timely.KeyTops.note_end.Goals as goal

pub returns-then-not-is_mutation : goal.returns-then-not-is_mutation
returns-then-not-is_mutation c =
    let same = ended_other c.args.h.now (kept c.args.places.now) (latest_of c.args.self.now) c.args.call (sym c.is_mutation.ensures ∙ c.if-not-is_mutation.true) in
    record {
      any = ap (λ (x : Latest). x.any) same;
      keys = λ key. ap (λ (x : Latest). x.written key) same;
    }

pub returns-in-Some : goal.returns-in-Some
returns-in-Some c =
    let same =
    ended_mutation c.args.h.now (kept c.args.places.now) (latest_of c.args.self.now) c.args.call c.in-Some.op.now c.place_of.result
    (sym c.is_mutation.ensures ∙ c.if-not-is_mutation.false) c.in-Some.ensures c.place_of.ensures in
    record {
      any = subst (λ (x : Latest). OnOk c.note_mutation.result (c.note_mutation.new.self.any ≡ x.any)) same c.note_mutation.ensures.any;
      keys = subst (λ (x : Latest). OnOk c.note_mutation.result ((key : Key) → kept_of_key c.note_mutation.new.self.keys (number_of_key key) ≡ x.written key)) same c.note_mutation.ensures.keys;
    }

pub returns-in-None : goal.returns-in-None
returns-in-None c =
    let same = ended_other c.args.h.now (kept c.args.places.now) (latest_of c.args.self.now) c.args.call (not_begun c.args.h.now c.args.call (sym c.in-None.ensures)) in
    record {
      any = ap (λ (x : Latest). x.any) same;
      keys = λ key. ap (λ (x : Latest). x.written key) same;
    }
