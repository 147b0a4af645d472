use Rattle.std.proofs.Common.{◌≡◌, ◌+◌, ◌<◌, ◌++◌, ap, sym, ◌∙◌, arith, length, vec_len, vec_capacity, List, None, true}
use Rattle.causal_context.specs.Seen.{Seen}
use Rattle.rss_names.specs.declared.service.ServiceId.{ServiceId}
use Rattle.rss_tables.specs.Works.{Works, plan_all}
use Rattle.rss_tables.specs.declared.fences.FenceWork.{FenceWork}
use Rattle.rss_machine.specs.declared.session.Session.TheVariants.{Idle}
use Rattle.session_stub.specs.Picked.{fences_from}
use Rattle.turn_laws.specs.Turns.{planning}
use Rattle.owner_turns.specs.Whole.{OwnerView, owner_of}
use Rattle.owner_turns.proofs.Stubbed.{all_planned, few_planned, planning_is, on_ok}
use Rattle.owner_turns.proofs.owner.Owner.plan_fences.Goals as goal

pub plan-requires : goal.plan-requires
plan-requires c =
    let added = on_ok c.add_fences.result (c.add_fences.new.fences.items ≡ c.args.out.now.fences.items ++ fences_from c.copy.result.now.seen None 0 16) (vec_capacity c.args.out.now.fences < vec_len c.args.out.now.fences + 16) c.add_fences.ensures.added c.add_fences.ensures.full (λ q. absurd (omega (arith, q, c.requires.boxed))) in
    let few = few_planned c.copy.result.now.seen c.add_fences.new.fences.items c.args.out.now.fences.items c.requires.none added in
    let same = ap (λ (l : List (ServiceId × FenceWork)). length l) c.as_slice.ensures.value in
    let room = ap (λ (v : OwnerView). v.fences) c.self.view_is in
    record { room = omega (arith, few, same, room, c.requires.fences) }

pub returns-clause-after : goal.returns-clause-after
returns-clause-after c =
    let added = on_ok c.add_fences.result (c.add_fences.new.fences.items ≡ c.args.out.now.fences.items ++ fences_from c.copy.result.now.seen None 0 16) (vec_capacity c.args.out.now.fences < vec_len c.args.out.now.fences + 16) c.add_fences.ensures.added c.add_fences.ensures.full (λ q. absurd (omega (arith, q, c.requires.boxed))) in
    let all = all_planned c.copy.result.now.seen c.add_fences.new.fences.items c.args.out.now.fences.items c.add_fences.ensures.services c.requires.none added in
    ap (λ (w : Works). owner_of c.self.inside.stage c.self.inside.kind c.self.inside.fate true w Idle c.self.inside.currents c.self.inside.losses c.self.inside.dates c.self.inside.stored) (c.plan.ensures.planned ∙ planning_is c.self.inside.works.works.copy c.as_slice.result.now (c.as_slice.ensures.value ∙ all ∙ ap (λ (s : Seen). (plan_all s).fences) c.copy.ensures))
    ∙ ap (λ (v : OwnerView). planning v.row) c.self.view_is

pub returns-clause-fences : goal.returns-clause-fences
returns-clause-fences c =
    let added = on_ok c.add_fences.result (c.add_fences.new.fences.items ≡ c.args.out.now.fences.items ++ fences_from c.copy.result.now.seen None 0 16) (vec_capacity c.args.out.now.fences < vec_len c.args.out.now.fences + 16) c.add_fences.ensures.added c.add_fences.ensures.full (λ q. absurd (omega (arith, q, c.requires.boxed))) in
    all_planned c.copy.result.now.seen c.add_fences.new.fences.items c.args.out.now.fences.items c.add_fences.ensures.services c.requires.none added
    ∙ ap (λ (s : Seen). (plan_all s).fences) (c.copy.ensures ∙ ap (λ (v : OwnerView). v.row.works.copy) c.self.view_is)
