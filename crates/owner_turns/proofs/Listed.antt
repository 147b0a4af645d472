-- Lists for the requests of a round.
use Rattle.std.proofs.Common.{◌≡◌, ℕ, ◌<◌, ◌≤◌, false, List, length, refl, sym, ap, subst, arith}
use Rattle.causal_context.specs.Deps.{deps_of}
use Rattle.causal_context.specs.declared.dep.Dep.{Dep}
use Rattle.gryff_quorum.specs.Spare.{DepListsView, HasLists, is_fix}
use Rattle.pipeline_lang.specs.Config.{replicas_of}
use Rattle.pipeline_lang.specs.declared.config.Config.{Config}
use Rattle.rss_names.specs.declared.service.ServiceId.{ServiceId}
use Rattle.rss_tables.specs.declared.register_session.RegWork.{RegWork}
use Rattle.rss_tables.specs.declared.register_session.RegWork.TheVariants as work
use Rattle.owner_sessions.specs.Boxed.{HasBoxRoom}
use Rattle.owner_sessions.specs.declared.outbox.Outbox.{Outbox}
use Rattle.owner_turns.specs.Whole.{FewReplicas}
use Rattle.owner_turns.proofs.Chosen.{fewer_of}

pub few_of : (c : Config) (id : ServiceId) → FewReplicas c → replicas_of c id ≤ 7
few_of c id h = h.few id

pub lists_plain : (lists : DepListsView) (w : RegWork) → is_fix w ≡ false → HasLists lists w
lists_plain lists (work.Fix deps) e = cc
lists_plain lists (work.Read key) e = tt
lists_plain lists (work.Write key value) e = tt

pub lists_fix : (o : Outbox) (id : ServiceId) (deps all : List Dep) (w : RegWork) → HasBoxRoom o (length all) → deps ≡ deps_of id all → w ≡ work.Fix deps → HasLists o.lists w
lists_fix o id deps all w h d e =
    let f = fewer_of id all in
    let n : length deps ≡ length (deps_of id all) = ap (λ (l : List Dep). length l) d in
    subst (HasLists o.lists) (sym e) (h.lists, omega (arith, f, n, h.width))

pub ruleset fixes = (lists_fix, fewer_of)
