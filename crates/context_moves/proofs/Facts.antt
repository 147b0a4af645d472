-- When a fence ends, each call of its service has come: the time has passed, or a majority holds what is depended on.
use Rattle.std.proofs.Common.{◌≡◌, ℕ, ◌<◌, ◌≤◌, Bool, true, false, All, sym, ap, ◌∙◌, subst, arith}
use Rattle.std.specs.Prelude.{◌&&◌, ◌==◌, nat_le}
use Rattle.std.proofs.lemmas.Bool.Decides.{nat_tests}
use Rattle.std.proofs.lemmas.List.Elements.{All-weaker}
use Rattle.truetime.specs.Reading.{Reading}
use Rattle.rss_names.specs.declared.service.Key.{Key}
use Rattle.rss_names.specs.declared.service.ServiceId.{ServiceId}
use Rattle.rss_names.specs.declared.service.ServiceId.TheVariants.{Txn, Reg}
use Rattle.carstamps.specs.declared.carstamp.Carstamp.{Carstamp}
use Rattle.carstamps.specs.Stamp.{stamp_le}
use Rattle.causal_context.specs.declared.dep.Dep.{Dep}
use Rattle.causal_context.specs.Deps.{deps_of}
use Rattle.causal_context.specs.Seen.{Seen}
use Rattle.pipeline_lang.specs.declared.config.Config.{Config}
use Rattle.rss_tables.specs.declared.fences.FenceWork.{FenceWork}
use Rattle.rss_tables.specs.declared.fences.FenceWork.TheVariants.{Nothing, Past, Fix}
use Rattle.rss_machine.specs.Marks.{is_held}
use Rattle.rss_machine.specs.Places.{effect_step, is_read_work}
use Rattle.rss_machine.specs.Session.{Session}
use Rattle.rss_machine.specs.declared.session.Session.TheVariants as session
use Rattle.rss_machine.specs.State.{State, owner_at, replicas_at}
use Rattle.rss_machine.specs.Times.{marked_step}
use Rattle.shard_event_laws.specs.Known.{moment_at}
use Rattle.world_laws.specs.Planned.{FitsContext}
use Rattle.world_laws.specs.Registers.{IsRegister}
use Rattle.world_laws.proofs.Holders.{held_less}
use Rattle.world_laws.proofs.PlannedOwners.{AllPlanned}
use Rattle.world_laws.proofs.Told.{Told}
use Rattle.reg_laws.specs.Agree.{AllAgree}
use Rattle.world_laws.specs.InOrder.{IsInOrder}
use Rattle.reg_laws.proofs.Rounds.{Settled}
use Rattle.reg_laws.proofs.RoundsHeld.{DepHeld}
use Rattle.fence_laws.specs.Laws.{TimesFit}
use Rattle.world_laws.proofs.Waits.{AllWait}
use Rattle.coupling_laws.specs.Calls.{View, IsView}
use Rattle.coupling_laws.specs.Covers.{Covers, holds_call}
use Rattle.coupling_laws.proofs.Settles.{past_settles, fix_settles, nothing_settles}
use Rattle.context_moves.specs.Views.{view_of, told_time, told_key, told_stamp, told_step, work_key, step_of}
use Rattle.world_laws.specs.Served.{CallsServed}
use Rattle.context_moves.proofs.Ended.{Was, timed, stamped, was_ended, is_view}
use Rattle.context_moves.proofs.Tables.{both_of}

-- what is known of a state within a step, with its reading: of calls, of the steps of times, and that what a majority
-- holds it held before this step
pub record Facts (c : Config) (n : IsInOrder c) (at : Reading) (s : State) : Type 0 where
  pub told : Told s
  pub settled : Settled c n s
  pub agree : AllAgree s
  pub waits : AllWait s
  pub planned : AllPlanned s
  pub served : CallsServed c s
  pub times : TimesFit s
  pub earliest : at.earliest ≤ s.moment
  pub latest : s.moment ≤ at.latest
  pub early : (key : Key) (z : Carstamp) → IsRegister c key → is_held (replicas_at s key.service) key z ≡ true → marked_step s key z < s.steps

txn_not_reg : (m n : ℕ) → Txn m ≡ Reg n → ⊥
txn_not_reg m n e = cc

module _ (c : Config) (n : IsInOrder c) (at : Reading) (s : State) (h : Facts c n at s) where
  abbrev v : View
  v = view_of c s

  was : (a : ℕ) → v.ended a ≡ true → Was c s a
  was a e = was_ended c s a h.told h.agree h.served e

  pub view_is : IsView v
  view_is = is_view c s h.times.moments.rise h.told h.agree h.served

  made : (i : ℕ) → i ≤ s.steps → nat_le i s.steps ≡ true
  made i l = grind (arith, nat_tests, l)

  -- a time that has passed
  pub come_by_time : (m time : ℕ) → time < s.moment → (a : ℕ) → v.ended a ≡ true → (v.call a).service ≡ Txn m → (v.call a).time ≤ time → v.come a ≡ true
  come_by_time m time l a e f g = by_was (was a e)
    where
      by_was : Was c s a → v.come a ≡ true
      by_was (timed k i j) =
          let now = h.times.moments.now in
          made (step_of s a) (subst (λ (x : ℕ). x ≤ s.steps) (sym j) (h.times.by (told_time (owner_at s a).session) s.steps (omega arith) (omega (arith, now, l, g))))
      by_was (stamped r key x y i j) = absurd (txn_not_reg m j.number (sym f ∙ (i ∙ j.is)))

  -- a stamp that a majority holds
  keyed : (id : ServiceId) (a b : Key) (z : Carstamp) → a.index ≡ b.index → is_held (replicas_at s id) a z ≡ true → is_held (replicas_at s id) b z ≡ true
  keyed id a b z e g = subst (λ (i : ℕ). is_held (replicas_at s id) (record { service = b.service; index = i }) z ≡ true) e g

  effect_early : (b : Bool) (i j k : ℕ) → i ≤ k → j ≤ k → effect_step b i j ≤ k
  effect_early true i j k l m = grind (arith, l, m)
  effect_early false i j k l m = l

  pub come_by_stamp : (m : ℕ) (d : Dep) → DepHeld s (Reg m) d → (a : ℕ) → v.ended a ≡ true → (v.call a).service ≡ Reg m → holds_call (v.call a) d ≡ true → v.come a ≡ true
  come_by_stamp m d k a e f g = by_was (was a e)
    where
      both : ((d.key.index == (told_key (owner_at s a).session).index) ≡ true) × (stamp_le (told_stamp (owner_at s a).session) d.stamp ≡ true)
      both = both_of (d.key.index == (told_key (owner_at s a).session).index) _ g

      by_was : Was c s a → v.come a ≡ true
      by_was (timed i j x) = absurd (txn_not_reg i m (sym j ∙ f))
      by_was (stamped r key x y i j) = made (step_of s a) (subst (λ (w : Session). told_step s (owner_at s a) w ≤ s.steps) (sym x) (effect_early (is_read_work r.work) _ (owner_at s a).dates.launched s.steps early_mark (h.told.fits a).dates.launched))
        where
          z : Carstamp
          z = told_stamp (session.Register r)

          below : stamp_le z d.stamp ≡ true
          below = ap (λ (w : Session). stamp_le (told_stamp w) d.stamp) (sym x) ∙ both.1

          same : d.key.index ≡ key.index
          same = (let t = both.0 in grind (arith, nat_tests, t)) ∙ (ap (λ (w : Session). (told_key w).index) x ∙ ap (λ (w : Key). w.index) y)

          held : is_held (replicas_at s key.service) key z ≡ true
          held = subst (λ (id : ServiceId). is_held (replicas_at s id) key z ≡ true) (sym f ∙ i) (held_less key z d.stamp (replicas_at s (Reg m)) below (keyed (Reg m) d.key key d.stamp same k))

          early_mark : marked_step s (work_key r.work) z ≤ s.steps
          early_mark = subst (λ (w : Key). marked_step s w z ≤ s.steps) (sym y) (let l = h.early key z j held in omega (arith, l))

  -- before a reading's end
  pub come_before : (a : ℕ) → v.come a ≡ true → v.before a at.latest ≡ true
  come_before a e = within (step_of s a) e (h.times.moments.rise (step_of s a) s.steps)
    where
      within : (i : ℕ) → nat_le i s.steps ≡ true → (i ≤ s.steps → s.steps ≤ s.steps → moment_at s i ≤ moment_at s s.steps) → (nat_le i s.steps && nat_le (moment_at s i) at.latest) ≡ true
      within i e r = let now = h.times.moments.now in let l = h.latest in let q = r (grind (arith, nat_tests, e)) (omega arith) in grind (arith, nat_tests, e, now, l, q)

  -- how a work is done
  pub data IsDone (seen : Seen) (id : ServiceId) : FenceWork → Type 0 where
    owed_none : IsDone seen id Nothing
    passed : (time : ℕ) → time < s.moment → IsDone seen id (Past time)
    stored : All (DepHeld s id) (deps_of id seen.deps) → IsDone seen id Fix

  pub work_settles : (seen : Seen) (id : ServiceId) (x : FenceWork) → FitsContext seen id x → IsDone seen id x → (calls : ℕ → Bool) → Covers v calls seen → (a : ℕ) → calls a ≡ true → (v.call a).service ≡ id → v.come a ≡ true
  work_settles seen (Txn m) Nothing f d calls k = absurd f
  work_settles seen (Txn m) (Past time) f (passed _ l) calls k = past_settles v calls seen m k (λ a e g i. come_by_time m time l a e g (subst (λ (j : ℕ). told_time (owner_at s a).session ≤ j) (sym f) i))
  work_settles seen (Txn m) Fix f d calls k = absurd f
  work_settles seen (Reg m) Nothing f d calls k = nothing_settles v calls seen m view_is k f
  work_settles seen (Reg m) (Past time) f d calls k = absurd f
  work_settles seen (Reg m) Fix f (stored g) calls k =
      fix_settles v calls seen m view_is k (All-weaker (DepHeld s (Reg m)) (λ (d : Dep). (a : ℕ) → v.ended a ≡ true → (v.call a).service ≡ Reg m → holds_call (v.call a) d ≡ true → v.come a ≡ true) (λ d. come_by_stamp m d) (deps_of (Reg m) seen.deps) g)
