-- When a call sends its own first round, it finds the calls behind it placed.
use Rattle.std.proofs.Common.{◌≡◌, ℕ, ◌<◌, ◌≤◌, ◌⊎◌, inl, inr, Bool, true, false, List, [], length, refl, sym, ap, ◌∙◌, subst, arith}
use Rattle.std.specs.Prelude.{nat_le}
use Rattle.std.proofs.lemmas.Bool.{false≢true, cases_eq}
use Rattle.std.proofs.lemmas.Bool.Decides.{nat_tests}
use Rattle.truetime.specs.Reading.{Reading}
use Rattle.rss_names.specs.declared.service.Key.{Key}
use Rattle.rss_names.specs.declared.service.ServiceId.{ServiceId}
use Rattle.rss_names.specs.Services.{same_service}
use Rattle.causal_context.specs.LeastTimes.{least_of}
use Rattle.rss_names.specs.declared.service.ServiceId.TheVariants.{Txn, Reg}
use Rattle.carstamps.specs.declared.carstamp.Carstamp.{Carstamp}
use Rattle.causal_context.specs.Seen.{Seen}
use Rattle.pipeline_lang.specs.declared.config.Config.{Config}
use Rattle.rss_model.specs.declared.history.Entry.{Entry}
use Rattle.rss_model.specs.declared.history.Entry.TheVariants.{Begin, End, Give, Get, Over}
use Rattle.rss_model.specs.declared.op.Op.{Op}
use Rattle.rss_model.specs.declared.op.Shown.{Shown}
use Rattle.rss_model.specs.Causality.{Path, here, along, carried}
use Rattle.rss_model.specs.History.{entry_at, begins, ends}
use Rattle.rss_model.specs.Stages.{entry_stage}
use Rattle.rss_machine.specs.Places.{effect_step, is_read_work, has_ended}
use Rattle.rss_machine.specs.Session.{Session, service_of}
use Rattle.rss_machine.specs.Standing.{is_running}
use Rattle.rss_machine.specs.State.{State, owner_at}
use Rattle.rss_machine.specs.Times.{marked_step}
use Rattle.rss_machine.specs.declared.session.OwnerKind.TheVariants as kind
use Rattle.rss_machine.specs.declared.session.Session.TheVariants as session
use Rattle.rss_machine.specs.declared.state.OwnerFate.{OwnerFate}
use Rattle.rss_machine.specs.declared.state.OwnerFate.TheVariants.{Running, Ended, Dropped, CutOff}
use Rattle.world_laws.specs.Calls.{is_call}
use Rattle.world_laws.specs.InOrder.{IsInOrder}
use Rattle.order_laws.specs.CallsBehind.{calls_behind}
use Rattle.order_laws.proofs.OnePass.{begins_told}
use Rattle.coupling_laws.specs.Calls.{View, Grows, EndedCall}
use Rattle.coupling_laws.specs.Covers.{Covers, IsAt}
use Rattle.coupling_laws.proofs.Fences.{launched_same, launched_other, launched_register}
use Rattle.context_moves.specs.Views.{view_of, told_stamp, work_key, step_of, told_step}
use Rattle.context_moves.specs.Covering.{AllCover, behind}
use Rattle.context_moves.specs.Launched.{BegunBehind, Finds}
use Rattle.context_moves.proofs.Ended.{Was, timed, stamped, was_ended}
use Rattle.context_moves.proofs.Facts.{Facts}
use Rattle.context_moves.proofs.Launch.{rises, begun_inside}
use Rattle.context_moves.proofs.Tables.{both_of}

-- a path leads no further back
pub path_le : (h : List Entry) (i j : ℕ) → Path h i j → i ≤ j
path_le h i _ here = omega arith
path_le h i j (along {k = k} p l e) = let q = path_le h i k p in omega (arith, q, l)
path_le h i j (carried {k = k} p l e f) = let q = path_le h i k p in omega (arith, q, l)

module _ (c : Config) (n : IsInOrder c) (at : Reading) (s : State) (h : Facts c n at s) (soon : (key : Key) (z : Carstamp) → marked_step s key z ≤ s.steps → marked_step s key z < s.steps) (k : AllCover c s) (o : ℕ) (y : Op) (q : (owner_at s o).kind ≡ kind.Calling y) (r : is_running (owner_at s o).fate ≡ true)
    (ready : IsAt (owner_at s o).works.copy (service_of y)) (none : (m : ℕ) → service_of y ≡ Reg m → (owner_at s o).works.copy.deps ≡ []) where
  abbrev v : View
  v = view_of c s

  abbrev stage : ℕ
  stage = (owner_at s o).stage

  abbrev copy : Seen
  copy = (owner_at s o).works.copy

  covers : Covers v ((behind s).stage stage) copy
  covers = (k.owners o).copy stage (inl r) refl

  -- a call behind it is behind its stage still
  beginning : (e : Entry) → begins o e ≡ true → (st : ℕ) × (x : Op) × (e ≡ Begin o st x)
  beginning (Begin call st x) e = (st, x, ap (λ (j : ℕ). Begin j st x) (grind (arith, nat_tests, e)))
  beginning (End call reply) e = absurd (false≢true e)
  beginning (Give st token) e = absurd (false≢true e)
  beginning (Get st token) e = absurd (false≢true e)
  beginning (Over st how) e = absurd (false≢true e)

  ending : (a : ℕ) (e : Entry) → ends a e ≡ true → (reply : List Shown) × (e ≡ End a reply)
  ending a (End call reply) e = (reply, ap (λ (j : ℕ). End j reply) (grind (arith, nat_tests, e)))
  ending a (Begin call st x) e = absurd (false≢true e)
  ending a (Give st token) e = absurd (false≢true e)
  ending a (Get st token) e = absurd (false≢true e)
  ending a (Over st how) e = absurd (false≢true e)

  behind_now : (a : ℕ) → BegunBehind s.history o a → (behind s).stage stage a ≡ true
  behind_now a z =
      let b = beginning (entry_at s.history z.place) z.begun in
      let l = begun_inside s.history o z.place z.begun in
      let st = (h.told.entries.begins z.place o b.0 b.1 b.2).of_stage in
      rises s.history stage a (length s.history) z.place (omega (arith, l)) (ap (λ (i : ℕ). (calls_behind s.history z.place).stage i a) (st ∙ sym (ap (entry_stage s.history) b.2)) ∙ z.behind)

  -- and it had ended before this one began
  pub ended_before : (a : ℕ) → BegunBehind s.history o a → (owner_at s a).dates.ended < (owner_at s o).dates.begun
  ended_before a z =
      let b = beginning (entry_at s.history z.place) z.begun in
      let w = (begins_told s.history a o z.place z.begun).0 z.behind in
      let e = ending a (entry_at s.history w.0) w.1 in
      let l = path_le s.history w.0 z.place w.2 in
      h.told.entries.order w.0 z.place a o b.0 e.0 b.1 (apart w.0 z.place l e.0 b.0 b.1 e.1 b.2) e.1 b.2
    where
      end_no_begin : (reply : List Shown) (st : ℕ) (x : Op) → End a reply ≡ Begin o st x → ⊥
      end_no_begin reply st x e = cc

      apart : (i j : ℕ) → i ≤ j → (reply : List Shown) (st : ℕ) (x : Op) → entry_at s.history i ≡ End a reply → entry_at s.history j ≡ Begin o st x → i < j
      apart i j l reply st x e f = by_place (cases_eq i j)
        where
          by_place : (i ≡ j) ⊎ (i ≡ j → ⊥) → i < j
          by_place (inl g) = absurd (end_no_begin reply st x (sym e ∙ (ap (entry_at s.history) g ∙ f)))
          by_place (inr g) = grind (arith, l, g)

  come_of : (a : ℕ) → v.come a ≡ true → step_of s a ≤ s.steps
  come_of a e = made (step_of s a) e
    where
      made : (i : ℕ) → nat_le i s.steps ≡ true → i ≤ s.steps
      made i e = grind (arith, nat_tests, e)

  effect_of : (b : Bool) (i j k : ℕ) → effect_step b i j ≤ k → i ≤ k
  effect_of true i j k l = grind (arith, l)
  effect_of false i j k l = l

  effect_below : (b : Bool) (i j k : ℕ) → i < k → j < k → effect_step b i j < k
  effect_below true i j k l m = grind (arith, l, m)
  effect_below false i j k l m = l

  over_of : (f : OwnerFate) → has_ended f ≡ true → is_running f ≡ false
  over_of Running e = absurd (false≢true e)
  over_of Ended e = refl
  over_of Dropped e = refl
  over_of (CutOff target) e = refl

  -- the step of a register call behind it has come before this step
  strict : (a m : ℕ) → BegunBehind s.history o a → v.ended a ≡ true → (v.call a).service ≡ Reg m → v.come a ≡ true → step_of s a < s.steps
  strict a m z e f g = by_was (was_ended c s a h.told h.agree h.served e)
    where
      txn_not_reg : (i : ℕ) → Txn i ≡ Reg m → ⊥
      txn_not_reg i e = cc

      launched : (owner_at s a).dates.launched < s.steps
      launched =
          let d = (h.told.fits a).dates.is_over (over_of (owner_at s a).fate (both_of (is_call (owner_at s a).kind) _ e).1) in
          let p = ended_before a z in
          let w = (h.told.fits o).dates.begun in
          omega (arith, d, p, w)

      by_was : Was c s a → step_of s a < s.steps
      by_was (timed i x w) = absurd (txn_not_reg i (sym x ∙ f))
      by_was (stamped g' key x w i j) =
          let l : told_step s (owner_at s a) (session.Register g') ≤ s.steps = subst (λ (u : Session). told_step s (owner_at s a) u ≤ s.steps) x (come_of a g) in
          subst (λ (u : Session). told_step s (owner_at s a) u < s.steps) (sym x)
          (effect_below (is_read_work g'.work) _ (owner_at s a).dates.launched s.steps (soon (work_key g'.work) (told_stamp (session.Register g')) (effect_of (is_read_work g'.work) _ (owner_at s a).dates.launched s.steps l)) launched)

  -- so it finds them, where its own first round is of this step
  pub launch_finds : (t : State) → Grows v (view_of c t) → ((a : ℕ) → v.ended a ≡ true → step_of s a ≤ s.steps → step_of t a ≡ step_of s a) → (owner_at t o).dates.launched ≡ s.steps → (owner_at t o).works.copy.least ≡ copy.least → (a : ℕ) → BegunBehind s.history o a → Finds c t o y a
  launch_finds t g step l least a z = record {
    ended = g.ended a ended;
    same = λ m e f. subst (λ (u : EndedCall). u.time ≤ least_of (owner_at t o).works.copy.least (Txn m)) (sym call) (subst (λ (u : List (ServiceId × ℕ)). (v.call a).time ≤ least_of u (Txn m)) (sym least) (launched_same v ((behind s).stage stage) copy m covers a b (was_of e)));
    other = λ m e f. g.before a _ ended (subst (λ (u : List (ServiceId × ℕ)). v.before a (least_of u (Txn m)) ≡ true) (sym least) (launched_other v ((behind s).stage stage) copy m covers (subst (IsAt copy) f ready) a b (ap (λ (u : EndedCall). same_service u.service (Txn m)) (sym call) ∙ e)));
    txn_round = λ m i e f. let w = come_of a (come m f) in let p = step a ended w in omega (arith, w, p, l);
    round = λ m i e f. let w = come_of a (come m f) in let p = step a ended w in let u = strict a i z ended (was_of e) (come m f) in omega (arith, p, l, u);
  }
    where
      b : (behind s).stage stage a ≡ true
      b = behind_now a z

      ended : v.ended a ≡ true
      ended = covers.ended a b

      call : (view_of c t).call a ≡ v.call a
      call = g.call a ended

      was_of : {i : ServiceId} → ((view_of c t).call a).service ≡ i → (v.call a).service ≡ i
      was_of e = ap (λ (u : EndedCall). u.service) (sym call) ∙ e

      come : (m : ℕ) → service_of y ≡ Reg m → v.come a ≡ true
      come m f = launched_register v ((behind s).stage stage) copy m covers (subst (IsAt copy) f ready) (none m f) a b
