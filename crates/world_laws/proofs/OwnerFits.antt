-- What an owner has under way fits what it does and when it did it: only a call has rounds or turns of its own,
-- once its works are done and it has sent the first, and its dates stand in their order.
use Rattle.std.proofs.Common.{◌≡◌, ℕ, ◌<◌, ◌≤◌, Bool, true, false, List, [], ◌∷◌, refl, ap, sym, ◌∙◌, subst, arith}
use Rattle.std.specs.Prelude.{⊤}
use Rattle.std.proofs.lemmas.Bool.{true≢false, cond_both}
use Rattle.rss_names.specs.declared.service.ServiceId.{ServiceId}
use Rattle.rss_names.specs.declared.service.Target.TheVariants.{Replica}
use Rattle.rss_names.specs.Services.{same_service}
use Rattle.rss_model.specs.declared.op.Op.TheVariants as op
use Rattle.rss_wire.specs.declared.messages.Reply.{Reply}
use Rattle.rss_tables.specs.RegisterSession.{RegSession, session_after, reached, read_end, reply_cell, found_cell}
use Rattle.rss_tables.specs.Round.{hears, is_reached, greatest_heard, is_agreed}
use Rattle.rss_tables.specs.declared.fences.FenceWork.{FenceWork}
use Rattle.rss_tables.specs.declared.register_session.RegPhase.{RegPhase}
use Rattle.rss_tables.specs.declared.register_session.RegPhase.TheVariants as phase
use Rattle.rss_tables.specs.declared.register_session.RegWork.{RegWork}
use Rattle.rss_tables.specs.declared.register_session.RegWork.TheVariants as work
use Rattle.rss_machine.specs.Moves.{session_without}
use Rattle.rss_machine.specs.Session.{Session}
use Rattle.rss_machine.specs.Standing.{is_running}
use Rattle.rss_machine.specs.State.{Owner, no_owner, no_currents}
use Rattle.rss_machine.specs.declared.session.OwnerKind.{OwnerKind}
use Rattle.rss_machine.specs.declared.session.OwnerKind.TheVariants as kind
use Rattle.rss_machine.specs.declared.session.Session.TheVariants as session
use Rattle.rss_machine.specs.declared.state.Dates.{Dates}
use Rattle.rss_machine.specs.declared.state.OwnerFate.{OwnerFate}
use Rattle.world_laws.specs.Calls.{is_call, is_stub, DatesInTurn}
pub use Rattle.world_laws.specs.Calls.{is_own}
use Rattle.world_laws.proofs.StageMoves.{can_end}

-- the work of a call's rounds is its operation's
abbrev pub WorkFits : RegWork → OwnerKind → Type 0
WorkFits (work.Read key) k = k ≡ kind.Calling (op.Read key)
WorkFits (work.Write key value) k = k ≡ kind.Calling (op.Write key value)
WorkFits (work.Fix deps) k = ⊥

-- and their phase is one of the work's
abbrev pub PhaseFits : RegWork → RegPhase → Type 0
PhaseFits (work.Read key) phase.Fixing = ⊥
PhaseFits (work.Read key) phase.Asking = ⊤
PhaseFits (work.Read key) phase.Stamping = ⊥
PhaseFits (work.Read key) (phase.Storing stamp) = ⊥
PhaseFits (work.Read key) (phase.Done end) = can_end (work.Read key) end ≡ true
PhaseFits (work.Write key value) phase.Fixing = ⊥
PhaseFits (work.Write key value) phase.Asking = ⊥
PhaseFits (work.Write key value) phase.Stamping = ⊤
PhaseFits (work.Write key value) (phase.Storing stamp) = ⊤
PhaseFits (work.Write key value) (phase.Done end) = can_end (work.Write key value) end ≡ true
PhaseFits (work.Fix deps) p = ⊥

pub record CallFits (k : OwnerKind) (r : RegSession) : Type 0 where
  pub of_kind : WorkFits r.work k
  pub in_phase : PhaseFits r.work r.phase

abbrev pub SessionFits : OwnerKind → Session → Type 0
SessionFits k session.Idle = ⊤
SessionFits k (session.Fixing r) = ⊤
SessionFits k (session.Register r) = CallFits k r
SessionFits k (session.Transaction t) = is_call k ≡ true
SessionFits k (session.Snapshot t) = is_call k ≡ true
SessionFits k (session.Settling attempt shards) = ⊤

pub record Fits (n : ℕ) (w : Owner) : Type 0 where
  pub dates : DatesInTurn n (is_running w.fate) w.dates
  pub session : SessionFits w.kind w.session
  pub launched : is_own w.session ≡ true → 0 < w.dates.launched
  pub done : is_own w.session ≡ true → w.works.left ≡ []
  pub unlaunched : is_own w.session ≡ false → w.dates.launched ≡ 0
  pub currents : is_running w.fate ≡ false → w.currents ≡ no_currents

-- an owner that is not there
pub nobody_fits : (n : ℕ) → Fits n no_owner
nobody_fits n = record {
  dates = record { begun = omega arith; entered = omega arith; launched = omega arith; ended = omega arith; enters = λ l. absurd (omega (arith, l)); launches = λ l. absurd (omega (arith, l)); before = λ l m. absurd (omega (arith, l)); runs = λ e. refl; is_over = λ e. (omega arith, omega arith, omega arith) };
  session = tt;
  launched = λ e. absurd (true≢false (sym e));
  done = λ e. absurd (true≢false (sym e));
  unlaunched = λ e. refl;
  currents = λ e. refl;
}

-- an owner that runs changes what it has under way
pub fits_goes : (n : ℕ) (v w : Owner) → is_running v.fate ≡ true → w.fate ≡ v.fate → w.dates ≡ v.dates → is_own w.session ≡ is_own v.session → (is_own w.session ≡ true → w.works.left ≡ v.works.left) → SessionFits w.kind w.session → Fits n v → Fits n w
fits_goes n v w r f d o l x h = record {
  dates = subst (λ (y : OwnerFate). DatesInTurn n (is_running y) w.dates) (sym f) (subst (DatesInTurn n (is_running v.fate)) (sym d) h.dates);
  session = x;
  launched = λ e. subst (λ (y : Dates). 0 < y.launched) (sym d) (h.launched (sym o ∙ e));
  done = λ e. l e ∙ h.done (sym o ∙ e);
  unlaunched = λ e. ap (λ (y : Dates). y.launched) d ∙ h.unlaunched (sym o ∙ e);
  currents = λ e. absurd (true≢false (sym r ∙ (ap is_running (sym f) ∙ e)));
}

-- an owner that stays as it is but for what is not looked at
pub fits_same : (n : ℕ) (v w : Owner) → w.kind ≡ v.kind → w.fate ≡ v.fate → w.dates ≡ v.dates → w.session ≡ v.session → w.works.left ≡ v.works.left → (is_running v.fate ≡ false → w.currents ≡ v.currents) → Fits n v → Fits n w
fits_same n v w k f d x l c h = record {
  dates = subst (λ (y : OwnerFate). DatesInTurn n (is_running y) w.dates) (sym f) (subst (DatesInTurn n (is_running v.fate)) (sym d) h.dates);
  session = subst (SessionFits w.kind) (sym x) (subst (λ (y : OwnerKind). SessionFits y v.session) (sym k) h.session);
  launched = λ e. subst (λ (y : Dates). 0 < y.launched) (sym d) (h.launched (ap is_own (sym x) ∙ e));
  done = λ e. l ∙ h.done (ap is_own (sym x) ∙ e);
  unlaunched = λ e. ap (λ (y : Dates). y.launched) d ∙ h.unlaunched (ap is_own (sym x) ∙ e);
  currents = λ e. c (ap is_running (sym f) ∙ e) ∙ h.currents (ap is_running (sym f) ∙ e);
}

-- a call sends its own first round in a step of this number
pub fits_launch : (n : ℕ) (v w : Owner) → 0 < n → is_running v.fate ≡ true → w.fate ≡ v.fate → w.dates ≡ record v.dates { launched = n } → is_own w.session ≡ true → w.works.left ≡ [] → SessionFits w.kind w.session → Fits n v → Fits n w
fits_launch n v w z r f d o l x h = record {
  dates = subst (λ (y : OwnerFate). DatesInTurn n (is_running y) w.dates) (sym f) (subst (DatesInTurn n (is_running v.fate)) (sym d) record {
    begun = h.dates.begun;
    entered = h.dates.entered;
    launched = omega arith;
    ended = h.dates.ended;
    enters = h.dates.enters;
    launches = λ k. h.dates.begun;
    before = λ a b. h.dates.entered;
    runs = h.dates.runs;
    is_over = λ e. absurd (true≢false (sym r ∙ e));
  });
  session = x;
  launched = λ e. subst (λ (y : Dates). 0 < y.launched) (sym d) z;
  done = λ e. l;
  unlaunched = λ e. absurd (true≢false (sym o ∙ e));
  currents = λ e. absurd (true≢false (sym r ∙ (ap is_running (sym f) ∙ e)));
}

-- a call enters its service
pub fits_enter : (n : ℕ) (v w : Owner) → is_running v.fate ≡ true → w.fate ≡ v.fate → w.dates ≡ record v.dates { entered = n } → is_own v.session ≡ false → w.session ≡ v.session → w.kind ≡ v.kind → Fits n v → Fits n w
fits_enter n v w r f d o x k h = record {
  dates = subst (λ (y : OwnerFate). DatesInTurn n (is_running y) w.dates) (sym f) (subst (DatesInTurn n (is_running v.fate)) (sym d) record {
    begun = h.dates.begun;
    entered = omega arith;
    launched = h.dates.launched;
    ended = h.dates.ended;
    enters = λ a. h.dates.begun;
    launches = h.dates.launches;
    before = λ a b. absurd (let e = h.unlaunched o in omega (arith, b, e));
    runs = h.dates.runs;
    is_over = λ e. absurd (true≢false (sym r ∙ e));
  });
  session = subst (SessionFits w.kind) (sym x) (subst (λ (y : OwnerKind). SessionFits y v.session) (sym k) h.session);
  launched = λ e. absurd (true≢false (sym e ∙ (ap is_own x ∙ o)));
  done = λ e. absurd (true≢false (sym e ∙ (ap is_own x ∙ o)));
  unlaunched = λ e. ap (λ (y : Dates). y.launched) d ∙ h.unlaunched o;
  currents = λ e. absurd (true≢false (sym r ∙ (ap is_running (sym f) ∙ e)));
}

-- an owner is over
pub fits_close : (n : ℕ) (v w : Owner) → is_running w.fate ≡ false → w.dates ≡ record v.dates { ended = n } → w.session ≡ v.session → w.kind ≡ v.kind → w.works.left ≡ v.works.left → w.currents ≡ no_currents → Fits n v → Fits n w
fits_close n v w r d x k l c h = record {
  dates = subst (DatesInTurn n (is_running w.fate)) (sym d) record {
    begun = h.dates.begun;
    entered = h.dates.entered;
    launched = h.dates.launched;
    ended = omega arith;
    enters = h.dates.enters;
    launches = h.dates.launches;
    before = h.dates.before;
    runs = λ e. absurd (true≢false (sym e ∙ r));
    is_over = λ e. (h.dates.begun, h.dates.entered, h.dates.launched);
  };
  session = subst (SessionFits w.kind) (sym x) (subst (λ (y : OwnerKind). SessionFits y v.session) (sym k) h.session);
  launched = λ e. subst (λ (y : Dates). 0 < y.launched) (sym d) (h.launched (ap is_own (sym x) ∙ e));
  done = λ e. l ∙ h.done (ap is_own (sym x) ∙ e);
  unlaunched = λ e. ap (λ (y : Dates). y.launched) d ∙ h.unlaunched (ap is_own (sym x) ∙ e);
  currents = λ e. c;
}

-- one more step is made
pub fits_later : (n m : ℕ) (w : Owner) → n ≤ m → Fits n w → Fits m w
fits_later n m w l h =
    let d = h.dates in
    let a = d.begun in
    let b = d.entered in
    let e = d.launched in
    let f = d.ended in
    record {
      dates = record { begun = omega (arith, a, l); entered = omega (arith, b, l); launched = omega (arith, e, l); ended = omega (arith, f, l); enters = d.enters; launches = d.launches; before = d.before; runs = d.runs; is_over = d.is_over };
      session = h.session;
      launched = h.launched;
      done = h.done;
      unlaunched = h.unlaunched;
      currents = h.currents;
    }

-- an owner that begins
pub fits_open : (n : ℕ) (w : Owner) → w.dates ≡ record { begun = n; entered = 0; launched = 0; ended = 0 } → is_running w.fate ≡ true → w.session ≡ session.Idle → Fits n w
fits_open n w d r x = record {
  dates = subst (DatesInTurn n (is_running w.fate)) (sym d) record { begun = omega arith; entered = omega arith; launched = omega arith; ended = omega arith; enters = λ l. absurd (omega (arith, l)); launches = λ l. absurd (omega (arith, l)); before = λ l m. absurd (omega (arith, l)); runs = λ e. refl; is_over = λ e. absurd (true≢false (sym r ∙ e)) };
  session = subst (SessionFits w.kind) (sym x) tt;
  launched = λ e. absurd (true≢false (sym e ∙ ap is_own x));
  done = λ e. absurd (true≢false (sym e ∙ ap is_own x));
  unlaunched = λ e. ap (λ (y : Dates). y.launched) d;
  currents = λ e. absurd (true≢false (sym r ∙ e));
}

-- what a stub, and an owner that has works left, has under way is no call's own
pub own_is_call : (k : OwnerKind) (x : Session) → SessionFits k x → is_own x ≡ true → is_call k ≡ true
own_is_call k session.Idle h e = absurd (true≢false (sym e))
own_is_call k (session.Fixing r) h e = absurd (true≢false (sym e))
own_is_call k (session.Register r) h e = by_work r.work h.of_kind
  where
    by_work : (w : RegWork) → WorkFits w k → is_call k ≡ true
    by_work (work.Read key) f = ap is_call f
    by_work (work.Write key value) f = ap is_call f
    by_work (work.Fix deps) f = absurd f
own_is_call k (session.Transaction t) h e = h
own_is_call k (session.Snapshot t) h e = h
own_is_call k (session.Settling attempt shards) h e = absurd (true≢false (sym e))

not_own : (x : Session) → (is_own x ≡ true → ⊥) → is_own x ≡ false
not_own session.Idle f = refl
not_own (session.Fixing r) f = refl
not_own (session.Register r) f = absurd (f refl)
not_own (session.Transaction t) f = absurd (f refl)
not_own (session.Snapshot t) f = absurd (f refl)
not_own (session.Settling attempt shards) f = refl

stub_no_call : (k : OwnerKind) → is_stub k ≡ true → is_call k ≡ true → ⊥
stub_no_call (kind.Calling x) e f = true≢false (sym e)
stub_no_call kind.Fencing e f = true≢false (sym f)
stub_no_call (kind.Stubbing u) e f = true≢false (sym f)

pub stub_not_own : (n : ℕ) (w : Owner) → is_stub w.kind ≡ true → Fits n w → is_own w.session ≡ false
stub_not_own n w e h = not_own w.session (λ f. stub_no_call w.kind e (own_is_call w.kind w.session h.session f))

nil_not_cons : (x : ServiceId × FenceWork) (rest : List (ServiceId × FenceWork)) → [] ≡ x ∷ rest → ⊥
nil_not_cons x rest e = cc

pub works_not_own : (n : ℕ) (w : Owner) (x : ServiceId × FenceWork) (rest : List (ServiceId × FenceWork)) → w.works.left ≡ x ∷ rest → Fits n w → is_own w.session ≡ false
works_not_own n w x rest e h = not_own w.session (λ f. nil_not_cons x rest (sym (h.done f) ∙ e))

-- a call's round that hears a reply
reached_fits : (r : RegSession) (w : RegWork) (p : RegPhase) → r.work ≡ w → r.phase ≡ p → PhaseFits w p → PhaseFits w (reached r p).phase
reached_fits r (work.Read key) phase.Asking e q h = ap (λ (w : RegWork). can_end (work.Read key) (read_end w (found_cell (greatest_heard r.round)) (is_agreed r.round))) e
reached_fits r (work.Read key) (phase.Done end) e q h = subst (PhaseFits (work.Read key)) (sym q) h
reached_fits r (work.Read key) phase.Fixing e q h = absurd h
reached_fits r (work.Read key) phase.Stamping e q h = absurd h
reached_fits r (work.Read key) (phase.Storing stamp) e q h = absurd h
reached_fits r (work.Write key value) phase.Stamping e q h = tt
reached_fits r (work.Write key value) (phase.Storing stamp) e q h = refl
reached_fits r (work.Write key value) (phase.Done end) e q h = subst (PhaseFits (work.Write key value)) (sym q) h
reached_fits r (work.Write key value) phase.Fixing e q h = absurd h
reached_fits r (work.Write key value) phase.Asking e q h = absurd h
reached_fits r (work.Fix deps) p e q h = absurd h

reached_work : (r : RegSession) (p : RegPhase) → (reached r p).work ≡ r.work
reached_work r phase.Fixing = refl
reached_work r phase.Asking = refl
reached_work r phase.Stamping = refl
reached_work r (phase.Storing stamp) = refl
reached_work r (phase.Done end) = refl

pub after_work : (f : RegSession) (from : ℕ) (r : Reply) → (session_after f from r).work ≡ f.work
after_work f from r =
    let g = record f { round = hears f.round from (reply_cell r) } in
    cond_both (is_reached g.round) (reached g f.phase) g (λ (x : RegSession). x.work ≡ f.work) (λ t. reached_work g f.phase) (λ t. refl)

pub after_fits : (k : OwnerKind) (f : RegSession) (from : ℕ) (r : Reply) → CallFits k f → CallFits k (session_after f from r)
after_fits k f from r h =
    let g = record f { round = hears f.round from (reply_cell r) } in
    record {
      of_kind = subst (λ (w : RegWork). WorkFits w k) (sym (after_work f from r)) h.of_kind;
      in_phase = subst (λ (w : RegWork). PhaseFits w (session_after f from r).phase) (sym (after_work f from r))
          (cond_both (is_reached g.round) (reached g f.phase) g (λ (x : RegSession). PhaseFits f.work x.phase) (λ t. reached_fits g f.work f.phase refl refl h.in_phase) (λ t. h.in_phase));
    }

-- and one that goes on without a replica
pub without_fits : (k : OwnerKind) (x : Session) (id : ServiceId) (replica : ℕ) → SessionFits k x → SessionFits k (session_without x (Replica id replica))
without_fits k (session.Register r) id replica h = cond_both (same_service r.service id) _ r (CallFits k) (λ t. record { of_kind = h.of_kind; in_phase = h.in_phase }) (λ t. h)
without_fits k (session.Fixing r) id replica h = tt
without_fits k session.Idle id replica h = tt
without_fits k (session.Transaction t) id replica h = h
without_fits k (session.Snapshot t) id replica h = h
without_fits k (session.Settling attempt shards) id replica h = tt

pub without_own : (x : Session) (id : ServiceId) (replica : ℕ) → is_own (session_without x (Replica id replica)) ≡ is_own x
without_own (session.Register r) id replica = refl
without_own (session.Fixing r) id replica = refl
without_own session.Idle id replica = refl
without_own (session.Transaction t) id replica = refl
without_own (session.Snapshot t) id replica = refl
without_own (session.Settling attempt shards) id replica = refl
