-- What owners do keeps their current exchanges awaited.
use Rattle.std.proofs.Common.{◌≡◌, ℕ, ◌<◌, Bool, true, false, List, [], All, get_or, Option, Some, None, refl, ap, sym, ◌∙◌, subst}
use Rattle.std.proofs.lemmas.Bool.{cond_both}
use Rattle.std.proofs.lemmas.List.Elements.{All-cons, All-nil}
use Rattle.truetime.specs.Reading.{Reading}
use Rattle.rss_names.specs.declared.service.ServiceId.{ServiceId}
use Rattle.rss_names.specs.declared.service.Target.TheVariants.{Replica}
use Rattle.rss_names.specs.Services.{same_service}
use Rattle.causal_context.specs.declared.dep.Dep.{Dep}
use Rattle.pipeline_lang.specs.declared.config.Config.{Config}
use Rattle.rss_wire.specs.Messages.{message_at}
use Rattle.rss_wire.specs.declared.message.Message.{Message}
use Rattle.rss_wire.specs.declared.messages.RegReply.{RegReply}
use Rattle.rss_wire.specs.declared.messages.Reply.{Reply}
use Rattle.rss_wire.specs.declared.messages.Request.{Request}
use Rattle.rss_tables.specs.Outs.{Out}
use Rattle.rss_tables.specs.RegisterSession.{RegSession, phase_request, session_after, reached, reply_cell, found_cell}
use Rattle.rss_tables.specs.Round.{Round, was_heard, hears, is_reached, greatest_heard}
use Rattle.rss_tables.specs.declared.register_session.RegPhase.{RegPhase}
use Rattle.rss_tables.specs.declared.register_session.RegPhase.TheVariants as phase
use Rattle.rss_tables.specs.declared.register_session.RegWork.{RegWork}
use Rattle.rss_tables.specs.declared.register_session.RegWork.TheVariants as work
use Rattle.rss_machine.specs.Moves.{session_without}
use Rattle.rss_machine.specs.Session.{Session}
use Rattle.rss_machine.specs.State.{State, Owner, owner_at, opening_owner}
use Rattle.rss_machine.specs.declared.session.OwnerKind.{OwnerKind}
use Rattle.rss_machine.specs.declared.session.Session.TheVariants as session
use Rattle.world_laws.proofs.Doings.{Heard, Resting, plans, past, fixed, cleared, Working, owes_nothing, is_past, enters_own, Leaving, waits, fixes_work, fixes_own, asks_register, stamps_register, begins_snapshot, begins_txn, fence_done, stub_done, ShardTurning, txn_heard, txn_woken, txn_passed, snap_heard, snap_woken, Doing, listens_one, fix_hears, fix_reached, register_hears, register_stores, register_reached, read_ends, write_ends, txn_ends, snap_ends, counts_one, cuts_one, is_closed, forgets_all, turns, stub_asks}
use Rattle.world_laws.proofs.Looks.{some_is, none_is_not}
use Rattle.world_laws.proofs.Sent.{RoundOut}
use Rattle.world_laws.proofs.SessionMoves.{session_at}
use Rattle.std.specs.Prelude.{if◌then◌else◌}
use Rattle.std.proofs.lemmas.Bool.{true≢false}
use Rattle.carstamps.specs.Stamp.{next_stamp}
use Rattle.rss_tables.specs.Outs.{slot_replica, line_slot}
use Rattle.rss_tables.specs.RegisterSession.{phase_end}
use Rattle.rss_tables.specs.Works.{Works}
use Rattle.rss_machine.specs.Effect.{opens_round, least_shard}
use Rattle.rss_machine.specs.Moves.{round_without}
use Rattle.rss_machine.specs.State.{no_currents}
use Rattle.world_laws.proofs.Doings.{turned, fix_session}
use Rattle.world_laws.proofs.Looks.{some_is_not}
use Rattle.world_laws.proofs.OwnerMoves.{is_busy}
use Rattle.world_laws.proofs.Properly.{after-stays}
use Rattle.world_laws.proofs.Sent.{round_outs}
use Rattle.reg_laws.specs.Awaited.{IsAsked, IsAwaited}
use Rattle.reg_laws.proofs.Awaiting.{IsFix, FixesOnly, OwnAwaited, IsFree, none_current, idle_current, OutFits, current_less, slot_current, current_without}

-- an owner that begins awaits nothing
pub opening_awaited : (net : List Message) (o stage : ℕ) (x : OwnerKind) (started : Bool) (works : Works) (step : ℕ) → works.wait ≡ None → OwnAwaited net o (opening_owner stage x started works step)
opening_awaited net o stage x started works step e = record {
  awaited = λ slot m f. absurd (none_current slot m f);
  waiting = λ time f. refl;
  unstarted = λ f. (refl, e);
  fixes = tt;
}

-- an owner with nothing under way, and no current exchange
pub free_awaited : (net : List Message) (o : ℕ) (w : Owner) → ((slot m : ℕ) → get_or w.currents slot None ≡ Some m → ⊥) → IsFree w → OwnAwaited net o w
free_awaited net o w n f = record {
  awaited = λ slot m e. absurd (n slot m e);
  waiting = λ time e. f.idle;
  unstarted = λ e. (f.idle, f.awake);
  fixes = subst FixesOnly (sym f.idle) tt;
}

-- an owner with something under way has started, and does not wait
busy_started : (net : List Message) (o : ℕ) (w : Owner) → OwnAwaited net o w → is_busy w.session ≡ true → w.started ≡ true
busy_started net o w h b = by_started w.started refl
  where
    by_started : (t : Bool) → w.started ≡ t → t ≡ true
    by_started true e = refl
    by_started false e = absurd (true≢false (sym b ∙ ap is_busy (h.unstarted e).0))

busy_awake : (net : List Message) (o : ℕ) (w : Owner) → OwnAwaited net o w → is_busy w.session ≡ true → w.works.wait ≡ None
busy_awake net o w h b = by_wait w.works.wait refl
  where
    by_wait : (q : Option ℕ) → w.works.wait ≡ q → q ≡ None
    by_wait None e = refl
    by_wait (Some time) e = absurd (true≢false (sym b ∙ ap is_busy (h.waiting time e)))

-- an owner that waits has started
waiting_started : (net : List Message) (o : ℕ) (w : Owner) (time : ℕ) → OwnAwaited net o w → w.works.wait ≡ Some time → w.started ≡ true
waiting_started net o w time h e = by_started w.started refl
  where
    by_started : (t : Bool) → w.started ≡ t → t ≡ true
    by_started true f = refl
    by_started false f = absurd (none_is_not time (sym (h.unstarted f).1 ∙ e))

-- an owner comes to rest
pub resting_free : (net : List Message) (s : State) (o : ℕ) (w : Owner) → Resting s o w → OwnAwaited net o (owner_at s o) → IsFree w
resting_free net s o _ (plans e b) h = record { idle = refl; begun = refl; awake = refl }
resting_free net s o _ (past id x rest time l e) h = record { idle = refl; begun = waiting_started net o (owner_at s o) time h e; awake = refl }
resting_free net s o _ (fixed id x rest r e l a b d) h = record { idle = refl; begun = busy_started net o (owner_at s o) h (ap is_busy a); awake = refl }
resting_free net s o _ (cleared r e l a b d) h = record { idle = refl; begun = busy_started net o (owner_at s o) h (ap is_busy a); awake = busy_awake net o (owner_at s o) h (ap is_busy a) }

pub resting_none : (net : List Message) (s : State) (o : ℕ) (w : Owner) → Resting s o w → OwnAwaited net o (owner_at s o) → (slot m : ℕ) → get_or w.currents slot None ≡ Some m → ⊥
resting_none net s o _ (plans e b) h slot m f = idle_current net o (owner_at s o) slot m h (h.unstarted b).0 f
resting_none net s o _ (past id x rest time l e) h slot m f = idle_current net o (owner_at s o) slot m h (h.waiting time e) f
resting_none net s o _ (fixed id x rest r e l a b d) h slot m f = none_current slot m (subst (λ (cs : List (Option ℕ)). get_or cs slot None ≡ Some m) d f)
resting_none net s o _ (cleared r e l a b d) h slot m f = none_current slot m (subst (λ (cs : List (Option ℕ)). get_or cs slot None ≡ Some m) d f)

-- and goes from work to work
pub working_free : (at : Reading) (s : State) (o : ℕ) (w : Owner) → Working at s o w → IsFree (owner_at s o) → IsFree w
working_free at s o _ (owes_nothing id rest l) f = record { idle = refl; begun = f.begun; awake = refl }
working_free at s o _ (is_past id time rest l e) f = record { idle = refl; begun = f.begun; awake = refl }
working_free at s o _ (enters_own x l e g) f = record { idle = f.idle; begun = f.begun; awake = f.awake }

pub working_none : (at : Reading) (s : State) (o : ℕ) (w : Owner) → Working at s o w → w.currents ≡ (owner_at s o).currents
working_none at s o _ (owes_nothing id rest l) = refl
working_none at s o _ (is_past id time rest l e) = refl
working_none at s o _ (enters_own x l e g) = refl

-- an owner that has no current exchange turns to something else
turned_awaited : (net : List Message) (o : ℕ) (w : Owner) → ((slot m : ℕ) → get_or w.currents slot None ≡ Some m → ⊥) → w.started ≡ true → w.works.wait ≡ None → FixesOnly w.session → OwnAwaited net o w
turned_awaited net o w n b a f = record {
  awaited = λ slot m e. absurd (n slot m e);
  waiting = λ time e. absurd (none_is_not time (sym a ∙ e));
  unstarted = λ e. absurd (true≢false (sym b ∙ e));
  fixes = f;
}

-- an owner that awaits no exchange any more, and is otherwise as it was
closed_awaited : (net : List Message) (o : ℕ) (v w : Owner) → OwnAwaited net o v → w.currents ≡ no_currents → w.session ≡ v.session → w.works.wait ≡ v.works.wait → w.started ≡ v.started → OwnAwaited net o w
closed_awaited net o v w h a b d e = record {
  awaited = λ slot m f. absurd (none_current slot m (subst (λ (cs : List (Option ℕ)). get_or cs slot None ≡ Some m) a f));
  waiting = λ time f. b ∙ h.waiting time (sym d ∙ f);
  unstarted = λ f. let u = h.unstarted (sym e ∙ f) in (b ∙ u.0, d ∙ u.1);
  fixes = subst FixesOnly (sym b) h.fixes;
}

-- an owner leaves its works
pub leaving_awaited : (c : Config) (at : Reading) (net : List Message) (s : State) (o : ℕ) (w : Owner) (outs : List Out) → Leaving c at s o w outs → OwnAwaited net o (owner_at s o) → IsFree (owner_at s o) → OwnAwaited net o w
leaving_awaited c at net s o _ _ (waits id time rest l) h f = record {
  awaited = λ slot m e. h.awaited slot m e;
  waiting = λ t e. f.idle;
  unstarted = λ e. absurd (true≢false (sym f.begun ∙ e));
  fixes = h.fixes;
}
leaving_awaited c at net s o _ _ (fixes_work id rest l) h f = turned_awaited net o _ (λ slot m. idle_current net o (owner_at s o) slot m h f.idle) f.begun f.awake tt
leaving_awaited c at net s o _ _ (fixes_own x dep deps l e g) h f = turned_awaited net o _ (λ slot m. idle_current net o (owner_at s o) slot m h f.idle) f.begun f.awake tt
leaving_awaited c at net s o _ _ (asks_register key l e g) h f = turned_awaited net o _ (λ slot m. idle_current net o (owner_at s o) slot m h f.idle) f.begun f.awake tt
leaving_awaited c at net s o _ _ (stamps_register key value l e g) h f = turned_awaited net o _ (λ slot m. idle_current net o (owner_at s o) slot m h f.idle) f.begun f.awake tt
leaving_awaited c at net s o _ _ (begins_snapshot keys t l e g) h f = turned_awaited net o _ (λ slot m. idle_current net o (owner_at s o) slot m h f.idle) f.begun f.awake tt
leaving_awaited c at net s o _ _ (begins_txn reads guard writes t l e g) h f = turned_awaited net o _ (λ slot m. idle_current net o (owner_at s o) slot m h f.idle) f.begun f.awake tt
leaving_awaited c at net s o _ _ (fence_done l e) h f = closed_awaited net o (owner_at s o) _ h refl refl refl refl
leaving_awaited c at net s o _ _ (stub_done u l e) h f = record {
  awaited = λ slot m e. absurd (none_current slot m e);
  waiting = λ t e. f.idle;
  unstarted = λ e. absurd (true≢false (sym f.begun ∙ e));
  fixes = h.fixes;
}

pub leaving_fits : (c : Config) (at : Reading) (s : State) (o : ℕ) (w : Owner) (outs : List Out) → Leaving c at s o w outs → All (OutFits w.session) outs
leaving_fits c at s o _ _ (waits id time rest l) = All-nil (OutFits (session_at s o))
leaving_fits c at s o _ _ (fixes_work id rest l) = round_outs (fix_session c s o id)
leaving_fits c at s o _ _ (fixes_own x dep deps l e d) = round_outs _
leaving_fits c at s o _ _ (asks_register key l e d) = round_outs _
leaving_fits c at s o _ _ (stamps_register key value l e d) = round_outs _
leaving_fits c at s o _ _ (begins_snapshot keys t l e d) = λ k x i. tt
leaving_fits c at s o _ _ (begins_txn reads guard writes t l e d) = λ k x i. tt
leaving_fits c at s o _ _ (fence_done l e) = All-nil (OutFits (session_at s o))
leaving_fits c at s o _ _ (stub_done u l e) = All-nil (OutFits (session_at s o))

-- two rounds that ask the same
pub record SameRound (f g : RegSession) : Type 0 where
  pub call : g.call ≡ f.call
  pub work : g.work ≡ f.work
  pub service : g.service ≡ f.service
  pub phase : g.phase ≡ f.phase
  pub replicas : g.round.replicas ≡ f.round.replicas

asked_same : (net : List Message) (o : ℕ) (f g : RegSession) (slot m : ℕ) → SameRound f g → IsAsked net o f slot m → IsAsked net o g slot m
asked_same net o f g slot m e h = record {
  sent = h.sent;
  owner = h.owner;
  target = h.target ∙ ap (λ (id : ServiceId). Replica id (slot_replica slot)) (sym e.service);
  request = h.request;
  says = h.says;
  within = subst (λ (n : ℕ). slot < n) (sym e.replicas) h.within;
  of_phase = ap (λ (n : ℕ). phase_request n g.work g.phase) e.call ∙ (ap (λ (w : RegWork). phase_request f.call w g.phase) e.work ∙ (ap (λ (p : RegPhase). phase_request f.call f.work p) e.phase ∙ h.of_phase));
}

-- a round keeps its number of replicas
pub hears_replicas : (round : Round) (from : ℕ) (cell : RegReply) → (hears round from cell).replicas ≡ round.replicas
hears_replicas round from cell = cond_both (was_heard round from) round _ (λ (x : Round). x.replicas ≡ round.replicas) (λ t. refl) (λ f. refl)

-- a round that goes on asks the same
pub after_same : (f : RegSession) (from : ℕ) (r : Reply) → phase_end (session_after f from r).phase ≡ None → opens_round f.phase (session_after f from r).phase ≡ false → SameRound f (session_after f from r)
after_same f from r = by_reach (is_reached (hears f.round from (reply_cell r))) f.phase refl
  where
    h : RegSession
    h = record f { round = hears f.round from (reply_cell r) }

    by_reach : (t : Bool) (p : RegPhase) → f.phase ≡ p → phase_end (if t then reached h p else h).phase ≡ None → opens_round f.phase (if t then reached h p else h).phase ≡ false → SameRound f (if t then reached h p else h)
    by_reach false p e a b = record { call = refl; work = refl; service = refl; phase = refl; replicas = hears_replicas f.round from (reply_cell r) }
    by_reach true phase.Fixing e a b = absurd (some_is_not _ a)
    by_reach true phase.Asking e a b = absurd (some_is_not _ a)
    by_reach true phase.Stamping e a b = absurd (true≢false (ap (λ (p : RegPhase). opens_round p (phase.Storing (next_stamp (found_cell (greatest_heard h.round)).stamp h.call))) (sym e) ∙ b))
    by_reach true (phase.Storing stamp) e a b = absurd (some_is_not _ a)
    by_reach true (phase.Done end) e a b = record { call = refl; work = refl; service = refl; phase = refl; replicas = hears_replicas f.round from (reply_cell r) }

opens_false : (p q : RegPhase) → (p ≡ phase.Stamping → ⊥) → opens_round p q ≡ false
opens_false phase.Fixing q n = refl
opens_false phase.Asking q n = refl
opens_false phase.Stamping q n = absurd (n refl)
opens_false (phase.Storing stamp) q n = refl
opens_false (phase.Done end) q n = refl

fix_not_stamping : (call : ℕ) (w : RegWork) (p : RegPhase) (q : Request) → IsFix w → phase_request call w p ≡ Some q → p ≡ phase.Stamping → ⊥
fix_not_stamping call (work.Fix deps) p q i e f = none_is_not q (ap (λ (x : RegPhase). phase_request call (work.Fix deps) x) (sym f) ∙ e)
fix_not_stamping call (work.Read key) p q i e f = i
fix_not_stamping call (work.Write key value) p q i e f = i

without_same : (f : RegSession) (id : ServiceId) (replica : ℕ) → SameRound f (round_without f id replica)
without_same f id replica = cond_both (same_service f.service id) _ f (SameRound f) (λ t. record { call = refl; work = refl; service = refl; phase = refl; replicas = refl }) (λ t. record { call = refl; work = refl; service = refl; phase = refl; replicas = refl })

-- what is awaited with a replica cut off
without_awaited : (net : List Message) (o : ℕ) (x : Session) (id : ServiceId) (replica slot m : ℕ) → IsAwaited net o x slot m → IsAwaited net o (session_without x (Replica id replica)) slot m
without_awaited net o (session.Fixing r) id replica slot m h = asked_same net o r (round_without r id replica) slot m (without_same r id replica) h
without_awaited net o (session.Register r) id replica slot m h = asked_same net o r (round_without r id replica) slot m (without_same r id replica) h
without_awaited net o session.Idle id replica slot m h = h
without_awaited net o (session.Transaction t) id replica slot m h = h
without_awaited net o (session.Snapshot t) id replica slot m h = h
without_awaited net o (session.Settling attempt shards) id replica slot m h = h

without_idle : (x : Session) (id : ServiceId) (replica : ℕ) → x ≡ session.Idle → session_without x (Replica id replica) ≡ session.Idle
without_idle x id replica e = ap (λ (y : Session). session_without y (Replica id replica)) e

without_fixes : (x : Session) (id : ServiceId) (replica : ℕ) → FixesOnly x → FixesOnly (session_without x (Replica id replica))
without_fixes (session.Fixing r) id replica h = subst IsFix (sym (without_same r id replica).work) h
without_fixes (session.Register r) id replica h = tt
without_fixes session.Idle id replica h = tt
without_fixes (session.Transaction t) id replica h = tt
without_fixes (session.Snapshot t) id replica h = tt
without_fixes (session.Settling attempt shards) id replica h = tt

-- a heard slot was awaited
pub heard_awaited : (s : State) (o slot : ℕ) (r : Reply) (d : Heard s o slot r) → OwnAwaited s.net o (owner_at s o) → IsAwaited s.net o (session_at s o) slot (message_at s.net d.number).envelope.exchange
heard_awaited s o slot r d h = h.awaited slot _ (slot_current (owner_at s o).currents (message_at s.net d.number).envelope.exchange slot d.current)

-- an owner that turns from something under way to another
busy_awaited : (net : List Message) (o : ℕ) (v w : Owner) → OwnAwaited net o v → is_busy v.session ≡ true → ((slot m : ℕ) → get_or w.currents slot None ≡ Some m → IsAwaited net o w.session slot m) → w.works.wait ≡ v.works.wait → w.started ≡ v.started → FixesOnly w.session → OwnAwaited net o w
busy_awaited net o v w h b a d e f = record {
  awaited = a;
  waiting = λ time g. absurd (none_is_not time (sym (d ∙ busy_awake net o v h b) ∙ g));
  unstarted = λ g. absurd (true≢false (sym (e ∙ busy_started net o v h b) ∙ g));
  fixes = f;
}

fix_after : (f : RegSession) (from : ℕ) (r : Reply) → IsFix f.work → IsFix (session_after f from r).work
fix_after f from r h = subst IsFix (sym (after-stays f from r).0) h

under_fixes : (x : Session) (f : RegSession) → x ≡ session.Fixing f → FixesOnly x → IsFix f.work
under_fixes x f e h = subst FixesOnly e h

-- what an owner does besides
pub doing_awaited : (s : State) (o : ℕ) (w : Owner) (outs : List Out) (new : List Dep) → Doing s o w outs new → OwnAwaited s.net o (owner_at s o) → OwnAwaited s.net o w
doing_awaited s o _ _ _ (listens_one slot r d) h = record { awaited = λ k m e. h.awaited k m (current_less (owner_at s o).currents slot k m e).0; waiting = h.waiting; unstarted = h.unstarted; fixes = h.fixes }
doing_awaited s o _ _ _ (fix_hears f slot r x d e) h =
    let fits = under_fixes (session_at s o) f x h.fixes in
    let asked : IsAsked s.net o f slot (message_at s.net d.number).envelope.exchange = subst (λ (y : Session). IsAwaited s.net o y slot (message_at s.net d.number).envelope.exchange) x (heard_awaited s o slot r d h) in
    let same = after_same f (slot_replica slot) r e (opens_false f.phase _ (fix_not_stamping f.call f.work f.phase asked.request fits asked.of_phase)) in
    busy_awaited s.net o (owner_at s o) _ h (ap is_busy x)
    (λ k m g. asked_same s.net o f (session_after f (slot_replica slot) r) k m same (subst (λ (y : Session). IsAwaited s.net o y k m) x (h.awaited k m (current_less (owner_at s o).currents slot k m g).0)))
    refl refl (fix_after f (slot_replica slot) r fits)
doing_awaited s o _ _ _ (fix_reached f slot r g x d e) h =
    busy_awaited s.net o (owner_at s o) _ h (ap is_busy x) (λ k m i. absurd (none_current k m i)) refl refl (fix_after f (slot_replica slot) r (under_fixes (session_at s o) f x h.fixes))
doing_awaited s o _ _ _ (register_hears f slot r x d a e) h =
    busy_awaited s.net o (owner_at s o) _ h (ap is_busy x)
    (λ k m g. asked_same s.net o f (session_after f (slot_replica slot) r) k m (after_same f (slot_replica slot) r e a) (subst (λ (y : Session). IsAwaited s.net o y k m) x (h.awaited k m (current_less (owner_at s o).currents slot k m g).0)))
    refl refl tt
doing_awaited s o _ _ _ (register_stores f slot r x d a e) h = busy_awaited s.net o (owner_at s o) _ h (ap is_busy x) (λ k m i. absurd (none_current k m i)) refl refl tt
doing_awaited s o _ _ _ (register_reached f slot r g x d e) h = busy_awaited s.net o (owner_at s o) _ h (ap is_busy x) (λ k m i. absurd (none_current k m i)) refl refl tt
doing_awaited s o _ _ _ (read_ends f key cell dep x a b) h = closed_awaited s.net o (owner_at s o) _ h refl refl refl refl
doing_awaited s o _ _ _ (write_ends f key value e x a b) h = closed_awaited s.net o (owner_at s o) _ h refl refl refl refl
doing_awaited s o _ _ _ (txn_ends y t time a b d) h = closed_awaited s.net o (owner_at s o) _ h refl refl refl refl
doing_awaited s o _ _ _ (snap_ends y t time a b d) h = closed_awaited s.net o (owner_at s o) _ h refl refl refl refl
doing_awaited s o _ _ _ (counts_one target) h = record { awaited = h.awaited; waiting = h.waiting; unstarted = h.unstarted; fixes = h.fixes }
doing_awaited s o _ _ _ (cuts_one id replica) h = record {
  awaited = λ k m e. without_awaited s.net o (session_at s o) id replica k m (h.awaited k m (current_without s.net (Replica id replica) (owner_at s o).currents k m e));
  waiting = λ time e. without_idle (session_at s o) id replica (h.waiting time e);
  unstarted = λ e. let u = h.unstarted e in (without_idle (session_at s o) id replica u.0, u.1);
  fixes = without_fixes (session_at s o) id replica h.fixes;
}
doing_awaited s o _ _ _ (is_closed f) h = closed_awaited s.net o (owner_at s o) _ h refl refl refl refl
doing_awaited s o _ _ _ forgets_all h = closed_awaited s.net o (owner_at s o) _ h refl refl refl refl
doing_awaited s o _ _ _ (turns x outs y) h = turning_awaited x outs y
  where
    turning_awaited : (x : Session) (outs : List Out) → ShardTurning s o x outs → OwnAwaited s.net o (turned s o x)
    turning_awaited _ _ (txn_heard t l at r e) = busy_awaited s.net o (owner_at s o) _ h (ap is_busy e) (λ k m i. tt) refl refl tt
    turning_awaited _ _ (txn_woken t l e) = busy_awaited s.net o (owner_at s o) _ h (ap is_busy e) (λ k m i. tt) refl refl tt
    turning_awaited _ _ (txn_passed t e) = busy_awaited s.net o (owner_at s o) _ h (ap is_busy e) (λ k m i. tt) refl refl tt
    turning_awaited _ _ (snap_heard t l r e) = busy_awaited s.net o (owner_at s o) _ h (ap is_busy e) (λ k m i. tt) refl refl tt
    turning_awaited _ _ (snap_woken t l e) = busy_awaited s.net o (owner_at s o) _ h (ap is_busy e) (λ k m i. tt) refl refl tt
doing_awaited s o _ _ _ (stub_asks attempt shards e b) h =
    let u = h.unstarted b in
    turned_awaited s.net o _ (λ slot m. idle_current s.net o (owner_at s o) slot m h u.0) refl u.1 tt

turning_fits : (s : State) (o : ℕ) (x : Session) (outs : List Out) → ShardTurning s o x outs → All (OutFits x) outs
turning_fits s o _ _ (txn_heard t l at r e) = λ k x i. tt
turning_fits s o _ _ (txn_woken t l e) = λ k x i. tt
turning_fits s o _ _ (txn_passed t e) = λ k x i. tt
turning_fits s o _ _ (snap_heard t l r e) = λ k x i. tt
turning_fits s o _ _ (snap_woken t l e) = λ k x i. tt

pub doing_fits : (s : State) (o : ℕ) (w : Owner) (outs : List Out) (new : List Dep) → Doing s o w outs new → All (OutFits w.session) outs
doing_fits s o _ _ _ (listens_one slot r d) = All-nil (OutFits (session_at s o))
doing_fits s o _ _ _ (fix_hears f slot r x d e) = All-nil (RoundOut (session_after f (slot_replica slot) r))
doing_fits s o _ _ _ (fix_reached f slot r g x d e) = All-nil (RoundOut (session_after f (slot_replica slot) r))
doing_fits s o _ _ _ (register_hears f slot r x d a e) = All-nil (RoundOut (session_after f (slot_replica slot) r))
doing_fits s o _ _ _ (register_stores f slot r x d a e) = round_outs _
doing_fits s o _ _ _ (register_reached f slot r g x d e) = All-nil (RoundOut (session_after f (slot_replica slot) r))
doing_fits s o _ _ _ (read_ends f key cell dep x a b) = All-nil (OutFits (session_at s o))
doing_fits s o _ _ _ (write_ends f key value e x a b) = All-nil (OutFits (session_at s o))
doing_fits s o _ _ _ (txn_ends y t time a b d) = All-nil (OutFits (session_at s o))
doing_fits s o _ _ _ (snap_ends y t time a b d) = All-nil (OutFits (session_at s o))
doing_fits s o _ _ _ (counts_one target) = All-nil (OutFits (session_at s o))
doing_fits s o _ _ _ (cuts_one service replica) = All-nil (OutFits (session_without (session_at s o) (Replica service replica)))
doing_fits s o _ _ _ (is_closed f) = All-nil (OutFits (session_at s o))
doing_fits s o _ _ _ forgets_all = All-nil (OutFits (session_at s o))
doing_fits s o _ _ _ (turns x outs y) = turning_fits s o x outs y
doing_fits s o _ _ _ (stub_asks attempt shards e b) =
    All-cons (OutFits (session.Settling attempt shards)) _ [] (λ slot f. sym (some_is (line_slot (least_shard shards)) slot f)) (All-nil (OutFits (session.Settling attempt shards)))
