-- The stamp that a call stores, or has stored, is of that call.
use Rattle.std.proofs.Common.{◌≡◌, ℕ, zero, suc, Bool, true, false, List, [], ◌∷◌, ◌++◌, length, get_or, Option, Some, None, refl, ap, sym, ◌∙◌, subst}
use Rattle.std.specs.Prelude.{⊤}
use Rattle.std.proofs.Math.ListN.{set}
use Rattle.std.proofs.lemmas.Bool.{cond_both}
use Rattle.truetime.specs.Reading.{Reading}
use Rattle.rss_names.specs.declared.attempt.Attempt.{Attempt}
use Rattle.rss_names.specs.declared.service.ServiceId.{ServiceId}
use Rattle.rss_names.specs.declared.service.Target.TheVariants.{Replica}
use Rattle.rss_names.specs.Services.{same_service}
use Rattle.causal_context.specs.declared.dep.Dep.{Dep}
use Rattle.pipeline_lang.specs.declared.config.Config.{Config}
use Rattle.rss_wire.specs.Messages.{message_at}
use Rattle.rss_wire.specs.declared.messages.Outcome.{Outcome}
use Rattle.rss_wire.specs.declared.messages.RegReply.{RegReply}
use Rattle.rss_wire.specs.declared.messages.Reply.{Reply}
use Rattle.rss_tables.specs.Lines.{tells_decision}
use Rattle.rss_tables.specs.Outs.{Out}
use Rattle.rss_tables.specs.RegisterSession.{RegSession, session_after, reached, reply_cell, read_end, found_cell}
use Rattle.rss_tables.specs.Round.{hears, is_reached, greatest_heard, is_agreed}
use Rattle.rss_tables.specs.declared.register_session.RegEnd.TheVariants as ends
use Rattle.rss_tables.specs.declared.register_session.RegPhase.{RegPhase}
use Rattle.rss_tables.specs.declared.register_session.RegPhase.TheVariants as phase
use Rattle.rss_tables.specs.declared.register_session.RegWork.{RegWork}
use Rattle.rss_tables.specs.declared.register_session.RegWork.TheVariants as work
use Rattle.rss_machine.specs.Moves.{sends_one, sends, session_without, listens, plans_stub}
use Rattle.rss_machine.specs.Run.{run}
use Rattle.rss_machine.specs.Session.{Session}
use Rattle.rss_machine.specs.State.{State, Owner, start, no_owner}
use Rattle.rss_machine.specs.declared.session.Session.TheVariants as session
use Rattle.rss_machine.specs.declared.step.Step.{Step}
use Rattle.world_laws.proofs.Doings.{Resting, plans, past, fixed, cleared, Working, owes_nothing, is_past, enters_own, Leaving, waits, fixes_work, fixes_own, asks_register, stamps_register, begins_snapshot, begins_txn, fence_done, stub_done, ShardTurning, txn_heard, txn_woken, txn_passed, snap_heard, snap_woken, Doing, listens_one, fix_hears, fix_reached, register_hears, register_stores, register_reached, read_ends, write_ends, txn_ends, snap_ends, counts_one, cuts_one, is_closed, forgets_all, turns, stub_asks}
use Rattle.world_laws.proofs.Looks.{some_is, none_is_not}
use Rattle.world_laws.proofs.SessionMoves.{session_at}
use Rattle.world_laws.proofs.Stacked.{OwnerKeepsUnder}
use Rattle.std.specs.Prelude.{◌==◌, if◌then◌else◌}
use Rattle.std.proofs.lemmas.Bool.{eqb-true}
use Rattle.carstamps.specs.Stamp.{next_stamp}
use Rattle.rss_tables.specs.Outs.{slot_replica}
use Rattle.world_laws.proofs.Doings.{listened}
use Rattle.std.proofs.lemmas.Bool.{and_parts}
use Rattle.carstamps.specs.declared.carstamp.Carstamp.{Carstamp}
use Rattle.world_laws.specs.Registers.{NamesRegisters}
use Rattle.world_laws.proofs.StoresOwn.{Owned, session_own, round_own, phase_own}
use Rattle.reg_laws.proofs.Awaiting.{set_each, grow_each}
use Rattle.reg_laws.proofs.Awaits.{beginning_idle}
use Rattle.reg_laws.proofs.Base.{Known, KnownAt, owned_of, known_run}

-- the stamp that a phase stores, or has stored
abbrev pub phase_stored : RegPhase → Option Carstamp
phase_stored phase.Fixing = None
phase_stored phase.Asking = None
phase_stored phase.Stamping = None
phase_stored (phase.Storing stamp) = Some stamp
phase_stored (phase.Done (ends.Written stamp)) = Some stamp
phase_stored (phase.Done (ends.Read cell dep)) = None
phase_stored (phase.Done ends.Fixed) = None

-- the phases of a work
abbrev pub PhaseFits : RegWork → RegPhase → Type 0
PhaseFits (work.Read key) phase.Asking = ⊤
PhaseFits (work.Read key) (phase.Done (ends.Read cell dep)) = ⊤
PhaseFits (work.Read key) phase.Fixing = ⊥
PhaseFits (work.Read key) phase.Stamping = ⊥
PhaseFits (work.Read key) (phase.Storing stamp) = ⊥
PhaseFits (work.Read key) (phase.Done (ends.Written stamp)) = ⊥
PhaseFits (work.Read key) (phase.Done ends.Fixed) = ⊥
PhaseFits (work.Write key value) phase.Stamping = ⊤
PhaseFits (work.Write key value) (phase.Storing stamp) = ⊤
PhaseFits (work.Write key value) (phase.Done (ends.Written stamp)) = ⊤
PhaseFits (work.Write key value) phase.Fixing = ⊥
PhaseFits (work.Write key value) phase.Asking = ⊥
PhaseFits (work.Write key value) (phase.Done (ends.Read cell dep)) = ⊥
PhaseFits (work.Write key value) (phase.Done ends.Fixed) = ⊥
PhaseFits (work.Fix deps) p = ⊥

-- a call's round is in a phase of its work, and the stamp that it stores, or has stored, is of the call
pub record CallRound (o : ℕ) (r : RegSession) : Type 0 where
  pub own : (stamp : Carstamp) → phase_stored r.phase ≡ Some stamp → stamp.call ≡ o
  pub fits : PhaseFits r.work r.phase

abbrev pub StampOwn : ℕ → Session → Type 0
StampOwn o (session.Register r) = CallRound o r
StampOwn o session.Idle = ⊤
StampOwn o (session.Fixing r) = ⊤
StampOwn o (session.Transaction t) = ⊤
StampOwn o (session.Snapshot t) = ⊤
StampOwn o (session.Settling attempt shards) = ⊤

-- each call's stamp is its own
pub record OwnStamps (s : State) : Type 0 where
  pub each : (o : ℕ) → StampOwn o (session_at s o)

-- a round that hears a reply keeps its stamp, or takes one of its own call
after_stamp : (o : ℕ) (f : RegSession) (from : ℕ) (r : Reply) → f.call ≡ o → CallRound o f → CallRound o (session_after f from r)
after_stamp o f from r e h = by_reach (is_reached (hears f.round from (reply_cell r))) f.work f.phase refl refl h.fits
  where
    g : RegSession
    g = record f { round = hears f.round from (reply_cell r) }

    by_reach : (t : Bool) (w : RegWork) (p : RegPhase) → f.work ≡ w → f.phase ≡ p → PhaseFits w p → CallRound o (if t then reached g p else g)
    by_reach false w p a d k = record { own = h.own; fits = h.fits }
    by_reach true (work.Read key) phase.Asking a d k = record {
      own = λ stamp b. absurd (read_none f.work (found_cell (greatest_heard g.round)) (is_agreed g.round) stamp b);
      fits = subst (λ (x : RegWork). PhaseFits x (phase.Done (read_end x (found_cell (greatest_heard g.round)) (is_agreed g.round)))) (sym a) tt;
    }
      where
        read_none : (w : RegWork) (cell : RegReply) (agreed : Bool) (stamp : Carstamp) → phase_stored (phase.Done (read_end w cell agreed)) ≡ Some stamp → ⊥
        read_none (work.Read key) cell agreed stamp a = none_is_not stamp a
        read_none (work.Write key value) cell agreed stamp a = none_is_not stamp a
        read_none (work.Fix deps) cell agreed stamp a = none_is_not stamp a
    by_reach true (work.Read key) (phase.Done end) a d k = record { own = h.own; fits = h.fits }
    by_reach true (work.Read key) phase.Fixing a d k = absurd k
    by_reach true (work.Read key) phase.Stamping a d k = absurd k
    by_reach true (work.Read key) (phase.Storing stamp) a d k = absurd k
    by_reach true (work.Write key value) phase.Stamping a d k = record {
      own = λ stamp b. ap (λ (z : Carstamp). z.call) (sym (some_is (next_stamp (found_cell (greatest_heard g.round)).stamp f.call) stamp b)) ∙ e;
      fits = subst (λ (x : RegWork). PhaseFits x (phase.Storing (next_stamp (found_cell (greatest_heard g.round)).stamp f.call))) (sym a) tt;
    }
    by_reach true (work.Write key value) (phase.Storing z) a d k = record { own = λ stamp b. h.own stamp (ap phase_stored d ∙ b); fits = subst (λ (x : RegWork). PhaseFits x (phase.Done (ends.Written z))) (sym a) tt }
    by_reach true (work.Write key value) (phase.Done end) a d k = record { own = h.own; fits = h.fits }
    by_reach true (work.Write key value) phase.Fixing a d k = absurd k
    by_reach true (work.Write key value) phase.Asking a d k = absurd k
    by_reach true (work.Fix deps) p a d k = absurd k

without_stamp : (o : ℕ) (x : Session) (id : ServiceId) (replica : ℕ) → StampOwn o x → StampOwn o (session_without x (Replica id replica))
without_stamp o (session.Register r) id replica h = cond_both (same_service r.service id) _ r (CallRound o) (λ t. record { own = h.own; fits = h.fits }) (λ t. h)
without_stamp o (session.Fixing r) id replica h = tt
without_stamp o session.Idle id replica h = tt
without_stamp o (session.Transaction t) id replica h = tt
without_stamp o (session.Snapshot t) id replica h = tt
without_stamp o (session.Settling attempt shards) id replica h = tt

leaving_stamp : (c : Config) (at : Reading) (s : State) (o : ℕ) (w : Owner) (outs : List Out) → Leaving c at s o w outs → StampOwn o (session_at s o) → StampOwn o w.session
leaving_stamp c at s o _ _ (waits id time rest l) h = h
leaving_stamp c at s o _ _ (fixes_work id rest l) h = tt
leaving_stamp c at s o _ _ (fixes_own x dep deps l e d) h = tt
leaving_stamp c at s o _ _ (asks_register key l e d) h = record { own = λ stamp a. absurd (none_is_not stamp a); fits = tt }
leaving_stamp c at s o _ _ (stamps_register key value l e d) h = record { own = λ stamp a. absurd (none_is_not stamp a); fits = tt }
leaving_stamp c at s o _ _ (begins_snapshot keys t l e d) h = tt
leaving_stamp c at s o _ _ (begins_txn reads guard writes t l e d) h = tt
leaving_stamp c at s o _ _ (fence_done l e) h = h
leaving_stamp c at s o _ _ (stub_done u l e) h = h

working_stamp : (at : Reading) (s : State) (o : ℕ) (w : Owner) → Working at s o w → StampOwn o (session_at s o) → StampOwn o w.session
working_stamp at s o _ (owes_nothing id rest l) h = tt
working_stamp at s o _ (is_past id time rest l e) h = tt
working_stamp at s o _ (enters_own x l e f) h = h

resting_stamp : (s : State) (o : ℕ) (w : Owner) → Resting s o w → StampOwn o w.session
resting_stamp s o _ (plans e b) = tt
resting_stamp s o _ (past id x rest time l e) = tt
resting_stamp s o _ (fixed id x rest r e l a b d) = tt
resting_stamp s o _ (cleared r e l a b d) = tt

turning_stamp : (s : State) (o : ℕ) (x : Session) (outs : List Out) → ShardTurning s o x outs → StampOwn o x
turning_stamp s o _ _ (txn_heard t l at r e) = tt
turning_stamp s o _ _ (txn_woken t l e) = tt
turning_stamp s o _ _ (txn_passed t e) = tt
turning_stamp s o _ _ (snap_heard t l r e) = tt
turning_stamp s o _ _ (snap_woken t l e) = tt

-- a register session is its owner's
pub round_call : (s : State) (o : ℕ) (f : RegSession) → Owned s → session_at s o ≡ session.Register f → f.call ≡ o
round_call s o f h x =
    let e : round_own o f ≡ true = subst (λ (y : Session). session_own o y ≡ true) x (h.sessions o) in
    eqb-true f.call o (and_parts (f.call == o) (phase_own o f.phase) e).0

doing_stamp : (s : State) (o : ℕ) (w : Owner) (outs : List Out) (new : List Dep) → Doing s o w outs new → Owned s → StampOwn o (session_at s o) → StampOwn o w.session
doing_stamp s o _ _ _ (listens_one slot r d) g h = h
doing_stamp s o _ _ _ (fix_hears f slot r x d e) g h = tt
doing_stamp s o _ _ _ (fix_reached f slot r y x d e) g h = tt
doing_stamp s o _ _ _ (register_hears f slot r x d a e) g h = after_stamp o f (slot_replica slot) r (round_call s o f g x) (subst (StampOwn o) x h)
doing_stamp s o _ _ _ (register_stores f slot r x d a e) g h = after_stamp o f (slot_replica slot) r (round_call s o f g x) (subst (StampOwn o) x h)
doing_stamp s o _ _ _ (register_reached f slot r y x d e) g h = after_stamp o f (slot_replica slot) r (round_call s o f g x) (subst (StampOwn o) x h)
doing_stamp s o _ _ _ (read_ends f key cell dep x a b) g h = h
doing_stamp s o _ _ _ (write_ends f key value e x a b) g h = h
doing_stamp s o _ _ _ (txn_ends y t time a b d) g h = h
doing_stamp s o _ _ _ (snap_ends y t time a b d) g h = h
doing_stamp s o _ _ _ (counts_one target) g h = h
doing_stamp s o _ _ _ (cuts_one id replica) g h = without_stamp o (session_at s o) id replica h
doing_stamp s o _ _ _ (is_closed f) g h = h
doing_stamp s o _ _ _ forgets_all g h = h
doing_stamp s o _ _ _ (turns x outs y) g h = turning_stamp s o x outs y
doing_stamp s o _ _ _ (stub_asks attempt shards e b) g h = tt

stamps_set : (s t : State) (o : ℕ) (w : Owner) → t.owners ≡ set s.owners o w → StampOwn o w.session → OwnStamps s → OwnStamps t
stamps_set s t o w d v h = record { each = subst (λ (owners : List Owner). (i : ℕ) → StampOwn i (get_or owners i no_owner).session) (sym d) (set_each (λ i x. StampOwn i x.session) s.owners o w v h.each) }

stamps_grow : (s t : State) (w : Owner) → t.owners ≡ s.owners ++ w ∷ [] → w.session ≡ session.Idle → OwnStamps s → OwnStamps t
stamps_grow s t w d e h = record { each = subst (λ (owners : List Owner). (i : ℕ) → StampOwn i (get_or owners i no_owner).session) (sym d) (grow_each (λ i x. StampOwn i x.session) s.owners w (subst (StampOwn (length s.owners)) (sym e) tt) h.each) }

stamps_one : (o : ℕ) (s : State) (out : Out) → OwnStamps s → OwnStamps (sends_one s o out)
stamps_one o s out h = record { each = set_each (λ i x. StampOwn i x.session) s.owners o _ (h.each o) h.each }

stamps_sends : (o : ℕ) (outs : List Out) (s : State) → OwnStamps s → OwnStamps (sends s o outs)
stamps_sends o [] s h = h
stamps_sends o (out ∷ outs) s h = stamps_sends o outs (sends_one s o out) (stamps_one o s out h)

stamps_settles : (s : State) (o slot : ℕ) (a : Attempt) (shards : List ℕ) (outcome : Outcome) → OwnStamps s → OwnStamps (plans_stub (sends (listens s o slot) o (tells_decision a outcome shards)) o)
stamps_settles s o slot a shards outcome h =
    let u = listens s o slot in
    let v = sends u o (tells_decision a outcome shards) in
    let q : OwnStamps u = stamps_set s u o (listened s o slot) refl (h.each o) h in
    let p : OwnStamps v = stamps_sends o (tells_decision a outcome shards) u q in
    stamps_set v (plans_stub v o) o _ refl tt p

pub own_stamps_under : (c : Config) (at : Reading) → OwnerKeepsUnder c at (Known c) (KnownAt c) OwnStamps (λ s o. OwnStamps s)
own_stamps_under c at = record {
  fates = λ s m f g h. record { each = h.each };
  shards = λ s m shard r d g h. record { each = h.each };
  replicas = λ s m id replica r d g h. record { each = set_each (λ i x. StampOwn i x.session) s.owners (message_at s.net m).envelope.owner _ (h.each (message_at s.net m).envelope.owner) h.each };
  again = λ s o exchange slot target r d g h. stamps_one o s (record { slot = Some slot; target = target; request = r }) h;
  stages = λ s t d g h. record { each = subst (λ (owners : List Owner). (i : ℕ) → StampOwn i (get_or owners i no_owner).session) (sym d.owned) h.each };
  dies = λ s t m u d g h. stamps_grow s t _ d.owned refl h;
  begins = λ s t w b d g h. stamps_grow s t w d.owned (beginning_idle c s w b) h;
  rests = λ s t o w i b d g h. stamps_set s t o w d.owned (resting_stamp s o w b) h;
  settles = λ s o slot a shards outcome i e d g h. stamps_settles s o slot a shards outcome h;
  settled = λ s o g h. h;
  works = λ s t o w i b d g h. stamps_set s t o w d.owned (working_stamp at s o w b (h.each o)) h;
  leaves = λ s t o w outs i b d g h. stamps_sends o outs t (stamps_set s t o w d.owned (leaving_stamp c at s o w outs b (h.each o)) h);
  does = λ s t o w outs new b d g h. stamps_sends o outs t (stamps_set s t o w d.owned (doing_stamp s o w outs new b (owned_of c s g) (h.each o)) h);
}

pub own_stamps_run : (c : Config) (steps : List Step) (s : State) → NamesRegisters c → run c steps ≡ Some s → OwnStamps s
own_stamps_run c steps s n e = (known_run c n OwnStamps (λ t o. OwnStamps t) (own_stamps_under c) (λ t at h. record { each = h.each }) (record { each = each }) steps s e).1
  where
    each : (o : ℕ) → StampOwn o (session_at (start c) o)
    each zero = tt
    each (suc o) = tt
