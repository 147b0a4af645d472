-- What rounds hear, leave and go on with was stored.
use Rattle.std.proofs.Common.{◌≡◌, ℕ, Bool, true, false, List, [], All, Option, Some, None, refl, ap, sym, ◌∙◌, subst, arith}
use Rattle.std.proofs.lemmas.Bool.{cond_both}
use Rattle.std.proofs.lemmas.List.Elements.{All-cons, All-nil}
use Rattle.truetime.specs.Reading.{Reading}
use Rattle.rss_names.specs.declared.service.Key.{Key}
use Rattle.rss_names.specs.declared.service.ServiceId.{ServiceId}
use Rattle.rss_names.specs.declared.service.Target.TheVariants.{Replica}
use Rattle.rss_names.specs.Services.{same_service}
use Rattle.causal_context.specs.declared.dep.Dep.{Dep}
use Rattle.pipeline_lang.specs.declared.config.Config.{Config}
use Rattle.rss_wire.specs.Messages.{message_at}
use Rattle.rss_wire.specs.declared.message.Body.TheVariants as body
use Rattle.rss_wire.specs.declared.messages.RegReply.{RegReply}
use Rattle.rss_wire.specs.declared.messages.Reply.{Reply}
use Rattle.rss_wire.specs.declared.messages.Reply.TheVariants as reply
use Rattle.rss_wire.specs.declared.messages.Request.{Request}
use Rattle.rss_wire.specs.declared.messages.Request.TheVariants as request
use Rattle.rss_tables.specs.Outs.{Out}
use Rattle.rss_tables.specs.RegisterSession.{RegSession, phase_request, session_after, reached, reply_cell, read_end, read_dep, found_cell}
use Rattle.rss_tables.specs.Round.{hears, is_reached, greatest_heard, is_agreed}
use Rattle.rss_tables.specs.declared.register_session.RegEnd.{RegEnd}
use Rattle.rss_tables.specs.declared.register_session.RegEnd.TheVariants as ends
use Rattle.rss_tables.specs.declared.register_session.RegPhase.{RegPhase}
use Rattle.rss_tables.specs.declared.register_session.RegPhase.TheVariants as phase
use Rattle.rss_tables.specs.declared.register_session.RegWork.{RegWork}
use Rattle.rss_tables.specs.declared.register_session.RegWork.TheVariants as work
use Rattle.rss_machine.specs.Calls.{session_for}
use Rattle.rss_machine.specs.Moves.{session_without}
use Rattle.rss_machine.specs.Session.{Session}
use Rattle.rss_machine.specs.State.{State, Owner, owner_at, no_owner}
use Rattle.rss_machine.specs.declared.session.Session.TheVariants as session
use Rattle.world_laws.proofs.Doings.{Heard, Resting, plans, past, fixed, cleared, Working, owes_nothing, is_past, enters_own, Leaving, waits, fixes_work, fixes_own, asks_register, stamps_register, begins_snapshot, begins_txn, fence_done, stub_done, ShardTurning, txn_heard, txn_woken, txn_passed, snap_heard, snap_woken, Doing, listens_one, fix_hears, fix_reached, register_hears, register_stores, register_reached, read_ends, write_ends, txn_ends, snap_ends, counts_one, cuts_one, is_closed, forgets_all, turns, stub_asks}
use Rattle.world_laws.proofs.Looks.{some_is, none_is_not}
use Rattle.world_laws.proofs.SessionMoves.{session_at}
use Rattle.world_laws.proofs.Replies.{Sound}
use Rattle.std.proofs.Common.{inl, inr}
use Rattle.std.proofs.lemmas.Bool.{true≢false}
use Rattle.rss_tables.specs.Outs.{slot_replica}
use Rattle.reg_laws.specs.Awaited.{IsAsked, IsAwaited, IsRound}
use Rattle.carstamps.specs.declared.carstamp.Carstamp.{Carstamp}
use Rattle.rss_tables.specs.RegisterSession.{work_key, first_phase}
use Rattle.rss_machine.specs.Session.{service_of}
use Rattle.world_laws.proofs.Contexts.{at_place, of_hold, copy_holds}
use Rattle.world_laws.proofs.Named.{phase_deps, end_deps}
use Rattle.reg_laws.specs.Stored.{IsValid, DepIsValid}
use Rattle.reg_laws.proofs.Awaiting.{Awaiting}
use Rattle.reg_laws.proofs.AwaitsOf.{heard_awaited}
use Rattle.reg_laws.proofs.Base.{Known, sound_of}
use Rattle.reg_laws.proofs.Valid.{found_holds, hears_holds, nobody_holds, work_deps, asks_about, AboveIn, RoundValid, SessionValid, OwnerValid, ValidIn, Valid}

-- whether a session is done
abbrev is_done : RegPhase → Bool
is_done phase.Fixing = false
is_done phase.Asking = false
is_done phase.Stamping = false
is_done (phase.Storing stamp) = false
is_done (phase.Done end) = true

-- a round that has reached a majority leaves what it heard
read_cell : (w : RegWork) (cell other : RegReply) (agreed : Bool) (dep : Option Dep) → phase.Done (read_end w cell agreed) ≡ phase.Done (ends.Read other dep) → cell ≡ other
read_cell (work.Read key) cell other agreed dep e = read_same cell other (read_dep key cell agreed) dep e
  where
    read_same : (a b : RegReply) (d f : Option Dep) → phase.Done (ends.Read a d) ≡ phase.Done (ends.Read b f) → a ≡ b
    read_same a b d f e = cc
read_cell (work.Write key value) cell other agreed dep e = read_same cell other None dep e
  where
    read_same : (a b : RegReply) (d f : Option Dep) → phase.Done (ends.Read a d) ≡ phase.Done (ends.Read b f) → a ≡ b
    read_same a b d f e = cc
read_cell (work.Fix deps) cell other agreed dep e = read_same cell other None dep e
  where
    read_same : (a b : RegReply) (d f : Option Dep) → phase.Done (ends.Read a d) ≡ phase.Done (ends.Read b f) → a ≡ b
    read_same a b d f e = cc

read_left : (known : State) (w : RegWork) (cell : RegReply) (agreed : Bool) → ((key : Key) → work_key w ≡ Some key → IsValid known key cell) → All (DepIsValid known) (end_deps (read_end w cell agreed))
read_left known (work.Write key value) cell agreed h = All-nil (DepIsValid known)
read_left known (work.Fix deps) cell agreed h = All-nil (DepIsValid known)
read_left known (work.Read key) cell true h = All-nil (DepIsValid known)
read_left known (work.Read key) cell false h = All-cons (DepIsValid known) (record { key = key; value = cell.value; stamp = cell.stamp; writer = cell.writer }) [] (h key refl) (All-nil (DepIsValid known))

read_above : (w : RegWork) (cell : RegReply) (agreed : Bool) → AboveIn (phase.Done (read_end w cell agreed))
read_above (work.Read key) cell agreed = tt
read_above (work.Write key value) cell agreed = tt
read_above (work.Fix deps) cell agreed = tt

reached_valid : (known : State) (r : RegSession) (p : RegPhase) → r.phase ≡ p → RoundValid known r → RoundValid known (reached r p)
reached_valid known r phase.Fixing e h = record {
  heard = h.heard;
  fixes = h.fixes;
  cells = λ key cell dep i f. absurd (fixed_not_read cell dep f);
  left = All-nil (DepIsValid known);
  above = tt;
}
  where
    fixed_not_read : (cell : RegReply) (dep : Option Dep) → phase.Done ends.Fixed ≡ phase.Done (ends.Read cell dep) → ⊥
    fixed_not_read cell dep e = cc
reached_valid known r phase.Asking e h =
    let found : (key : Key) → work_key r.work ≡ Some key → IsValid known key (found_cell (greatest_heard r.round)) = λ key i. found_holds (IsValid known key) r.round (inl refl) (h.heard key i) in
    record {
      heard = h.heard;
      fixes = h.fixes;
      cells = λ key cell dep i f. subst (IsValid known key) (read_cell r.work (found_cell (greatest_heard r.round)) cell (is_agreed r.round) dep f) (found key i);
      left = read_left known r.work (found_cell (greatest_heard r.round)) (is_agreed r.round) found;
      above = read_above r.work (found_cell (greatest_heard r.round)) (is_agreed r.round);
    }
reached_valid known r phase.Stamping e h = record {
  heard = λ key i. nobody_holds (IsValid known key);
  fixes = h.fixes;
  cells = λ key cell dep i f. absurd (storing_not_done _ (ends.Read cell dep) f);
  left = All-nil (DepIsValid known);
  above = omega arith;
}
  where
    storing_not_done : (x : Carstamp) (d : RegEnd) → phase.Storing x ≡ phase.Done d → ⊥
    storing_not_done x d e = cc
reached_valid known r (phase.Storing stamp) e h = record {
  heard = h.heard;
  fixes = h.fixes;
  cells = λ key cell dep i f. absurd (written_not_read stamp cell dep f);
  left = All-nil (DepIsValid known);
  above = subst AboveIn e h.above;
}
  where
    written_not_read : (x : Carstamp) (cell : RegReply) (dep : Option Dep) → phase.Done (ends.Written x) ≡ phase.Done (ends.Read cell dep) → ⊥
    written_not_read x cell dep e = cc
reached_valid known r (phase.Done end) e h = h

after_valid : (known : State) (f : RegSession) (from : ℕ) (r : Reply) → ((key : Key) → work_key f.work ≡ Some key → IsValid known key (reply_cell r)) → RoundValid known f → RoundValid known (session_after f from r)
after_valid known f from r v h = cond_both (is_reached g.round) (reached g f.phase) g (RoundValid known) (λ t. reached_valid known g f.phase refl heard) (λ t. heard)
  where
    g : RegSession
    g = record f { round = hears f.round from (reply_cell r) }

    heard : RoundValid known g
    heard = record {
      heard = λ key e. hears_holds (IsValid known key) f.round from (reply_cell r) (v key e) (h.heard key e);
      fixes = h.fixes;
      cells = h.cells;
      left = h.left;
      above = h.above;
    }

without_valid : (known : State) (x : Session) (id : ServiceId) (replica : ℕ) → SessionValid known x → SessionValid known (session_without x (Replica id replica))
without_valid known (session.Fixing r) id replica h = cond_both (same_service r.service id) _ r (RoundValid known) (λ t. record { heard = h.heard; fixes = h.fixes; cells = h.cells; left = h.left; above = h.above }) (λ t. h)
without_valid known (session.Register r) id replica h = cond_both (same_service r.service id) _ r (RoundValid known) (λ t. record { heard = h.heard; fixes = h.fixes; cells = h.cells; left = h.left; above = h.above }) (λ t. h)
without_valid known session.Idle id replica h = tt
without_valid known (session.Transaction t) id replica h = tt
without_valid known (session.Snapshot t) id replica h = tt
without_valid known (session.Settling attempt shards) id replica h = tt

-- a round that begins
opening_valid : (known : State) (c : Config) (s : State) (o : ℕ) (w : RegWork) (id : ServiceId) → All (DepIsValid known) (work_deps w) → RoundValid known (session_for c s o w id)
opening_valid known c s o w id d = record {
  heard = λ key e. nobody_holds (IsValid known key);
  fixes = d;
  cells = λ key cell dep e f. absurd (first_not_done w (ends.Read cell dep) f);
  left = first_left w;
  above = first_above w;
}
  where
    plain : (x : RegPhase) (d : RegEnd) → is_done x ≡ false → x ≡ phase.Done d → ⊥
    plain x d f e = true≢false (sym (ap is_done e) ∙ f)

    first_plain : (w : RegWork) → is_done (first_phase w) ≡ false
    first_plain (work.Fix deps) = refl
    first_plain (work.Read key) = refl
    first_plain (work.Write key value) = refl

    first_not_done : (w : RegWork) (d : RegEnd) → first_phase w ≡ phase.Done d → ⊥
    first_not_done w d e = plain (first_phase w) d (first_plain w) e

    first_above : (w : RegWork) → AboveIn (first_phase w)
    first_above (work.Fix deps) = tt
    first_above (work.Read key) = tt
    first_above (work.Write key value) = tt

    first_left : (w : RegWork) → All (DepIsValid known) (phase_deps (first_phase w))
    first_left (work.Fix deps) = All-nil (DepIsValid known)
    first_left (work.Read key) = All-nil (DepIsValid known)
    first_left (work.Write key value) = All-nil (DepIsValid known)

-- an owner that is there, and its session
pub session_valid : (c : Config) (known : State) (s : State) (o : ℕ) → ValidIn c known s → SessionValid known (session_at s o)
session_valid c known s o h = at_place (OwnerValid known) s.owners o no_owner tt h.owners

-- a heard reply is of what was stored
phase_about : (call : ℕ) (w : RegWork) (p : RegPhase) (q : Request) (key : Key) → phase_request call w p ≡ Some q → work_key w ≡ Some key → asks_about q ≡ Some key
phase_about call (work.Fix deps) p q key a b = absurd (none_is_not key b)
phase_about call (work.Read k) phase.Fixing q key a b = absurd (none_is_not q a)
phase_about call (work.Read k) phase.Asking q key a b = subst (λ (r : Request). asks_about r ≡ Some key) (some_is (request.Ask k) q a) b
phase_about call (work.Read k) phase.Stamping q key a b = absurd (none_is_not q a)
phase_about call (work.Read k) (phase.Storing stamp) q key a b = absurd (none_is_not q a)
phase_about call (work.Read k) (phase.Done end) q key a b = absurd (none_is_not q a)
phase_about call (work.Write k value) phase.Fixing q key a b = absurd (none_is_not q a)
phase_about call (work.Write k value) phase.Asking q key a b = absurd (none_is_not q a)
phase_about call (work.Write k value) phase.Stamping q key a b = subst (λ (r : Request). asks_about r ≡ Some key) (some_is (request.Stamp k) q a) b
phase_about call (work.Write k value) (phase.Storing stamp) q key a b = subst (λ (r : Request). asks_about r ≡ Some key) (some_is (request.Store k value stamp call) q a) b
phase_about call (work.Write k value) (phase.Done end) q key a b = absurd (none_is_not q a)

heard_valid : (c : Config) (s : State) (o slot : ℕ) (r : Reply) (f : RegSession) (key : Key) (d : Heard s o slot r) → IsAsked s.net o f slot (message_at s.net d.number).envelope.exchange → work_key f.work ≡ Some key → Sound s → Valid c s → IsValid s key (reply_cell r)
heard_valid c s o slot r f key d a e g h = by_reply r d.says
  where
    target : (message_at s.net d.number).envelope.target ≡ Replica f.service (slot_replica slot)
    target = (g.sound d.number d.numbered d.sent).target ∙ a.target

    by_reply : (p : Reply) → (message_at s.net d.number).body ≡ body.Reply p → IsValid s key (reply_cell p)
    by_reply (reply.Held value stamp writer) b = h.replies.each d.number value writer (slot_replica slot) stamp f.service a.request key d.numbered d.sent target b a.says (phase_about f.call f.work f.phase a.request key a.of_phase e)
    by_reply reply.Fixed b = inl refl
    by_reply reply.Stored b = inl refl
    by_reply reply.Wounded b = inl refl
    by_reply (reply.Granted shown) b = inl refl
    by_reply (reply.Wait holders) b = inl refl
    by_reply (reply.Prepared time) b = inl refl
    by_reply (reply.Decided outcome) b = inl refl
    by_reply reply.Done b = inl refl
    by_reply (reply.Outcome outcome) b = inl refl
    by_reply reply.Open b = inl refl
    by_reply reply.Released b = inl refl
    by_reply (reply.Blocked holders) b = inl refl
    by_reply (reply.Values versions skipped) b = inl refl

-- the exchange of what is heard in a round is the round's own
pub heard_asked : (s : State) (o slot : ℕ) (r : Reply) (f : RegSession) (d : Heard s o slot r) → IsRound (session_at s o) f → Awaiting s → IsAsked s.net o f slot (message_at s.net d.number).envelope.exchange
heard_asked s o slot r f d (inl x) h = subst (λ (y : Session). IsAwaited s.net o y slot (message_at s.net d.number).envelope.exchange) x (heard_awaited s o slot r d (h.each o))
heard_asked s o slot r f d (inr x) h = subst (λ (y : Session). IsAwaited s.net o y slot (message_at s.net d.number).envelope.exchange) x (heard_awaited s o slot r d (h.each o))

pub round_valid : (c : Config) (known : State) (s : State) (o : ℕ) (f : RegSession) → IsRound (session_at s o) f → ValidIn c known s → RoundValid known f
round_valid c known s o f (inl x) h = subst (SessionValid known) x (session_valid c known s o h)
round_valid c known s o f (inr x) h = subst (SessionValid known) x (session_valid c known s o h)

hearing_valid : (c : Config) (s : State) (o slot : ℕ) (r : Reply) (f : RegSession) → Heard s o slot r → IsRound (session_at s o) f → Known c s → Valid c s → RoundValid s (session_after f (slot_replica slot) r)
hearing_valid c s o slot r f d x g h = after_valid s f (slot_replica slot) r (λ key e. heard_valid c s o slot r f key d (heard_asked s o slot r f d x g.1) e (sound_of c s g) h) (round_valid c s s o f x h)

-- owners go on with what was stored
pub leaving_valid : (c : Config) (at : Reading) (s : State) (o : ℕ) (w : Owner) (outs : List Out) → Leaving c at s o w outs → Valid c s → OwnerValid s w
leaving_valid c at s o _ _ (waits id time rest l) h = session_valid c s s o h
leaving_valid c at s o _ _ (fixes_work id rest l) h = opening_valid s c s o _ id (of_hold (DepIsValid s) id (owner_at s o).works.copy.deps (copy_holds (DepIsValid s) s o h.deps))
leaving_valid c at s o _ _ (fixes_own x dep deps l e d) h = opening_valid s c s o _ (service_of x) (of_hold (DepIsValid s) (service_of x) (owner_at s o).works.copy.deps (copy_holds (DepIsValid s) s o h.deps))
leaving_valid c at s o _ _ (asks_register key l e d) h = opening_valid s c s o (work.Read key) key.service (All-nil (DepIsValid s))
leaving_valid c at s o _ _ (stamps_register key value l e d) h = opening_valid s c s o (work.Write key value) key.service (All-nil (DepIsValid s))
leaving_valid c at s o _ _ (begins_snapshot keys t l e d) h = tt
leaving_valid c at s o _ _ (begins_txn reads guard writes t l e d) h = tt
leaving_valid c at s o _ _ (fence_done l e) h = session_valid c s s o h
leaving_valid c at s o _ _ (stub_done u l e) h = session_valid c s s o h

pub working_valid : (at : Reading) (s : State) (o : ℕ) (w : Owner) (known : State) → Working at s o w → OwnerValid known (owner_at s o) → OwnerValid known w
working_valid at s o _ known (owes_nothing id rest l) h = tt
working_valid at s o _ known (is_past id time rest l e) h = tt
working_valid at s o _ known (enters_own x l e f) h = h

pub resting_valid : (s : State) (o : ℕ) (w : Owner) (known : State) → Resting s o w → OwnerValid known w
resting_valid s o _ known (plans e b) = tt
resting_valid s o _ known (past id x rest time l e) = tt
resting_valid s o _ known (fixed id x rest r e l a b d) = tt
resting_valid s o _ known (cleared r e l a b d) = tt

turning_valid : (s : State) (o : ℕ) (x : Session) (outs : List Out) (known : State) → ShardTurning s o x outs → SessionValid known x
turning_valid s o _ _ known (txn_heard t l at r e) = tt
turning_valid s o _ _ known (txn_woken t l e) = tt
turning_valid s o _ _ known (txn_passed t e) = tt
turning_valid s o _ _ known (snap_heard t l r e) = tt
turning_valid s o _ _ known (snap_woken t l e) = tt

pub doing_valid : (c : Config) (s : State) (o : ℕ) (w : Owner) (outs : List Out) (new : List Dep) → Doing s o w outs new → Known c s → Valid c s → OwnerValid s w
doing_valid c s o _ _ _ (listens_one slot r d) g h = session_valid c s s o h
doing_valid c s o _ _ _ (fix_hears f slot r x d e) g h = hearing_valid c s o slot r f d (inl x) g h
doing_valid c s o _ _ _ (fix_reached f slot r y x d e) g h = hearing_valid c s o slot r f d (inl x) g h
doing_valid c s o _ _ _ (register_hears f slot r x d a e) g h = hearing_valid c s o slot r f d (inr x) g h
doing_valid c s o _ _ _ (register_stores f slot r x d a e) g h = hearing_valid c s o slot r f d (inr x) g h
doing_valid c s o _ _ _ (register_reached f slot r y x d e) g h = hearing_valid c s o slot r f d (inr x) g h
doing_valid c s o _ _ _ (read_ends f key cell dep x a b) g h = session_valid c s s o h
doing_valid c s o _ _ _ (write_ends f key value e x a b) g h = session_valid c s s o h
doing_valid c s o _ _ _ (txn_ends y t time a b d) g h = session_valid c s s o h
doing_valid c s o _ _ _ (snap_ends y t time a b d) g h = session_valid c s s o h
doing_valid c s o _ _ _ (counts_one target) g h = session_valid c s s o h
doing_valid c s o _ _ _ (cuts_one id replica) g h = without_valid s (session_at s o) id replica (session_valid c s s o h)
doing_valid c s o _ _ _ (is_closed f) g h = session_valid c s s o h
doing_valid c s o _ _ _ forgets_all g h = session_valid c s s o h
doing_valid c s o _ _ _ (turns x outs y) g h = turning_valid s o x outs s y
doing_valid c s o _ _ _ (stub_asks attempt shards e b) g h = tt

-- the dependencies that are new were stored
pub new_valid : (c : Config) (s : State) (o : ℕ) (w : Owner) (outs : List Out) (new : List Dep) → Doing s o w outs new → Valid c s → All (DepIsValid s) new
new_valid c s o _ _ _ (listens_one slot r d) h = All-nil (DepIsValid s)
new_valid c s o _ _ _ (fix_hears f slot r x d e) h = All-nil (DepIsValid s)
new_valid c s o _ _ _ (fix_reached f slot r y x d e) h = All-nil (DepIsValid s)
new_valid c s o _ _ _ (register_hears f slot r x d a e) h = All-nil (DepIsValid s)
new_valid c s o _ _ _ (register_stores f slot r x d a e) h = All-nil (DepIsValid s)
new_valid c s o _ _ _ (register_reached f slot r y x d e) h = All-nil (DepIsValid s)
new_valid c s o _ _ _ (read_ends f key cell dep x a b) h = subst (λ (p : RegPhase). All (DepIsValid s) (phase_deps p)) b (round_valid c s s o f (inr x) h).left
new_valid c s o _ _ _ (write_ends f key value e x a b) h = All-nil (DepIsValid s)
new_valid c s o _ _ _ (txn_ends y t time a b d) h = All-nil (DepIsValid s)
new_valid c s o _ _ _ (snap_ends y t time a b d) h = All-nil (DepIsValid s)
new_valid c s o _ _ _ (counts_one target) h = All-nil (DepIsValid s)
new_valid c s o _ _ _ (cuts_one id replica) h = All-nil (DepIsValid s)
new_valid c s o _ _ _ (is_closed f) h = All-nil (DepIsValid s)
new_valid c s o _ _ _ forgets_all h = All-nil (DepIsValid s)
new_valid c s o _ _ _ (turns x outs y) h = All-nil (DepIsValid s)
new_valid c s o _ _ _ (stub_asks attempt shards e b) h = All-nil (DepIsValid s)
