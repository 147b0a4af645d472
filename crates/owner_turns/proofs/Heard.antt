-- What an owner makes of a reply.
use Rattle.std.proofs.Common.{◌≡◌, ℕ, ◌+◌, ◌<◌, ◌≤◌, ◌==◌, Bool, true, false, List, [], ◌∷◌, ◌++◌, length, Option, Some, None, refl, sym, ap, subst, ◌∙◌, arith}
use Rattle.std.specs.Prelude.{if◌then◌else◌}
use Rattle.truetime.specs.Reading.{Reading}
use Rattle.causal_context.specs.ContextView.{ContextView}
use Rattle.causal_context.specs.Seen.{Seen, deps_cleared}
use Rattle.pipeline_lang.specs.declared.config.Config.{Config}
use Rattle.rss_names.specs.declared.attempt.Attempt.{Attempt}
use Rattle.rss_names.specs.declared.service.Key.{Key}
use Rattle.rss_names.specs.declared.service.ServiceId.{ServiceId}
use Rattle.rss_names.specs.declared.service.Target.{Target}
use Rattle.rss_model.specs.declared.op.Op.TheVariants as op
use Rattle.rss_model.specs.declared.op.Shown.{Shown}
use Rattle.rss_wire.specs.declared.messages.Reply.{Reply}
use Rattle.rss_wire.specs.declared.messages.Request.{Request}
use Rattle.rss_tables.specs.Outs.{Out, awaited, slot_replica, slot_shard}
use Rattle.rss_tables.specs.Round.{hears, is_reached}
use Rattle.rss_tables.specs.RegisterSession.{RegSession, reply_cell, session_after, phase_end, reached, goes_on, round_requests}
use Rattle.rss_tables.specs.Turns.{Turn}
use Rattle.rss_tables.specs.SnapshotSession.{SnapSession, snap_hears, snap_end}
use Rattle.rss_tables.specs.Lines.{line_at}
use Rattle.rss_tables.specs.TransactionSession.{TxnSession, txn_hears, txn_end, shown_reply}
use Rattle.rss_tables.specs.declared.fences.FenceWork.{FenceWork}
use Rattle.rss_tables.specs.declared.register_session.RegEnd.{RegEnd}
use Rattle.rss_tables.specs.declared.register_session.RegEnd.TheVariants as ends
use Rattle.rss_tables.specs.declared.register_session.RegPhase.{RegPhase}
use Rattle.rss_tables.specs.declared.register_session.RegPhase.TheVariants as phase
use Rattle.rss_tables.specs.declared.register_session.RegWork.{RegWork}
use Rattle.rss_tables.specs.declared.register_session.RegWork.TheVariants as work
use Rattle.rss_machine.specs.Effect.{opens_round}
use Rattle.rss_machine.specs.Session.{Session}
use Rattle.rss_machine.specs.State.{Owner}
use Rattle.rss_machine.specs.declared.session.OwnerKind.{OwnerKind}
use Rattle.rss_machine.specs.declared.session.OwnerKind.TheVariants as kind
use Rattle.rss_machine.specs.declared.session.Session.TheVariants as session
use Rattle.turn_laws.specs.Turns as turn
use Rattle.turn_laws.specs.Turns.{OwnerTurn, session_turn, fixing_turn, fixed_turn, cleared_turn, work_turn, register_turn, register_end, register_launch, txn_turn, snap_turn, timed_end, goes_with, ends_with, cleared, without_currents, with_session, forgets_owner, launch_turn, through_turn, through, fenced}
use Rattle.owner_sessions.specs.Boxed.{HasBoxRoom, HasStubRoom}
use Rattle.owner_sessions.specs.Parts.{settling_in}
use Rattle.owner_sessions.specs.Rounds.{next_round, goes_to_next, HearsSmallStamps}
use Rattle.owner_sessions.specs.declared.doing.Doing.{Doing}
use Rattle.owner_sessions.specs.declared.doing.Doing.TheVariants as doing
use Rattle.owner_sessions.specs.declared.outbox.Outbox.{Outbox}
use Rattle.owner_turns.specs.Whole.{OwnerView, OwnerFits, HasToSettle, WorkServed}
use Rattle.owner_turns.specs.declared.aim.Aim.{Aim}
use Rattle.owner_turns.specs.declared.aim.Aim.TheVariants as aim
use Rattle.owner_turns.specs.declared.way.Way.{Way}
use Rattle.owner_turns.specs.declared.way.Way.TheVariants as way
use Rattle.owner_turns.proofs.Places.{filled}
use Rattle.owner_turns.specs.Going.{SpareView, HasStart, HasEnd, HasContext, ReadyToHear, ShownFits, SlotFits, FencesFit, IsTimed, aim_of, way_of, session_heard, round_end, goes_on_in, sends_in, timed_hears, timed_turn, timed_answer, answer_of, answer_in, shown_in, time_in, launches, seen_of}
use Rattle.owner_turns.proofs.Through.{opens_kept, box_less, through_plans, launches_go, read_served, write_served}
use Rattle.owner_turns.proofs.Sent.{none_sent}
use Rattle.std.proofs.lemmas.List.{append-nil}

-- WHAT IS UNDER WAY

pub settling_way : (k : OwnerKind) → HasToSettle k → way_of (settling_in k) ≡ way.Settling
settling_way (kind.Stubbing (Some unsettled)) h = refl
settling_way (kind.Stubbing None) h = absurd h
settling_way (kind.Calling x) h = absurd h
settling_way kind.Fencing h = absurd h

pub settling_kept : (k : OwnerKind) (d : Doing) → OwnerFits k d → d ≡ doing.Settling → way_of (settling_in k) ≡ way.Settling
settling_kept k doing.Settling h e = settling_way k h.of_doing
settling_kept k doing.Idle h e = cc
settling_kept k (doing.Fixing r) h e = cc
settling_kept k (doing.Register r) h e = cc
settling_kept k (doing.Transaction c t) h e = cc
settling_kept k (doing.Snapshot c t) h e = cc

pub ruleset settles = (settling_way, settling_kept)

-- what holds of nothing but what settles
by_kind : (P : Session → Type 0) → P session.Idle → ((attempt : Attempt) (shards : List ℕ) → P (session.Settling attempt shards)) → (k : OwnerKind) → P (settling_in k)
by_kind P i s (kind.Stubbing (Some unsettled)) = s unsettled.0 unsettled.1
by_kind P i s (kind.Stubbing None) = i
by_kind P i s (kind.Calling x) = i
by_kind P i s kind.Fencing = i

pub no_round_end : (k : OwnerKind) → round_end (settling_in k) ≡ None
no_round_end k = by_kind (λ x. round_end x ≡ None) refl (λ a b. refl) k

pub ruleset no_rounds = (no_round_end)

pub nothing_heard : (k : OwnerKind) (from : ℕ) (r : Reply) → session_heard (settling_in k) from r ≡ settling_in k
nothing_heard k from r = by_kind (λ x. session_heard x from r ≡ x) refl (λ a b. refl) k

pub nothing_next : (k : OwnerKind) (from : ℕ) (r : Reply) → goes_on_in (settling_in k) from r ≡ false
nothing_next k from r = by_kind (λ x. goes_on_in x from r ≡ false) refl (λ a b. refl) k

pub nothing_sent : (k : OwnerKind) (from : ℕ) (r : Reply) → sends_in (settling_in k) from r ≡ []
nothing_sent k from r = by_kind (λ x. sends_in x from r ≡ []) refl (λ a b. refl) k

-- ROUNDS

-- what a reply makes of the phase
after_phase : (s : RegSession) (from : ℕ) (r : Reply) → (P : RegPhase → Type 0) → P s.phase → ((t : RegSession) → t.phase ≡ s.phase → P (reached t s.phase).phase) → P (session_after s from r).phase
after_phase s from r P stays goes = by (is_reached (hears s.round from (reply_cell r)))
  where
    now : RegSession
    now = record s { round = hears s.round from (reply_cell r) }

    by : (b : Bool) → P (if b then reached now s.phase else now).phase
    by true = goes now refl
    by false = stays

never_next : (before after : RegPhase) → goes_on before ≡ false → opens_round before after ≡ false
never_next before after e = ap (λ (b : Bool). if b then (if goes_on after then false else true) else false) e

pub fix_never : (s : RegSession) (from : ℕ) (r : Reply) → goes_on s.phase ≡ false → goes_to_next s from r ≡ false
fix_never s from r e = never_next s.phase (session_after s from r).phase e

reached_never : (s : RegSession) (p : RegPhase) → goes_on p ≡ false → s.phase ≡ p → goes_on (reached s p).phase ≡ false
reached_never s phase.Fixing e q = refl
reached_never s phase.Asking e q = refl
reached_never s phase.Stamping e q = cc
reached_never s (phase.Storing stamp) e q = refl
reached_never s (phase.Done end) e q = ap goes_on q

pub fix_stays : (s : RegSession) (from : ℕ) (r : Reply) → goes_on s.phase ≡ false → goes_on (session_after s from r).phase ≡ false
fix_stays s from r e = after_phase s from r (λ p. goes_on p ≡ false) e (λ t q. reached_never t s.phase e q)

reached_work : (s : RegSession) (p : RegPhase) → (reached s p).work ≡ s.work
reached_work s phase.Fixing = refl
reached_work s phase.Asking = refl
reached_work s phase.Stamping = refl
reached_work s (phase.Storing stamp) = refl
reached_work s (phase.Done end) = refl

pub after_work : (s : RegSession) (from : ℕ) (r : Reply) → (session_after s from r).work ≡ s.work
after_work s from r = by (is_reached (hears s.round from (reply_cell r)))
  where
    by : (b : Bool) → (if b then reached (record s { round = hears s.round from (reply_cell r) }) s.phase else record s { round = hears s.round from (reply_cell r) }).work ≡ s.work
    by true = reached_work (record s { round = hears s.round from (reply_cell r) }) s.phase
    by false = refl

pub work_served : (s : RegSession) (from : ℕ) (r : Reply) → WorkServed s.work → WorkServed (session_after s from r).work
work_served s from r h = subst WorkServed (sym (after_work s from r)) h

next_none : (s : RegSession) (b : Bool) → b ≡ false → next_round b s ≡ []
next_none s b e = ap (λ (x : Bool). next_round x s) e

pub fix_sends : (s : RegSession) (from : ℕ) (r : Reply) → goes_on s.phase ≡ false → next_round (goes_to_next s from r) (session_after s from r) ≡ []
fix_sends s from r e = next_none (session_after s from r) (goes_to_next s from r) (fix_never s from r e)

pub ruleset rounds = (nothing_heard, nothing_next, nothing_sent, fix_never, fix_stays, fix_sends, work_served)

-- A ROUND OF DEPENDENCIES

fix_by : (c : Config) (o step : ℕ) (at : Reading) (g : RegSession) (w : Owner) (e : Option RegEnd) → phase_end g.phase ≡ e → fixing_turn c o step at g (phase_end g.phase) w ≡ fixing_turn c o step at g e w
fix_by c o step at g w e q = ap (λ (x : Option RegEnd). fixing_turn c o step at g x w) q

pub fix_none : (c : Config) (o step : ℕ) (at : Reading) (slot : ℕ) (r : Reply) (x : Session) (w : Owner) → way_of x ≡ way.Fixing → round_end (session_heard x (slot_replica slot) r) ≡ None → session_turn c o step at slot r x w ≡ goes_with (record w { session = session_heard x (slot_replica slot) r }) []
fix_none c o step at slot r (session.Fixing f) w e q = fix_by c o step at (session_after f (slot_replica slot) r) w None q
fix_none c o step at slot r session.Idle w e q = cc
fix_none c o step at slot r (session.Register f) w e q = cc
fix_none c o step at slot r (session.Transaction t) w e q = cc
fix_none c o step at slot r (session.Snapshot t) w e q = cc
fix_none c o step at slot r (session.Settling a b) w e q = cc

pub fix_some : (c : Config) (o step : ℕ) (at : Reading) (slot : ℕ) (r : Reply) (x : Session) (w : Owner) (end : RegEnd) → way_of x ≡ way.Fixing → round_end (session_heard x (slot_replica slot) r) ≡ Some end → session_turn c o step at slot r x w ≡ fixed_turn c o step at (without_currents (record w { session = session_heard x (slot_replica slot) r })) w.works.left
fix_some c o step at slot r (session.Fixing f) w end e q = fix_by c o step at (session_after f (slot_replica slot) r) w (Some end) q
fix_some c o step at slot r session.Idle w end e q = cc
fix_some c o step at slot r (session.Register f) w end e q = cc
fix_some c o step at slot r (session.Transaction t) w end e q = cc
fix_some c o step at slot r (session.Snapshot t) w end e q = cc
fix_some c o step at slot r (session.Settling a b) w end e q = cc

pub fix_quiet : (x : Session) (from : ℕ) (r : Reply) → way_of x ≡ way.Fixing → sends_in x from r ≡ []
fix_quiet (session.Fixing f) from r e = refl
fix_quiet session.Idle from r e = cc
fix_quiet (session.Register f) from r e = cc
fix_quiet (session.Transaction t) from r e = cc
fix_quiet (session.Snapshot t) from r e = cc
fix_quiet (session.Settling a b) from r e = cc

pub box_rounds : (o p : Outbox) (n : ℕ) → HasBoxRoom o n → p ≡ record o { rounds = p.rounds } → o.rounds.room ≤ p.rounds.room → HasBoxRoom p n
box_rounds o p n h e l = subst (λ (x : Outbox). HasBoxRoom x n) (sym e) (record { lines = h.lines; keys = h.keys; writes = h.writes; rounds = omega (arith, l, h.rounds); lists = h.lists; width = h.width })

clear_plans : (c : Config) (o step : ℕ) (at : Reading) (k : OwnerKind) (w : Owner) → (cleared_turn c o step at k w).fences ≡ []
clear_plans c o step at (kind.Calling (op.Read key)) w = refl
clear_plans c o step at (kind.Calling (op.Write key value)) w = refl
clear_plans c o step at (kind.Calling (op.Snap keys)) w = refl
clear_plans c o step at (kind.Calling (op.Txn reads guard writes)) w = refl
clear_plans c o step at kind.Fencing w = refl
clear_plans c o step at (kind.Stubbing unsettled) w = refl

pub fixed_plans : (c : Config) (o step : ℕ) (at : Reading) (w : Owner) (works : List (ServiceId × FenceWork)) → (fixed_turn c o step at w works).fences ≡ []
fixed_plans c o step at w [] = clear_plans c o step at w.kind (cleared w)
fixed_plans c o step at w (x ∷ works) = through_plans c o step at (through at (fenced w x.0) works)

pub sent_after : (now before outs : List Out) → before ≡ [] → now ≡ before ++ outs → now ≡ outs
sent_after now before outs e h = h ∙ ap (λ (l : List Out). l ++ outs) e

pub ruleset fixings = (fix_none, fix_some, fix_quiet, box_rounds, fixed_plans, sent_after)

pub fixed_work : (c : Config) (o step : ℕ) (at : Reading) (w : Owner) (works : List (ServiceId × FenceWork)) → (length works == 0) ≡ false → fixed_turn c o step at w works ≡ work_turn c o step at w works
fixed_work c o step at w [] e = cc
fixed_work c o step at w (x ∷ works) e = refl

clear_launches : (c : Config) (o step : ℕ) (at : Reading) (k : OwnerKind) (w : Owner) → cleared_turn c o step at k w ≡ launches c o step at k w
clear_launches c o step at (kind.Calling x) w = refl
clear_launches c o step at kind.Fencing w = refl
clear_launches c o step at (kind.Stubbing unsettled) w = refl

pub fixed_clear : (c : Config) (o step : ℕ) (at : Reading) (w : Owner) (works : List (ServiceId × FenceWork)) → (length works == 0) ≡ true → fixed_turn c o step at w works ≡ launches c o step at (cleared w).kind (cleared w)
fixed_clear c o step at w [] e = clear_launches c o step at w.kind (cleared w)
fixed_clear c o step at w (x ∷ works) e = absurd (filled (length works) e)

pub clear_start : (c : Config) (at : Reading) (w : Owner) (s : SpareView) → HasStart c at w.works.copy w.kind s → HasStart c at (cleared w).works.copy (cleared w).kind s
clear_start c at w s h = record { deps = omega arith; opens = opens_kept c at (deps_cleared w.works.copy) w.works.copy s w.kind refl h.opens }

pub clear_box : (w : Owner) (o : Outbox) → HasBoxRoom o (length w.works.copy.deps) → HasBoxRoom o (length (cleared w).works.copy.deps)
clear_box w o h = box_less o 0 (length w.works.copy.deps) (omega arith) h

pub ruleset fixeds = (fixed_work, fixed_clear, clear_start, clear_box, launches_go)

-- A CALL BEGINS ITS OWN SESSION

pub launch_read : (c : Config) (o step : ℕ) (at : Reading) (k : OwnerKind) (w : Owner) (key : Key) → aim_of k ≡ aim.Read key → launches c o step at k w ≡ register_launch c o step (work.Read key) key.service w
launch_read c o step at (kind.Calling (op.Read own)) w key e = ap (λ (x : Key). register_launch c o step (work.Read x) x.service w) (same e)
  where
    same : {a b : Key} → aim.Read a ≡ aim.Read b → a ≡ b
    same p = cc
launch_read c o step at (kind.Calling (op.Write own value)) w key e = cc
launch_read c o step at (kind.Calling (op.Snap keys)) w key e = cc
launch_read c o step at (kind.Calling (op.Txn reads guard writes)) w key e = cc
launch_read c o step at kind.Fencing w key e = cc
launch_read c o step at (kind.Stubbing unsettled) w key e = cc

pub launch_write : (c : Config) (o step : ℕ) (at : Reading) (k : OwnerKind) (w : Owner) (key : Key) (value : ℕ) → aim_of k ≡ aim.Write key value → launches c o step at k w ≡ register_launch c o step (work.Write key value) key.service w
launch_write c o step at (kind.Calling (op.Write own v)) w key value e = ap (λ (x : Key). register_launch c o step (work.Write x v) x.service w) (same e).0 ∙ ap (λ (x : ℕ). register_launch c o step (work.Write key x) key.service w) (same e).1
  where
    same : {a b : Key} {m n : ℕ} → aim.Write a m ≡ aim.Write b n → (a ≡ b) × (m ≡ n)
    same p = (cc, cc)
launch_write c o step at (kind.Calling (op.Read own)) w key value e = cc
launch_write c o step at (kind.Calling (op.Snap keys)) w key value e = cc
launch_write c o step at (kind.Calling (op.Txn reads guard writes)) w key value e = cc
launch_write c o step at kind.Fencing w key value e = cc
launch_write c o step at (kind.Stubbing unsettled) w key value e = cc

pub launch_fence : (c : Config) (o step : ℕ) (at : Reading) (k : OwnerKind) (w : Owner) → aim_of k ≡ aim.Fence → launches c o step at k w ≡ goes_with w []
launch_fence c o step at (kind.Calling (op.Read own)) w e = cc
launch_fence c o step at (kind.Calling (op.Write own value)) w e = cc
launch_fence c o step at (kind.Calling (op.Snap keys)) w e = cc
launch_fence c o step at (kind.Calling (op.Txn reads guard writes)) w e = cc
launch_fence c o step at kind.Fencing w e = refl
launch_fence c o step at (kind.Stubbing unsettled) w e = cc

pub launch_stub : (c : Config) (o step : ℕ) (at : Reading) (k : OwnerKind) (w : Owner) → aim_of k ≡ aim.Stub → launches c o step at k w ≡ goes_with w []
launch_stub c o step at (kind.Calling (op.Read own)) w e = cc
launch_stub c o step at (kind.Calling (op.Write own value)) w e = cc
launch_stub c o step at (kind.Calling (op.Snap keys)) w e = cc
launch_stub c o step at (kind.Calling (op.Txn reads guard writes)) w e = cc
launch_stub c o step at kind.Fencing w e = cc
launch_stub c o step at (kind.Stubbing unsettled) w e = refl

pub ruleset launchings = (read_served, write_served, launch_read, launch_write, launch_fence, launch_stub, none_sent)

-- THE ROUNDS OF A CALL

ends_so : (w : Owner) (x : RegWork) (end : RegEnd) → register_end w x end ≡ answer_of w.works.copy x end
ends_so w (work.Read key) (ends.Read cell dep) = refl
ends_so w (work.Write key value) (ends.Written stamp) = refl
ends_so w (work.Read key) (ends.Written stamp) = refl
ends_so w (work.Read key) ends.Fixed = refl
ends_so w (work.Write key value) (ends.Read cell dep) = refl
ends_so w (work.Write key value) ends.Fixed = refl
ends_so w (work.Fix deps) end = refl

pub reg_some : (c : Config) (o step : ℕ) (at : Reading) (slot : ℕ) (r : Reply) (x : Session) (w : Owner) (end : RegEnd) → way_of x ≡ way.Register → round_end (session_heard x (slot_replica slot) r) ≡ Some end → session_turn c o step at slot r x w ≡ ends_with (without_currents (record w { session = session_heard x (slot_replica slot) r })) (answer_in w.works.copy (session_heard x (slot_replica slot) r) end)
reg_some c o step at slot r (session.Register f) w end e q =
    let g = session_after f (slot_replica slot) r in
    ap (λ (y : Option RegEnd). register_turn w g (opens_round f.phase g.phase) y) q
    ∙ ap (ends_with (without_currents (record w { session = session.Register g }))) (ends_so w g.work end)
reg_some c o step at slot r session.Idle w end e q = cc
reg_some c o step at slot r (session.Fixing f) w end e q = cc
reg_some c o step at slot r (session.Transaction t) w end e q = cc
reg_some c o step at slot r (session.Snapshot t) w end e q = cc
reg_some c o step at slot r (session.Settling a b) w end e q = cc

pub reg_more : (c : Config) (o step : ℕ) (at : Reading) (slot : ℕ) (r : Reply) (x : Session) (w : Owner) → way_of x ≡ way.Register → round_end (session_heard x (slot_replica slot) r) ≡ None → goes_on_in x (slot_replica slot) r ≡ true → session_turn c o step at slot r x w ≡ goes_with (without_currents (record w { session = session_heard x (slot_replica slot) r })) (awaited (sends_in x (slot_replica slot) r))
reg_more c o step at slot r (session.Register f) w e q n =
    let g = session_after f (slot_replica slot) r in
    ap (λ (y : Option RegEnd). register_turn w g (opens_round f.phase g.phase) y) q
    ∙ ap (λ (b : Bool). register_turn w g b None) n
    ∙ sym (ap (λ (b : Bool). goes_with (without_currents (record w { session = session.Register g })) (awaited (next_round b g))) n)
reg_more c o step at slot r session.Idle w e q n = cc
reg_more c o step at slot r (session.Fixing f) w e q n = cc
reg_more c o step at slot r (session.Transaction t) w e q n = cc
reg_more c o step at slot r (session.Snapshot t) w e q n = cc
reg_more c o step at slot r (session.Settling a b) w e q n = cc

pub reg_stays : (c : Config) (o step : ℕ) (at : Reading) (slot : ℕ) (r : Reply) (x : Session) (w : Owner) → way_of x ≡ way.Register → round_end (session_heard x (slot_replica slot) r) ≡ None → goes_on_in x (slot_replica slot) r ≡ false → session_turn c o step at slot r x w ≡ goes_with (record w { session = session_heard x (slot_replica slot) r }) (awaited (sends_in x (slot_replica slot) r))
reg_stays c o step at slot r (session.Register f) w e q n =
    let g = session_after f (slot_replica slot) r in
    ap (λ (y : Option RegEnd). register_turn w g (opens_round f.phase g.phase) y) q
    ∙ ap (λ (b : Bool). register_turn w g b None) n
    ∙ sym (ap (λ (b : Bool). goes_with (record w { session = session.Register g }) (awaited (next_round b g))) n)
reg_stays c o step at slot r session.Idle w e q n = cc
reg_stays c o step at slot r (session.Fixing f) w e q n = cc
reg_stays c o step at slot r (session.Transaction t) w e q n = cc
reg_stays c o step at slot r (session.Snapshot t) w e q n = cc
reg_stays c o step at slot r (session.Settling a b) w e q n = cc

-- where a call's rounds have ended, no next one begins
next_goes : (before : RegPhase) (t : RegSession) → t.phase ≡ before → opens_round before (reached t before).phase ≡ true → phase_end (reached t before).phase ≡ None
next_goes phase.Fixing t q e = cc
next_goes phase.Asking t q e = cc
next_goes phase.Stamping t q e = refl
next_goes (phase.Storing stamp) t q e = cc
next_goes (phase.Done end) t q e = cc

stays_same : (before : RegPhase) → opens_round before before ≡ false
stays_same phase.Fixing = refl
stays_same phase.Asking = refl
stays_same phase.Stamping = refl
stays_same (phase.Storing stamp) = refl
stays_same (phase.Done end) = refl

ended_rests : (s : RegSession) (from : ℕ) (r : Reply) (end : RegEnd) → phase_end (session_after s from r).phase ≡ Some end → goes_to_next s from r ≡ false
ended_rests s from r end e = by (goes_to_next s from r) refl
  where
    none : goes_to_next s from r ≡ true → phase_end (session_after s from r).phase ≡ None
    none = after_phase s from r (λ p. opens_round s.phase p ≡ true → phase_end p ≡ None) (λ h. absurd (no (sym (stays_same s.phase) ∙ h))) (λ t q h. next_goes s.phase t q h)
      where
        no : false ≡ true → ⊥
        no h = cc

    by : (b : Bool) → goes_to_next s from r ≡ b → b ≡ false
    by false h = refl
    by true h = absurd (no (sym e ∙ none h))
      where
        no : {x : RegEnd} → Some x ≡ None → ⊥
        no p = cc

pub reg_quiet : (x : Session) (from : ℕ) (r : Reply) (end : RegEnd) → way_of x ≡ way.Register → round_end (session_heard x from r) ≡ Some end → sends_in x from r ≡ []
reg_quiet (session.Register f) from r end e q = next_none (session_after f from r) (goes_to_next f from r) (ended_rests f from r end q)
reg_quiet session.Idle from r end e q = cc
reg_quiet (session.Fixing f) from r end e q = cc
reg_quiet (session.Transaction t) from r end e q = cc
reg_quiet (session.Snapshot t) from r end e q = cc
reg_quiet (session.Settling a b) from r end e q = cc

pub rounds_sent : (lines : List Out) (old now requests : List (Target × Request)) → lines ≡ [] → old ≡ [] → now ≡ old ++ requests → lines ++ awaited now ≡ awaited requests
rounds_sent lines old now requests l o n = ap (λ (x : List Out). x ++ awaited now) l ∙ ap awaited (n ∙ ap (λ (x : List (Target × Request)). x ++ requests) o)

pub ruleset registers = (reg_some, reg_more, reg_stays, reg_quiet, rounds_sent)

pub no_answer : (seen : Seen) (k : OwnerKind) (end : RegEnd) → answer_in seen (settling_in k) end ≡ turn.goes
no_answer seen k end = by_kind (λ x. answer_in seen x end ≡ turn.goes) refl (λ a b. refl) k

pub seen_there : (seen : Seen) (x : Option ContextView) → HasContext seen x → seen_of x ≡ seen
seen_there seen None h = absurd h
seen_there seen (Some x) h = h.0

pub context_there : (seen : Seen) (x : Option ContextView) → HasContext seen x → HasContext (seen_of x) x
context_there seen None h = absurd h
context_there seen (Some x) h = (refl, h.1)

pub ruleset answers = (no_answer, seen_there, context_there)

-- TRANSACTIONS AND SNAPSHOTS

timed_ends_so : (w : Owner) (k : OwnerKind) (shown : List Shown) (time : Option ℕ) → timed_end w k shown time ≡ timed_answer w.works.copy k shown time
timed_ends_so w (kind.Calling x) shown (Some time) = refl
timed_ends_so w (kind.Calling x) shown None = refl
timed_ends_so w kind.Fencing shown time = refl
timed_ends_so w (kind.Stubbing unsettled) shown time = refl

pub txn_turns_so : (w : Owner) (u : Turn TxnSession) → txn_turn w u ≡ record { after = with_session (session.Transaction u.after) (forgets_owner u.anew w); outs = u.outs; fences = []; ending = timed_answer w.works.copy w.kind (shown_reply u.after.reads u.after.lines) (txn_end u.after.phase) }
txn_turns_so w u = ap (λ (e : turn.TurnEnd). record { after = with_session (session.Transaction u.after) (forgets_owner u.anew w); outs = u.outs; fences = []; ending = e }) (timed_ends_so w w.kind (shown_reply u.after.reads u.after.lines) (txn_end u.after.phase))

pub snap_turns_so : (w : Owner) (u : Turn SnapSession) → snap_turn w u ≡ record { after = with_session (session.Snapshot u.after) (forgets_owner u.anew w); outs = u.outs; fences = []; ending = timed_answer w.works.copy w.kind (shown_reply u.after.keys u.after.lines) (snap_end u.after.phase) }
snap_turns_so w u = ap (λ (e : turn.TurnEnd). record { after = with_session (session.Snapshot u.after) (forgets_owner u.anew w); outs = u.outs; fences = []; ending = e }) (timed_ends_so w w.kind (shown_reply u.after.keys u.after.lines) (snap_end u.after.phase))

pub timed_so : (c : Config) (o step : ℕ) (at : Reading) (slot : ℕ) (r : Reply) (x : Session) (w : Owner) → IsTimed x → session_turn c o step at slot r x w ≡ timed_turn w (timed_hears x slot at r)
timed_so c o step at slot r (session.Transaction t) w h = txn_turns_so w (txn_hears t (line_at t.lines (slot_shard slot)) at r)
timed_so c o step at slot r (session.Snapshot t) w h = snap_turns_so w (snap_hears t (line_at t.lines (slot_shard slot)) r)
timed_so c o step at slot r session.Idle w h = absurd h
timed_so c o step at slot r (session.Fixing f) w h = absurd h
timed_so c o step at slot r (session.Register f) w h = absurd h
timed_so c o step at slot r (session.Settling a b) w h = absurd h

pub forgets_then : (b : Bool) (w : Owner) (x : Session) → forgets_owner b (record w { session = x }) ≡ with_session x (forgets_owner b w)
forgets_then true w x = refl
forgets_then false w x = refl

pub lines_sent : (now before outs : List Out) (rounds : List (Target × Request)) → before ≡ [] → rounds ≡ [] → now ≡ before ++ outs → now ++ awaited rounds ≡ outs
lines_sent now before outs rounds b r n = ap (λ (x : List (Target × Request)). now ++ awaited x) r ∙ append-nil now ∙ n ∙ ap (λ (x : List Out). x ++ outs) b

pub timed_end_ready : (c : Config) (at : Reading) (r : Reply) (w : OwnerView) (s : SpareView) (o : Outbox) (x : Session) → IsTimed x → ReadyToHear c at r w s o x → HasEnd w.row.works.copy s
timed_end_ready c at r w s o (session.Transaction t) i h = h.0
timed_end_ready c at r w s o (session.Snapshot t) i h = h.0
timed_end_ready c at r w s o session.Idle i h = absurd i
timed_end_ready c at r w s o (session.Fixing f) i h = absurd i
timed_end_ready c at r w s o (session.Register f) i h = absurd i
timed_end_ready c at r w s o (session.Settling a b) i h = absurd i

pub timed_shown : (c : Config) (at : Reading) (r : Reply) (w : OwnerView) (s : SpareView) (o : Outbox) (x : Session) → IsTimed x → ReadyToHear c at r w s o x → ShownFits r w.versions w.skips x
timed_shown c at r w s o (session.Transaction t) i h = h.1
timed_shown c at r w s o (session.Snapshot t) i h = (h.1, h.2)
timed_shown c at r w s o session.Idle i h = absurd i
timed_shown c at r w s o (session.Fixing f) i h = absurd i
timed_shown c at r w s o (session.Register f) i h = absurd i
timed_shown c at r w s o (session.Settling a b) i h = absurd i

pub ruleset timeds = (timed_so, forgets_then, lines_sent, timed_end_ready, timed_shown)

pub ruleset timed_ends = (forgets_then)

-- BY WHAT IS UNDER WAY

pub idle_turn : (c : Config) (o step : ℕ) (at : Reading) (slot : ℕ) (r : Reply) (x : Session) (w : Owner) → way_of x ≡ way.Idle → session_turn c o step at slot r x w ≡ goes_with w []
idle_turn c o step at slot r session.Idle w e = refl
idle_turn c o step at slot r (session.Fixing f) w e = cc
idle_turn c o step at slot r (session.Register f) w e = cc
idle_turn c o step at slot r (session.Transaction t) w e = cc
idle_turn c o step at slot r (session.Snapshot t) w e = cc
idle_turn c o step at slot r (session.Settling a b) w e = cc

pub fixing_slot : (x : Session) (slot : ℕ) → way_of x ≡ way.Fixing → SlotFits x slot → slot < 7
fixing_slot (session.Fixing f) slot e h = h
fixing_slot session.Idle slot e h = cc
fixing_slot (session.Register f) slot e h = cc
fixing_slot (session.Transaction t) slot e h = cc
fixing_slot (session.Snapshot t) slot e h = cc
fixing_slot (session.Settling a b) slot e h = cc

pub register_slot : (x : Session) (slot : ℕ) → way_of x ≡ way.Register → SlotFits x slot → slot < 7
register_slot (session.Register f) slot e h = h
register_slot session.Idle slot e h = cc
register_slot (session.Fixing f) slot e h = cc
register_slot (session.Transaction t) slot e h = cc
register_slot (session.Snapshot t) slot e h = cc
register_slot (session.Settling a b) slot e h = cc

pub fixing_ready : (c : Config) (at : Reading) (r : Reply) (w : OwnerView) (s : SpareView) (o : Outbox) (x : Session) → way_of x ≡ way.Fixing → ReadyToHear c at r w s o x → HasStart c at w.row.works.copy w.row.kind s
fixing_ready c at r w s o (session.Fixing f) e h = h
fixing_ready c at r w s o session.Idle e h = cc
fixing_ready c at r w s o (session.Register f) e h = cc
fixing_ready c at r w s o (session.Transaction t) e h = cc
fixing_ready c at r w s o (session.Snapshot t) e h = cc
fixing_ready c at r w s o (session.Settling a b) e h = cc

pub register_ready : (c : Config) (at : Reading) (r : Reply) (w : OwnerView) (s : SpareView) (o : Outbox) (x : Session) → way_of x ≡ way.Register → ReadyToHear c at r w s o x → HasEnd w.row.works.copy s
register_ready c at r w s o (session.Register f) e h = h
register_ready c at r w s o session.Idle e h = cc
register_ready c at r w s o (session.Fixing f) e h = cc
register_ready c at r w s o (session.Transaction t) e h = cc
register_ready c at r w s o (session.Snapshot t) e h = cc
register_ready c at r w s o (session.Settling a b) e h = cc

pub settling_ready : (c : Config) (at : Reading) (r : Reply) (w : OwnerView) (s : SpareView) (o : Outbox) (x : Session) → way_of x ≡ way.Settling → ReadyToHear c at r w s o x → HasStart c at w.row.works.copy w.row.kind s × FencesFit w.row.kind w.fences × HasStubRoom o
settling_ready c at r w s o (session.Settling a b) e h = h
settling_ready c at r w s o session.Idle e h = cc
settling_ready c at r w s o (session.Fixing f) e h = cc
settling_ready c at r w s o (session.Register f) e h = cc
settling_ready c at r w s o (session.Transaction t) e h = cc
settling_ready c at r w s o (session.Snapshot t) e h = cc

pub txn_timed : (x : Session) → way_of x ≡ way.Transaction → IsTimed x
txn_timed (session.Transaction t) e = tt
txn_timed session.Idle e = cc
txn_timed (session.Fixing f) e = cc
txn_timed (session.Register f) e = cc
txn_timed (session.Snapshot t) e = cc
txn_timed (session.Settling a b) e = cc

pub snap_timed : (x : Session) → way_of x ≡ way.Snapshot → IsTimed x
snap_timed (session.Snapshot t) e = tt
snap_timed session.Idle e = cc
snap_timed (session.Fixing f) e = cc
snap_timed (session.Register f) e = cc
snap_timed (session.Transaction t) e = cc
snap_timed (session.Settling a b) e = cc

pub ruleset hear_turns = (idle_turn, fixing_slot, register_slot, fixing_ready, register_ready, settling_ready, txn_timed, snap_timed, lines_sent)
