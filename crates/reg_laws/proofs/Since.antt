-- A call that sent its own first round after a state finds what a majority held in that state: the greatest
-- that it hears is at least that, so a write's stamp is above it and a read's is not below it.
use Rattle.std.proofs.Common.{◌≡◌, ℕ, ◌<◌, ◌≤◌, Bool, true, false, List, [], ◌∷◌, ◌++◌, All, length, get_or, Option, Some, None, refl, ap, sym, ◌∙◌, subst, arith}
use Rattle.std.specs.Prelude.{⊤}
use Rattle.std.proofs.Math.ListN.{set}
use Rattle.std.proofs.lemmas.Bool.{cond_both}
use Rattle.std.proofs.lemmas.List.Elements.{All-head, All-set, All-push}
use Rattle.truetime.specs.Reading.{Reading}
use Rattle.rss_names.specs.declared.attempt.Attempt.{Attempt}
use Rattle.rss_names.specs.declared.service.Key.{Key}
use Rattle.rss_names.specs.declared.service.ServiceId.{ServiceId}
use Rattle.rss_names.specs.declared.service.Target.{Target}
use Rattle.rss_names.specs.declared.service.Target.TheVariants.{Replica}
use Rattle.rss_names.specs.Services.{same_service}
use Rattle.causal_context.specs.declared.dep.Dep.{Dep}
use Rattle.pipeline_lang.specs.declared.config.Config.{Config}
use Rattle.rss_wire.specs.Messages.{message_at}
use Rattle.rss_wire.specs.declared.message.Message.{Message}
use Rattle.rss_wire.specs.declared.messages.Outcome.{Outcome}
use Rattle.rss_wire.specs.declared.messages.RegReply.{RegReply}
use Rattle.rss_wire.specs.declared.messages.Reply.{Reply}
use Rattle.rss_wire.specs.declared.messages.Request.{Request}
use Rattle.rss_wire.specs.declared.messages.Request.TheVariants as request
use Rattle.rss_tables.specs.Lines.{tells_decision}
use Rattle.rss_tables.specs.Outs.{Out}
use Rattle.rss_tables.specs.RegisterSession.{RegSession, phase_request, session_after, reached, reply_cell, read_end, found_cell}
use Rattle.rss_tables.specs.Round.{hears, is_reached, greatest_heard, is_agreed}
use Rattle.rss_tables.specs.declared.register_session.RegEnd.TheVariants as ends
use Rattle.rss_tables.specs.declared.register_session.RegPhase.{RegPhase}
use Rattle.rss_tables.specs.declared.register_session.RegPhase.TheVariants as phase
use Rattle.rss_tables.specs.declared.register_session.RegWork.{RegWork}
use Rattle.rss_tables.specs.declared.register_session.RegWork.TheVariants as work
use Rattle.rss_machine.specs.Calls.{session_for}
use Rattle.rss_machine.specs.Moves.{ticks, sends_one, sends, session_without, listens, plans_stub}
use Rattle.rss_machine.specs.Session.{Session}
use Rattle.rss_machine.specs.State.{State, Owner, start, owner_at, no_owner}
use Rattle.rss_machine.specs.declared.session.Session.TheVariants as session
use Rattle.world_laws.proofs.Doings.{Heard, Resting, plans, past, fixed, cleared, Working, owes_nothing, is_past, enters_own, Leaving, waits, fixes_work, fixes_own, asks_register, stamps_register, begins_snapshot, begins_txn, fence_done, stub_done, ShardTurning, txn_heard, txn_woken, txn_passed, snap_heard, snap_woken, Doing, listens_one, fix_hears, fix_reached, register_hears, register_stores, register_reached, read_ends, write_ends, txn_ends, snap_ends, counts_one, cuts_one, is_closed, forgets_all, turns, stub_asks}
use Rattle.world_laws.proofs.Looks.{looks, some_is, none_is_not}
use Rattle.world_laws.proofs.OwnerMoves.{OwnerKeeps}
use Rattle.world_laws.proofs.SessionMoves.{session_at}
use Rattle.world_laws.proofs.Replies.{Sound}
use Rattle.world_laws.proofs.Stacked.{OwnerKeepsUnder, stacked}
use Rattle.world_laws.proofs.StoreWalk.{store_owner}
use Rattle.std.proofs.Common.{◌-◌, ◌⊎◌, inl, inr}
use Rattle.std.proofs.lemmas.Bool.{true≢false}
use Rattle.carstamps.specs.Stamp.{next_stamp}
use Rattle.rss_tables.specs.Outs.{slot_replica}
use Rattle.rss_machine.specs.Slots.{with_current}
use Rattle.rss_machine.specs.State.{no_currents}
use Rattle.world_laws.specs.Exchanges.{Fits}
use Rattle.world_laws.proofs.Doings.{listened}
use Rattle.reg_laws.specs.Awaited.{IsAsked, IsRound}
use Rattle.std.proofs.lemmas.Bool.Decides.{nat_tests}
use Rattle.carstamps.specs.declared.carstamp.Carstamp.{Carstamp}
use Rattle.carstamps.specs.Stamp.{stamp_le, stamp_lt}
use Rattle.quorum_laws.specs.Heard.{IsHeardAt, HearsItsReplicas}
use Rattle.quorum_laws.proofs.Rounds.{heard_what_was_held}
use Rattle.quorum_laws.proofs.StampTests.{le_at_most, at_most_le}
use Rattle.rss_tables.specs.RegisterSession.{first_phase, work_key}
use Rattle.rss_tables.specs.ReplicaRow.{replica_reply}
use Rattle.rss_machine.specs.Marks.{is_held}
use Rattle.rss_machine.specs.State.{service_index, replicas_at}
use Rattle.world_laws.specs.Exchanges.{ReplicaReplies}
use Rattle.world_laws.specs.Later.{stamp_in}
use Rattle.world_laws.specs.Proper.{work_registers}
use Rattle.world_laws.proofs.Contexts.{at_place}
use Rattle.world_laws.proofs.Stacked.{side_by_side}
use Rattle.world_laws.proofs.StackRuns.{IsKept}
use Rattle.reg_laws.specs.Files.{IsInOrder}
use Rattle.reg_laws.specs.Told.{asked_of, shown_stamp, Tells}
use Rattle.reg_laws.proofs.Awaiting.{AtRest, none_current, idle_current, current_more, current_less, current_without, slot_current}
use Rattle.reg_laws.proofs.AwaitsOf.{hears_replicas}
use Rattle.reg_laws.proofs.Awaits.{beginning_idle}
use Rattle.reg_laws.proofs.Hearing.{heard_asked}
use Rattle.reg_laws.proofs.RoundsHeld.{nobody_heard_at, hears_cell, majority_held}
use Rattle.reg_laws.proofs.Rounds.{rows_of, round_held, Settled, SettledAt, settled_kept}
use Rattle.reg_laws.proofs.Shapes.{SameShape}
use Rattle.reg_laws.proofs.Tells.{Telling, telling_keeps}

-- a stamp that is at most another one is below the next
le_next : (z a : Carstamp) (call : ℕ) → stamp_le z a ≡ true → stamp_lt z (next_stamp a call) ≡ true
le_next z a call e = grind (arith, nat_tests)

-- what a phase has found of what a majority held
abbrev pub PhaseSees : (Carstamp → Type 0) → RegPhase → Type 0
PhaseSees H phase.Fixing = ⊤
PhaseSees H phase.Asking = ⊤
PhaseSees H phase.Stamping = ⊤
PhaseSees H (phase.Storing stamp) = (z : Carstamp) → H z → stamp_lt z stamp ≡ true
PhaseSees H (phase.Done (ends.Written stamp)) = (z : Carstamp) → H z → stamp_lt z stamp ≡ true
PhaseSees H (phase.Done (ends.Read cell dep)) = (z : Carstamp) → H z → stamp_le z cell.stamp ≡ true
PhaseSees H (phase.Done ends.Fixed) = ⊤

-- a majority held this in a state
abbrev pub HeldBefore : State → ServiceId → Key → Carstamp → Type 0
HeldBefore u service key z = is_held (replicas_at u service) key z ≡ true

-- the requests of a round are those of its own call's first phases
abbrev is_asking : RegPhase → Bool
is_asking phase.Fixing = false
is_asking phase.Asking = true
is_asking phase.Stamping = true
is_asking (phase.Storing stamp) = false
is_asking (phase.Done end) = false

-- a round that was sent after a state has heard of each replica at least what it held in that state
pub record RoundSince (u : State) (r : RegSession) : Type 0 where
  pub heard : (at : ℕ) (cell : RegReply) (key : Key) → is_asking r.phase ≡ true → work_key r.work ≡ Some key → IsHeardAt r.round at cell → stamp_le (stamp_in u r.service at key) cell.stamp ≡ true
  pub found : (key : Key) → work_key r.work ≡ Some key → PhaseSees (HeldBefore u r.service key) r.phase

-- and its current exchanges are of requests sent after that state
pub record OwnRound (u : State) (r : RegSession) (currents : List (Option ℕ)) : Type 0 where
  pub sent : (slot m : ℕ) → get_or currents slot None ≡ Some m → length u.net ≤ m
  pub since : RoundSince u r

abbrev pub SessionSince : State → Session → List (Option ℕ) → Type 0
SessionSince u (session.Register r) currents = OwnRound u r currents
SessionSince u session.Idle currents = ⊤
SessionSince u (session.Fixing r) currents = ⊤
SessionSince u (session.Transaction t) currents = ⊤
SessionSince u (session.Snapshot t) currents = ⊤
SessionSince u (session.Settling attempt shards) currents = ⊤

pub record OwnerSince (u : State) (w : Owner) : Type 0 where
  pub since : u.steps < w.dates.launched → SessionSince u w.session w.currents

pub record Seeing (u s : State) : Type 0 where
  pub owners : All (OwnerSince u) s.owners

owner_since : (u s : State) (o : ℕ) → Seeing u s → OwnerSince u (owner_at s o)
owner_since u s o h = at_place (OwnerSince u) s.owners o no_owner (record { since = λ l. tt }) h.owners

-- an owner with other currents, of which each was current or is of a later request
since_currents : (u : State) (x : Session) (before after : List (Option ℕ)) → ((slot m : ℕ) → get_or after slot None ≡ Some m → (get_or before slot None ≡ Some m) ⊎ (length u.net ≤ m)) → SessionSince u x before → SessionSince u x after
since_currents u (session.Register r) before after f h = record { sent = λ slot m e. by_current slot m (f slot m e); since = h.since }
  where
    by_current : (slot m : ℕ) → (get_or before slot None ≡ Some m) ⊎ (length u.net ≤ m) → length u.net ≤ m
    by_current slot m (inl e) = h.sent slot m e
    by_current slot m (inr l) = l
since_currents u session.Idle before after f h = tt
since_currents u (session.Fixing r) before after f h = tt
since_currents u (session.Transaction t) before after f h = tt
since_currents u (session.Snapshot t) before after f h = tt
since_currents u (session.Settling attempt shards) before after f h = tt

no_more : (u : State) (x : Session) (before : List (Option ℕ)) → SessionSince u x before → SessionSince u x no_currents
no_more u x before h = since_currents u x before no_currents (λ slot m e. absurd (none_current slot m e)) h

-- a request that is sent is later
seeing_one : (u : State) (o : ℕ) (s : State) (out : Out) → length u.net ≤ length s.net → Seeing u s → Seeing u (sends_one s o out)
seeing_one u o s out l h = record { owners = All-set (OwnerSince u) s.owners o _ (record { since = λ k. since_currents u (session_at s o) (owner_at s o).currents _ more ((owner_since u s o h).since k) }) h.owners }
  where
    more : (slot m : ℕ) → get_or (with_current (owner_at s o).currents out.slot (length s.net)) slot None ≡ Some m → (get_or (owner_at s o).currents slot None ≡ Some m) ⊎ (length u.net ≤ m)
    more slot m e = by_current (current_more (owner_at s o).currents out.slot (length s.net) slot m e)
      where
        by_current : ((m ≡ length s.net) × (out.slot ≡ Some slot)) ⊎ (get_or (owner_at s o).currents slot None ≡ Some m) → (get_or (owner_at s o).currents slot None ≡ Some m) ⊎ (length u.net ≤ m)
        by_current (inl f) = inr (subst (λ (n : ℕ). length u.net ≤ n) (sym f.0) l)
        by_current (inr f) = inl f

seeing_sends : (u : State) (o : ℕ) (outs : List Out) (s : State) → length u.net ≤ length s.net → Seeing u s → Seeing u (sends s o outs)
seeing_sends u o [] s l h = h
seeing_sends u o (out ∷ outs) s l h = seeing_sends u o outs (sends_one s o out) (let k : length s.net ≤ length (sends_one s o out).net = grind (arith, looks) in omega (arith, l, k)) (seeing_one u o s out l h)

-- what a replica tells of the register that a round asks about
asked_key : (call : ℕ) (w : RegWork) (p : RegPhase) (q : Request) (key : Key) → phase_request call w p ≡ Some q → work_key w ≡ Some key → is_asking p ≡ true → (q ≡ request.Ask key) ⊎ (q ≡ request.Stamp key)
asked_key call (work.Fix deps) p q key a b e = absurd (none_is_not key b)
asked_key call (work.Read k) phase.Fixing q key a b e = absurd (none_is_not q a)
asked_key call (work.Read k) phase.Asking q key a b e = inl (sym (some_is (request.Ask k) q a) ∙ ap request.Ask (some_is k key b))
asked_key call (work.Read k) phase.Stamping q key a b e = absurd (none_is_not q a)
asked_key call (work.Read k) (phase.Storing stamp) q key a b e = absurd (none_is_not q a)
asked_key call (work.Read k) (phase.Done end) q key a b e = absurd (none_is_not q a)
asked_key call (work.Write k value) phase.Fixing q key a b e = absurd (none_is_not q a)
asked_key call (work.Write k value) phase.Asking q key a b e = absurd (none_is_not q a)
asked_key call (work.Write k value) phase.Stamping q key a b e = inr (sym (some_is (request.Stamp k) q a) ∙ ap request.Stamp (some_is k key b))
asked_key call (work.Write k value) (phase.Storing stamp) q key a b e = absurd (true≢false (sym e))
asked_key call (work.Write k value) (phase.Done end) q key a b e = absurd (none_is_not q a)

-- a reply to such a request shows what the replica told
ask_shown : (cells : List RegReply) (key : Key) → (shown_stamp (replica_reply cells (request.Ask key)) ≡ Some (reply_cell (replica_reply cells (request.Ask key))).stamp) × (shown_stamp (replica_reply cells (request.Stamp key)) ≡ Some (reply_cell (replica_reply cells (request.Stamp key))).stamp)
unfolding replica_reply
ask_shown cells key = (refl, refl)

told_cell : (u : State) (service : ServiceId) (replica : ℕ) (q : Request) (answer : Reply) (key : Key) → (q ≡ request.Ask key) ⊎ (q ≡ request.Stamp key) → ReplicaReplies q answer → Tells u service replica q answer → stamp_le (stamp_in u service (replica - 1) key) (reply_cell answer).stamp ≡ true
told_cell u service replica q answer key (inl e) f h =
    let d : answer ≡ replica_reply f.cells (request.Ask key) = f.reply ∙ ap (replica_reply f.cells) e in
    let k : shown_stamp answer ≡ Some (reply_cell answer).stamp = subst (λ (x : Reply). shown_stamp x ≡ Some (reply_cell x).stamp) (sym d) (ask_shown f.cells key).0 in
    All-head (λ (x : Key). (stamp : Carstamp) → shown_stamp answer ≡ Some stamp → stamp_le (stamp_in u service (replica - 1) x) stamp ≡ true) key [] (subst (λ (x : Request). All (λ (y : Key). (stamp : Carstamp) → shown_stamp answer ≡ Some stamp → stamp_le (stamp_in u service (replica - 1) y) stamp ≡ true) (asked_of x)) e h.told) (reply_cell answer).stamp k
told_cell u service replica q answer key (inr e) f h =
    let d : answer ≡ replica_reply f.cells (request.Stamp key) = f.reply ∙ ap (replica_reply f.cells) e in
    let k : shown_stamp answer ≡ Some (reply_cell answer).stamp = subst (λ (x : Reply). shown_stamp x ≡ Some (reply_cell x).stamp) (sym d) (ask_shown f.cells key).1 in
    All-head (λ (x : Key). (stamp : Carstamp) → shown_stamp answer ≡ Some stamp → stamp_le (stamp_in u service (replica - 1) x) stamp ≡ true) key [] (subst (λ (x : Request). All (λ (y : Key). (stamp : Carstamp) → shown_stamp answer ≡ Some stamp → stamp_le (stamp_in u service (replica - 1) y) stamp ≡ true) (asked_of x)) e h.told) (reply_cell answer).stamp k

-- a round that has reached a majority has found what a majority held
module _ (u : State) (r : RegSession) (full : is_reached r.round ≡ true) (own : HearsItsReplicas r.round) (rows : (key : Key) → work_key r.work ≡ Some key → length (replicas_at u r.service) ≡ r.round.replicas) (h : RoundSince u r) where
  found_held : (key : Key) (z : Carstamp) → is_asking r.phase ≡ true → work_key r.work ≡ Some key → HeldBefore u r.service key z → stamp_le z (found_cell (greatest_heard r.round)).stamp ≡ true
  found_held key z a e k =
      let g = heard_what_was_held r.round (replicas_at u r.service) key z full own (rows key e) (majority_held key z (replicas_at u r.service) ∙ k) (λ at cell i. le_at_most (stamp_in u r.service at key) cell.stamp (h.heard at cell key a e i)) in
      subst (λ (q : Option RegReply). stamp_le z (found_cell q).stamp ≡ true) (sym g.is_greatest) (at_most_le z g.greatest.stamp g.at_least)

  read_sees : (w : RegWork) (key : Key) (agreed : Bool) → is_asking r.phase ≡ true → work_key r.work ≡ Some key → PhaseSees (HeldBefore u r.service key) (phase.Done (read_end w (found_cell (greatest_heard r.round)) agreed))
  read_sees (work.Read k) key agreed a e = λ z k'. found_held key z a e k'
  read_sees (work.Write k value) key agreed a e = λ z k'. found_held key z a e k'
  read_sees (work.Fix deps) key agreed a e = λ z k'. found_held key z a e k'

  reached_since : (p : RegPhase) → r.phase ≡ p → RoundSince u (reached r p)
  reached_since phase.Fixing e = record { heard = λ at cell key a f i. absurd (true≢false (sym a)); found = λ key f. tt }
  reached_since phase.Asking e = record { heard = λ at cell key a f i. absurd (true≢false (sym a)); found = λ key f. read_sees r.work key (is_agreed r.round) (ap is_asking e) f }
  reached_since phase.Stamping e = record { heard = λ at cell key a f i. absurd (true≢false (sym a)); found = λ key f z k. le_next z (found_cell (greatest_heard r.round)).stamp r.call (found_held key z (ap is_asking e) f k) }
  reached_since (phase.Storing stamp) e = record { heard = λ at cell key a f i. absurd (true≢false (sym a)); found = λ key f. subst (PhaseSees (HeldBefore u r.service key)) e (h.found key f) }
  reached_since (phase.Done end) e = h

-- a round that hears a reply
after_since : (u : State) (f : RegSession) (slot : ℕ) (r : Reply) → ((key : Key) → is_asking f.phase ≡ true → work_key f.work ≡ Some key → stamp_le (stamp_in u f.service slot key) (reply_cell r).stamp ≡ true) → slot < f.round.replicas → HearsItsReplicas f.round → ((key : Key) → work_key f.work ≡ Some key → length (replicas_at u f.service) ≡ f.round.replicas) → RoundSince u f → RoundSince u (session_after f (slot_replica slot) r)
after_since u f slot r new l inside rows h =
    cond_both (is_reached g.round) (reached g f.phase) g (RoundSince u) (λ t. reached_since u g t own (λ key e. rows key e ∙ sym same) hearing f.phase refl) (λ t. hearing)
  where
    g : RegSession
    g = record f { round = hears f.round (slot_replica slot) (reply_cell r) }

    same : g.round.replicas ≡ f.round.replicas
    same = hears_replicas f.round (slot_replica slot) (reply_cell r)

    own : HearsItsReplicas g.round
    own at cell i = subst (λ (n : ℕ). at < n) (sym same) (by_cell (hears_cell f.round slot (reply_cell r) at cell i))
      where
        by_cell : ((at ≡ slot) × (cell ≡ reply_cell r)) ⊎ IsHeardAt f.round at cell → at < f.round.replicas
        by_cell (inl e) = subst (λ (n : ℕ). n < f.round.replicas) (sym e.0) l
        by_cell (inr e) = inside at cell e

    hearing : RoundSince u g
    hearing = record { heard = λ at cell key a e i. by_cell at cell key a e (hears_cell f.round slot (reply_cell r) at cell i); found = h.found }
      where
        by_cell : (at : ℕ) (cell : RegReply) (key : Key) → is_asking f.phase ≡ true → work_key f.work ≡ Some key → ((at ≡ slot) × (cell ≡ reply_cell r)) ⊎ IsHeardAt f.round at cell → stamp_le (stamp_in u f.service at key) cell.stamp ≡ true
        by_cell at cell key a e (inl d) = subst (λ (n : ℕ). stamp_le (stamp_in u f.service n key) cell.stamp ≡ true) (sym d.0) (subst (λ (x : RegReply). stamp_le (stamp_in u f.service slot key) x.stamp ≡ true) (sym d.1) (new key a e))
        by_cell at cell key a e (inr d) = h.heard at cell key a e d

-- a round that begins
opening_since : (u : State) (c : Config) (s : State) (o : ℕ) (w : RegWork) (id : ServiceId) (currents : List (Option ℕ)) → ((slot m : ℕ) → get_or currents slot None ≡ Some m → ⊥) → OwnRound u (session_for c s o w id) currents
opening_since u c s o w id currents n = record {
  sent = λ slot m e. absurd (n slot m e);
  since = record { heard = λ at cell key a e i. absurd (nobody_heard_at (session_for c s o w id).round.replicas (session_for c s o w id).round.cut at cell i); found = λ key e. first_plain key w };
}
  where
    first_plain : (key : Key) (w : RegWork) → PhaseSees (HeldBefore u id key) (first_phase w)
    first_plain key (work.Fix deps) = tt
    first_plain key (work.Read k) = tt
    first_plain key (work.Write k value) = tt

without_since : (u : State) (x : Session) (id : ServiceId) (replica : ℕ) (currents : List (Option ℕ)) → SessionSince u x currents → SessionSince u (session_without x (Replica id replica)) currents
without_since u (session.Register r) id replica currents h = cond_both (same_service r.service id) _ r (λ (f : RegSession). OwnRound u f currents) (λ t. record { sent = h.sent; since = record { heard = h.since.heard; found = h.since.found } }) (λ t. h)
without_since u (session.Fixing r) id replica currents h = tt
without_since u session.Idle id replica currents h = tt
without_since u (session.Transaction t) id replica currents h = tt
without_since u (session.Snapshot t) id replica currents h = tt
without_since u (session.Settling attempt shards) id replica currents h = tt

module _ (c : Config) (n : IsInOrder c) (u : State) (shape : SameShape (start c) u) where
  -- what is known of the later state, and of both
  abbrev pub Between : State → Type 0
  Between s = Settled c n s × Telling u s

  abbrev pub BetweenAt : State → ℕ → Type 0
  BetweenAt s o = SettledAt c n s o × Telling u s

  -- the replicas of an owner's round, in the earlier state
  rows_before : (s : State) (o : ℕ) (f : RegSession) (key : Key) → IsRound (session_at s o) f → Between s → work_key f.work ≡ Some key → length (replicas_at u f.service) ≡ f.round.replicas
  rows_before s o f key x b e = by_work f.work refl e
    where
      by_work : (w : RegWork) → f.work ≡ w → work_key w ≡ Some key → length (replicas_at u f.service) ≡ f.round.replicas
      by_work (work.Fix deps) d g = absurd (none_is_not key g)
      by_work (work.Read k) d g = shape.rows (service_index f.service) ∙ (sym (b.0.0.0.1.same.rows (service_index f.service)) ∙ rows_of c s o f n x b.0.0.0 k [] (ap work_registers d))
      by_work (work.Write k value) d g = shape.rows (service_index f.service) ∙ (sym (b.0.0.0.1.same.rows (service_index f.service)) ∙ rows_of c s o f n x b.0.0.0 k [] (ap work_registers d))

  -- a round of an owner that hears a reply, with these currents left
  hearing_since : (s : State) (o slot : ℕ) (r : Reply) (f : RegSession) (left : List (Option ℕ)) → Heard s o slot r → session_at s o ≡ session.Register f → Between s → ((k m : ℕ) → get_or left k None ≡ Some m → get_or (owner_at s o).currents k None ≡ Some m) → SessionSince u (session_at s o) (owner_at s o).currents → OwnRound u (session_after f (slot_replica slot) r) left
  hearing_since s o slot r f left d x b less h = record {
    sent = λ k m e. own.sent k m (less k m e);
    since = after_since u f slot r new asked.within (round_held s o f (inr x) b.0.1).inside (λ key e. rows_before s o f key (inr x) b e) own.since;
  }
    where
      own : OwnRound u f (owner_at s o).currents
      own = subst (λ (y : Session). SessionSince u y (owner_at s o).currents) x h

      exchange : ℕ
      exchange = (message_at s.net d.number).envelope.exchange

      asked : IsAsked s.net o f slot exchange
      asked = heard_asked s o slot r f d (inr x) b.0.0.0.0.0.1

      g : Sound s
      g = b.1.sound

      target : (message_at s.net d.number).envelope.target ≡ Replica f.service (slot_replica slot)
      target = (g.sound d.number d.numbered d.sent).target ∙ asked.target

      tells : Tells u f.service (slot_replica slot) asked.request r
      tells = b.1.tell.each d.number (slot_replica slot) f.service asked.request r d.numbered d.sent target d.says asked.says (own.sent slot exchange (slot_current (owner_at s o).currents exchange slot d.current))

      fits : ReplicaReplies asked.request r
      fits = subst (λ (t : Target). Fits t asked.request r) target ((g.sound d.number d.numbered d.sent).fits asked.request r d.says asked.says)

      back : slot_replica slot - 1 ≡ slot
      back = omega arith

      new : (key : Key) → is_asking f.phase ≡ true → work_key f.work ≡ Some key → stamp_le (stamp_in u f.service slot key) (reply_cell r).stamp ≡ true
      new key a e = subst (λ (m : ℕ). stamp_le (stamp_in u f.service m key) (reply_cell r).stamp ≡ true) back (told_cell u f.service (slot_replica slot) asked.request r key (asked_key f.call f.work f.phase asked.request key asked.of_phase e a) fits tells)

  since_of : (s : State) (o : ℕ) → Seeing u s → u.steps < (owner_at s o).dates.launched → SessionSince u (session_at s o) (owner_at s o).currents
  since_of s o h l = (owner_since u s o h).since l

  leaving_since : (at : Reading) (s : State) (o : ℕ) (w : Owner) (outs : List Out) → Leaving c at s o w outs → AtRest s o → Seeing u s → OwnerSince u w
  leaving_since at s o _ _ (waits id time rest l) g h = record { since = λ k. since_of s o h k }
  leaving_since at s o _ _ (fixes_work id rest l) g h = record { since = λ k. tt }
  leaving_since at s o _ _ (fixes_own x dep deps l e d) g h = record { since = λ k. tt }
  leaving_since at s o _ _ (asks_register key l e d) g h = record { since = λ k. opening_since u c s o (work.Read key) key.service (owner_at s o).currents (λ slot m. idle_current s.net o (owner_at s o) slot m (g.0.each o) g.1.idle) }
  leaving_since at s o _ _ (stamps_register key value l e d) g h = record { since = λ k. opening_since u c s o (work.Write key value) key.service (owner_at s o).currents (λ slot m. idle_current s.net o (owner_at s o) slot m (g.0.each o) g.1.idle) }
  leaving_since at s o _ _ (begins_snapshot keys t l e d) g h = record { since = λ k. tt }
  leaving_since at s o _ _ (begins_txn reads guard writes t l e d) g h = record { since = λ k. tt }
  leaving_since at s o _ _ (fence_done l e) g h = record { since = λ k. no_more u (session_at s o) (owner_at s o).currents (since_of s o h k) }
  leaving_since at s o _ _ (stub_done x l e) g h = record { since = λ k. no_more u (session_at s o) (owner_at s o).currents (since_of s o h k) }

  working_since : (at : Reading) (s : State) (o : ℕ) (w : Owner) → Working at s o w → Seeing u s → OwnerSince u w
  working_since at s o _ (owes_nothing id rest l) h = record { since = λ k. tt }
  working_since at s o _ (is_past id time rest l e) h = record { since = λ k. tt }
  working_since at s o _ (enters_own x l e f) h = record { since = λ k. since_of s o h k }

  resting_since : (s : State) (o : ℕ) (w : Owner) → Resting s o w → OwnerSince u w
  resting_since s o _ (plans e b) = record { since = λ k. tt }
  resting_since s o _ (past id x rest time l e) = record { since = λ k. tt }
  resting_since s o _ (fixed id x rest r e l a b d) = record { since = λ k. tt }
  resting_since s o _ (cleared r e l a b d) = record { since = λ k. tt }

  turning_since : (s : State) (o : ℕ) (x : Session) (outs : List Out) (currents : List (Option ℕ)) → ShardTurning s o x outs → SessionSince u x currents
  turning_since s o _ _ currents (txn_heard t l at r e) = tt
  turning_since s o _ _ currents (txn_woken t l e) = tt
  turning_since s o _ _ currents (txn_passed t e) = tt
  turning_since s o _ _ currents (snap_heard t l r e) = tt
  turning_since s o _ _ currents (snap_woken t l e) = tt

  closed_since : (s : State) (o : ℕ) (w : Owner) → w.session ≡ session_at s o → w.dates.launched ≡ (owner_at s o).dates.launched → w.currents ≡ no_currents → Seeing u s → OwnerSince u w
  closed_since s o w e l k h = record { since = λ a. subst (λ (y : Session). SessionSince u y w.currents) (sym e) (subst (λ (cs : List (Option ℕ)). SessionSince u (session_at s o) cs) (sym k) (no_more u (session_at s o) (owner_at s o).currents (since_of s o h (subst (λ (m : ℕ). u.steps < m) l a)))) }

  doing_since : (s : State) (o : ℕ) (w : Owner) (outs : List Out) (new : List Dep) → Doing s o w outs new → Between s → Seeing u s → OwnerSince u w
  doing_since s o _ _ _ (listens_one slot r d) b h = record { since = λ k. since_currents u (session_at s o) (owner_at s o).currents _ (λ i m e. inl (current_less (owner_at s o).currents slot i m e).0) (since_of s o h k) }
  doing_since s o _ _ _ (fix_hears f slot r x d e) b h = record { since = λ k. tt }
  doing_since s o _ _ _ (fix_reached f slot r y x d e) b h = record { since = λ k. tt }
  doing_since s o _ _ _ (register_hears f slot r x d a e) b h = record { since = λ k. hearing_since s o slot r f _ d x b (λ i m q. (current_less (owner_at s o).currents slot i m q).0) (since_of s o h k) }
  doing_since s o _ _ _ (register_stores f slot r x d a e) b h = record { since = λ k. hearing_since s o slot r f no_currents d x b (λ i m q. absurd (none_current i m q)) (since_of s o h k) }
  doing_since s o _ _ _ (register_reached f slot r y x d e) b h = record { since = λ k. hearing_since s o slot r f no_currents d x b (λ i m q. absurd (none_current i m q)) (since_of s o h k) }
  doing_since s o _ _ _ (read_ends f key cell dep x a d) b h = closed_since s o _ refl refl refl h
  doing_since s o _ _ _ (write_ends f key value e x a d) b h = closed_since s o _ refl refl refl h
  doing_since s o _ _ _ (txn_ends y t time a d e) b h = closed_since s o _ refl refl refl h
  doing_since s o _ _ _ (snap_ends y t time a d e) b h = closed_since s o _ refl refl refl h
  doing_since s o _ _ _ (counts_one target) b h = record { since = λ k. since_of s o h k }
  doing_since s o _ _ _ (cuts_one id replica) b h = record { since = λ k. without_since u (session_at s o) id replica _ (since_currents u (session_at s o) (owner_at s o).currents _ (λ i m e. inl (current_without s.net (Replica id replica) (owner_at s o).currents i m e)) (since_of s o h k)) }
  doing_since s o _ _ _ (is_closed f) b h = closed_since s o _ refl refl refl h
  doing_since s o _ _ _ forgets_all b h = closed_since s o _ refl refl refl h
  doing_since s o _ _ _ (turns x outs y) b h = record { since = λ k. turning_since s o x outs (owner_at s o).currents y }
  doing_since s o _ _ _ (stub_asks attempt shards e d) b h = record { since = λ k. tt }

  seeing_own : (s t : State) (o : ℕ) (w : Owner) → t.owners ≡ set s.owners o w → OwnerSince u w → Seeing u s → Seeing u t
  seeing_own s t o w d v h = record { owners = subst (All (OwnerSince u)) (sym d) (All-set (OwnerSince u) s.owners o w v h.owners) }

  seeing_grow : (s t : State) (w : Owner) → t.owners ≡ s.owners ++ w ∷ [] → w.session ≡ session.Idle → Seeing u s → Seeing u t
  seeing_grow s t w d e h = record { owners = subst (All (OwnerSince u)) (sym d) (All-push (OwnerSince u) s.owners w h.owners (record { since = λ k. subst (λ (y : Session). SessionSince u y w.currents) (sym e) tt })) }

  seeing_settles : (s : State) (o slot : ℕ) (a : Attempt) (shards : List ℕ) (outcome : Outcome) → length u.net ≤ length s.net → Seeing u s → Seeing u (plans_stub (sends (listens s o slot) o (tells_decision a outcome shards)) o)
  seeing_settles s o slot a shards outcome l h =
      let v = listens s o slot in
      let q : Seeing u v = seeing_own s v o (listened s o slot) refl (record { since = λ k. since_currents u (session_at s o) (owner_at s o).currents _ (λ i m e. inl (current_less (owner_at s o).currents slot i m e).0) (since_of s o h k) }) h in
      let t = sends v o (tells_decision a outcome shards) in
      let p : Seeing u t = seeing_sends u o (tells_decision a outcome shards) v l q in
      seeing_own t (plans_stub t o) o _ refl (record { since = λ k. tt }) p

  longer_same : (s t : State) → t.net ≡ s.net → length u.net ≤ length s.net → length u.net ≤ length t.net
  longer_same s t e l = subst (λ (net : List Message). length u.net ≤ length net) (sym e) l

  pub seeing_under : (at : Reading) → OwnerKeepsUnder c at Between BetweenAt (Seeing u) (λ s o. Seeing u s)
  seeing_under at = record {
    fates = λ s m f b h. record { owners = h.owners };
    shards = λ s m shard r d b h. record { owners = h.owners };
    replicas = λ s m id replica r d b h. record { owners = All-set (OwnerSince u) s.owners (message_at s.net m).envelope.owner _ (record { since = λ k. since_of s (message_at s.net m).envelope.owner h k }) h.owners };
    again = λ s o exchange slot target r d b h. seeing_one u o s (record { slot = Some slot; target = target; request = r }) b.1.later.net h;
    stages = λ s t d b h. record { owners = subst (All (OwnerSince u)) (sym d.owned) h.owners };
    dies = λ s t m x d b h. seeing_grow s t _ d.owned refl h;
    begins = λ s t w y d b h. seeing_grow s t w d.owned (beginning_idle c s w y) h;
    rests = λ s t o w i y d b h. seeing_own s t o w d.owned (resting_since s o w y) h;
    settles = λ s o slot a shards outcome i e d b h. seeing_settles s o slot a shards outcome b.1.later.net h;
    settled = λ s o b h. h;
    works = λ s t o w i y d b h. seeing_own s t o w d.owned (working_since at s o w y h) h;
    leaves = λ s t o w outs i y d b h. seeing_sends u o outs t (longer_same s t d.stores.net b.1.later.net) (seeing_own s t o w d.owned (leaving_since at s o w outs y b.0.0.0.0.0.1 h) h);
    does = λ s t o w outs new y d b h. seeing_sends u o outs t (longer_same s t d.stores.net b.1.later.net) (seeing_own s t o w d.owned (doing_since s o w outs new y b h) h);
  }

  between_keeps : (at : Reading) → OwnerKeeps c at Between BetweenAt
  between_keeps at =
      stacked c at (Settled c n) (SettledAt c n) (Telling u) (λ s o. Telling u s) ((settled_kept c n).keeps at)
      (side_by_side c at (Settled c n) (SettledAt c n) (Telling u) (λ s o. Telling u s) (store_owner c at (Telling u) (telling_keeps u)))

  telling_ticks : (s : State) (at : Reading) → Telling u s → Telling u (ticks s at)
  telling_ticks s at h = record {
    sound = record { first = h.sound.first; sound = h.sound.sound };
    later = record { decisions = h.later.decisions; floors = h.later.floors; net = h.later.net; envelopes = h.later.envelopes; bodies = h.later.bodies; stamps = h.later.stamps };
    tell = h.tell;
  }

  pub seeing_kept : IsKept c (λ s. Between s × Seeing u s) (λ s o. BetweenAt s o × Seeing u s)
  seeing_kept = record {
    keeps = λ at. stacked c at Between BetweenAt (Seeing u) (λ s o. Seeing u s) (between_keeps at) (seeing_under at);
    ticked = λ s at h. (((settled_kept c n).ticked s at h.0.0, telling_ticks s at h.0.1), record { owners = h.1.owners });
  }
