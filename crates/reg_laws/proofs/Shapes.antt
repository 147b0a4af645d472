-- The shape of what runs keep: the replicas of a service stay as many, each with all registers of the file,
-- and rounds are over the replicas of their service.
use Rattle.std.proofs.Common.{◌≡◌, ℕ, suc, ◌<◌, ◌≤◌, Bool, true, false, List, [], ◌∷◌, ◌++◌, All, length, get_or, Some, refl, ap, sym, ◌∙◌, subst, arith}
use Rattle.std.specs.Prelude.{⊤}
use Rattle.std.proofs.Math.ListN.{set}
use Rattle.std.proofs.lemmas.Bool.{cond_both}
use Rattle.std.proofs.lemmas.List.Elements.{All-cons, All-nil, All-set, All-push}
use Rattle.truetime.specs.Reading.{Reading}
use Rattle.rss_names.specs.declared.attempt.Attempt.{Attempt}
use Rattle.rss_names.specs.declared.service.Key.{Key}
use Rattle.rss_names.specs.declared.service.ServiceId.{ServiceId}
use Rattle.rss_names.specs.declared.service.Target.{Target}
use Rattle.rss_names.specs.declared.service.Target.TheVariants.{Shard, Replica}
use Rattle.rss_names.specs.Services.{same_service}
use Rattle.causal_context.specs.declared.dep.Dep.{Dep}
use Rattle.pipeline_lang.specs.declared.config.Config.{Config}
use Rattle.rss_wire.specs.Messages.{message_at}
use Rattle.rss_wire.specs.declared.messages.Outcome.{Outcome}
use Rattle.rss_wire.specs.declared.messages.RegReply.{RegReply}
use Rattle.rss_wire.specs.declared.messages.Reply.{Reply}
use Rattle.rss_wire.specs.declared.messages.Request.{Request}
use Rattle.rss_wire.specs.declared.messages.Request.TheVariants as request
use Rattle.rss_tables.specs.Lines.{tells_decision}
use Rattle.rss_tables.specs.Outs.{Out}
use Rattle.rss_tables.specs.RegisterSession.{RegSession, session_after, reached, reply_cell}
use Rattle.rss_tables.specs.Round.{hears, is_reached}
use Rattle.rss_tables.specs.declared.register_session.RegPhase.{RegPhase}
use Rattle.rss_tables.specs.declared.register_session.RegPhase.TheVariants as phase
use Rattle.rss_machine.specs.Moves.{ticks, sends_one, sends, session_without, listens, plans_stub}
use Rattle.rss_machine.specs.Session.{Session}
use Rattle.rss_machine.specs.State.{State, Owner, start, no_owner}
use Rattle.rss_machine.specs.declared.session.Session.TheVariants as session
use Rattle.world_laws.proofs.Doings.{Changed, Resting, plans, past, fixed, cleared, Working, owes_nothing, is_past, enters_own, Leaving, waits, fixes_work, fixes_own, asks_register, stamps_register, begins_snapshot, begins_txn, fence_done, stub_done, ShardTurning, txn_heard, txn_woken, txn_passed, snap_heard, snap_woken, Doing, listens_one, fix_hears, fix_reached, register_hears, register_stores, register_reached, read_ends, write_ends, txn_ends, snap_ends, counts_one, cuts_one, is_closed, forgets_all, turns, stub_asks}
use Rattle.std.proofs.lemmas.Bool.{false≢true}
use Rattle.world_laws.proofs.Sent.{SessionOut, RoundOut, to_shard, IsTold, decision_outs, leaving_outs, doing_outs, sends_each, SentAll, sent_meets, sent_asks, sent_answers}
use Rattle.world_laws.proofs.SessionMoves.{session_at, IsAgain}
use Rattle.world_laws.proofs.Replies.{Sound}
use Rattle.world_laws.proofs.Stacked.{OwnerKeepsUnder, sent_before}
use Rattle.world_laws.proofs.Sent.{sent_none}
use Rattle.std.proofs.Common.{◌-◌, ◌⊎◌, inl, inr}
use Rattle.std.specs.Prelude.{◌==◌, if◌then◌else◌}
use Rattle.std.proofs.lemmas.Bool.{true≢false, eqb-true}
use Rattle.world_laws.proofs.Looks.{get_or_set, get_or_repeat}
use Rattle.std.proofs.Math.ListN.{length-set}
use Rattle.std.proofs.lemmas.Bool.{false≢true, eq-eqb}
use Rattle.std.proofs.lemmas.List.{length-replicate}
use Rattle.std.specs.Prelude.{◌+◌, replicate}
use Rattle.carstamps.specs.Stamp.{stamp_lt}
use Rattle.rss_names.specs.declared.service.ServiceId.TheVariants.{Txn, Reg}
use Rattle.pipeline_lang.specs.Config.{replicas_of, replicas_among}
use Rattle.pipeline_lang.specs.declared.config.ServiceDef.{ServiceDef}
use Rattle.rss_tables.specs.ReplicaRow.{held_at, dep_cell, opening_cell, accept, accept_all, replica_after}
use Rattle.rss_machine.specs.State.{service_index, cells_at, replicas_at, replicas_of_services, replicas_before, opening_replicas}
use Rattle.world_laws.specs.Registers.{IsRegister}
use Rattle.world_laws.proofs.Contexts.{at_place}
use Rattle.world_laws.proofs.StoreMoves.{StoreKeeps}
use Rattle.reg_laws.specs.Files.{IsNext, next_number, AreNumbered, IsInOrder}
use Rattle.reg_laws.proofs.AwaitsOf.{hears_replicas}
use Rattle.reg_laws.proofs.Awaits.{beginning_idle}
use Rattle.reg_laws.proofs.Base.{Known, KnownAt, sound_of}
use Rattle.reg_laws.proofs.ValidServes.{placed}

-- the replicas are as many as in another state, and each has as many registers
pub record SameShape (u s : State) : Type 0 where
  pub rows : (i : ℕ) → length (get_or s.replicas i []) ≡ length (get_or u.replicas i [])
  pub cells : (i j : ℕ) → length (get_or (get_or s.replicas i []) j []) ≡ length (get_or (get_or u.replicas i []) j [])

pub accept_long : (cells : List RegReply) (key : Key) (cell : RegReply) → length (accept cells key cell) ≡ length cells
accept_long cells key cell = cond_both (stamp_lt (held_at cells key).stamp cell.stamp) (set cells key.index cell) cells (λ (xs : List RegReply). length xs ≡ length cells) (λ t. length-set cells key.index cell) (λ f. refl)

pub accept_all_long : (deps : List Dep) (cells : List RegReply) → length (accept_all cells deps) ≡ length cells
accept_all_long [] cells = refl
accept_all_long (dep ∷ deps) cells = accept_all_long deps (accept cells dep.key (dep_cell dep)) ∙ accept_long cells dep.key (dep_cell dep)

after_long : (cells : List RegReply) (r : Request) → length (replica_after cells r) ≡ length cells
unfolding replica_after
after_long cells (request.Store other value stamp writer) = accept_long cells other (record { value = value; stamp = stamp; writer = writer })
after_long cells (request.Fix deps) = accept_all_long deps cells
after_long cells (request.Ask other) = refl
after_long cells (request.Stamp other) = refl
after_long cells (request.Lock attempt coordinator reads writes) = refl
after_long cells (request.Prepare attempt least earliest_end writes) = refl
after_long cells (request.Decide attempt commit time) = refl
after_long cells (request.Commit attempt commit_time) = refl
after_long cells (request.Abort attempt) = refl
after_long cells (request.Inquire attempt) = refl
after_long cells (request.Release attempt time last) = refl
after_long cells (request.Snapshot read_time least keys skip) = refl

pub row_long : (all : List (List (List RegReply))) (x i : ℕ) (cells : List RegReply) (y : ℕ) → length (get_or (set all x (set (get_or all x []) i cells)) y []) ≡ length (get_or all y [])
row_long all x i cells y = by_place (get_or_set all x (set (get_or all x []) i cells) y [])
  where
    by_place : ((get_or (set all x (set (get_or all x []) i cells)) y [] ≡ set (get_or all x []) i cells) × (y ≡ x) × (x < length all)) ⊎ ((get_or (set all x (set (get_or all x []) i cells)) y [] ≡ get_or all y []) × ((y ≡ x → ⊥) ⊎ (length all ≤ y))) → length (get_or (set all x (set (get_or all x []) i cells)) y []) ≡ length (get_or all y [])
    by_place (inl e) = ap (λ (rows : List (List RegReply)). length rows) e.0 ∙ (length-set (get_or all x []) i cells ∙ ap (λ (n : ℕ). length (get_or all n [])) (sym e.1))
    by_place (inr e) = ap (λ (rows : List (List RegReply)). length rows) e.0

cells_long : (all : List (List (List RegReply))) (x i : ℕ) (cells : List RegReply) (y j : ℕ) → length cells ≡ length (get_or (get_or all x []) i []) → length (get_or (get_or (set all x (set (get_or all x []) i cells)) y []) j []) ≡ length (get_or (get_or all y []) j [])
cells_long all x i cells y j e = placed (λ (xs : List RegReply). length xs ≡ length (get_or (get_or all y []) j [])) all x i cells y j refl (λ f g. e ∙ (ap (λ (n : ℕ). length (get_or (get_or all n []) i [])) (sym f) ∙ ap (λ (n : ℕ). length (get_or (get_or all y []) n [])) (sym g)))

shape_keeps : (u : State) → StoreKeeps (SameShape u)
shape_keeps u = record {
  fates = λ s m f h. record { rows = h.rows; cells = h.cells };
  sends = λ s o out h. record { rows = h.rows; cells = h.cells };
  shards = λ s m shard latest r d h. record { rows = h.rows; cells = h.cells };
  replicas = λ s m id replica r d h. record {
    rows = λ i. row_long s.replicas (service_index id) (replica - 1) (replica_after (cells_at s id replica) r) i ∙ h.rows i;
    cells = λ i j. cells_long s.replicas (service_index id) (replica - 1) (replica_after (cells_at s id replica) r) i j (after_long (cells_at s id replica) r) ∙ h.cells i j;
  };
  others = λ s t e h. record {
    rows = λ i. ap (λ (all : List (List (List RegReply))). length (get_or all i [])) e.replicas ∙ h.rows i;
    cells = λ i j. ap (λ (all : List (List (List RegReply))). length (get_or (get_or all i []) j [])) e.replicas ∙ h.cells i j;
  };
}

-- a round is over the replicas of its service
abbrev pub RoundShaped : Config → RegSession → Type 0
RoundShaped c r = r.round.replicas ≡ replicas_of c r.service

abbrev pub SessionShaped : Config → Session → Type 0
SessionShaped c (session.Fixing r) = RoundShaped c r
SessionShaped c (session.Register r) = RoundShaped c r
SessionShaped c session.Idle = ⊤
SessionShaped c (session.Transaction t) = ⊤
SessionShaped c (session.Snapshot t) = ⊤
SessionShaped c (session.Settling attempt shards) = ⊤

-- a request to a replica is to one of the service's
abbrev pub Within : Config → ℕ → Target → Request → Type 0
Within c o (Shard n) r = ⊤
Within c o (Replica service replica) r = (1 ≤ replica) × (replica ≤ replicas_of c service)

pub record Shapes (c : Config) (s : State) : Type 0 where
  pub same : SameShape (start c) s
  pub sessions : All (λ (w : Owner). SessionShaped c w.session) s.owners
  pub messages : SentAll (Within c) s.net

module _ (c : Config) where
  abbrev OwnerShaped : Owner → Type 0
  OwnerShaped w = SessionShaped c w.session

  pub session_shaped : (s : State) (o : ℕ) → All OwnerShaped s.owners → SessionShaped c (session_at s o)
  session_shaped s o h = at_place OwnerShaped s.owners o no_owner tt h

  reached_same : (r : RegSession) (p : RegPhase) → ((reached r p).round.replicas ≡ r.round.replicas) × ((reached r p).service ≡ r.service)
  reached_same r phase.Fixing = (refl, refl)
  reached_same r phase.Asking = (refl, refl)
  reached_same r phase.Stamping = (refl, refl)
  reached_same r (phase.Storing stamp) = (refl, refl)
  reached_same r (phase.Done end) = (refl, refl)

  after_shaped : (f : RegSession) (from : ℕ) (r : Reply) → RoundShaped c f → RoundShaped c (session_after f from r)
  after_shaped f from r h =
      let g = record f { round = hears f.round from (reply_cell r) } in
      let q : RoundShaped c g = hears_replicas f.round from (reply_cell r) ∙ h in
      cond_both (is_reached g.round) (reached g f.phase) g (RoundShaped c) (λ t. let e = reached_same g f.phase in e.0 ∙ (q ∙ ap (replicas_of c) (sym e.1))) (λ t. q)

  without_shaped : (x : Session) (id : ServiceId) (replica : ℕ) → SessionShaped c x → SessionShaped c (session_without x (Replica id replica))
  without_shaped (session.Fixing r) id replica h = cond_both (same_service r.service id) _ r (RoundShaped c) (λ t. h) (λ t. h)
  without_shaped (session.Register r) id replica h = cond_both (same_service r.service id) _ r (RoundShaped c) (λ t. h) (λ t. h)
  without_shaped session.Idle id replica h = tt
  without_shaped (session.Transaction t) id replica h = tt
  without_shaped (session.Snapshot t) id replica h = tt
  without_shaped (session.Settling attempt shards) id replica h = tt

  leaving_shaped : (at : Reading) (s : State) (o : ℕ) (w : Owner) (outs : List Out) → Leaving c at s o w outs → SessionShaped c (session_at s o) → OwnerShaped w
  leaving_shaped at s o _ _ (waits id time rest l) h = h
  leaving_shaped at s o _ _ (fixes_work id rest l) h = refl
  leaving_shaped at s o _ _ (fixes_own x dep deps l e d) h = refl
  leaving_shaped at s o _ _ (asks_register key l e d) h = refl
  leaving_shaped at s o _ _ (stamps_register key value l e d) h = refl
  leaving_shaped at s o _ _ (begins_snapshot keys t l e d) h = tt
  leaving_shaped at s o _ _ (begins_txn reads guard writes t l e d) h = tt
  leaving_shaped at s o _ _ (fence_done l e) h = h
  leaving_shaped at s o _ _ (stub_done u l e) h = h

  working_shaped : (at : Reading) (s : State) (o : ℕ) (w : Owner) → Working at s o w → SessionShaped c (session_at s o) → OwnerShaped w
  working_shaped at s o _ (owes_nothing id rest l) h = tt
  working_shaped at s o _ (is_past id time rest l e) h = tt
  working_shaped at s o _ (enters_own x l e f) h = h

  resting_shaped : (s : State) (o : ℕ) (w : Owner) → Resting s o w → OwnerShaped w
  resting_shaped s o _ (plans e b) = tt
  resting_shaped s o _ (past id x rest time l e) = tt
  resting_shaped s o _ (fixed id x rest r e l a b d) = tt
  resting_shaped s o _ (cleared r e l a b d) = tt

  turning_shaped : (s : State) (o : ℕ) (x : Session) (outs : List Out) → ShardTurning s o x outs → SessionShaped c x
  turning_shaped s o _ _ (txn_heard t l at r e) = tt
  turning_shaped s o _ _ (txn_woken t l e) = tt
  turning_shaped s o _ _ (txn_passed t e) = tt
  turning_shaped s o _ _ (snap_heard t l r e) = tt
  turning_shaped s o _ _ (snap_woken t l e) = tt

  under_shaped : (x y : Session) → x ≡ y → SessionShaped c x → SessionShaped c y
  under_shaped x y e h = subst (SessionShaped c) e h

  doing_shaped : (s : State) (o : ℕ) (w : Owner) (outs : List Out) (new : List Dep) → Doing s o w outs new → SessionShaped c (session_at s o) → OwnerShaped w
  doing_shaped s o _ _ _ (listens_one slot r d) h = h
  doing_shaped s o _ _ _ (fix_hears f slot r x d e) h = after_shaped f _ r (under_shaped _ (session.Fixing f) x h)
  doing_shaped s o _ _ _ (fix_reached f slot r y x d e) h = after_shaped f _ r (under_shaped _ (session.Fixing f) x h)
  doing_shaped s o _ _ _ (register_hears f slot r x d a e) h = after_shaped f _ r (under_shaped _ (session.Register f) x h)
  doing_shaped s o _ _ _ (register_stores f slot r x d a e) h = after_shaped f _ r (under_shaped _ (session.Register f) x h)
  doing_shaped s o _ _ _ (register_reached f slot r y x d e) h = after_shaped f _ r (under_shaped _ (session.Register f) x h)
  doing_shaped s o _ _ _ (read_ends f key cell dep x a b) h = h
  doing_shaped s o _ _ _ (write_ends f key value e x a b) h = h
  doing_shaped s o _ _ _ (txn_ends y t time a b d) h = h
  doing_shaped s o _ _ _ (snap_ends y t time a b d) h = h
  doing_shaped s o _ _ _ (counts_one target) h = h
  doing_shaped s o _ _ _ (cuts_one id replica) h = without_shaped (session_at s o) id replica h
  doing_shaped s o _ _ _ (is_closed f) h = h
  doing_shaped s o _ _ _ forgets_all h = h
  doing_shaped s o _ _ _ (turns x outs y) h = turning_shaped s o x outs y
  doing_shaped s o _ _ _ (stub_asks attempt shards e b) h = tt

  -- what is sent is within the services
  round_within : (o : ℕ) (r : RegSession) (out : Out) → RoundShaped c r → RoundOut r out → Within c o out.target out.request
  round_within o r out h d = subst (λ (t : Target). Within c o t out.request) (sym d.target) (d.from_one, subst (λ (n : ℕ). d.replica ≤ n) h d.within)

  shard_within : (o : ℕ) (target : Target) (r : Request) → to_shard target r ≡ true → Within c o target r
  shard_within o (Shard n) r e = tt
  shard_within o (Replica service replica) r e = absurd (false≢true e)

  out_within : (o : ℕ) (x : Session) (out : Out) → SessionShaped c x → SessionOut x out → Within c o out.target out.request
  out_within o (session.Fixing r) out h d = round_within o r out h d
  out_within o (session.Register r) out h d = round_within o r out h d
  out_within o session.Idle out h d = shard_within o out.target out.request d
  out_within o (session.Transaction t) out h d = shard_within o out.target out.request d
  out_within o (session.Snapshot t) out h d = shard_within o out.target out.request d
  out_within o (session.Settling attempt shards) out h d = shard_within o out.target out.request d

  shapes_one : (o : ℕ) (s : State) (out : Out) → Within c o out.target out.request → Shapes c s → Shapes c (sends_one s o out)
  shapes_one o s out q h = record {
    same = (shape_keeps (start c)).sends s o out h.same;
    sessions = All-set OwnerShaped s.owners o _ (session_shaped s o h.sessions) h.sessions;
    messages = sent_asks (Within c) s.net o _ out.target out.request q h.messages;
  }

  shapes_sends : (o : ℕ) (x : Session) (outs : List Out) (s : State) → SessionShaped c x → All (SessionOut x) outs → Shapes c s → Shapes c (sends s o outs)
  shapes_sends o x outs s i a h = sends_each (Shapes c) (SessionOut x) o (λ t out d p. shapes_one o t out (out_within o x out i d) p) outs s a h

  shapes_changed : (new : List Dep) (s t : State) (owners : List Owner) → Changed new owners s t → All OwnerShaped owners → Shapes c s → Shapes c t
  shapes_changed new s t owners d a h = record {
    same = (shape_keeps (start c)).others s t d.stores h.same;
    sessions = subst (All OwnerShaped) (sym d.owned) a;
    messages = subst (SentAll (Within c)) (sym d.stores.net) h.messages;
  }

  shapes_own : (s t : State) (o : ℕ) (w : Owner) → Changed [] (set s.owners o w) s t → OwnerShaped w → Shapes c s → Shapes c t
  shapes_own s t o w d v h = shapes_changed [] s t (set s.owners o w) d (All-set OwnerShaped s.owners o w v h.sessions) h

  shapes_settles : (s : State) (o slot : ℕ) (a : Attempt) (shards : List ℕ) (outcome : Outcome) → Shapes c s → Shapes c (plans_stub (sends (listens s o slot) o (tells_decision a outcome shards)) o)
  shapes_settles s o slot a shards outcome h =
      planned_shapes (sends (listens s o slot) o (tells_decision a outcome shards))
      (sends_each (Shapes c) IsTold o (λ v out d p. shapes_one o v out (shard_within o out.target out.request d.to) p) (tells_decision a outcome shards) (listens s o slot) (decision_outs a outcome shards)
      (record { same = record { rows = h.same.rows; cells = h.same.cells }; sessions = All-set OwnerShaped s.owners o _ (session_shaped s o h.sessions) h.sessions; messages = h.messages }))
    where
      planned_shapes : (v : State) → Shapes c v → Shapes c (plans_stub v o)
      planned_shapes v p = record { same = record { rows = p.same.rows; cells = p.same.cells }; sessions = All-set OwnerShaped v.owners o _ tt p.sessions; messages = p.messages }

  shapes_again : (s : State) (o exchange slot : ℕ) (target : Target) (r : Request) → IsAgain s o exchange slot target r → Sound s → Shapes c s → Within c o target r
  shapes_again s o exchange slot target r d g h =
      let b = sent_before s o exchange slot target r g d in
      subst (λ (t : Target). Within c o t r) b.target_of (subst (λ (n : ℕ). Within c n (message_at s.net exchange).envelope.target r) b.owner (h.messages.each exchange r d.asked))

  pub shapes_under : (at : Reading) → OwnerKeepsUnder c at (Known c) (KnownAt c) (Shapes c) (λ s o. Shapes c s)
  shapes_under at = record {
    fates = λ s m f g h. record { same = (shape_keeps (start c)).fates s m f h.same; sessions = h.sessions; messages = sent_meets (Within c) s.net m f h.messages };
    shards = λ s m shard r d g h. record { same = (shape_keeps (start c)).shards s m shard at.latest r d h.same; sessions = h.sessions; messages = sent_answers (Within c) s.net m _ h.messages };
    replicas = λ s m id replica r d g h. record {
      same = (shape_keeps (start c)).replicas s m id replica r d h.same;
      sessions = All-set OwnerShaped s.owners (message_at s.net m).envelope.owner _ (session_shaped s (message_at s.net m).envelope.owner h.sessions) h.sessions;
      messages = sent_answers (Within c) s.net m _ h.messages;
    };
    again = λ s o exchange slot target r d g h. shapes_one o s (record { slot = Some slot; target = target; request = r }) (shapes_again s o exchange slot target r d (sound_of c s g) h) h;
    stages = λ s t d g h. shapes_changed [] s t s.owners d h.sessions h;
    dies = λ s t n u d g h. shapes_changed [] s t _ d (All-push OwnerShaped s.owners _ h.sessions tt) h;
    begins = λ s t w b d g h. shapes_changed [] s t (s.owners ++ w ∷ []) d (All-push OwnerShaped s.owners w h.sessions (subst (SessionShaped c) (sym (beginning_idle c s w b)) tt)) h;
    rests = λ s t o w i b d g h. shapes_own s t o w d (resting_shaped s o w b) h;
    settles = λ s o slot a shards outcome i e d g h. shapes_settles s o slot a shards outcome h;
    settled = λ s o g h. h;
    works = λ s t o w i b d g h. shapes_own s t o w d (working_shaped at s o w b (session_shaped s o h.sessions)) h;
    leaves = λ s t o w outs i b d g h.
        let v = leaving_shaped at s o w outs b (session_shaped s o h.sessions) in
        shapes_sends o w.session outs t v (leaving_outs c at s o w outs b) (shapes_own s t o w d v h);
    does = λ s t o w outs new b d g h.
        let v = doing_shaped s o w outs new b (session_shaped s o h.sessions) in
        shapes_sends o w.session outs t v (doing_outs s o w outs new b) (shapes_changed new s t (set s.owners o w) d (All-set OwnerShaped s.owners o w v h.sessions) h);
  }

  pub shapes_start : Shapes c (start c)
  shapes_start = record { same = record { rows = λ i. refl; cells = λ i j. refl }; sessions = All-cons OwnerShaped no_owner [] tt (All-nil OwnerShaped); messages = sent_none (Within c) }

  pub shapes_ticks : (s : State) (at : Reading) → Shapes c s → Shapes c (ticks s at)
  shapes_ticks s at h = record { same = record { rows = h.same.rows; cells = h.same.cells }; sessions = h.sessions; messages = h.messages }

-- the replicas of a numbered service, and of a register of the file
numbered_rows : (registers : ℕ) (services : List ServiceDef) (n k : ℕ) → AreNumbered n services → n ≤ k → get_or (replicas_of_services registers services) (k - n) [] ≡ opening_replicas registers (replicas_among (Reg k) services)
numbered_rows registers [] n k h l = refl
numbered_rows registers (d ∷ services) n k h l = by_id d.id h (λ m g e. numbered_rows registers services m k g e)
  where
    by_number : (j : ℕ) → ((m : ℕ) → AreNumbered m services → m ≤ k → get_or (replicas_of_services registers services) (k - m) [] ≡ opening_replicas registers (replicas_among (Reg k) services)) → (j ≡ n) × AreNumbered (n + 1) services → (t : Bool) → (k == j) ≡ t → get_or (opening_replicas registers d.replicas ∷ replicas_of_services registers services) (k - n) [] ≡ opening_replicas registers (if t then d.replicas else replicas_among (Reg k) services)
    by_number j more g true e = let q : k - n ≡ 0 = let m = g.0 in let f = eqb-true k j e in omega (arith, m, f) in ap (λ (i : ℕ). get_or (opening_replicas registers d.replicas ∷ replicas_of_services registers services) i []) q
    by_number j more g false e =
        let m = g.0 in
        let ne : k ≡ j → ⊥ = λ f. absurd (true≢false (sym (eq-eqb k j f) ∙ e)) in
        let r : n + 1 ≤ k = above m ne in
        let q : k - n ≡ suc (k - (n + 1)) = omega (arith, r) in
        ap (λ (i : ℕ). get_or (opening_replicas registers d.replicas ∷ replicas_of_services registers services) i []) q ∙ more (n + 1) g.1 r
      where
        above : j ≡ n → (k ≡ j → ⊥) → n + 1 ≤ k
        above m ne = grind (arith, l, m, ne)

    by_id : (id : ServiceId) → IsNext id n × AreNumbered (next_number id n) services → ((m : ℕ) → AreNumbered m services → m ≤ k → get_or (replicas_of_services registers services) (k - m) [] ≡ opening_replicas registers (replicas_among (Reg k) services)) → get_or (replicas_before id (opening_replicas registers d.replicas) (replicas_of_services registers services)) (k - n) [] ≡ opening_replicas registers (if same_service (Reg k) id then d.replicas else replicas_among (Reg k) services)
    by_id (Txn j) g more = more n g.1 l
    by_id (Reg j) g more = by_number j more g (k == j) refl

file_rows : (c : Config) (key : Key) → IsInOrder c → IsRegister c key → get_or (start c).replicas (service_index key.service) [] ≡ opening_replicas (length c.registers) (replicas_of c key.service)
file_rows c key n g =
    let p : service_index key.service ≡ g.number - 1 = ap service_index g.is in
    ap (λ (i : ℕ). get_or (start c).replicas i []) p ∙ (numbered_rows (length c.registers) c.services 1 g.number n.services g.first ∙ ap (λ (id : ServiceId). opening_replicas (length c.registers) (replicas_of c id)) (sym g.is))

pub shape_rows : (c : Config) (s : State) (key : Key) → IsInOrder c → IsRegister c key → Shapes c s → length (replicas_at s key.service) ≡ replicas_of c key.service
shape_rows c s key n g h =
    h.same.rows (service_index key.service) ∙ (ap (λ (rows : List (List RegReply)). length rows) (file_rows c key n g) ∙ length-replicate (replicas_of c key.service) (replicate (length c.registers) opening_cell))

pub shape_cells : (c : Config) (s : State) (key : Key) (place : ℕ) → IsInOrder c → IsRegister c key → place < replicas_of c key.service → Shapes c s → length (get_or (replicas_at s key.service) place []) ≡ length c.registers
shape_cells c s key place n g l h =
    h.same.cells (service_index key.service) place ∙ (ap (λ (rows : List (List RegReply)). length (get_or rows place [])) (file_rows c key n g) ∙ by_place (get_or_repeat (replicas_of c key.service) (replicate (length c.registers) opening_cell) place []))
  where
    by_place : ((get_or (replicate (replicas_of c key.service) (replicate (length c.registers) opening_cell)) place [] ≡ replicate (length c.registers) opening_cell) × (place < replicas_of c key.service)) ⊎ ((get_or (replicate (replicas_of c key.service) (replicate (length c.registers) opening_cell)) place [] ≡ []) × (replicas_of c key.service ≤ place)) → length (get_or (replicate (replicas_of c key.service) (replicate (length c.registers) opening_cell)) place []) ≡ length c.registers
    by_place (inl e) = ap (λ (cells : List RegReply). length cells) e.0 ∙ length-replicate (length c.registers) opening_cell
    by_place (inr e) = absurd (let k = e.1 in omega (arith, k, l))
