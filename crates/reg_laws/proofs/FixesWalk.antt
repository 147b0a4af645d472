-- A round of dependencies that is under way stays so, until a majority holds each of them.
use Rattle.std.proofs.Common.{◌≡◌, ℕ, Bool, true, false, List, [], ◌∷◌, ◌++◌, length, get_or, Some, refl, ap, sym, ◌∙◌, subst}
use Rattle.std.proofs.Math.ListN.{set}
use Rattle.std.proofs.lemmas.Bool.{cond_both}
use Rattle.truetime.specs.Reading.{Reading}
use Rattle.rss_names.specs.declared.attempt.Attempt.{Attempt}
use Rattle.rss_names.specs.declared.service.ServiceId.{ServiceId}
use Rattle.rss_names.specs.declared.service.Target.TheVariants.{Replica}
use Rattle.rss_names.specs.Services.{same_service}
use Rattle.causal_context.specs.declared.dep.Dep.{Dep}
use Rattle.pipeline_lang.specs.declared.config.Config.{Config}
use Rattle.rss_wire.specs.Messages.{message_at}
use Rattle.rss_wire.specs.declared.messages.Outcome.{Outcome}
use Rattle.rss_wire.specs.declared.messages.RegReply.{RegReply}
use Rattle.rss_wire.specs.declared.messages.Reply.{Reply}
use Rattle.rss_tables.specs.Lines.{tells_decision}
use Rattle.rss_tables.specs.Outs.{Out}
use Rattle.rss_tables.specs.RegisterSession.{RegSession, session_after, reached, reply_cell}
use Rattle.rss_tables.specs.Round.{hears, is_reached}
use Rattle.rss_tables.specs.declared.register_session.RegPhase.{RegPhase}
use Rattle.rss_tables.specs.declared.register_session.RegPhase.TheVariants as phase
use Rattle.rss_tables.specs.declared.register_session.RegWork.TheVariants as work
use Rattle.rss_machine.specs.Moves.{sends_one, sends, session_without, listens, plans_stub}
use Rattle.rss_machine.specs.Session.{Session}
use Rattle.rss_machine.specs.State.{State, Owner, no_owner}
use Rattle.rss_machine.specs.declared.session.Session.TheVariants as session
use Rattle.rss_machine.specs.declared.step.Step.{Step}
use Rattle.world_laws.proofs.Doings.{Resting, plans, past, fixed, cleared, ShardTurning, txn_heard, txn_woken, txn_passed, snap_heard, snap_woken, Doing, listens_one, fix_hears, fix_reached, register_hears, register_stores, register_reached, read_ends, write_ends, txn_ends, snap_ends, counts_one, cuts_one, is_closed, forgets_all, turns, stub_asks}
use Rattle.world_laws.proofs.SessionMoves.{session_at}
use Rattle.world_laws.proofs.Stacked.{OwnerKeepsUnder}
use Rattle.rss_tables.specs.Outs.{slot_replica}
use Rattle.world_laws.proofs.Doings.{listened}
use Rattle.std.proofs.Common.{◌<◌, ◌≤◌, ◌⊎◌, inl, inr, All, arith, ◌-◌}
use Rattle.std.proofs.Math.ListN.{length-set}
use Rattle.std.proofs.lemmas.Bool.{true≢false}
use Rattle.std.proofs.lemmas.List.Elements.{All-weaker}
use Rattle.causal_context.specs.Deps.{deps_of}
use Rattle.rss_wire.specs.declared.messages.Request.{Request}
use Rattle.rss_tables.specs.RegisterSession.{phase_end}
use Rattle.rss_tables.specs.declared.register_session.RegEnd.{RegEnd}
use Rattle.rss_machine.specs.Marks.{is_held}
use Rattle.rss_machine.specs.Moves.{marks_message, serves_shard, serves_replica, notes_served, ticks}
use Rattle.rss_machine.specs.Run.{run_from}
use Rattle.rss_machine.specs.State.{owner_at}
use Rattle.world_laws.proofs.Looks.{looks, get_or_set}
use Rattle.world_laws.proofs.Later.{later_keeps, later_same}
use Rattle.rss_machine.specs.State.{service_index, cells_at}
use Rattle.rss_tables.specs.ReplicaRow.{replica_after}
use Rattle.reg_laws.proofs.Shapes.{row_long}
use Rattle.reg_laws.proofs.Awaiting.{AtRest as Rest}
use Rattle.world_laws.proofs.StackRuns.{IsKept, kept_from}
use Rattle.world_laws.proofs.Stacked.{stacked, under_more}
use Rattle.world_laws.proofs.StoreMoves.{Serves}
use Rattle.reg_laws.specs.Agree.{FixAgrees, Agrees, AllAgree}
use Rattle.reg_laws.specs.Files.{IsInOrder}
use Rattle.reg_laws.proofs.Agree.{agree_under}
use Rattle.reg_laws.proofs.Awaiting.{Awaiting, OwnAwaited}
use Rattle.reg_laws.proofs.Rounds.{Settled, SettledAt, settled_kept}
use Rattle.reg_laws.proofs.RoundsHeld.{DepHeld, Upward, held_up}
use Rattle.reg_laws.proofs.Settles.{fix_settles}

-- a round that stores these dependencies on a service's registers
pub record StillFixes (id : ServiceId) (deps : List Dep) (x : Session) : Type 0 where
  pub round : RegSession
  pub under_way : x ≡ session.Fixing round
  pub of_work : round.work ≡ work.Fix deps
  pub of_service : round.service ≡ id

fixing_same : (x : Session) (f g : RegSession) → x ≡ session.Fixing f → x ≡ session.Fixing g → f ≡ g
fixing_same x f g a b = cc

-- whether a round of dependencies is under way
abbrev pub is_fixing : Session → Bool
is_fixing session.Idle = false
is_fixing (session.Fixing r) = true
is_fixing (session.Register r) = false
is_fixing (session.Transaction t) = false
is_fixing (session.Snapshot t) = false
is_fixing (session.Settling attempt shards) = false

not_fixing : (id : ServiceId) (deps : List Dep) (x : Session) → is_fixing x ≡ false → StillFixes id deps x → ⊥
not_fixing id deps x e h = true≢false (sym (ap is_fixing h.under_way) ∙ e)

reached_round : (r : RegSession) (p : RegPhase) → ((reached r p).work ≡ r.work) × ((reached r p).service ≡ r.service)
reached_round r phase.Fixing = (refl, refl)
reached_round r phase.Asking = (refl, refl)
reached_round r phase.Stamping = (refl, refl)
reached_round r (phase.Storing stamp) = (refl, refl)
reached_round r (phase.Done end) = (refl, refl)

after_round : (f : RegSession) (from : ℕ) (r : Reply) → ((session_after f from r).work ≡ f.work) × ((session_after f from r).service ≡ f.service)
after_round f from r =
    let g = record f { round = hears f.round from (reply_cell r) } in
    cond_both (is_reached g.round) (reached g f.phase) g (λ (x : RegSession). (x.work ≡ f.work) × (x.service ≡ f.service)) (λ t. reached_round g f.phase) (λ t. (refl, refl))

still_after : (id : ServiceId) (deps : List Dep) (x : Session) (f : RegSession) (from : ℕ) (r : Reply) → x ≡ session.Fixing f → StillFixes id deps x → StillFixes id deps (session.Fixing (session_after f from r))
still_after id deps x f from r e h =
    let q : f ≡ h.round = fixing_same x f h.round e h.under_way in
    let k = after_round f from r in
    record { round = session_after f from r; under_way = refl; of_work = k.0 ∙ (ap (λ (y : RegSession). y.work) q ∙ h.of_work); of_service = k.1 ∙ (ap (λ (y : RegSession). y.service) q ∙ h.of_service) }

still_without : (id : ServiceId) (deps : List Dep) (x : Session) (service : ServiceId) (replica : ℕ) → StillFixes id deps x → StillFixes id deps (session_without x (Replica service replica))
still_without id deps (session.Fixing r) service replica h =
    let q : r ≡ h.round = fixing_same (session.Fixing r) r h.round refl h.under_way in
    let w : r.work ≡ work.Fix deps = ap (λ (y : RegSession). y.work) q ∙ h.of_work in
    let v : r.service ≡ id = ap (λ (y : RegSession). y.service) q ∙ h.of_service in
    cond_both (same_service r.service service) _ r (λ (f : RegSession). StillFixes id deps (session.Fixing f)) (λ t. record { round = _; under_way = refl; of_work = w; of_service = v }) (λ t. record { round = r; under_way = refl; of_work = w; of_service = v })
still_without id deps session.Idle service replica h = absurd (not_fixing id deps session.Idle refl h)
still_without id deps (session.Register r) service replica h = absurd (not_fixing id deps (session.Register r) refl h)
still_without id deps (session.Transaction t) service replica h = absurd (not_fixing id deps (session.Transaction t) refl h)
still_without id deps (session.Snapshot t) service replica h = absurd (not_fixing id deps (session.Snapshot t) refl h)
still_without id deps (session.Settling attempt shards) service replica h = absurd (not_fixing id deps (session.Settling attempt shards) refl h)

turning_not : (id : ServiceId) (deps : List Dep) (s : State) (o : ℕ) (x : Session) (outs : List Out) → ShardTurning s o x outs → StillFixes id deps (session_at s o) → ⊥
turning_not id deps s o _ _ (txn_heard t l at r e) h = not_fixing id deps (session_at s o) (ap is_fixing e) h
turning_not id deps s o _ _ (txn_woken t l e) h = not_fixing id deps (session_at s o) (ap is_fixing e) h
turning_not id deps s o _ _ (txn_passed t e) h = not_fixing id deps (session_at s o) (ap is_fixing e) h
turning_not id deps s o _ _ (snap_heard t l r e) h = not_fixing id deps (session_at s o) (ap is_fixing e) h
turning_not id deps s o _ _ (snap_woken t l e) h = not_fixing id deps (session_at s o) (ap is_fixing e) h

-- what an owner does leaves its round of dependencies under way
doing_still : (id : ServiceId) (deps : List Dep) (s : State) (o : ℕ) (w : Owner) (outs : List Out) (new : List Dep) → Doing s o w outs new → OwnAwaited s.net o (owner_at s o) → StillFixes id deps (session_at s o) → StillFixes id deps w.session
doing_still id deps s o _ _ _ (listens_one slot r d) g h = h
doing_still id deps s o _ _ _ (fix_hears f slot r x d e) g h = still_after id deps (session_at s o) f (slot_replica slot) r x h
doing_still id deps s o _ _ _ (fix_reached f slot r y x d e) g h = still_after id deps (session_at s o) f (slot_replica slot) r x h
doing_still id deps s o _ _ _ (register_hears f slot r x d a e) g h = absurd (not_fixing id deps (session_at s o) (ap is_fixing x) h)
doing_still id deps s o _ _ _ (register_stores f slot r x d a e) g h = absurd (not_fixing id deps (session_at s o) (ap is_fixing x) h)
doing_still id deps s o _ _ _ (register_reached f slot r y x d e) g h = absurd (not_fixing id deps (session_at s o) (ap is_fixing x) h)
doing_still id deps s o _ _ _ (read_ends f key cell dep x a b) g h = h
doing_still id deps s o _ _ _ (write_ends f key value e x a b) g h = h
doing_still id deps s o _ _ _ (txn_ends y t time a b d) g h = h
doing_still id deps s o _ _ _ (snap_ends y t time a b d) g h = h
doing_still id deps s o _ _ _ (counts_one target) g h = h
doing_still id deps s o _ _ _ (cuts_one service replica) g h = still_without id deps (session_at s o) service replica h
doing_still id deps s o _ _ _ (is_closed f) g h = h
doing_still id deps s o _ _ _ forgets_all g h = h
doing_still id deps s o _ _ _ (turns x outs y) g h = absurd (turning_not id deps s o x outs y h)
doing_still id deps s o _ _ _ (stub_asks attempt shards e b) g h = absurd (not_fixing id deps (session_at s o) (ap is_fixing (g.unstarted b).0) h)

module _ (c : Config) (n : IsInOrder c) (q : ℕ) (id : ServiceId) (deps : List Dep) where
  abbrev pub Basis : State → Type 0
  Basis s = Settled c n s × AllAgree s

  abbrev pub BasisAt : State → ℕ → Type 0
  BasisAt s o = SettledAt c n s o × AllAgree s

  awaiting_of : (s : State) → Basis s → Awaiting s
  awaiting_of s h = h.0.0.0.0.0.1

  abbrev pub AllHeld : State → Type 0
  AllHeld s = All (DepHeld s id) deps

  -- the owner's round is under way still, or a majority holds its dependencies
  pub record Fixed (s : State) : Type 0 where
    pub there : q < length s.owners
    pub state : StillFixes id deps (session_at s q) ⊎ AllHeld s

  pub record FixedAt (s : State) (o : ℕ) : Type 0 where
    pub fixed : Fixed s
    pub own : o ≡ q → AllHeld s

  pub held_moved : (s t : State) → t.replicas ≡ s.replicas → AllHeld s → AllHeld t
  held_moved s t e h = All-weaker (DepHeld s id) (DepHeld t id) (λ d k. subst (λ (all : List (List (List RegReply))). is_held (get_or all (service_index id) []) d.key d.stamp ≡ true) (sym e) k) deps h

  -- owners change
  fixed_set : (s t : State) (o : ℕ) (w : Owner) → t.replicas ≡ s.replicas → t.owners ≡ set s.owners o w → (o ≡ q → StillFixes id deps (session_at s o) → StillFixes id deps w.session ⊎ AllHeld s) → Fixed s → Fixed t
  fixed_set s t o w r e f h = record { there = subst (λ (k : ℕ). q < k) (sym (ap (λ (owners : List Owner). length owners) e ∙ length-set s.owners o w)) h.there; state = by_state h.state }
    where
      at : (session_at t q ≡ session_at s q) ⊎ ((q ≡ o) × (session_at t q ≡ w.session))
      at = by_place (get_or_set s.owners o w q no_owner)
        where
          by_place : ((get_or (set s.owners o w) q no_owner ≡ w) × (q ≡ o) × (o < length s.owners)) ⊎ ((get_or (set s.owners o w) q no_owner ≡ get_or s.owners q no_owner) × ((q ≡ o → ⊥) ⊎ (length s.owners ≤ q))) → (session_at t q ≡ session_at s q) ⊎ ((q ≡ o) × (session_at t q ≡ w.session))
          by_place (inl x) = inr (x.1, ap (λ (owners : List Owner). (get_or owners q no_owner).session) e ∙ ap (λ (v : Owner). v.session) x.0)
          by_place (inr x) = inl (ap (λ (owners : List Owner). (get_or owners q no_owner).session) e ∙ ap (λ (v : Owner). v.session) x.0)

      by_state : StillFixes id deps (session_at s q) ⊎ AllHeld s → StillFixes id deps (session_at t q) ⊎ AllHeld t
      by_state (inr k) = inr (held_moved s t r k)
      by_state (inl k) = by_at at
        where
          by_next : session_at t q ≡ w.session → StillFixes id deps w.session ⊎ AllHeld s → StillFixes id deps (session_at t q) ⊎ AllHeld t
          by_next x (inl y) = inl (subst (StillFixes id deps) (sym x) y)
          by_next x (inr y) = inr (held_moved s t r y)

          by_at : (session_at t q ≡ session_at s q) ⊎ ((q ≡ o) × (session_at t q ≡ w.session)) → StillFixes id deps (session_at t q) ⊎ AllHeld t
          by_at (inl x) = inl (subst (StillFixes id deps) (sym x) k)
          by_at (inr x) = by_next x.1 (f (sym x.0) (subst (λ (i : ℕ). StillFixes id deps (session_at s i)) x.0 k))

  fixed_same : (s t : State) → t.replicas ≡ s.replicas → t.owners ≡ s.owners → Fixed s → Fixed t
  fixed_same s t r e h = record { there = subst (λ (owners : List Owner). q < length owners) (sym e) h.there; state = by_state h.state }
    where
      by_state : StillFixes id deps (session_at s q) ⊎ AllHeld s → StillFixes id deps (session_at t q) ⊎ AllHeld t
      by_state (inr k) = inr (held_moved s t r k)
      by_state (inl k) = inl (subst (λ (owners : List Owner). StillFixes id deps (get_or owners q no_owner).session) (sym e) k)

  fixed_grow : (s t : State) (w : Owner) → t.replicas ≡ s.replicas → t.owners ≡ s.owners ++ w ∷ [] → Fixed s → Fixed t
  fixed_grow s t w r e h = record { there = subst (λ (owners : List Owner). q < length owners) (sym e) (more s.owners w h.there); state = by_state h.state }
    where
      more : (xs : List Owner) (w : Owner) → q < length xs → q < length (xs ++ w ∷ [])
      more xs w l = grind (arith, looks, l)

      old : (xs : List Owner) (w : Owner) → q < length xs → get_or (xs ++ w ∷ []) q no_owner ≡ get_or xs q no_owner
      old xs w l = grind (arith, looks, l)

      by_state : StillFixes id deps (session_at s q) ⊎ AllHeld s → StillFixes id deps (session_at t q) ⊎ AllHeld t
      by_state (inr k) = inr (held_moved s t r k)
      by_state (inl k) = inl (subst (StillFixes id deps) (sym (ap (λ (owners : List Owner). (get_or owners q no_owner).session) e ∙ ap (λ (v : Owner). v.session) (old s.owners w h.there))) k)

  fixed_one : (o : ℕ) (s : State) (out : Out) → Fixed s → Fixed (sends_one s o out)
  fixed_one o s out h = fixed_set s (sends_one s o out) o _ refl refl (λ e k. inl k) h

  fixed_sends : (o : ℕ) (outs : List Out) (s : State) → Fixed s → Fixed (sends s o outs)
  fixed_sends o [] s h = h
  fixed_sends o (out ∷ outs) s h = fixed_sends o outs (sends_one s o out) (fixed_one o s out h)

  -- where the owner comes to rest a majority holds them
  resting_held : (s : State) (w : Owner) → Resting s q w → Basis s → Fixed s → AllHeld s
  resting_held s w b g h = by_state h.state
    where
      awaited : OwnAwaited s.net q (owner_at s q)
      awaited = (awaiting_of s g).each q

      done : (r : RegSession) (e : RegEnd) → session_at s q ≡ session.Fixing r → phase_end r.phase ≡ Some e → StillFixes id deps (session_at s q) → AllHeld s
      done r e x p k =
          let f : r ≡ k.round = fixing_same (session_at s q) r k.round x k.under_way in
          let a : FixAgrees (owner_at s q) r = subst (Agrees (owner_at s q)) x (g.1.each q) in
          let same : deps_of r.service (owner_at s q).works.copy.deps ≡ deps = fix_same (deps_of r.service (owner_at s q).works.copy.deps) deps (sym a.stores ∙ (ap (λ (y : RegSession). y.work) f ∙ k.of_work)) in
          subst (λ (v : ServiceId). All (DepHeld s v) deps) (ap (λ (y : RegSession). y.service) f ∙ k.of_service) (subst (All (DepHeld s r.service)) same (fix_settles c n s q r e g.0 g.1 x p))
        where
          fix_same : (a b : List Dep) → work.Fix a ≡ work.Fix b → a ≡ b
          fix_same a b e = cc

      by_rest : (w : Owner) → Resting s q w → StillFixes id deps (session_at s q) → AllHeld s
      by_rest _ (plans e b) k = absurd (not_fixing id deps (session_at s q) (ap is_fixing (awaited.unstarted b).0) k)
      by_rest _ (past i x rest time l e) k = absurd (not_fixing id deps (session_at s q) (ap is_fixing (awaited.waiting time e)) k)
      by_rest _ (fixed i x rest r e l a b d) k = done r e a b k
      by_rest _ (cleared r e l a b d) k = done r e a b k

      by_state : StillFixes id deps (session_at s q) ⊎ AllHeld s → AllHeld s
      by_state (inl k) = by_rest w b k
      by_state (inr k) = k

  rests_fixed : (s t : State) (o : ℕ) (w : Owner) → Resting s o w → t.replicas ≡ s.replicas → t.owners ≡ set s.owners o w → Basis s → Fixed s → FixedAt t o
  rests_fixed s t o w b r e g h = record {
    fixed = fixed_set s t o w r e (λ i k. inr (resting_held s w (subst (λ (j : ℕ). Resting s j w) i b) g h)) h;
    own = λ i. held_moved s t r (resting_held s w (subst (λ (j : ℕ). Resting s j w) i b) g h);
  }

  -- an owner that has another thing under way, and one at rest
  held_if : (s : State) (x : Session) → session_at s q ≡ x → is_fixing x ≡ false → Fixed s → AllHeld s
  held_if s x e f h = by_state h.state
    where
      by_state : StillFixes id deps (session_at s q) ⊎ AllHeld s → AllHeld s
      by_state (inl k) = absurd (not_fixing id deps (session_at s q) (ap is_fixing e ∙ f) k)
      by_state (inr k) = k

  settles_fixed : (s : State) (o slot : ℕ) (a : Attempt) (shards : List ℕ) (outcome : Outcome) → session_at s o ≡ session.Settling a shards → Fixed s → FixedAt (plans_stub (sends (listens s o slot) o (tells_decision a outcome shards)) o) o
  settles_fixed s o slot a shards outcome x h =
      let u = listens s o slot in
      let v = sends u o (tells_decision a outcome shards) in
      let k : Fixed v = fixed_sends o (tells_decision a outcome shards) u (fixed_set s u o (listened s o slot) refl refl (λ i k. inl k) h) in
      let same : v.replicas ≡ s.replicas = sends_replicas o (tells_decision a outcome shards) u in
      record {
        fixed = fixed_set v (plans_stub v o) o _ refl refl (λ i z. inr (held_moved s v same (held i))) k;
        own = λ i. held_moved s (plans_stub v o) same (held i);
      }
    where
      sends_replicas : (o : ℕ) (outs : List Out) (s : State) → (sends s o outs).replicas ≡ s.replicas
      sends_replicas o [] s = refl
      sends_replicas o (out ∷ outs) s = sends_replicas o outs (sends_one s o out)

      held : o ≡ q → AllHeld s
      held i = held_if s (session.Settling a shards) (ap (λ (j : ℕ). session_at s j) (sym i) ∙ x) refl h

  fixed_serves : (s : State) (m replica : ℕ) (service : ServiceId) (r : Request) → Serves s m r (Replica service replica) → Fixed s → Fixed (notes_served (serves_replica s m service replica r) (message_at s.net m).envelope.owner service r)
  fixed_serves s m replica service r d h = by_up (fixed_set s v o _ refl refl (λ e k. inl k) h)
    where
      o : ℕ
      o = (message_at s.net m).envelope.owner

      t : State
      t = notes_served (serves_replica s m service replica r) o service r

      v : State
      v = record s { owners = t.owners }

      up : Upward s t
      up = record { rises = ((later_keeps s).replicas s m service replica r d (later_same s)).stamps; rows = λ i. row_long s.replicas (service_index service) (replica - 1) (replica_after (cells_at s service replica) r) (service_index i) }

      by_up : Fixed v → Fixed t
      by_up k = record { there = k.there; state = by_state k.state }
        where
          by_state : StillFixes id deps (session_at v q) ⊎ AllHeld v → StillFixes id deps (session_at t q) ⊎ AllHeld t
          by_state (inl x) = inl x
          by_state (inr x) = inr (All-weaker (DepHeld s id) (DepHeld t id) (λ d y. held_up s t id d.key d.stamp up y) deps x)

  fixed_under : (at : Reading) → OwnerKeepsUnder c at Basis BasisAt Fixed FixedAt
  fixed_under at = record {
    fates = λ s m f g h. fixed_same s (marks_message s m f) refl refl h;
    shards = λ s m shard r d g h. fixed_same s (serves_shard s m shard at.latest r) refl refl h;
    replicas = λ s m service replica r d g h. fixed_serves s m replica service r d h;
    again = λ s o exchange slot target r d g h. fixed_one o s (record { slot = Some slot; target = target; request = r }) h;
    stages = λ s t d g h. fixed_same s t d.stores.replicas d.owned h;
    dies = λ s t m u d g h. fixed_grow s t _ d.stores.replicas d.owned h;
    begins = λ s t w b d g h. record { fixed = fixed_grow s t w d.stores.replicas d.owned h; own = λ i. absurd (let l = h.there in omega (arith, l, i)) };
    rests = λ s t o w i b d g h. rests_fixed s t o w b d.stores.replicas d.owned g h;
    settles = λ s o slot a shards outcome i e d g h. settles_fixed s o slot a shards outcome e h;
    settled = λ s o g h. h.fixed;
    works = λ s t o w i b d g h. record { fixed = fixed_set s t o w d.stores.replicas d.owned (λ j k. inr (h.own j)) h.fixed; own = λ j. held_moved s t d.stores.replicas (h.own j) };
    leaves = λ s t o w outs i b d g h. fixed_sends o outs t (fixed_set s t o w d.stores.replicas d.owned (λ j k. inr (h.own j)) h.fixed);
    does = λ s t o w outs new b d g h. fixed_sends o outs t (fixed_set s t o w d.stores.replicas d.owned (λ j k. inl (doing_still id deps s o w outs new b ((awaiting_of s g).each o) k)) h);
  }

  fixed_kept : IsKept c (λ s. Basis s × Fixed s) (λ s o. BasisAt s o × FixedAt s o)
  fixed_kept = record {
    keeps = λ at. stacked c at Basis BasisAt Fixed FixedAt
        (stacked c at (Settled c n) (SettledAt c n) AllAgree (λ s o. AllAgree s) ((settled_kept c n).keeps at)
        (under_more c at Awaiting (Settled c n) Rest (SettledAt c n) AllAgree (λ s o. AllAgree s) (λ s h. h.0.0.0.0.1) (λ s o h. h.0.0.0.0.1) (agree_under c at)))
        (fixed_under at);
    ticked = λ s at h. (((settled_kept c n).ticked s at h.0.0, record { each = h.0.1.each }), fixed_same s (ticks s at) refl refl h.1);
  }

  -- from a state in which it is under way
  pub fixed_from : (more : List Step) (u s : State) → Basis u → run_from c u more ≡ Some s → Fixed u → Fixed s
  fixed_from more u s g e h = (kept_from c (λ t. Basis t × Fixed t) (λ t o. BasisAt t o × FixedAt t o) fixed_kept more u s e (g, h)).1
