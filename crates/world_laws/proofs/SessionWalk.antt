-- The walk over what a step does to the stores and to what owners have under way: the induction principle for
-- what sessions ask and shards and replicas are told. It is the walk over owners, of which it looks at the
-- sessions alone; what it keeps may stand below others there.
use Rattle.std.proofs.Common.{◌≡◌, ℕ, List, [], ◌∷◌, ◌++◌, get_or, refl, ap, sym, ◌∙◌, subst}
use Rattle.std.proofs.Math.ListN.{set}
use Rattle.truetime.specs.Reading.{Reading}
use Rattle.rss_names.specs.declared.attempt.Attempt.{Attempt}
use Rattle.rss_names.specs.declared.service.Target.TheVariants.{Replica}
use Rattle.causal_context.specs.declared.dep.Dep.{Dep}
use Rattle.pipeline_lang.specs.declared.config.Config.{Config}
use Rattle.rss_model.specs.declared.op.Op.TheVariants as op
use Rattle.rss_wire.specs.declared.messages.Outcome.{Outcome}
use Rattle.rss_tables.specs.Lines.{tells_decision}
use Rattle.rss_tables.specs.Outs.{Out}
use Rattle.rss_machine.specs.Moves.{sends, listens, plans_stub}
use Rattle.rss_machine.specs.Session.{Session}
use Rattle.rss_machine.specs.State.{State, Owner, owner_at, no_owner}
use Rattle.rss_machine.specs.declared.session.Session.TheVariants as session
use Rattle.world_laws.proofs.OwnerMoves.{OwnerKeeps}
use Rattle.world_laws.proofs.SessionMoves.{session_at}
use Rattle.world_laws.proofs.StoreMoves.{SameStores}
use Rattle.std.proofs.Common.{◌⊎◌, inl, inr}
use Rattle.pipeline_lang.specs.Config.{body_of}
use Rattle.rss_machine.specs.Calls.{least_for}
use Rattle.rss_machine.specs.Session.{service_of}
use Rattle.rss_tables.specs.SnapshotSession.{SnapSession, snap_starts}
use Rattle.rss_tables.specs.TransactionSession.{TxnSession, txn_starts}
use Rattle.world_laws.proofs.Doings.{listened}
use Rattle.world_laws.proofs.Doings.{Changed, Beginning, calls, fences, Resting, plans, past, fixed, cleared, Working, owes_nothing, is_past, enters_own, Leaving, waits, fixes_work, fixes_own, asks_register, stamps_register, begins_snapshot, begins_txn, fence_done, stub_done, ShardTurning, txn_heard, txn_woken, txn_passed, snap_heard, snap_woken, Doing, listens_one, fix_hears, fix_reached, register_hears, register_stores, register_reached, read_ends, write_ends, txn_ends, snap_ends, counts_one, cuts_one, is_closed, forgets_all, turns, stub_asks}
use Rattle.world_laws.proofs.SessionMoves.{SessionKeeps, SameSessions, TurnsTo, Turning, idles, loses_one, fixes_first, asks_register as asks_one, stamps_register as stamps_one, fix_hears as fix_turns, register_hears as register_turns, register_stores as stores_one, snapshot_begins, txn_begins, txn_heard as txn_hears_one, txn_woken as txn_wakes_one, txn_passed as txn_passes_one, snap_heard as snap_hears_one, snap_woken as snap_wakes_one, stub_asks as stub_asks_one, stub_tells, set_same, grow_same, set_turned, set_others}
use Rattle.rss_tables.specs.Outs.{slot_replica}
use Rattle.std.proofs.Common.{None}
use Rattle.rss_machine.specs.Effect.{effect}
use Rattle.rss_machine.specs.Refusal.{kind_refusal}
use Rattle.rss_machine.specs.declared.step.StepKind.{StepKind}
use Rattle.world_laws.proofs.OwnerWalk.{owner_walk}

abbrev same_again : {s : State} {owners : List Owner} {planned : List ℕ} → SameStores s (record s { owners = owners; planned = planned })
same_again = record { steps = refl; moment = refl; moments = refl; net = refl; shards = refl; replicas = refl; marks = refl }

-- the same owners, a new one with nothing under way, and one in the place of what it was
pub same_sessions : (s t : State) → t.owners ≡ s.owners → SameSessions s t
same_sessions s t d = record { same = λ i. ap (λ (owners : List Owner). (get_or owners i no_owner).session) d }

pub grown_sessions : (s t : State) (w : Owner) → w.session ≡ session.Idle → t.owners ≡ s.owners ++ w ∷ [] → SameSessions s t
grown_sessions s t w e d = record { same = λ i. ap (λ (owners : List Owner). (get_or owners i no_owner).session) d ∙ grow_same s w i e }

pub kept_sessions : (s t : State) (o : ℕ) (w : Owner) → w.session ≡ session_at s o → t.owners ≡ set s.owners o w → SameSessions s t
kept_sessions s t o w e d = record { same = λ i. ap (λ (owners : List Owner). (get_or owners i no_owner).session) d ∙ set_same s o w i e }

pub turned_sessions : (s t : State) (o : ℕ) (w : Owner) → t.owners ≡ set s.owners o w → TurnsTo s t o w.session
turned_sessions s t o w d = record {
  turned = by_turn (set_turned s o w w.session refl);
  others = λ i n. ap (λ (owners : List Owner). (get_or owners i no_owner).session) d ∙ set_others s o w i n;
}
  where
    at_o : session_at t o ≡ (get_or (set s.owners o w) o no_owner).session
    at_o = ap (λ (owners : List Owner). (get_or owners o no_owner).session) d

    by_turn : ((get_or (set s.owners o w) o no_owner).session ≡ w.session) ⊎ ((get_or (set s.owners o w) o no_owner).session ≡ session_at s o) → (session_at t o ≡ w.session) ⊎ (session_at t o ≡ session_at s o)
    by_turn (inl e) = inl (at_o ∙ e)
    by_turn (inr e) = inr (at_o ∙ e)

module _ (c : Config) (at : Reading) (P : State → Type 0) (k : SessionKeeps c P) where
  kept : (new : List Dep) (s t : State) (o : ℕ) (w : Owner) → Changed new (set s.owners o w) s t → w.session ≡ session_at s o → P s → P t
  kept new s t o w d e p = k.others s t d.stores (kept_sessions s t o w e d.owned) p

  turned_to : (new : List Dep) (s t : State) (o : ℕ) (w : Owner) (outs : List Out) → Changed new (set s.owners o w) s t → Turning c s o w.session outs → P s → P (sends t o outs)
  turned_to new s t o w outs d y p = k.turns s t o w.session outs d.stores (turned_sessions s t o w d.owned) y p

  session_rests : (s t : State) (o : ℕ) (w : Owner) → Resting s o w → Changed [] (set s.owners o w) s t → P s → P t
  session_rests s t o w (plans e b) d p = turned_to [] s t o w [] d idles p
  session_rests s t o w (past id x rest time l e) d p = turned_to [] s t o w [] d idles p
  session_rests s t o w (fixed id x rest r e l a b f) d p = turned_to [] s t o w [] d idles p
  session_rests s t o w (cleared r e l a b f) d p = turned_to [] s t o w [] d idles p

  session_works : (s t : State) (o : ℕ) (w : Owner) → Working at s o w → Changed [] (set s.owners o w) s t → P s → P t
  session_works s t o w (owes_nothing id rest l) d p = turned_to [] s t o w [] d idles p
  session_works s t o w (is_past id time rest l e) d p = turned_to [] s t o w [] d idles p
  session_works s t o w (enters_own x l e f) d p = kept [] s t o w d refl p

  session_leaves : (s t : State) (o : ℕ) (w : Owner) (outs : List Out) → Leaving c at s o w outs → Changed [] (set s.owners o w) s t → P s → P (sends t o outs)
  session_leaves s t o w _ (waits id time rest l) d p = kept [] s t o w d refl p
  session_leaves s t o w outs (fixes_work id rest l) d p = turned_to [] s t o w outs d (fixes_first id (owner_at s o).works.copy.deps s) p
  session_leaves s t o w outs (fixes_own x dep deps l e f) d p = turned_to [] s t o w outs d (fixes_first (service_of x) (owner_at s o).works.copy.deps s) p
  session_leaves s t o w outs (asks_register key l e f) d p = turned_to [] s t o w outs d (asks_one s key) p
  session_leaves s t o w outs (stamps_register key value l e f) d p = turned_to [] s t o w outs d (stamps_one s key value) p
  session_leaves s t o w outs (begins_snapshot keys x l e f) d p =
      let least = least_for s o (service_of (op.Snap keys)) in
      turned_to [] s t o w outs d (subst (λ (y : SnapSession). Turning c s o (session.Snapshot (snap_starts y).after) (snap_starts y).outs) (sym f) (snapshot_begins keys least at)) p
  session_leaves s t o w outs (begins_txn reads guard writes x l e f) d p =
      let least = least_for s o (service_of (op.Txn reads guard writes)) in
      let margin = (body_of c (owner_at s o).stage).earliest_end in
      turned_to [] s t o w outs d (subst (λ (y : TxnSession). Turning c s o (session.Transaction (txn_starts y).after) (txn_starts y).outs) (sym f) (txn_begins reads guard writes least margin)) p
  session_leaves s t o w _ (fence_done l e) d p = kept [] s t o w d refl p
  session_leaves s t o w _ (stub_done u l e) d p = kept [] s t o w d refl p

  session_turns : (s : State) (o : ℕ) (x : Session) (outs : List Out) → ShardTurning s o x outs → Turning c s o x outs
  session_turns s o _ _ (txn_heard t l at r e) = txn_hears_one t l at r e
  session_turns s o _ _ (txn_woken t l e) = txn_wakes_one t l e
  session_turns s o _ _ (txn_passed t e) = txn_passes_one t e
  session_turns s o _ _ (snap_heard t l r e) = snap_hears_one t l r e
  session_turns s o _ _ (snap_woken t l e) = snap_wakes_one t l e

  session_does : (s t : State) (o : ℕ) (w : Owner) (outs : List Out) (new : List Dep) → Doing s o w outs new → Changed new (set s.owners o w) s t → P s → P (sends t o outs)
  session_does s t o w _ _ (listens_one slot r h) d p = kept [] s t o w d refl p
  session_does s t o w _ _ (fix_hears f slot r x h e) d p = turned_to [] s t o w [] d (fix_turns f (slot_replica slot) r x) p
  session_does s t o w _ _ (fix_reached f slot r g x h e) d p = turned_to [] s t o w [] d (fix_turns f (slot_replica slot) r x) p
  session_does s t o w _ _ (register_hears f slot r x h a e) d p = turned_to [] s t o w [] d (register_turns f (slot_replica slot) r x) p
  session_does s t o w outs _ (register_stores f slot r x h a e) d p = turned_to [] s t o w outs d (stores_one f (slot_replica slot) r x a) p
  session_does s t o w _ _ (register_reached f slot r g x h e) d p = turned_to [] s t o w [] d (register_turns f (slot_replica slot) r x) p
  session_does s t o w _ new (read_ends f key cell dep x a b) d p = kept new s t o w d refl p
  session_does s t o w _ new (write_ends f key value e x a b) d p = kept new s t o w d refl p
  session_does s t o w _ new (txn_ends y x time a b e) d p = kept new s t o w d refl p
  session_does s t o w _ new (snap_ends y x time a b e) d p = kept new s t o w d refl p
  session_does s t o w _ new (counts_one target) d p = kept new s t o w d refl p
  session_does s t o w _ new (cuts_one id replica) d p = turned_to new s t o w [] d (loses_one (Replica id replica)) p
  session_does s t o w _ new (is_closed f) d p = kept new s t o w d refl p
  session_does s t o w _ new forgets_all d p = kept new s t o w d refl p
  session_does s t o w outs new (turns x outs' y) d p = turned_to new s t o w outs d (session_turns s o x outs y) p
  session_does s t o w outs new (stub_asks attempt shards e b) d p = turned_to new s t o w outs d (stub_asks_one attempt shards) p

  session_settles : (s : State) (o slot : ℕ) (a : Attempt) (shards : List ℕ) (outcome : Outcome) → session_at s o ≡ session.Settling a shards → P s → P (plans_stub (sends (listens s o slot) o (tells_decision a outcome shards)) o)
  session_settles s o slot a shards outcome x p =
      let u = listens s o slot in
      let v = sends u o (tells_decision a outcome shards) in
      let q : P u = k.others s u same_again (kept_sessions s u o (listened s o slot) refl refl) p in
      let y : session_at u o ≡ session.Settling a shards = (kept_sessions s u o (listened s o slot) refl refl).same o ∙ x in
      k.turns v (plans_stub v o) o session.Idle [] same_again (turned_sessions v (plans_stub v o) o _ refl) idles
      (k.turns u u o (session.Settling a shards) (tells_decision a outcome shards) same_again (record { turned = inl y; others = λ i n. refl }) (stub_tells a shards outcome y) q)

  -- what looks at the stores and at what owners have under way is kept by all that owners do
  pub session_owner : OwnerKeeps c at P (λ s o. P s)
  session_owner = record {
    shards = λ s m shard r d p. k.shards s m shard at.latest r d p;
    replicas = k.replicas;
    moves = record {
      fates = k.fates;
      again = k.again;
      stages = λ s t d p. k.others s t d.stores (same_sessions s t d.owned) p;
      dies = λ s t n u d p. k.others s t d.stores (grown_sessions s t _ refl d.owned) p;
      begins = λ s t w b d p. k.others s t d.stores (grown_sessions s t w (beginning_idle s w b) d.owned) p;
      rests = λ s t o w i b d p. session_rests s t o w b d p;
      settles = λ s o slot a shards outcome i e d p. session_settles s o slot a shards outcome e p;
      settled = λ s o p. p;
      works = λ s t o w i b d p. session_works s t o w b d p;
      leaves = λ s t o w outs i b d p. session_leaves s t o w outs b d p;
      does = λ s t o w outs new b d p. session_does s t o w outs new b d p;
    };
  }
    where
      beginning_idle : (s : State) (w : Owner) → Beginning c s w → w.session ≡ session.Idle
      beginning_idle s _ (calls n x e) = refl
      beginning_idle s _ (fences n) = refl

-- every kind of step that is not refused
pub session_walk : (c : Config) (P : State → Type 0) → SessionKeeps c P → (s : State) (at : Reading) (x : StepKind) → kind_refusal c s at x ≡ None → P s → P (effect c s at x)
session_walk c P k s at x e h = owner_walk c at P (λ t o. P t) (session_owner c at P k) s x e h
