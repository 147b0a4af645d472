-- What owners have under way, from one moment to the next.
use Rattle.std.proofs.Common.{◌≡◌, ◌⊎◌, inl, inr, ℕ, zero, suc, ◌<◌, ◌≤◌, Bool, true, false, List, [], ◌∷◌, ◌++◌, length, get_or, Option, Some, None, refl, sym, ap, ◌∙◌, subst, arith, length-append}
use Rattle.std.proofs.Math.ListN.{set}
use Rattle.std.proofs.lemmas.List.{get_or_past}
use Rattle.pipeline_lang.specs.declared.config.Config.{Config}
use Rattle.rss_wire.specs.Messages.{message_at}
use Rattle.rss_wire.specs.declared.message.Message.{Message}
use Rattle.rss_tables.specs.Outs.{Out}
use Rattle.rss_tables.specs.SnapshotSession.{SnapSession}
use Rattle.rss_tables.specs.TransactionSession.{TxnSession}
use Rattle.rss_tables.specs.declared.phases.SnapPhase.TheVariants.{First}
use Rattle.rss_tables.specs.declared.phases.TxnPhase.TheVariants as phase
use Rattle.rss_machine.specs.Session.{Session}
use Rattle.rss_machine.specs.State.{State, Owner, owner_at, no_owner, start}
use Rattle.rss_machine.specs.declared.session.Session.TheVariants as session
use Rattle.world_laws.proofs.Looks.{looks, get_or_set}
use Rattle.session_laws.proofs.Keeps.{same_txn, same_snap}
use Rattle.shard_event_laws.specs.Events.{turned_owner}
use Rattle.shard_event_laws.specs.Facts.{is_with_shards, NetGrows, OneOwner}
use Rattle.txn_state_laws.specs.Onward.{TxnOnward, SnapOnward, TxnGoesOn, SnapGoesOn, TxnComes, from, anew, SnapComes, from_snap, anew_snap, AllOnward}
use Rattle.txn_state_laws.proofs.Grows.{txn_is, snap_is}
use Rattle.txn_session_laws.proofs.Turns.{same_onward}
use Rattle.txn_session_laws.proofs.SnapTurns.{same_snap_onward}
use Rattle.txn_session_laws.proofs.Never.{no}

-- whether it is a transaction or a snapshot
abbrev pub is_call : Session → Bool
is_call (session.Transaction t) = true
is_call (session.Snapshot t) = true
is_call (session.Settling attempt shards) = false
is_call session.Idle = false
is_call (session.Fixing r) = false
is_call (session.Register r) = false

pub without_shards : (x : Session) → is_with_shards x ≡ false → is_call x ≡ false
without_shards (session.Transaction t) e = e
without_shards (session.Snapshot t) e = e
without_shards (session.Settling attempt shards) e = refl
without_shards session.Idle e = refl
without_shards (session.Fixing r) e = refl
without_shards (session.Register r) e = refl

-- what an owner has under way goes on
pub record SessionOnward (before now : Session) : Type 0 where
  pub txn : (x : TxnSession) → before ≡ session.Transaction x → TxnGoesOn x now
  pub snap : (x : SnapSession) → before ≡ session.Snapshot x → SnapGoesOn x now
  pub txn_from : (y : TxnSession) → now ≡ session.Transaction y → TxnComes before y
  pub snap_from : (y : SnapSession) → now ≡ session.Snapshot y → SnapComes before y

not_txn : {A : Type 0} (x : Session) (y : TxnSession) → is_call x ≡ false → x ≡ session.Transaction y → A
not_txn x y f e = no (sym f ∙ ap is_call e)

not_snap : {A : Type 0} (x : Session) (y : SnapSession) → is_call x ≡ false → x ≡ session.Snapshot y → A
not_snap x y f e = no (sym f ∙ ap is_call e)

pub same_session : (x : Session) → SessionOnward x x
same_session x = record {
  txn = λ y e. record { txn = y; under_way = e; onward = same_onward y (same_txn y) };
  snap = λ y e. record { snap = y; under_way = e; onward = same_snap_onward y (same_snap y) };
  txn_from = λ y e. from y e (same_onward y (same_txn y));
  snap_from = λ y e. from_snap y e (same_snap_onward y (same_snap y));
}

pub kept_session : (x y : Session) → y ≡ x → SessionOnward x y
kept_session x y e = subst (λ (z : Session). SessionOnward x z) (sym e) (same_session x)

pub no_session : (x y : Session) → is_call x ≡ false → is_call y ≡ false → SessionOnward x y
no_session x y f g = record {
  txn = λ z e. not_txn x z f e;
  snap = λ z e. not_snap x z f e;
  txn_from = λ z e. not_txn y z g e;
  snap_from = λ z e. not_snap y z g e;
}

pub txn_not_snap : {A : Type 0} (x : TxnSession) (y : SnapSession) → ◌≡◌ {A = Session} (session.Transaction x) (session.Snapshot y) → A
txn_not_snap x y e = absurd cc

-- a transaction or a snapshot goes on
pub txn_session : (before : Session) (x y : TxnSession) → before ≡ session.Transaction x → TxnOnward x y → SessionOnward before (session.Transaction y)
txn_session before x y b h = record {
  txn = λ z e. record { txn = y; under_way = refl; onward = subst (λ (u : TxnSession). TxnOnward u y) (txn_is x z (sym b ∙ e)) h };
  snap = λ z e. txn_not_snap x z (sym b ∙ e);
  txn_from = λ z e. from x b (subst (TxnOnward x) (txn_is y z e) h);
  snap_from = λ z e. txn_not_snap y z e;
}

pub snap_session : (before : Session) (x y : SnapSession) → before ≡ session.Snapshot x → SnapOnward x y → SessionOnward before (session.Snapshot y)
snap_session before x y b h = record {
  txn = λ z e. txn_not_snap z x (sym e ∙ b);
  snap = λ z e. record { snap = y; under_way = refl; onward = subst (λ (u : SnapSession). SnapOnward u y) (snap_is x z (sym b ∙ e)) h };
  txn_from = λ z e. txn_not_snap z y (sym e);
  snap_from = λ z e. from_snap x b (subst (SnapOnward x) (snap_is y z e) h);
}

-- a transaction or a snapshot begins
pub txn_begins : (before : Session) (y : TxnSession) → before ≡ session.Idle → y.k ≡ 1 → y.phase ≡ phase.Locking → SessionOnward before (session.Transaction y)
txn_begins before y b k p = record {
  txn = λ z e. not_txn before z (ap is_call b) e;
  snap = λ z e. not_snap before z (ap is_call b) e;
  txn_from = λ z e. subst (TxnComes before) (txn_is y z e) (anew b k p);
  snap_from = λ z e. txn_not_snap y z e;
}

pub snap_begins : (before : Session) (y : SnapSession) (read_time : ℕ) → before ≡ session.Idle → y.phase ≡ First read_time → SessionOnward before (session.Snapshot y)
snap_begins before y read_time b p = record {
  txn = λ z e. not_txn before z (ap is_call b) e;
  snap = λ z e. not_snap before z (ap is_call b) e;
  txn_from = λ z e. txn_not_snap z y (sym e);
  snap_from = λ z e. subst (SnapComes before) (snap_is y z e) (anew_snap read_time b p);
}

-- what an owner is stays
pub record OwnerKept (v w : Owner) : Type 0 where
  pub kind : w.kind ≡ v.kind
  pub begun : w.dates.begun ≡ v.dates.begun
  pub stage : w.stage ≡ v.stage

pub same_owner : (v : Owner) → OwnerKept v v
same_owner v = record { kind = refl; begun = refl; stage = refl }

pub turned_kept : (s : State) (o : ℕ) (currents : List (Option ℕ)) (x : Session) (outs : List Out) (end : Option ℕ) → OwnerKept (owner_at s o) (turned_owner s o currents x outs end)
turned_kept s o currents x outs None = record { kind = refl; begun = refl; stage = refl }
turned_kept s o currents x outs (Some time) = record { kind = refl; begun = refl; stage = refl }

pub turned_session : (s : State) (o : ℕ) (currents : List (Option ℕ)) (x : Session) (outs : List Out) (end : Option ℕ) → (turned_owner s o currents x outs end).session ≡ x
turned_session s o currents x outs None = refl
turned_session s o currents x outs (Some time) = refl

-- from each owner to all
pub all_onward : (s t : State) → NetGrows s t → length s.owners ≤ length t.owners → ((o : ℕ) → o < length s.owners → OwnerKept (owner_at s o) (owner_at t o)) → ((o : ℕ) → SessionOnward (owner_at s o).session (owner_at t o).session) → AllOnward s t
all_onward s t n l k h = record {
  net = n;
  long = l;
  owners = λ o a. ((k o a).kind, (k o a).begun, (k o a).stage);
  txn = λ o x e. (h o).txn x e;
  snap = λ o x e. (h o).snap x e;
  txn_from = λ o y e. (h o).txn_from y e;
  snap_from = λ o y e. (h o).snap_from y e;
}

-- one owner changes
pub own_cases : (s t : State) (o i : ℕ) (w : Owner) → OneOwner s t o w → ((owner_at t i ≡ w) × (i ≡ o)) ⊎ (owner_at t i ≡ owner_at s i)
own_cases s t o i w h = by_place (get_or_set s.owners o w i no_owner)
  where
    at : owner_at t i ≡ get_or (set s.owners o w) i no_owner
    at = ap (λ (owners : List Owner). get_or owners i no_owner) h.owned

    by_place : ((get_or (set s.owners o w) i no_owner ≡ w) × (i ≡ o) × (o < length s.owners)) ⊎ ((get_or (set s.owners o w) i no_owner ≡ get_or s.owners i no_owner) × ((i ≡ o → ⊥) ⊎ (length s.owners ≤ i))) → ((owner_at t i ≡ w) × (i ≡ o)) ⊎ (owner_at t i ≡ owner_at s i)
    by_place (inl e) = inl (at ∙ e.0, e.1)
    by_place (inr e) = inr (at ∙ e.0)

pub own_each : (Q : Owner → Owner → Type 0) (s t : State) (o : ℕ) (w : Owner) → OneOwner s t o w → ((v : Owner) → Q v v) → Q (owner_at s o) w → (i : ℕ) → Q (owner_at s i) (owner_at t i)
own_each Q s t o w h same q i = by_cases (own_cases s t o i w h)
  where
    by_cases : ((owner_at t i ≡ w) × (i ≡ o)) ⊎ (owner_at t i ≡ owner_at s i) → Q (owner_at s i) (owner_at t i)
    by_cases (inl e) = subst (Q (owner_at s i)) (sym e.0) (subst (λ (j : ℕ). Q (owner_at s j) w) (sym e.1) q)
    by_cases (inr e) = subst (Q (owner_at s i)) (sym e) (same (owner_at s i))

-- the net grows by a message
pub grows_by : (s t : State) (x : Message) → t.net ≡ s.net ++ x ∷ [] → NetGrows s t
grows_by s t x e = record { long = (let a = ap length e in grind (arith, length-append, a)); envelopes = λ m a. ap (λ (y : Message). y.envelope) (at m a); bodies = λ m a. ap (λ (y : Message). y.body) (at m a) }
  where
    at : (m : ℕ) → m < length s.net → message_at t.net m ≡ message_at s.net m
    at m a = ap (λ (net : List Message). message_at net m) e ∙ grind (arith, looks, a)

-- at the start nobody has anything under way
start_idle : (c : Config) (o : ℕ) → is_call (owner_at (start c) o).session ≡ false
start_idle c zero = refl
start_idle c (suc o) = ap (λ (w : Owner). is_call w.session) (get_or_past (no_owner ∷ []) (suc o) no_owner (omega arith))

pub start_without : {A : Type 0} (c : Config) (o : ℕ) (x : TxnSession) → (owner_at (start c) o).session ≡ session.Transaction x → A
start_without c o x e = not_txn (owner_at (start c) o).session x (start_idle c o) e

pub start_without_snap : {A : Type 0} (c : Config) (o : ℕ) (x : SnapSession) → (owner_at (start c) o).session ≡ session.Snapshot x → A
start_without_snap c o x e = not_snap (owner_at (start c) o).session x (start_idle c o) e
