-- How owners and messages are read after an event.
use Rattle.std.proofs.Common.{◌≡◌, ◌⊎◌, inl, inr, ℕ, ◌<◌, ◌≤◌, Bool, true, false, List, length, get_or, refl, sym, ap, ◌∙◌, subst, arith}
use Rattle.std.proofs.Math.ListN.{set}
use Rattle.std.proofs.lemmas.Bool.{cases_lt}
use Rattle.rss_names.specs.declared.attempt.Attempt.{Attempt}
use Rattle.pipeline_lang.specs.declared.config.Config.{Config}
use Rattle.rss_tables.specs.SnapshotSession.{SnapSession}
use Rattle.rss_tables.specs.TransactionSession.{TxnSession}
use Rattle.rss_machine.specs.Session.{Session}
use Rattle.rss_machine.specs.State.{State, Owner, owner_at, no_owner}
use Rattle.rss_machine.specs.declared.session.Session.TheVariants as session
use Rattle.world_laws.proofs.Looks.{looks, get_or_past}
use Rattle.shard_event_laws.specs.Facts.{is_with_shards, Aside, OneOwner, StaysWith, StaysWithout, IsNew}

-- one owner changes, and the others stay
pub one_cases : (s t : State) (o : ℕ) (w : Owner) → OneOwner s t o w → (i : ℕ) → ((owner_at t i ≡ w) × (i ≡ o)) ⊎ (owner_at t i ≡ owner_at s i)
one_cases s t o w h i = subst (λ (owners : List Owner). ((get_or owners i no_owner ≡ w) × (i ≡ o)) ⊎ (get_or owners i no_owner ≡ owner_at s i)) (sym h.owned) (by_place s.owners o w i)
  where
    by_place : (xs : List Owner) (o : ℕ) (w : Owner) (i : ℕ) → ((get_or (set xs o w) i no_owner ≡ w) × (i ≡ o)) ⊎ (get_or (set xs o w) i no_owner ≡ get_or xs i no_owner)
    by_place xs o w i = grind (arith, looks)

pub one_there : (s t : State) (o : ℕ) (w : Owner) → OneOwner s t o w → owner_at t o ≡ w
one_there s t o w h = subst (λ (owners : List Owner). get_or owners o no_owner ≡ w) (sym h.owned) (by_place s.owners o w h.there)
  where
    by_place : (xs : List Owner) (o : ℕ) (w : Owner) → o < length xs → get_or (set xs o w) o no_owner ≡ w
    by_place xs o w i = grind (arith, looks, i)

-- what happens to an owner where nothing happens to transactions, snapshots and shards
pub data Stands (c : Config) (s t : State) (o : ℕ) : Type 0 where
  stays_with : is_with_shards (owner_at s o).session ≡ true → StaysWith s.steps (owner_at s o) (owner_at t o) → Stands c s t o
  stays_without : is_with_shards (owner_at s o).session ≡ false → StaysWithout (owner_at s o) (owner_at t o) → Stands c s t o
  is_new : owner_at s o ≡ no_owner → IsNew c s (owner_at t o) → Stands c s t o
  is_none : owner_at s o ≡ no_owner → owner_at t o ≡ no_owner → Stands c s t o

pub aside_cases : (c : Config) (s t : State) → Aside c s t → (o : ℕ) → Stands c s t o
aside_cases c s t h o = by_place (get_or_past s.owners o no_owner) (cases_lt o (length s.owners)) (get_or_past t.owners o no_owner) (cases_lt o (length t.owners))
  where
    old : o < length s.owners → (b : Bool) → is_with_shards (owner_at s o).session ≡ b → Stands c s t o
    old i true e = stays_with e (h.with_shards o i e)
    old i false e = stays_without e (h.without o i e)

    by_end : length s.owners ≤ o → owner_at s o ≡ no_owner → (o < length t.owners) ⊎ (owner_at t o ≡ no_owner) → Stands c s t o
    by_end l e (inl i) = is_new e (h.anew o l i)
    by_end l e (inr f) = is_none e f

    by_place : (o < length s.owners) ⊎ (owner_at s o ≡ no_owner) → (o < length s.owners) ⊎ (length s.owners ≤ o) → (o < length t.owners) ⊎ (owner_at t o ≡ no_owner) → (o < length t.owners) ⊎ (length t.owners ≤ o) → Stands c s t o
    by_place p (inl i) q r = old i (is_with_shards (owner_at s o).session) refl
    by_place (inl i) (inr l) q r = absurd (omega (arith, i, l))
    by_place (inr e) (inr l) q r = by_end l e q

-- what an owner has under way is one thing
pub one_settling : (now : Session) (a b : Attempt) (shards others : List ℕ) → now ≡ session.Settling a shards → now ≡ session.Settling b others → ◌≡◌ {A = Attempt × List ℕ} (a, shards) (b, others)
one_settling now a b shards others d e =
    let f : a ≡ b = cc in
    let g : shards ≡ others = cc in
    let h : ◌≡◌ {A = Attempt × List ℕ} (a, shards) (b, shards) = ap (λ (y : Attempt). (y, shards)) f in
    let k : ◌≡◌ {A = Attempt × List ℕ} (b, shards) (b, others) = ap (λ (ys : List ℕ). (b, ys)) g in
    h ∙ k

pub txn_or_snap : {A : Type 0} (now : Session) (x : TxnSession) (y : SnapSession) → now ≡ session.Transaction x → now ≡ session.Snapshot y → A
txn_or_snap now x y a b = absurd cc

pub txn_or_settling : {A : Type 0} (now : Session) (x : TxnSession) (a : Attempt) (shards : List ℕ) → now ≡ session.Transaction x → now ≡ session.Settling a shards → A
txn_or_settling now x a shards d e = absurd cc

pub snap_or_settling : {A : Type 0} (now : Session) (x : SnapSession) (a : Attempt) (shards : List ℕ) → now ≡ session.Snapshot x → now ≡ session.Settling a shards → A
snap_or_settling now x a shards d e = absurd cc

pub idle_or_txn : {A : Type 0} (now : Session) (x : TxnSession) → now ≡ session.Idle → now ≡ session.Transaction x → A
idle_or_txn now x a b = absurd cc

pub idle_or_snap : {A : Type 0} (now : Session) (x : SnapSession) → now ≡ session.Idle → now ≡ session.Snapshot x → A
idle_or_snap now x a b = absurd cc

pub idle_or_settling : {A : Type 0} (now : Session) (a : Attempt) (shards : List ℕ) → now ≡ session.Idle → now ≡ session.Settling a shards → A
idle_or_settling now a shards d e = absurd cc
