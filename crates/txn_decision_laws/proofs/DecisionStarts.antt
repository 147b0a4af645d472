-- Requests and decisions at the start, and where a step is counted.
use Rattle.std.proofs.Common.{◌≡◌, inl, inr, ℕ, zero, suc, ◌+◌, ◌-◌, ◌<◌, List, [], ◌∷◌, length, get_or, Some, refl, sym, ap, ◌∙◌, arith}
use Rattle.std.proofs.lemmas.Bool.{true≢false}
use Rattle.truetime.specs.Reading.{Reading}
use Rattle.rss_names.specs.declared.attempt.Attempt.{Attempt}
use Rattle.rss_names.specs.declared.service.ServiceId.{ServiceId}
use Rattle.pipeline_lang.specs.declared.config.Config.{Config}
use Rattle.rss_wire.specs.Messages.{message_at}
use Rattle.rss_wire.specs.declared.messages.Outcome.{Outcome}
use Rattle.rss_tables.specs.ShardRow.{opening_shard, decision_in}
use Rattle.rss_tables.specs.SnapshotSession.{SnapSession}
use Rattle.rss_tables.specs.TransactionSession.{TxnSession}
use Rattle.rss_machine.specs.Moves.{ticks}
use Rattle.rss_machine.specs.State.{State, start, owner_at, shard_at, shards_from}
use Rattle.rss_machine.specs.declared.session.Session.TheVariants as session
use Rattle.world_laws.proofs.Looks.{none_is_not}
use Rattle.session_laws.proofs.Keeps.{same_txn, same_snap}
use Rattle.txn_state_laws.specs.Decided.{AllDecided, DecidedIs}
use Rattle.txn_state_laws.specs.Justified.{AllJust}
use Rattle.txn_state_laws.specs.Onward.{TxnOnward, SnapOnward}
use Rattle.txn_state_laws.proofs.Starts.{nothing_replied, replied_ticks}
use Rattle.txn_decision_laws.specs.Calm.{AllCalm}
use Rattle.txn_decision_laws.proofs.Grows.{Grows}
use Rattle.txn_decision_laws.proofs.JustStays.{just_stays}
use Rattle.txn_decision_laws.proofs.Turned.{is_txn}

-- THE START

-- nobody has a transaction
idle_start : (c : Config) (o : ℕ) → (owner_at (start c) o).session ≡ session.Idle
idle_start c zero = refl
idle_start c (suc o) = refl

no_txn_start : (c : Config) (o : ℕ) (x : TxnSession) (A : Type 0) → (owner_at (start c) o).session ≡ session.Transaction x → A
no_txn_start c o x A e = absurd (true≢false (sym (ap is_txn (sym (idle_start c o) ∙ e))))

-- no message was sent
no_message_start : (c : Config) (m : ℕ) (A : Type 0) → 0 < m → m < length (start c).net → A
no_message_start c m A l k = let i : m < 1 = k in absurd (omega (arith, l, i))

-- no shard keeps a decision
no_decisions : (c : Config) (shard : ℕ) (services : List ServiceId) (n : ℕ) → (get_or (shards_from c shard services) n (opening_shard [])).decisions ≡ []
no_decisions c shard [] n = refl
no_decisions c shard (service ∷ services) zero = refl
no_decisions c shard (service ∷ services) (suc n) = no_decisions c (shard + 1) services n

no_decision_start : (c : Config) (shard : ℕ) (a : Attempt) (outcome : Outcome) (A : Type 0) → decision_in (shard_at (start c) shard).decisions a ≡ Some outcome → A
no_decision_start c shard a outcome A e =
    absurd (none_is_not outcome (ap (λ (ds : List (Attempt × Outcome)). decision_in ds a) (sym (no_decisions c 1 c.shard_services (shard - 1))) ∙ e))

pub calm_start : (c : Config) → AllCalm (start c)
calm_start c = record { each = λ o x e. no_txn_start c o x _ e }

pub just_start : (c : Config) → AllJust (start c)
just_start c = record { each = λ m shard q w. no_message_start c m _ w.numbered w.sent }

pub decided_start : (c : Config) → AllDecided (start c)
decided_start c = record {
  at = λ shard a outcome l e. no_decision_start c shard a outcome _ e;
  before = λ o k x e l i. no_txn_start c o x _ e;
  known = λ o time x e g. no_txn_start c o x _ e;
  decided = λ shard a commit time outcome h. absurd (nothing_replied c _ _ _ h);
  inquired = λ shard a outcome h. absurd (nothing_replied c _ _ _ h);
}

-- WHERE A STEP IS COUNTED

pub txn_itself : (x : TxnSession) → TxnOnward x x
txn_itself x = record {
  same = same_txn x;
  later = inl refl;
  attempt = λ e. record {
    prepared = λ m. (m, refl, refl);
    committed = λ m. (m, refl);
    timed = λ place l m. refl;
    known = λ time f. f;
    freeing = λ time f. inl f;
    undoing = λ f. f;
    shown = λ place l f. inr refl;
  };
}

pub snap_itself : (x : SnapSession) → SnapOnward x x
snap_itself x = record { same = same_snap x; first = λ read_time e. inl e; later = λ time e. e }

pub ticks_grow : (s : State) (at : Reading) → Grows s (ticks s at)
ticks_grow s at = record {
  txn = λ o x e. record { txn = x; under_way = e; onward = txn_itself x };
  snap = λ o x e. record { snap = x; under_way = e; onward = snap_itself x };
  decisions = λ shard a outcome e. e;
}

pub calm_ticks : (s : State) (at : Reading) → AllCalm s → AllCalm (ticks s at)
calm_ticks s at h = record { each = h.each }

pub just_ticks : (s : State) (at : Reading) → AllJust s → AllJust (ticks s at)
just_ticks s at h = record {
  each = λ m shard q w. just_stays s (ticks s at) (ticks_grow s at) (message_at s.net m).envelope.owner shard q
      (h.each m shard q record { numbered = w.numbered; sent = w.sent; asks = w.asks; to = w.to });
}

decided_is_ticks : (s : State) (at : Reading) (shard : ℕ) (a : Attempt) (outcome : Outcome) → DecidedIs s shard a outcome → DecidedIs (ticks s at) shard a outcome
decided_is_ticks s at shard a outcome h = record {
  txn = h.txn;
  of = record { under_way = h.of.under_way; first = h.of.first; last = h.of.last };
  at = h.at;
  committed = h.committed;
}

pub decided_ticks : (s : State) (at : Reading) → AllDecided s → AllDecided (ticks s at)
decided_ticks s at h = record {
  at = λ shard a outcome l e. decided_is_ticks s at shard a outcome (h.at shard a outcome l e);
  before = h.before;
  known = h.known;
  decided = λ shard a commit time outcome r. h.decided shard a commit time outcome (replied_ticks s at _ _ _ r);
  inquired = λ shard a outcome r. h.inquired shard a outcome (replied_ticks s at _ _ _ r);
}
