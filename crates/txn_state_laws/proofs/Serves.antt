-- What becomes of each shard in an event: it stays, or serves one request that was sent to it.
use Rattle.std.proofs.Common.{◌≡◌, ◌⊎◌, inl, inr, ℕ, ◌-◌, ◌<◌, ◌≤◌, List, [], ◌∷◌, length, get_or, Some, sym, ap, ◌∙◌, subst, arith}
use Rattle.std.proofs.lemmas.List.{get_or-set_same}
use Rattle.truetime.specs.Reading.{Reading}
use Rattle.rss_names.specs.declared.attempt.Attempt.{Attempt}
use Rattle.rss_names.specs.declared.service.Key.{Key}
use Rattle.pipeline_lang.specs.declared.config.Config.{Config}
use Rattle.rss_wire.specs.Messages.{message_at}
use Rattle.rss_wire.specs.declared.messages.Outcome.{Outcome}
use Rattle.rss_wire.specs.declared.messages.Request.{Request}
use Rattle.rss_wire.specs.declared.messages.Request.TheVariants.{Lock, Prepare}
use Rattle.rss_tables.specs.ShardRow.{Shard as ShardState, decision_in, opening_shard, shard_after}
use Rattle.rss_machine.specs.Moves.{serves_shard}
use Rattle.rss_machine.specs.State.{State, shard_at}
use Rattle.world_laws.proofs.Looks.{get_or_set}
use Rattle.shard_laws.proofs.Laters.{decision_later}
use Rattle.shard_laws.specs.Orderly.{IsInOrder}
use Rattle.shard_event_laws.specs.Events.{Event, WasAsked}
use Rattle.txn_state_laws.specs.Justified.{AllJust, IsJust, LockIs, PrepareIs}
use Rattle.txn_state_laws.specs.Orderly.{AllInOrder}
use Rattle.txn_state_laws.proofs.Grows.{DecisionsStay}
use Rattle.txn_state_laws.proofs.Replies.{Quiet, Serves, event_does}

-- a shard serves a request, which was sent to its place
pub record ServedAt (s t : State) (latest n : ℕ) : Type 0 where
  pub message : ℕ
  pub shard : ℕ
  pub request : Request
  pub asked : WasAsked s message shard request
  pub is : t ≡ serves_shard s message shard latest request
  pub place : n - 1 ≡ shard - 1
  pub now : shard_at t n ≡ shard_after (shard_at s n) latest request

pub data ShardGoes (s t : State) (latest n : ℕ) : Type 0 where
  stays : shard_at t n ≡ shard_at s n → ShardGoes s t latest n
  serves : ServedAt s t latest n → ShardGoes s t latest n

-- a place of shards
abbrev pub shard_in : State → ℕ → ShardState
shard_in s place = get_or s.shards place (opening_shard [])

-- numbers of one place are of one shard
pub same_place : (s : State) (n shard : ℕ) → n - 1 ≡ shard - 1 → shard_at s n ≡ shard_at s shard
same_place s n shard e = ap (shard_in s) e

-- where one shard serves a request, that shard and all others
pub served_at : (s : State) (m shard latest : ℕ) (q : Request) (n : ℕ) → ((shard_at (serves_shard s m shard latest q) n ≡ shard_after (shard_at s shard) latest q) × (n - 1 ≡ shard - 1) × (shard - 1 < length s.shards)) ⊎ (shard_at (serves_shard s m shard latest q) n ≡ shard_at s n)
served_at s m shard latest q n = by_place (get_or_set s.shards (shard - 1) (shard_after (shard_at s shard) latest q) (n - 1) (opening_shard []))
  where
    by_place : ((shard_at (serves_shard s m shard latest q) n ≡ shard_after (shard_at s shard) latest q) × (n - 1 ≡ shard - 1) × (shard - 1 < length s.shards)) ⊎ ((shard_at (serves_shard s m shard latest q) n ≡ shard_at s n) × ((n - 1 ≡ shard - 1 → ⊥) ⊎ (length s.shards ≤ n - 1)))
        → ((shard_at (serves_shard s m shard latest q) n ≡ shard_after (shard_at s shard) latest q) × (n - 1 ≡ shard - 1) × (shard - 1 < length s.shards)) ⊎ (shard_at (serves_shard s m shard latest q) n ≡ shard_at s n)
    by_place (inl e) = inl e
    by_place (inr e) = inr e.0

-- where the shard is one of the file's, it serves
pub served_here : (s : State) (m shard latest : ℕ) (q : Request) → 1 ≤ shard → shard ≤ length s.shards → shard_at (serves_shard s m shard latest q) shard ≡ shard_after (shard_at s shard) latest q
served_here s m shard latest q f l = get_or-set_same s.shards (shard - 1) (shard_after (shard_at s shard) latest q) (opening_shard []) (omega (arith, f, l))

-- what holds of a shard holds of it afterwards, if a request keeps it
pub served_keeps : (P : ShardState → Type 0) (s : State) (m shard latest : ℕ) (q : Request) (n : ℕ) → (P (shard_at s shard) → P (shard_after (shard_at s shard) latest q)) → P (shard_at s n) → P (shard_at (serves_shard s m shard latest q) n)
served_keeps P s m shard latest q n f p = by_place (served_at s m shard latest q n)
  where
    by_place : ((shard_at (serves_shard s m shard latest q) n ≡ shard_after (shard_at s shard) latest q) × (n - 1 ≡ shard - 1) × (shard - 1 < length s.shards)) ⊎ (shard_at (serves_shard s m shard latest q) n ≡ shard_at s n) → P (shard_at (serves_shard s m shard latest q) n)
    by_place (inl e) = subst P (sym e.0) (f (subst P (same_place s n shard e.1) p))
    by_place (inr e) = subst P (sym e) p

-- where shards stay, each does
pub quiet_shard : (s t : State) → Quiet s t → (n : ℕ) → shard_at t n ≡ shard_at s n
quiet_shard s t h n = ap (λ (l : List ShardState). get_or l (n - 1) (opening_shard [])) h.shards

-- each shard stays, or serves
pub goes : (s t : State) (latest : ℕ) → Quiet s t ⊎ Serves s t latest → (n : ℕ) → ShardGoes s t latest n
goes s t latest (inl h) n = stays (quiet_shard s t h n)
goes s t latest (inr v) n = by_place (served_at s v.message v.shard latest v.request n)
  where
    u : State
    u = serves_shard s v.message v.shard latest v.request

    is : shard_at t n ≡ shard_at u n
    is = ap (λ (z : State). shard_at z n) v.is

    by_place : ((shard_at u n ≡ shard_after (shard_at s v.shard) latest v.request) × (n - 1 ≡ v.shard - 1) × (v.shard - 1 < length s.shards)) ⊎ (shard_at u n ≡ shard_at s n) → ShardGoes s t latest n
    by_place (inl e) = serves record {
      message = v.message;
      shard = v.shard;
      request = v.request;
      asked = v.asked;
      is = v.is;
      place = e.1;
      now = is ∙ e.0 ∙ ap (λ (sh : ShardState). shard_after sh latest v.request) (sym (same_place s n v.shard e.1));
    }
    by_place (inr e) = stays (is ∙ e)

-- the shard that serves, where it is one of the file's
pub served_there : (s t : State) (latest : ℕ) → (v : Serves s t latest) → 1 ≤ v.shard → v.shard ≤ length s.shards → shard_at t v.shard ≡ shard_after (shard_at s v.shard) latest v.request
served_there s t latest v f l = ap (λ (z : State). shard_at z v.shard) v.is ∙ served_here s v.message v.shard latest v.request f l

-- what a shard serves is in order
pub served_order : (s t : State) (latest n : ℕ) → AllInOrder s → (v : ServedAt s t latest n) → IsInOrder (shard_at s n) v.request
served_order s t latest n h v = subst (λ (i : ℕ). IsInOrder (shard_in s i) v.request) (sym v.place) (h.each v.message v.shard v.request v.asked)

-- a request to lock, and one to prepare, that was sent is of a line
pub asked_lock : (s : State) → AllJust s → (m shard : ℕ) (q : Request) → WasAsked s m shard q → (a : Attempt) (coordinator : ℕ) (reads writes : List Key) → q ≡ Lock a coordinator reads writes → LockIs s shard a coordinator reads writes
asked_lock s j m shard q w a coordinator reads writes e = subst (IsJust s (message_at s.net m).envelope.owner shard) e (j.each m shard q w)

pub asked_prepare : (s : State) → AllJust s → (m shard : ℕ) (q : Request) → WasAsked s m shard q → (a : Attempt) (least earliest_end : ℕ) (writes : List (Key × ℕ)) → q ≡ Prepare a least earliest_end writes → PrepareIs s shard a least earliest_end writes
asked_prepare s j m shard q w a least earliest_end writes e = subst (IsJust s (message_at s.net m).envelope.owner shard) e (j.each m shard q w)

-- a shard that serves a request, which was sent with reason and is in order
pub record ServesAt (latest : ℕ) (s t : State) (n : ℕ) (q : Request) : Type 0 where
  pub after : shard_at t n ≡ shard_after (shard_at s n) latest q
  pub in_order : IsInOrder (shard_at s n) q
  pub owner : ℕ
  pub shard : ℕ
  pub just : IsJust s owner shard q

pub serves_at : (s t : State) (latest n : ℕ) → AllJust s → AllInOrder s → (v : ServedAt s t latest n) → ServesAt latest s t n v.request
serves_at s t latest n just in_order v = record {
  after = v.now;
  in_order = served_order s t latest n in_order v;
  owner = (message_at s.net v.message).envelope.owner;
  shard = v.shard;
  just = just.each v.message v.shard v.request v.asked;
}

-- decisions stay in each event
pub decisions_stay : (c : Config) (at : Reading) (s t : State) → Event c at s t → DecisionsStay s t
decisions_stay c at s t event = record { each = λ n a o e. by_shard n a o e (goes s t at.latest (event_does c at s t event) n) }
  where
    by_shard : (n : ℕ) (a : Attempt) (o : Outcome) → decision_in (shard_at s n).decisions a ≡ Some o → ShardGoes s t at.latest n → decision_in (shard_at t n).decisions a ≡ Some o
    by_shard n a o e (stays f) = ap (λ (sh : ShardState). decision_in sh.decisions a) f ∙ e
    by_shard n a o e (serves v) = ap (λ (sh : ShardState). decision_in sh.decisions a) v.now ∙ decision_later (shard_at s n) ((at.latest, v.request) ∷ []) a o e
