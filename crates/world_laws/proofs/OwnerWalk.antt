-- The walk over all that a step does to owners: each change of an owner, each request that is sent, and
-- each dependency that stands anew comes with the reason that the rows have for it. The induction
-- principle for what owners await, for the dependencies of contexts and for what calls leave behind.
-- An owner is at rest where it goes from work to work within a step.
use Rattle.std.proofs.Common.{◌≡◌, ℕ, ◌⊎◌, inl, inr, None, refl, subst, arith}
use Rattle.std.proofs.lemmas.List.{get_or-set_same}
use Rattle.truetime.specs.Reading.{Reading}
use Rattle.rss_names.specs.declared.service.Target.{Target}
use Rattle.rss_names.specs.declared.service.Target.TheVariants.{Shard, Replica}
use Rattle.pipeline_lang.specs.declared.config.Config.{Config}
use Rattle.rss_wire.specs.declared.message.Body.{Body as MessageBody}
use Rattle.rss_wire.specs.declared.message.Body.TheVariants as body
use Rattle.rss_wire.specs.declared.message.Fate.{Fate}
use Rattle.rss_wire.specs.declared.message.Fate.TheVariants as fate
use Rattle.rss_wire.specs.declared.messages.Request.{Request}
use Rattle.rss_wire.specs.Messages.{message_at, no_message, is_sent}
use Rattle.rss_wire.specs.declared.message.Message.{Message}
use Rattle.rss_machine.specs.Refusal.{kind_refusal}
use Rattle.world_laws.proofs.Looks.{looks}
use Rattle.world_laws.proofs.StoreMoves.{IsSent, by_sent}
use Rattle.rss_machine.specs.Effect.{request_comes, comes, effect}
use Rattle.rss_machine.specs.Moves.{marks_message}
use Rattle.rss_machine.specs.Slots.{slot_in}
use Rattle.rss_machine.specs.State.{State, stage_at, owner_at}
use Rattle.rss_machine.specs.declared.step.StepKind.{StepKind}
use Rattle.rss_machine.specs.declared.step.StepKind.TheVariants.{Act, Go, Lose, Again, Kill, Stub}
use Rattle.std.proofs.Common.{sym}
use Rattle.rss_names.specs.declared.service.ServiceId.{ServiceId}
use Rattle.rss_machine.specs.Moves.{serves_shard, serves_replica, notes_served}
use Rattle.rss_machine.specs.declared.state.OwnerFate.{OwnerFate}
use Rattle.world_laws.proofs.StoreMoves.{Serves}
use Rattle.world_laws.proofs.TurnMoves.{StepMoves, WalkMoves, step_moves, walk_moves}
use Rattle.world_laws.proofs.StageMoves.{AllMoves, AnyFate, AnyState, owner_all}
use Rattle.world_laws.proofs.OwnerMoves.{OwnerMoves, OwnerKeeps}
use Rattle.world_laws.proofs.OwnerHears.{w_reply_comes, w_stub_of_stage, w_act, w_lose, w_kill}

-- a request that is delivered: what the step does is what its target does with it
pub record Served (c : Config) (at : Reading) (s v : State) : Type 0 where
  pub number : ℕ
  pub fate : Fate
  pub request : Request
  pub sent : IsSent (marks_message s number fate) number
  pub asks : (message_at (marks_message s number fate).net number).body ≡ body.Request request
  pub same : v ≡ request_comes (marks_message s number fate) number (message_at (marks_message s number fate).net number).envelope.owner at (message_at (marks_message s number fate).net number).envelope.target request

module _ (c : Config) (at : Reading) (A : OwnerFate → Type 0) (F P : State → Type 0) (R D : State → ℕ → Type 0) (k : WalkMoves c at A F P R D) where
  comes_or_serves : (s : State) (m : ℕ) (f : Fate) → IsSent (marks_message s m f) m → (x : MessageBody) → (message_at (marks_message s m f).net m).body ≡ x → P (marks_message s m f) → (P (comes c (marks_message s m f) m at (message_at (marks_message s m f).net m).envelope x)) ⊎ Served c at s (comes c (marks_message s m f) m at (message_at (marks_message s m f).net m).envelope x)
  comes_or_serves s m f d (body.Request r) b h = inr (record { number = m; fate = f; request = r; sent = d; asks = b; same = refl })
  comes_or_serves s m f d (body.Reply r) b h = let e = (message_at (marks_message s m f).net m).envelope in inl (w_reply_comes c at A F P R D k (marks_message s m f) m r d b (slot_in (owner_at (marks_message s m f) e.owner).currents e.exchange) refl h)

  delivers_or_serves : (s : State) (m : ℕ) (f : Fate) → IsSent s m → P s → (P (comes c (marks_message s m f) m at (message_at s.net m).envelope (message_at s.net m).body)) ⊎ Served c at s (comes c (marks_message s m f) m at (message_at s.net m).envelope (message_at s.net m).body)
  delivers_or_serves s m f d h =
      let t = marks_message s m f in
      let q : message_at t.net m ≡ record (message_at s.net m) { fate = f } = get_or-set_same s.net m _ no_message d.sent in
      subst (λ (x : Message). (P (comes c t m at x.envelope x.body)) ⊎ Served c at s (comes c t m at x.envelope x.body)) q
      (comes_or_serves s m f (record { numbered = d.numbered; sent = grind (arith, looks, d.sent) }) (message_at t.net m).body refl (k.fates s m f h))

  -- every kind of step that is not refused keeps what owners keep, or a target serves a request
  pub walk_or_serves : (s : State) (x : StepKind) → kind_refusal c s at x ≡ None → F s → P s → (P (effect c s at x)) ⊎ Served c at s (effect c s at x)
  unfolding effect
  walk_or_serves s (Act n) e f h = inl (w_act c at A F P R D k s n e f h)
  walk_or_serves s (Go m) e f h = delivers_or_serves s m fate.Delivered (by_sent s m (is_sent s.net m) refl _ e) h
  walk_or_serves s (Again m) e f h = delivers_or_serves s m fate.Repeated (by_sent s m (is_sent s.net m) refl _ e) h
  walk_or_serves s (Lose m) e f h = inl (w_lose c at A F P R D k s m (by_sent s m (is_sent s.net m) refl _ e) h)
  walk_or_serves s (Kill n) e f h = inl (w_kill c at A F P R D k s n e h)
  walk_or_serves s (Stub n) e f h = inl (w_stub_of_stage c at A F P R D k s (stage_at s n).stub e h)

-- the same of steps, and of all moves
module _ (c : Config) (at : Reading) (A : OwnerFate → Type 0) (F P : State → Type 0) (R D : State → ℕ → Type 0) (k : StepMoves c at A F P R D) where
  pub step_or_serves : (s : State) (x : StepKind) → kind_refusal c s at x ≡ None → F s → P s → (P (effect c s at x)) ⊎ Served c at s (effect c s at x)
  step_or_serves = walk_or_serves c at A F P R D (walk_moves c at A F P R D k)

module _ (c : Config) (at : Reading) (A : OwnerFate → Type 0) (F P : State → Type 0) (R D : State → ℕ → Type 0) (k : AllMoves c at A F P R D) where
  pub all_or_serves : (s : State) (x : StepKind) → kind_refusal c s at x ≡ None → F s → P s → (P (effect c s at x)) ⊎ Served c at s (effect c s at x)
  all_or_serves = step_or_serves c at A F P R D (step_moves c at A F P R D k)

-- all that a step does, and where a shard or a replica serves a request
pub record AllKeeps (c : Config) (at : Reading) (A : OwnerFate → Type 0) (F P : State → Type 0) (R D : State → ℕ → Type 0) : Type 1 where
  pub moves : AllMoves c at A F P R D
  pub shards : (s : State) (m shard : ℕ) (r : Request) → Serves s m r (Shard shard) → P s → P (serves_shard s m shard at.latest r)
  pub replicas : (s : State) (m : ℕ) (service : ServiceId) (replica : ℕ) (r : Request) → Serves s m r (Replica service replica) → P s → P (notes_served (serves_replica s m service replica r) (message_at s.net m).envelope.owner service r)

-- the same with turns whole
pub record StepKeeps (c : Config) (at : Reading) (A : OwnerFate → Type 0) (F P : State → Type 0) (R D : State → ℕ → Type 0) : Type 1 where
  pub moves : StepMoves c at A F P R D
  pub shards : (s : State) (m shard : ℕ) (r : Request) → Serves s m r (Shard shard) → P s → P (serves_shard s m shard at.latest r)
  pub replicas : (s : State) (m : ℕ) (service : ServiceId) (replica : ℕ) (r : Request) → Serves s m r (Replica service replica) → P s → P (notes_served (serves_replica s m service replica r) (message_at s.net m).envelope.owner service r)

-- the same with a loss and what is sent again for it whole
pub record WalkKeeps (c : Config) (at : Reading) (A : OwnerFate → Type 0) (F P : State → Type 0) (R D : State → ℕ → Type 0) : Type 1 where
  pub moves : WalkMoves c at A F P R D
  pub shards : (s : State) (m shard : ℕ) (r : Request) → Serves s m r (Shard shard) → P s → P (serves_shard s m shard at.latest r)
  pub replicas : (s : State) (m : ℕ) (service : ServiceId) (replica : ℕ) (r : Request) → Serves s m r (Replica service replica) → P s → P (notes_served (serves_replica s m service replica r) (message_at s.net m).envelope.owner service r)

module _ (c : Config) (at : Reading) (A : OwnerFate → Type 0) (F P : State → Type 0) (R D : State → ℕ → Type 0) (k : WalkKeeps c at A F P R D) where
  w_request_comes : (s : State) (m : ℕ) (r : Request) → IsSent s m → (message_at s.net m).body ≡ body.Request r → (target : Target) → (message_at s.net m).envelope.target ≡ target → P s → P (request_comes s m (message_at s.net m).envelope.owner at target r)
  w_request_comes s m r d b (Shard shard) e h = k.shards s m shard r (record { numbered = d.numbered; sent = d.sent; asks = b; to = e }) h
  w_request_comes s m r d b (Replica service replica) e h = k.replicas s m service replica r (record { numbered = d.numbered; sent = d.sent; asks = b; to = e }) h

  -- every kind of step that is not refused keeps what stages, owners and the history do
  pub walk : (s : State) (x : StepKind) → kind_refusal c s at x ≡ None → F s → P s → P (effect c s at x)
  walk s x e f h = by_served (walk_or_serves c at A F P R D k.moves s x e f h)
    where
      by_served : (P (effect c s at x)) ⊎ Served c at s (effect c s at x) → P (effect c s at x)
      by_served (inl p) = p
      by_served (inr d) =
          let t = marks_message s d.number d.fate in
          subst P (sym d.same) (w_request_comes t d.number d.request d.sent d.asks (message_at t.net d.number).envelope.target refl (k.moves.fates s d.number d.fate h))

-- what steps keep, and all moves
module _ (c : Config) (at : Reading) (A : OwnerFate → Type 0) (F P : State → Type 0) (R D : State → ℕ → Type 0) (k : StepKeeps c at A F P R D) where
  pub step_walk : (s : State) (x : StepKind) → kind_refusal c s at x ≡ None → F s → P s → P (effect c s at x)
  step_walk = walk c at A F P R D (record { moves = walk_moves c at A F P R D k.moves; shards = k.shards; replicas = k.replicas })

module _ (c : Config) (at : Reading) (A : OwnerFate → Type 0) (F P : State → Type 0) (R D : State → ℕ → Type 0) (k : AllKeeps c at A F P R D) where
  pub all_walk : (s : State) (x : StepKind) → kind_refusal c s at x ≡ None → F s → P s → P (effect c s at x)
  all_walk = step_walk c at A F P R D (record { moves = step_moves c at A F P R D k.moves; shards = k.shards; replicas = k.replicas })

-- what owners alone keep
module _ (c : Config) (at : Reading) (P : State → Type 0) (R : State → ℕ → Type 0) where
  pub moves_or_serves : OwnerMoves c at P R → (s : State) (x : StepKind) → kind_refusal c s at x ≡ None → P s → (P (effect c s at x)) ⊎ Served c at s (effect c s at x)
  moves_or_serves k s x e h = all_or_serves c at AnyFate AnyState P R (λ t o. P t) (owner_all c at P R k) s x e tt h

  pub owner_walk : OwnerKeeps c at P R → (s : State) (x : StepKind) → kind_refusal c s at x ≡ None → P s → P (effect c s at x)
  owner_walk k s x e h = all_walk c at AnyFate AnyState P R (λ t o. P t) (record { moves = owner_all c at P R k.moves; shards = k.shards; replicas = k.replicas }) s x e tt h
