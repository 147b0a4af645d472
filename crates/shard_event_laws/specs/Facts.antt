-- What changes of owners, of the net and of shards from one moment to the next.
use Rattle.std.specs.Prelude.{◌≡◌, ◌⊎◌, ℕ, ◌<◌, ◌≤◌, ◌+◌, Bool, true, false, List, [], ◌∷◌, length, get_or, set, Option, Some, None}
use Rattle.rss_names.specs.declared.attempt.Attempt.{Attempt}
use Rattle.pipeline_lang.specs.declared.config.Config.{Config}
use Rattle.rss_model.specs.declared.op.Op.{Op}
use Rattle.rss_wire.specs.Messages.{message_at}
use Rattle.rss_wire.specs.declared.message.Body.TheVariants as body
use Rattle.rss_wire.specs.declared.message.Message.{Message}
use Rattle.rss_wire.specs.declared.messages.Request.TheVariants as request
use Rattle.rss_tables.specs.Lines.{shards_of}
use Rattle.rss_tables.specs.Outs.{Out, told}
use Rattle.rss_tables.specs.TransactionSession.{TxnSession, attempt_of}
use Rattle.rss_machine.specs.Session.{Session}
use Rattle.rss_machine.specs.Slots.{with_current}
use Rattle.rss_machine.specs.Standing.{is_running}
use Rattle.rss_machine.specs.State.{State, Owner, owner_at}
use Rattle.rss_machine.specs.declared.session.OwnerKind.TheVariants as kind
use Rattle.rss_machine.specs.declared.session.Session.TheVariants as session
use Rattle.world_laws.specs.Scripted.{IsScripted}
use Rattle.rss_machine.specs.declared.state.OwnerFate.TheVariants.{Ended}
use Rattle.world_laws.specs.Exchanges.{is_replica}

-- whether what an owner has under way is with shards
abbrev pub is_with_shards : Session → Bool
is_with_shards (session.Transaction t) = true
is_with_shards (session.Snapshot t) = true
is_with_shards (session.Settling attempt shards) = true
is_with_shards session.Idle = false
is_with_shards (session.Fixing r) = false
is_with_shards (session.Register r) = false

-- the current exchange of a slot of an owner
abbrev pub current_at : Owner → ℕ → Option ℕ
current_at w slot = get_or w.currents slot None

-- the current exchanges behind requests that are sent, of which the first has this number
abbrev pub currents_after : List (Option ℕ) → List Out → ℕ → List (Option ℕ)
currents_after currents [] n = currents
currents_after currents (out ∷ outs) n = currents_after (with_current currents out.slot n) outs (n + 1)

-- shards and the clock stay
pub record SameShards (s t : State) : Type 0 where
  pub shards : t.shards ≡ s.shards
  pub steps : t.steps ≡ s.steps
  pub moment : t.moment ≡ s.moment
  pub moments : t.moments ≡ s.moments

-- messages that were sent say what they said
pub record NetGrows (s t : State) : Type 0 where
  pub long : length s.net ≤ length t.net
  pub envelopes : (m : ℕ) → m < length s.net → (message_at t.net m).envelope ≡ (message_at s.net m).envelope
  pub bodies : (m : ℕ) → m < length s.net → (message_at t.net m).body ≡ (message_at s.net m).body

-- a message is a request of an owner, sent for the first time: it is its own exchange
pub record IsAsking (x : Message) (m o : ℕ) (out : Out) : Type 0 where
  pub owner : x.envelope.owner ≡ o
  pub target : x.envelope.target ≡ out.target
  pub exchange : x.envelope.exchange ≡ m
  pub says : x.body ≡ body.Request out.request

abbrev pub no_out : Out
no_out = told 0 (request.Inquire record { call = 0; k = 0 })

-- requests of an owner were sent, in order, and nothing else
pub record Sends (s t : State) (o : ℕ) (outs : List Out) : Type 0 where
  pub grows : NetGrows s t
  pub count : length t.net ≡ length s.net + length outs
  pub each : (i : ℕ) → i < length outs → IsAsking (message_at t.net (length s.net + i)) (length s.net + i) o (get_or outs i no_out)

-- one owner, which ran, becomes another, and all others stay
pub record OneOwner (s t : State) (o : ℕ) (w : Owner) : Type 0 where
  pub there : o < length s.owners
  pub runs : is_running (owner_at s o).fate ≡ true
  pub owned : t.owners ≡ set s.owners o w

-- an owner that has something under way with shards goes on with it, or is closed before it has ended
pub record StaysWith (steps : ℕ) (v w : Owner) : Type 0 where
  pub kind : w.kind ≡ v.kind
  pub stage : w.stage ≡ v.stage
  pub session : w.session ≡ v.session
  pub copy : w.works.copy ≡ v.works.copy
  pub begun : w.dates.begun ≡ v.dates.begun
  pub launched : w.dates.launched ≡ v.dates.launched
  pub fewer : (slot m : ℕ) → current_at w slot ≡ Some m → current_at v slot ≡ Some m
  pub unended : w.fate ≡ Ended → v.fate ≡ Ended
  pub fate : ((w.fate ≡ v.fate) × (w.dates.ended ≡ v.dates.ended)) ⊎ ((is_running v.fate ≡ true) × (is_running w.fate ≡ false) × (w.dates.ended ≡ steps))

-- an owner that has nothing under way with shards has nothing with them afterwards
pub record StaysWithout (v w : Owner) : Type 0 where
  pub kind : w.kind ≡ v.kind
  pub stage : w.stage ≡ v.stage
  pub begun : w.dates.begun ≡ v.dates.begun
  pub none : is_with_shards w.session ≡ false

-- what a stub settles is the attempt of a transaction, with its shards
pub record IsLeft (s : State) (attempt : Attempt) (shards : List ℕ) : Type 0 where
  pub owner : ℕ
  pub txn : TxnSession
  pub under_way : (owner_at s owner).session ≡ session.Transaction txn
  pub attempt_is : attempt ≡ attempt_of txn
  pub shards_are : shards ≡ shards_of txn.lines

-- an owner that begins has nothing under way with shards; a call is of its stage's script, and a stub may have to settle what its stage leaves
pub record IsNew (c : Config) (s : State) (w : Owner) : Type 0 where
  pub none : is_with_shards w.session ≡ false
  pub begun : w.dates.begun ≡ s.steps
  pub made : (x : Op) → w.kind ≡ kind.Calling x → IsScripted c w.stage x
  pub left : (attempt : Attempt) (shards : List ℕ) → w.kind ≡ kind.Stubbing (Some (attempt, shards)) → IsLeft s attempt shards

-- nothing happens to transactions, snapshots and shards, but that some are closed
pub record Aside (c : Config) (s t : State) : Type 0 where
  pub same : SameShards s t
  pub long : length s.owners ≤ length t.owners
  pub with_shards : (o : ℕ) → o < length s.owners → is_with_shards (owner_at s o).session ≡ true → StaysWith s.steps (owner_at s o) (owner_at t o)
  pub without : (o : ℕ) → o < length s.owners → is_with_shards (owner_at s o).session ≡ false → StaysWithout (owner_at s o) (owner_at t o)
  pub anew : (o : ℕ) → length s.owners ≤ o → o < length t.owners → IsNew c s (owner_at t o)
  pub net : NetGrows s t
  pub sent : (m : ℕ) → length s.net ≤ m → m < length t.net → is_replica (message_at t.net m).envelope.target ≡ true
