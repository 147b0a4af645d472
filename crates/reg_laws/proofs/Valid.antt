-- What it is that all that stands in a state was stored: what replicas hold and show, what contexts depend
-- on, and what rounds have heard. What was stored stays so where the net grows.
use Rattle.std.proofs.Common.{◌≡◌, ℕ, ◌<◌, ◌≤◌, true, List, [], ◌∷◌, ◌++◌, All, length, get_or, Option, Some, None, refl, ap, ◌∙◌, subst, arith}
use Rattle.std.specs.Prelude.{⊤}
use Rattle.std.proofs.Math.ListN.{set}
use Rattle.std.proofs.lemmas.Bool.{cond_both}
use Rattle.std.proofs.lemmas.List.Elements.{All-head, All-set, All-weaker}
use Rattle.rss_names.specs.declared.service.Key.{Key}
use Rattle.rss_names.specs.declared.service.ServiceId.{ServiceId}
use Rattle.rss_names.specs.declared.service.Target.{Target}
use Rattle.rss_names.specs.declared.service.Target.TheVariants.{Shard, Replica}
use Rattle.causal_context.specs.declared.dep.Dep.{Dep}
use Rattle.pipeline_lang.specs.declared.config.Config.{Config}
use Rattle.rss_wire.specs.Messages.{message_at}
use Rattle.rss_wire.specs.declared.message.Body.TheVariants as body
use Rattle.rss_wire.specs.declared.message.Message.{Message}
use Rattle.rss_wire.specs.declared.messages.RegReply.{RegReply}
use Rattle.rss_wire.specs.declared.messages.Reply.TheVariants as reply
use Rattle.rss_wire.specs.declared.messages.Request.{Request}
use Rattle.rss_wire.specs.declared.messages.Request.TheVariants as request
use Rattle.rss_tables.specs.RegisterSession.{RegSession, found_cell}
use Rattle.rss_tables.specs.Round.{Round, was_heard, hears, greatest_heard}
use Rattle.rss_tables.specs.declared.register_session.RegEnd.TheVariants as ends
use Rattle.rss_tables.specs.declared.register_session.RegPhase.{RegPhase}
use Rattle.rss_tables.specs.declared.register_session.RegPhase.TheVariants as phase
use Rattle.rss_tables.specs.declared.register_session.RegWork.{RegWork}
use Rattle.rss_tables.specs.declared.register_session.RegWork.TheVariants as work
use Rattle.rss_machine.specs.Session.{Session}
use Rattle.rss_machine.specs.State.{State, Owner, owner_at}
use Rattle.rss_machine.specs.declared.session.Session.TheVariants as session
use Rattle.world_laws.proofs.Looks.{looks, some_is, none_is_not}
use Rattle.world_laws.proofs.Sent.{SentAll}
use Rattle.std.proofs.Common.{◌-◌, inl, inr}
use Rattle.rss_wire.specs.declared.envelope.Envelope.{Envelope}
use Rattle.rss_wire.specs.declared.message.Fate.{Fate}
use Rattle.rss_wire.specs.Messages.{meets}
use Rattle.world_laws.proofs.Replies.{meets_envelope, meets_body}
use Rattle.std.proofs.lemmas.List.Elements.{All-tail, All-replicate}
use Rattle.carstamps.specs.declared.carstamp.Carstamp.{Carstamp}
use Rattle.carstamps.specs.Stamp.{stamp_lt}
use Rattle.rss_tables.specs.RegisterSession.{work_key}
use Rattle.rss_tables.specs.ReplicaRow.{held_at, dep_cell, opening_cell}
use Rattle.rss_tables.specs.Round.{greater_cell, greatest_after, nobody_heard}
use Rattle.rss_machine.specs.State.{service_index}
use Rattle.world_laws.specs.Contexts.{AllDeps}
use Rattle.world_laws.specs.Registers.{IsRegister}
use Rattle.world_laws.proofs.Contexts.{deps_weaker}
use Rattle.world_laws.proofs.Named.{phase_deps}
use Rattle.world_laws.proofs.Sent.{sent_weaker}
use Rattle.reg_laws.specs.Stored.{WasStored, IsValid, DepIsValid}

-- a net that has grown: what was sent keeps its outside and what it says
pub record Grows (net more : List Message) : Type 0 where
  pub longer : length net ≤ length more
  pub envelopes : (m : ℕ) → m < length net → (message_at more m).envelope ≡ (message_at net m).envelope
  pub bodies : (m : ℕ) → m < length net → (message_at more m).body ≡ (message_at net m).body

pub grows_more : (net : List Message) (x : Message) → Grows net (net ++ x ∷ [])
grows_more net x = record { longer = grind (arith, looks); envelopes = λ m l. ap (λ (y : Message). y.envelope) (old net x m l); bodies = λ m l. ap (λ (y : Message). y.body) (old net x m l) }
  where
    old : (net : List Message) (x : Message) (m : ℕ) → m < length net → message_at (net ++ x ∷ []) m ≡ message_at net m
    old net x m l = grind (arith, looks, l)

pub grows_meets : (net : List Message) (m : ℕ) (f : Fate) → Grows net (meets net m f)
grows_meets net m f = record { longer = grind (arith, looks); envelopes = λ k l. meets_envelope net m f k; bodies = λ k l. meets_body net m f k }

pub stored_grows : (net more : List Message) (key : Key) (cell : RegReply) → Grows net more → WasStored net key cell → WasStored more key cell
stored_grows net more key cell g h = record {
  number = h.number;
  sent = let a = g.longer in let b = h.sent in omega (arith, a, b);
  service = h.service;
  replica = h.replica;
  target = ap (λ (e : Envelope). e.target) (g.envelopes h.number h.sent) ∙ h.target;
  says = g.bodies h.number h.sent ∙ h.says;
}

-- what is known in a state is known in another
pub record Grown (known after : State) : Type 0 where
  pub nets : Grows known.net after.net
  pub owners : length known.owners ≤ length after.owners
  pub handled : (o : ℕ) → (owner_at known o).stored ≡ true → (owner_at after o).stored ≡ true

pub valid_grows : (known after : State) (key : Key) (cell : RegReply) → Grown known after → IsValid known key cell → IsValid after key cell
valid_grows known after key cell g (inl e) = inl e
valid_grows known after key cell g (inr h) = inr (record { stored = stored_grows known.net after.net key cell g.nets h.stored; handled = g.handled cell.writer h.handled })

-- what is true of each cell that was heard
abbrev pub HeardHolds : (RegReply → Type 0) → Option RegReply → Type 0
HeardHolds G q = (cell : RegReply) → q ≡ Some cell → G cell

greater_holds : (G : RegReply → Type 0) (best : Option RegReply) (cell : RegReply) → HeardHolds G best → G cell → G (greater_cell best cell)
greater_holds G None cell b h = h
greater_holds G (Some best) cell b h = cond_both (stamp_lt best.stamp cell.stamp) cell best G (λ t. h) (λ f. b best refl)

greatest_holds : (G : RegReply → Type 0) → G opening_cell → (heard : List (Option RegReply)) (best : Option RegReply) → HeardHolds G best → All (HeardHolds G) heard → G (found_cell (greatest_after best heard))
greatest_holds G o [] None b a = o
greatest_holds G o [] (Some cell) b a = b cell refl
greatest_holds G o (None ∷ heard) best b a = greatest_holds G o heard best b (All-tail (HeardHolds G) None heard a)
greatest_holds G o (Some cell ∷ heard) best b a =
    greatest_holds G o heard (Some (greater_cell best cell)) (λ c e. subst G (some_is (greater_cell best cell) c e) (greater_holds G best cell b (All-head (HeardHolds G) (Some cell) heard a cell refl))) (All-tail (HeardHolds G) (Some cell) heard a)

pub found_holds : (G : RegReply → Type 0) (round : Round) → G opening_cell → All (HeardHolds G) round.heard → G (found_cell (greatest_heard round))
found_holds G round o a = greatest_holds G o round.heard None (λ c e. absurd (none_is_not c e)) a

pub hears_holds : (G : RegReply → Type 0) (round : Round) (from : ℕ) (cell : RegReply) → G cell → All (HeardHolds G) round.heard → All (HeardHolds G) (hears round from cell).heard
hears_holds G round from cell g a = cond_both (was_heard round from) round (record round { heard = set round.heard (from - 1) (Some cell) }) (λ (x : Round). All (HeardHolds G) x.heard) (λ t. a) (λ f. All-set (HeardHolds G) round.heard (from - 1) (Some cell) (λ c e. subst G (some_is cell c e) g) a)

pub nobody_holds : (G : RegReply → Type 0) → All (HeardHolds G) nobody_heard
nobody_holds G = All-replicate (HeardHolds G) 7 None (λ c e. absurd (none_is_not c e))

-- the dependencies that a work stores
abbrev pub work_deps : RegWork → List Dep
work_deps (work.Fix deps) = deps
work_deps (work.Read key) = []
work_deps (work.Write key value) = []

-- the register that a request asks about
abbrev pub asks_about : Request → Option Key
asks_about (request.Ask key) = Some key
asks_about (request.Stamp key) = Some key
asks_about (request.Store key value stamp writer) = Some key
asks_about (request.Fix deps) = None
asks_about (request.Lock attempt coordinator reads writes) = None
asks_about (request.Prepare attempt least earliest_end writes) = None
asks_about (request.Decide attempt commit time) = None
asks_about (request.Commit attempt commit_time) = None
asks_about (request.Abort attempt) = None
asks_about (request.Inquire attempt) = None
asks_about (request.Release attempt time last) = None
asks_about (request.Snapshot read_time least keys skip) = None

-- the stamp that a phase stores or has stored is above the opening one
abbrev pub AboveIn : RegPhase → Type 0
AboveIn phase.Fixing = ⊤
AboveIn phase.Asking = ⊤
AboveIn phase.Stamping = ⊤
AboveIn (phase.Storing stamp) = 0 < stamp.number
AboveIn (phase.Done (ends.Written stamp)) = 0 < stamp.number
AboveIn (phase.Done (ends.Read cell dep)) = ⊤
AboveIn (phase.Done ends.Fixed) = ⊤

-- what a round has heard, works on and leaves was stored
pub record RoundValid (known : State) (r : RegSession) : Type 0 where
  pub heard : (key : Key) → work_key r.work ≡ Some key → All (HeardHolds (IsValid known key)) r.round.heard
  pub fixes : All (DepIsValid known) (work_deps r.work)
  pub cells : (key : Key) (cell : RegReply) (dep : Option Dep) → work_key r.work ≡ Some key → r.phase ≡ phase.Done (ends.Read cell dep) → IsValid known key cell
  pub left : All (DepIsValid known) (phase_deps r.phase)
  pub above : AboveIn r.phase

abbrev pub SessionValid : State → Session → Type 0
SessionValid known (session.Fixing r) = RoundValid known r
SessionValid known (session.Register r) = RoundValid known r
SessionValid known session.Idle = ⊤
SessionValid known (session.Transaction t) = ⊤
SessionValid known (session.Snapshot t) = ⊤
SessionValid known (session.Settling attempt shards) = ⊤

abbrev pub OwnerValid : State → Owner → Type 0
OwnerValid known w = SessionValid known w.session

-- what a round of dependencies asks replicas to store was stored, and a call stores no opening stamp
abbrev pub FixValid : State → Request → Type 0
FixValid known (request.Fix deps) = All (DepIsValid known) deps
FixValid known (request.Ask key) = ⊤
FixValid known (request.Stamp key) = ⊤
FixValid known (request.Store key value stamp writer) = 0 < stamp.number
FixValid known (request.Lock attempt coordinator reads writes) = ⊤
FixValid known (request.Prepare attempt least earliest_end writes) = ⊤
FixValid known (request.Decide attempt commit time) = ⊤
FixValid known (request.Commit attempt commit_time) = ⊤
FixValid known (request.Abort attempt) = ⊤
FixValid known (request.Inquire attempt) = ⊤
FixValid known (request.Release attempt time last) = ⊤
FixValid known (request.Snapshot read_time least keys skip) = ⊤

abbrev pub RequestValid : State → ℕ → Target → Request → Type 0
RequestValid known o (Shard n) r = ⊤
RequestValid known o (Replica service replica) r = FixValid known r × (o < length known.owners)

-- what a replica shows of a register was stored
pub record RepliesValid (known : State) (sent : List Message) : Type 0 where
  pub each : (m value writer replica : ℕ) (stamp : Carstamp) (service : ServiceId) (q : Request) (key : Key) → 0 < m → m < length sent → (message_at sent m).envelope.target ≡ Replica service replica → (message_at sent m).body ≡ body.Reply (reply.Held value stamp writer)
      → (message_at sent (message_at sent m).envelope.exchange).body ≡ body.Request q → asks_about q ≡ Some key → IsValid known key (record { value = value; stamp = stamp; writer = writer })

pub record ReplicasValid (c : Config) (known : State) (replicas : List (List (List RegReply))) : Type 0 where
  pub each : (key : Key) (place : ℕ) → IsRegister c key → IsValid known key (held_at (get_or (get_or replicas (service_index key.service) []) place []) key)

-- all that stands in a state was stored, by what was sent
pub record ValidIn (c : Config) (known : State) (s : State) : Type 0 where
  pub owners : All (OwnerValid known) s.owners
  pub deps : AllDeps (DepIsValid known) s
  pub messages : SentAll (RequestValid known) s.net
  pub replies : RepliesValid known s.net
  pub replicas : ReplicasValid c known s.replicas

abbrev pub Valid : Config → State → Type 0
Valid c s = ValidIn c s s

-- what was stored stays so where the known grows
pub dep_grows : (known after : State) → Grown known after → (dep : Dep) → DepIsValid known dep → DepIsValid after dep
dep_grows known after g dep h = valid_grows known after dep.key (dep_cell dep) g h

round_grows : (known after : State) → Grown known after → (r : RegSession) → RoundValid known r → RoundValid after r
round_grows known after g r h = record {
  heard = λ key e. All-weaker (HeardHolds (IsValid known key)) (HeardHolds (IsValid after key)) (λ q f cell d. valid_grows known after key cell g (f cell d)) r.round.heard (h.heard key e);
  fixes = All-weaker (DepIsValid known) (DepIsValid after) (dep_grows known after g) (work_deps r.work) h.fixes;
  cells = λ key cell dep e f. valid_grows known after key cell g (h.cells key cell dep e f);
  left = All-weaker (DepIsValid known) (DepIsValid after) (dep_grows known after g) (phase_deps r.phase) h.left;
  above = h.above;
}

pub session_grows : (known after : State) → Grown known after → (x : Session) → SessionValid known x → SessionValid after x
session_grows known after g (session.Fixing r) h = round_grows known after g r h
session_grows known after g (session.Register r) h = round_grows known after g r h
session_grows known after g session.Idle h = tt
session_grows known after g (session.Transaction t) h = tt
session_grows known after g (session.Snapshot t) h = tt
session_grows known after g (session.Settling attempt shards) h = tt

pub fix_grows : (known after : State) → Grown known after → (r : Request) → FixValid known r → FixValid after r
fix_grows known after g (request.Fix deps) h = All-weaker (DepIsValid known) (DepIsValid after) (dep_grows known after g) deps h
fix_grows known after g (request.Ask key) h = tt
fix_grows known after g (request.Stamp key) h = tt
fix_grows known after g (request.Store key value stamp writer) h = h
fix_grows known after g (request.Lock attempt coordinator reads writes) h = tt
fix_grows known after g (request.Prepare attempt least earliest_end writes) h = tt
fix_grows known after g (request.Decide attempt commit time) h = tt
fix_grows known after g (request.Commit attempt commit_time) h = tt
fix_grows known after g (request.Abort attempt) h = tt
fix_grows known after g (request.Inquire attempt) h = tt
fix_grows known after g (request.Release attempt time last) h = tt
fix_grows known after g (request.Snapshot read_time least keys skip) h = tt

pub request_grows : (known after : State) → Grown known after → (o : ℕ) (t : Target) (r : Request) → RequestValid known o t r → RequestValid after o t r
request_grows known after g o (Shard n) r h = tt
request_grows known after g o (Replica service replica) r h = (fix_grows known after g r h.0, let a = g.owners in let b = h.1 in omega (arith, a, b))

pub valid_more : (c : Config) (known after : State) (s : State) → Grown known after → ValidIn c known s → ValidIn c after s
valid_more c known after s g h = record {
  owners = All-weaker (OwnerValid known) (OwnerValid after) (λ w. session_grows known after g w.session) s.owners h.owners;
  deps = deps_weaker (DepIsValid known) (DepIsValid after) (dep_grows known after g) s h.deps;
  messages = sent_weaker (RequestValid known) (RequestValid after) (request_grows known after g) s.net h.messages;
  replies = record { each = λ m value writer replica stamp service q key z l t b a e. valid_grows known after key _ g (h.replies.each m value writer replica stamp service q key z l t b a e) };
  replicas = record { each = λ key place i. valid_grows known after key _ g (h.replicas.each key place i) };
}
