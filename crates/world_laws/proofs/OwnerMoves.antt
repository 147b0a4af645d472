-- What has to be shown of a predicate that owners keep, and how the moves of owners change what they have,
-- where dependencies stand and what is sent.
use Rattle.std.proofs.Common.{◌≡◌, ℕ, ◌<◌, ◌⊎◌, inl, inr, Bool, true, false, List, [], ◌∷◌, ◌++◌, length, Option, Some, refl, ap, ◌∙◌, subst, arith}
use Rattle.std.proofs.Math.ListN.{set}
use Rattle.std.proofs.lemmas.List.{get_or-set_same}
use Rattle.truetime.specs.Reading.{Reading}
use Rattle.rss_names.specs.declared.attempt.Attempt.{Attempt}
use Rattle.rss_names.specs.declared.service.ServiceId.{ServiceId}
use Rattle.rss_names.specs.declared.service.Target.{Target}
use Rattle.rss_names.specs.declared.service.Target.TheVariants.{Shard, Replica}
use Rattle.causal_context.specs.declared.dep.Dep.{Dep}
use Rattle.causal_context.specs.Seen.{Seen}
use Rattle.pipeline_lang.specs.declared.config.Config.{Config}
use Rattle.rss_model.specs.declared.history.Entry.{Entry}
use Rattle.rss_model.specs.declared.op.Op.{Op}
use Rattle.rss_model.specs.declared.op.Op.TheVariants as op
use Rattle.rss_wire.specs.declared.message.Fate.{Fate}
use Rattle.rss_wire.specs.declared.messages.Outcome.{Outcome}
use Rattle.rss_wire.specs.declared.messages.Request.{Request}
use Rattle.rss_wire.specs.declared.messages.Reply.TheVariants as reply
use Rattle.rss_wire.specs.Messages.{message_at}
use Rattle.world_laws.proofs.Looks.{looks, get_or_past}
use Rattle.world_laws.proofs.StoreMoves.{SameStores, Serves}
use Rattle.rss_tables.specs.declared.register_session.RegEnd.{RegEnd}
use Rattle.rss_tables.specs.Lines.{tells_decision}
use Rattle.rss_tables.specs.Outs.{Out}
use Rattle.rss_tables.specs.Pipes.{Pipe}
use Rattle.rss_tables.specs.RegisterSession.{RegSession, phase_end}
use Rattle.rss_machine.specs.Moves.{marks_message, sends_one, sends, serves_shard, serves_replica, notes_served, plans_stub, starts_stub, forgets, turns_session, listens}
use Rattle.rss_machine.specs.State.{State, Stage, Owner, no_owner, stage_at, owner_at}
use Rattle.rss_machine.specs.declared.session.OwnerKind.TheVariants as kind
use Rattle.rss_machine.specs.declared.session.Session.TheVariants as session
use Rattle.rss_machine.specs.Session.{Session}
use Rattle.std.proofs.Common.{All, sym}
use Rattle.std.specs.Prelude.{⊤}
use Rattle.std.proofs.lemmas.Bool.{true≢false}
use Rattle.std.proofs.Math.ListN.{length-set}
use Rattle.std.proofs.lemmas.List.{set-set}
use Rattle.std.proofs.lemmas.List.Elements.{All-set, All-push}
use Rattle.rss_tables.specs.Works.{planned, no_works}
use Rattle.rss_tables.specs.declared.register_session.RegPhase.{RegPhase}
use Rattle.rss_tables.specs.declared.register_session.RegPhase.TheVariants as phase
use Rattle.rss_machine.specs.Moves.{with_owner}
use Rattle.rss_machine.specs.State.{no_currents, opening_owner}
use Rattle.world_laws.specs.Contexts.{AllDeps, StageHolds, CopyHolds, PipeHolds}
use Rattle.world_laws.proofs.Contexts.{stage_holds, copy_holds}
use Rattle.world_laws.proofs.Doings.{Changed, Heard, listened, heard_to, reached_to, Beginning, Resting, Working, Leaving, Doing}
use Rattle.world_laws.proofs.Looks.{none_is_not, some_is}
use Rattle.world_laws.proofs.SessionMoves.{session_at, IsAgain}

-- what has to be shown of a predicate on states, and of one on states with an owner at rest: that it is kept
-- by all that owners do, and where a message meets a fate
pub record OwnerMoves (c : Config) (at : Reading) (P : State → Type 0) (R : State → ℕ → Type 0) : Type 1 where
  pub fates : (s : State) (m : ℕ) (f : Fate) → P s → P (marks_message s m f)
  pub again : (s : State) (o exchange slot : ℕ) (target : Target) (r : Request) → IsAgain s o exchange slot target r → P s → P (sends_one s o (record { slot = Some slot; target = target; request = r }))
  pub stages : (s t : State) → Changed [] s.owners s t → P s → P t
  pub dies : (s t : State) (n : ℕ) (u : Option (Attempt × List ℕ)) → Changed [] (s.owners ++ opening_owner n (kind.Stubbing u) false (no_works (stage_at s n).context) s.steps ∷ []) s t → P s → P t
  pub begins : (s t : State) (w : Owner) → Beginning c s w → Changed [] (s.owners ++ w ∷ []) s t → P s → R t (length s.owners)
  pub rests : (s t : State) (o : ℕ) (w : Owner) → o < length s.owners → Resting s o w → Changed [] (set s.owners o w) s t → P s → R t o
  pub settles : (s : State) (o slot : ℕ) (attempt : Attempt) (shards : List ℕ) (outcome : Outcome) → o < length s.owners → session_at s o ≡ session.Settling attempt shards → Heard s o slot (reply.Decided outcome) → P s →
      R (plans_stub (sends (listens s o slot) o (tells_decision attempt outcome shards)) o) o
  pub settled : (s : State) (o : ℕ) → R s o → P s
  pub works : (s t : State) (o : ℕ) (w : Owner) → o < length s.owners → Working at s o w → Changed [] (set s.owners o w) s t → R s o → R t o
  pub leaves : (s t : State) (o : ℕ) (w : Owner) (outs : List Out) → o < length s.owners → Leaving c at s o w outs → Changed [] (set s.owners o w) s t → R s o → P (sends t o outs)
  pub does : (s t : State) (o : ℕ) (w : Owner) (outs : List Out) (new : List Dep) → Doing s o w outs new → Changed new (set s.owners o w) s t → P s → P (sends t o outs)

-- and where a shard or a replica serves a request
pub record OwnerKeeps (c : Config) (at : Reading) (P : State → Type 0) (R : State → ℕ → Type 0) : Type 1 where
  pub moves : OwnerMoves c at P R
  pub shards : (s : State) (m shard : ℕ) (r : Request) → Serves s m r (Shard shard) → P s → P (serves_shard s m shard at.latest r)
  pub replicas : (s : State) (m : ℕ) (service : ServiceId) (replica : ℕ) (r : Request) → Serves s m r (Replica service replica) → P s → P (notes_served (serves_replica s m service replica r) (message_at s.net m).envelope.owner service r)

-- the stores are the same where only stages, pipes, owners, counts of fences and history change
abbrev pub same_stores : {s : State} {stages : List Stage} {pipes : List Pipe} {owners : List Owner} {planned : List ℕ} {history : List Entry} → SameStores s (record s { stages = stages; pipes = pipes; owners = owners; planned = planned; history = history })
same_stores = record { steps = refl; moment = refl; moments = refl; net = refl; shards = refl; replicas = refl; marks = refl }

-- a stage, or a pipe, in the place of what it was
pub stage_changed : (s : State) (stages : List Stage) (history : List Entry) → ((G : Dep → Type 0) → AllDeps G s → All (StageHolds G) stages) → Changed [] s.owners s (record s { stages = stages; history = history })
stage_changed s stages history f = record { stores = same_stores; owned = refl; deps = λ G a h. record { stages = f G h; pipes = h.pipes; copies = h.copies } }

pub pipe_changed : (s : State) (pipes : List Pipe) (history : List Entry) → ((G : Dep → Type 0) → AllDeps G s → All (PipeHolds G) pipes) → Changed [] s.owners s (record s { pipes = pipes; history = history })
pipe_changed s pipes history f = record { stores = same_stores; owned = refl; deps = λ G a h. record { stages = h.stages; pipes = f G h; copies = h.copies } }

-- a stage that keeps its context
pub stage_kept : (G : Dep → Type 0) (s : State) (i n : ℕ) (w : Stage) → w.context ≡ (stage_at s n).context → AllDeps G s → All (StageHolds G) (set s.stages i w)
stage_kept G s i n w e h = All-set (StageHolds G) s.stages i w (subst (λ (x : Seen). All G x.deps) (sym e) (stage_holds G s n h)) h.stages

-- an owner in the place of what it was, and its stage
pub own_changed : (s : State) (o : ℕ) (w : Owner) (planned : List ℕ) → ((G : Dep → Type 0) → AllDeps G s → All G w.works.copy.deps) → Changed [] (set s.owners o w) s (record s { owners = set s.owners o w; planned = planned })
own_changed s o w planned f = record { stores = same_stores; owned = refl; deps = λ G a h. record { stages = h.stages; pipes = h.pipes; copies = All-set (CopyHolds G) s.owners o w (f G h) h.copies } }

pub kept_changed : (s : State) (o : ℕ) (w : Owner) → w.works.copy ≡ (owner_at s o).works.copy → Changed [] (set s.owners o w) s (with_owner s o w)
kept_changed s o w e = own_changed s o w s.planned (λ G h. subst (λ (x : Seen). All G x.deps) (sym e) (copy_holds G s o h))

pub ends_changed : (new : List Dep) (s : State) (o i : ℕ) (w : Owner) (x : Stage) (history : List Entry) → w.works.copy ≡ (owner_at s o).works.copy → ((G : Dep → Type 0) → All G new → AllDeps G s → All G x.context.deps) →
    Changed new (set s.owners o w) s (record s { owners = set s.owners o w; stages = set s.stages i x; history = history })
ends_changed new s o i w x history e f = record {
  stores = same_stores;
  owned = refl;
  deps = λ G a h. record {
    stages = All-set (StageHolds G) s.stages i x (f G a h) h.stages;
    pipes = h.pipes;
    copies = All-set (CopyHolds G) s.owners o w (subst (λ (y : Seen). All G y.deps) (sym e) (copy_holds G s o h)) h.copies;
  };
}

-- a new owner begins with a copy of a stage's context
pub begins_changed : (s : State) (i n : ℕ) (w : Owner) (x : Stage) (planned : List ℕ) (history : List Entry) → w.works.copy ≡ (stage_at s n).context → x.context ≡ (stage_at s n).context →
    Changed [] (s.owners ++ w ∷ []) s (record s { owners = s.owners ++ w ∷ []; stages = set s.stages i x; planned = planned; history = history })
begins_changed s i n w x planned history e f = record {
  stores = same_stores;
  owned = refl;
  deps = λ G a h. record {
    stages = stage_kept G s i n x f h;
    pipes = h.pipes;
    copies = All-push (CopyHolds G) s.owners w h.copies (subst (λ (y : Seen). All G y.deps) (sym e) (stage_holds G s n h));
  };
}

-- an owner that is there, after it has changed
pub at_own : (s : State) (o : ℕ) (w : Owner) → o < length s.owners → owner_at (with_owner s o w) o ≡ w
at_own s o w i = get_or-set_same s.owners o w no_owner i

-- an owner with something under way, or that waits, is there
abbrev pub is_busy : Session → Bool
is_busy session.Idle = false
is_busy (session.Fixing r) = true
is_busy (session.Register r) = true
is_busy (session.Transaction t) = true
is_busy (session.Snapshot t) = true
is_busy (session.Settling attempt shards) = true

pub busy_there : (s : State) (o : ℕ) (x : Session) → session_at s o ≡ x → is_busy x ≡ true → o < length s.owners
busy_there s o x e b = by_place (get_or_past s.owners o no_owner)
  where
    by_place : (o < length s.owners) ⊎ (owner_at s o ≡ no_owner) → o < length s.owners
    by_place (inl l) = l
    by_place (inr f) = absurd (true≢false (sym b ∙ (ap is_busy (sym e) ∙ ap (λ (w : Owner). is_busy w.session) f)))

pub waiting_there : (s : State) (o time : ℕ) → (owner_at s o).works.wait ≡ Some time → o < length s.owners
waiting_there s o time f = by_place (get_or_past s.owners o no_owner)
  where
    by_place : (o < length s.owners) ⊎ (owner_at s o ≡ no_owner) → o < length s.owners
    by_place (inl l) = l
    by_place (inr e) = absurd (none_is_not time (sym (ap (λ (w : Owner). w.works.wait) e) ∙ f))

pub fixing_there : (s : State) (o : ℕ) (r : RegSession) → session_at s o ≡ session.Fixing r → o < length s.owners
fixing_there s o r e = busy_there s o (session.Fixing r) e refl

pub there_own : (s : State) (o : ℕ) (w : Owner) → o < length s.owners → o < length (with_owner s o w).owners
there_own s o w i = subst (λ (n : ℕ). o < n) (sym (length-set s.owners o w)) i

-- an owner that changes twice in a row
twice : (s : State) (o : ℕ) (w : Owner) (f : Owner → Owner) → o < length s.owners → with_owner (with_owner s o w) o (f (owner_at (with_owner s o w) o)) ≡ with_owner s o (f w)
twice s o w f i = ap (λ (v : Owner). with_owner (with_owner s o w) o (f v)) (at_own s o w i) ∙ ap (λ (owners : List Owner). record s { owners = owners }) (set-set s.owners o w (f w))

pub hears_turn : (s : State) (o slot : ℕ) (x : Session) → o < length s.owners → turns_session (listens s o slot) o x ≡ with_owner s o (heard_to s o slot x)
hears_turn s o slot x i = twice s o (listened s o slot) (λ v. record v { session = x }) i

pub hears_reach : (s : State) (o slot : ℕ) (x : Session) → o < length s.owners → forgets (turns_session (listens s o slot) o x) o ≡ with_owner s o (reached_to s o x)
hears_reach s o slot x i = ap (λ (t : State). forgets t o) (hears_turn s o slot x i) ∙ twice s o (heard_to s o slot x) (λ v. record v { currents = no_currents }) i

pub reach_turn : (s : State) (o slot : ℕ) (x : Session) → o < length s.owners → turns_session (forgets (listens s o slot) o) o x ≡ with_owner s o (reached_to s o x)
reach_turn s o slot x i = ap (λ (t : State). turns_session t o x) (twice s o (listened s o slot) (λ v. record v { currents = no_currents }) i) ∙ twice s o (record (owner_at s o) { currents = no_currents }) (λ v. record v { session = x }) i

pub starts_settling : (s : State) (o : ℕ) (x : Session) → o < length s.owners → turns_session (starts_stub s o) o x ≡ with_owner s o (record (owner_at s o) { started = true; session = x })
starts_settling s o x i = twice s o (record (owner_at s o) { started = true }) (λ v. record v { session = x }) i

-- requests that are sent change but the current exchanges of their owner
pub sends_kept : (s : State) (o : ℕ) (outs : List Out) (i : ℕ) → owner_at (sends s o outs) i ≡ record (owner_at s i) { currents = (owner_at (sends s o outs) i).currents }
sends_kept s o [] i = refl
sends_kept s o (out ∷ outs) i = let e = sends_kept (sends_one s o out) o outs i in let f = sends_one_kept s o out i in grind (arith, e, f)
  where
    sends_one_kept : (s : State) (o : ℕ) (out : Out) (i : ℕ) → owner_at (sends_one s o out) i ≡ record (owner_at s i) { currents = (owner_at (sends_one s o out) i).currents }
    sends_one_kept s o out i = grind (arith, looks)

pub sends_long : (s : State) (o : ℕ) (outs : List Out) → length (sends s o outs).owners ≡ length s.owners
sends_long s o [] = refl
sends_long s o (out ∷ outs) = sends_long (sends_one s o out) o outs ∙ length-set s.owners o _

-- how a phase that has ended did
pub done_phase : (p : RegPhase) (e : RegEnd) → phase_end p ≡ Some e → p ≡ phase.Done e
done_phase phase.Fixing e f = absurd (none_is_not e f)
done_phase phase.Asking e f = absurd (none_is_not e f)
done_phase phase.Stamping e f = absurd (none_is_not e f)
done_phase (phase.Storing stamp) e f = absurd (none_is_not e f)
done_phase (phase.Done d) e f = ap phase.Done (some_is d e f)

-- a call at a register service has no dependencies left where it launches
abbrev pub IsReady : State → ℕ → Op → Type 0
IsReady s o (op.Read key) = (owner_at s o).works.copy.deps ≡ []
IsReady s o (op.Write key value) = (owner_at s o).works.copy.deps ≡ []
IsReady s o (op.Snap keys) = ⊤
IsReady s o (op.Txn reads guard writes) = ⊤

pub ready : (s : State) (o : ℕ) (x : Op) → (owner_at s o).works.copy.deps ≡ [] → IsReady s o x
ready s o (op.Read key) e = e
ready s o (op.Write key value) e = e
ready s o (op.Snap keys) e = tt
ready s o (op.Txn reads guard writes) e = tt

-- what is true of each dependency of these stages is true of each of this context
abbrev pub Lies : List Stage → Seen → Type 1
Lies stages seen = (G : Dep → Type 0) → All (StageHolds G) stages → All G seen.deps
