-- What is sent: each request of an owner goes to a shard, or is the request of its round's phase to a
-- replica of the round's service. And what is true of each request that was sent stays true of each.
use Rattle.std.proofs.Common.{◌≡◌, ℕ, zero, suc, ◌+◌, ◌-◌, ◌≤◌, ◌⊎◌, inl, inr, Bool, true, false, List, [], ◌∷◌, ◌++◌, All, get_or, Option, Some, None, refl, sym, ◌∙◌, subst, arith}
use Rattle.std.proofs.lemmas.Bool.{cond_both, and_parts}
use Rattle.std.proofs.lemmas.List.Elements.{All-cons, All-nil, All-head, All-tail}
use Rattle.truetime.specs.Reading.{Reading}
use Rattle.rss_names.specs.declared.attempt.Attempt.{Attempt}
use Rattle.rss_names.specs.declared.service.Target.{Target}
use Rattle.rss_names.specs.declared.service.Target.TheVariants.{Shard, Replica}
use Rattle.causal_context.specs.declared.dep.Dep.{Dep}
use Rattle.pipeline_lang.specs.declared.config.Config.{Config}
use Rattle.rss_wire.specs.declared.envelope.Envelope.{Envelope}
use Rattle.rss_wire.specs.declared.message.Body.TheVariants as body
use Rattle.rss_wire.specs.declared.message.Fate.{Fate}
use Rattle.rss_wire.specs.declared.message.Fate.TheVariants.{Pending}
use Rattle.rss_wire.specs.declared.message.Message.{Message}
use Rattle.rss_wire.specs.declared.messages.Outcome.{Outcome}
use Rattle.rss_wire.specs.declared.messages.Reply.{Reply}
use Rattle.rss_wire.specs.declared.messages.Request.{Request}
use Rattle.rss_wire.specs.declared.messages.Reply.TheVariants as reply
use Rattle.rss_wire.specs.Messages.{message_at, no_messages, asks, answers, meets, request_envelope, reply_envelope}
use Rattle.rss_tables.specs.Lines.{tells_decision}
use Rattle.rss_tables.specs.Outs.{Out, awaited, replica_slot, slot_replica}
use Rattle.rss_tables.specs.RegisterSession.{RegSession, phase_request, requests_from, round_requests, session_after}
use Rattle.rss_machine.specs.Moves.{sends_one, sends}
use Rattle.rss_machine.specs.Session.{Session}
use Rattle.rss_machine.specs.State.{State, Owner}
use Rattle.rss_machine.specs.declared.session.Session.TheVariants as session
use Rattle.world_laws.proofs.Doings.{Leaving, waits, fixes_work, fixes_own, asks_register, stamps_register, begins_snapshot, begins_txn, fence_done, stub_done, ShardTurning, txn_heard, txn_woken, txn_passed, snap_heard, snap_woken, Doing, listens_one, fix_hears, fix_reached, register_hears, register_stores, register_reached, read_ends, write_ends, txn_ends, snap_ends, counts_one, cuts_one, is_closed, forgets_all, turns, stub_asks, fix_session}
use Rattle.world_laws.proofs.Replies.{meets_envelope, meets_body}
use Rattle.world_laws.proofs.RequestsProper.{either}
use Rattle.world_laws.proofs.ShardRequests.{all_outs, lines-fine, snap-lines-fine, txn-fine, passed-fine, snap-fine, woken-fine}

-- a request that goes to a shard
abbrev pub to_shard : Target → Request → Bool
to_shard (Shard n) r = true
to_shard (Replica service replica) r = false

abbrev pub ToShard : Out → Type 0
ToShard out = to_shard out.target out.request ≡ true

-- the request of a round's phase to a replica, in the slot of that replica
pub record RoundOut (r : RegSession) (out : Out) : Type 0 where
  pub replica : ℕ
  pub from_one : 1 ≤ replica
  pub within : replica ≤ r.round.replicas
  pub slot : out.slot ≡ Some (replica_slot replica)
  pub target : out.target ≡ Replica r.service replica
  pub asked : phase_request r.call r.work r.phase ≡ Some out.request

-- what an owner with this under way sends
abbrev pub SessionOut : Session → Out → Type 0
SessionOut (session.Fixing r) out = RoundOut r out
SessionOut (session.Register r) out = RoundOut r out
SessionOut session.Idle out = ToShard out
SessionOut (session.Transaction t) out = ToShard out
SessionOut (session.Snapshot t) out = ToShard out
SessionOut (session.Settling attempt shards) out = ToShard out

all_to : (outs : List Out) → all_outs to_shard outs ≡ true → All ToShard outs
all_to [] e = All-nil ToShard
all_to (out ∷ outs) e = let p = and_parts (to_shard out.target out.request) (all_outs to_shard outs) e in All-cons ToShard out outs p.0 (all_to outs p.1)

shard_to : (n : ℕ) (r : Request) → to_shard (Shard n) r ≡ true
shard_to n r = refl

pub round_outs : (r : RegSession) → All (RoundOut r) (awaited (round_requests r))
round_outs r = from (phase_request r.call r.work r.phase) refl r.round.replicas 1 (omega arith) (omega arith)
  where
    from : (q : Option Request) → phase_request r.call r.work r.phase ≡ q → (left place : ℕ) → 1 ≤ place → place + left ≡ 1 + r.round.replicas → All (RoundOut r) (awaited (requests_from r.service q place r.round.cut left))
    from None e left place l k = All-nil (RoundOut r)
    from (Some q) e zero place l k = All-nil (RoundOut r)
    from (Some q) e (suc left) place l k =
        let more = from (Some q) e left (place + 1) (omega (arith, l)) (omega (arith, k)) in
        cond_both (get_or r.round.cut (place - 1) false) _ _ (λ (rs : List (Target × Request)). All (RoundOut r) (awaited rs)) (λ t. more)
        (λ f. All-cons (RoundOut r) _ (awaited (requests_from r.service (Some q) (place + 1) r.round.cut left)) (record { replica = place; from_one = l; within = omega (arith, k); slot = refl; target = refl; asked = e }) more)

pub leaving_outs : (c : Config) (at : Reading) (s : State) (o : ℕ) (w : Owner) (outs : List Out) → Leaving c at s o w outs → All (SessionOut w.session) outs
leaving_outs c at s o _ _ (waits id time rest l) = All-nil (SessionOut _)
leaving_outs c at s o _ _ (fixes_work id rest l) = round_outs (fix_session c s o id)
leaving_outs c at s o _ _ (fixes_own x dep deps l e d) = round_outs _
leaving_outs c at s o _ _ (asks_register key l e d) = round_outs _
leaving_outs c at s o _ _ (stamps_register key value l e d) = round_outs _
leaving_outs c at s o _ _ (begins_snapshot keys t l e d) = all_to _ (snap-lines-fine to_shard shard_to t t.lines)
leaving_outs c at s o _ _ (begins_txn reads guard writes t l e d) = all_to _ (lines-fine to_shard shard_to t t.lines)
leaving_outs c at s o _ _ (fence_done l e) = All-nil (SessionOut _)
leaving_outs c at s o _ _ (stub_done u l e) = All-nil (SessionOut _)

turning_outs : (s : State) (o : ℕ) (x : Session) (outs : List Out) → ShardTurning s o x outs → All (SessionOut x) outs
turning_outs s o _ _ (txn_heard t l at r e) = all_to _ (txn-fine to_shard shard_to t l at r)
turning_outs s o _ _ (txn_woken t l e) = all_to _ (woken-fine to_shard shard_to l.shard l.state)
turning_outs s o _ _ (txn_passed t e) = all_to _ (passed-fine to_shard shard_to t t.phase)
turning_outs s o _ _ (snap_heard t l r e) = all_to _ (snap-fine to_shard shard_to t l r)
turning_outs s o _ _ (snap_woken t l e) = all_to _ (woken-fine to_shard shard_to l.shard l.state)

pub doing_outs : (s : State) (o : ℕ) (w : Owner) (outs : List Out) (new : List Dep) → Doing s o w outs new → All (SessionOut w.session) outs
doing_outs s o _ _ _ (listens_one slot r d) = All-nil (SessionOut _)
doing_outs s o _ _ _ (fix_hears f slot r x d e) = All-nil (RoundOut (session_after f (slot_replica slot) r))
doing_outs s o _ _ _ (fix_reached f slot r g x d e) = All-nil (RoundOut (session_after f (slot_replica slot) r))
doing_outs s o _ _ _ (register_hears f slot r x d a e) = All-nil (RoundOut (session_after f (slot_replica slot) r))
doing_outs s o _ _ _ (register_stores f slot r x d a e) = round_outs _
doing_outs s o _ _ _ (register_reached f slot r g x d e) = All-nil (RoundOut (session_after f (slot_replica slot) r))
doing_outs s o _ _ _ (read_ends f key cell dep x a b) = All-nil (SessionOut _)
doing_outs s o _ _ _ (write_ends f key value e x a b) = All-nil (SessionOut _)
doing_outs s o _ _ _ (txn_ends y t time a b d) = All-nil (SessionOut _)
doing_outs s o _ _ _ (snap_ends y t time a b d) = All-nil (SessionOut _)
doing_outs s o _ _ _ (counts_one target) = All-nil (SessionOut _)
doing_outs s o _ _ _ (cuts_one service replica) = All-nil (SessionOut _)
doing_outs s o _ _ _ (is_closed f) = All-nil (SessionOut _)
doing_outs s o _ _ _ forgets_all = All-nil (SessionOut _)
doing_outs s o _ _ _ (turns x outs y) = turning_outs s o x outs y
doing_outs s o _ _ _ (stub_asks attempt shards e b) = All-cons ToShard _ [] refl (All-nil ToShard)

-- a decision that is told goes to shards, and no reply is awaited
pub record IsTold (out : Out) : Type 0 where
  pub to : ToShard out
  pub slot : out.slot ≡ None

pub decision_outs : (a : Attempt) (o : Outcome) (shards : List ℕ) → All IsTold (tells_decision a o shards)
decision_outs a o [] = All-nil IsTold
decision_outs a o (shard ∷ shards) = All-cons IsTold _ (tells_decision a o shards) (record { to = refl; slot = refl }) (decision_outs a o shards)

-- a predicate that is kept where requests of a kind are sent one by one
pub sends_each : (P : State → Type 0) (Q : Out → Type 0) (o : ℕ) → ((s : State) (out : Out) → Q out → P s → P (sends_one s o out)) → (outs : List Out) (s : State) → All Q outs → P s → P (sends s o outs)
sends_each P Q o f [] s a p = p
sends_each P Q o f (out ∷ outs) s a p = sends_each P Q o f outs (sends_one s o out) (All-tail Q out outs a) (f s out (All-head Q out outs a) p)

-- what is true of a request, by its owner and target
abbrev pub Asks : (ℕ → Target → Request → Type 0) → Message → Type 0
Asks Q x = (r : Request) → x.body ≡ body.Request r → Q x.envelope.owner x.envelope.target r

pub record SentAll (Q : ℕ → Target → Request → Type 0) (net : List Message) : Type 0 where
  pub each : (m : ℕ) → Asks Q (message_at net m)

pub sent_meets : (Q : ℕ → Target → Request → Type 0) (net : List Message) (m : ℕ) (f : Fate) → SentAll Q net → SentAll Q (meets net m f)
sent_meets Q net m f h = record {
  each = λ k r e. subst (λ (v : Envelope). Q v.owner v.target r) (sym (meets_envelope net m f k)) (h.each k r (sym (meets_body net m f k) ∙ e));
}

sent_more : (Q : ℕ → Target → Request → Type 0) (net : List Message) (x : Message) → Asks Q x → SentAll Q net → SentAll Q (net ++ x ∷ [])
sent_more Q net x f h = record { each = each }
  where
    each : (m : ℕ) → Asks Q (message_at (net ++ x ∷ []) m)
    each m = by_place (either net x m)
      where
        by_place : (message_at (net ++ x ∷ []) m ≡ message_at net m) ⊎ (message_at (net ++ x ∷ []) m ≡ x) → Asks Q (message_at (net ++ x ∷ []) m)
        by_place (inl e) = subst (Asks Q) (sym e) (h.each m)
        by_place (inr e) = subst (Asks Q) (sym e) f

pub sent_asks : (Q : ℕ → Target → Request → Type 0) (net : List Message) (o n : ℕ) (t : Target) (r : Request) → Q o t r → SentAll Q net → SentAll Q (asks net o n t r)
sent_asks Q net o n t r q h = sent_more Q net (record { envelope = request_envelope net o n t; body = body.Request r; fate = Pending }) (λ p e. subst (Q o t) (request_same r p e) q) h
  where
    request_same : (q p : Request) → body.Request q ≡ body.Request p → q ≡ p
    request_same q p e = cc

pub sent_answers : (Q : ℕ → Target → Request → Type 0) (net : List Message) (m : ℕ) (r : Reply) → SentAll Q net → SentAll Q (answers net m r)
sent_answers Q net m r h = sent_more Q net (record { envelope = reply_envelope net m; body = body.Reply r; fate = Pending }) (λ p e. absurd (reply_not_request r p e)) h
  where
    reply_not_request : (r : Reply) (p : Request) → body.Reply r ≡ body.Request p → ⊥
    reply_not_request r p e = cc

-- before the first step no request was sent
pub sent_none : (Q : ℕ → Target → Request → Type 0) → SentAll Q no_messages
sent_none Q = record { each = each }
  where
    reply_not_request : (r : Reply) (p : Request) → body.Reply r ≡ body.Request p → ⊥
    reply_not_request r p e = cc

    each : (m : ℕ) → Asks Q (message_at no_messages m)
    each zero r e = absurd (reply_not_request reply.Done r e)
    each (suc m) r e = absurd (reply_not_request reply.Done r e)

-- what follows from what is true of each request
pub sent_weaker : (Q S : ℕ → Target → Request → Type 0) → ((o : ℕ) (t : Target) (r : Request) → Q o t r → S o t r) → (net : List Message) → SentAll Q net → SentAll S net
sent_weaker Q S f net h = record { each = λ m r e. f _ _ r (h.each m r e) }
