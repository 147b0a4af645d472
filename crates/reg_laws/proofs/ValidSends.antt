-- What owners send and do keeps that all that stands in a state was stored.
use Rattle.std.proofs.Common.{◌≡◌, ℕ, ◌<◌, ◌≤◌, true, false, List, [], ◌∷◌, ◌++◌, All, length, get_or, Some, refl, ap, sym, ◌∙◌, subst, arith}
use Rattle.std.proofs.Math.ListN.{set}
use Rattle.std.proofs.lemmas.List.Elements.{All-set, All-weaker}
use Rattle.truetime.specs.Reading.{Reading}
use Rattle.rss_names.specs.declared.service.Key.{Key}
use Rattle.rss_names.specs.declared.service.ServiceId.{ServiceId}
use Rattle.rss_names.specs.declared.service.Target.{Target}
use Rattle.rss_names.specs.declared.service.Target.TheVariants.{Shard, Replica}
use Rattle.causal_context.specs.declared.dep.Dep.{Dep}
use Rattle.pipeline_lang.specs.declared.config.Config.{Config}
use Rattle.rss_wire.specs.Messages.{message_at}
use Rattle.rss_wire.specs.declared.message.Body.TheVariants as body
use Rattle.rss_wire.specs.declared.message.Message.{Message}
use Rattle.rss_wire.specs.declared.messages.Reply.{Reply}
use Rattle.rss_wire.specs.declared.messages.Reply.TheVariants as reply
use Rattle.rss_wire.specs.declared.messages.Request.{Request}
use Rattle.rss_wire.specs.declared.messages.Request.TheVariants as request
use Rattle.rss_tables.specs.Outs.{Out}
use Rattle.rss_tables.specs.RegisterSession.{RegSession, phase_request}
use Rattle.rss_tables.specs.declared.register_session.RegPhase.{RegPhase}
use Rattle.rss_tables.specs.declared.register_session.RegPhase.TheVariants as phase
use Rattle.rss_tables.specs.declared.register_session.RegWork.{RegWork}
use Rattle.rss_tables.specs.declared.register_session.RegWork.TheVariants as work
use Rattle.rss_machine.specs.Moves.{sends_one, sends}
use Rattle.rss_machine.specs.Session.{Session}
use Rattle.rss_machine.specs.State.{State, Owner, owner_at, no_owner}
use Rattle.rss_machine.specs.declared.session.Session.TheVariants as session
use Rattle.world_laws.proofs.Doings.{Changed, Resting, plans, past, fixed, cleared, Working, owes_nothing, is_past, enters_own, Leaving, waits, fixes_work, fixes_own, asks_register, stamps_register, begins_snapshot, begins_txn, fence_done, stub_done, Doing, listens_one, fix_hears, fix_reached, register_hears, register_stores, register_reached, read_ends, write_ends, txn_ends, snap_ends, counts_one, cuts_one, is_closed, forgets_all, turns, stub_asks}
use Rattle.std.proofs.lemmas.Bool.{false≢true}
use Rattle.world_laws.proofs.Looks.{looks, some_is, none_is_not}
use Rattle.world_laws.proofs.Sent.{SessionOut, RoundOut, to_shard, sends_each, SentAll, sent_asks}
use Rattle.world_laws.proofs.SessionMoves.{session_at}
use Rattle.world_laws.proofs.Replies.{Sound, sound_keeps}
use Rattle.std.proofs.Common.{◌⊎◌, inl, inr}
use Rattle.std.proofs.lemmas.Bool.{true≢false}
use Rattle.rss_wire.specs.declared.envelope.Envelope.{Envelope}
use Rattle.rss_wire.specs.declared.message.Fate.{Fate}
use Rattle.rss_wire.specs.Messages.{meets}
use Rattle.rss_machine.specs.Slots.{with_current}
use Rattle.world_laws.specs.Exchanges.{Exchanges}
use Rattle.world_laws.proofs.Looks.{get_or_past}
use Rattle.world_laws.proofs.Replies.{meets_envelope, meets_body}
use Rattle.world_laws.proofs.RequestsProper.{sends_same}
use Rattle.std.proofs.Math.ListN.{length-set}
use Rattle.std.proofs.lemmas.Bool.{false≢true}
use Rattle.carstamps.specs.declared.carstamp.Carstamp.{Carstamp}
use Rattle.world_laws.proofs.Contexts.{deps_weaker, set_copies}
use Rattle.world_laws.proofs.Replies.{place, old_message, new_message, exchange_there}
use Rattle.reg_laws.specs.Stored.{IsValid, DepIsValid}
use Rattle.reg_laws.proofs.Awaiting.{set_each, grow_each}
use Rattle.reg_laws.proofs.Hearing.{session_valid}
use Rattle.reg_laws.proofs.Valid.{Grows, grows_more, Grown, request_grows, session_grows, dep_grows, work_deps, asks_about, AboveIn, RoundValid, SessionValid, OwnerValid, FixValid, RequestValid, RepliesValid, ReplicasValid, ValidIn, Valid, valid_more}

-- what a phase asks to store was stored
phase_valid : (known : State) (r : RegSession) (q : Request) → RoundValid known r → phase_request r.call r.work r.phase ≡ Some q → FixValid known q
phase_valid known r q h a = by_work r.work r.phase h.fixes h.above a
  where
    by_work : (w : RegWork) (p : RegPhase) → All (DepIsValid known) (work_deps w) → AboveIn p → phase_request r.call w p ≡ Some q → FixValid known q
    by_work (work.Fix deps) phase.Fixing k l a = subst (FixValid known) (some_is (request.Fix deps) q a) k
    by_work (work.Fix deps) phase.Asking k l a = absurd (none_is_not q a)
    by_work (work.Fix deps) phase.Stamping k l a = absurd (none_is_not q a)
    by_work (work.Fix deps) (phase.Storing stamp) k l a = absurd (none_is_not q a)
    by_work (work.Fix deps) (phase.Done end) k l a = absurd (none_is_not q a)
    by_work (work.Read key) phase.Fixing k l a = absurd (none_is_not q a)
    by_work (work.Read key) phase.Asking k l a = subst (FixValid known) (some_is (request.Ask key) q a) tt
    by_work (work.Read key) phase.Stamping k l a = absurd (none_is_not q a)
    by_work (work.Read key) (phase.Storing stamp) k l a = absurd (none_is_not q a)
    by_work (work.Read key) (phase.Done end) k l a = absurd (none_is_not q a)
    by_work (work.Write key value) phase.Fixing k l a = absurd (none_is_not q a)
    by_work (work.Write key value) phase.Asking k l a = absurd (none_is_not q a)
    by_work (work.Write key value) phase.Stamping k l a = subst (FixValid known) (some_is (request.Stamp key) q a) tt
    by_work (work.Write key value) (phase.Storing stamp) k l a = subst (FixValid known) (some_is (request.Store key value stamp r.call) q a) l
    by_work (work.Write key value) (phase.Done end) k l a = absurd (none_is_not q a)

round_valid_out : (known : State) (o : ℕ) (r : RegSession) (out : Out) → o < length known.owners → RoundValid known r → RoundOut r out → RequestValid known o out.target out.request
round_valid_out known o r out i h d = subst (λ (t : Target). RequestValid known o t out.request) (sym d.target) (phase_valid known r out.request h d.asked, i)

pub shard_valid_out : (known : State) (o : ℕ) (target : Target) (r : Request) → to_shard target r ≡ true → RequestValid known o target r
shard_valid_out known o (Shard n) r e = tt
shard_valid_out known o (Replica service replica) r e = absurd (false≢true e)

out_valid : (known : State) (o : ℕ) (x : Session) (out : Out) → o < length known.owners → SessionValid known x → SessionOut x out → RequestValid known o out.target out.request
out_valid known o (session.Fixing r) out i h d = round_valid_out known o r out i h d
out_valid known o (session.Register r) out i h d = round_valid_out known o r out i h d
out_valid known o session.Idle out i h d = shard_valid_out known o out.target out.request d
out_valid known o (session.Transaction t) out i h d = shard_valid_out known o out.target out.request d
out_valid known o (session.Snapshot t) out i h d = shard_valid_out known o out.target out.request d
out_valid known o (session.Settling attempt shards) out i h d = shard_valid_out known o out.target out.request d

-- replies stay what they are where one message more is sent, which is sound
pub replies_stay : (known : State) (sent : List Message) (x : Message) → Exchanges sent → RepliesValid known sent →
    ((value writer replica : ℕ) (stamp : Carstamp) (service : ServiceId) (q : Request) (key : Key) → x.envelope.target ≡ Replica service replica → x.body ≡ body.Reply (reply.Held value stamp writer) → (message_at (sent ++ x ∷ []) x.envelope.exchange).body ≡ body.Request q → asks_about q ≡ Some key → IsValid known key (record { value = value; stamp = stamp; writer = writer })) →
    RepliesValid known (sent ++ x ∷ [])
replies_stay known sent x g h f = record { each = each }
  where
    each : (m value writer replica : ℕ) (stamp : Carstamp) (service : ServiceId) (q : Request) (key : Key) → 0 < m → m < length (sent ++ x ∷ []) → (message_at (sent ++ x ∷ []) m).envelope.target ≡ Replica service replica → (message_at (sent ++ x ∷ []) m).body ≡ body.Reply (reply.Held value stamp writer)
        → (message_at (sent ++ x ∷ []) (message_at (sent ++ x ∷ []) m).envelope.exchange).body ≡ body.Request q → asks_about q ≡ Some key → IsValid known key (record { value = value; stamp = stamp; writer = writer })
    each m value writer replica stamp service q key z l t b a e = by_place (place sent x m l)
      where
        by_place : (m < length sent) ⊎ (m ≡ length sent) → IsValid known key (record { value = value; stamp = stamp; writer = writer })
        by_place (inl i) =
            let y : message_at (sent ++ x ∷ []) m ≡ message_at sent m = old_message sent x m i in
            let j : (message_at sent m).envelope.exchange < length sent = let k = exchange_there sent g m z i in omega (arith, k, i) in
            let n : message_at (sent ++ x ∷ []) (message_at sent m).envelope.exchange ≡ message_at sent (message_at sent m).envelope.exchange = old_message sent x _ j in
            h.each m value writer replica stamp service q key z i
            (sym (ap (λ (v : Message). v.envelope.target) y) ∙ t) (sym (ap (λ (v : Message). v.body) y) ∙ b)
            (sym (ap (λ (v : Message). v.body) n) ∙ (sym (ap (λ (v : Message). (message_at (sent ++ x ∷ []) v.envelope.exchange).body) y) ∙ a)) e
        by_place (inr i) =
            let y : message_at (sent ++ x ∷ []) m ≡ x = ap (λ (n : ℕ). message_at (sent ++ x ∷ []) n) i ∙ new_message sent x in
            f value writer replica stamp service q key
            (sym (ap (λ (v : Message). v.envelope.target) y) ∙ t) (sym (ap (λ (v : Message). v.body) y) ∙ b)
            (sym (ap (λ (v : Message). (message_at (sent ++ x ∷ []) v.envelope.exchange).body) y) ∙ a) e

pub replies_meet : (known : State) (sent : List Message) (n : ℕ) (f : Fate) → RepliesValid known sent → RepliesValid known (meets sent n f)
replies_meet known sent n f h = record {
  each = λ m value writer replica stamp service q key z l t b a e.
      h.each m value writer replica stamp service q key z (grind (arith, looks, l)) (sym (ap (λ (v : Envelope). v.target) (meets_envelope sent n f m)) ∙ t) (sym (meets_body sent n f m) ∙ b)
      (sym (meets_body sent n f _) ∙ (sym (ap (λ (v : Envelope). (message_at (meets sent n f) v.exchange).body) (meets_envelope sent n f m)) ∙ a)) e;
}

-- a request is no reply
request_not_reply : (q : Request) (r : Reply) → body.Request q ≡ body.Reply r → ⊥
request_not_reply q r e = cc

-- owners keep their notes of handled stores
pub flag_sends : (s : State) (o : ℕ) (out : Out) (i : ℕ) → (owner_at (sends_one s o out) i).stored ≡ (owner_at s i).stored
flag_sends s o out i = grind (arith, looks)

pub grown_same : (s t : State) → t.net ≡ s.net → t.owners ≡ s.owners → Grown s t
grown_same s t e d = record {
  nets = subst (Grows s.net) (sym e) (record { longer = omega arith; envelopes = λ m l. refl; bodies = λ m l. refl });
  owners = subst (λ (owners : List Owner). length s.owners ≤ length owners) (sym d) (omega arith);
  handled = λ i f. subst (λ (owners : List Owner). (get_or owners i no_owner).stored ≡ true) (sym d) f;
}

pub grown_set : (s t : State) (o : ℕ) (w : Owner) → t.net ≡ s.net → t.owners ≡ set s.owners o w → w.stored ≡ (owner_at s o).stored → Grown s t
grown_set s t o w e d f = record {
  nets = subst (Grows s.net) (sym e) (record { longer = omega arith; envelopes = λ m l. refl; bodies = λ m l. refl });
  owners = subst (λ (owners : List Owner). length s.owners ≤ length owners) (sym d) (subst (λ (n : ℕ). length s.owners ≤ n) (sym (length-set s.owners o w)) (omega arith));
  handled = subst (λ (owners : List Owner). (i : ℕ) → (owner_at s i).stored ≡ true → (get_or owners i no_owner).stored ≡ true) (sym d) (set_each (λ i v. (owner_at s i).stored ≡ true → v.stored ≡ true) s.owners o w (λ g. f ∙ g) (λ i g. g));
}

pub grown_grow : (s t : State) (w : Owner) → t.net ≡ s.net → t.owners ≡ s.owners ++ w ∷ [] → Grown s t
grown_grow s t w e d = record {
  nets = subst (Grows s.net) (sym e) (record { longer = omega arith; envelopes = λ m l. refl; bodies = λ m l. refl });
  owners = subst (λ (owners : List Owner). length s.owners ≤ length owners) (sym d) (longer s.owners w);
  handled = subst (λ (owners : List Owner). (i : ℕ) → (owner_at s i).stored ≡ true → (get_or owners i no_owner).stored ≡ true) (sym d) (grow_each (λ i v. (owner_at s i).stored ≡ true → v.stored ≡ true) s.owners w (λ g. absurd (true≢false (sym g ∙ at_end s.owners))) (λ i g. g));
}
  where
    longer : (xs : List Owner) (w : Owner) → length xs ≤ length (xs ++ w ∷ [])
    longer xs w = grind (arith, looks)

    at_end : (xs : List Owner) → (get_or xs (length xs) no_owner).stored ≡ false
    at_end xs = by_place (get_or_past xs (length xs) no_owner)
      where
        by_place : (length xs < length xs) ⊎ (get_or xs (length xs) no_owner ≡ no_owner) → (get_or xs (length xs) no_owner).stored ≡ false
        by_place (inl l) = absurd (omega (arith, l))
        by_place (inr e) = ap (λ (w : Owner). w.stored) e

pub leaving_flag : (c : Config) (at : Reading) (s : State) (o : ℕ) (w : Owner) (outs : List Out) → Leaving c at s o w outs → w.stored ≡ (owner_at s o).stored
leaving_flag c at s o _ _ (waits id time rest l) = refl
leaving_flag c at s o _ _ (fixes_work id rest l) = refl
leaving_flag c at s o _ _ (fixes_own x dep deps l e d) = refl
leaving_flag c at s o _ _ (asks_register key l e d) = refl
leaving_flag c at s o _ _ (stamps_register key value l e d) = refl
leaving_flag c at s o _ _ (begins_snapshot keys t l e d) = refl
leaving_flag c at s o _ _ (begins_txn reads guard writes t l e d) = refl
leaving_flag c at s o _ _ (fence_done l e) = refl
leaving_flag c at s o _ _ (stub_done u l e) = refl

pub working_flag : (at : Reading) (s : State) (o : ℕ) (w : Owner) → Working at s o w → w.stored ≡ (owner_at s o).stored
working_flag at s o _ (owes_nothing id rest l) = refl
working_flag at s o _ (is_past id time rest l e) = refl
working_flag at s o _ (enters_own x l e f) = refl

pub resting_flag : (s : State) (o : ℕ) (w : Owner) → Resting s o w → w.stored ≡ (owner_at s o).stored
resting_flag s o _ (plans e b) = refl
resting_flag s o _ (past id x rest time l e) = refl
resting_flag s o _ (fixed id x rest r e l a b d) = refl
resting_flag s o _ (cleared r e l a b d) = refl

pub doing_flag : (s : State) (o : ℕ) (w : Owner) (outs : List Out) (new : List Dep) → Doing s o w outs new → w.stored ≡ (owner_at s o).stored
doing_flag s o _ _ _ (listens_one slot r d) = refl
doing_flag s o _ _ _ (fix_hears f slot r x d e) = refl
doing_flag s o _ _ _ (fix_reached f slot r y x d e) = refl
doing_flag s o _ _ _ (register_hears f slot r x d a e) = refl
doing_flag s o _ _ _ (register_stores f slot r x d a e) = refl
doing_flag s o _ _ _ (register_reached f slot r y x d e) = refl
doing_flag s o _ _ _ (read_ends f key cell dep x a b) = refl
doing_flag s o _ _ _ (write_ends f key value e x a b) = refl
doing_flag s o _ _ _ (txn_ends y t time a b d) = refl
doing_flag s o _ _ _ (snap_ends y t time a b d) = refl
doing_flag s o _ _ _ (counts_one target) = refl
doing_flag s o _ _ _ (cuts_one id replica) = refl
doing_flag s o _ _ _ (is_closed f) = refl
doing_flag s o _ _ _ forgets_all = refl
doing_flag s o _ _ _ (turns x outs y) = refl
doing_flag s o _ _ _ (stub_asks attempt shards e b) = refl

-- requests that are sent
pub valid_one : (c : Config) (o : ℕ) (s : State) (out : Out) → Sound s → RequestValid s o out.target out.request → Valid c s → Valid c (sends_one s o out)
valid_one c o s out g q h = record {
  owners = All-set (OwnerValid t) s.owners o _ (session_valid c t s o k) k.owners;
  deps = record { stages = k.deps.stages; pipes = k.deps.pipes; copies = set_copies (DepIsValid t) s o _ refl k.deps };
  messages = sent_asks (RequestValid t) s.net o _ out.target out.request (request_grows s t grown o out.target out.request q) k.messages;
  replies = replies_stay t s.net _ g.sound k.replies (λ value writer replica stamp service p key r b a e. absurd (request_not_reply out.request _ b));
  replicas = k.replicas;
}
  where
    t : State
    t = sends_one s o out

    grown : Grown s t
    grown = record { nets = grows_more s.net _; owners = let l = length-set s.owners o (record (owner_at s o) { currents = with_current (owner_at s o).currents out.slot (length s.net) }) in omega (arith, l); handled = λ i f. flag_sends s o out i ∙ f }

    k : ValidIn c t s
    k = valid_more c s t s grown h

pub valid_sends : (c : Config) (o : ℕ) (x : Session) (outs : List Out) (s : State) → All (SessionOut x) outs → session_at s o ≡ x → Sound s → o < length s.owners → Valid c s → Valid c (sends s o outs)
valid_sends c o x outs s a e g i h = (sends_each Good (SessionOut x) o one outs s a (((g, h), e), i)).0.0.1
  where
    Good : State → Type 0
    Good t = ((Sound t × Valid c t) × (session_at t o ≡ x)) × (o < length t.owners)

    one : (t : State) (out : Out) → SessionOut x out → Good t → Good (sends_one t o out)
    one t out d p = (
      ((sound_keeps.sends t o out p.0.0.0, valid_one c o t out p.0.0.0 (out_valid t o x out p.1 (subst (SessionValid t) p.0.1 (session_valid c t t o p.0.0.1)) d) p.0.0.1), sends_same t o out o ∙ p.0.1),
      subst (λ (n : ℕ). o < n) (sym (length-set t.owners o (record (owner_at t o) { currents = with_current (owner_at t o).currents out.slot (length t.net) }))) p.1,
    )

-- owners, stages and pipes change
pub valid_changed : (c : Config) (new : List Dep) (s t : State) (owners : List Owner) → Changed new owners s t → Grown s t → All (DepIsValid s) new → All (OwnerValid s) owners → Valid c s → Valid c t
valid_changed c new s t owners d g a w h =
    let k = valid_more c s t s g h in
    record {
      owners = subst (All (OwnerValid t)) (sym d.owned) (All-weaker (OwnerValid s) (OwnerValid t) (λ x. session_grows s t g x.session) owners w);
      deps = deps_weaker (DepIsValid s) (DepIsValid t) (dep_grows s t g) t (d.deps (DepIsValid s) a h.deps);
      messages = subst (SentAll (RequestValid t)) (sym d.stores.net) k.messages;
      replies = subst (RepliesValid t) (sym d.stores.net) k.replies;
      replicas = subst (ReplicasValid c t) (sym d.stores.replicas) k.replicas;
    }
