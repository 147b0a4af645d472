-- What is awaited, owner by owner, and where an owner changes.
use Rattle.std.proofs.Common.{◌≡◌, ◌⊎◌, inl, inr, ℕ, ◌+◌, ◌<◌, ◌≤◌, Bool, false, List, [], ◌∷◌, ◌++◌, length, get_or, Option, Some, None, refl, sym, ap, ◌∙◌, subst, arith, length-append}
use Rattle.truetime.specs.Reading.{Reading}
use Rattle.rss_names.specs.declared.attempt.Attempt.{Attempt}
use Rattle.rss_names.specs.declared.service.Target.{Target}
use Rattle.rss_names.specs.declared.service.Target.TheVariants.{Shard}
use Rattle.pipeline_lang.specs.declared.config.Config.{Config}
use Rattle.rss_wire.specs.Messages.{message_at, no_message}
use Rattle.rss_wire.specs.declared.message.Body.{Body}
use Rattle.rss_wire.specs.declared.message.Body.TheVariants as body
use Rattle.rss_wire.specs.declared.message.Message.{Message}
use Rattle.rss_wire.specs.declared.messages.Request.{Request}
use Rattle.rss_wire.specs.declared.messages.Request.TheVariants as request
use Rattle.rss_tables.specs.Lines.{Line, no_line}
use Rattle.rss_tables.specs.Outs.{Out, line_out, line_slot}
use Rattle.rss_tables.specs.SnapshotSession.{SnapSession}
use Rattle.rss_tables.specs.TransactionSession.{TxnSession}
use Rattle.rss_machine.specs.Effect.{least_shard}
use Rattle.rss_machine.specs.Moves.{ticks}
use Rattle.rss_machine.specs.State.{State, Owner, owner_at, no_owner, start}
use Rattle.rss_machine.specs.declared.session.Session.TheVariants as session
use Rattle.world_laws.proofs.Looks.{looks, some_is, none_is_not}
use Rattle.reg_laws.proofs.Awaiting.{current_more}
use Rattle.session_laws.specs.Awaits.{txn_awaits, snap_awaits}
use Rattle.shard_event_laws.specs.Events.{turned_owner, left_to_await, Turns, Launches, SendsAgain, SettlesTo, AwaitsNothing}
use Rattle.shard_event_laws.specs.Facts.{is_with_shards, current_at, no_out, NetGrows, OneOwner, Aside}
use Rattle.txn_state_laws.specs.Awaited.{IsExchange, LineAwaits, AllAwaited}
use Rattle.txn_state_laws.proofs.Grows.{txn_is, snap_is}
use Rattle.txn_session_laws.proofs.Currents.{exchange_later, line_later, exchange_sent, SlotAwaits, TurnAwaits, turn_lines}
use Rattle.txn_session_laws.proofs.FramedOwners.{one_cases, Stands, stays_with, stays_without, is_new, is_none, aside_cases, one_settling, txn_or_snap, txn_or_settling, snap_or_settling}
use Rattle.txn_session_laws.proofs.Framed.{not_with}
use Rattle.txn_session_laws.proofs.FramedTurns.{turned_session}
use Rattle.txn_session_laws.proofs.Starts.{none_there}

-- what an owner awaits
pub record OwnerAwaits (net : List Message) (o : ℕ) (w : Owner) : Type 0 where
  pub txn : (slot m : ℕ) (x : TxnSession) → w.session ≡ session.Transaction x → current_at w slot ≡ Some m → LineAwaits net o slot m x.lines (txn_awaits x x.phase)
  pub snap : (slot m : ℕ) (x : SnapSession) → w.session ≡ session.Snapshot x → current_at w slot ≡ Some m → LineAwaits net o slot m x.lines (snap_awaits x x.phase)
  pub stub : (slot m : ℕ) (a : Attempt) (shards : List ℕ) → w.session ≡ session.Settling a shards → current_at w slot ≡ Some m → IsExchange net m o (Shard (least_shard shards)) (request.Decide a false 0)

pub of_owner : (s : State) → AllAwaited s → (o : ℕ) → OwnerAwaits s.net o (owner_at s o)
of_owner s h o = record { txn = h.txn o; snap = h.snap o; stub = h.stub o }

pub all_owners : (s : State) → ((o : ℕ) → OwnerAwaits s.net o (owner_at s o)) → AllAwaited s
all_owners s h = record { txn = λ o. (h o).txn; snap = λ o. (h o).snap; stub = λ o. (h o).stub }

pub owner_later : (s t : State) (o : ℕ) (w : Owner) → NetGrows s t → OwnerAwaits s.net o w → OwnerAwaits t.net o w
owner_later s t o w g h = record {
  txn = λ slot m x e c. line_later s t o slot m x.lines (txn_awaits x x.phase) g (h.txn slot m x e c);
  snap = λ slot m x e c. line_later s t o slot m x.lines (snap_awaits x x.phase) g (h.snap slot m x e c);
  stub = λ slot m a shards e c. exchange_later s t m o (Shard (least_shard shards)) (request.Decide a false 0) g (h.stub slot m a shards e c);
}

-- an owner with nothing under way with shards awaits nothing of them
pub owner_without : (net : List Message) (o : ℕ) (w : Owner) → is_with_shards w.session ≡ false → OwnerAwaits net o w
owner_without net o w n = record {
  txn = λ slot m x e. absurd (not_with w.session (session.Transaction x) n refl e);
  snap = λ slot m x e. absurd (not_with w.session (session.Snapshot x) n refl e);
  stub = λ slot m a shards e. absurd (not_with w.session (session.Settling a shards) n refl e);
}

-- where one owner changes
pub awaited_one : (s t : State) (o : ℕ) (w : Owner) → NetGrows s t → OneOwner s t o w → OwnerAwaits t.net o w → AllAwaited s → AllAwaited t
awaited_one s t o w g one own h = all_owners t (λ i. by_cases i (one_cases s t o w one i))
  where
    by_cases : (i : ℕ) → ((owner_at t i ≡ w) × (i ≡ o)) ⊎ (owner_at t i ≡ owner_at s i) → OwnerAwaits t.net i (owner_at t i)
    by_cases i (inl e) = subst (OwnerAwaits t.net i) (sym e.0) (subst (λ (j : ℕ). OwnerAwaits t.net j w) (sym e.1) own)
    by_cases i (inr e) = subst (OwnerAwaits t.net i) (sym e) (owner_later s t i (owner_at s i) g (of_owner s h i))

-- where owners stay
pub awaited_stays : (s t : State) → NetGrows s t → t.owners ≡ s.owners → AllAwaited s → AllAwaited t
awaited_stays s t g e h = all_owners t (λ i. subst (OwnerAwaits t.net i) (sym (ap (λ (owners : List Owner). get_or owners i no_owner) e)) (owner_later s t i (owner_at s i) g (of_owner s h i)))

-- where nothing happens to transactions and snapshots, less is awaited
pub awaited_aside : (c : Config) (s t : State) → Aside c s t → AllAwaited s → AllAwaited t
awaited_aside c s t a h = all_owners t (λ o. by_cases o (aside_cases c s t a o))
  where
    by_cases : (o : ℕ) → Stands c s t o → OwnerAwaits t.net o (owner_at t o)
    by_cases o (stays_with b g) = owner_later s t o (owner_at t o) a.net (record {
      txn = λ slot m x e k. h.txn o slot m x (sym g.session ∙ e) (g.fewer slot m k);
      snap = λ slot m x e k. h.snap o slot m x (sym g.session ∙ e) (g.fewer slot m k);
      stub = λ slot m b shards e k. h.stub o slot m b shards (sym g.session ∙ e) (g.fewer slot m k);
    })
    by_cases o (stays_without b g) = owner_without t.net o (owner_at t o) g.none
    by_cases o (is_new b g) = owner_without t.net o (owner_at t o) g.none
    by_cases o (is_none b g) = owner_without t.net o (owner_at t o) (ap (λ (w : Owner). is_with_shards w.session) g)

-- a reply is sent
pub answered_grows : (s t : State) (x : Message) → t.net ≡ s.net ++ x ∷ [] → NetGrows s t
answered_grows s t x e = record {
  long = subst (λ (net : List Message). length s.net ≤ length net) (sym e) (longer s.net x);
  envelopes = λ m h. ap (λ (y : Message). y.envelope) (at m h);
  bodies = λ m h. ap (λ (y : Message). y.body) (at m h);
}
  where
    longer : (net : List Message) (x : Message) → length net ≤ length (net ++ x ∷ [])
    longer net x = let n : length (net ++ x ∷ []) ≡ length net + 1 = length-append net (x ∷ []) in omega (arith, n)

    before : (net : List Message) (x : Message) (m : ℕ) → m < length net → get_or (net ++ x ∷ []) m no_message ≡ get_or net m no_message
    before net x m h = grind (arith, looks, h)

    at : (m : ℕ) → m < length s.net → message_at t.net m ≡ message_at s.net m
    at m h = ap (λ (net : List Message). message_at net m) e ∙ before s.net x m h

-- a transaction takes a turn
pub awaited_txn : (s t : State) (o : ℕ) (anew : Bool) (cs : List (Option ℕ)) (outs : List Out) (end : Option ℕ) (x y : TxnSession) (l : Line) → 0 < length s.net → Turns s t o anew cs (session.Transaction y) outs end
    → TurnAwaits x.lines (txn_awaits x x.phase) l anew y.lines (txn_awaits y y.phase) outs end
    → ((slot m : ℕ) → get_or cs slot None ≡ Some m → LineAwaits s.net o slot m x.lines (txn_awaits x x.phase) × (slot ≡ line_slot l.shard → ⊥))
    → AllAwaited s → AllAwaited t
awaited_txn s t o anew cs outs end x y l f turns turn before h = awaited_one s t o (turned_owner s o (left_to_await anew cs) (session.Transaction y) outs end) turns.sends.grows turns.owned
    (record {
      txn = λ slot m z e c. subst (λ (v : TxnSession). LineAwaits t.net o slot m v.lines (txn_awaits v v.phase)) (txn_is y z (sym (turned_session s o _ _ outs end) ∙ e))
          (turn_lines s t o anew cs (session.Transaction y) outs end x.lines (txn_awaits x x.phase) l y.lines (txn_awaits y y.phase) f turns.sends turn before slot m c);
      snap = λ slot m z e. txn_or_snap _ y z (turned_session s o _ _ outs end) e;
      stub = λ slot m a shards e. txn_or_settling _ y a shards (turned_session s o _ _ outs end) e;
    }) h

-- so does a snapshot
pub awaited_snap : (s t : State) (o : ℕ) (anew : Bool) (cs : List (Option ℕ)) (outs : List Out) (end : Option ℕ) (x y : SnapSession) (l : Line) → 0 < length s.net → Turns s t o anew cs (session.Snapshot y) outs end
    → TurnAwaits x.lines (snap_awaits x x.phase) l anew y.lines (snap_awaits y y.phase) outs end
    → ((slot m : ℕ) → get_or cs slot None ≡ Some m → LineAwaits s.net o slot m x.lines (snap_awaits x x.phase) × (slot ≡ line_slot l.shard → ⊥))
    → AllAwaited s → AllAwaited t
awaited_snap s t o anew cs outs end x y l f turns turn before h = awaited_one s t o (turned_owner s o (left_to_await anew cs) (session.Snapshot y) outs end) turns.sends.grows turns.owned
    (record {
      txn = λ slot m z e. txn_or_snap _ z y e (turned_session s o _ _ outs end);
      snap = λ slot m z e c. subst (λ (v : SnapSession). LineAwaits t.net o slot m v.lines (snap_awaits v v.phase)) (snap_is y z (sym (turned_session s o _ _ outs end) ∙ e))
          (turn_lines s t o anew cs (session.Snapshot y) outs end x.lines (snap_awaits x x.phase) l y.lines (snap_awaits y y.phase) f turns.sends turn before slot m c);
      stub = λ slot m a shards e. snap_or_settling _ y a shards (turned_session s o _ _ outs end) e;
    }) h

-- an owner that has awaited nothing begins something
awaits_none : (lines : List Line) (awaits : Line → Option (Target × Request)) (outs : List Out)
    → ((i : ℕ) → i < length outs → (slot : ℕ) → (get_or outs i no_out).slot ≡ Some slot → SlotAwaits lines awaits slot (get_or outs i no_out).target (get_or outs i no_out).request)
    → TurnAwaits [] (λ l. None) no_line false lines awaits outs None
awaits_none lines awaits outs each = record { kept = λ g n place h. absurd (omega (arith, h)); sent = λ g. each }

pub awaited_begins : (s t : State) (o : ℕ) (outs : List Out) (x : TxnSession) → 0 < length s.net → Launches s t o (session.Transaction x) outs
    → ((i : ℕ) → i < length outs → (slot : ℕ) → (get_or outs i no_out).slot ≡ Some slot → SlotAwaits x.lines (txn_awaits x x.phase) slot (get_or outs i no_out).target (get_or outs i no_out).request)
    → AllAwaited s → AllAwaited t
awaited_begins s t o outs x f l each h = awaited_one s t o _ l.sends.grows l.owned
    (record {
      txn = λ slot m z e c. subst (λ (v : TxnSession). LineAwaits t.net o slot m v.lines (txn_awaits v v.phase)) (txn_is x z e)
          (turn_lines s t o false (owner_at s o).currents (session.Transaction x) outs None [] (λ k. None) no_line x.lines (txn_awaits x x.phase) f l.sends (awaits_none x.lines (txn_awaits x x.phase) outs each)
          (λ i n d. absurd (none_is_not n (sym (l.free i) ∙ d))) slot m c);
      snap = λ slot m z e. txn_or_snap _ x z refl e;
      stub = λ slot m a shards e. txn_or_settling _ x a shards refl e;
    }) h

pub awaited_begins_snap : (s t : State) (o : ℕ) (outs : List Out) (x : SnapSession) → 0 < length s.net → Launches s t o (session.Snapshot x) outs
    → ((i : ℕ) → i < length outs → (slot : ℕ) → (get_or outs i no_out).slot ≡ Some slot → SlotAwaits x.lines (snap_awaits x x.phase) slot (get_or outs i no_out).target (get_or outs i no_out).request)
    → AllAwaited s → AllAwaited t
awaited_begins_snap s t o outs x f l each h = awaited_one s t o _ l.sends.grows l.owned
    (record {
      txn = λ slot m z e. txn_or_snap _ z x e refl;
      snap = λ slot m z e c. subst (λ (v : SnapSession). LineAwaits t.net o slot m v.lines (snap_awaits v v.phase)) (snap_is x z e)
          (turn_lines s t o false (owner_at s o).currents (session.Snapshot x) outs None [] (λ k. None) no_line x.lines (snap_awaits x x.phase) f l.sends (awaits_none x.lines (snap_awaits x x.phase) outs each)
          (λ i n d. absurd (none_is_not n (sym (l.free i) ∙ d))) slot m c);
      stub = λ slot m a shards e. snap_or_settling _ x a shards refl e;
    }) h

-- a request is sent once more
same_request : (q r : Request) (x : Body) → x ≡ body.Request q → x ≡ body.Request r → q ≡ r
same_request q r x a b = cc

pub awaited_again : (s t : State) (o slot : ℕ) (target : Target) (r : Request) → 0 < length s.net → SendsAgain s t o slot target r → AllAwaited s → AllAwaited t
awaited_again s t o slot target r f again h = awaited_one s t o _ again.sends.grows again.owned
    (record {
      txn = λ i m x e c. by_line i m x.lines (txn_awaits x x.phase) (h.txn o slot again.exchange x e again.current) (λ k. h.txn o i m x e k) (current_more (owner_at s o).currents (Some slot) (length s.net) i m c);
      snap = λ i m x e c. by_line i m x.lines (snap_awaits x x.phase) (h.snap o slot again.exchange x e again.current) (λ k. h.snap o i m x e k) (current_more (owner_at s o).currents (Some slot) (length s.net) i m c);
      stub = λ i m a shards e c. by_stub i m a shards (h.stub o slot again.exchange a shards e again.current) (λ k. h.stub o i m a shards e k) (current_more (owner_at s o).currents (Some slot) (length s.net) i m c);
    }) h
  where
    anew : (asked : Target) (q : Request) → IsExchange s.net again.exchange o asked q → IsExchange t.net (length s.net) o asked q
    anew asked q e =
        let x : IsExchange t.net (length s.net + 0) o target r = exchange_sent s t o (record { slot = Some slot; target = target; request = r } ∷ []) 0 f again.sends (omega arith) in
        let n : length s.net + 0 ≡ length s.net = omega arith in
        let y : IsExchange t.net (length s.net) o target r = subst (λ (k : ℕ). IsExchange t.net k o target r) n x in
        let z : IsExchange t.net (length s.net) o asked r = subst (λ (k : Target). IsExchange t.net (length s.net) o k r) (sym again.to ∙ e.to) y in
        subst (IsExchange t.net (length s.net) o asked) (same_request r q (message_at s.net again.exchange).body again.asked e.asks) z

    by_line : (i m : ℕ) (lines : List Line) (awaits : Line → Option (Target × Request)) → LineAwaits s.net o slot again.exchange lines awaits → (current_at (owner_at s o) i ≡ Some m → LineAwaits s.net o i m lines awaits)
        → ((m ≡ length s.net) × (Some slot ≡ Some i)) ⊎ (current_at (owner_at s o) i ≡ Some m) → LineAwaits t.net o i m lines awaits
    by_line i m lines awaits a b (inl e) = record {
      place = a.place;
      inside = a.inside;
      of_line = sym (some_is slot i e.1) ∙ a.of_line;
      target = a.target;
      asked = a.asked;
      awaited = a.awaited;
      exchange = subst (λ (k : ℕ). IsExchange t.net k o a.target a.asked) (sym e.0) (anew a.target a.asked a.exchange);
    }
    by_line i m lines awaits a b (inr e) = line_later s t o i m lines awaits again.sends.grows (b e)

    by_stub : (i m : ℕ) (a : Attempt) (shards : List ℕ) → IsExchange s.net again.exchange o (Shard (least_shard shards)) (request.Decide a false 0) → (current_at (owner_at s o) i ≡ Some m → IsExchange s.net m o (Shard (least_shard shards)) (request.Decide a false 0))
        → ((m ≡ length s.net) × (Some slot ≡ Some i)) ⊎ (current_at (owner_at s o) i ≡ Some m) → IsExchange t.net m o (Shard (least_shard shards)) (request.Decide a false 0)
    by_stub i m a shards x b (inl e) = subst (λ (k : ℕ). IsExchange t.net k o (Shard (least_shard shards)) (request.Decide a false 0)) (sym e.0) (anew (Shard (least_shard shards)) (request.Decide a false 0) x)
    by_stub i m a shards x b (inr e) = exchange_later s t m o (Shard (least_shard shards)) (request.Decide a false 0) again.sends.grows (b e)

-- a stub goes on
pub awaited_asks : (s t : State) (o : ℕ) (a : Attempt) (shards : List ℕ) → 0 < length s.net → AwaitsNothing (owner_at s o) → SettlesTo s t o (session.Settling a shards) (line_out (least_shard shards) (request.Decide a false 0) ∷ []) → AllAwaited s → AllAwaited t
awaited_asks s t o a shards f free l h = awaited_one s t o l.owner l.sends.grows l.owned
    (record {
      txn = λ slot m x e. txn_or_settling l.owner.session x a shards e l.session;
      snap = λ slot m x e. snap_or_settling l.owner.session x a shards e l.session;
      stub = λ slot m b others e c. by_awaits slot m b others (one_settling l.owner.session a b shards others l.session e) (l.awaits slot m c);
    }) h
  where
    by_awaits : (slot m : ℕ) (b : Attempt) (others : List ℕ) → ◌≡◌ {A = Attempt × List ℕ} (a, shards) (b, others) → (current_at (owner_at s o) slot ≡ Some m) ⊎ (m ≡ length s.net) → IsExchange t.net m o (Shard (least_shard others)) (request.Decide b false 0)
    by_awaits slot m b others e (inl k) = absurd (none_is_not m (sym (free slot) ∙ k))
    by_awaits slot m b others e (inr k) =
        let x : IsExchange t.net (length s.net + 0) o (Shard (least_shard shards)) (request.Decide a false 0) = exchange_sent s t o (line_out (least_shard shards) (request.Decide a false 0) ∷ []) 0 f l.sends (omega arith) in
        let n : length s.net + 0 ≡ m = omega (arith, k) in
        subst (λ (y : Attempt × List ℕ). IsExchange t.net m o (Shard (least_shard y.1)) (request.Decide y.0 false 0)) e (subst (λ (j : ℕ). IsExchange t.net j o (Shard (least_shard shards)) (request.Decide a false 0)) n x)

pub awaited_tells : (s t : State) (o : ℕ) (outs : List Out) → SettlesTo s t o session.Idle outs → AllAwaited s → AllAwaited t
awaited_tells s t o outs l h = awaited_one s t o l.owner l.sends.grows l.owned (owner_without t.net o l.owner (ap is_with_shards l.session)) h

-- before the first step, and where a step is counted
pub awaited_start : (c : Config) → AllAwaited (start c)
awaited_start c = all_owners (start c) (λ o. owner_without (start c).net o (owner_at (start c) o) (ap (λ (w : Owner). is_with_shards w.session) (none_there c o)))

pub awaited_ticks : (s : State) (at : Reading) → AllAwaited s → AllAwaited (ticks s at)
awaited_ticks s at h = record { txn = h.txn; snap = h.snap; stub = h.stub }
