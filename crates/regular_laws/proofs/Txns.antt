-- Placed calls of transaction services: which calls they are, what they were shown and wrote, and whether they are mutations.
use Rattle.std.proofs.Common.{◌≡◌, ℕ, ◌<◌, Bool, true, false, List, [], ◌∷◌, Option, Some, None, refl, sym, ap, ◌∙◌, subst}
use Rattle.std.specs.Prelude.{◌&&◌, not, map, Contains}
use Rattle.std.proofs.lemmas.Bool.{true≢false}
use Rattle.rss_names.specs.declared.service.Key.{Key}
use Rattle.pipeline_lang.specs.declared.config.Config.{Config}
use Rattle.pipeline_lang.specs.declared.script.Compare.{Compare}
use Rattle.pipeline_lang.specs.declared.script.Expr.{Expr}
use Rattle.rss_model.specs.Formula.{formula_value}
use Rattle.rss_model.specs.History.{has_ended, op_of, reply_of}
use Rattle.rss_model.specs.Mutation.{is_mutation, has_failed}
use Rattle.rss_model.specs.Operation.{reads_of, writes_of, written_by, guard_holds, may_write, values_of}
use Rattle.rss_model.specs.declared.op.Op.{Op}
use Rattle.rss_model.specs.declared.op.Op.TheVariants as op
use Rattle.rss_model.specs.declared.op.Shown.{Shown}
use Rattle.rss_tables.specs.Lines.{Line, shown_on}
use Rattle.rss_tables.specs.RegisterSession.{phase_end}
use Rattle.rss_tables.specs.SnapshotSession.{SnapSession, snap_end}
use Rattle.rss_tables.specs.TransactionSession.{TxnSession, txn_end, shown_reply, guard_of, values_shown, computed, written_keys}
use Rattle.rss_tables.specs.declared.phases.TxnPhase.{TxnPhase}
use Rattle.rss_tables.specs.declared.phases.TxnPhase.TheVariants as phase
use Rattle.rss_tables.specs.declared.register_session.RegEnd.{RegEnd}
use Rattle.rss_tables.specs.declared.register_session.RegWork.{RegWork}
use Rattle.rss_machine.specs.Places.{commit_of, failed_time, txn_key, txn_key_of, session_key}
use Rattle.rss_machine.specs.Session.{Session}
use Rattle.rss_machine.specs.State.{State, owner_at}
use Rattle.rss_machine.specs.declared.place.PlaceKey.{PlaceKey}
use Rattle.rss_machine.specs.declared.session.OwnerKind.TheVariants as kind
use Rattle.rss_machine.specs.declared.session.Session.TheVariants as session
use Rattle.world_laws.specs.Calls.{Gave, HistoryTells, end_reply}
use Rattle.world_laws.proofs.Looks.{some_is, none_is_not}
use Rattle.txn_line_laws.specs.Line.{PlacedTxn, commits, fails, reads, TxnWrites, TxnsLegal}
use Rattle.txn_line_laws.proofs.Facts.{Facts}
use Rattle.txn_line_laws.proofs.Legal.{txns_legal}
use Rattle.txn_line_laws.proofs.Placed.{txn_keyed, snap_keyed, snap_done}
use Rattle.regular_laws.specs.Kept.{AreOnce}
use Rattle.regular_laws.proofs.Writes.{keys_of, has_value, is_written}

-- a placed call of a transaction service, with its key
pub record IsTxn (s : State) (o : ℕ) (k : PlaceKey) : Type 0 where
  pub time : ℕ
  pub only_reads : Bool
  pub keys : List Key
  pub lines : List Line
  pub placed : PlacedTxn s o time only_reads keys lines
  pub is_key : k ≡ txn_key s o only_reads time

-- what a call that has this under way was shown
abbrev pub given_by : RegWork → Option RegEnd → List Shown
given_by w None = []
given_by w (Some end) = end_reply w end

abbrev pub shown_in : Session → List Shown
shown_in (session.Register r) = given_by r.work (phase_end r.phase)
shown_in (session.Transaction t) = shown_reply t.reads t.lines
shown_in (session.Snapshot t) = shown_reply t.keys t.lines
shown_in session.Idle = []
shown_in (session.Fixing r) = []
shown_in (session.Settling attempt shards) = []

-- the operation of such a session
abbrev pub txn_op : TxnSession → Op
txn_op x = op.Txn x.reads x.guard x.writes

abbrev pub snap_op : SnapSession → Op
snap_op x = op.Snap x.keys

-- keys, values and writes of replies
pub reply_keys : (keys : List Key) (lines : List Line) → map (λ (x : Shown). x.key) (shown_reply keys lines) ≡ keys
reply_keys [] lines = refl
reply_keys (key ∷ keys) lines = ap (λ (ks : List Key). key ∷ ks) (reply_keys keys lines)

reply_values : (keys : List Key) (lines : List Line) → values_of (shown_reply keys lines) ≡ map (λ (key : Key). (shown_on lines key).value) keys
reply_values [] lines = refl
reply_values (key ∷ keys) lines = ap (λ (values : List ℕ). (shown_on lines key).value ∷ values) (reply_values keys lines)

pub txn_values : (x : TxnSession) → values_of (shown_reply x.reads x.lines) ≡ values_shown x
txn_values x = reply_values x.reads x.lines

guard_is : (keys : List Key) (guard : Option (Compare ℕ)) (writes : List (Key × Expr ℕ)) (values : List ℕ) → guard_holds (op.Txn keys guard writes) values ≡ guard_of guard values
guard_is keys None writes values = refl
guard_is keys (Some guard) writes values = refl

computed_keys : (writes : List (Key × Expr ℕ)) (values : List ℕ) → keys_of (map (λ (write : Key × Expr ℕ). (write.0, formula_value write.1 values)) writes) ≡ written_keys writes
computed_keys [] values = refl
computed_keys (write ∷ writes) values = ap (λ (keys : List Key). write.0 ∷ keys) (computed_keys writes values)

-- what it writes, where it was shown this
pub txn_writes : (x : TxnSession) → written_by (txn_op x) (values_of (shown_reply x.reads x.lines)) ≡ computed x
txn_writes x = ap (λ (values : List ℕ). map (λ (write : Key × Expr ℕ). (write.0, formula_value write.1 values)) x.writes) (txn_values x)

pub once_computed : (x : TxnSession) → AreOnce (writes_of (txn_op x)) → AreOnce (keys_of (computed x))
once_computed x h = subst AreOnce (sym (computed_keys x.writes (values_shown x))) h

failed_is : (p : TxnPhase) (time : ℕ) → failed_time p ≡ Some time → p ≡ phase.Failed time
failed_is (phase.Failed other) time e = ap (λ (n : ℕ). phase.Failed n) (some_is other time e)
failed_is (phase.Committed other) time e = absurd (none_is_not time e)
failed_is phase.Locking time e = absurd (none_is_not time e)
failed_is phase.Preparing time e = absurd (none_is_not time e)
failed_is (phase.Freeing other) time e = absurd (none_is_not time e)
failed_is (phase.FreeingLast other) time e = absurd (none_is_not time e)
failed_is (phase.Deciding other) time e = absurd (none_is_not time e)
failed_is (phase.Waiting other) time e = absurd (none_is_not time e)
failed_is phase.Undoing time e = absurd (none_is_not time e)

-- a call that has a key is placed
pub txn_placed : (s : State) (o : ℕ) (k : PlaceKey) (x : TxnSession) → (owner_at s o).session ≡ session.Transaction x → session_key s o (owner_at s o).session ≡ Some k → IsTxn s o k
txn_placed s o k x e f = by_commit (commit_of s x) refl
  where
    by_failed : commit_of s x ≡ None → (m : Option ℕ) → failed_time x.phase ≡ m → txn_key_of s o true m ≡ Some k → IsTxn s o k
    by_failed c None g h = absurd (none_is_not k h)
    by_failed c (Some time) g h = record { time = time; only_reads = true; keys = x.reads; lines = x.lines; placed = fails x time e (failed_is x.phase time g); is_key = sym (some_is _ k h) }

    by_commit : (m : Option ℕ) → commit_of s x ≡ m → IsTxn s o k
    by_commit None c = by_failed c (failed_time x.phase) refl (sym (txn_keyed s o x None e c) ∙ f)
    by_commit (Some time) c = record { time = time; only_reads = false; keys = x.reads; lines = x.lines; placed = commits x time e c; is_key = sym (some_is _ k (sym (txn_keyed s o x (Some time) e c) ∙ f)) }

pub snap_placed : (s : State) (o : ℕ) (k : PlaceKey) (x : SnapSession) → (owner_at s o).session ≡ session.Snapshot x → session_key s o (owner_at s o).session ≡ Some k → IsTxn s o k
snap_placed s o k x e f = by_end (snap_end x.phase) refl (sym (snap_keyed s o x e) ∙ f)
  where
    by_end : (m : Option ℕ) → snap_end x.phase ≡ m → txn_key_of s o true m ≡ Some k → IsTxn s o k
    by_end None g h = absurd (none_is_not k h)
    by_end (Some time) g h = record { time = time; only_reads = true; keys = x.keys; lines = x.lines; placed = reads x time e (snap_done x.phase time g); is_key = sym (some_is _ k h) }

-- its operation
pub record TxnOp (s : State) (o : ℕ) (keys : List Key) : Type 0 where
  pub op : Op
  pub of_kind : (owner_at s o).kind ≡ kind.Calling op
  pub of_keys : reads_of op ≡ keys
  pub numbered : 0 < o

-- a placed call has written a key
pub record TxnWrote (s : State) (o : ℕ) (k : PlaceKey) (key : Key) : Type 0 where
  pub value : ℕ
  pub time : ℕ
  pub writes : TxnWrites s o key value time
  pub is_key : k ≡ txn_key s o false time

module _ (c : Config) (s : State) (h : Facts c s) (told : HistoryTells s) where
  pub legal : TxnsLegal s
  legal = txns_legal c s h

  pub op_is : (o time : ℕ) (only_reads : Bool) (keys : List Key) (lines : List Line) → PlacedTxn s o time only_reads keys lines → TxnOp s o keys
  op_is o _ _ _ _ (commits x time e f) = let k = h.framed.txn o x e in record { op = txn_op x; of_kind = k.of_kind; of_keys = refl; numbered = k.numbered }
  op_is o _ _ _ _ (fails x time e p) = let k = h.framed.txn o x e in record { op = txn_op x; of_kind = k.of_kind; of_keys = refl; numbered = k.numbered }
  op_is o _ _ _ _ (reads x time e p) = let k = h.framed.snap o x e in record { op = snap_op x; of_kind = k.of_kind; of_keys = refl; numbered = k.numbered }

  -- what it was shown
  pub was_shown : (o time : ℕ) (only_reads : Bool) (keys : List Key) (lines : List Line) → PlacedTxn s o time only_reads keys lines → shown_in (owner_at s o).session ≡ shown_reply keys lines
  was_shown o _ _ _ _ (commits x time e f) = ap shown_in e
  was_shown o _ _ _ _ (fails x time e p) = ap shown_in e
  was_shown o _ _ _ _ (reads x time e p) = ap shown_in e

  -- one that only reads has ended
  pub reads_ended : (o time : ℕ) (keys : List Key) (lines : List Line) → PlacedTxn s o time true keys lines → has_ended s.history o ≡ true
  reads_ended o _ _ _ (fails x time e p) = told.ended o (txn_op x) (h.framed.txn o x e).of_kind (h.dated.over o time x e (ap txn_end p))
  reads_ended o _ _ _ (reads x time e p) = told.ended o (snap_op x) (h.framed.snap o x e).of_kind (h.dated.snap_over o time x e (ap snap_end p))

  -- a committed transaction is a mutation, whose guard holds of what it was shown
  pub guard_held : (o time : ℕ) (x : TxnSession) → (owner_at s o).session ≡ session.Transaction x → commit_of s x ≡ Some time → guard_holds (txn_op x) (values_of (shown_reply x.reads x.lines)) ≡ true
  guard_held o time x e f = guard_is x.reads x.guard x.writes (values_of (shown_reply x.reads x.lines)) ∙ (ap (guard_of x.guard) (txn_values x) ∙ legal.held o time x e f)

  guard_failed : (o time : ℕ) (x : TxnSession) → (owner_at s o).session ≡ session.Transaction x → x.phase ≡ phase.Failed time → guard_holds (txn_op x) (values_of (shown_reply x.reads x.lines)) ≡ false
  guard_failed o time x e f = guard_is x.reads x.guard x.writes (values_of (shown_reply x.reads x.lines)) ∙ (ap (guard_of x.guard) (txn_values x) ∙ legal.failed o time x e f)

  -- what a transaction replied is what it was shown
  replied : (o : ℕ) (x : TxnSession) → (owner_at s o).session ≡ session.Transaction x → has_ended s.history o ≡ true → reply_of s.history o ≡ shown_reply x.reads x.lines
  replied o x e d = subst (λ (y : Session). Gave y (reply_of s.history o)) e (told.replied o d).gave

  failed_with : (o : ℕ) (x : TxnSession) → (owner_at s o).session ≡ session.Transaction x → (b : Bool) → has_ended s.history o ≡ b → (g : Bool) → guard_holds (txn_op x) (values_of (shown_reply x.reads x.lines)) ≡ g → has_failed s.history o ≡ (b && not g)
  failed_with o x e false d g f = ap (λ (b : Bool). b && not (guard_holds (op_of s.history o) (values_of (reply_of s.history o)))) d
  failed_with o x e true d g f =
      let k = h.framed.txn o x e in
      ap (λ (b : Bool). b && not (guard_holds (op_of s.history o) (values_of (reply_of s.history o)))) d
      ∙ (ap (λ (y : Op). not (guard_holds y (values_of (reply_of s.history o)))) (told.op o (txn_op x) k.of_kind)
      ∙ (ap (λ (y : List Shown). not (guard_holds (txn_op x) (values_of y))) (replied o x e d) ∙ ap not f))

  mutates_with : (o : ℕ) (x : TxnSession) → (owner_at s o).session ≡ session.Transaction x → (b : Bool) → has_failed s.history o ≡ b → is_mutation s.history o ≡ not b
  mutates_with o x e b d = ap (λ (y : Op). may_write y && not (has_failed s.history o)) (told.op o (txn_op x) (h.framed.txn o x e).of_kind) ∙ ap not d

  and_false : (b : Bool) → (b && false) ≡ false
  and_false true = refl
  and_false false = refl

  pub commit_mutates : (o time : ℕ) (x : TxnSession) → (owner_at s o).session ≡ session.Transaction x → commit_of s x ≡ Some time → is_mutation s.history o ≡ true
  commit_mutates o time x e f = mutates_with o x e false (failed_with o x e (has_ended s.history o) refl true (guard_held o time x e f) ∙ and_false (has_ended s.history o))

  pub reads_mutate_not : (o time : ℕ) (keys : List Key) (lines : List Line) → PlacedTxn s o time true keys lines → is_mutation s.history o ≡ false
  reads_mutate_not o _ _ _ (fails x time e p) =
      let d = reads_ended o time x.reads x.lines (fails x time e p) in
      mutates_with o x e true (failed_with o x e true d false (guard_failed o time x e p))
  reads_mutate_not o _ _ _ (reads x time e p) = ap (λ (y : Op). may_write y && not (has_failed s.history o)) (told.op o (snap_op x) (h.framed.snap o x e).of_kind)

  pub txn_wrote : (o : ℕ) (k : PlaceKey) (key : Key) → IsTxn s o k → is_mutation s.history o ≡ true → Contains (writes_of (op_of s.history o)) key → TxnWrote s o k key
  txn_wrote o k key p m w = by_placed p.time p.only_reads p.keys p.lines p.placed p.is_key
    where
      by_placed : (time : ℕ) (only_reads : Bool) (keys : List Key) (lines : List Line) → PlacedTxn s o time only_reads keys lines → k ≡ txn_key s o only_reads time → TxnWrote s o k key
      by_placed _ _ _ _ (fails x time e q) i = absurd (true≢false (sym m ∙ reads_mutate_not o time x.reads x.lines (fails x time e q)))
      by_placed _ _ _ _ (reads x time e q) i = absurd (true≢false (sym m ∙ reads_mutate_not o time x.keys x.lines (reads x time e q)))
      by_placed _ _ _ _ (commits x time e f) i =
          let a : Contains (written_keys x.writes) key = subst (λ (y : Op). Contains (writes_of y) key) (told.op o (txn_op x) (h.framed.txn o x e).of_kind) w in
          let v = has_value (computed x) key (subst (λ (ks : List Key). Contains ks key) (sym (computed_keys x.writes (values_shown x))) a) in
          record { value = v.0; time = time; writes = record { txn = x; under_way = e; committed = f; writes = v.1 }; is_key = i }

  -- a committed transaction that writes a key writes it by its operation
  pub wrote_by : (w : ℕ) (key : Key) (value time : ℕ) → TxnWrites s w key value time → Contains (writes_of (op_of s.history w)) key
  wrote_by w key value time x =
      subst (λ (y : Op). Contains (writes_of y) key) (sym (told.op w (txn_op x.txn) (h.framed.txn w x.txn x.under_way).of_kind))
      (subst (λ (ks : List Key). Contains ks key) (computed_keys x.txn.writes (values_shown x.txn)) (is_written (computed x.txn) key value x.writes))
