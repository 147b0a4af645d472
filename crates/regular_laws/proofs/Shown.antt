-- Each placed call was shown, of each key that it reads, what the last placed call before it that writes the key wrote.
use Rattle.std.proofs.Common.{◌≡◌, ℕ, ◌⊎◌, inl, inr, Bool, true, false, List, [], ◌∷◌, Some, refl, sym, ap, ◌∙◌, subst}
use Rattle.std.specs.Prelude.{Contains, if◌then◌else◌}
use Rattle.std.proofs.lemmas.Bool.{true≢false, cases_eq}
use Rattle.rss_names.specs.declared.service.Key.{Key}
use Rattle.rss_names.specs.declared.service.ServiceId.{ServiceId}
use Rattle.rss_names.specs.declared.service.ServiceId.TheVariants.{Txn, Reg}
use Rattle.pipeline_lang.specs.declared.config.Config.{Config}
use Rattle.rss_model.specs.History.{op_of}
use Rattle.rss_model.specs.Legal.{opening_table, shown_after}
use Rattle.rss_model.specs.Mutation.{is_mutation}
use Rattle.rss_model.specs.Operation.{writes_of, written_by, values_of}
use Rattle.rss_model.specs.declared.history.Entry.{Entry}
use Rattle.rss_model.specs.declared.op.Op.{Op}
use Rattle.rss_model.specs.declared.op.Op.TheVariants as op
use Rattle.rss_model.specs.declared.op.Shown.{Shown}
use Rattle.rss_wire.specs.declared.messages.Version.{Version}
use Rattle.rss_tables.specs.Lines.{Line, shown_on}
use Rattle.rss_tables.specs.TransactionSession.{TxnSession, computed, shown_reply}
use Rattle.rss_machine.specs.Places.{keyed_calls, key_lt, txn_key, commit_of}
use Rattle.rss_machine.specs.Session.{Session}
use Rattle.rss_machine.specs.State.{State, owner_at}
use Rattle.rss_machine.specs.declared.place.KeyedCall.{KeyedCall}
use Rattle.rss_machine.specs.declared.place.PlaceKey.{PlaceKey}
use Rattle.rss_machine.specs.declared.session.OwnerKind.TheVariants as kind
use Rattle.rss_machine.specs.declared.session.Session.TheVariants as session
use Rattle.rss_machine.specs.declared.step.Step.{Step}
use Rattle.order_laws.specs.ByKeys.{IsShownByKeys, written, opening}
use Rattle.order_laws.specs.LastWriter.{Writes, shown_by_writer}
use Rattle.order_laws.proofs.Keys.{same_key-itself}
use Rattle.world_laws.specs.Registers.{IsRegister}
use Rattle.reg_laws.specs.Line.{write_key, read_key, BeforeWrites, WriterBefore}
use Rattle.txn_line_laws.specs.Line.{PlacedTxn, commits, fails, reads, writer_key, BeforeWriters, WriterBefore as TxnBefore}
use Rattle.place_laws.proofs.Ended.{IsThere}
use Rattle.place_laws.proofs.KeyOrder.{key_one_way}
use Rattle.place_laws.proofs.KeyedCalls.{one_each}
use Rattle.place_laws.proofs.Placed.{IsReader}
use Rattle.place_laws.proofs.SortedKeys.{Below}
use Rattle.regular_laws.proofs.Calls.{IsPlaced, RegWrote, shown_to, shown_of, placed, says_of, writer_given, reader_given, txn_given, reader_mutates_not, writer_mutates, reg_wrote}
use Rattle.regular_laws.proofs.Done.{placed_kind, placed_there, txn_there}
use Rattle.regular_laws.proofs.Known.{Known}
use Rattle.regular_laws.proofs.Txns.{IsTxn, TxnWrote, shown_in, txn_op, txn_writes, once_computed, legal, commit_mutates, reads_mutate_not, txn_wrote, wrote_by}
use Rattle.regular_laws.proofs.Writes.{head_or_tail, in_head, in_tail, in_none, contains_has, left_by}

abbrev pub call_of : KeyedCall → ℕ
call_of k = k.call

txn_not_reg : (m n : ℕ) (id : ServiceId) → id ≡ Txn m → id ≡ Reg n → ⊥
txn_not_reg m n id e f = cc

-- what is shown of a key in a reply
abbrev pub one_shown : List Line → Key → Shown
one_shown lines key = record { key = key; value = (shown_on lines key).value; writer = (shown_on lines key).writer }

pub in_reply : (keys : List Key) (lines : List Line) (x : Shown) → Contains (shown_reply keys lines) x → (key : Key) × Contains keys key × (one_shown lines key ≡ x)
in_reply [] lines x m = absurd (in_none x m)
in_reply (key ∷ keys) lines x m = by_place (head_or_tail (one_shown lines key) (shown_reply keys lines) x m) (in_reply keys lines x)
  where
    by_place : (one_shown lines key ≡ x) ⊎ Contains (shown_reply keys lines) x → (Contains (shown_reply keys lines) x → (k : Key) × Contains keys k × (one_shown lines k ≡ x)) → (k : Key) × Contains (key ∷ keys) k × (one_shown lines k ≡ x)
    by_place (inl e) ih = (key, in_head key keys key refl, e)
    by_place (inr n) ih = let y = ih n in (y.0, in_tail key keys y.0 y.1, y.2)

module _ (c : Config) (steps : List Step) (s : State) (known : Known c steps s) where
  abbrev h : List Entry
  h = s.history

  abbrev things : List KeyedCall
  things = keyed_calls s

  -- the keys of a placed call of a transaction service are of that service
  pub keys_of_txn : (o time : ℕ) (only_reads : Bool) (keys : List Key) (lines : List Line) → PlacedTxn s o time only_reads keys lines → (number : ℕ) × ((key : Key) → Contains keys key → key.service ≡ Txn number)
  keys_of_txn o _ _ _ _ (commits x time e f) = let k = known.kept.each o (txn_op x) (known.txns.framed.txn o x e).of_kind in (k.number, k.reads)
  keys_of_txn o _ _ _ _ (fails x time e p) = let k = known.kept.each o (txn_op x) (known.txns.framed.txn o x e).of_kind in (k.number, k.reads)
  keys_of_txn o _ _ _ _ (reads x time e p) = let k = known.kept.each o (op.Snap x.keys) (known.txns.framed.snap o x e).of_kind in (k.number, k.reads)

  -- who writes a register is a placed write of it
  pub wrote_register : (o : ℕ) (k : PlaceKey) (key : Key) → IsPlaced s o k → IsRegister c key → Writes h o key → RegWrote s o k key
  wrote_register o k key (inl w) i x = reg_wrote c steps s known o k key w x.written
  wrote_register o k key (inr (inl r)) i x = absurd (true≢false (sym x.mutates ∙ reader_mutates_not c steps s known o k r))
  wrote_register o k key (inr (inr t)) i x = by_placed t.time t.only_reads t.keys t.lines t.placed
    where
      by_placed : (time : ℕ) (only_reads : Bool) (keys : List Key) (lines : List Line) → PlacedTxn s o time only_reads keys lines → RegWrote s o k key
      by_placed _ _ _ _ (commits y time e f) =
          let d = (known.txns.framed.txn o y e).of_kind in
          let g = known.kept.each o (txn_op y) d in
          absurd (txn_not_reg g.number i.number key.service (g.writes key (subst (λ (z : Op). Contains (writes_of z) key) (says_of c steps s known o (txn_op y) d).op x.written)) i.is)
      by_placed _ _ _ _ (fails y time e p) = absurd (true≢false (sym x.mutates ∙ reads_mutate_not c s known.txns known.told o time y.reads y.lines (fails y time e p)))
      by_placed _ _ _ _ (reads y time e p) = absurd (true≢false (sym x.mutates ∙ reads_mutate_not c s known.txns known.told o time y.keys y.lines (reads y time e p)))

  -- and who writes a key of a transaction service is a committed transaction
  pub wrote_key : (o : ℕ) (k : PlaceKey) (key : Key) (m : ℕ) → IsPlaced s o k → key.service ≡ Txn m → Writes h o key → TxnWrote s o k key
  wrote_key o k key m (inl w) i x =
      let y = reg_wrote c steps s known o k key w x.written in
      let g = known.served.each o (op.Write key y.value) (placed_kind c steps s known o key y.value y.stamp y.write) in
      absurd (txn_not_reg m g.number key.service i g.is)
  wrote_key o k key m (inr (inl r)) i x = absurd (true≢false (sym x.mutates ∙ reader_mutates_not c steps s known o k r))
  wrote_key o k key m (inr (inr t)) i x = txn_wrote c s known.txns known.told o k key t x.mutates x.written

  -- a read of a register
  module _ (y : KeyedCall) (r : IsReader s y.call y.key) where
    register : IsRegister c r.key
    register = known.served.each y.call (op.Read r.key) r.of_kind

    not_below : (o : KeyedCall) (w : RegWrote s o.call o.key r.key) → key_lt (read_key s y.call r.key r.cell.stamp) (write_key s o.call r.key w.stamp) ≡ true → Below o y → ⊥
    not_below o w l b = key_one_way o.key y.key b (subst (λ (x : PlaceKey). key_lt y.key x ≡ true) (sym w.is_key) (subst (λ (x : PlaceKey). key_lt x (write_key s o.call r.key w.stamp) ≡ true) (sym r.is_key) l))

    by_opening : BeforeWrites s y.call r.key r.cell → IsShownByKeys call_of Below h (shown_to s) things y (shown_of r.key r.cell)
    by_opening b = opening none (ap (shown_of r.key) b.opening)
      where
        none : (o : KeyedCall) → Contains things o → Writes h o.call r.key → Below o y → ⊥
        none o m w l = let x = wrote_register o.call o.key r.key (placed c steps s known o m) register w in not_below o x (b.others o.call x.value x.stamp x.write) l

    by_writer : WriterBefore s y.call r.key r.cell → IsShownByKeys call_of Below h (shown_to s) things y (shown_of r.key r.cell)
    by_writer b = written {writer = w.call} w.there w.is_call below (record { mutates = mutates; written = names }) last same
      where
        w : IsThere s r.cell.writer (write_key s r.cell.writer r.key r.cell.stamp)
        w = placed_there c steps s known r.cell.writer r.key r.cell.value r.cell.stamp b.placed

        of_kind : (owner_at s r.cell.writer).kind ≡ kind.Calling (op.Write r.key r.cell.value)
        of_kind = placed_kind c steps s known r.cell.writer r.key r.cell.value r.cell.stamp b.placed

        mutates : is_mutation h r.cell.writer ≡ true
        mutates = writer_mutates c steps s known r.cell.writer (write_key s r.cell.writer r.key r.cell.stamp) (record { key = r.key; value = r.cell.value; stamp = r.cell.stamp; placed = b.placed; of_kind = of_kind; is_key = refl })

        below : Below w.call y
        below = subst (λ (x : PlaceKey). key_lt x y.key ≡ true) (sym w.is_key) (subst (λ (x : PlaceKey). key_lt (write_key s r.cell.writer r.key r.cell.stamp) x ≡ true) (sym r.is_key) b.before)

        names : Contains (writes_of (op_of h r.cell.writer)) r.key
        names = subst (λ (x : Op). Contains (writes_of x) r.key) (sym (says_of c steps s known r.cell.writer _ of_kind).op) (in_head r.key [] r.key refl)

        by_others : (o : KeyedCall) (x : RegWrote s o.call o.key r.key) → Below o y → (key_lt (write_key s o.call r.key x.stamp) (write_key s r.cell.writer r.key r.cell.stamp) ≡ true) ⊎ (key_lt (read_key s y.call r.key r.cell.stamp) (write_key s o.call r.key x.stamp) ≡ true) → Below o w.call
        by_others o x l (inl a) = subst (λ (k : PlaceKey). key_lt o.key k ≡ true) (sym w.is_key) (subst (λ (k : PlaceKey). key_lt k (write_key s r.cell.writer r.key r.cell.stamp) ≡ true) (sym x.is_key) a)
        by_others o x l (inr a) = absurd (not_below o x a l)

        last : (o : KeyedCall) → Contains things o → Writes h o.call r.key → Below o y → (o.call ≡ r.cell.writer) ⊎ Below o w.call
        last o m d l = by_call (cases_eq o.call r.cell.writer)
          where
            by_call : (o.call ≡ r.cell.writer) ⊎ (o.call ≡ r.cell.writer → ⊥) → (o.call ≡ r.cell.writer) ⊎ Below o w.call
            by_call (inl a) = inl a
            by_call (inr a) = let x = wrote_register o.call o.key r.key (placed c steps s known o m) register d in inr (by_others o x l (b.others o.call x.value x.stamp x.write a))

        same : shown_of r.key r.cell ≡ shown_by_writer h (shown_to s) r.cell.writer r.key
        same =
            ap (λ (t : Bool). if t then shown_of r.key r.cell else opening_table r.key) (sym (same_key-itself r.key))
            ∙ ap (λ (x : Op). shown_after (opening_table r.key) r.cell.writer (written_by x (values_of (shown_to s r.cell.writer)))) (sym (says_of c steps s known r.cell.writer _ of_kind).op)

    shown_rightly : BeforeWrites s y.call r.key r.cell ⊎ WriterBefore s y.call r.key r.cell → IsShownByKeys call_of Below h (shown_to s) things y (shown_of r.key r.cell)
    shown_rightly (inl b) = by_opening b
    shown_rightly (inr b) = by_writer b

  -- a call of a transaction service
  module _ (y : KeyedCall) (yes : Contains things y) (t : IsTxn s y.call y.key) (key : Key) (m : ℕ) (service : key.service ≡ Txn m) where
    abbrev v : Version
    v = shown_on t.lines key

    -- another call that writes the key
    other_wrote : (o : KeyedCall) → Contains things o → Writes h o.call key → TxnWrote s o.call o.key key
    other_wrote o n w = wrote_key o.call o.key key m (placed c steps s known o n) service w

    above : (o : KeyedCall) (x : TxnWrote s o.call o.key key) → key_lt (txn_key s y.call t.only_reads t.time) (writer_key s o.call x.time) ≡ true → Below o y → ⊥
    above o x l b = key_one_way o.key y.key b (subst (λ (k : PlaceKey). key_lt y.key k ≡ true) (sym x.is_key) (subst (λ (k : PlaceKey). key_lt k (writer_key s o.call x.time) ≡ true) (sym t.is_key) l))

    itself : (o : KeyedCall) → Contains things o → o.call ≡ y.call → Below o y → ⊥
    itself o n e b = key_one_way o.key y.key b (subst (λ (k : KeyedCall). key_lt y.key k.key ≡ true) (sym (one_each s o y n yes e)) (subst (λ (k : KeyedCall). key_lt k.key y.key ≡ true) (one_each s o y n yes e) b))

    txn_opening : BeforeWriters s y.call t.time t.only_reads key (shown_on t.lines key) → IsShownByKeys call_of Below h (shown_to s) things y (one_shown t.lines key)
    txn_opening b = opening none (ap (λ (x : Version). record { key = key; value = x.value; writer = x.writer }) b.opening)
      where
        none : (o : KeyedCall) → Contains things o → Writes h o.call key → Below o y → ⊥
        none o n w l = by_call (cases_eq o.call y.call)
          where
            by_call : (o.call ≡ y.call) ⊎ (o.call ≡ y.call → ⊥) → ⊥
            by_call (inl e) = itself o n e l
            by_call (inr d) = let x = other_wrote o n w in above o x (b.others o.call x.value x.time x.writes d) l

    txn_writer : TxnBefore s y.call t.time t.only_reads key (shown_on t.lines key) → IsShownByKeys call_of Below h (shown_to s) things y (one_shown t.lines key)
    txn_writer b = written {writer = w.call} w.there w.is_call below (record { mutates = commit_mutates c s known.txns known.told v.writer v.time x e f; written = wrote_by c s known.txns known.told v.writer key v.value v.time b.written }) last same
      where
        x : TxnSession
        x = b.written.txn

        e : (owner_at s v.writer).session ≡ session.Transaction x
        e = b.written.under_way

        f : commit_of s x ≡ Some v.time
        f = b.written.committed

        w : IsThere s v.writer (writer_key s v.writer v.time)
        w = txn_there c steps s known v.writer v.time false x.reads x.lines (commits x v.time e f)

        below : Below w.call y
        below = subst (λ (k : PlaceKey). key_lt k y.key ≡ true) (sym w.is_key) (subst (λ (k : PlaceKey). key_lt (writer_key s v.writer v.time) k ≡ true) (sym t.is_key) b.before)

        last : (o : KeyedCall) → Contains things o → Writes h o.call key → Below o y → (o.call ≡ v.writer) ⊎ Below o w.call
        last o n d l = by_call (cases_eq o.call v.writer) (cases_eq o.call y.call)
          where
            by_others : (z : TxnWrote s o.call o.key key) → (key_lt (writer_key s o.call z.time) (writer_key s v.writer v.time) ≡ true) ⊎ (key_lt (txn_key s y.call t.only_reads t.time) (writer_key s o.call z.time) ≡ true) → Below o w.call
            by_others z (inl a) = subst (λ (k : PlaceKey). key_lt o.key k ≡ true) (sym w.is_key) (subst (λ (k : PlaceKey). key_lt k (writer_key s v.writer v.time) ≡ true) (sym z.is_key) a)
            by_others z (inr a) = absurd (above o z a l)

            by_call : (o.call ≡ v.writer) ⊎ (o.call ≡ v.writer → ⊥) → (o.call ≡ y.call) ⊎ (o.call ≡ y.call → ⊥) → (o.call ≡ v.writer) ⊎ Below o w.call
            by_call (inl a) q = inl a
            by_call (inr a) (inl q) = absurd (itself o n q l)
            by_call (inr a) (inr q) = let z = other_wrote o n d in inr (by_others z (b.others o.call z.value z.time z.writes a q))

        of_kind : (owner_at s v.writer).kind ≡ kind.Calling (txn_op x)
        of_kind = (known.txns.framed.txn v.writer x e).of_kind

        same : one_shown t.lines key ≡ shown_by_writer h (shown_to s) v.writer key
        same =
            sym (left_by (computed x) key v.value 0 0 v.writer b.written.writes (once_computed x (known.kept.each v.writer (txn_op x) of_kind).once))
            ∙ (ap (shown_after (opening_table key) v.writer) (sym (txn_writes x))
            ∙ (ap (λ (z : Session). shown_after (opening_table key) v.writer (written_by (txn_op x) (values_of (shown_in z)))) (sym e)
            ∙ ap (λ (z : Op). shown_after (opening_table key) v.writer (written_by z (values_of (shown_to s v.writer)))) (sym (says_of c steps s known v.writer (txn_op x) of_kind).op)))

    txn_rightly : BeforeWriters s y.call t.time t.only_reads key (shown_on t.lines key) ⊎ TxnBefore s y.call t.time t.only_reads key (shown_on t.lines key) → IsShownByKeys call_of Below h (shown_to s) things y (one_shown t.lines key)
    txn_rightly (inl b) = txn_opening b
    txn_rightly (inr b) = txn_writer b

  pub shown_by : (y : KeyedCall) (x : Shown) → Contains things y → IsPlaced s y.call y.key → Contains (shown_to s y.call) x → IsShownByKeys call_of Below h (shown_to s) things y x
  shown_by y x n (inl w) m = absurd (in_none x (subst (λ (xs : List Shown). Contains xs x) (writer_given c steps s known y.call y.key w) m))
  shown_by y x n (inr (inl r)) m = by_place (head_or_tail (shown_of r.key r.cell) [] x (subst (λ (xs : List Shown). Contains xs x) (reader_given c steps s known y.call y.key r) m))
    where
      by_place : (shown_of r.key r.cell ≡ x) ⊎ Contains [] x → IsShownByKeys call_of Below h (shown_to s) things y x
      by_place (inl e) = subst (IsShownByKeys call_of Below h (shown_to s) things y) e (shown_rightly y r (known.legal.read y.call r.key r.cell r.dep r.read))
      by_place (inr e) = absurd (in_none x e)
  shown_by y x n (inr (inr t)) m =
      let z = in_reply t.keys t.lines x (subst (λ (xs : List Shown). Contains xs x) (txn_given c steps s known y.call y.key t) m) in
      let g = keys_of_txn y.call t.time t.only_reads t.keys t.lines t.placed in
      subst (IsShownByKeys call_of Below h (shown_to s) things y) z.2
      (txn_rightly y n t z.0 g.0 (g.1 z.0 z.1) ((legal c s known.txns known.told).shown y.call t.time t.only_reads t.keys t.lines t.placed z.0 (contains_has t.keys z.0 z.1)))
