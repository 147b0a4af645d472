-- Placed calls: register calls, and calls of transaction services; what they were shown, and whether they are mutations.
use Rattle.std.proofs.Common.{◌≡◌, ℕ, ◌<◌, ◌⊎◌, inl, inr, Bool, true, false, List, [], ◌∷◌, length, Option, Some, None, refl, sym, ap, ◌∙◌, subst}
use Rattle.std.specs.Prelude.{IsTrue, IsFalse, Contains, map}
use Rattle.std.proofs.lemmas.Bool.{true≢false}
use Rattle.rss_names.specs.declared.service.Key.{Key}
use Rattle.carstamps.specs.declared.carstamp.Carstamp.{Carstamp}
use Rattle.pipeline_lang.specs.declared.config.Config.{Config}
use Rattle.rss_model.specs.History.{has_begun, has_ended, op_of, reply_of}
use Rattle.rss_model.specs.Mutation.{is_mutation}
use Rattle.rss_model.specs.Operation.{reads_of, writes_of, guard_holds, values_of}
use Rattle.rss_model.specs.declared.history.Entry.{Entry}
use Rattle.rss_model.specs.declared.op.Op.{Op}
use Rattle.rss_model.specs.declared.op.Op.TheVariants as op
use Rattle.rss_model.specs.declared.op.Shown.{Shown}
use Rattle.rss_wire.specs.declared.messages.RegReply.{RegReply}
use Rattle.rss_tables.specs.Lines.{Line}
use Rattle.rss_tables.specs.RegisterSession.{phase_end}
use Rattle.rss_tables.specs.TransactionSession.{shown_reply}
use Rattle.rss_tables.specs.declared.register_session.RegEnd.{RegEnd}
use Rattle.rss_tables.specs.declared.register_session.RegPhase.{RegPhase}
use Rattle.rss_tables.specs.declared.register_session.RegWork.{RegWork}
use Rattle.rss_tables.specs.declared.register_session.RegWork.TheVariants as work
use Rattle.rss_machine.specs.Places.{session_key, keyed_at, keyed_calls, has_ended as is_over}
use Rattle.rss_machine.specs.Session.{Session}
use Rattle.rss_machine.specs.State.{State, owner_at}
use Rattle.rss_machine.specs.declared.place.KeyedCall.{KeyedCall}
use Rattle.rss_machine.specs.declared.place.PlaceKey.{PlaceKey}
use Rattle.rss_machine.specs.declared.session.OwnerKind.TheVariants as kind
use Rattle.rss_machine.specs.declared.session.Session.TheVariants as session
use Rattle.rss_machine.specs.declared.step.Step.{Step}
use Rattle.order_laws.specs.LastWriter.{Readings}
use Rattle.world_laws.specs.Calls.{Gave}
use Rattle.world_laws.proofs.Looks.{none_is_not}
use Rattle.reg_laws.specs.Line.{PlacedWrite, write_key}
use Rattle.txn_line_laws.specs.Line.{PlacedTxn, commits, fails, reads}
use Rattle.place_laws.proofs.Ended.{IsThere}
use Rattle.place_laws.proofs.KeyedCalls.{keyed_of, keyed_is, is_contained}
use Rattle.place_laws.proofs.Placed.{IsWriter, IsReader, rounds_of, placed_with}
use Rattle.place_laws.proofs.Told.{Says, says, writes_mutate, reads_not}
use Rattle.regular_laws.proofs.Known.{Known}
use Rattle.regular_laws.proofs.Txns.{IsTxn, shown_in, given_by, reply_keys, txn_op, op_is, was_shown, reads_ended, guard_held, commit_mutates, txn_placed, snap_placed}
use Rattle.regular_laws.proofs.Writes.{head_or_tail, in_none}

-- a placed call is a write, a read that has ended, or a call of a transaction service
abbrev pub IsPlaced : State → ℕ → PlaceKey → Type 0
IsPlaced s o k = IsWriter s o k ⊎ (IsReader s o k ⊎ IsTxn s o k)

abbrev pub shown_to : State → Readings
shown_to s o = shown_in (owner_at s o).session

-- what a read was shown
abbrev pub shown_of : Key → RegReply → Shown
shown_of key cell = record { key = key; value = cell.value; writer = cell.writer }

-- a placed write of a register
pub record RegWrote (s : State) (o : ℕ) (k : PlaceKey) (key : Key) : Type 0 where
  pub value : ℕ
  pub stamp : Carstamp
  pub write : PlacedWrite s o key value stamp
  pub is_key : k ≡ write_key s o key stamp

-- the operation of a placed call
pub record OpOf (s : State) (o : ℕ) : Type 0 where
  pub op : Op
  pub of_kind : (owner_at s o).kind ≡ kind.Calling op

module _ (c : Config) (steps : List Step) (s : State) (known : Known c steps s) where
  abbrev h : List Entry
  h = s.history

  pub placed : (x : KeyedCall) → Contains (keyed_calls s) x → IsPlaced s x.call x.key
  placed x m = by_session x.call x.key (owner_at s x.call).session refl (keyed_is s x.call x (keyed_of s x m).keyed).is_key
    where
      registers : (o : ℕ) (k : PlaceKey) → IsWriter s o k ⊎ IsReader s o k → IsPlaced s o k
      registers o k (inl w) = inl w
      registers o k (inr r) = inr (inl r)

      by_session : (o : ℕ) (k : PlaceKey) (y : Session) → (owner_at s o).session ≡ y → session_key s o (owner_at s o).session ≡ Some k → IsPlaced s o k
      by_session o k (session.Register r) e f = registers o k (placed_with s known.agree known.stamps o k (rounds_of s known.agree known.stamps o r e) (sym (ap (session_key s o) e) ∙ f))
      by_session o k (session.Transaction t) e f = inr (inr (txn_placed s o k t e f))
      by_session o k (session.Snapshot t) e f = inr (inr (snap_placed s o k t e f))
      by_session o k session.Idle e f = absurd (none_is_not k (sym (ap (session_key s o) e) ∙ f))
      by_session o k (session.Fixing r) e f = absurd (none_is_not k (sym (ap (session_key s o) e) ∙ f))
      by_session o k (session.Settling attempt shards) e f = absurd (none_is_not k (sym (ap (session_key s o) e) ∙ f))

  -- a call that has a key is there
  pub is_there : (o : ℕ) (k : PlaceKey) → 0 < o → o < length s.owners → session_key s o (owner_at s o).session ≡ Some k → IsThere s o k
  is_there o k z l e =
      let w : KeyedCall = record { key = k; call = o; finished = is_over (owner_at s o).fate } in
      record { call = w; there = is_contained s o w z l (ap (λ (y : Option PlaceKey). keyed_at y o (is_over (owner_at s o).fate)) e); is_call = refl; is_key = refl }

  -- operations
  pub op_placed : (o : ℕ) (k : PlaceKey) → IsPlaced s o k → OpOf s o
  op_placed o k (inl w) = record { op = op.Write w.key w.value; of_kind = w.of_kind }
  op_placed o k (inr (inl r)) = record { op = op.Read r.key; of_kind = r.of_kind }
  op_placed o k (inr (inr t)) = let x = op_is c s known.txns known.told o t.time t.only_reads t.keys t.lines t.placed in record { op = x.op; of_kind = x.of_kind }

  pub says_of : (o : ℕ) (x : Op) → (owner_at s o).kind ≡ kind.Calling x → Says s o x
  says_of o x e = says s known.told o x e

  -- what writes and reads were shown
  write_gives : (key : Key) (value : ℕ) (x : Option RegEnd) → given_by (work.Write key value) x ≡ []
  write_gives key value None = refl
  write_gives key value (Some end) = refl

  pub writer_given : (o : ℕ) (k : PlaceKey) → IsWriter s o k → shown_to s o ≡ []
  writer_given o k w = ap shown_in w.placed.under_way ∙ (ap (λ (x : RegWork). given_by x (phase_end w.placed.round.phase)) w.placed.of_work ∙ write_gives w.key w.value (phase_end w.placed.round.phase))

  pub reader_given : (o : ℕ) (k : PlaceKey) (r : IsReader s o k) → shown_to s o ≡ shown_of r.key r.cell ∷ []
  reader_given o k r = ap shown_in r.read.under_way ∙ (ap (λ (x : RegWork). given_by x (phase_end r.read.round.phase)) r.read.of_work ∙ ap (λ (p : RegPhase). given_by (work.Read r.key) (phase_end p)) r.read.in_phase)

  pub txn_given : (o : ℕ) (k : PlaceKey) (t : IsTxn s o k) → shown_to s o ≡ shown_reply t.keys t.lines
  txn_given o k t = was_shown c s known.txns known.told o t.time t.only_reads t.keys t.lines t.placed

  pub begun_of : (o : ℕ) (k : PlaceKey) → IsPlaced s o k → IsTrue (has_begun h o)
  begun_of o k p = let x = op_placed o k p in (says_of o x.op x.of_kind).begun

  pub keys_shown : (o : ℕ) (k : PlaceKey) → IsPlaced s o k → map (λ (x : Shown). x.key) (shown_to s o) ≡ reads_of (op_of h o)
  keys_shown o k (inl w) = ap (map (λ (x : Shown). x.key)) (writer_given o k w) ∙ sym (ap reads_of (says_of o _ w.of_kind).op)
  keys_shown o k (inr (inl r)) = ap (map (λ (x : Shown). x.key)) (reader_given o k r) ∙ sym (ap reads_of (says_of o _ r.of_kind).op)
  keys_shown o k (inr (inr t)) =
      let x = op_is c s known.txns known.told o t.time t.only_reads t.keys t.lines t.placed in
      ap (map (λ (y : Shown). y.key)) (txn_given o k t) ∙ (reply_keys t.keys t.lines ∙ (sym x.of_keys ∙ sym (ap reads_of (says_of o x.op x.of_kind).op)))

  -- the guard of a call that has not ended holds of what it was shown
  pub guards_hold : (o : ℕ) (k : PlaceKey) → IsPlaced s o k → IsFalse (has_ended h o) → IsTrue (guard_holds (op_of h o) (values_of (shown_to s o)))
  guards_hold o k (inl w) n = ap (λ (x : Op). guard_holds x (values_of (shown_to s o))) (says_of o _ w.of_kind).op
  guards_hold o k (inr (inl r)) n = ap (λ (x : Op). guard_holds x (values_of (shown_to s o))) (says_of o _ r.of_kind).op
  guards_hold o k (inr (inr t)) n = by_placed t.time t.only_reads t.keys t.lines t.placed
    where
      by_placed : (time : ℕ) (only_reads : Bool) (keys : List Key) (lines : List Line) → PlacedTxn s o time only_reads keys lines → IsTrue (guard_holds (op_of h o) (values_of (shown_to s o)))
      by_placed _ _ _ _ (commits x time e f) =
          ap (λ (y : Op). guard_holds y (values_of (shown_to s o))) (says_of o (txn_op x) (known.txns.framed.txn o x e).of_kind).op
          ∙ (ap (λ (y : Session). guard_holds (txn_op x) (values_of (shown_in y))) e ∙ guard_held c s known.txns known.told o time x e f)
      by_placed _ _ _ _ (fails x time e p) = absurd (true≢false (sym (reads_ended c s known.txns known.told o time x.reads x.lines (fails x time e p)) ∙ n))
      by_placed _ _ _ _ (reads x time e p) = absurd (true≢false (sym (reads_ended c s known.txns known.told o time x.keys x.lines (reads x time e p)) ∙ n))

  -- what a call replied is what it was shown
  pub replied : (o : ℕ) → IsTrue (has_ended h o) → shown_to s o ≡ reply_of h o
  replied o d = by_session (owner_at s o).session refl (known.told.replied o d).gave
    where
      by_session : (y : Session) → (owner_at s o).session ≡ y → Gave y (reply_of h o) → shown_in (owner_at s o).session ≡ reply_of h o
      by_session (session.Register r) e g = ap shown_in e ∙ (ap (given_by r.work) g.done ∙ sym g.gives)
      by_session (session.Transaction t) e g = ap shown_in e ∙ sym g
      by_session (session.Snapshot t) e g = ap shown_in e ∙ sym g
      by_session session.Idle e g = absurd g
      by_session (session.Fixing r) e g = absurd g
      by_session (session.Settling attempt shards) e g = absurd g

  -- mutations, and calls that have ended
  pub writer_mutates : (o : ℕ) (k : PlaceKey) (w : IsWriter s o k) → is_mutation h o ≡ true
  writer_mutates o k w = writes_mutate h o w.key w.value (says_of o _ w.of_kind).op

  pub reader_mutates_not : (o : ℕ) (k : PlaceKey) (r : IsReader s o k) → is_mutation h o ≡ false
  reader_mutates_not o k r = reads_not h o r.key (says_of o _ r.of_kind).op

  pub reader_ended : (o : ℕ) (k : PlaceKey) (r : IsReader s o k) → IsTrue (has_ended h o)
  reader_ended o k r = known.told.done o r.read.round _ r.read.under_way (ap phase_end r.read.in_phase)

  pub ended_or_mutates : (o : ℕ) (k : PlaceKey) → IsPlaced s o k → IsTrue (has_ended h o) ⊎ IsTrue (is_mutation h o)
  ended_or_mutates o k (inl w) = inr (writer_mutates o k w)
  ended_or_mutates o k (inr (inl r)) = inl (reader_ended o k r)
  ended_or_mutates o k (inr (inr t)) = by_placed t.time t.only_reads t.keys t.lines t.placed
    where
      by_placed : (time : ℕ) (only_reads : Bool) (keys : List Key) (lines : List Line) → PlacedTxn s o time only_reads keys lines → IsTrue (has_ended h o) ⊎ IsTrue (is_mutation h o)
      by_placed _ _ _ _ (commits x time e f) = inr (commit_mutates c s known.txns known.told o time x e f)
      by_placed _ _ _ _ (fails x time e p) = inl (reads_ended c s known.txns known.told o time x.reads x.lines (fails x time e p))
      by_placed _ _ _ _ (reads x time e p) = inl (reads_ended c s known.txns known.told o time x.keys x.lines (reads x time e p))

  -- a placed write of a register writes that one alone
  pub reg_wrote : (o : ℕ) (k : PlaceKey) (key : Key) (w : IsWriter s o k) → Contains (writes_of (op_of h o)) key → RegWrote s o k key
  reg_wrote o k key w m =
      let same : w.key ≡ key = only_one w.key key (subst (λ (y : Op). Contains (writes_of y) key) (says_of o (op.Write w.key w.value) w.of_kind).op m) in
      record { value = w.value; stamp = w.stamp; write = subst (λ (y : Key). PlacedWrite s o y w.value w.stamp) same w.placed; is_key = subst (λ (y : Key). k ≡ write_key s o y w.stamp) same w.is_key }
    where
      only_one : (x y : Key) → Contains (x ∷ []) y → x ≡ y
      only_one x y n = by_place (head_or_tail x [] y n)
        where
          by_place : (x ≡ y) ⊎ Contains [] y → x ≡ y
          by_place (inl e) = e
          by_place (inr e) = absurd (in_none y e)
