-- What is so of each transaction and each snapshot after an event: shown case by case, of what each of them does.
use Rattle.std.proofs.Common.{◌≡◌, ℕ, List, Option, sym, ap, ◌∙◌, subst}
use Rattle.truetime.specs.Reading.{Reading}
use Rattle.rss_names.specs.declared.service.Key.{Key}
use Rattle.pipeline_lang.specs.Config.{home_of}
use Rattle.pipeline_lang.specs.declared.config.Config.{Config}
use Rattle.pipeline_lang.specs.declared.script.Compare.{Compare}
use Rattle.pipeline_lang.specs.declared.script.Expr.{Expr}
use Rattle.rss_wire.specs.declared.messages.Outcome.TheVariants.{Committed}
use Rattle.rss_wire.specs.declared.messages.Reply.{Reply}
use Rattle.rss_wire.specs.declared.messages.Reply.TheVariants as reply
use Rattle.rss_tables.specs.Lines.{Line, line_at}
use Rattle.rss_tables.specs.Outs.{slot_shard}
use Rattle.rss_tables.specs.SnapshotSession.{SnapSession, opening_snapshot, snap_hears, snap_wakes}
use Rattle.rss_tables.specs.TransactionSession.{TxnSession, opening_txn, txn_hears, txn_wakes, txn_passes}
use Rattle.rss_tables.specs.declared.phases.TxnPhase.TheVariants as phase
use Rattle.rss_machine.specs.Session.{Session}
use Rattle.rss_machine.specs.State.{State, owner_at}
use Rattle.rss_machine.specs.declared.session.Session.TheVariants as session
use Rattle.session_laws.specs.Cases.{TxnTurn}
use Rattle.session_laws.specs.Frames.{IsLine, SameTxn, SameSnap}
use Rattle.session_laws.specs.SnapCases.{SnapTurn}
use Rattle.session_laws.proofs.Keeps.{txn_turn_same, txn_wake_same, txn_pass_same, snap_turn_same, snap_wake_same}
use Rattle.shard_event_laws.specs.Events.{Hears, Event}
use Rattle.txn_state_laws.specs.Awaited.{AnswersHeard}
use Rattle.txn_state_laws.specs.Framed.{TxnFramed, SnapFramed, AllFramed}
use Rattle.txn_session_laws.specs.Undone.{NeverUndone}
use Rattle.txn_session_laws.proofs.Events.{Seen, kept, neither, txn_opens, snap_opens, txn_hears_it, snap_hears_it, txn_wakes_it, snap_wakes_it, passes_it, event_seen}
use Rattle.txn_session_laws.proofs.Goes.{TxnHeard, SnapHeard, txn_heard, snap_heard, heard_turn, snap_heard_turn, waking_is}
use Rattle.txn_state_laws.proofs.Grows.{txn_is, snap_is}
use Rattle.txn_session_laws.proofs.OnwardOwners.{is_call, txn_not_snap}
use Rattle.txn_session_laws.proofs.Never.{no}

-- from what is so of each transaction before, to what is so of each after
pub record TxnSteps (c : Config) (at : Reading) (s : State) (P Q : TxnSession → Type 0) : Type 0 where
  pub stays : (x : TxnSession) → P x → Q x
  pub opens : (o : ℕ) (reads : List Key) (guard : Option (Compare ℕ)) (writes : List (Key × Expr ℕ)) (least margin : ℕ) → Q (opening_txn (home_of c) o reads guard writes least margin)
  pub hears : (o : ℕ) (x : TxnSession) (l : Line) (r : Reply) → TxnFramed c s o x → TxnHeard s x l r → ((time : ℕ) → x.phase ≡ phase.Undoing → r ≡ reply.Decided (Committed time) → ⊥) → TxnTurn x l at r (txn_hears x l at r) → SameTxn x (txn_hears x l at r).after → P x → Q (txn_hears x l at r).after
  pub wakes : (o : ℕ) (x : TxnSession) (l : Line) → TxnFramed c s o x → IsLine x.lines l → SameTxn x (txn_wakes x l).after → P x → Q (txn_wakes x l).after
  pub passes : (o : ℕ) (x : TxnSession) → TxnFramed c s o x → SameTxn x (txn_passes x x.phase).after → P x → Q (txn_passes x x.phase).after

pub record SnapSteps (c : Config) (at : Reading) (s : State) (P Q : SnapSession → Type 0) : Type 0 where
  pub stays : (x : SnapSession) → P x → Q x
  pub opens : (o : ℕ) (keys : List Key) (least : ℕ) → Q (opening_snapshot (home_of c) o keys least at)
  pub hears : (o : ℕ) (x : SnapSession) (l : Line) (r : Reply) → SnapFramed c s o x → SnapHeard s x l r → SnapTurn x l r (snap_hears x l r) → SameSnap x (snap_hears x l r).after → P x → Q (snap_hears x l r).after
  pub wakes : (o : ℕ) (x : SnapSession) (l : Line) → SnapFramed c s o x → IsLine x.lines l → SameSnap x (snap_wakes x l).after → P x → Q (snap_wakes x l).after

module _ (c : Config) (at : Reading) (s t : State) (framed : AllFramed c s) (heard : AnswersHeard s) where
  module _ (never : NeverUndone s) (P Q : TxnSession → Type 0) (h : TxnSteps c at s P Q) where
    to_y : (x y : TxnSession) (now : Session) → now ≡ session.Transaction x → now ≡ session.Transaction y → Q x → Q y
    to_y x y now e f q = subst Q (txn_is x y (sym e ∙ f)) q

    to_none : (x : SnapSession) (y : TxnSession) (now : Session) → now ≡ session.Snapshot x → now ≡ session.Transaction y → Q y
    to_none x y now e f = txn_not_snap y x (sym f ∙ e)

    txn_hears_step : (o slot : ℕ) (x : TxnSession) (r : Reply) → (owner_at s o).session ≡ session.Transaction x → Hears s o slot r → P x → Q (txn_hears x (line_at x.lines (slot_shard slot)) at r).after
    txn_hears_step o slot x r e n p =
        let f : TxnFramed c s o x = framed.txn o x e in
        let l : Line = line_at x.lines (slot_shard slot) in
        let heard_it : TxnHeard s x l r = txn_heard s slot x r (heard.txn o slot x r e n) in
        let turn : TxnTurn x l at r (txn_hears x l at r) = heard_turn s x l at r heard_it in
        h.hears o x l r f heard_it (λ time u q. never.never o slot x time e u (subst (Hears s o slot) q n)) turn (txn_turn_same (home_of c) x l at r (txn_hears x l at r) f.frames heard_it.is turn) p

    txn_wakes_step : (o : ℕ) (x : TxnSession) (l : Line) → (owner_at s o).session ≡ session.Transaction x → IsLine x.lines l → P x → Q (txn_wakes x l).after
    txn_wakes_step o x l e i p = let f : TxnFramed c s o x = framed.txn o x e in h.wakes o x l f i (txn_wake_same (home_of c) x l f.frames i) p

    txn_step : (o : ℕ) (now : Session) (y : TxnSession) → Seen c at s o (owner_at s o).session now → ((x : TxnSession) → (owner_at s o).session ≡ session.Transaction x → P x) → now ≡ session.Transaction y → Q y
    txn_step o now y (kept e) p g = h.stays y (p y (sym e ∙ g))
    txn_step o now y (neither e f) p g = no (sym f ∙ ap is_call g)
    txn_step o now y (txn_opens reads guard writes margin e n) p g = to_y _ y now n g (h.opens o reads guard writes _ margin)
    txn_step o now y (snap_opens keys e n) p g = to_none _ y now n g
    txn_step o now y (txn_hears_it slot x r e k n) p g = to_y _ y now n g (txn_hears_step o slot x r e k (p x e))
    txn_step o now y (snap_hears_it slot x r e k n) p g = to_none _ y now n g
    txn_step o now y (txn_wakes_it x l e w n) p g = to_y _ y now n g (txn_wakes_step o x l e (waking_is s x.lines l w) (p x e))
    txn_step o now y (snap_wakes_it x l e w n) p g = to_none _ y now n g
    txn_step o now y (passes_it x e n) p g = to_y _ y now n g (h.passes o x (framed.txn o x e) (txn_pass_same x) (p x e))

    pub each_txn : Event c at s t → (o : ℕ) (y : TxnSession) → ((x : TxnSession) → (owner_at s o).session ≡ session.Transaction x → P x) → (owner_at t o).session ≡ session.Transaction y → Q y
    each_txn event o y p g = txn_step o (owner_at t o).session y (event_seen c at s t event o) p g

  module _ (P Q : SnapSession → Type 0) (h : SnapSteps c at s P Q) where
    to_snap : (x y : SnapSession) (now : Session) → now ≡ session.Snapshot x → now ≡ session.Snapshot y → Q x → Q y
    to_snap x y now e f q = subst Q (snap_is x y (sym e ∙ f)) q

    to_no_snap : (x : TxnSession) (y : SnapSession) (now : Session) → now ≡ session.Transaction x → now ≡ session.Snapshot y → Q y
    to_no_snap x y now e f = txn_not_snap x y (sym e ∙ f)

    snap_hears_step : (o slot : ℕ) (x : SnapSession) (r : Reply) → (owner_at s o).session ≡ session.Snapshot x → Hears s o slot r → P x → Q (snap_hears x (line_at x.lines (slot_shard slot)) r).after
    snap_hears_step o slot x r e n p =
        let f : SnapFramed c s o x = framed.snap o x e in
        let l : Line = line_at x.lines (slot_shard slot) in
        let heard_it : SnapHeard s x l r = snap_heard s slot x r (heard.snap o slot x r e n) in
        let turn : SnapTurn x l r (snap_hears x l r) = snap_heard_turn s x l r heard_it in
        h.hears o x l r f heard_it turn (snap_turn_same (home_of c) x l r (snap_hears x l r) f.frames heard_it.is turn) p

    snap_wakes_step : (o : ℕ) (x : SnapSession) (l : Line) → (owner_at s o).session ≡ session.Snapshot x → IsLine x.lines l → P x → Q (snap_wakes x l).after
    snap_wakes_step o x l e i p = let f : SnapFramed c s o x = framed.snap o x e in h.wakes o x l f i (snap_wake_same (home_of c) x l f.frames i) p

    snap_step : (o : ℕ) (now : Session) (y : SnapSession) → Seen c at s o (owner_at s o).session now → ((x : SnapSession) → (owner_at s o).session ≡ session.Snapshot x → P x) → now ≡ session.Snapshot y → Q y
    snap_step o now y (kept e) p g = h.stays y (p y (sym e ∙ g))
    snap_step o now y (neither e f) p g = no (sym f ∙ ap is_call g)
    snap_step o now y (txn_opens reads guard writes margin e n) p g = to_no_snap _ y now n g
    snap_step o now y (snap_opens keys e n) p g = to_snap _ y now n g (h.opens o keys _)
    snap_step o now y (txn_hears_it slot x r e k n) p g = to_no_snap _ y now n g
    snap_step o now y (snap_hears_it slot x r e k n) p g = to_snap _ y now n g (snap_hears_step o slot x r e k (p x e))
    snap_step o now y (txn_wakes_it x l e w n) p g = to_no_snap _ y now n g
    snap_step o now y (snap_wakes_it x l e w n) p g = to_snap _ y now n g (snap_wakes_step o x l e (waking_is s x.lines l w) (p x e))
    snap_step o now y (passes_it x e n) p g = to_no_snap _ y now n g

    pub each_snap : Event c at s t → (o : ℕ) (y : SnapSession) → ((x : SnapSession) → (owner_at s o).session ≡ session.Snapshot x → P x) → (owner_at t o).session ≡ session.Snapshot y → Q y
    each_snap event o y p g = snap_step o (owner_at t o).session y (event_seen c at s t event o) p g
