-- Attempts and their lines: that each is one, and how they go on.
use Rattle.std.proofs.Common.{◌≡◌, ◌⊎◌, inl, inr, ℕ, ◌+◌, ◌<◌, ◌≤◌, List, [], ◌∷◌, length, Option, Some, refl, sym, ap, ◌∙◌, subst, arith}
use Rattle.rss_names.specs.declared.attempt.Attempt.{Attempt}
use Rattle.pipeline_lang.specs.declared.config.Config.{Config}
use Rattle.rss_wire.specs.declared.messages.Outcome.{Outcome}
use Rattle.rss_tables.specs.Lines.{Line, coordinator_of}
use Rattle.rss_tables.specs.ShardRow.{decision_in}
use Rattle.rss_tables.specs.SnapshotSession.{SnapSession}
use Rattle.rss_tables.specs.TransactionSession.{TxnSession, attempt_of}
use Rattle.rss_tables.specs.declared.phases.TxnPhase.TheVariants as phase
use Rattle.rss_machine.specs.Session.{Session}
use Rattle.rss_machine.specs.State.{State, owner_at, shard_at}
use Rattle.rss_machine.specs.declared.session.Session.TheVariants as session
use Rattle.session_laws.specs.Frames.{Frame, frame_of, frames_of, nth_line}
use Rattle.session_laws.proofs.Frames.{frames_length, frames_nth, frames_shard}
use Rattle.txn_state_laws.specs.Framed.{AllFramed, LinesFit, OfAttempt, IsLineOf}
use Rattle.txn_state_laws.specs.Justified.{Kept}
use Rattle.txn_state_laws.specs.Onward.{AllOnward, TxnOnward, TxnGoesOn}

-- two transactions that are the same
pub txn_is : (x y : TxnSession) → ◌≡◌ {A = Session} (session.Transaction x) (session.Transaction y) → x ≡ y
txn_is x y e = cc

-- and two snapshots
pub snap_is : (x y : SnapSession) → ◌≡◌ {A = Session} (session.Snapshot x) (session.Snapshot y) → x ≡ y
snap_is x y e = cc

-- an attempt is of one transaction
pub one_txn : (s : State) (a : Attempt) (x y : TxnSession) → OfAttempt s a x → OfAttempt s a y → x ≡ y
one_txn s a x y p q = txn_is x y (sym p.under_way ∙ q.under_way)

-- the present attempt is the one of this call and number
pub attempt_is : (x : TxnSession) (a : Attempt) → x.call ≡ a.call → a.k ≡ x.k → attempt_of x ≡ a
attempt_is x a e f = ap (λ (n : ℕ). record { call = n; k = x.k }) e ∙ ap (λ (n : ℕ). record { call = a.call; k = n }) (sym f)

-- a present attempt is the one under way
pub present_is : (c : Config) (s : State) → AllFramed c s → (a : Attempt) (x : TxnSession) → OfAttempt s a x → a.k ≡ x.k → attempt_of x ≡ a
present_is c s f a x p e = attempt_is x a (f.txn a.call x p.under_way).call e

-- a transaction has one line a shard
pub one_line : (c : Config) (x : TxnSession) → LinesFit c x.lines → (shard : ℕ) (l m : Line) → IsLineOf x shard l → IsLineOf x shard m → l ≡ m
one_line c x f shard l m p q =
    sym p.is.at
    ∙ ap (nth_line x.lines) (f.apart p.is.place q.is.place p.is.inside q.is.inside (ap (λ (n : Line). n.shard) p.is.at ∙ p.on ∙ sym q.on ∙ ap (λ (n : Line). n.shard) (sym q.is.at)))
    ∙ q.is.at

-- the shard of a line is one of the file's
pub line_first : (c : Config) (x : TxnSession) → LinesFit c x.lines → (shard : ℕ) (l : Line) → IsLineOf x shard l → 1 ≤ shard
line_first c x f shard l p = subst (λ (n : ℕ). 1 ≤ n) (ap (λ (n : Line). n.shard) p.is.at ∙ p.on) (f.first p.is.place p.is.inside)

pub line_last : (c : Config) (x : TxnSession) → LinesFit c x.lines → (shard : ℕ) (l : Line) → IsLineOf x shard l → shard ≤ length c.shard_services
line_last c x f shard l p = subst (λ (n : ℕ). n ≤ length c.shard_services) (ap (λ (n : Line). n.shard) p.is.at ∙ p.on) (f.last p.is.place p.is.inside)

-- the coordinator is one of the file's shards
pub coordinator_first : (c : Config) (lines : List Line) → LinesFit c lines → 1 ≤ coordinator_of lines
coordinator_first c [] f = absurd (let i = f.some in omega (arith, i))
coordinator_first c (l ∷ lines) f = f.first 0 (omega arith)

-- the coordinator is the shard of the first line
pub coordinator_is : (lines : List Line) → coordinator_of lines ≡ (nth_line lines 0).shard
coordinator_is [] = refl
coordinator_is (l ∷ lines) = refl

-- lines that are made of the same have the same coordinator
pub coordinator_same : (u v : List Line) → frames_of u ≡ frames_of v → coordinator_of u ≡ coordinator_of v
coordinator_same u v e = coordinator_is u ∙ frames_shard u v e 0 ∙ sym (coordinator_is v)

-- the coordinator of an attempt is one of the file's shards
pub coordinator_numbered : (c : Config) (s : State) → AllFramed c s → (a : Attempt) (x : TxnSession) → OfAttempt s a x → 1 ≤ coordinator_of x.lines
coordinator_numbered c s f a x p = coordinator_first c x.lines (f.txn a.call x p.under_way).lines

-- one decision is kept for an attempt
pub kept_one : (s : State) (a : Attempt) (o p : Outcome) → Kept s a o → Kept s a p → o ≡ p
kept_one s a o p k h =
    let e = one_txn s a k.txn h.txn k.of h.of in
    let i : ◌≡◌ {A = Option Outcome} (Some o) (Some p) = sym k.kept ∙ ap (λ (x : TxnSession). decision_in (shard_at s (coordinator_of x.lines)).decisions a) e ∙ h.kept in
    cc

-- an attempt goes on with its transaction
pub record AttemptGrows (t : State) (a : Attempt) (x : TxnSession) : Type 0 where
  pub txn : TxnSession
  pub of : OfAttempt t a txn
  pub onward : TxnOnward x txn

pub attempt_grows : (s t : State) → AllOnward s t → (a : Attempt) (x : TxnSession) → OfAttempt s a x → AttemptGrows t a x
attempt_grows s t w a x p =
    let g : TxnGoesOn x (owner_at t a.call).session = w.txn a.call x p.under_way in
    record {
      txn = g.txn;
      of = record { under_way = g.under_way; first = p.first; last = later g.txn p.last g.onward.later };
      onward = g.onward;
    }
  where
    later : (y : TxnSession) → a.k ≤ x.k → (y.k ≡ x.k) ⊎ ((y.k ≡ x.k + 1) × (y.phase ≡ phase.Locking)) → a.k ≤ y.k
    later y l (inl e) = omega (arith, l, e)
    later y l (inr e) = let f = e.0 in omega (arith, l, f)

-- and so does its line
pub record LineGrows (y : TxnSession) (shard : ℕ) (l : Line) : Type 0 where
  pub line : Line
  pub is_line : IsLineOf y shard line
  pub frame : frame_of line ≡ frame_of l

pub line_grows : (x y : TxnSession) → TxnOnward x y → (shard : ℕ) (l : Line) → IsLineOf x shard l → LineGrows y shard l
line_grows x y w shard l p =
    let e = frames_nth y.lines x.lines w.same.frames p.is.place in
    record {
      line = nth_line y.lines p.is.place;
      is_line = record {
        is = record { place = p.is.place; inside = subst (λ (n : ℕ). p.is.place < n) (sym (frames_length y.lines x.lines w.same.frames)) p.is.inside; at = refl };
        on = ap (λ (f : Frame). f.shard) e ∙ ap (λ (m : Line). m.shard) p.is.at ∙ p.on;
      };
      frame = e ∙ ap frame_of p.is.at;
    }

-- decisions stay on each shard
pub record DecisionsStay (s t : State) : Type 0 where
  pub each : (n : ℕ) (a : Attempt) (o : Outcome) → decision_in (shard_at s n).decisions a ≡ Some o → decision_in (shard_at t n).decisions a ≡ Some o

-- a decision that is kept stays so
pub kept_grows : (s t : State) → AllOnward s t → DecisionsStay s t → (a : Attempt) (o : Outcome) → Kept s a o → Kept t a o
kept_grows s t w stay a o k =
    let g : AttemptGrows t a k.txn = attempt_grows s t w a k.txn k.of in
    record {
      txn = g.txn;
      of = g.of;
      kept = ap (λ (n : ℕ). decision_in (shard_at t n).decisions a) (coordinator_same g.txn.lines k.txn.lines g.onward.same.frames) ∙ stay.each (coordinator_of k.txn.lines) a o k.kept;
    }
