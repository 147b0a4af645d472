-- Decisions are kept at their coordinators in every state: what an event does to that.
use Rattle.std.proofs.Common.{◌≡◌, ◌⊎◌, inl, inr, ℕ, ◌+◌, ◌-◌, ◌<◌, ◌≤◌, Bool, true, false, length, Some, refl, sym, ap, ◌∙◌, subst, arith}
use Rattle.std.proofs.lemmas.Bool.{true≢false, cases_lt}
use Rattle.truetime.specs.Reading.{Reading}
use Rattle.rss_names.specs.declared.attempt.Attempt.{Attempt}
use Rattle.rss_names.specs.declared.service.Target.TheVariants.{Shard}
use Rattle.pipeline_lang.specs.declared.config.Config.{Config}
use Rattle.rss_wire.specs.Messages.{message_at}
use Rattle.rss_wire.specs.declared.messages.Outcome.{Outcome}
use Rattle.rss_wire.specs.declared.messages.Outcome.TheVariants.{Committed, Aborted}
use Rattle.rss_wire.specs.declared.messages.Reply.TheVariants as reply
use Rattle.rss_wire.specs.declared.messages.Request.{Request}
use Rattle.rss_wire.specs.declared.messages.Request.TheVariants as request
use Rattle.rss_tables.specs.Lines.{Line, coordinator_of}
use Rattle.rss_tables.specs.ShardRow.{Shard as ShardState, decision_in}
use Rattle.rss_tables.specs.TransactionSession.{TxnSession, attempt_of, greatest_prepared}
use Rattle.rss_tables.specs.declared.phases.TxnPhase.{TxnPhase}
use Rattle.rss_tables.specs.declared.phases.TxnPhase.TheVariants as phase
use Rattle.rss_machine.specs.Moves.{serves_shard}
use Rattle.rss_machine.specs.State.{State, owner_at, shard_at}
use Rattle.rss_machine.specs.declared.session.Session.TheVariants as session
use Rattle.world_laws.proofs.Looks.{none_is_not, some_is}
use Rattle.shard_laws.specs.Changes.{IsDecidedBy}
use Rattle.shard_laws.proofs.Decided.{decided_from}
use Rattle.shard_laws.proofs.Fits.{decided_told, inquired_told}
use Rattle.shard_event_laws.specs.Events.{WasAsked}
use Rattle.txn_state_laws.specs.Decided.{AllDecided, DecidedIs, CommitsAt, known_commit}
use Rattle.txn_state_laws.specs.Framed.{OfAttempt, AllFramed, IsLineOf}
use Rattle.txn_state_laws.specs.Justified.{AllJust, IsJust, Kept, DecideIs, ReleaseIs, may_be_committed}
use Rattle.txn_state_laws.specs.Onward.{Between, TxnComes, from, anew}
use Rattle.txn_state_laws.specs.Replied.{Replied}
use Rattle.txn_state_laws.proofs.Grows.{AttemptGrows, attempt_grows, attempt_is, line_first, line_last}
use Rattle.txn_state_laws.proofs.Replies.{event_does}
use Rattle.txn_state_laws.proofs.Serves.{ShardGoes, stays, serves, goes, served_here, decisions_stay}
use Rattle.txn_decision_laws.proofs.Grows.{coordinator_grows, kept_grows}
use Rattle.txn_decision_laws.proofs.Heard.{kept_at}
use Rattle.txn_decision_laws.proofs.Learnt.{Learnt, learnt}
use Rattle.txn_decision_laws.proofs.Replies.{ServesNow, replied_goes}
use Rattle.txn_decision_laws.proofs.Turned.{txn_goes}

-- outcomes apart
pub committed_same : (m n : ℕ) → ◌≡◌ {A = Outcome} (Committed m) (Committed n) → m ≡ n
committed_same m n e = cc

abbrev is_commit : Outcome → Bool
is_commit (Committed time) = true
is_commit Aborted = false

pub not_aborted : (time : ℕ) → ◌≡◌ {A = Outcome} Aborted (Committed time) → ⊥
not_aborted time e = true≢false (sym (ap is_commit e))

-- two decisions of one shard are one
pub decision_one : (sh : ShardState) (a : Attempt) (o p : Outcome) → decision_in sh.decisions a ≡ Some o → decision_in sh.decisions a ≡ Some p → o ≡ p
decision_one sh a o p e f = some_is o p (sym e ∙ f)

-- a commit time fits the phases of an attempt that asked for it, where it is the one that the attempt knows of
pub commits_asked : (p : TxnPhase) (time : ℕ) → CommitsAt p time → may_be_committed p ≡ true
commits_asked (phase.Deciding other) time h = refl
commits_asked (phase.Waiting other) time h = refl
commits_asked (phase.Committed other) time h = refl
commits_asked phase.Locking time h = absurd h
commits_asked phase.Preparing time h = absurd h
commits_asked (phase.Freeing other) time h = absurd h
commits_asked (phase.FreeingLast other) time h = absurd h
commits_asked phase.Undoing time h = absurd h
commits_asked (phase.Failed other) time h = absurd h

pub commits_known : (p : TxnPhase) (time : ℕ) → may_be_committed p ≡ true → ((other : ℕ) → known_commit p ≡ Some other → other ≡ time) → CommitsAt p time
commits_known (phase.Deciding other) time m h = tt
commits_known (phase.Waiting other) time m h = h other refl
commits_known (phase.Committed other) time m h = h other refl
commits_known phase.Locking time m h = absurd (true≢false (sym m))
commits_known phase.Preparing time m h = absurd (true≢false (sym m))
commits_known (phase.Freeing other) time m h = absurd (true≢false (sym m))
commits_known (phase.FreeingLast other) time m h = absurd (true≢false (sym m))
commits_known phase.Undoing time m h = absurd (true≢false (sym m))
commits_known (phase.Failed other) time m h = absurd (true≢false (sym m))

-- the shard of a line of an attempt is one of the file
pub line_shard : (c : Config) (s : State) → AllFramed c s → (a : Attempt) (x : TxnSession) → OfAttempt s a x → (shard : ℕ) (l : Line) → IsLineOf x shard l → (1 ≤ shard) × (shard ≤ length s.shards)
line_shard c s f a x i shard l h =
    let lines = (f.txn a.call x i.under_way).lines in
    let last = line_last c x lines shard l h in
    let count = f.shards in
    (line_first c x lines shard l h, omega (arith, last, count))

-- the attempts of a state where a shard has served
pub attempt_served : (s t : State) (m n latest : ℕ) (q : Request) → t ≡ serves_shard s m n latest q → (a : Attempt) (x : TxnSession) → OfAttempt s a x → OfAttempt t a x
attempt_served s t m n latest q e a x h = record { under_way = ap (λ (u : State). (owner_at u a.call).session) e ∙ h.under_way; first = h.first; last = h.last }

module _ (c : Config) (at : Reading) (s t : State) (b : Between c at s t) (j : AllJust s) (d : AllDecided s) where
  -- what a transaction that was under way has learnt
  has_learnt : (o : ℕ) (x y : TxnSession) → (owner_at s o).session ≡ session.Transaction x → (owner_at t o).session ≡ session.Transaction y → Learnt s x y
  has_learnt o x y e f = learnt c at s b.framed b.heard d o x y e (txn_goes c at s t o x y e f b.event)

  -- what was kept for the attempt that it had is kept at its coordinator
  kept_now : (o k : ℕ) (x y : TxnSession) (outcome : Outcome) → (owner_at s o).session ≡ session.Transaction x → (owner_at t o).session ≡ session.Transaction y → x.k ≡ k → 1 ≤ k → k ≤ y.k
      → Kept s (attempt_of x) outcome → decision_in (shard_at t (coordinator_of y.lines)).decisions record { call = o; k = k } ≡ Some outcome
  kept_now o k x y outcome e f n l m h =
      let same : attempt_of x ≡ record { call = o; k = k } = let i = (b.framed.txn o x e).call in cc in
      let kept : Kept t record { call = o; k = k } outcome = subst (λ (a : Attempt). Kept t a outcome) same (kept_grows c at s t b (attempt_of x) outcome h) in
      kept_at t record { call = o; k = k } y outcome record { under_way = f; first = l; last = m } kept

  known_now : (o time : ℕ) (y : TxnSession) → (owner_at t o).session ≡ session.Transaction y → known_commit y.phase ≡ Some time → decision_in (shard_at t (coordinator_of y.lines)).decisions (attempt_of y) ≡ Some (Committed time)
  known_now o time y f g = by_before (b.onward.txn_from o y f)
    where
      call : y.call ≡ o
      call = (b.framed_after.txn o y f).call

      by_before : TxnComes (owner_at s o).session y → decision_in (shard_at t (coordinator_of y.lines)).decisions (attempt_of y) ≡ Some (Committed time)
      by_before (anew e n p) = absurd (none_is_not time (sym (ap known_commit p) ∙ g))
      by_before (from x e w) = by_number w.later
        where
          by_number : (y.k ≡ x.k) ⊎ ((y.k ≡ x.k + 1) × (y.phase ≡ phase.Locking)) → decision_in (shard_at t (coordinator_of y.lines)).decisions (attempt_of y) ≡ Some (Committed time)
          by_number (inl n) =
              ap (λ (i : ℕ). decision_in (shard_at t (coordinator_of y.lines)).decisions record { call = i; k = y.k }) call
              ∙ kept_now o y.k x y (Committed time) e f (sym n) (b.framed_after.txn o y f).attempts (omega arith) ((has_learnt o x y e f).known time g)
          by_number (inr n) = absurd (none_is_not time (sym (ap known_commit n.1) ∙ g))

  before_now : (o k : ℕ) (y : TxnSession) → (owner_at t o).session ≡ session.Transaction y → 1 ≤ k → k < y.k → decision_in (shard_at t (coordinator_of y.lines)).decisions record { call = o; k = k } ≡ Some Aborted
  before_now o k y f l m = by_before (b.onward.txn_from o y f)
    where
      by_before : TxnComes (owner_at s o).session y → decision_in (shard_at t (coordinator_of y.lines)).decisions record { call = o; k = k } ≡ Some Aborted
      by_before (anew e n p) = absurd (omega (arith, n, l, m))
      by_before (from x e w) = by_place (cases_lt k x.k)
        where
          by_number : (y.k ≡ x.k) ⊎ ((y.k ≡ x.k + 1) × (y.phase ≡ phase.Locking)) → x.k ≤ k → decision_in (shard_at t (coordinator_of y.lines)).decisions record { call = o; k = k } ≡ Some Aborted
          by_number (inl n) i = absurd (omega (arith, n, i, m))
          by_number (inr n) i =
              let p : y.k ≡ x.k + 1 = n.0 in
              kept_now o k x y Aborted e f (omega (arith, p, i, m)) l (omega (arith, m)) ((has_learnt o x y e f).next p)

          by_place : (k < x.k) ⊎ (x.k ≤ k) → decision_in (shard_at t (coordinator_of y.lines)).decisions record { call = o; k = k } ≡ Some Aborted
          by_place (inl i) = ap (λ (n : ℕ). decision_in (shard_at t n).decisions record { call = o; k = k }) (coordinator_grows x y w)
              ∙ (decisions_stay c at s t b.event).each (coordinator_of x.lines) record { call = o; k = k } Aborted (d.before o k x e l i)
          by_place (inr i) = by_number w.later i

  -- a decision that was kept is still one of its attempt
  decided_old : (shard : ℕ) (a : Attempt) (outcome : Outcome) → decision_in (shard_at t shard).decisions a ≡ Some outcome → DecidedIs s shard a outcome → DecidedIs t shard a outcome
  decided_old shard a outcome e i = record { txn = w.txn; of = w.of; at = place; committed = λ time q. by_number time q (i.committed time q) w.onward.later }
    where
      w : AttemptGrows t a i.txn
      w = attempt_grows s t b.onward a i.txn i.of

      place : shard ≡ coordinator_of w.txn.lines
      place = i.at ∙ sym (coordinator_grows i.txn w.txn w.onward)

      here : decision_in (shard_at t (coordinator_of w.txn.lines)).decisions a ≡ Some outcome
      here = ap (λ (n : ℕ). decision_in (shard_at t n).decisions a) (sym place) ∙ e

      by_number : (time : ℕ) → outcome ≡ Committed time → (a.k ≡ i.txn.k) × CommitsAt i.txn.phase time × (greatest_prepared i.txn.lines ≤ time)
          → (w.txn.k ≡ i.txn.k) ⊎ ((w.txn.k ≡ i.txn.k + 1) × (w.txn.phase ≡ phase.Locking)) → (a.k ≡ w.txn.k) × CommitsAt w.txn.phase time × (greatest_prepared w.txn.lines ≤ time)
      by_number time q p (inl n) =
          let m = (w.onward.attempt n).committed (commits_asked i.txn.phase time p.1) in
          let k = p.0 in
          let l = p.2 in
          let g = m.1 in (
            k ∙ sym n,
            commits_known w.txn.phase time m.0 (λ other f. committed_same other time (decision_one (shard_at t (coordinator_of w.txn.lines)) a (Committed other) (Committed time)
                (ap (λ (z : Attempt). decision_in (shard_at t (coordinator_of w.txn.lines)).decisions z) (sym (attempt_is w.txn a (b.framed_after.txn a.call w.txn w.of.under_way).call (k ∙ sym n))) ∙ known_now a.call other w.txn w.of.under_way f)
                (here ∙ ap Some q))),
            subst (λ (z : ℕ). z ≤ time) (sym g) l,
          )
      by_number time q p (inr n) =
          let k = p.0 in
          let m = n.0 in
          absurd (not_aborted time (decision_one (shard_at t (coordinator_of w.txn.lines)) a Aborted (Committed time)
          (before_now a.call a.k w.txn w.of.under_way i.of.first (omega (arith, k, m))) (here ∙ ap Some q)))

  -- a decision that a shard makes now is one of its attempt
  decided_new : (shard : ℕ) (a : Attempt) (outcome : Outcome) (m n : ℕ) (q : Request) → 1 ≤ shard → WasAsked s m n q → t ≡ serves_shard s m n at.latest q → shard - 1 ≡ n - 1
      → decision_in (shard_at t shard).decisions a ≡ Some outcome → IsDecidedBy at.latest q a outcome → DecidedIs t shard a outcome
  decided_new shard a (Committed time) m n q l w f g e i = record {
    txn = z.txn;
    of = of;
    at = place;
    committed = λ other r. subst (λ (v : ℕ). (a.k ≡ z.txn.k) × CommitsAt z.txn.phase v × (greatest_prepared z.txn.lines ≤ v)) (committed_same time other r) by_place;
  }
    where
      z : DecideIs s n a true i.asked
      z = subst (IsJust s (message_at s.net m).envelope.owner n) i.asks (j.each m n q w)

      of : OfAttempt t a z.txn
      of = attempt_served s t m n at.latest q f a z.txn z.of

      place : shard ≡ coordinator_of z.txn.lines
      place = let p = (line_shard c s b.framed a z.txn z.of n z.line z.is_line).0 in let same : shard ≡ n = omega (arith, p, l, g) in same ∙ z.at

      here : decision_in (shard_at t (coordinator_of z.txn.lines)).decisions a ≡ Some (Committed time)
      here = ap (λ (v : ℕ). decision_in (shard_at t v).decisions a) (sym place) ∙ e

      present : a.k ≡ z.txn.k
      present = by_number (cases_lt a.k z.txn.k)
        where
          by_number : (a.k < z.txn.k) ⊎ (z.txn.k ≤ a.k) → a.k ≡ z.txn.k
          by_number (inl k) = absurd (not_aborted time (decision_one (shard_at t (coordinator_of z.txn.lines)) a Aborted (Committed time) (before_now a.call a.k z.txn of.under_way of.first k) here))
          by_number (inr k) = let v = of.last in omega (arith, k, v)

      by_place : (a.k ≡ z.txn.k) × CommitsAt z.txn.phase time × (greatest_prepared z.txn.lines ≤ time)
      by_place =
          let v = z.now refl present in
          let asked = v.1 in
          let made = i.at in (
            present,
            commits_known z.txn.phase time v.0 (λ other k. committed_same other time (decision_one (shard_at t (coordinator_of z.txn.lines)) a (Committed other) (Committed time)
                (ap (λ (y : Attempt). decision_in (shard_at t (coordinator_of z.txn.lines)).decisions y) (sym (attempt_is z.txn a (b.framed_after.txn a.call z.txn of.under_way).call present)) ∙ known_now a.call other z.txn of.under_way k)
                here)),
            omega (arith, asked, made),
          )
  decided_new shard a Aborted m n q l w f g e (inl i) = record {
    txn = z.txn;
    of = attempt_served s t m n at.latest q f a z.txn z.of;
    at = (let p = (line_shard c s b.framed a z.txn z.of n z.line z.is_line).0 in let same : shard ≡ n = omega (arith, p, l, g) in same ∙ z.at);
    committed = λ time r. absurd (not_aborted time r);
  }
    where
      z : DecideIs s n a false i.time
      z = subst (IsJust s (message_at s.net m).envelope.owner n) i.asks (j.each m n q w)
  decided_new shard a Aborted m n q l w f g e (inr i) = record {
    txn = z.txn;
    of = attempt_served s t m n at.latest q f a z.txn z.of;
    at = (let p = (line_shard c s b.framed a z.txn z.of n z.line z.is_line).0 in let same : shard ≡ n = omega (arith, p, l, g) in same ∙ z.at refl);
    committed = λ time r. absurd (not_aborted time r);
  }
    where
      z : ReleaseIs s n a i.time true
      z = subst (IsJust s (message_at s.net m).envelope.owner n) i.asks (j.each m n q w)

  at_now : (shard : ℕ) (a : Attempt) (outcome : Outcome) → 1 ≤ shard → decision_in (shard_at t shard).decisions a ≡ Some outcome → DecidedIs t shard a outcome
  at_now shard a outcome l e = by_shard (goes s t at.latest (event_does c at s t b.event) shard)
    where
      by_shard : ShardGoes s t at.latest shard → DecidedIs t shard a outcome
      by_shard (stays f) = decided_old shard a outcome e (d.at shard a outcome l (ap (λ (sh : ShardState). decision_in sh.decisions a) (sym f) ∙ e))
      by_shard (serves v) = by_decision (decided_from (shard_at s shard) at.latest v.request a outcome (ap (λ (sh : ShardState). decision_in sh.decisions a) (sym v.now) ∙ e))
        where
          by_decision : (decision_in (shard_at s shard).decisions a ≡ Some outcome) ⊎ IsDecidedBy at.latest v.request a outcome → DecidedIs t shard a outcome
          by_decision (inl h) = decided_old shard a outcome e (d.at shard a outcome l h)
          by_decision (inr h) = decided_new shard a outcome v.message v.shard v.request l v.asked v.is v.place e h

  -- the decision that is told is the one that is kept
  decided_now : (shard : ℕ) (a : Attempt) (commit : Bool) (time : ℕ) (outcome : Outcome) → Replied t (Shard shard) (request.Decide a commit time) (reply.Decided outcome) → decision_in (shard_at t shard).decisions a ≡ Some outcome
  decided_now shard a commit time outcome h = by_time (replied_goes c at s t b shard (request.Decide a commit time) (reply.Decided outcome) h)
    where
      by_time : Replied s (Shard shard) (request.Decide a commit time) (reply.Decided outcome) ⊎ ServesNow at s t shard (request.Decide a commit time) (reply.Decided outcome) → decision_in (shard_at t shard).decisions a ≡ Some outcome
      by_time (inl r) = (decisions_stay c at s t b.event).each shard a outcome (d.decided shard a commit time outcome r)
      by_time (inr r) =
          let z : DecideIs s shard a commit time = j.each r.message shard (request.Decide a commit time) r.asked in
          let v = line_shard c s b.framed a z.txn z.of shard z.line z.is_line in
          ap (λ (sh : ShardState). decision_in sh.decisions a) (ap (λ (u : State). shard_at u shard) r.serves ∙ served_here s r.message shard at.latest (request.Decide a commit time) v.0 v.1)
          ∙ decided_told (shard_at s shard) at.latest a commit time outcome (sym r.replies)

  inquired_now : (shard : ℕ) (a : Attempt) (outcome : Outcome) → Replied t (Shard shard) (request.Inquire a) (reply.Outcome outcome) → decision_in (shard_at t shard).decisions a ≡ Some outcome
  inquired_now shard a outcome h = by_time (replied_goes c at s t b shard (request.Inquire a) (reply.Outcome outcome) h)
    where
      by_time : Replied s (Shard shard) (request.Inquire a) (reply.Outcome outcome) ⊎ ServesNow at s t shard (request.Inquire a) (reply.Outcome outcome) → decision_in (shard_at t shard).decisions a ≡ Some outcome
      by_time (inl r) = (decisions_stay c at s t b.event).each shard a outcome (d.inquired shard a outcome r)
      by_time (inr r) = (decisions_stay c at s t b.event).each shard a outcome (inquired_told (shard_at s shard) at.latest a outcome (sym r.replies))

-- decisions are kept so through every event
pub decided_keeps : (c : Config) (at : Reading) (s t : State) → Between c at s t → AllJust s → AllDecided s → AllDecided t
decided_keeps c at s t b j d = record {
  at = at_now c at s t b j d;
  before = before_now c at s t b j d;
  known = known_now c at s t b j d;
  decided = decided_now c at s t b j d;
  inquired = inquired_now c at s t b j d;
}
