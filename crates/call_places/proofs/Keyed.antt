-- The key of a call by its stamp or by its time.
use Rattle.std.proofs.Common.{◌≡◌, ℕ, ◌<◌, ◌≤◌, true, List, [], ◌∷◌, length, Option, Some, None, refl, sym, ap, ◌∙◌, arith}
use Rattle.carstamps.specs.declared.carstamp.Carstamp.{Carstamp}
use Rattle.rss_names.specs.declared.attempt.Attempt.{Attempt}
use Rattle.rss_names.specs.declared.service.Key.{Key}
use Rattle.rss_wire.specs.declared.messages.Holder.{Holder}
use Rattle.rss_tables.specs.Lines.{Line, coordinator_of}
use Rattle.rss_tables.specs.TransactionSession.{TxnSession, attempt_of}
use Rattle.rss_machine.specs.Places.{session_key, session_stamp, session_time, txn_key_of, register_key, register_key_of, is_absent, commit_of}
use Rattle.rss_machine.specs.Session.{Session}
use Rattle.rss_machine.specs.State.{State, Owner, owner_at, no_owner}
use Rattle.rss_machine.specs.declared.session.Session.TheVariants as session
use Rattle.owner_turns.specs.Asked.{time_at, holder_of, is_read_under}
use Rattle.place_facts.specs.Facts.{PlaceFacts}
use Rattle.call_places.specs.Decided.{decided_for, decided_by, CoordinatorThere}

-- where a transaction has lines, its attempt is told with its coordinator
told : (lines : List Line) (a : Attempt) → 0 < length lines → holder_of lines a ≡ Some record { attempt = a; coordinator = coordinator_of lines }
told [] a h = absurd (omega (arith, h))
told (l ∷ lines) a h = grind arith

told_there : (lines : List Line) (a : Attempt) (n : ℕ) (h : Holder) → 0 < length lines → coordinator_of lines ≤ n → holder_of lines a ≡ Some h → h.coordinator ≤ n
told_there [] a n h some few e = absurd (omega (arith, some))
told_there (l ∷ lines) a n h some few e = grind (arith, e, few)

there : (s : State) (h : PlaceFacts s) (o : ℕ) (x : Session) → (owner_at s o).session ≡ x → CoordinatorThere s x
there s h o (session.Transaction x) e r f = told_there x.lines (attempt_of x) (length s.shards) r (h.lines o x e) (h.coordinators o x e) f
there s h o (session.Snapshot x) e r f = grind (arith, f)
there s h o (session.Register x) e r f = grind (arith, f)
there s h o session.Idle e r f = grind (arith, f)
there s h o (session.Fixing x) e r f = grind (arith, f)
there s h o (session.Settling attempt shards) e r f = grind (arith, f)

-- the coordinator of a call is there
pub coordinated : (s : State) (o : ℕ) (w : Owner) → PlaceFacts s → w ≡ owner_at s o → CoordinatorThere s w.session
coordinated s o w h e = there s h o w.session (ap (λ (v : Owner). v.session) (sym e))

commit_told : (s : State) (h : PlaceFacts s) (o : ℕ) (x : TxnSession) → (owner_at s o).session ≡ session.Transaction x → decided_for s (session.Transaction x) ≡ commit_of s x
commit_told s h o x e = ap (decided_by s) (told x.lines (attempt_of x) (h.lines o x e)) ∙ sym (h.commits o x e)

-- a call without a stamp is placed by its time
timed_key : (s : State) (h : PlaceFacts s) (o : ℕ) (x : Session) → (owner_at s o).session ≡ x → session_stamp x (owner_at s o).stored ≡ None → session_key s o x ≡ txn_key_of s o (is_absent (decided_for s x)) (time_at (decided_for s x) x)
timed_key s h o (session.Transaction x) e f =
    ap (λ (t : Session). txn_key_of s o (is_absent (commit_of s x)) (session_time s t)) e
    ∙ ap (λ (d : Option ℕ). txn_key_of s o (is_absent d) (time_at d (session.Transaction x))) (sym (commit_told s h o x e))
timed_key s h o (session.Snapshot x) e f = ap (λ (t : Session). txn_key_of s o true (session_time s t)) e
timed_key s h o (session.Register r) e f = ap (register_key_of s o _) (ap (λ (t : Session). session_stamp t (owner_at s o).stored) e ∙ f)
timed_key s h o session.Idle e f = refl
timed_key s h o (session.Fixing r) e f = refl
timed_key s h o (session.Settling attempt shards) e f = refl

pub timed : (s : State) (o : ℕ) (w : Owner) → PlaceFacts s → w ≡ owner_at s o → session_stamp w.session w.stored ≡ None → session_key s o w.session ≡ txn_key_of s o (is_absent (decided_for s w.session)) (time_at (decided_for s w.session) w.session)
timed s o w h e f = timed_key s h o w.session (ap (λ (v : Owner). v.session) (sym e)) (ap (λ (v : Owner). session_stamp w.session v.stored) (sym e) ∙ f)

-- a call of a stamp on a register is placed by it
stamped_key : (s : State) (o : ℕ) (x : Session) (p : Key × Carstamp) → (owner_at s o).session ≡ x → session_stamp x (owner_at s o).stored ≡ Some p → session_key s o x ≡ Some (register_key s o (is_read_under x) p)
stamped_key s o (session.Register r) p e f = ap (register_key_of s o _) (ap (λ (t : Session). session_stamp t (owner_at s o).stored) e ∙ f)
stamped_key s o (session.Transaction x) p e f = grind (arith, f)
stamped_key s o (session.Snapshot x) p e f = grind (arith, f)
stamped_key s o session.Idle p e f = grind (arith, f)
stamped_key s o (session.Fixing r) p e f = grind (arith, f)
stamped_key s o (session.Settling attempt shards) p e f = grind (arith, f)

pub stamped : (s : State) (o : ℕ) (w : Owner) (p : Key × Carstamp) → w ≡ owner_at s o → session_stamp w.session w.stored ≡ Some p → session_key s o (owner_at s o).session ≡ Some (register_key s o (is_read_under w.session) p)
stamped s o w p e f =
    ap (λ (v : Owner). session_key s o v.session) (sym e)
    ∙ stamped_key s o w.session p (ap (λ (v : Owner). v.session) (sym e)) (ap (λ (v : Owner). session_stamp w.session v.stored) (sym e) ∙ f)

-- where no call began there is no key
pub keyed_nowhere : (s : State) (o : ℕ) → owner_at s o ≡ no_owner → session_key s o (owner_at s o).session ≡ None
keyed_nowhere s o e = ap (λ (v : Owner). session_key s o v.session) e
