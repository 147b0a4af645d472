-- When stages and stubs can go on.
use Rattle.std.proofs.Common.{◌≡◌, ℕ, zero, suc, ◌+◌, ◌<◌, ◌≤◌, Bool, true, false, ◌||◌, List, [], ◌∷◌, length, get_or, drop, Option, Some, None, refl, ap, ◌∙◌, arith, if◌then◌else◌}
use Rattle.std.specs.List.{list_any}
use Rattle.pipeline_lang.specs.declared.config.Config.{Config}
use Rattle.pipeline_lang.specs.declared.script.Statement.TheVariants as statement
use Rattle.rss_model.specs.Cursor.{NumberedStatement}
use Rattle.rss_tables.specs.Lines.{Line, no_line}
use Rattle.rss_tables.specs.TransactionSession.{waiting_time}
use Rattle.rss_machine.specs.Effect.{waking_line}
use Rattle.rss_machine.specs.Enabling.{act_enabling, owner_enabling, session_enabling, txn_enabling, stub_waits, stub_enabling_of, can_make, can_wake, whether, next_statement}
use Rattle.rss_machine.specs.Session.{Session}
use Rattle.rss_machine.specs.Standing.{is_running}
use Rattle.rss_machine.specs.State.{State, Owner, stage_at, owner_at}
use Rattle.rss_machine.specs.declared.session.Session.TheVariants as session
use Rattle.rss_machine.specs.declared.state.Life.TheVariants.{Live}
use Rattle.rss_machine.specs.declared.turn.Enabling.{Enabling}
use Rattle.rss_machine.specs.declared.turn.Enabling.TheVariants.{Never}
use Rattle.turn_laws.specs.Turns.{lines_in}
use Rattle.owner_turns.specs.declared.reading.OwnerEnabling.TheVariants as enabled
use Rattle.owner_turns.specs.Asked.{enabling_in, session_enabling_in, after_or, enabling_as, stub_enabling_in, unless_started}
use Rattle.world_machine.specs.declared.machine.Machine.{Machine}
use Rattle.world_machine.specs.Asking.{CanAsk}
use Rattle.world_machine.specs.Machine.{state_of}
use Rattle.world_machine.specs.Statements.{PipesFit}

-- a live stage
pub live_idle : (c : Config) (s : State) (n : ℕ) (may : Bool) → (stage_at s n).life ≡ Live → (stage_at s n).owner ≡ None → may ≡ can_make c s (next_statement c s n) → act_enabling c s n ≡ whether may
live_idle c s n may live idle e = rw (live, idle, e) refl

pub live_owner : (c : Config) (s : State) (n o : ℕ) (e : Enabling) → (stage_at s n).life ≡ Live → (stage_at s n).owner ≡ Some o → e ≡ owner_enabling s (owner_at s o).works.wait (owner_at s o).session → act_enabling c s n ≡ e
live_owner c s n o e live owned q = rw (live, owned, q) refl

-- an owner
by_time : (s : State) (time : Option ℕ) (lines : List Line) → txn_enabling s time lines ≡ enabling_as s lines (after_or time enabled.Lines)
by_time s (Some time) lines = refl
by_time s None lines = refl

by_session : (s : State) (x : Session) → session_enabling s x ≡ enabling_as s (lines_in x) (session_enabling_in x)
by_session s (session.Transaction t) = by_time s (waiting_time t t.phase) t.lines
by_session s (session.Snapshot t) = refl
by_session s session.Idle = refl
by_session s (session.Fixing r) = refl
by_session s (session.Register r) = refl
by_session s (session.Settling attempt shards) = refl

by_wait : (s : State) (wait : Option ℕ) (x : Session) → owner_enabling s wait x ≡ enabling_as s (lines_in x) (after_or wait (session_enabling_in x))
by_wait s (Some time) x = refl
by_wait s None x = by_session s x

pub enabling_told : (s : State) (w : Owner) → owner_enabling s w.works.wait w.session ≡ enabling_as s (lines_in w.session) (enabling_in w)
enabling_told s w = by_wait s w.works.wait w.session

-- a stub
by_started : (s : State) (started : Bool) (wait : Option ℕ) → stub_waits started wait ≡ enabling_as s [] (unless_started started wait)
by_started s false wait = refl
by_started s true None = refl
by_started s true (Some time) = refl

by_running : (s : State) (running started : Bool) (wait : Option ℕ) → (if running then stub_waits started wait else Never) ≡ enabling_as s [] (if running then unless_started started wait else enabled.Never)
by_running s true started wait = by_started s started wait
by_running s false started wait = refl

pub stub_told : (s : State) (o : ℕ) → stub_enabling_of s (Some o) ≡ enabling_as s [] (stub_enabling_in (owner_at s o))
stub_told s o = by_running s (is_running (owner_at s o).fate) (owner_at s o).started (owner_at s o).works.wait

-- lines that can wake, one after another
drop_there : {X : Type 0} (xs : List X) (i : ℕ) (d : X) → i < length xs → drop i xs ≡ get_or xs i d ∷ drop (i + 1) xs
drop_there [] i d h = absurd (omega (arith, h))
drop_there (x ∷ xs) zero d h = refl
drop_there (x ∷ xs) (suc i) d h = let e : suc i + 1 ≡ suc (i + 1) = omega arith in rw e (drop_there xs i d (omega (arith, h)))

pub wakes_next : (s : State) (lines : List Line) (i : ℕ) → i < length lines → waking_line s (drop i lines) ≡ (if can_wake s (get_or lines i no_line) then Some (get_or lines i no_line) else waking_line s (drop (i + 1) lines))
wakes_next s lines i h = ap (waking_line s) (drop_there lines i no_line h)

pub any_next : (s : State) (lines : List Line) (i : ℕ) → i < length lines → list_any (can_wake s) (drop i lines) ≡ (can_wake s (get_or lines i no_line) || list_any (can_wake s) (drop (i + 1) lines))
any_next s lines i h = ap (list_any (can_wake s)) (drop_there lines i no_line h)

drop_all : {X : Type 0} (xs : List X) → drop (length xs) xs ≡ []
drop_all [] = refl
drop_all (x ∷ xs) = drop_all xs

pub wakes_none : (s : State) (lines : List Line) (i : ℕ) → i ≡ length lines → waking_line s (drop i lines) ≡ None
wakes_none s lines i e = ap (λ (j : ℕ). waking_line s (drop j lines)) e ∙ ap (waking_line s) (drop_all lines)

pub any_none : (s : State) (lines : List Line) (i : ℕ) → i ≡ length lines → list_any (can_wake s) (drop i lines) ≡ false
any_none s lines i e = ap (λ (j : ℕ). list_any (can_wake s) (drop j lines)) e ∙ ap (list_any (can_wake s)) (drop_all lines)

-- the statement that comes next puts into a pipe of the file
by_statement : (m : Machine) (n : ℕ) (st : NumberedStatement) → 1 ≤ n → CanAsk m → next_statement m.config (state_of m) n ≡ st → PipesFit m.config st
by_statement m n (statement.Put p value) first h e = let q = h.file.pipes.put n (stage_at (state_of m) n).cursor.position p value first e in (q.1, q.2)
by_statement m n (statement.Let variable value) first h e = tt
by_statement m n (statement.Read variable key) first h e = tt
by_statement m n (statement.Write key value) first h e = tt
by_statement m n (statement.Snap pairs) first h e = tt
by_statement m n (statement.Txn pairs guard writes) first h e = tt
by_statement m n (statement.Spawn child) first h e = tt
by_statement m n (statement.Wait child) first h e = tt
by_statement m n (statement.Take variable p) first h e = tt
by_statement m n (statement.Close p) first h e = tt
by_statement m n statement.Fence first h e = tt
by_statement m n (statement.Repeat times) first h e = tt
by_statement m n (statement.When test) first h e = tt
by_statement m n statement.End first h e = tt
by_statement m n statement.Exit first h e = tt

pub fits_next : (m : Machine) (n : ℕ) → 1 ≤ n → CanAsk m → PipesFit m.config (next_statement m.config (state_of m) n)
fits_next m n first h = by_statement m n (next_statement m.config (state_of m) n) first h refl
