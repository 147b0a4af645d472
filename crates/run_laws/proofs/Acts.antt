-- In an act the line that wakes sleeps, and the time that is waited for has passed.
use Rattle.std.proofs.Common.{◌≡◌, ℕ, ◌<◌, Bool, true, false, List, [], ◌∷◌, Option, Some, None, refl, sym, subst}
use Rattle.std.specs.Prelude.{is_some, if◌then◌else◌}
use Rattle.std.proofs.lemmas.Bool.{ltb-true, true≢false}
use Rattle.truetime.specs.Reading.{Reading}
use Rattle.pipeline_lang.specs.declared.config.Config.{Config}
use Rattle.rss_wire.specs.declared.messages.Holder.{Holder}
use Rattle.rss_tables.specs.Lines.{Line, asleep_on}
use Rattle.rss_machine.specs.Effect.{waking_line}
use Rattle.rss_machine.specs.Enabling.{can_wake, is_decided_at, owner_enabling, txn_enabling, live_enabling, is_enabled_at}
use Rattle.rss_machine.specs.Refusal.{kind_refusal, unless_enabled}
use Rattle.rss_machine.specs.Session.{Session}
use Rattle.rss_machine.specs.Standing.{is_live, is_over}
use Rattle.rss_machine.specs.State.{State, stage_at, owner_at}
use Rattle.rss_machine.specs.declared.session.Session.TheVariants as session
use Rattle.rss_machine.specs.declared.step.StepKind.TheVariants.{Act}
use Rattle.rss_machine.specs.declared.step.StepRefusal.TheVariants.{StageOver}
use Rattle.rss_machine.specs.declared.turn.Enabling.{Enabling}
use Rattle.rss_machine.specs.declared.turn.Enabling.TheVariants.{Never, After}
use Rattle.world_laws.proofs.Looks.{some_is, none_is_not, some_is_not}
use Rattle.run_laws.specs.Laws.{time_awaited}

decided_some : (s : State) (x : Option Holder) → is_decided_at s x ≡ true → is_some x ≡ true
decided_some s None e = absurd (true≢false (sym e))
decided_some s (Some h) e = refl

pub waking_sleeps : (s : State) (lines : List Line) (l : Line) → waking_line s lines ≡ Some l → is_some (asleep_on l.state) ≡ true
waking_sleeps s [] l e = absurd (none_is_not l e)
waking_sleeps s (x ∷ lines) l e = by_test (waking_sleeps s lines l) (can_wake s x) refl e
  where
    by_test : (waking_line s lines ≡ Some l → is_some (asleep_on l.state) ≡ true) → (t : Bool) → can_wake s x ≡ t → (if t then Some x else waking_line s lines) ≡ Some l → is_some (asleep_on l.state) ≡ true
    by_test r true q p = subst (λ (y : Line). is_some (asleep_on y.state) ≡ true) (some_is x l p) (decided_some s (asleep_on x.state) q)
    by_test r false q p = r p

enabled_now : (earliest : ℕ) (over live : Bool) (x : Enabling) → (if over then Some StageOver else unless_enabled (is_enabled_at (if live then x else Never) earliest)) ≡ None → is_enabled_at x earliest ≡ true
enabled_now earliest true live x e = absurd (some_is_not StageOver e)
enabled_now earliest false true x e = by_test (is_enabled_at x earliest) e
  where
    by_test : (t : Bool) → unless_enabled t ≡ None → t ≡ true
    by_test true p = refl
    by_test false p = absurd (some_is_not _ p)
enabled_now earliest false false x e = absurd (some_is_not _ e)

after_passed : (earliest time : ℕ) → is_enabled_at (After time) earliest ≡ true → time < earliest
after_passed earliest time e = ltb-true time earliest e

awaited_passed : (s : State) (earliest time : ℕ) (wait : Option ℕ) (x : Session) → is_enabled_at (owner_enabling s wait x) earliest ≡ true → time_awaited wait x ≡ Some time → time < earliest
awaited_passed s earliest time (Some t) x e q = after_passed earliest time (subst (λ (i : ℕ). is_enabled_at (After i) earliest ≡ true) (some_is t time q) e)
awaited_passed s earliest time None (session.Transaction t) e q = after_passed earliest time (subst (λ (w : Option ℕ). is_enabled_at (txn_enabling s w t.lines) earliest ≡ true) q e)
awaited_passed s earliest time None session.Idle e q = absurd (none_is_not time q)
awaited_passed s earliest time None (session.Fixing r) e q = absurd (none_is_not time q)
awaited_passed s earliest time None (session.Register r) e q = absurd (none_is_not time q)
awaited_passed s earliest time None (session.Snapshot t) e q = absurd (none_is_not time q)
awaited_passed s earliest time None (session.Settling attempt shards) e q = absurd (none_is_not time q)

pub times_passed : (c : Config) (s : State) (at : Reading) (n o time : ℕ) → kind_refusal c s at (Act n) ≡ None → (stage_at s n).owner ≡ Some o → time_awaited (owner_at s o).works.wait (owner_at s o).session ≡ Some time → time < at.earliest
times_passed c s at n o time r e q = awaited_passed s at.earliest time (owner_at s o).works.wait (owner_at s o).session (enabled_now at.earliest (is_over (stage_at s n).life) (is_live (stage_at s n).life) (live_enabling c s n (Some o)) (subst (λ (x : Option ℕ). (if is_over (stage_at s n).life then Some StageOver else unless_enabled (is_enabled_at (if is_live (stage_at s n).life then live_enabling c s n x else Never) at.earliest)) ≡ None) e r)) q
