-- What is known of calls at a moment of a run.
use Rattle.std.specs.Prelude.{◌≡◌, ℕ, ◌≤◌, Bool, true, false, ◌||◌, ◌==◌}
use Rattle.rss_names.specs.declared.service.ServiceId.{ServiceId}
use Rattle.rss_names.specs.declared.service.ServiceId.TheVariants.{Reg}
use Rattle.carstamps.specs.declared.carstamp.Carstamp.{Carstamp}
use Rattle.causal_context.specs.declared.dep.Dep.{Dep}

-- a call that has ended: its service, its time where that is a transaction service, and its register and stamp where it is a register service
pub record EndedCall : Type 0 where
  pub service : ServiceId
  pub time : ℕ
  pub register : ℕ
  pub stamp : Carstamp

-- what is known at a moment
pub record View : Type 0 where
  -- which calls have ended, and what they were
  pub ended : ℕ → Bool
  pub call : ℕ → EndedCall
  -- whether the step of a call has come
  pub come : ℕ → Bool
  -- whether the step of a call comes before that of a time: no later than some step whose true moment is at most the time
  pub before : ℕ → ℕ → Bool
  -- the service of a register
  pub home : ℕ → ServiceId
  -- whether a dependency is on a value that was written so
  pub sound : Dep → Bool

-- what every view keeps to
pub record IsView (v : View) : Type 0 where
  -- a call that comes before a time comes before each later one
  pub rises : (a t u : ℕ) → t ≤ u → v.before a t ≡ true → v.before a u ≡ true
  -- a call of a register service is on one of its registers
  pub at_home : (a n : ℕ) → v.ended a ≡ true → (v.call a).service ≡ Reg n → v.home (v.call a).register ≡ Reg n

-- the second view is a later one
pub record Grows (v w : View) : Type 0 where
  pub ended : (a : ℕ) → v.ended a ≡ true → w.ended a ≡ true
  pub call : (a : ℕ) → v.ended a ≡ true → w.call a ≡ v.call a
  pub come : (a : ℕ) → v.ended a ≡ true → v.come a ≡ true → w.come a ≡ true
  pub before : (a t : ℕ) → v.ended a ≡ true → v.before a t ≡ true → w.before a t ≡ true
  pub home : (r : ℕ) → w.home r ≡ v.home r
  pub sound : (d : Dep) → v.sound d ≡ true → w.sound d ≡ true

-- no call
abbrev pub nobody : ℕ → Bool
nobody a = false

-- the calls of one or the other
abbrev pub either : (ℕ → Bool) → (ℕ → Bool) → ℕ → Bool
either calls others a = calls a || others a

-- these calls and one more
abbrev pub and_one : ℕ → (ℕ → Bool) → ℕ → Bool
and_one call calls a = (a == call) || calls a
