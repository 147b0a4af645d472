-- What is known of calls after some readings of the clock, one for each step.
use Rattle.std.specs.Prelude.{◌≡◌, ℕ, ◌≤◌, Bool, true, ◌&&◌, nat_le, List, length, take}
use Rattle.rss_names.specs.declared.service.ServiceId.{ServiceId}
use Rattle.causal_context.specs.declared.dep.Dep.{Dep}
use Rattle.truetime.specs.Reading.{Reading}
use Rattle.truetime.specs.TrueMoment.{true_moment}
use Rattle.coupling_laws.specs.Calls.{EndedCall, View}

-- the true moment after the first steps
abbrev pub moment_at : List Reading → ℕ → ℕ
moment_at readings step = true_moment (take step readings)

-- the calls that have ended, what they were and at which step each stands, the service of each register, and which dependencies are sound
pub record Steps : Type 0 where
  pub ended : ℕ → Bool
  pub call : ℕ → EndedCall
  pub step : ℕ → ℕ
  pub home : ℕ → ServiceId
  pub sound : Dep → Bool

-- a call has come where its step is one of those made, and comes before a time where the true moment at its step is at most that time
abbrev pub view_after : List Reading → Steps → View
view_after readings s = record {
  ended = s.ended;
  call = s.call;
  come = λ a. nat_le (s.step a) (length readings);
  before = λ a t. nat_le (s.step a) (length readings) && nat_le (moment_at readings (s.step a)) t;
  home = s.home;
  sound = s.sound;
}

-- the second are the calls at a later moment: what was known stays, and the step of a call that had come is the same
pub record StepsGrow (readings : List Reading) (s t : Steps) : Type 0 where
  pub ended : (a : ℕ) → s.ended a ≡ true → t.ended a ≡ true
  pub call : (a : ℕ) → s.ended a ≡ true → t.call a ≡ s.call a
  pub step : (a : ℕ) → s.ended a ≡ true → s.step a ≤ length readings → t.step a ≡ s.step a
  pub home : (r : ℕ) → t.home r ≡ s.home r
  pub sound : (d : Dep) → s.sound d ≡ true → t.sound d ≡ true
