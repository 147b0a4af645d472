-- How works go on in a step: which fences owe nothing, and what comes next.
use Rattle.std.specs.Prelude.{ℕ, Bool, true, false, List, [], ◌∷◌, drop, nat_lt, Option, Some, None, if◌then◌else◌}
use Rattle.rss_names.specs.declared.service.ServiceId.{ServiceId}
use Rattle.causal_context.specs.Seen.{after_fence}
use Rattle.truetime.specs.Reading.{Reading}
use Rattle.rss_tables.specs.Works.{Works}
use Rattle.rss_tables.specs.declared.fences.FenceWork.{FenceWork}
use Rattle.rss_tables.specs.declared.fences.FenceWork.TheVariants.{Nothing, Past, Fix}
use Rattle.session_stub.specs.declared.works.Next.{Next}
use Rattle.session_stub.specs.declared.works.Next.TheVariants as next

-- works as callers see them, for how many fences of a new plan there is room, and for how many more dependencies of the copy
pub record WorksView : Type 0 where
  pub works : Works
  pub room : ℕ

-- the first of the works left, the fence of this service, has ended
abbrev pub passed : Works → ServiceId → Works
passed w id = record w { copy = after_fence w.copy id; left = drop 1 w.left; wait = None }

-- the first of these has ended, if there is one
abbrev pub first_ended : Works → List (ServiceId × FenceWork) → Works
first_ended w [] = w
first_ended w (x ∷ works) = passed w x.0

-- whether the first of these owes nothing, or its time has passed
abbrev pub first_passes : Reading → List (ServiceId × FenceWork) → Bool
first_passes at [] = false
first_passes at ((id, Nothing) ∷ works) = true
first_passes at ((id, Past time) ∷ works) = nat_lt time at.earliest
first_passes at ((id, Fix) ∷ works) = false

-- works when the fences that owe nothing have ended, where these are left: they may wait for a time then
abbrev pub through_works : Reading → Works → List (ServiceId × FenceWork) → Works
through_works at w [] = w
through_works at w ((id, Nothing) ∷ works) = through_works at (passed w id) works
through_works at w ((id, Past time) ∷ works) =
    if nat_lt time at.earliest then through_works at (passed w id) works else record w { wait = Some time }
through_works at w ((id, Fix) ∷ works) = w

-- what comes next then
abbrev pub next_work : Reading → List (ServiceId × FenceWork) → Next
next_work at [] = next.Over
next_work at ((id, Nothing) ∷ works) = next_work at works
next_work at ((id, Past time) ∷ works) = if nat_lt time at.earliest then next_work at works else next.Waits time
next_work at ((id, Fix) ∷ works) = next.Fix id

-- the same where the first of the works left does not pass
abbrev pub stopped : Works → List (ServiceId × FenceWork) → Works
stopped w [] = w
stopped w ((id, Nothing) ∷ works) = w
stopped w ((id, Past time) ∷ works) = record w { wait = Some time }
stopped w ((id, Fix) ∷ works) = w

abbrev pub stopped_at : List (ServiceId × FenceWork) → Next
stopped_at [] = next.Over
stopped_at ((id, Nothing) ∷ works) = next.Over
stopped_at ((id, Past time) ∷ works) = next.Waits time
stopped_at ((id, Fix) ∷ works) = next.Fix id

-- the first of these, if there is one
abbrev pub first_of : List (ServiceId × FenceWork) → Option (ServiceId × FenceWork)
first_of [] = None
first_of (x ∷ works) = Some x
