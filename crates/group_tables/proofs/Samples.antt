-- Runs of a group, computed.
use Rattle.std.specs.Prelude.{ℕ, ◌≡◌, List, [], ◌∷◌, ◌++◌, map, Some, None, refl}
use Rattle.std.specs.Option.{option_map}
use Rattle.group_tables.specs.declared.messages.Slot.{Slot}
use Rattle.group_tables.specs.declared.steps.GroupStep.{GroupStep}
use Rattle.group_tables.specs.declared.steps.GroupStep.TheVariants.{Lead, Propose, Crash, Go, Lose, Again}
use Rattle.group_tables.specs.Groups.{Group, Member}
use Rattle.group_tables.specs.Ballots.{taken_from}
use Rattle.group_tables.specs.Steps.{run_from, group_run}

-- what was applied, and by whom how much
abbrev pub seen : Group → List ℕ × List ℕ
seen g = (g.told, map (λ (x : Member). x.applied) g.members)

-- the requests that each member has in its slots
abbrev pub held : Group → List (List ℕ)
held g = map (λ (x : Member). map (λ (s : Slot). s.request) x.slots) g.members

-- two leaders, of whom the first crashes
abbrev pub second_leader : List GroupStep
second_leader = Lead 1 ∷ Go 1 ∷ Go 3 ∷ Propose 1 1 ∷ Go 4 ∷ Go 6 ∷ Propose 1 2 ∷ Go 9 ∷ Crash 1 ∷ Lead 3 ∷ Go 13 ∷ Go 14 ∷ Go 16 ∷ Go 18 ∷ Go 19 ∷ Go 20 ∷ []

pub second_leader_applies_both : option_map seen (group_run 3 3 second_leader) ≡ Some (1 ∷ 2 ∷ [], 0 ∷ 0 ∷ 2 ∷ [])
unfolding run_from taken_from
second_leader_applies_both = refl

pub a_follower_cannot_propose : group_run 3 3 (Propose 1 1 ∷ []) ≡ None
unfolding run_from
a_follower_cannot_propose = refl

-- a put below the promise is not kept
abbrev pub late_put : List GroupStep
late_put = Lead 1 ∷ Go 1 ∷ Lead 3 ∷ Go 5 ∷ Go 3 ∷ Go 6 ∷ Propose 3 2 ∷ Propose 1 1 ∷ Go 8 ∷ Go 10 ∷ []

pub late_put_is_not_kept : option_map held (group_run 3 3 late_put) ≡ Some ((1 ∷ []) ∷ (2 ∷ []) ∷ (2 ∷ []) ∷ [])
unfolding run_from taken_from
late_put_is_not_kept = refl

-- who keeps a slot is not counted for the one before it
abbrev pub kept_behind : List GroupStep
kept_behind = Lead 1 ∷ Go 2 ∷ Go 1 ∷ Go 3 ∷ Propose 1 2 ∷ Go 4 ∷ Crash 3 ∷ Lead 2 ∷ Go 7 ∷ Go 9 ∷ Propose 2 1 ∷ Propose 2 2 ∷ Go 12 ∷ Go 16 ∷ []

pub kept_behind_applies_nothing : option_map seen (group_run 3 3 kept_behind) ≡ Some ([], 0 ∷ 0 ∷ 0 ∷ [])
unfolding run_from taken_from
kept_behind_applies_nothing = refl

-- of two entries of a slot a new leader takes that of the greater ballot, though its own is another
abbrev pub two_entries : List GroupStep
two_entries = Lead 1 ∷ Go 1 ∷ Go 3 ∷ Propose 1 1 ∷ Lead 3 ∷ Go 7 ∷ Go 8 ∷ Propose 3 2 ∷ Go 10 ∷ Lead 1 ∷ Go 12 ∷ Go 14 ∷ []

pub greater_entry_is_taken : option_map held (group_run 3 3 two_entries) ≡ Some ((2 ∷ []) ∷ (2 ∷ []) ∷ (2 ∷ []) ∷ [])
unfolding run_from taken_from
greater_entry_is_taken = refl

-- a promise outlives a crash
abbrev pub crash_after_promise : List GroupStep
crash_after_promise = Lead 1 ∷ Go 1 ∷ Go 3 ∷ Lead 3 ∷ Go 5 ∷ Crash 2 ∷ Propose 1 1 ∷ Go 7 ∷ []

pub promise_outlives_crash : option_map held (group_run 3 3 crash_after_promise) ≡ Some ((1 ∷ []) ∷ [] ∷ [] ∷ [])
unfolding run_from taken_from
promise_outlives_crash = refl

-- what is learnt is applied only where it is held under that ballot
abbrev pub other_ballot : List GroupStep
other_ballot = Lead 3 ∷ Go 1 ∷ Go 3 ∷ Propose 3 2 ∷ Lead 1 ∷ Go 6 ∷ Go 8 ∷ Propose 1 1 ∷ Go 9 ∷ Go 11 ∷ Go 13 ∷ []

pub other_ballot_is_not_applied : option_map seen (group_run 3 3 other_ballot) ≡ Some (1 ∷ [], 1 ∷ 0 ∷ 0 ∷ [])
unfolding run_from taken_from
other_ballot_is_not_applied = refl

-- a leader that crashes between a put and its answer: the answer finds a follower, and the next leader puts the
-- request that it has
abbrev pub crash_before_kept : List GroupStep
crash_before_kept = Lead 1 ∷ Go 1 ∷ Go 3 ∷ Propose 1 1 ∷ Go 4 ∷ Crash 1 ∷ Go 6 ∷ Lead 2 ∷ Go 8 ∷ Go 9 ∷ Go 11 ∷ Go 12 ∷ []

pub next_leader_applies_it : option_map seen (group_run 3 3 crash_before_kept) ≡ Some (1 ∷ [], 0 ∷ 1 ∷ 0 ∷ [])
unfolding run_from taken_from
next_leader_applies_it = refl

-- one answer applies one slot, and its repetition the next
abbrev pub repeated_kept : List GroupStep
repeated_kept = Lead 1 ∷ Go 1 ∷ Go 3 ∷ Propose 1 1 ∷ Propose 1 2 ∷ Go 4 ∷ Go 6 ∷ Go 9 ∷ Go 8 ∷ []

pub one_at_once : option_map seen (group_run 3 3 repeated_kept) ≡ Some (1 ∷ [], 1 ∷ 0 ∷ 0 ∷ [])
unfolding run_from taken_from
one_at_once = refl

pub repetition_applies_next : option_map seen (group_run 3 3 (repeated_kept ++ Again 8 ∷ [])) ≡ Some (1 ∷ 2 ∷ [], 2 ∷ 0 ∷ 0 ∷ [])
unfolding run_from taken_from
repetition_applies_next = refl

-- a vow that comes when the candidate already leads changes nothing
abbrev pub late_vow : List GroupStep
late_vow = Lead 1 ∷ Go 1 ∷ Go 2 ∷ Go 3 ∷ Propose 1 1 ∷ Go 4 ∷ Go 6 ∷ Go 7 ∷ []

pub late_vow_changes_nothing : option_map seen (group_run 3 3 late_vow) ≡ Some (1 ∷ [], 1 ∷ 0 ∷ 0 ∷ [])
unfolding run_from taken_from
late_vow_changes_nothing = refl

-- of five members three are a majority
abbrev pub two_of_five : List GroupStep
two_of_five = Lead 1 ∷ Go 1 ∷ Go 2 ∷ Go 5 ∷ Go 6 ∷ Propose 1 1 ∷ Go 7 ∷ Go 11 ∷ []

pub two_of_five_apply_nothing : option_map seen (group_run 5 3 two_of_five) ≡ Some ([], 0 ∷ 0 ∷ 0 ∷ 0 ∷ 0 ∷ [])
unfolding run_from taken_from
two_of_five_apply_nothing = refl

pub three_of_five_apply : option_map seen (group_run 5 3 (two_of_five ++ Go 8 ∷ Go 12 ∷ [])) ≡ Some (1 ∷ [], 1 ∷ 0 ∷ 0 ∷ 0 ∷ 0 ∷ [])
unfolding run_from taken_from
three_of_five_apply = refl

-- a message is repeated once
pub repeated_once : group_run 3 3 (Lead 1 ∷ Go 1 ∷ Again 1 ∷ Again 1 ∷ []) ≡ None
unfolding run_from
repeated_once = refl

-- a lost message does not arrive
pub lost_once : group_run 3 3 (Lead 1 ∷ Lose 1 ∷ Go 1 ∷ []) ≡ None
unfolding run_from
lost_once = refl
