-- When a request is chosen for a slot.
use Rattle.std.specs.Prelude.{◌≡◌, ℕ, ◌+◌, ◌-◌, ◌<◌, ◌≤◌, ◌⊎◌, List, length, take, slice_get, Some, None}
use Rattle.group_tables.specs.declared.messages.Ballot.{Ballot}
use Rattle.group_tables.specs.declared.messages.Slot.{Slot}
use Rattle.group_tables.specs.declared.steps.GroupStep.{GroupStep}
use Rattle.group_tables.specs.Groups.{Group, member_at, opening_group}
use Rattle.group_tables.specs.Steps.{group_refusal, group_run, happens}
use Rattle.group_laws.specs.Majority.{MajorityOf}
use Rattle.group_laws.specs.Sound.{IsSound}

-- groups have three or five members
abbrev pub IsSize : ℕ → Type 0
IsSize members = (members ≡ 3) ⊎ (members ≡ 5)

-- after so many of the steps a member has this in a slot
pub record HeldAfter (members requests : ℕ) (steps : List GroupStep) (m n : ℕ) (s : Slot) : Type 0 where
  pub made : ℕ
  pub group : Group
  pub runs : group_run members requests (take made steps) ≡ Some group
  pub holds : slice_get (member_at group m).slots (n - 1) ≡ Some s

-- a request is chosen for a slot: each member of a majority held it there under one ballot, after some step,
-- which need not be the same step for all of them
pub record IsChosen (members requests : ℕ) (steps : List GroupStep) (n i : ℕ) : Type 0 where
  pub ballot : Ballot
  pub held : MajorityOf members (λ (m : ℕ). HeldAfter members requests steps m n record { ballot = ballot; request = i })

-- what a member has applied is what was told of the first slots, and it holds it there
pub record HasInSlot (g : Group) (slots : List Slot) (k : ℕ) : Type 0 where
  pub slot : Slot
  pub there : slice_get slots k ≡ Some slot
  pub told : slice_get g.told k ≡ Some slot.request

pub record HasAppliedFirst (g : Group) (m : ℕ) : Type 0 where
  pub count : (member_at g m).applied ≤ length g.told
  pub each : (k : ℕ) → k < (member_at g m).applied → HasInSlot g (member_at g m).slots k

abbrev pub OneIsChosen : Type 0
OneIsChosen =
    (members requests : ℕ) (steps : List GroupStep) (n i j : ℕ) → IsSize members
    → IsChosen members requests steps n i → IsChosen members requests steps n j → i ≡ j

abbrev pub ToldAreChosen : Type 0
ToldAreChosen =
    (members requests : ℕ) (steps : List GroupStep) (g : Group) (k i : ℕ) → IsSize members → group_run members requests steps ≡ Some g
    → slice_get g.told k ≡ Some i → IsChosen members requests steps (k + 1) i

abbrev pub AppliedAreTold : Type 0
AppliedAreTold =
    (members requests : ℕ) (steps : List GroupStep) (g : Group) (m : ℕ) → IsSize members → group_run members requests steps ≡ Some g
    → 1 ≤ m → m ≤ members → HasAppliedFirst g m

abbrev pub StepsKeepGroupsSound : Type 0
StepsKeepGroupsSound = (g : Group) (s : GroupStep) → IsSound g → group_refusal g s ≡ None → IsSound (happens g s)

abbrev pub GroupsBeginSound : Type 0
GroupsBeginSound = (members requests : ℕ) → IsSize members → IsSound (opening_group members requests)
