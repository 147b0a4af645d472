-- What holds of a group after every list of steps.
use Rattle.std.specs.Prelude.{◌≡◌, ◌==◌, if◌then◌else◌, ℕ, ◌+◌, ◌-◌, ◌<◌, ◌≤◌, ◌⊎◌, [], ◌∷◌, List, length, get_or, slice_get, Some}
use Rattle.group_tables.specs.declared.messages.Ballot.{Ballot}
use Rattle.group_tables.specs.declared.messages.Slot.{Slot}
use Rattle.group_tables.specs.declared.messages.Body.{Body}
use Rattle.group_tables.specs.declared.messages.Body.TheVariants.{Seek, Vow, Put, Kept, Learn}
use Rattle.group_tables.specs.Groups.{Group, Member, Heard, Note, Role, Sent, follower, candidate, leader, member_at, new_member, no_sent}
use Rattle.group_laws.specs.Majority.{MajorityOf}
use Rattle.group_laws.specs.Order.{IsBelow, IsUpTo}
use Rattle.group_laws.specs.Said.{Says, IsSaid, Voted, IsRouted}

-- a list of slots has something at a slot, under this ballot or a greater one
pub record HasUnder (slots : List Slot) (n : ℕ) (b : Ballot) : Type 0 where
  pub slot : Slot
  pub there : slice_get slots (n - 1) ≡ Some slot
  pub least : IsUpTo b slot.ballot

-- a number is none of these
abbrev pub IsNoneOf : ℕ → List ℕ → Type 0
IsNoneOf m [] = Unit {0}
IsNoneOf m (k ∷ ks) = (m ≡ k → ⊥) × IsNoneOf m ks

-- all of these are different
abbrev pub AreApart : List ℕ → Type 0
AreApart [] = Unit {0}
AreApart (k ∷ ks) = IsNoneOf k ks × AreApart ks

-- a vow of a member that has promised so much: it tells all for which the member voted under lesser ballots
pub record IsVow (sent : List Sent) (m : ℕ) (promised b : Ballot) (slots : List Slot) : Type 0 where
  pub promise : IsUpTo b promised
  pub below : (k : ℕ) (s : Slot) → slice_get slots k ≡ Some s → IsBelow s.ballot b
  pub put : (k : ℕ) (s : Slot) → slice_get slots k ≡ Some s → IsSaid sent (Put s.ballot (k + 1) s.request)
  pub covers : (c : Ballot) (n : ℕ) → Voted sent m c n → IsBelow c b → HasUnder slots n c

-- the slots of a member that has promised so much, and its vows
pub record IsLog (sent : List Sent) (m : ℕ) (promised : Ballot) (slots : List Slot) : Type 0 where
  pub below : (k : ℕ) (s : Slot) → slice_get slots k ≡ Some s → IsUpTo s.ballot promised
  pub put : (k : ℕ) (s : Slot) → slice_get slots k ≡ Some s → IsSaid sent (Put s.ballot (k + 1) s.request)
  pub voted : (k : ℕ) (s : Slot) → slice_get slots k ≡ Some s → Voted sent m s.ballot (k + 1)
  pub stays : (b : Ballot) (n : ℕ) → Voted sent m b n → HasUnder slots n b
  pub vow : (b : Ballot) (told : List Slot) → Says sent m (Vow b told) → IsVow sent m promised b told

abbrev pub members_of : List Heard → List ℕ
members_of [] = []
members_of (h ∷ heard) = h.member ∷ members_of heard

-- who of the noted ones is noted for a slot
abbrev pub noted_for : ℕ → List Note → List ℕ
noted_for n [] = []
noted_for n (k ∷ notes) = if k.slot == n then k.member ∷ noted_for n notes else noted_for n notes

-- a candidate: its ballot is its own and put nothing yet, and whom it heard vowed by it
pub record IsCandidate (sent : List Sent) (m : ℕ) (promised : Ballot) (slots : List Slot) (heard : List Heard) : Type 0 where
  pub own : promised.member ≡ m
  pub below : (k : ℕ) (s : Slot) → slice_get slots k ≡ Some s → IsBelow s.ballot promised
  pub nothing : (n i : ℕ) → IsSaid sent (Put promised n i) → ⊥
  pub vowed : (k : ℕ) (h : Heard) → slice_get heard k ≡ Some h → Says sent h.member (Vow promised h.slots)
  pub apart : AreApart (m ∷ members_of heard)

-- a leader: all its slots are under its ballot, which put nothing else, and who is noted for a slot voted there
pub record IsLeader (sent : List Sent) (m : ℕ) (promised : Ballot) (slots : List Slot) (notes : List Note) : Type 0 where
  pub own : promised.member ≡ m
  pub under : (k : ℕ) (s : Slot) → slice_get slots k ≡ Some s → s.ballot ≡ promised
  pub all : (n i : ℕ) → IsSaid sent (Put promised n i) → slice_get slots (n - 1) ≡ Some record { ballot = promised; request = i }
  pub noted : (k : ℕ) (x : Note) → slice_get notes k ≡ Some x → Says sent x.member (Kept promised x.slot)
  pub apart : (n : ℕ) → AreApart (m ∷ noted_for n notes)

abbrev pub IsInRole : List Sent → ℕ → Ballot → List Slot → Role → Type 0
IsInRole sent m promised slots follower = Unit {0}
IsInRole sent m promised slots (candidate heard) = IsCandidate sent m promised slots heard
IsInRole sent m promised slots (leader notes) = IsLeader sent m promised slots notes

abbrev pub promise_at : List Member → ℕ → Ballot
promise_at members m = (get_or members (m - 1) new_member).promised

abbrev pub ballot_of : Body → Ballot
ballot_of (Seek b) = b
ballot_of (Vow b slots) = b
ballot_of (Put b n i) = b
ballot_of (Kept b n) = b
ballot_of (Learn b n) = b

-- a member has not voted under this ballot at this slot, and never will
pub record IsBlocked (sent : List Sent) (members : List Member) (b : Ballot) (n m : ℕ) : Type 0 where
  pub above : IsBelow b (promise_at members m)
  pub never : Voted sent m b n → ⊥

-- a majority voted under this ballot at this slot
abbrev pub IsVoted : Group → Ballot → ℕ → Type 0
IsVoted g b n = MajorityOf (length g.members) (λ (m : ℕ). Voted g.sent m b n)

-- a majority never will
abbrev pub IsStuck : Group → Ballot → ℕ → Type 0
IsStuck g b n = MajorityOf (length g.members) (λ (m : ℕ). IsBlocked g.sent g.members b n m)

-- a majority has promised this ballot or a greater one
abbrev pub IsPromised : Group → Ballot → Type 0
IsPromised g b = MajorityOf (length g.members) (λ (m : ℕ). IsUpTo b (promise_at g.members m))

-- what the messages of a group say
pub record IsNet (g : Group) : Type 0 where
  pub routed : (k : ℕ) → k < length g.sent → IsRouted (length g.members) (get_or g.sent k no_sent)
  pub begun : (body : Body) → IsSaid g.sent body → IsUpTo (ballot_of body) (promise_at g.members (ballot_of body).member)
  pub one : (b : Ballot) (n i j : ℕ) → IsSaid g.sent (Put b n i) → IsSaid g.sent (Put b n j) → i ≡ j
  pub kept : (b : Ballot) (n : ℕ) → IsSaid g.sent (Kept b n) → (i : ℕ) × IsSaid g.sent (Put b n i)
  pub promised : (b : Ballot) (n i : ℕ) → IsSaid g.sent (Put b n i) → IsPromised g b
  pub learn : (b : Ballot) (n : ℕ) → IsSaid g.sent (Learn b n) → IsVoted g b n

-- a leader's ballot: a majority promised it, and behind its slots nothing of a lesser ballot can be chosen
pub record IsLed (g : Group) (m : ℕ) : Type 0 where
  pub promised : IsPromised g (promise_at g.members m)
  pub free : (b : Ballot) (n : ℕ) → IsBelow b (promise_at g.members m) → length (member_at g m).slots < n → IsStuck g b n

abbrev pub IsLedBy : Group → ℕ → Role → Type 0
IsLedBy g m follower = Unit {0}
IsLedBy g m (candidate heard) = Unit {0}
IsLedBy g m (leader notes) = IsLed g m

-- this request is chosen for this slot
pub record IsPicked (g : Group) (n i : ℕ) : Type 0 where
  pub ballot : Ballot
  pub put : IsSaid g.sent (Put ballot n i)
  pub voted : IsVoted g ballot n

-- what a member has applied at a place
pub record HasApplied (g : Group) (slots : List Slot) (k : ℕ) : Type 0 where
  pub request : ℕ
  pub told : slice_get g.told k ≡ Some request
  pub picked : IsPicked g (k + 1) request
  pub held : HasUnder slots (k + 1) picked.ballot

pub record IsSound (g : Group) : Type 0 where
  pub size : (length g.members ≡ 3) ⊎ (length g.members ≡ 5)
  pub net : IsNet g
  pub log : (m : ℕ) → 1 ≤ m → m ≤ length g.members → IsLog g.sent m (member_at g m).promised (member_at g m).slots
  pub role : (m : ℕ) → 1 ≤ m → m ≤ length g.members → IsInRole g.sent m (member_at g m).promised (member_at g m).slots (member_at g m).role
  pub led : (m : ℕ) → 1 ≤ m → m ≤ length g.members → IsLedBy g m (member_at g m).role
  pub safe : (b c : Ballot) (n i j : ℕ) → IsSaid g.sent (Put b n i) → IsSaid g.sent (Put c n j) → IsBelow c b → (j ≡ i) ⊎ IsStuck g c n
  pub told : (k i : ℕ) → slice_get g.told k ≡ Some i → IsPicked g (k + 1) i
  pub applied : (m k : ℕ) → 1 ≤ m → m ≤ length g.members → k < (member_at g m).applied → HasApplied g (member_at g m).slots k
