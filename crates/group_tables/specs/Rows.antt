-- What a member does with a message, and by itself.
use Rattle.std.specs.Prelude.{ℕ, suc, ◌+◌, ◌-◌, ◌==◌, ◌&&◌, Bool, false, List, [], ◌∷◌, ◌++◌, length, map, set, slice_get, nat_le, nat_lt, Option, Some, None, if◌then◌else◌}
use Rattle.std.specs.List.{list_any}
use Rattle.group_tables.specs.declared.messages.Ballot.{Ballot}
use Rattle.group_tables.specs.declared.messages.Slot.{Slot}
use Rattle.group_tables.specs.declared.messages.Body.{Body}
use Rattle.group_tables.specs.declared.messages.Body.TheVariants.{Seek, Vow, Put, Kept, Learn}
use Rattle.group_tables.specs.Ballots.{ballot_lt, ballot_le, same_ballot, taken}
use Rattle.group_tables.specs.Groups.{Group, Member, Heard, Note, Role, follower, candidate, leader, with_member, sends, sends_others, is_majority}

-- a member wants to lead: it promises itself the next round
abbrev pub leads : Group → ℕ → Member → Group
leads g m x =
    let b : Ballot = record { round = x.promised.round + 1; member = m } in
    sends_others (with_member g m record x { promised = b; role = candidate [] }) m (Seek b)

-- a ballot above the promise is promised, with all slots told
abbrev pub seeks : Group → ℕ → Member → ℕ → Ballot → Group
seeks g m x sender b =
    if ballot_lt x.promised b
    then sends (with_member g m record x { promised = b; role = follower }) m sender (Vow b x.slots)
    else g

-- each member's vow once
abbrev pub with_heard : List Heard → ℕ → List Slot → List Heard
with_heard heard sender slots =
    if list_any (λ (v : Heard). v.member == sender) heard then heard else heard ++ record { member = sender; slots = slots } ∷ []

-- the slots from this one on are put to each other member
abbrev pub puts_all : Group → ℕ → Ballot → ℕ → List Slot → Group
puts_all g m b n [] = g
puts_all g m b n (s ∷ slots) = puts_all (sends_others g m (Put b n s.request)) m b (n + 1) slots

-- a member leads: of each slot that it or a vow has, the entry of the greatest ballot is its own now
abbrev pub begins_to_lead : Group → ℕ → Member → List Heard → Group
begins_to_lead g m x heard =
    let slots = taken x.promised (x.slots ∷ map (λ (v : Heard). v.slots) heard) in
    puts_all (with_member g m record x { slots = slots; role = leader [] }) m x.promised 1 slots

abbrev pub after_vow : Group → ℕ → Member → List Heard → Group
after_vow g m x heard =
    if is_majority g (suc (length heard)) then begins_to_lead g m x heard else with_member g m record x { role = candidate heard }

-- a vow counts for the candidate of its ballot; a majority, its own vow included, makes it lead
abbrev pub vows : Group → ℕ → Member → Role → ℕ → Ballot → List Slot → Group
vows g m x (candidate heard) sender b slots =
    if same_ballot x.promised b then after_vow g m x (with_heard heard sender slots) else g
vows g m x follower sender b slots = g
vows g m x (leader notes) sender b slots = g

-- a leader puts a request into its next slot
abbrev pub proposes : Group → ℕ → Member → ℕ → Group
proposes g m x i =
    sends_others (with_member g m record x { slots = x.slots ++ record { ballot = x.promised; request = i } ∷ [] }) m (Put x.promised (length x.slots + 1) i)

-- an entry at a place, or behind the last one
abbrev pub placed : List Slot → ℕ → Slot → List Slot
placed slots n s = if nat_lt n (length slots) then set slots n s else slots ++ s ∷ []

-- a ballot that is not below the promise is promised, and the slot kept, where no slot before it is free
abbrev pub puts : Group → ℕ → Member → ℕ → Ballot → ℕ → ℕ → Group
puts g m x sender b n i =
    if ballot_le x.promised b && nat_le n (length x.slots + 1)
    then sends (with_member g m record x {
      promised = b;
      role = follower;
      slots = placed x.slots (n - 1) record { ballot = b; request = i };
    }) m sender (Kept b n)
    else g

-- the request that a member has in the slot behind the applied ones
abbrev pub request_in : Option Slot → ℕ
request_in None = 0
request_in (Some s) = s.request

-- what was told, with the request of a slot that nobody had applied before
abbrev pub with_told : List ℕ → ℕ → ℕ → List ℕ
with_told told n i = if n == length told then told ++ i ∷ [] else told

-- a member applies the slot behind the applied ones
abbrev pub applies : Group → ℕ → Member → Group
applies g m x =
    record (with_member g m record x { applied = x.applied + 1 }) { told = with_told g.told x.applied (request_in (slice_get x.slots x.applied)) }

-- a member is noted once for a slot
abbrev pub is_noted : List Note → ℕ → ℕ → Bool
is_noted notes n sender = list_any (λ (k : Note). k.slot == n && k.member == sender) notes

abbrev pub with_note : List Note → ℕ → ℕ → List Note
with_note notes n sender = if is_noted notes n sender then notes else notes ++ record { slot = n; member = sender } ∷ []

-- how many are noted for a slot
abbrev pub noted : List Note → ℕ → ℕ
noted [] n = 0
noted (k ∷ notes) n = if k.slot == n then suc (noted notes n) else noted notes n

-- a leader applies the next slot where a majority keeps it, itself included, and says so
abbrev pub advances : Group → ℕ → Member → List Note → Group
advances g m x notes =
    if is_majority g (suc (noted notes (x.applied + 1)))
    then sends_others (applies g m record x { role = leader notes }) m (Learn x.promised (x.applied + 1))
    else with_member g m record x { role = leader notes }

abbrev pub keeps : Group → ℕ → Member → Role → ℕ → Ballot → ℕ → Group
keeps g m x (leader notes) sender b n =
    if same_ballot x.promised b then advances g m x (with_note notes n sender) else g
keeps g m x follower sender b n = g
keeps g m x (candidate heard) sender b n = g

abbrev pub is_under : Ballot → Option Slot → Bool
is_under b None = false
is_under b (Some s) = same_ballot s.ballot b

-- the slot behind the applied ones is applied where the member has it under this ballot
abbrev pub learns : Group → ℕ → Member → Ballot → ℕ → Group
learns g m x b n =
    if n == x.applied + 1 && is_under b (slice_get x.slots (n - 1)) then applies g m x else g

-- a crash leaves the promise and the slots
abbrev pub crashes : Group → ℕ → Member → Group
crashes g m x = with_member g m record x { role = follower; applied = 0 }

-- a message arrives
abbrev pub arrives : Group → ℕ → Member → ℕ → Body → Group
arrives g m x sender (Seek b) = seeks g m x sender b
arrives g m x sender (Vow b slots) = vows g m x x.role sender b slots
arrives g m x sender (Put b n i) = puts g m x sender b n i
arrives g m x sender (Kept b n) = keeps g m x x.role sender b n
arrives g m x sender (Learn b n) = learns g m x b n
