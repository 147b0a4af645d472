-- A group is sound after a move, where the move shows its part.
use Rattle.std.proofs.Common.{◌≡◌, ℕ, ◌+◌, ◌-◌, ◌<◌, ◌≤◌, ◌⊎◌, inl, inr, List, length, Some, arith, sym, subst}
use Rattle.std.specs.Prelude.{slice_get}
use Rattle.std.proofs.lemmas.Bool.{cases_eq}
use Rattle.group_tables.specs.declared.messages.Ballot.{Ballot}
use Rattle.group_tables.specs.declared.messages.Slot.{Slot}
use Rattle.group_tables.specs.declared.messages.Body.{Body}
use Rattle.group_tables.specs.declared.messages.Body.TheVariants.{Put, Kept, Learn}
use Rattle.group_tables.specs.Groups.{Group, Member, member_at}
use Rattle.group_laws.specs.Order.{IsBelow, IsUpTo}
use Rattle.group_laws.specs.Said.{Says, IsSaid, Voted}
use Rattle.group_laws.specs.Sound.{IsLog, IsInRole, promise_at, ballot_of, IsVoted, IsStuck, IsPromised, IsNet, IsLedBy, IsPicked, HasApplied, IsSound}
use Rattle.group_laws.proofs.Ballots.{up_to_itself, up_to_up_to}
use Rattle.group_laws.proofs.Sending.{AreRouted}
use Rattle.group_laws.proofs.Moves as moves
use Rattle.group_laws.proofs.Moves.{Move, Rises, Quiet, NewVote, keeping, leading, quiet_log, quiet_role, votes_keep, said_keeps}

-- a slot holds something under just this ballot
pub record HoldsUnder (slots : List Slot) (n : ℕ) (b : Ballot) : Type 0 where
  pub slot : Slot
  pub there : slice_get slots (n - 1) ≡ Some slot
  pub is : slot.ballot ≡ b

-- from a sound group to a sound group; who votes on the way holds what it voted for
pub record Goes (g h : Group) : Type 0 where
  pub sound : IsSound h
  pub count : length h.members ≡ length g.members
  pub keeps : (q : ℕ) (y : Body) → Says g.sent q y → Says h.sent q y
  pub votes : (q : ℕ) (b : Ballot) (n : ℕ) → 1 ≤ q → Voted h.sent q b n → Voted g.sent q b n ⊎ HoldsUnder (member_at h q).slots n b

-- what a move shows
pub record Fits (g h : Group) (m : ℕ) (x : Member) (New : Body → Type 0) : Type 0 where
  pub log : IsLog h.sent m x.promised x.slots
  pub role : IsInRole h.sent m x.promised x.slots x.role
  pub led : IsLedBy h m x.role
  pub begun : (y : Body) → New y → IsUpTo (ballot_of y) (promise_at h.members (ballot_of y).member)
  pub kept : (b : Ballot) (n : ℕ) → New (Kept b n) → (i : ℕ) × IsSaid g.sent (Put b n i)
  pub learn : (b : Ballot) (n : ℕ) → New (Learn b n) → IsVoted g b n
  pub one : (b : Ballot) (n i j : ℕ) → IsSaid h.sent (Put b n i) → New (Put b n j) → i ≡ j
  pub promised : (b : Ballot) (n i : ℕ) → New (Put b n i) → IsPromised g b
  pub above : (b c : Ballot) (n i j : ℕ) → New (Put b n i) → IsSaid h.sent (Put c n j) → IsBelow c b → (j ≡ i) ⊎ IsStuck h c n
  pub under : (b c : Ballot) (n i j : ℕ) → IsSaid h.sent (Put b n i) → New (Put c n j) → IsBelow c b → (j ≡ i) ⊎ IsStuck h c n
  pub told : (k i : ℕ) → slice_get h.told k ≡ Some i → (slice_get g.told k ≡ Some i) ⊎ IsPicked g (k + 1) i
  pub keeps_told : (k i : ℕ) → slice_get g.told k ≡ Some i → slice_get h.told k ≡ Some i
  pub applied : (k : ℕ) → k < x.applied → HasApplied h x.slots k
  pub held : (b : Ballot) (n : ℕ) → NewVote New b n → HoldsUnder x.slots n b

module _ (g h : Group) (m : ℕ) (x : Member) (New : Body → Type 0) (move : Move g h m x New) (rises : Rises g m x New) where
  -- what a member has applied stays so
  pub applied_on : ((k i : ℕ) → slice_get g.told k ≡ Some i → slice_get h.told k ≡ Some i) → (slots : List Slot) (k : ℕ) → HasApplied g slots k → HasApplied h slots k
  applied_on f slots k a =
      record {
        request = a.request;
        told = f k a.request a.told;
        picked = record {
          ballot = a.picked.ballot;
          put = moves.said g h m x New move rises _ a.picked.put;
          voted = moves.voted g h m x New move rises a.picked.ballot (k + 1) a.picked.voted;
        };
        held = a.held;
      }

  module _ (sound : IsSound g) (fits : Fits g h m x New) where
    counted : (n : ℕ) → n ≤ length h.members → n ≤ length g.members
    counted n l = let e = move.count in omega (arith, l, e)

    after_net : IsNet h
    after_net =
        record {
          routed = subst (λ (n : ℕ). AreRouted n h.sent) (sym move.count) (move.routed sound.net.routed);
          begun = λ y s. begun y s (moves.new_said g h m x New move rises y s);
          one = λ b n i j s t. one b n i j s t (moves.new_said g h m x New move rises _ s) (moves.new_said g h m x New move rises _ t);
          kept = λ b n s. kept b n (moves.new_said g h m x New move rises _ s);
          promised = λ b n i s. promised b n i (moves.new_said g h m x New move rises _ s);
          learn = λ b n s. learn b n (moves.new_said g h m x New move rises _ s);
        }
      where
        begun : (y : Body) → IsSaid h.sent y → IsSaid g.sent y ⊎ New y → IsUpTo (ballot_of y) (promise_at h.members (ballot_of y).member)
        begun y s (inl old) = up_to_up_to (sound.net.begun y old) (moves.promise_at_up g h m x New move rises (ballot_of y).member)
        begun y s (inr n) = fits.begun y n

        one : (b : Ballot) (n i j : ℕ) → IsSaid h.sent (Put b n i) → IsSaid h.sent (Put b n j) → IsSaid g.sent (Put b n i) ⊎ New (Put b n i) → IsSaid g.sent (Put b n j) ⊎ New (Put b n j) → i ≡ j
        one b n i j s t (inl old) (inl more) = sound.net.one b n i j old more
        one b n i j s t u (inr new) = fits.one b n i j s new
        one b n i j s t (inr new) u = sym (fits.one b n j i t new)

        kept : (b : Ballot) (n : ℕ) → IsSaid g.sent (Kept b n) ⊎ New (Kept b n) → (i : ℕ) × IsSaid h.sent (Put b n i)
        kept b n (inl old) = let p = sound.net.kept b n old in (p.0, moves.said g h m x New move rises _ p.1)
        kept b n (inr new) = let p = fits.kept b n new in (p.0, moves.said g h m x New move rises _ p.1)

        promised : (b : Ballot) (n i : ℕ) → IsSaid g.sent (Put b n i) ⊎ New (Put b n i) → IsPromised h b
        promised b n i (inl old) = moves.promised g h m x New move rises b (sound.net.promised b n i old)
        promised b n i (inr new) = moves.promised g h m x New move rises b (fits.promised b n i new)

        learn : (b : Ballot) (n : ℕ) → IsSaid g.sent (Learn b n) ⊎ New (Learn b n) → IsVoted h b n
        learn b n (inl old) = moves.voted g h m x New move rises b n (sound.net.learn b n old)
        learn b n (inr new) = moves.voted g h m x New move rises b n (fits.learn b n new)

    after_log : (q : ℕ) → 1 ≤ q → q ≤ length h.members → IsLog h.sent q (member_at h q).promised (member_at h q).slots
    after_log q a b = by_place (cases_eq q m)
      where
        by_place : (q ≡ m) ⊎ (q ≡ m → ⊥) → IsLog h.sent q (member_at h q).promised (member_at h q).slots
        by_place (inl e) =
            subst (λ (k : ℕ). IsLog h.sent k (member_at h k).promised (member_at h k).slots) (sym e)
            (subst (λ (z : Member). IsLog h.sent m z.promised z.slots) (sym move.there) fits.log)
        by_place (inr f) =
            subst (λ (z : Member). IsLog h.sent q z.promised z.slots) (sym (move.others q a f))
            (quiet_log (moves.other_quiet g h m x New move rises q f) (up_to_itself _) (sound.log q a (counted q b)))

    after_role : (q : ℕ) → 1 ≤ q → q ≤ length h.members → IsInRole h.sent q (member_at h q).promised (member_at h q).slots (member_at h q).role
    after_role q a b = by_place (cases_eq q m)
      where
        by_place : (q ≡ m) ⊎ (q ≡ m → ⊥) → IsInRole h.sent q (member_at h q).promised (member_at h q).slots (member_at h q).role
        by_place (inl e) =
            subst (λ (k : ℕ). IsInRole h.sent k (member_at h k).promised (member_at h k).slots (member_at h k).role) (sym e)
            (subst (λ (z : Member). IsInRole h.sent m z.promised z.slots z.role) (sym move.there) fits.role)
        by_place (inr f) =
            subst (λ (z : Member). IsInRole h.sent q z.promised z.slots z.role) (sym (move.others q a f))
            (quiet_role (moves.other_quiet g h m x New move rises q f) (member_at g q).promised (member_at g q).slots (member_at g q).role (sound.role q a (counted q b)))

    after_led : (q : ℕ) → 1 ≤ q → q ≤ length h.members → IsLedBy h q (member_at h q).role
    after_led q a b = by_place (cases_eq q m)
      where
        by_place : (q ≡ m) ⊎ (q ≡ m → ⊥) → IsLedBy h q (member_at h q).role
        by_place (inl e) =
            subst (λ (k : ℕ). IsLedBy h k (member_at h k).role) (sym e)
            (subst (λ (z : Member). IsLedBy h m z.role) (sym move.there) fits.led)
        by_place (inr f) =
            subst (λ (z : Member). IsLedBy h q z.role) (sym (move.others q a f))
            (moves.led_role g h m x New move rises q (move.others q a f) (member_at g q).role (sound.led q a (counted q b)))

    after_safe : (b c : Ballot) (n i j : ℕ) → IsSaid h.sent (Put b n i) → IsSaid h.sent (Put c n j) → IsBelow c b → (j ≡ i) ⊎ IsStuck h c n
    after_safe b c n i j s t l = cases (moves.new_said g h m x New move rises _ s) (moves.new_said g h m x New move rises _ t)
      where
        stays : (j ≡ i) ⊎ IsStuck g c n → (j ≡ i) ⊎ IsStuck h c n
        stays (inl e) = inl e
        stays (inr k) = inr (moves.stuck g h m x New move rises c n k)

        cases : IsSaid g.sent (Put b n i) ⊎ New (Put b n i) → IsSaid g.sent (Put c n j) ⊎ New (Put c n j) → (j ≡ i) ⊎ IsStuck h c n
        cases (inl old) (inl more) = stays (sound.safe b c n i j old more l)
        cases u (inr new) = fits.under b c n i j s new l
        cases (inr new) u = fits.above b c n i j new t l

    after_told : (k i : ℕ) → slice_get h.told k ≡ Some i → IsPicked h (k + 1) i
    after_told k i e = named (fits.told k i e)
      where
        named : (slice_get g.told k ≡ Some i) ⊎ IsPicked g (k + 1) i → IsPicked h (k + 1) i
        named (inl f) = moves.picked g h m x New move rises (k + 1) i (sound.told k i f)
        named (inr p) = moves.picked g h m x New move rises (k + 1) i p

    after_applied : (q k : ℕ) → 1 ≤ q → q ≤ length h.members → k < (member_at h q).applied → HasApplied h (member_at h q).slots k
    after_applied q k a b l = by_place (cases_eq q m)
      where
        at_m : k < (member_at h m).applied → HasApplied h (member_at h m).slots k
        at_m = subst (λ (z : Member). k < z.applied → HasApplied h z.slots k) (sym move.there) (fits.applied k)

        by_place : (q ≡ m) ⊎ (q ≡ m → ⊥) → HasApplied h (member_at h q).slots k
        by_place (inl e) = subst (λ (j : ℕ). HasApplied h (member_at h j).slots k) (sym e) (at_m (subst (λ (j : ℕ). k < (member_at h j).applied) e l))
        by_place (inr f) =
            subst (λ (z : Member). HasApplied h z.slots k) (sym (move.others q a f))
            (applied_on fits.keeps_told (member_at g q).slots k (sound.applied q k a (counted q b) (subst (λ (z : Member). k < z.applied) (move.others q a f) l)))

    pub sound_after : IsSound h
    sound_after =
        record {
          size = subst (λ (n : ℕ). (n ≡ 3) ⊎ (n ≡ 5)) (sym move.count) sound.size;
          net = after_net;
          log = after_log;
          role = after_role;
          led = after_led;
          safe = after_safe;
          told = after_told;
          applied = after_applied;
        }

    pub goes_after : Goes g h
    goes_after =
        record {
          sound = sound_after;
          count = move.count;
          keeps = move.grows.keeps;
          votes = λ q b n l v. named q b n (moves.new_vote g h m x New move rises q b n v);
        }
      where
        named : (q : ℕ) (b : Ballot) (n : ℕ) → Voted g.sent q b n ⊎ ((q ≡ m) × NewVote New b n) → Voted g.sent q b n ⊎ HoldsUnder (member_at h q).slots n b
        named q b n (inl v) = inl v
        named q b n (inr v) =
            inr (subst (λ (k : ℕ). HoldsUnder (member_at h k).slots n b) (sym v.0) (subst (λ (z : Member). HoldsUnder z.slots n b) (sym move.there) (fits.held b n v.1)))
