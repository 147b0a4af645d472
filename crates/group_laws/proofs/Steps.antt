-- Every step leads from a sound group to a sound group.
use Rattle.std.proofs.Common.{◌≡◌, ℕ, ◌+◌, ◌-◌, ◌≤◌, ◌⊎◌, inl, inr, List, length, Option, Some, arith, refl, sym, ap, ◌∙◌, subst}
use Rattle.std.proofs.Math.ListN.{length-set}
use Rattle.std.specs.Prelude.{slice_get}
use Rattle.rss_wire.specs.declared.message.Fate.{Fate}
use Rattle.group_tables.specs.declared.messages.Ballot.{Ballot}
use Rattle.group_tables.specs.declared.messages.Slot.{Slot}
use Rattle.group_tables.specs.declared.messages.Body.{Body}
use Rattle.group_tables.specs.declared.messages.Body.TheVariants.{Vow, Put, Kept, Learn}
use Rattle.group_tables.specs.Groups.{Group, Member, Role, follower, candidate, leader, member_at, with_member, sends_others}
use Rattle.group_tables.specs.Rows.{applies, request_in, with_told}
use Rattle.group_tables.specs.Steps.{meets}
use Rattle.group_laws.specs.Order.{IsUpTo}
use Rattle.group_laws.specs.Said.{Voted}
use Rattle.group_laws.specs.Sound.{IsInRole, promise_at, ballot_of, IsVoted, IsLedBy, IsSound}
use Rattle.group_laws.proofs.Ballots.{up_to_itself}
use Rattle.group_laws.proofs.Bodies.{differ, slot_of}
use Rattle.group_laws.proofs.Sending.{Sends, sends_nothing, sends_to_others}
use Rattle.group_laws.proofs.Moves as moves
use Rattle.group_laws.proofs.Moves.{Move, Rises, quiet_role, move_of}
use Rattle.group_laws.proofs.After.{Goes, HoldsUnder}
use Rattle.group_laws.proofs.Silent.{IsSilent, Nothing, rises_in_silence, quiet, silent_goes, applied_same, nothing_silent, alone, fate_goes, fate_votes, least_members}
use Rattle.group_laws.proofs.Applying.{IsNext, told_keeps, told_new, applies_more}

-- nothing happens
pub stays_as_it_is : (g : Group) → IsSound g → Goes g g
stays_as_it_is g sound = record { sound = sound; count = refl; keeps = λ q y s. s; votes = λ q b n l v. inl v }

-- a fate comes before
pub fate_then : (g : Group) (n m : ℕ) (f : Fate) (h : Group) → 1 ≤ m → m ≤ length g.members → IsSound g → (IsSound (meets g n f) → Goes (meets g n f) h) → Goes g h
fate_then g n m f h a b sound next =
    let first = fate_goes g n m f a b sound in
    let second = next first.sound in
    record {
      sound = second.sound;
      count = second.count ∙ first.count;
      keeps = λ q y s. second.keeps q y (first.keeps q y s);
      votes = λ q c k l v. named q c k (second.votes q c k l v);
    }
  where
    named : (q : ℕ) (c : Ballot) (k : ℕ) → Voted (meets g n f).sent q c k ⊎ HoldsUnder (member_at h q).slots k c → Voted g.sent q c k ⊎ HoldsUnder (member_at h q).slots k c
    named q c k (inl v) = inl (fate_votes g n f q c k v)
    named q c k (inr v) = inr v

-- a member takes another role
module _ (g : Group) (m : ℕ) (r : Role) (least : 1 ≤ m) (most : m ≤ length g.members) (sound : IsSound g)
    (role : IsInRole g.sent m (member_at g m).promised (member_at g m).slots r) (led : IsLedBy g m r) where
  abbrev x : Member
  x = record (member_at g m) { role = r }

  move : Move g (with_member g m x) m x Nothing
  move = alone g m x least most

  rises : Rises g m x Nothing
  rises = rises_in_silence g m x Nothing nothing_silent (up_to_itself (member_at g m).promised)

  led_now : (s : Role) → IsLedBy g m s → IsLedBy (with_member g m x) m s
  led_now follower l = tt
  led_now (candidate heard) l = tt
  led_now (leader notes) l =
      moves.led_longer g (with_member g m x) m x Nothing move rises m (ap (λ (z : Member). z.promised) move.there)
      (let e : length (member_at (with_member g m x) m).slots ≡ length (member_at g m).slots = ap (λ (z : Member). length z.slots) move.there in omega (arith, e)) l

  pub role_goes : Goes g (with_member g m record (member_at g m) { role = r })
  role_goes =
      silent_goes g (with_member g m x) m x Nothing nothing_silent move rises sound
      record {
        slots = refl;
        role = quiet_role (quiet g (with_member g m x) m x Nothing nothing_silent move rises) (member_at g m).promised (member_at g m).slots r role;
        led = led_now r led;
        begun = λ y v. absurd v;
        learn = λ c k v. absurd v;
        told = λ k i e. inl e;
        keeps_told = λ k i e. e;
        applied = applied_same g (with_member g m x) m x Nothing nothing_silent move rises sound refl (omega arith) (λ k i e. e);
      }

-- a member applies the next slot, and may say so
abbrev Learning : Ballot → ℕ → Body → Type 0
Learning b n y = y ≡ Learn b n

learning_silent : (b : Ballot) (n : ℕ) → IsSilent (Learning b n)
learning_silent b n = record { kept = λ c k v. differ (Kept c k) (Learn b n) refl v; put = λ c k i v. differ (Put c k i) (Learn b n) refl v; vow = λ c slots v. differ (Vow c slots) (Learn b n) refl v }

module _ (g : Group) (m : ℕ) (r : Role) (i : ℕ) (least : 1 ≤ m) (most : m ≤ length g.members) (sound : IsSound g)
    (role : IsInRole g.sent m (member_at g m).promised (member_at g m).slots r) (led : IsLedBy g m r) (next : IsNext g m i) where
  abbrev y : Member
  y = record (member_at g m) { role = r; applied = (member_at g m).applied + 1 }

  abbrev mid : Group
  mid = applies g m record (member_at g m) { role = r }

  told_is : mid.told ≡ with_told g.told (member_at g m).applied i
  told_is = ap (λ (o : Option Slot). with_told g.told (member_at g m).applied (request_in o)) next.there

  module _ (h : Group) (New : Body → Type 0) (silent : IsSilent New) (sent : Sends mid h m New)
      (begun : (z : Body) → New z → IsUpTo (ballot_of z) (promise_at g.members (ballot_of z).member)) (learn : (b : Ballot) (n : ℕ) → New (Learn b n) → IsVoted g b n) where
    move_on : Move g h m y New
    move_on = move_of g mid h m y New least most refl refl sent

    rises_on : Rises g m y New
    rises_on = rises_in_silence g m y New silent (up_to_itself (member_at g m).promised)

    told_now : h.told ≡ with_told g.told (member_at g m).applied i
    told_now = sent.told ∙ told_is

    led_on : (s : Role) → IsLedBy g m s → IsLedBy h m s
    led_on follower l = tt
    led_on (candidate heard) l = tt
    led_on (leader notes) l =
        moves.led_longer g h m y New move_on rises_on m (ap (λ (z : Member). z.promised) move_on.there)
        (let e : length (member_at h m).slots ≡ length (member_at g m).slots = ap (λ (z : Member). length z.slots) move_on.there in omega (arith, e)) l

    apply_on : Goes g h
    apply_on =
        silent_goes g h m y New silent move_on rises_on sound
        record {
          slots = refl;
          role = quiet_role (quiet g h m y New silent move_on rises_on) (member_at g m).promised (member_at g m).slots r role;
          led = led_on r led;
          begun = λ z v. moves.begun_on g h m y New move_on rises_on (ballot_of z) (begun z v);
          learn = learn;
          told = λ k j e. told_new g m i least most sound next k j (subst (λ (told : List ℕ). slice_get told k ≡ Some j) told_now e);
          keeps_told = λ k j e. subst (λ (told : List ℕ). slice_get told k ≡ Some j) (sym told_now) (told_keeps g m i least most sound next k j e);
          applied = applies_more g m i least most sound next h y New move_on rises_on told_now;
        }

  pub apply_alone : Goes g (applies g m record (member_at g m) { role = r })
  apply_alone = apply_on mid Nothing nothing_silent (sends_nothing mid m Nothing (λ z v. v)) (λ z v. absurd v) (λ b n v. absurd v)

  pub apply_and_say : (member_at g m).promised.member ≡ m → IsVoted g (member_at g m).promised ((member_at g m).applied + 1)
      → Goes g (sends_others (applies g m record (member_at g m) { role = r }) m (Learn (member_at g m).promised ((member_at g m).applied + 1)))
  apply_and_say own voted =
      apply_on (sends_others mid m (Learn (member_at g m).promised ((member_at g m).applied + 1))) (Learning (member_at g m).promised ((member_at g m).applied + 1))
      (learning_silent (member_at g m).promised ((member_at g m).applied + 1))
      (let same = length-set g.members (m - 1) y in let two = least_members g sound in
      sends_to_others mid m (Learn (member_at g m).promised ((member_at g m).applied + 1)) (omega (arith, two, same)) least (omega (arith, most, same)) tt)
      (λ z v. subst (λ (w : Body). IsUpTo (ballot_of w) (promise_at g.members (ballot_of w).member)) (sym v)
      (subst (λ (k : ℕ). IsUpTo (member_at g m).promised (promise_at g.members k)) (sym own) (up_to_itself (member_at g m).promised)))
      (λ b n v. subst (λ (c : Ballot). IsVoted g c n) (sym (ap ballot_of v)) (subst (λ (k : ℕ). IsVoted g (member_at g m).promised k) (sym (ap slot_of v)) voted))
