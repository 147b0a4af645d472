-- What a message does leads from a sound group to a sound group, and so does every step.
use Rattle.std.proofs.Common.{◌≡◌, ℕ, suc, ◌+◌, ◌-◌, ◌≤◌, ◌⊎◌, inl, inr, Bool, true, false, List, [], ◌∷◌, length, get_or, Option, Some, None, arith, refl, sym, ap, ◌∙◌, subst}
use Rattle.std.specs.Prelude.{slice_get, ◌==◌, ◌&&◌, ◌||◌, nat_le, nat_lt, if◌then◌else◌}
use Rattle.std.specs.Option.{option_map}
use Rattle.std.proofs.lemmas.Bool.{and_parts, leb-true, eqb-true, true≢false}
use Rattle.rss_tables.specs.Round.{majority}
use Rattle.rss_wire.specs.declared.message.Fate.{Fate}
use Rattle.rss_wire.specs.declared.message.Fate.TheVariants.{Delivered, Repeated, Lost}
use Rattle.rss_wire.specs.declared.refusal.NetRefusal.{NetRefusal}
use Rattle.rss_wire.specs.declared.refusal.NetRefusal.TheVariants.{NoSuchMessage}
use Rattle.rss_wire.specs.Net.{fate_refusal, repeat_refusal}
use Rattle.group_tables.specs.declared.messages.Ballot.{Ballot}
use Rattle.group_tables.specs.declared.messages.Slot.{Slot}
use Rattle.group_tables.specs.declared.messages.Body.{Body}
use Rattle.group_tables.specs.declared.messages.Body.TheVariants.{Seek, Vow, Put, Kept, Learn}
use Rattle.group_tables.specs.declared.steps.GroupStep.{GroupStep}
use Rattle.group_tables.specs.declared.steps.GroupStep.TheVariants.{Lead, Propose, Crash, Go, Lose, Again}
use Rattle.group_tables.specs.declared.steps.GroupRefusal.TheVariants.{Message}
use Rattle.group_tables.specs.Ballots.{ballot_lt, ballot_le, same_ballot}
use Rattle.group_tables.specs.Groups.{Group, Heard, Note, Role, follower, candidate, leader, member_at, with_member, no_sent, sent_at, has_member, sends, sends_others, is_majority}
use Rattle.group_tables.specs.Rows.{with_heard, with_note, noted, after_vow, advances, begins_to_lead, vows, keeps, seeks, puts, learns, applies, arrives, is_under, placed}
use Rattle.group_tables.specs.Steps.{meets, delivers, happens, unless, is_sent, message_refusal, is_leader, can_propose, group_refusal}
use Rattle.group_laws.specs.Said.{Says, IsSaid, Voted, by_keeping, by_leading, MaySay}
use Rattle.group_laws.specs.Sound.{IsCandidate, IsLeader, IsInRole, members_of, noted_for, IsVoted, IsLed, IsLedBy, IsSound}
use Rattle.group_laws.proofs.Ballots.{same_ballots}
use Rattle.group_laws.proofs.Lists.{some_is_not, get_there}
use Rattle.group_laws.proofs.Majorities.{AreMembers, is_one_of, majority_of_list}
use Rattle.group_laws.proofs.Sending.{met_says}
use Rattle.group_laws.proofs.After.{Goes}
use Rattle.group_laws.proofs.Silent.{fate_goes, crash_goes, lead_goes}
use Rattle.group_laws.proofs.Voting.{vow_goes, keep_goes}
use Rattle.group_laws.proofs.Proposing.{propose_goes}
use Rattle.group_laws.proofs.Beginning.{begin_goes, all_members}
use Rattle.group_laws.proofs.Noting.{hears_vow, notes_keeper, noted_length, noted_says}
use Rattle.group_laws.proofs.Applying.{IsNext}
use Rattle.group_laws.proofs.Steps.{stays_as_it_is, fate_then, role_goes, apply_alone, apply_and_say}

same_length : (heard : List Heard) → length (members_of heard) ≡ length heard
same_length [] = refl
same_length (v ∷ heard) = ap suc (same_length heard)

-- the members of a list of notes
noted_members : (members : ℕ) (ks : List ℕ) → ((j q : ℕ) → slice_get ks j ≡ Some q → (1 ≤ q) × (q ≤ members)) → AreMembers members ks
noted_members members [] f = tt
noted_members members (k ∷ ks) f = ((f 0 k refl).0, (f 0 k refl).1, noted_members members ks (λ j q e. f (suc j) q e))

find_place : (ks : List ℕ) (q : ℕ) → is_one_of ks q ≡ true → (j : ℕ) × (slice_get ks j ≡ Some q)
find_place [] q e = absurd (true≢false (sym e))
find_place (k ∷ ks) q e = by_test (q == k) refl e (find_place ks q)
  where
    by_test : (b : Bool) → (q == k) ≡ b → (b || is_one_of ks q) ≡ true → (is_one_of ks q ≡ true → (j : ℕ) × (slice_get ks j ≡ Some q)) → (j : ℕ) × (slice_get (k ∷ ks) j ≡ Some q)
    by_test true f g ih = (0, ap (λ (x : ℕ). Some x) (sym (eqb-true q k f)))
    by_test false f g ih = let t = ih g in (suc t.0, t.1)

module _ (g : Group) (m sender : ℕ) (least : 1 ≤ m) (most : m ≤ length g.members) (from_least : 1 ≤ sender) (from_most : sender ≤ length g.members) (apart : m ≡ sender → ⊥) (sound : IsSound g) where
  -- the range of who says something
  range_of : (q : ℕ) (body : Body) → Says g.sent q body → (1 ≤ q) × (q ≤ length g.members)
  range_of q body s =
      let r = sound.net.routed s.place s.there in
      let a = r.from_least in
      let b = r.from_most in
      let e = s.by in
      (omega (arith, a, e), omega (arith, b, e))

  may_say_of : (body : Body) → Says g.sent sender body → MaySay sender body
  may_say_of body s = subst (λ (y : Body). MaySay sender y) s.says (subst (λ (q : ℕ). MaySay q (get_or g.sent s.place no_sent).body) s.by (sound.net.routed s.place s.there).may_say)

  -- a ballot that wants to lead
  seek_goes : (b : Ballot) → Says g.sent sender (Seek b) → b.member ≡ sender → Goes g (seeks g m (member_at g m) sender b)
  seek_goes b said own = by_test (ballot_lt (member_at g m).promised b) refl
    where
      by_test : (t : Bool) → ballot_lt (member_at g m).promised b ≡ t
          → Goes g (if t then sends (with_member g m record (member_at g m) { promised = b; role = follower }) m sender (Vow b (member_at g m).slots) else g)
      by_test true e =
          vow_goes g m sender b
          record { from_least = least; from_most = most; to_least = from_least; to_most = from_most; apart = λ f. apart (sym f); may_say = λ f. apart (f ∙ own) }
          record { is = e } (sound.net.begun (Seek b) record { by = sender; says = said }) sound
      by_test false e = stays_as_it_is g sound

  -- a slot that is put
  put_goes : (b : Ballot) (n i : ℕ) → Says g.sent sender (Put b n i) → b.member ≡ sender → 1 ≤ n → Goes g (puts g m (member_at g m) sender b n i)
  put_goes b n i said own first = by_test (ballot_le (member_at g m).promised b) (nat_le n (length (member_at g m).slots + 1)) refl refl
    where
      by_test : (t u : Bool) → ballot_le (member_at g m).promised b ≡ t → nat_le n (length (member_at g m).slots + 1) ≡ u
          → Goes g (if t && u then sends (with_member g m record (member_at g m) { promised = b; role = follower; slots = placed (member_at g m).slots (n - 1) record { ballot = b; request = i } }) m sender (Kept b n) else g)
      by_test true true e f =
          keep_goes g m sender b n i
          record { from_least = least; from_most = most; to_least = from_least; to_most = from_most; apart = λ x. apart (sym x); may_say = (λ x. apart (x ∙ own), first) }
          record { is = e } (leb-true n (length (member_at g m).slots + 1) f) record { by = sender; says = said } sound
      by_test true false e f = stays_as_it_is g sound
      by_test false u e f = stays_as_it_is g sound

  -- a candidate with what it has heard
  heard_goes : (heard : List Heard) → IsCandidate g.sent m (member_at g m).promised (member_at g m).slots heard → Goes g (after_vow g m (member_at g m) heard)
  heard_goes heard is = by_test (is_majority g (suc (length heard))) refl
    where
      by_test : (t : Bool) → is_majority g (suc (length heard)) ≡ t → Goes g (if t then begins_to_lead g m (member_at g m) heard else with_member g m record (member_at g m) { role = candidate heard })
      by_test true e =
          let many = leb-true (majority (length g.members)) (suc (length heard)) e in
          let same = same_length heard in
          begin_goes g m heard least most sound is (subst (λ (n : ℕ). majority (length g.members) ≤ suc n) (sym same) many)
          (all_members (length g.members) heard (λ k v f. range_of v.member _ (is.vowed k v f)))
      by_test false e = role_goes g m (candidate heard) least most sound is tt

  vow_heard : (r : Role) (b : Ballot) (slots : List Slot) → Says g.sent sender (Vow b slots) → IsInRole g.sent m (member_at g m).promised (member_at g m).slots r → Goes g (vows g m (member_at g m) r sender b slots)
  vow_heard follower b slots said is = stays_as_it_is g sound
  vow_heard (leader notes) b slots said is = stays_as_it_is g sound
  vow_heard (candidate heard) b slots said is = by_test (same_ballot (member_at g m).promised b) refl
    where
      by_test : (t : Bool) → same_ballot (member_at g m).promised b ≡ t → Goes g (if t then after_vow g m (member_at g m) (with_heard heard sender slots) else g)
      by_test true e =
          let same = same_ballots (member_at g m).promised b e in
          heard_goes (with_heard heard sender slots)
          (hears_vow g.sent m (member_at g m).promised (member_at g m).slots heard sender slots is (subst (λ (c : Ballot). Says g.sent sender (Vow c slots)) (sym same) said) (λ f. apart (sym f)))
      by_test false e = stays_as_it_is g sound

  -- a leader with its notes
  is_next : (notes : List Note) → IsLeader g.sent m (member_at g m).promised (member_at g m).slots notes → majority (length g.members) ≤ suc (noted notes ((member_at g m).applied + 1))
      → (i : ℕ) × IsNext g m i × IsVoted g (member_at g m).promised ((member_at g m).applied + 1)
  is_next notes is many =
      let same = noted_length ((member_at g m).applied + 1) notes in
      let two = two_more in
      let first = get_there (noted_for ((member_at g m).applied + 1) notes) 0 (omega (arith, many, same, two)) in
      let kept = noted_says g.sent (member_at g m).promised ((member_at g m).applied + 1) notes is.noted 0 first.0 first.1 in
      let put = sound.net.kept (member_at g m).promised ((member_at g m).applied + 1) record { by = first.0; says = kept } in
      let voted = all_voted put.0 put.1 in
      let back : ((member_at g m).applied + 1) - 1 ≡ (member_at g m).applied = omega arith in (
        put.0,
        record {
          ballot = (member_at g m).promised;
          put = put.1;
          voted = voted;
          there = subst (λ (k : ℕ). slice_get (member_at g m).slots k ≡ Some record { ballot = (member_at g m).promised; request = put.0 }) back (is.all ((member_at g m).applied + 1) put.0 put.1);
        },
        voted,
      )
    where
      two_more : 2 ≤ majority (length g.members)
      two_more = either sound.size
        where
          either : (length g.members ≡ 3) ⊎ (length g.members ≡ 5) → 2 ≤ majority (length g.members)
          either (inl e) = subst (λ (k : ℕ). 2 ≤ majority k) (sym e) (omega arith)
          either (inr e) = subst (λ (k : ℕ). 2 ≤ majority k) (sym e) (omega arith)

      all_voted : (i : ℕ) → IsSaid g.sent (Put (member_at g m).promised ((member_at g m).applied + 1) i) → IsVoted g (member_at g m).promised ((member_at g m).applied + 1)
      all_voted i put =
          let same = noted_length ((member_at g m).applied + 1) notes in
          majority_of_list (length g.members) (λ (q : ℕ). Voted g.sent q (member_at g m).promised ((member_at g m).applied + 1)) (m ∷ noted_for ((member_at g m).applied + 1) notes) (is.apart ((member_at g m).applied + 1))
          (least, most, noted_members (length g.members) (noted_for ((member_at g m).applied + 1) notes) (λ j q e. range_of q _ (noted_says g.sent (member_at g m).promised ((member_at g m).applied + 1) notes is.noted j q e)))
          (omega (arith, many, same)) votes
        where
          votes : (q : ℕ) → is_one_of (m ∷ noted_for ((member_at g m).applied + 1) notes) q ≡ true → Voted g.sent q (member_at g m).promised ((member_at g m).applied + 1)
          votes q e = by_test (q == m) refl e
            where
              found : (j : ℕ) × (slice_get (noted_for ((member_at g m).applied + 1) notes) j ≡ Some q) → Voted g.sent q (member_at g m).promised ((member_at g m).applied + 1)
              found t = by_keeping (noted_says g.sent (member_at g m).promised ((member_at g m).applied + 1) notes is.noted t.0 q t.1)

              by_test : (t : Bool) → (q == m) ≡ t → (t || is_one_of (noted_for ((member_at g m).applied + 1) notes) q) ≡ true → Voted g.sent q (member_at g m).promised ((member_at g m).applied + 1)
              by_test true f h = by_leading i (eqb-true q m f ∙ sym is.own) put
              by_test false f h = found (find_place (noted_for ((member_at g m).applied + 1) notes) q h)

  noted_goes : (notes : List Note) → IsLeader g.sent m (member_at g m).promised (member_at g m).slots notes → IsLed g m → Goes g (advances g m (member_at g m) notes)
  noted_goes notes is led = by_test (is_majority g (suc (noted notes ((member_at g m).applied + 1)))) refl
    where
      by_test : (t : Bool) → is_majority g (suc (noted notes ((member_at g m).applied + 1))) ≡ t
          → Goes g (if t then sends_others (applies g m record (member_at g m) { role = leader notes }) m (Learn (member_at g m).promised ((member_at g m).applied + 1)) else with_member g m record (member_at g m) { role = leader notes })
      by_test true e =
          let t = is_next notes is (leb-true (majority (length g.members)) (suc (noted notes ((member_at g m).applied + 1))) e) in
          apply_and_say g m (leader notes) t.0 least most sound is led t.1 is.own t.2
      by_test false e = role_goes g m (leader notes) least most sound is led

  kept_heard : (r : Role) (b : Ballot) (n : ℕ) → Says g.sent sender (Kept b n) → IsInRole g.sent m (member_at g m).promised (member_at g m).slots r → IsLedBy g m r → Goes g (keeps g m (member_at g m) r sender b n)
  kept_heard follower b n said is led = stays_as_it_is g sound
  kept_heard (candidate heard) b n said is led = stays_as_it_is g sound
  kept_heard (leader notes) b n said is led = by_test (same_ballot (member_at g m).promised b) refl
    where
      by_test : (t : Bool) → same_ballot (member_at g m).promised b ≡ t → Goes g (if t then advances g m (member_at g m) (with_note notes n sender) else g)
      by_test true e =
          let same = same_ballots (member_at g m).promised b e in
          noted_goes (with_note notes n sender)
          (notes_keeper g.sent m (member_at g m).promised (member_at g m).slots notes n sender is (subst (λ (c : Ballot). Says g.sent sender (Kept c n)) (sym same) said) (λ f. apart (sym f))) led
      by_test false e = stays_as_it_is g sound

  -- who is told what is chosen
  learn_goes : (b : Ballot) (n : ℕ) → Says g.sent sender (Learn b n) → Goes g (learns g m (member_at g m) b n)
  learn_goes b n said = by_test (n == (member_at g m).applied + 1) (is_under b (slice_get (member_at g m).slots (n - 1))) refl refl
    where
      entry : (o : Option Slot) → is_under b o ≡ true → (s : Slot) × (o ≡ Some s) × (s.ballot ≡ b)
      entry None e = absurd (true≢false (sym e))
      entry (Some s) e = (s, refl, same_ballots s.ballot b e)

      next : n ≡ (member_at g m).applied + 1 → (s : Slot) × (slice_get (member_at g m).slots (n - 1) ≡ Some s) × (s.ballot ≡ b) → (i : ℕ) × IsNext g m i
      next e t =
          let s = t.0 in
          let at : n - 1 ≡ (member_at g m).applied = omega (arith, e) in
          let there : slice_get (member_at g m).slots (member_at g m).applied ≡ Some t.0 = subst (λ (k : ℕ). slice_get (member_at g m).slots k ≡ Some t.0) at t.1 in
          let put = (sound.log m least most).put (member_at g m).applied t.0 there in
          let voted = sound.net.learn b n record { by = sender; says = said } in (
            t.0.request,
            record {
              ballot = t.0.ballot;
              put = put;
              voted = subst (λ (c : Ballot). IsVoted g c ((member_at g m).applied + 1)) (sym t.2) (subst (λ (k : ℕ). IsVoted g b k) e voted);
              there = there;
            },
          )

      by_test : (t u : Bool) → (n == (member_at g m).applied + 1) ≡ t → is_under b (slice_get (member_at g m).slots (n - 1)) ≡ u → Goes g (if t && u then applies g m (member_at g m) else g)
      by_test true true e f =
          let t = next (eqb-true n ((member_at g m).applied + 1) e) (entry (slice_get (member_at g m).slots (n - 1)) f) in
          apply_alone g m (member_at g m).role t.0 least most sound (sound.role m least most) (sound.led m least most) t.1
      by_test true false e f = stays_as_it_is g sound
      by_test false u e f = stays_as_it_is g sound

  -- whatever arrives
  pub arrive_goes : (body : Body) → Says g.sent sender body → Goes g (arrives g m (member_at g m) sender body)
  arrive_goes (Seek b) said = seek_goes b said (may_say_of (Seek b) said)
  arrive_goes (Vow b slots) said = vow_heard (member_at g m).role b slots said (sound.role m least most)
  arrive_goes (Put b n i) said = let may = may_say_of (Put b n i) said in put_goes b n i said may.0 may.1
  arrive_goes (Kept b n) said = kept_heard (member_at g m).role b n said (sound.role m least most) (sound.led m least most)
  arrive_goes (Learn b n) said = learn_goes b n said

-- a message that is delivered or repeated
deliver_goes : (g : Group) (n : ℕ) (f : Fate) → 1 ≤ n → n ≤ length g.sent → IsSound g → Goes g (delivers g n f (sent_at g n))
deliver_goes g n f a b sound =
    let r = sound.net.routed (n - 1) (omega (arith, a, b)) in
    fate_then g n (sent_at g n).receiver f (delivers g n f (sent_at g n)) r.to_least r.to_most sound
    (λ now. arrive_goes (meets g n f) (sent_at g n).receiver (sent_at g n).sender r.to_least r.to_most r.from_least r.from_most r.apart now (sent_at g n).body
    (met_says g.sent (n - 1) f (sent_at g n).sender (sent_at g n).body record { place = n - 1; there = omega (arith, a, b); by = refl; says = refl }))

lose_goes : (g : Group) (n : ℕ) → 1 ≤ n → n ≤ length g.sent → IsSound g → Goes g (meets g n Lost)
lose_goes g n a b sound =
    let r = sound.net.routed (n - 1) (omega (arith, a, b)) in
    fate_goes g n (sent_at g n).receiver Lost r.to_least r.to_most sound

-- what a step that is not refused tells
enabled : (b : Bool) → unless b ≡ None → b ≡ true
enabled true e = refl
enabled false e = absurd (some_is_not e)

in_range : (a b c d : ℕ) → (nat_le a b && nat_le c d) ≡ true → (a ≤ b) × (c ≤ d)
in_range a b c d e = let parts = and_parts (nat_le a b) (nat_le c d) e in (leb-true a b parts.0, leb-true c d parts.1)

was_sent : (g : Group) (n : ℕ) (o : Option NetRefusal) → message_refusal g n o ≡ None → (1 ≤ n) × (n ≤ length g.sent)
was_sent g n o e = by_test (is_sent g n) refl e
  where
    by_test : (b : Bool) → is_sent g n ≡ b → (if b then option_map Message o else Some (Message NoSuchMessage)) ≡ None → (1 ≤ n) × (n ≤ length g.sent)
    by_test true f h = in_range 1 n n (length g.sent) f
    by_test false f h = absurd (some_is_not h)

leads_now : (r : Role) → is_leader r ≡ true → (notes : List Note) × (r ≡ leader notes)
leads_now follower e = absurd (true≢false (sym e))
leads_now (candidate heard) e = absurd (true≢false (sym e))
leads_now (leader notes) e = (notes, refl)

can_lead : (a b c : Bool) → (a && b && c) ≡ true → a ≡ true
can_lead true b c e = refl
can_lead false b c e = absurd (true≢false (sym e))

pub step_goes : (g : Group) (s : GroupStep) → group_refusal g s ≡ None → IsSound g → Goes g (happens g s)
step_goes g (Lead m) e sound = let r = in_range 1 m m (length g.members) (enabled (has_member g m) e) in lead_goes g m r.0 r.1 sound
step_goes g (Propose m i) e sound =
    let parts = and_parts (has_member g m) (can_propose g (member_at g m) i) (enabled (has_member g m && can_propose g (member_at g m) i) e) in
    let r = in_range 1 m m (length g.members) parts.0 in
    let can = can_lead (is_leader (member_at g m).role) (nat_le 1 i && nat_le i g.requests) (nat_lt (length (member_at g m).slots) 100) parts.1 in
    let l = leads_now (member_at g m).role can in
    propose_goes g m i l.0 r.0 r.1 l.1 sound
step_goes g (Crash m) e sound = let r = in_range 1 m m (length g.members) (enabled (has_member g m) e) in crash_goes g m r.0 r.1 sound
step_goes g (Go n) e sound = let r = was_sent g n (fate_refusal (sent_at g n).fate) e in deliver_goes g n Delivered r.0 r.1 sound
step_goes g (Again n) e sound = let r = was_sent g n (repeat_refusal (sent_at g n).fate) e in deliver_goes g n Repeated r.0 r.1 sound
step_goes g (Lose n) e sound = let r = was_sent g n (fate_refusal (sent_at g n).fate) e in lose_goes g n r.0 r.1 sound
