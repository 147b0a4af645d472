-- A leader puts a request into its next slot.
use Rattle.std.proofs.Common.{◌≡◌, ℕ, ◌+◌, ◌-◌, ◌≤◌, ◌⊎◌, inl, inr, List, [], ◌∷◌, ◌++◌, length, Some, arith, refl, sym, ap, ◌∙◌, subst, length-append}
use Rattle.std.proofs.Math.ListN.{length-set}
use Rattle.std.specs.Prelude.{slice_get}
use Rattle.group_tables.specs.declared.messages.Ballot.{Ballot}
use Rattle.group_tables.specs.declared.messages.Slot.{Slot}
use Rattle.group_tables.specs.declared.messages.Body.{Body}
use Rattle.group_tables.specs.declared.messages.Body.TheVariants.{Vow, Put, Kept, Learn}
use Rattle.group_tables.specs.Groups.{Group, Member, Note, Role, leader, member_at, with_member}
use Rattle.group_tables.specs.Rows.{proposes}
use Rattle.group_laws.specs.Order.{IsBelow, IsUpTo}
use Rattle.group_laws.specs.Said.{Says, IsSaid, Voted, by_leading}
use Rattle.group_laws.specs.Sound.{HasUnder, IsVow, IsLog, IsLeader, IsInRole, promise_at, ballot_of, IsStuck, IsPromised, IsLed, IsLedBy, HasApplied, IsSound}
use Rattle.group_laws.proofs.Ballots.{up_to_itself, up_to_same, not_both}
use Rattle.group_laws.proofs.Lists.{got_appended, get_appended, get_last_at, get_inside}
use Rattle.group_laws.proofs.Bodies.{differ, slot_of, request_of}
use Rattle.group_laws.proofs.Sending.{Sends, sends_to_others}
use Rattle.group_laws.proofs.Moves as moves
use Rattle.group_laws.proofs.Moves.{Move, Rises, NewVote, keeping, leading, votes_keep, said_keeps, carried_vow, move_of}
use Rattle.group_laws.proofs.After.{Goes, HoldsUnder, goes_after, applied_on}
use Rattle.group_laws.proofs.Silent.{least_members}

abbrev pub Putting : Ballot → ℕ → ℕ → Body → Type 0
Putting b n i y = y ≡ Put b n i

abbrev pub proposing_member : Member → ℕ → Member
proposing_member x i = record x { slots = x.slots ++ record { ballot = x.promised; request = i } ∷ [] }

more_has : (xs : List Slot) (s : Slot) (n : ℕ) (c : Ballot) → HasUnder xs n c → HasUnder (xs ++ s ∷ []) n c
more_has xs s n c h = record { slot = h.slot; there = get_appended xs s (n - 1) h.slot h.there; least = h.least }

length_more : (xs : List Slot) (s : Slot) → length (xs ++ s ∷ []) ≡ length xs + 1
length_more xs s = length-append xs (s ∷ [])

module _ (g : Group) (m i : ℕ) (notes : List Note) (least : 1 ≤ m) (most : m ≤ length g.members) (leads : (member_at g m).role ≡ leader notes) (sound : IsSound g) where
  pub propose_goes : Goes g (proposes g m (member_at g m) i)
  propose_goes =
      goes_after g h m x New move rises sound
      record {
        log = record {
          below = λ k s e. all_up k s (got_appended (member_at g m).slots entry k s e);
          put = λ k s e. put_there k s (got_appended (member_at g m).slots entry k s e);
          voted = λ k s e. voted_there k s (got_appended (member_at g m).slots entry k s e);
          stays = λ c j v. stays c j (moves.new_vote g h m x New move rises m c j v);
          vow = λ c told s. vow c told (move.grows.only m (Vow c told) s);
        };
        role = subst (λ (r : Role). IsInRole h.sent m b x.slots r) (sym leads) role;
        led = subst (λ (r : Role). IsLedBy h m r) (sym leads) led;
        begun = λ y v. subst (λ (z : Body). IsUpTo (ballot_of z) (promise_at h.members (ballot_of z).member)) (sym v) begun;
        kept = λ c j v. absurd (differ (Kept c j) (Put b n i) refl v);
        learn = λ c j v. absurd (differ (Learn c j) (Put b n i) refl v);
        one = one;
        promised = λ c j k v. subst (λ (d : Ballot). IsPromised g d) (sym (ap ballot_of v)) leading_on.promised;
        above = above;
        under = under;
        told = λ k j e. inl (subst (λ (told : List ℕ). slice_get told k ≡ Some j) sent.told e);
        keeps_told = keeps_told;
        applied = λ k l. applied k (applied_on g h m x New move rises keeps_told (member_at g m).slots k (sound.applied m k least most l));
        held = held;
      }
    where
      b : Ballot
      b = (member_at g m).promised

      n : ℕ
      n = length (member_at g m).slots + 1

      entry : Slot
      entry = record { ballot = b; request = i }

      x : Member
      x = proposing_member (member_at g m) i

      h : Group
      h = proposes g m (member_at g m) i

      New : Body → Type 0
      New = Putting b n i

      log : IsLog g.sent m b (member_at g m).slots
      log = sound.log m least most

      is_leader : IsLeader g.sent m b (member_at g m).slots notes
      is_leader = subst (λ (r : Role). IsInRole g.sent m b (member_at g m).slots r) leads (sound.role m least most)

      leading_on : IsLed g m
      leading_on = subst (λ (r : Role). IsLedBy g m r) leads (sound.led m least most)

      own : b.member ≡ m
      own = is_leader.own

      sent : Sends (with_member g m x) h m New
      sent =
          let same = length-set g.members (m - 1) x in
          let two = least_members g sound in
          sends_to_others (with_member g m x) m (Put b n i) (omega (arith, two, same)) least (omega (arith, most, same)) (own, omega arith)

      move : Move g h m x New
      move = move_of g (with_member g m x) h m x New least most refl refl sent

      rises : Rises g m x New
      rises =
          record {
            promise = up_to_itself b;
            kept = λ c j v. absurd (differ (Kept c j) (Put b n i) refl v);
            put = λ c j k v. (ap (λ (y : Body). (ballot_of y).member) v ∙ own, up_to_same (sym (ap ballot_of v)));
          }

      keep : (q : ℕ) (y : Body) → Says g.sent q y → Says h.sent q y
      keep = move.grows.keeps

      keeps_told : (k j : ℕ) → slice_get g.told k ≡ Some j → slice_get h.told k ≡ Some j
      keeps_told k j e = subst (λ (told : List ℕ). slice_get told k ≡ Some j) (sym sent.told) e

      put_now : IsSaid h.sent (Put b n i)
      put_now = record { by = m; says = move.grows.said (Put b n i) refl }

      same_promise : promise_at h.members m ≡ b
      same_promise = ap (λ (z : Member). z.promised) move.there

      begun : IsUpTo b (promise_at h.members b.member)
      begun = subst (λ (k : ℕ). IsUpTo b (promise_at h.members k)) (sym own) (up_to_same (sym same_promise))

      all_up : (k : ℕ) (s : Slot) → (slice_get (member_at g m).slots k ≡ Some s) ⊎ ((k ≡ length (member_at g m).slots) × (s ≡ entry)) → IsUpTo s.ballot b
      all_up k s (inl e) = log.below k s e
      all_up k s (inr e) = up_to_same (ap (λ (t : Slot). t.ballot) e.1)

      put_there : (k : ℕ) (s : Slot) → (slice_get (member_at g m).slots k ≡ Some s) ⊎ ((k ≡ length (member_at g m).slots) × (s ≡ entry)) → IsSaid h.sent (Put s.ballot (k + 1) s.request)
      put_there k s (inl e) = said_keeps keep _ (log.put k s e)
      put_there k s (inr e) =
          subst (λ (t : Slot). IsSaid h.sent (Put t.ballot (k + 1) t.request)) (sym e.1)
          (subst (λ (j : ℕ). IsSaid h.sent (Put b (j + 1) i)) (sym e.0) put_now)

      voted_there : (k : ℕ) (s : Slot) → (slice_get (member_at g m).slots k ≡ Some s) ⊎ ((k ≡ length (member_at g m).slots) × (s ≡ entry)) → Voted h.sent m s.ballot (k + 1)
      voted_there k s (inl e) = votes_keep keep _ _ _ (log.voted k s e)
      voted_there k s (inr e) =
          subst (λ (t : Slot). Voted h.sent m t.ballot (k + 1)) (sym e.1)
          (subst (λ (j : ℕ). Voted h.sent m b (j + 1)) (sym e.0) (by_leading i (sym own) put_now))

      held : (c : Ballot) (j : ℕ) → NewVote New c j → HoldsUnder x.slots j c
      held c j (keeping v) = absurd (differ (Kept c j) (Put b n i) refl v)
      held c j (leading k v) =
          let at : j ≡ n = ap slot_of v in
          record { slot = entry; there = get_last_at (member_at g m).slots entry (j - 1) (omega (arith, at)); is = sym (ap ballot_of v) }

      stays : (c : Ballot) (j : ℕ) → Voted g.sent m c j ⊎ ((m ≡ m) × NewVote New c j) → HasUnder x.slots j c
      stays c j (inl v) = more_has (member_at g m).slots entry j c (log.stays c j v)
      stays c j (inr v) = let e = held c j v.1 in record { slot = e.slot; there = e.there; least = up_to_same (sym e.is) }

      contrary : (c d : Ballot) (j : ℕ) → IsBelow d c → IsUpTo c b → NewVote New d j → ⊥
      contrary c d j l u (keeping w) = differ (Kept d j) (Put b n i) refl w
      contrary c d j l u (leading k w) = not_both (subst (λ (e : Ballot). IsBelow e c) (ap ballot_of w) l) u

      old_vote : (c d : Ballot) (j : ℕ) → IsBelow d c → IsUpTo c b → Voted g.sent m d j ⊎ ((m ≡ m) × NewVote New d j) → Voted g.sent m d j
      old_vote c d j l u (inl v) = v
      old_vote c d j l u (inr v) = absurd (contrary c d j l u v.1)

      vow : (c : Ballot) (told : List Slot) → Says g.sent m (Vow c told) ⊎ ((m ≡ m) × New (Vow c told)) → IsVow h.sent m b c told
      vow c told (inl s) =
          let v = log.vow c told s in
          carried_vow keep (λ d j l w. old_vote c d j l v.promise (moves.new_vote g h m x New move rises m d j w)) (up_to_itself b) v
      vow c told (inr v) = absurd (differ (Vow c told) (Put b n i) refl v.1)

      -- nothing was put there before
      free : (j k : ℕ) → j ≡ n → IsSaid g.sent (Put b j k) → ⊥
      free j k e s = let l = get_inside (member_at g m).slots (j - 1) record { ballot = b; request = k } (is_leader.all j k s) in absurd (omega (arith, e, l))

      all : (j k : ℕ) → IsSaid g.sent (Put b j k) ⊎ New (Put b j k) → slice_get x.slots (j - 1) ≡ Some record { ballot = b; request = k }
      all j k (inl s) = get_appended (member_at g m).slots entry (j - 1) _ (is_leader.all j k s)
      all j k (inr v) =
          let at : j ≡ n = ap slot_of v in
          subst (λ (r : ℕ). slice_get x.slots (j - 1) ≡ Some record { ballot = b; request = r }) (sym (ap request_of v)) (get_last_at (member_at g m).slots entry (j - 1) (omega (arith, at)))

      under_all : (k : ℕ) (s : Slot) → (slice_get (member_at g m).slots k ≡ Some s) ⊎ ((k ≡ length (member_at g m).slots) × (s ≡ entry)) → s.ballot ≡ b
      under_all k s (inl e) = is_leader.under k s e
      under_all k s (inr e) = ap (λ (t : Slot). t.ballot) e.1

      role : IsLeader h.sent m b x.slots notes
      role =
          record {
            own = own;
            under = λ k s e. under_all k s (got_appended (member_at g m).slots entry k s e);
            all = λ j k s. all j k (moves.new_said g h m x New move rises _ s);
            noted = λ k y e. keep _ _ (is_leader.noted k y e);
            apart = is_leader.apart;
          }

      longer : length (member_at g m).slots ≤ length (member_at h m).slots
      longer = subst (λ (z : Member). length (member_at g m).slots ≤ length z.slots) (sym move.there) (let l = length_more (member_at g m).slots entry in omega (arith, l))

      led : IsLed h m
      led = moves.led_longer g h m x New move rises m same_promise longer leading_on

      one : (c : Ballot) (j k l : ℕ) → IsSaid h.sent (Put c j k) → New (Put c j l) → k ≡ l
      one c j k l s v = named (moves.new_said g h m x New move rises _ s)
        where
          named : IsSaid g.sent (Put c j k) ⊎ New (Put c j k) → k ≡ l
          named (inl old) = absurd (free j k (ap slot_of v) (subst (λ (d : Ballot). IsSaid g.sent (Put d j k)) (ap ballot_of v) old))
          named (inr w) = ap request_of w ∙ sym (ap request_of v)

      above : (c d : Ballot) (j k l : ℕ) → New (Put c j k) → IsSaid h.sent (Put d j l) → IsBelow d c → (l ≡ k) ⊎ IsStuck h d j
      above c d j k l v s below =
          let at : j ≡ n = ap slot_of v in
          inr (moves.stuck g h m x New move rises d j (leading_on.free d j (subst (λ (e : Ballot). IsBelow d e) (ap ballot_of v) below) (omega (arith, at))))

      under : (c d : Ballot) (j k l : ℕ) → IsSaid h.sent (Put c j k) → New (Put d j l) → IsBelow d c → (l ≡ k) ⊎ IsStuck h d j
      under c d j k l s v below = named (moves.new_said g h m x New move rises _ s)
        where
          is : d ≡ b
          is = ap ballot_of v

          named : IsSaid g.sent (Put c j k) ⊎ New (Put c j k) → (l ≡ k) ⊎ IsStuck h d j
          named (inl old) =
              inr (moves.stuck_below g h m x New move rises sound.net d c j (sound.net.promised c j k old) below
              (λ r t. free j r (ap slot_of v) (subst (λ (e : Ballot). IsSaid g.sent (Put e j r)) is t)) (up_to_same (sym is)))
          named (inr w) = absurd (not_both below (up_to_same (ap ballot_of w ∙ sym is)))

      applied : (k : ℕ) → HasApplied h (member_at g m).slots k → HasApplied h x.slots k
      applied k a =
          record {
            request = a.request;
            told = a.told;
            picked = a.picked;
            held = more_has (member_at g m).slots entry (k + 1) a.picked.ballot a.held;
          }
