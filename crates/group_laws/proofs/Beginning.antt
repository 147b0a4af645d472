-- A candidate that has heard a majority begins to lead.
use Rattle.std.proofs.Common.{◌≡◌, ℕ, zero, suc, ◌+◌, ◌-◌, ◌<◌, ◌≤◌, ◌⊎◌, inl, inr, true, List, [], ◌∷◌, length, map, Some, arith, refl, sym, ap, ◌∙◌, subst}
use Rattle.std.proofs.Math.ListN.{length-set}
use Rattle.std.specs.Prelude.{slice_get, ◌==◌}
use Rattle.std.proofs.lemmas.Bool.{or_cases, eqb-true, true≢false}
use Rattle.rss_tables.specs.Round.{majority}
use Rattle.group_tables.specs.declared.messages.Ballot.{Ballot}
use Rattle.group_tables.specs.declared.messages.Slot.{Slot}
use Rattle.group_tables.specs.declared.messages.Body.{Body}
use Rattle.group_tables.specs.declared.messages.Body.TheVariants.{Vow, Put, Kept, Learn}
use Rattle.group_tables.specs.Ballots.{taken, best_at}
use Rattle.group_tables.specs.Groups.{Group, Member, Heard, leader, member_at, with_member}
use Rattle.group_tables.specs.Rows.{begins_to_lead}
use Rattle.group_laws.specs.Majority.{MajorityOf}
use Rattle.group_laws.specs.Order.{IsBelow, IsUpTo}
use Rattle.group_laws.specs.Said.{Says, IsSaid, Voted, by_leading}
use Rattle.group_laws.specs.Sound.{HasUnder, IsVow, IsCandidate, IsLeader, members_of, promise_at, ballot_of, IsBlocked, IsStuck, IsPromised, IsLed, HasApplied, IsSound}
use Rattle.group_laws.proofs.Ballots.{Compared, is_below, is_same, is_above, compare, up_to_itself, up_to_same, below_up_to, up_to_up_to, not_both}
use Rattle.group_laws.proofs.Lists.{some_is, none_is_not}
use Rattle.group_laws.proofs.Majorities.{AreMembers, is_one_of, majority_of_list, majority_of_more}
use Rattle.group_laws.proofs.Bodies.{entry_of, differ, slot_of, request_of}
use Rattle.group_laws.proofs.Sending.{Sends, IsPutOf, puts_each}
use Rattle.group_laws.proofs.Taken.{HasBest, IsOneOf, best_is_one, best_has, best_inside, length_taken, got_taken, taken_has}
use Rattle.group_laws.proofs.Moves as moves
use Rattle.group_laws.proofs.Moves.{Move, Rises, NewVote, keeping, leading, votes_keep, said_keeps, carried_vow, move_of}
use Rattle.group_laws.proofs.After.{Goes, HoldsUnder, goes_after, applied_on}
use Rattle.group_laws.proofs.Silent.{least_members}

-- the list that a heard member told
abbrev pub lists_of : List Heard → List (List Slot)
lists_of heard = map (λ (v : Heard). v.slots) heard

-- a heard member, with its place
pub record IsHeard (heard : List Heard) (q : ℕ) : Type 0 where
  pub place : ℕ
  pub vow : Heard
  pub there : slice_get heard place ≡ Some vow
  pub member : vow.member ≡ q
  pub list : slice_get (lists_of heard) place ≡ Some vow.slots

find_heard : (heard : List Heard) (q : ℕ) → is_one_of (members_of heard) q ≡ true → IsHeard heard q
find_heard [] q e = absurd (true≢false (sym e))
find_heard (v ∷ heard) q e = either (or_cases (q == v.member) (is_one_of (members_of heard) q) e) (find_heard heard q)
  where
    either : ((q == v.member) ≡ true) ⊎ (is_one_of (members_of heard) q ≡ true) → (is_one_of (members_of heard) q ≡ true → IsHeard heard q) → IsHeard (v ∷ heard) q
    either (inl f) ih = record { place = 0; vow = v; there = refl; member = sym (eqb-true q v.member f); list = refl }
    either (inr f) ih = let h = ih f in record { place = suc h.place; vow = h.vow; there = h.there; member = h.member; list = h.list }

listed : (heard : List Heard) (k : ℕ) (slots : List Slot) → slice_get (lists_of heard) k ≡ Some slots → (v : Heard) × (slice_get heard k ≡ Some v) × (v.slots ≡ slots)
listed [] k slots e = absurd (none_is_not e)
listed (v ∷ heard) zero slots e = (v, refl, some_is e)
listed (v ∷ heard) (suc k) slots e = listed heard k slots e

pub all_members : (members : ℕ) (heard : List Heard) → ((k : ℕ) (v : Heard) → slice_get heard k ≡ Some v → (1 ≤ v.member) × (v.member ≤ members)) → AreMembers members (members_of heard)
all_members members [] f = tt
all_members members (v ∷ heard) f = ((f 0 v refl).0, (f 0 v refl).1, all_members members heard (λ k u e. f (suc k) u e))

-- what is known of a member whose vow counts
pub record Counts (g : Group) (b : Ballot) (lists : List (List Slot)) (q : ℕ) : Type 0 where
  pub promise : IsUpTo b (promise_at g.members q)
  pub votes : (c : Ballot) (n : ℕ) → Voted g.sent q c n → IsBelow c b → HasBest lists (n - 1) c

module _ (g : Group) (m : ℕ) (heard : List Heard) (least : 1 ≤ m) (most : m ≤ length g.members) (sound : IsSound g)
    (is : IsCandidate g.sent m (member_at g m).promised (member_at g m).slots heard) (many : majority (length g.members) ≤ suc (length (members_of heard)))
    (members : AreMembers (length g.members) (members_of heard)) where
  abbrev lists : List (List Slot)
  lists = (member_at g m).slots ∷ lists_of heard

  counts_self : Counts g (member_at g m).promised ((member_at g m).slots ∷ lists_of heard) m
  counts_self =
      record {
        promise = up_to_itself (member_at g m).promised;
        votes = λ c n v l. best_has ((member_at g m).slots ∷ lists_of heard) 0 (member_at g m).slots n c refl ((sound.log m least most).stays c n v);
      }

  vow_of : (q : ℕ) → 1 ≤ q → q ≤ length g.members → (h : IsHeard heard q) → IsVow g.sent q (promise_at g.members q) (member_at g m).promised h.vow.slots
  vow_of q a c h = (sound.log q a c).vow (member_at g m).promised h.vow.slots (subst (λ (k : ℕ). Says g.sent k (Vow (member_at g m).promised h.vow.slots)) h.member (is.vowed h.place h.vow h.there))

  counts_heard : (q : ℕ) → 1 ≤ q → q ≤ length g.members → IsHeard heard q → Counts g (member_at g m).promised ((member_at g m).slots ∷ lists_of heard) q
  counts_heard q a c h =
      let v = vow_of q a c h in
      record {
        promise = v.promise;
        votes = λ d n w l. best_has ((member_at g m).slots ∷ lists_of heard) (suc h.place) h.vow.slots n d h.list (v.covers d n w l);
      }

  -- the majority that was heard
  heard_majority : MajorityOf (length g.members) (λ (q : ℕ). (1 ≤ q) × (q ≤ length g.members) → Counts g (member_at g m).promised ((member_at g m).slots ∷ lists_of heard) q)
  heard_majority =
      majority_of_list (length g.members) _ (m ∷ members_of heard) is.apart (least, most, members) many (λ q e range. either q range (or_cases (q == m) (is_one_of (members_of heard) q) e))
    where
      either : (q : ℕ) → (1 ≤ q) × (q ≤ length g.members) → ((q == m) ≡ true) ⊎ (is_one_of (members_of heard) q ≡ true) → Counts g (member_at g m).promised ((member_at g m).slots ∷ lists_of heard) q
      either q range (inl e) = subst (λ (k : ℕ). Counts g (member_at g m).promised ((member_at g m).slots ∷ lists_of heard) k) (sym (eqb-true q m e)) counts_self
      either q range (inr e) = counts_heard q range.0 range.1 (find_heard heard q e)

  is_promised : IsPromised g (member_at g m).promised
  is_promised =
      majority_of_more (length g.members) (length g.members) (λ (q : ℕ). (1 ≤ q) × (q ≤ length g.members) → Counts g (member_at g m).promised ((member_at g m).slots ∷ lists_of heard) q)
      (λ (q : ℕ). IsUpTo (member_at g m).promised (promise_at g.members q)) refl (λ q a c f. (f (a, c)).promise) heard_majority

  -- above the best entry nobody of the majority has voted
  stuck_above : (c : Ballot) (n : ℕ) → IsBelow c (member_at g m).promised → (HasBest ((member_at g m).slots ∷ lists_of heard) (n - 1) c → ⊥) → IsStuck g c n
  stuck_above c n l none =
      majority_of_more (length g.members) (length g.members) (λ (q : ℕ). (1 ≤ q) × (q ≤ length g.members) → Counts g (member_at g m).promised ((member_at g m).slots ∷ lists_of heard) q)
      (λ (q : ℕ). IsBlocked g.sent g.members c n q) refl
      (λ q a d f. let k = f (a, d) in record { above = below_up_to l k.promise; never = λ v. none (k.votes c n v l) }) heard_majority

  -- the best entry was put
  best_put : (k : ℕ) (s : Slot) → best_at ((member_at g m).slots ∷ lists_of heard) k ≡ Some s → IsSaid g.sent (Put s.ballot (k + 1) s.request)
  best_put k s e = by_list (best_is_one ((member_at g m).slots ∷ lists_of heard) k s e)
    where
      told : (j : ℕ) (slots : List Slot) → slice_get (lists_of heard) j ≡ Some slots → slice_get slots k ≡ Some s → IsSaid g.sent (Put s.ballot (k + 1) s.request)
      told j slots f there =
          let v = listed heard j slots f in
          let h = v.0 in
          let range = sound.net.routed in
          of_member h (is.vowed j h v.1) (subst (λ (l : List Slot). slice_get l k ≡ Some s) (sym v.2) there)
        where
          of_member : (h : Heard) → Says g.sent h.member (Vow (member_at g m).promised h.slots) → slice_get h.slots k ≡ Some s → IsSaid g.sent (Put s.ballot (k + 1) s.request)
          of_member h said there =
              let r = sound.net.routed said.place said.there in
              let a = r.from_least in
              let c = r.from_most in
              let e = said.by in
              ((sound.log h.member (omega (arith, a, e)) (omega (arith, c, e))).vow _ h.slots said).put k s there

      at_place : (j : ℕ) (slots : List Slot) → slice_get ((member_at g m).slots ∷ lists_of heard) j ≡ Some slots → slice_get slots k ≡ Some s → IsSaid g.sent (Put s.ballot (k + 1) s.request)
      at_place zero slots f there = (sound.log m least most).put k s (subst (λ (l : List Slot). slice_get l k ≡ Some s) (sym (some_is f)) there)
      at_place (suc j) slots f there = told j slots f there

      by_list : IsOneOf ((member_at g m).slots ∷ lists_of heard) k s → IsSaid g.sent (Put s.ballot (k + 1) s.request)
      by_list o = at_place o.place o.slots o.list o.there

  -- what was put before at a slot is the request of the best entry, or is stuck
  best_safe : (c : Ballot) (n j : ℕ) (s : Slot) → 1 ≤ n → best_at ((member_at g m).slots ∷ lists_of heard) (n - 1) ≡ Some s → IsSaid g.sent (Put c n j) → IsBelow c (member_at g m).promised → (j ≡ s.request) ⊎ IsStuck g c n
  best_safe c n j s first e said l = by_order (compare c s.ballot)
    where
      put : IsSaid g.sent (Put s.ballot n s.request)
      put = let back : (n - 1) + 1 ≡ n = omega (arith, first) in subst (λ (k : ℕ). IsSaid g.sent (Put s.ballot k s.request)) back (best_put (n - 1) s e)

      not_higher : IsBelow s.ballot c → HasBest ((member_at g m).slots ∷ lists_of heard) (n - 1) c → ⊥
      not_higher higher h = not_both higher (subst (λ (t : Slot). IsUpTo c t.ballot) (some_is (sym h.best ∙ e)) h.least)

      by_order : Compared c s.ballot → (j ≡ s.request) ⊎ IsStuck g c n
      by_order (is_below lower) = sound.safe s.ballot c n s.request j put said lower
      by_order (is_same f) = inl (sound.net.one s.ballot n j s.request (subst (λ (d : Ballot). IsSaid g.sent (Put d n j)) f said) put)
      by_order (is_above higher) = inr (stuck_above c n l (not_higher higher))

  abbrev b : Ballot
  b = (member_at g m).promised

  abbrev slots : List Slot
  slots = taken (member_at g m).promised ((member_at g m).slots ∷ lists_of heard)

  abbrev x : Member
  x = record (member_at g m) { slots = taken (member_at g m).promised ((member_at g m).slots ∷ lists_of heard); role = leader [] }

  abbrev h : Group
  h = begins_to_lead g m (member_at g m) heard

  abbrev New : Body → Type 0
  New = IsPutOf (member_at g m).promised 1 (taken (member_at g m).promised ((member_at g m).slots ∷ lists_of heard))

  sent : Sends (with_member g m x) h m New
  sent =
      let same = length-set g.members (m - 1) x in
      let two = least_members g sound in
      puts_each (with_member g m x) m b 1 slots (omega (arith, two, same)) least (omega (arith, most, same)) is.own (omega arith)

  move : Move g h m x New
  move = move_of g (with_member g m x) h m x New least most refl refl sent

  kept_not_put : (c : Ballot) (n : ℕ) → New (Kept c n) → ⊥
  kept_not_put c n v = differ (Kept c n) (Put b (1 + v.place) v.slot.request) refl v.is

  -- what is put now
  put_ballot : (c : Ballot) (n i : ℕ) → New (Put c n i) → c ≡ b
  put_ballot c n i v = ap ballot_of v.is

  put_slot : (c : Ballot) (n i : ℕ) → New (Put c n i) → slice_get slots (n - 1) ≡ Some record { ballot = b; request = i }
  put_slot c n i v =
      let at : n ≡ 1 + v.place = ap slot_of v.is in
      let back : v.place ≡ n - 1 = omega (arith, at) in
      let t = got_taken b lists v.place v.slot v.there in
      let entry : v.slot ≡ record { ballot = b; request = v.slot.request } = t.is ∙ ap (λ (r : ℕ). entry_of b r) (sym (ap (λ (s : Slot). s.request) t.is)) in
      let whole : v.slot ≡ record { ballot = b; request = i } = entry ∙ ap (λ (r : ℕ). entry_of b r) (sym (ap request_of v.is)) in
      subst (λ (k : ℕ). slice_get slots k ≡ Some record { ballot = b; request = i }) back (v.there ∙ ap (λ (s : Slot). Some s) whole)

  put_first : (c : Ballot) (n i : ℕ) → New (Put c n i) → 1 ≤ n
  put_first c n i v = let at : n ≡ 1 + v.place = ap slot_of v.is in omega (arith, at)

  rises : Rises g m x New
  rises =
      record {
        promise = up_to_itself b;
        kept = λ c n v. absurd (kept_not_put c n v);
        put = λ c n i v. (ap (λ (c : Ballot). c.member) (put_ballot c n i v) ∙ is.own, up_to_same (sym (put_ballot c n i v)));
      }

  keep : (q : ℕ) (y : Body) → Says g.sent q y → Says h.sent q y
  keep = move.grows.keeps

  same_promise : promise_at h.members m ≡ b
  same_promise = ap (λ (z : Member). z.promised) move.there

  under_b : (k : ℕ) (s : Slot) → slice_get slots k ≡ Some s → s.ballot ≡ b
  under_b k s e = ap (λ (t : Slot). t.ballot) (got_taken b lists k s e).is

  put_there : (k : ℕ) (s : Slot) → slice_get slots k ≡ Some s → Says h.sent m (Put s.ballot (k + 1) s.request)
  put_there k s e =
      let at : 1 + k ≡ k + 1 = omega arith in
      subst (λ (c : Ballot). Says h.sent m (Put c (k + 1) s.request)) (sym (under_b k s e))
      (subst (λ (n : ℕ). Says h.sent m (Put b n s.request)) at (move.grows.said (Put b (1 + k) s.request) record { place = k; slot = s; there = e; is = refl }))

  held : (c : Ballot) (n : ℕ) → NewVote New c n → HoldsUnder slots n c
  held c n (keeping v) = absurd (kept_not_put c n v)
  held c n (leading i v) = record { slot = record { ballot = b; request = i }; there = put_slot c n i v; is = sym (put_ballot c n i v) }

  -- what the old list had, the new one has
  still_has : (n : ℕ) (c : Ballot) → IsUpTo c b → HasUnder (member_at g m).slots n c → HasUnder slots n c
  still_has n c u k = taken_has b lists n c u (best_has lists 0 (member_at g m).slots n c refl k)

  has_up : (n : ℕ) (c : Ballot) → HasUnder (member_at g m).slots n c → IsUpTo c b
  has_up n c k = up_to_up_to k.least ((sound.log m least most).below (n - 1) k.slot k.there)

  stays : (c : Ballot) (n : ℕ) → Voted g.sent m c n ⊎ ((m ≡ m) × NewVote New c n) → HasUnder slots n c
  stays c n (inl v) = let k = (sound.log m least most).stays c n v in still_has n c (has_up n c k) k
  stays c n (inr v) = let e = held c n v.1 in record { slot = e.slot; there = e.there; least = up_to_same (sym e.is) }

  contrary : (c d : Ballot) (n : ℕ) → IsBelow d c → IsUpTo c b → NewVote New d n → ⊥
  contrary c d n l u (keeping v) = kept_not_put d n v
  contrary c d n l u (leading i v) = not_both (subst (λ (e : Ballot). IsBelow e c) (put_ballot d n i v) l) u

  old_vote : (c d : Ballot) (n : ℕ) → IsBelow d c → IsUpTo c b → Voted g.sent m d n ⊎ ((m ≡ m) × NewVote New d n) → Voted g.sent m d n
  old_vote c d n l u (inl v) = v
  old_vote c d n l u (inr v) = absurd (contrary c d n l u v.1)

  vow : (c : Ballot) (told : List Slot) → Says g.sent m (Vow c told) ⊎ ((m ≡ m) × New (Vow c told)) → IsVow h.sent m b c told
  vow c told (inl s) =
      let v = (sound.log m least most).vow c told s in
      carried_vow keep (λ d n l w. old_vote c d n l v.promise (moves.new_vote g h m x New move rises m d n w)) (up_to_itself b) v
  vow c told (inr v) = absurd (differ (Vow c told) (Put b (1 + v.1.place) v.1.slot.request) refl v.1.is)

  all : (n i : ℕ) → IsSaid g.sent (Put b n i) ⊎ New (Put b n i) → slice_get slots (n - 1) ≡ Some record { ballot = b; request = i }
  all n i (inl s) = absurd (is.nothing n i s)
  all n i (inr v) = put_slot b n i v

  role : IsLeader h.sent m b slots []
  role =
      record {
        own = is.own;
        under = under_b;
        all = λ n i s. all n i (moves.new_said g h m x New move rises _ s);
        noted = λ k y e. absurd (none_is_not e);
        apart = λ n. (tt, tt);
      }

  free : (c : Ballot) (n : ℕ) → IsBelow c b → length slots < n → IsStuck g c n
  free c n l longer =
      stuck_above c n l (λ k. let inside = best_inside lists (n - 1) k.slot k.best in let size = length_taken b lists in absurd (omega (arith, inside, size, longer)))

  led : IsLed h m
  led =
      record {
        promised = subst (λ (c : Ballot). IsPromised h c) (sym same_promise) (moves.promised g h m x New move rises b is_promised);
        free = λ c n l longer. moves.stuck g h m x New move rises c n (free c n (subst (λ (d : Ballot). IsBelow c d) same_promise l) (subst (λ (z : Member). length z.slots < n) move.there longer));
      }

  begun : IsUpTo b (promise_at h.members b.member)
  begun = subst (λ (k : ℕ). IsUpTo b (promise_at h.members k)) (sym is.own) (up_to_same (sym same_promise))

  one : (c : Ballot) (n i j : ℕ) → New (Put c n j) → IsSaid g.sent (Put c n i) ⊎ New (Put c n i) → i ≡ j
  one c n i j v (inl s) = absurd (is.nothing n i (subst (λ (d : Ballot). IsSaid g.sent (Put d n i)) (put_ballot c n j v) s))
  one c n i j v (inr w) = ap (λ (s : Slot). s.request) (some_is (sym (put_slot c n i w) ∙ put_slot c n j v))

  above_old : (c d : Ballot) (n i j : ℕ) → New (Put c n i) → IsBelow d c → IsSaid g.sent (Put d n j) ⊎ New (Put d n j) → (j ≡ i) ⊎ IsStuck h d n
  above_old c d n i j v l (inr w) = absurd (not_both l (up_to_same (put_ballot c n i v ∙ sym (put_ballot d n j w))))
  above_old c d n i j v l (inl s) =
      let t = got_taken b lists (n - 1) record { ballot = b; request = i } (put_slot c n i v) in
      let same : i ≡ t.slot.request = ap (λ (s : Slot). s.request) t.is in
      named same (best_safe d n j t.slot (put_first c n i v) t.best s (subst (λ (e : Ballot). IsBelow d e) (put_ballot c n i v) l))
    where
      named : {r : ℕ} → i ≡ r → (j ≡ r) ⊎ IsStuck g d n → (j ≡ i) ⊎ IsStuck h d n
      named e (inl f) = inl (f ∙ sym e)
      named e (inr k) = inr (moves.stuck g h m x New move rises d n k)

  under_new : (c d : Ballot) (n i j : ℕ) → New (Put d n j) → IsBelow d c → IsSaid g.sent (Put c n i) ⊎ New (Put c n i) → (j ≡ i) ⊎ IsStuck h d n
  under_new c d n i j v l (inr w) = absurd (not_both l (up_to_same (put_ballot c n i w ∙ sym (put_ballot d n j v))))
  under_new c d n i j v l (inl s) =
      inr (moves.stuck_below g h m x New move rises sound.net d c n (sound.net.promised c n i s) l
      (λ r t. is.nothing n r (subst (λ (e : Ballot). IsSaid g.sent (Put e n r)) (put_ballot d n j v) t)) (up_to_same (sym (put_ballot d n j v))))

  keeps_told : (k i : ℕ) → slice_get g.told k ≡ Some i → slice_get h.told k ≡ Some i
  keeps_told k i e = subst (λ (told : List ℕ). slice_get told k ≡ Some i) (sym sent.told) e

  applied : (k : ℕ) → HasApplied h (member_at g m).slots k → HasApplied h slots k
  applied k a =
      record { request = a.request; told = a.told; picked = a.picked; held = still_has (k + 1) a.picked.ballot (has_up (k + 1) a.picked.ballot a.held) a.held }

  pub begin_goes : Goes g (begins_to_lead g m (member_at g m) heard)
  begin_goes =
      goes_after g h m x New move rises sound
      record {
        log = record {
          below = λ k s e. up_to_same (under_b k s e);
          put = λ k s e. record { by = m; says = put_there k s e };
          voted = λ k s e. by_leading s.request (sym is.own ∙ ap (λ (c : Ballot). c.member) (sym (under_b k s e))) record { by = m; says = put_there k s e };
          stays = λ c n v. stays c n (moves.new_vote g h m x New move rises m c n v);
          vow = λ c told s. vow c told (move.grows.only m (Vow c told) s);
        };
        role = role;
        led = led;
        begun = λ y v. subst (λ (z : Body). IsUpTo (ballot_of z) (promise_at h.members (ballot_of z).member)) (sym v.is) begun;
        kept = λ c n v. absurd (kept_not_put c n v);
        learn = λ c n v. absurd (differ (Learn c n) (Put b (1 + v.place) v.slot.request) refl v.is);
        one = λ c n i j s v. one c n i j v (moves.new_said g h m x New move rises _ s);
        promised = λ c n i v. subst (λ (d : Ballot). IsPromised g d) (sym (put_ballot c n i v)) is_promised;
        above = λ c d n i j v s l. above_old c d n i j v l (moves.new_said g h m x New move rises _ s);
        under = λ c d n i j s v l. under_new c d n i j v l (moves.new_said g h m x New move rises _ s);
        told = λ k i e. inl (subst (λ (told : List ℕ). slice_get told k ≡ Some i) sent.told e);
        keeps_told = keeps_told;
        applied = λ k l. applied k (applied_on g h m x New move rises keeps_told (member_at g m).slots k (sound.applied m k least most l));
        held = held;
      }
