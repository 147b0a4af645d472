-- A member vows, and a member keeps what is put.
use Rattle.std.proofs.Common.{◌≡◌, ℕ, ◌+◌, ◌-◌, ◌≤◌, ◌⊎◌, inl, inr, Bool, true, false, List, [], ◌∷◌, ◌++◌, length, Some, arith, refl, sym, ap, ◌∙◌, subst}
use Rattle.std.proofs.Math.ListN.{set, length-set}
use Rattle.std.specs.Prelude.{slice_get, nat_lt, if◌then◌else◌}
use Rattle.std.proofs.lemmas.Bool.{cases_eq, ltb-true, ltb-false}
use Rattle.group_tables.specs.declared.messages.Ballot.{Ballot}
use Rattle.group_tables.specs.declared.messages.Slot.{Slot}
use Rattle.group_tables.specs.declared.messages.Body.{Body}
use Rattle.group_tables.specs.declared.messages.Body.TheVariants.{Vow, Put, Kept, Learn}
use Rattle.group_tables.specs.Groups.{Group, Member, follower, member_at, with_member, sends}
use Rattle.group_tables.specs.Rows.{placed}
use Rattle.group_laws.specs.Order.{IsBelow, IsUpTo}
use Rattle.group_laws.specs.Said.{Says, IsSaid, Voted, by_keeping}
use Rattle.group_laws.specs.Sound.{HasUnder, IsVow, IsLog, promise_at, ballot_of, HasApplied, IsSound}
use Rattle.group_laws.proofs.Ballots.{up_to, up_to_itself, up_to_same, up_to_below, up_to_up_to, not_both}
use Rattle.group_laws.proofs.Lists.{got_appended, get_appended, get_last_at, got_set, get_set_same, get_set_other, get_inside}
use Rattle.group_laws.proofs.Bodies.{differ, slot_of, slots_of}
use Rattle.group_laws.proofs.Sending.{MaySend, sends_one}
use Rattle.group_laws.proofs.Moves as moves
use Rattle.group_laws.proofs.Moves.{Move, Rises, NewVote, keeping, leading, votes_keep, said_keeps, carried_vow, move_of}
use Rattle.group_laws.proofs.After.{Goes, HoldsUnder, goes_after, applied_on}

-- what stands in a list where something was placed, at most behind its end
pub got_placed : (xs : List Slot) (p : ℕ) (s : Slot) (j : ℕ) (t : Slot) → p ≤ length xs → slice_get (placed xs p s) j ≡ Some t → ((slice_get xs j ≡ Some t) × (j ≡ p → ⊥)) ⊎ ((j ≡ p) × (t ≡ s))
got_placed xs p s j t l e = by_test (nat_lt p (length xs)) refl e
  where
    behind : p ≡ length xs → (slice_get xs j ≡ Some t) ⊎ ((j ≡ length xs) × (t ≡ s)) → ((slice_get xs j ≡ Some t) × (j ≡ p → ⊥)) ⊎ ((j ≡ p) × (t ≡ s))
    behind f (inl g) = let k = get_inside xs j t g in inl (g, λ h. absurd (omega (arith, k, f, h)))
    behind f (inr g) = inr (g.0 ∙ sym f, g.1)

    by_test : (b : Bool) → nat_lt p (length xs) ≡ b → slice_get (if b then set xs p s else xs ++ s ∷ []) j ≡ Some t → ((slice_get xs j ≡ Some t) × (j ≡ p → ⊥)) ⊎ ((j ≡ p) × (t ≡ s))
    by_test true f g = got_set xs p s j t g
    by_test false f g = let k = ltb-false p (length xs) f in behind (omega (arith, k, l)) (got_appended xs s j t g)

pub get_placed_same : (xs : List Slot) (p : ℕ) (s : Slot) → p ≤ length xs → slice_get (placed xs p s) p ≡ Some s
get_placed_same xs p s l = by_test (nat_lt p (length xs)) refl
  where
    by_test : (b : Bool) → nat_lt p (length xs) ≡ b → slice_get (if b then set xs p s else xs ++ s ∷ []) p ≡ Some s
    by_test true f = get_set_same xs p s (ltb-true p (length xs) f)
    by_test false f = let k = ltb-false p (length xs) f in get_last_at xs s p (omega (arith, k, l))

pub get_placed_other : (xs : List Slot) (p : ℕ) (s : Slot) (j : ℕ) (t : Slot) → (j ≡ p → ⊥) → slice_get xs j ≡ Some t → slice_get (placed xs p s) j ≡ Some t
get_placed_other xs p s j t d e = by_test (nat_lt p (length xs))
  where
    by_test : (b : Bool) → slice_get (if b then set xs p s else xs ++ s ∷ []) j ≡ Some t
    by_test true = get_set_other xs p s j d ∙ e
    by_test false = get_appended xs s j t e

-- a list still has something under a ballot
placed_has : (xs : List Slot) (p : ℕ) (s : Slot) (n : ℕ) (c : Ballot) → p ≤ length xs → ((k : ℕ) (t : Slot) → slice_get xs k ≡ Some t → IsUpTo t.ballot s.ballot) → HasUnder xs n c → HasUnder (placed xs p s) n c
placed_has xs p s n c l up h = by_place (cases_eq (n - 1) p)
  where
    by_place : (n - 1 ≡ p) ⊎ (n - 1 ≡ p → ⊥) → HasUnder (placed xs p s) n c
    by_place (inl e) =
        record {
          slot = s;
          there = subst (λ (k : ℕ). slice_get (placed xs p s) k ≡ Some s) (sym e) (get_placed_same xs p s l);
          least = up_to_up_to h.least (up (n - 1) h.slot h.there);
        }
    by_place (inr d) = record { slot = h.slot; there = get_placed_other xs p s (n - 1) h.slot d h.there; least = h.least }

-- a vow
abbrev pub Vowing : Ballot → List Slot → Body → Type 0
Vowing b slots y = y ≡ Vow b slots

abbrev pub vowing_member : Member → Ballot → Member
vowing_member x b = record x { promised = b; role = follower }

one_more : (g : Group) (m r : ℕ) (x : Member) (body : Body) → MaySend (length g.members) m r body → MaySend (length (with_member g m x).members) m r body
one_more g m r x body may = subst (λ (n : ℕ). MaySend n m r body) (sym (length-set g.members (m - 1) x)) may

module _ (g : Group) (m r : ℕ) (b : Ballot) (may : MaySend (length g.members) m r (Vow b (member_at g m).slots)) (above : IsBelow (member_at g m).promised b)
    (begun : IsUpTo b (promise_at g.members b.member)) (sound : IsSound g) where
  pub vow_goes : Goes g (sends (with_member g m (vowing_member (member_at g m) b)) m r (Vow b (member_at g m).slots))
  vow_goes =
      goes_after g h m x New move rises sound
      record {
        log = record {
          below = λ k s e. up_to_up_to (log.below k s e) (up_to above);
          put = λ k s e. said_keeps keep _ (log.put k s e);
          voted = λ k s e. votes_keep keep _ _ _ (log.voted k s e);
          stays = λ c n v. log.stays c n (old_vote c n v);
          vow = λ c told s. vow c told (move.grows.only m (Vow c told) s);
        };
        role = tt;
        led = tt;
        begun = λ y v. subst (λ (z : Body). IsUpTo (ballot_of z) (promise_at h.members (ballot_of z).member)) (sym v) (up_to_up_to begun (moves.promise_at_up g h m x New move rises b.member));
        kept = λ c n v. absurd (differ (Kept c n) (Vow b before.slots) refl v);
        learn = λ c n v. absurd (differ (Learn c n) (Vow b before.slots) refl v);
        one = λ c n i j s v. absurd (differ (Put c n j) (Vow b before.slots) refl v);
        promised = λ c n i v. absurd (differ (Put c n i) (Vow b before.slots) refl v);
        above = λ c d n i j v s l. absurd (differ (Put c n i) (Vow b before.slots) refl v);
        under = λ c d n i j s v l. absurd (differ (Put d n j) (Vow b before.slots) refl v);
        told = λ k i e. inl e;
        keeps_told = λ k i e. e;
        applied = λ k l. applied_on g h m x New move rises (λ j i e. e) before.slots k (sound.applied m k may.from_least may.from_most l);
        held = λ c n v. absurd (no_vote c n v);
      }
    where
      before : Member
      before = member_at g m

      x : Member
      x = vowing_member before b

      h : Group
      h = sends (with_member g m x) m r (Vow b before.slots)

      New : Body → Type 0
      New = Vowing b before.slots

      log : IsLog g.sent m before.promised before.slots
      log = sound.log m may.from_least may.from_most

      move : Move g h m x New
      move = move_of g (with_member g m x) h m x New may.from_least may.from_most refl refl (sends_one (with_member g m x) m r (Vow b before.slots) (one_more g m r x _ may))

      no_vote : (c : Ballot) (n : ℕ) → NewVote New c n → ⊥
      no_vote c n (keeping v) = differ (Kept c n) (Vow b before.slots) refl v
      no_vote c n (leading i v) = differ (Put c n i) (Vow b before.slots) refl v

      rises : Rises g m x New
      rises = record { promise = up_to above; kept = λ c n v. absurd (no_vote c n (keeping v)); put = λ c n i v. absurd (no_vote c n (leading i v)) }

      keep : (q : ℕ) (y : Body) → Says g.sent q y → Says h.sent q y
      keep = move.grows.keeps

      named : (c : Ballot) (n : ℕ) → Voted g.sent m c n ⊎ ((m ≡ m) × NewVote New c n) → Voted g.sent m c n
      named c n (inl v) = v
      named c n (inr v) = absurd (no_vote c n v.1)

      old_vote : (c : Ballot) (n : ℕ) → Voted h.sent m c n → Voted g.sent m c n
      old_vote c n v = named c n (moves.new_vote g h m x New move rises m c n v)

      here : IsVow h.sent m b b before.slots
      here =
          record {
            promise = up_to_itself b;
            below = λ k s e. up_to_below (log.below k s e) above;
            put = λ k s e. said_keeps keep _ (log.put k s e);
            covers = λ c n v l. log.stays c n (old_vote c n v);
          }

      vow : (c : Ballot) (told : List Slot) → Says g.sent m (Vow c told) ⊎ ((m ≡ m) × New (Vow c told)) → IsVow h.sent m b c told
      vow c told (inl s) = carried_vow keep (λ d n l v. old_vote d n v) (up_to above) (log.vow c told s)
      vow c told (inr v) =
          subst (λ (d : Ballot). IsVow h.sent m b d told) (sym (ap ballot_of v.1))
          (subst (λ (slots : List Slot). IsVow h.sent m b b slots) (sym (ap slots_of v.1)) here)

-- what is put is kept
abbrev pub Keeping : Ballot → ℕ → Body → Type 0
Keeping b n y = y ≡ Kept b n

abbrev pub keeping_member : Member → Ballot → ℕ → ℕ → Member
keeping_member x b n i = record x { promised = b; role = follower; slots = placed x.slots (n - 1) record { ballot = b; request = i } }

module _ (g : Group) (m r : ℕ) (b : Ballot) (n i : ℕ) (may : MaySend (length g.members) m r (Kept b n)) (up : IsUpTo (member_at g m).promised b)
    (short : n ≤ length (member_at g m).slots + 1) (put : IsSaid g.sent (Put b n i)) (sound : IsSound g) where
  pub keep_goes : Goes g (sends (with_member g m (keeping_member (member_at g m) b n i)) m r (Kept b n))
  keep_goes =
      goes_after g h m x New move rises sound
      record {
        log = record {
          below = λ k s e. below k s (got_placed before.slots (n - 1) entry k s inside e);
          put = λ k s e. put_there k s (got_placed before.slots (n - 1) entry k s inside e);
          voted = λ k s e. voted_there k s (got_placed before.slots (n - 1) entry k s inside e);
          stays = λ c j v. stays c j (moves.new_vote g h m x New move rises m c j v);
          vow = λ c told s. vow c told (move.grows.only m (Vow c told) s);
        };
        role = tt;
        led = tt;
        begun = λ y v. subst (λ (z : Body). IsUpTo (ballot_of z) (promise_at h.members (ballot_of z).member)) (sym v)
            (up_to_up_to (sound.net.begun (Put b n i) put) (moves.promise_at_up g h m x New move rises b.member));
        kept = λ c j v. (i, subst (λ (d : Ballot). IsSaid g.sent (Put d j i)) (sym (ap ballot_of v)) (subst (λ (k : ℕ). IsSaid g.sent (Put b k i)) (sym (ap slot_of v)) put));
        learn = λ c j v. absurd (differ (Learn c j) (Kept b n) refl v);
        one = λ c j k l s v. absurd (differ (Put c j l) (Kept b n) refl v);
        promised = λ c j k v. absurd (differ (Put c j k) (Kept b n) refl v);
        above = λ c d j k l v s below. absurd (differ (Put c j k) (Kept b n) refl v);
        under = λ c d j k l s v below. absurd (differ (Put d j l) (Kept b n) refl v);
        told = λ k j e. inl e;
        keeps_told = λ k j e. e;
        applied = λ k l. applied k (applied_on g h m x New move rises (λ j d e. e) before.slots k (sound.applied m k may.from_least may.from_most l));
        held = held;
      }
    where
      before : Member
      before = member_at g m

      entry : Slot
      entry = record { ballot = b; request = i }

      x : Member
      x = keeping_member before b n i

      h : Group
      h = sends (with_member g m x) m r (Kept b n)

      New : Body → Type 0
      New = Keeping b n

      log : IsLog g.sent m before.promised before.slots
      log = sound.log m may.from_least may.from_most

      first : 1 ≤ n
      first = may.may_say.1

      inside : n - 1 ≤ length before.slots
      inside = omega (arith, short)

      move : Move g h m x New
      move = move_of g (with_member g m x) h m x New may.from_least may.from_most refl refl (sends_one (with_member g m x) m r (Kept b n) (one_more g m r x _ may))

      rises : Rises g m x New
      rises =
          record {
            promise = up;
            kept = λ c j v. subst (λ (d : Ballot). IsUpTo before.promised d) (sym (ap ballot_of v)) up;
            put = λ c j k v. absurd (differ (Put c j k) (Kept b n) refl v);
          }

      keep : (q : ℕ) (y : Body) → Says g.sent q y → Says h.sent q y
      keep = move.grows.keeps

      all_up : (k : ℕ) (s : Slot) → slice_get before.slots k ≡ Some s → IsUpTo s.ballot b
      all_up k s e = up_to_up_to (log.below k s e) up

      below : (k : ℕ) (s : Slot) → ((slice_get before.slots k ≡ Some s) × (k ≡ n - 1 → ⊥)) ⊎ ((k ≡ n - 1) × (s ≡ entry)) → IsUpTo s.ballot b
      below k s (inl e) = all_up k s e.0
      below k s (inr e) = up_to_same (ap (λ (t : Slot). t.ballot) e.1)

      back : (k : ℕ) → k ≡ n - 1 → n ≡ k + 1
      back k e = omega (arith, e, first)

      put_there : (k : ℕ) (s : Slot) → ((slice_get before.slots k ≡ Some s) × (k ≡ n - 1 → ⊥)) ⊎ ((k ≡ n - 1) × (s ≡ entry)) → IsSaid h.sent (Put s.ballot (k + 1) s.request)
      put_there k s (inl e) = said_keeps keep _ (log.put k s e.0)
      put_there k s (inr e) =
          subst (λ (t : Slot). IsSaid h.sent (Put t.ballot (k + 1) t.request)) (sym e.1)
          (subst (λ (j : ℕ). IsSaid h.sent (Put b j i)) (back k e.0) (said_keeps keep _ put))

      voted_there : (k : ℕ) (s : Slot) → ((slice_get before.slots k ≡ Some s) × (k ≡ n - 1 → ⊥)) ⊎ ((k ≡ n - 1) × (s ≡ entry)) → Voted h.sent m s.ballot (k + 1)
      voted_there k s (inl e) = votes_keep keep _ _ _ (log.voted k s e.0)
      voted_there k s (inr e) =
          subst (λ (t : Slot). Voted h.sent m t.ballot (k + 1)) (sym e.1)
          (subst (λ (j : ℕ). Voted h.sent m b j) (back k e.0) (by_keeping (move.grows.said (Kept b n) refl)))

      held : (c : Ballot) (j : ℕ) → NewVote New c j → HoldsUnder x.slots j c
      held c j (keeping v) =
          record {
            slot = entry;
            there = subst (λ (k : ℕ). slice_get (placed before.slots (n - 1) entry) (k - 1) ≡ Some entry) (sym (ap slot_of v)) (get_placed_same before.slots (n - 1) entry inside);
            is = sym (ap ballot_of v);
          }
      held c j (leading k v) = absurd (differ (Put c j k) (Kept b n) refl v)

      stays : (c : Ballot) (j : ℕ) → Voted g.sent m c j ⊎ ((m ≡ m) × NewVote New c j) → HasUnder x.slots j c
      stays c j (inl v) = placed_has before.slots (n - 1) entry j c inside all_up (log.stays c j v)
      stays c j (inr v) = let e = held c j v.1 in record { slot = e.slot; there = e.there; least = up_to_same (sym e.is) }

      old_vote : (c d : Ballot) (j : ℕ) → IsBelow d c → IsUpTo c before.promised → Voted g.sent m d j ⊎ ((m ≡ m) × NewVote New d j) → Voted g.sent m d j
      old_vote c d j l u (inl v) = v
      old_vote c d j l u (inr v) = absurd (contrary v.1)
        where
          contrary : NewVote New d j → ⊥
          contrary (keeping w) = not_both (subst (λ (e : Ballot). IsBelow e c) (ap ballot_of w) l) (up_to_up_to u up)
          contrary (leading k w) = differ (Put d j k) (Kept b n) refl w

      vow : (c : Ballot) (told : List Slot) → Says g.sent m (Vow c told) ⊎ ((m ≡ m) × New (Vow c told)) → IsVow h.sent m b c told
      vow c told (inl s) =
          let v = log.vow c told s in
          carried_vow keep (λ d j l w. old_vote c d j l v.promise (moves.new_vote g h m x New move rises m d j w)) up v
      vow c told (inr v) = absurd (differ (Vow c told) (Kept b n) refl v.1)

      applied : (k : ℕ) → HasApplied h before.slots k → HasApplied h x.slots k
      applied k a =
          record {
            request = a.request;
            told = a.told;
            picked = a.picked;
            held = placed_has before.slots (n - 1) entry (k + 1) a.picked.ballot inside all_up a.held;
          }
