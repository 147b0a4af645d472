-- Moves by which nobody votes, and that change no slots: a fate, a lead, a vow that is heard, a note, a crash.
use Rattle.std.proofs.Common.{◌≡◌, ℕ, ◌+◌, ◌-◌, ◌<◌, ◌≤◌, ◌⊎◌, inl, inr, List, [], length, Some, arith, refl, sym, ap, subst}
use Rattle.std.proofs.Math.ListN.{length-set}
use Rattle.std.specs.Prelude.{slice_get}
use Rattle.rss_wire.specs.declared.message.Fate.{Fate}
use Rattle.group_tables.specs.declared.messages.Ballot.{Ballot}
use Rattle.group_tables.specs.declared.messages.Slot.{Slot}
use Rattle.group_tables.specs.declared.messages.Body.{Body}
use Rattle.group_tables.specs.declared.messages.Body.TheVariants.{Seek, Vow, Put, Kept, Learn}
use Rattle.group_tables.specs.Groups.{Group, Member, follower, candidate, member_at, with_member, sends_others}
use Rattle.group_tables.specs.Rows.{leads, crashes}
use Rattle.group_tables.specs.Steps.{meets}
use Rattle.group_laws.specs.Order.{IsUpTo}
use Rattle.group_laws.specs.Said.{Says, IsSaid, Voted, by_keeping, by_leading}
use Rattle.group_laws.specs.Sound.{IsLog, IsInRole, promise_at, ballot_of, IsVoted, IsLedBy, IsPicked, HasApplied, IsSound}
use Rattle.group_laws.proofs.Ballots.{up_to, up_to_itself, up_to_same, up_to_below, not_both, next_round}
use Rattle.group_laws.proofs.Lists.{none_is_not}
use Rattle.group_laws.proofs.Bodies.{differ}
use Rattle.group_laws.proofs.Sending.{Sends, met_says, met_said, met_routed, sends_nothing, sends_to_others}
use Rattle.group_laws.proofs.Moves as moves
use Rattle.group_laws.proofs.Moves.{Move, Rises, Quiet, NewVote, keeping, leading, quiet_log, quiet_role, quiet_leader, move_of}
use Rattle.group_laws.proofs.After.{Goes, Fits, HoldsUnder, goes_after, applied_on}

-- nothing is said that counts as a vote or a vow
pub record IsSilent (New : Body → Type 0) : Type 0 where
  pub kept : (b : Ballot) (n : ℕ) → New (Kept b n) → ⊥
  pub put : (b : Ballot) (n i : ℕ) → New (Put b n i) → ⊥
  pub vow : (b : Ballot) (slots : List Slot) → New (Vow b slots) → ⊥

pub rises_in_silence : (g : Group) (m : ℕ) (x : Member) (New : Body → Type 0) → IsSilent New → IsUpTo (member_at g m).promised x.promised → Rises g m x New
rises_in_silence g m x New silent u =
    record { promise = u; kept = λ b n v. absurd (silent.kept b n v); put = λ b n i v. absurd (silent.put b n i v) }

-- what such a move shows
pub record Shows (g h : Group) (m : ℕ) (x : Member) (New : Body → Type 0) : Type 0 where
  pub slots : x.slots ≡ (member_at g m).slots
  pub role : IsInRole h.sent m x.promised x.slots x.role
  pub led : IsLedBy h m x.role
  pub begun : (y : Body) → New y → IsUpTo (ballot_of y) (promise_at h.members (ballot_of y).member)
  pub learn : (b : Ballot) (n : ℕ) → New (Learn b n) → IsVoted g b n
  pub told : (k i : ℕ) → slice_get h.told k ≡ Some i → (slice_get g.told k ≡ Some i) ⊎ IsPicked g (k + 1) i
  pub keeps_told : (k i : ℕ) → slice_get g.told k ≡ Some i → slice_get h.told k ≡ Some i
  pub applied : (k : ℕ) → k < x.applied → HasApplied h x.slots k

module _ (g h : Group) (m : ℕ) (x : Member) (New : Body → Type 0) (silent : IsSilent New) (move : Move g h m x New) (rises : Rises g m x New) where
  pub quiet : Quiet g.sent h.sent m
  quiet =
      record {
        keeps = move.grows.keeps;
        votes = λ b n v. vote b n (moves.new_vote g h m x New move rises m b n v);
        vows = λ b slots s. vow b slots (move.grows.only m (Vow b slots) s);
        puts = λ b n i e s. put b n i (moves.new_said g h m x New move rises _ s);
      }
    where
      vote : (b : Ballot) (n : ℕ) → Voted g.sent m b n ⊎ ((m ≡ m) × NewVote New b n) → Voted g.sent m b n
      vote b n (inl v) = v
      vote b n (inr v) = absurd (cast v.1)
        where
          cast : NewVote New b n → ⊥
          cast (keeping w) = silent.kept b n w
          cast (leading i w) = silent.put b n i w

      vow : (b : Ballot) (slots : List Slot) → Says g.sent m (Vow b slots) ⊎ ((m ≡ m) × New (Vow b slots)) → Says g.sent m (Vow b slots)
      vow b slots (inl s) = s
      vow b slots (inr s) = absurd (silent.vow b slots s.1)

      put : (b : Ballot) (n i : ℕ) → IsSaid g.sent (Put b n i) ⊎ New (Put b n i) → IsSaid g.sent (Put b n i)
      put b n i (inl s) = s
      put b n i (inr s) = absurd (silent.put b n i s)

  silent_fits : IsSound g → Shows g h m x New → Fits g h m x New
  silent_fits sound shows =
      record {
        log = subst (λ (slots : List Slot). IsLog h.sent m x.promised slots) (sym shows.slots) (quiet_log quiet rises.promise (sound.log m move.least move.most));
        role = shows.role;
        led = shows.led;
        begun = shows.begun;
        kept = λ b n v. absurd (silent.kept b n v);
        learn = shows.learn;
        one = λ b n i j s v. absurd (silent.put b n j v);
        promised = λ b n i v. absurd (silent.put b n i v);
        above = λ b c n i j v s l. absurd (silent.put b n i v);
        under = λ b c n i j s v l. absurd (silent.put c n j v);
        told = shows.told;
        keeps_told = shows.keeps_told;
        applied = shows.applied;
        held = held;
      }
    where
      held : (b : Ballot) (n : ℕ) → NewVote New b n → HoldsUnder x.slots n b
      held b n (keeping w) = absurd (silent.kept b n w)
      held b n (leading i w) = absurd (silent.put b n i w)

  pub silent_goes : IsSound g → Shows g h m x New → Goes g h
  silent_goes sound shows = goes_after g h m x New move rises sound (silent_fits sound shows)

  -- what was applied, where nothing is told more
  pub applied_same : IsSound g → x.slots ≡ (member_at g m).slots → x.applied ≤ (member_at g m).applied → ((k i : ℕ) → slice_get g.told k ≡ Some i → slice_get h.told k ≡ Some i) → (k : ℕ) → k < x.applied → HasApplied h x.slots k
  applied_same sound e fewer f k l =
      subst (λ (slots : List Slot). HasApplied h slots k) (sym e)
      (applied_on g h m x New move rises f (member_at g m).slots k (sound.applied m k move.least move.most (omega (arith, l, fewer))))

-- nothing at all
abbrev pub Nothing : Body → Type 0
Nothing y = ⊥

pub nothing_silent : IsSilent Nothing
nothing_silent = record { kept = λ b n v. v; put = λ b n i v. v; vow = λ b slots v. v }

-- a message meets its fate, under the eyes of any member
fate_move : (g : Group) (n m : ℕ) (f : Fate) → 1 ≤ m → m ≤ length g.members → Move g (meets g n f) m (member_at g m) Nothing
fate_move g n m f a b =
    record {
      least = a;
      most = b;
      count = refl;
      there = refl;
      others = λ q c d. refl;
      grows = record {
        keeps = met_says g.sent (n - 1) f;
        only = λ q y s. inl (met_said g.sent (n - 1) f q y s);
        said = λ y v. absurd v;
      };
      routed = met_routed (length g.members) g.sent (n - 1) f;
    }

pub fate_goes : (g : Group) (n m : ℕ) (f : Fate) → 1 ≤ m → m ≤ length g.members → IsSound g → Goes g (meets g n f)
fate_goes g n m f a b sound =
    let x = member_at g m in
    let move = fate_move g n m f a b in
    let rises = rises_in_silence g m x Nothing nothing_silent (up_to_itself x.promised) in
    silent_goes g (meets g n f) m x Nothing nothing_silent move rises sound
    record {
      slots = refl;
      role = quiet_role (quiet g (meets g n f) m x Nothing nothing_silent move rises) x.promised x.slots x.role (sound.role m a b);
      led = moves.led_role g (meets g n f) m x Nothing move rises m refl x.role (sound.led m a b);
      begun = λ y v. absurd v;
      learn = λ c k v. absurd v;
      told = λ k i e. inl e;
      keeps_told = λ k i e. e;
      applied = applied_same g (meets g n f) m x Nothing nothing_silent move rises sound refl (omega arith) (λ k i e. e);
    }

-- nobody votes by it
pub fate_votes : (g : Group) (n : ℕ) (f : Fate) (q : ℕ) (b : Ballot) (k : ℕ) → Voted (meets g n f).sent q b k → Voted g.sent q b k
fate_votes g n f q b k (by_keeping s) = by_keeping (met_said g.sent (n - 1) f q (Kept b k) s)
fate_votes g n f q b k (by_leading i e s) = by_leading i e record { by = s.by; says = met_said g.sent (n - 1) f s.by (Put b k i) s.says }

-- a change of a member without a message
pub alone : (g : Group) (m : ℕ) (x : Member) → 1 ≤ m → m ≤ length g.members → Move g (with_member g m x) m x Nothing
alone g m x a b = move_of g (with_member g m x) (with_member g m x) m x Nothing a b refl refl (sends_nothing (with_member g m x) m Nothing (λ y v. v))

-- a crash
pub crash_goes : (g : Group) (m : ℕ) → 1 ≤ m → m ≤ length g.members → IsSound g → Goes g (crashes g m (member_at g m))
crash_goes g m a b sound =
    let x : Member = record (member_at g m) { role = follower; applied = 0 } in
    let move = alone g m x a b in
    let rises = rises_in_silence g m x Nothing nothing_silent (up_to_itself x.promised) in
    silent_goes g (with_member g m x) m x Nothing nothing_silent move rises sound
    record {
      slots = refl;
      role = tt;
      led = tt;
      begun = λ y v. absurd v;
      learn = λ c k v. absurd v;
      told = λ k i e. inl e;
      keeps_told = λ k i e. e;
      applied = λ k l. absurd (omega (arith, l));
    }

-- what a candidate says first
abbrev pub Seeking : Ballot → Body → Type 0
Seeking b y = y ≡ Seek b

seeking_silent : (b : Ballot) → IsSilent (Seeking b)
seeking_silent b = record { kept = λ c n v. differ (Kept c n) (Seek b) refl v; put = λ c n i v. differ (Put c n i) (Seek b) refl v; vow = λ c slots v. differ (Vow c slots) (Seek b) refl v }

abbrev pub next_ballot : Ballot → ℕ → Ballot
next_ballot b m = record { round = b.round + 1; member = m }

abbrev leading_member : Member → ℕ → Member
leading_member x m = record x { promised = next_ballot x.promised m; role = candidate [] }

pub least_members : (g : Group) → IsSound g → 2 ≤ length g.members
least_members g sound = either sound.size
  where
    either : (length g.members ≡ 3) ⊎ (length g.members ≡ 5) → 2 ≤ length g.members
    either (inl e) = omega (arith, e)
    either (inr e) = omega (arith, e)

lead_sends : (g : Group) (m : ℕ) (x : Member) (b : Ballot) → 2 ≤ length g.members → 1 ≤ m → m ≤ length g.members → b.member ≡ m → Sends (with_member g m x) (sends_others (with_member g m x) m (Seek b)) m (Seeking b)
lead_sends g m x b l a c own =
    let same = length-set g.members (m - 1) x in
    sends_to_others (with_member g m x) m (Seek b) (omega (arith, l, same)) a (omega (arith, c, same)) own

pub lead_goes : (g : Group) (m : ℕ) → 1 ≤ m → m ≤ length g.members → IsSound g → Goes g (leads g m (member_at g m))
lead_goes g m a c sound =
    silent_goes g h m x (Seeking b) (seeking_silent b) move rises sound
    record {
      slots = refl;
      role = record {
        own = refl;
        below = λ k s e. up_to_below ((sound.log m a c).below k s e) (next_round before.promised m);
        nothing = λ n i s. fresh n i (moves.new_said g h m x (Seeking b) move rises _ s);
        vowed = λ k e f. absurd (none_is_not f);
        apart = (tt, tt);
      };
      led = tt;
      begun = λ y v. subst (λ (z : Body). IsUpTo (ballot_of z) (promise_at h.members (ballot_of z).member)) (sym v) (up_to_same (sym (ap (λ (z : Member). z.promised) move.there)));
      learn = λ d n v. absurd (differ (Learn d n) (Seek b) refl v);
      told = λ k i e. inl (subst (λ (told : List ℕ). slice_get told k ≡ Some i) sent.told e);
      keeps_told = keeps_told;
      applied = applied_same g h m x (Seeking b) (seeking_silent b) move rises sound refl (omega arith) keeps_told;
    }
  where
    before : Member
    before = member_at g m

    b : Ballot
    b = next_ballot before.promised m

    x : Member
    x = leading_member before m

    h : Group
    h = leads g m before

    sent : Sends (with_member g m x) h m (Seeking b)
    sent = lead_sends g m x b (least_members g sound) a c refl

    move : Move g h m x (Seeking b)
    move = move_of g (with_member g m x) h m x (Seeking b) a c refl refl sent

    rises : Rises g m x (Seeking b)
    rises = rises_in_silence g m x (Seeking b) (seeking_silent b) (up_to (next_round before.promised m))

    fresh : (n i : ℕ) → IsSaid g.sent (Put b n i) ⊎ Seeking b (Put b n i) → ⊥
    fresh n i (inl s) = not_both (next_round before.promised m) (sound.net.begun (Put b n i) s)
    fresh n i (inr v) = differ (Put b n i) (Seek b) refl v

    keeps_told : (k i : ℕ) → slice_get g.told k ≡ Some i → slice_get h.told k ≡ Some i
    keeps_told k i e = subst (λ (told : List ℕ). slice_get told k ≡ Some i) (sym sent.told) e
