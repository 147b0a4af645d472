-- One member changes, and says something: what stays, and what has to be shown for the rest.
use Rattle.std.proofs.Common.{◌≡◌, ℕ, zero, suc, ◌-◌, ◌≤◌, ◌⊎◌, inl, inr, List, length, get_or, arith, sym, ap, ◌∙◌, subst}
use Rattle.std.proofs.Math.ListN.{set, length-set}
use Rattle.std.proofs.lemmas.Bool.{cases_eq}
use Rattle.std.proofs.lemmas.List.{get_or-set_same, get_or-set_other}
use Rattle.group_tables.specs.declared.messages.Ballot.{Ballot}
use Rattle.group_tables.specs.declared.messages.Slot.{Slot}
use Rattle.group_tables.specs.declared.messages.Body.{Body}
use Rattle.group_tables.specs.declared.messages.Body.TheVariants.{Vow, Put, Kept}
use Rattle.group_tables.specs.Groups.{Group, Member, Heard, Note, Role, Sent, follower, candidate, leader, member_at, new_member}
use Rattle.group_laws.specs.Order.{IsBelow, IsUpTo}
use Rattle.group_laws.specs.Said.{Says, IsSaid, Voted, by_keeping, by_leading}
use Rattle.group_laws.specs.Sound.{IsVow, IsLog, IsCandidate, IsLeader, IsInRole, promise_at, IsBlocked, IsVoted, IsStuck, IsPromised, IsNet, IsLed, IsLedBy, IsPicked}
use Rattle.group_laws.proofs.Ballots.{up_to_itself, below_up_to, up_to_up_to, not_both}
use Rattle.group_laws.proofs.Majorities.{majority_of_more}
use Rattle.group_laws.proofs.Sending.{Grows, Sends, AreRouted}

-- what one member's messages say of it stays as it was
pub record Quiet (old new : List Sent) (m : ℕ) : Type 0 where
  pub keeps : (q : ℕ) (y : Body) → Says old q y → Says new q y
  pub votes : (b : Ballot) (n : ℕ) → Voted new m b n → Voted old m b n
  pub vows : (b : Ballot) (slots : List Slot) → Says new m (Vow b slots) → Says old m (Vow b slots)
  pub puts : (b : Ballot) (n i : ℕ) → b.member ≡ m → IsSaid new (Put b n i) → IsSaid old (Put b n i)

pub said_keeps : {old new : List Sent} → ((q : ℕ) (y : Body) → Says old q y → Says new q y) → (y : Body) → IsSaid old y → IsSaid new y
said_keeps f y s = record { by = s.by; says = f s.by y s.says }

pub votes_keep : {old new : List Sent} → ((q : ℕ) (y : Body) → Says old q y → Says new q y) → (q : ℕ) (b : Ballot) (n : ℕ) → Voted old q b n → Voted new q b n
votes_keep f q b n (by_keeping s) = by_keeping (f q (Kept b n) s)
votes_keep f q b n (by_leading i e s) = by_leading i e (said_keeps f (Put b n i) s)

-- a vow is told on, where no vote below it is new
pub carried_vow : {old new : List Sent} {m : ℕ} {p more b : Ballot} {slots : List Slot} → ((q : ℕ) (y : Body) → Says old q y → Says new q y)
    → ((c : Ballot) (n : ℕ) → IsBelow c b → Voted new m c n → Voted old m c n) → IsUpTo p more → IsVow old m p b slots → IsVow new m more b slots
carried_vow keep votes u v =
    record {
      promise = up_to_up_to v.promise u;
      below = v.below;
      put = λ j s e. said_keeps keep _ (v.put j s e);
      covers = λ c n w l. v.covers c n (votes c n l w) l;
    }

pub quiet_vow : {old new : List Sent} {m : ℕ} {p more b : Ballot} {slots : List Slot} → Quiet old new m → IsUpTo p more → IsVow old m p b slots → IsVow new m more b slots
quiet_vow k u v = carried_vow k.keeps (λ c n l w. k.votes c n w) u v

pub quiet_log : {old new : List Sent} {m : ℕ} {p more : Ballot} {slots : List Slot} → Quiet old new m → IsUpTo p more → IsLog old m p slots → IsLog new m more slots
quiet_log k u l =
    record {
      below = λ j s e. up_to_up_to (l.below j s e) u;
      put = λ j s e. said_keeps k.keeps _ (l.put j s e);
      voted = λ j s e. votes_keep k.keeps _ _ _ (l.voted j s e);
      stays = λ b n v. l.stays b n (k.votes b n v);
      vow = λ b told s. quiet_vow k u (l.vow b told (k.vows b told s));
    }

pub quiet_candidate : {old new : List Sent} {m : ℕ} {p : Ballot} {slots : List Slot} {heard : List Heard} → Quiet old new m → IsCandidate old m p slots heard → IsCandidate new m p slots heard
quiet_candidate {p = p} k c =
    record {
      own = c.own;
      below = c.below;
      nothing = λ n i s. c.nothing n i (k.puts p n i c.own s);
      vowed = λ j h e. k.keeps _ _ (c.vowed j h e);
      apart = c.apart;
    }

pub quiet_leader : {old new : List Sent} {m : ℕ} {p : Ballot} {slots : List Slot} {notes : List Note} → Quiet old new m → IsLeader old m p slots notes → IsLeader new m p slots notes
quiet_leader {p = p} k c =
    record {
      own = c.own;
      under = c.under;
      all = λ n i s. c.all n i (k.puts p n i c.own s);
      noted = λ j x e. k.keeps _ _ (c.noted j x e);
      apart = c.apart;
    }

pub quiet_role : {old new : List Sent} {m : ℕ} → Quiet old new m → (p : Ballot) (slots : List Slot) (r : Role) → IsInRole old m p slots r → IsInRole new m p slots r
quiet_role k p slots follower c = c
quiet_role k p slots (candidate heard) c = quiet_candidate k c
quiet_role k p slots (leader notes) c = quiet_leader k c

-- a member becomes this, and says this
pub record Move (g h : Group) (m : ℕ) (x : Member) (New : Body → Type 0) : Type 0 where
  pub least : 1 ≤ m
  pub most : m ≤ length g.members
  pub count : length h.members ≡ length g.members
  pub there : member_at h m ≡ x
  pub others : (q : ℕ) → 1 ≤ q → (q ≡ m → ⊥) → member_at h q ≡ member_at g q
  pub grows : Grows g.sent h.sent m New
  pub routed : AreRouted (length g.members) g.sent → AreRouted (length g.members) h.sent

other_place : (q m : ℕ) → 1 ≤ q → 1 ≤ m → (q ≡ m → ⊥) → q - 1 ≡ m - 1 → ⊥
other_place q m a b f e = f (omega (arith, a, b, e))

pub move_of : (g mid h : Group) (m : ℕ) (x : Member) (New : Body → Type 0) → 1 ≤ m → m ≤ length g.members → mid.members ≡ set g.members (m - 1) x → mid.sent ≡ g.sent → Sends mid h m New → Move g h m x New
move_of g mid h m x New least most changed kept s =
    let same = length-set g.members (m - 1) x in
    let now : h.members ≡ set g.members (m - 1) x = s.members ∙ changed in
    let count : length mid.members ≡ length g.members = ap length changed ∙ same in
    record {
      least = least;
      most = most;
      count = ap length s.members ∙ count;
      there = ap (λ (xs : List Member). get_or xs (m - 1) new_member) now ∙ get_or-set_same g.members (m - 1) x new_member (omega (arith, least, most));
      others = λ q a f. ap (λ (xs : List Member). get_or xs (q - 1) new_member) now ∙ get_or-set_other g.members (m - 1) (q - 1) x new_member (other_place q m a least f);
      grows = subst (λ (sent : List Sent). Grows sent h.sent m New) kept s.grows;
      routed = λ r. subst (λ (n : ℕ). AreRouted n h.sent) count (s.routed (subst (λ (n : ℕ). AreRouted n mid.sent) (sym count) (subst (λ (sent : List Sent). AreRouted (length g.members) sent) (sym kept) r)));
    }

-- a vote that is cast by what is said
pub data NewVote (New : Body → Type 0) (b : Ballot) (n : ℕ) : Type 0 where
  keeping : New (Kept b n) → NewVote New b n
  leading : (i : ℕ) → New (Put b n i) → NewVote New b n

-- what every such move has to show: the promise rises, and votes are for what was promised
pub record Rises (g : Group) (m : ℕ) (x : Member) (New : Body → Type 0) : Type 0 where
  pub promise : IsUpTo (member_at g m).promised x.promised
  pub kept : (b : Ballot) (n : ℕ) → New (Kept b n) → IsUpTo (member_at g m).promised b
  pub put : (b : Ballot) (n i : ℕ) → New (Put b n i) → (b.member ≡ m) × IsUpTo (member_at g m).promised b

module _ (g h : Group) (m : ℕ) (x : Member) (New : Body → Type 0) (move : Move g h m x New) (rises : Rises g m x New) where
  pub keeps : (q : ℕ) (y : Body) → Says g.sent q y → Says h.sent q y
  keeps = move.grows.keeps

  pub said : (y : Body) → IsSaid g.sent y → IsSaid h.sent y
  said = said_keeps keeps

  pub new_said : (y : Body) → IsSaid h.sent y → IsSaid g.sent y ⊎ New y
  new_said y s = named (move.grows.only s.by y s.says)
    where
      named : Says g.sent s.by y ⊎ ((s.by ≡ m) × New y) → IsSaid g.sent y ⊎ New y
      named (inl old) = inl record { by = s.by; says = old }
      named (inr n) = inr n.1

  pub is_new : (y : Body) → New y → IsSaid h.sent y
  is_new y n = record { by = m; says = move.grows.said y n }

  pub new_vote : (q : ℕ) (b : Ballot) (n : ℕ) → Voted h.sent q b n → Voted g.sent q b n ⊎ ((q ≡ m) × NewVote New b n)
  new_vote q b n (by_keeping s) = named (move.grows.only q (Kept b n) s)
    where
      named : Says g.sent q (Kept b n) ⊎ ((q ≡ m) × New (Kept b n)) → Voted g.sent q b n ⊎ ((q ≡ m) × NewVote New b n)
      named (inl old) = inl (by_keeping old)
      named (inr v) = inr (v.0, keeping v.1)
  new_vote q b n (by_leading i e s) = named (new_said (Put b n i) s)
    where
      named : IsSaid g.sent (Put b n i) ⊎ New (Put b n i) → Voted g.sent q b n ⊎ ((q ≡ m) × NewVote New b n)
      named (inl old) = inl (by_leading i e old)
      named (inr v) = inr (e ∙ (rises.put b n i v).0, leading i v)

  vote_up : (b : Ballot) (n : ℕ) → NewVote New b n → IsUpTo (member_at g m).promised b
  vote_up b n (keeping v) = rises.kept b n v
  vote_up b n (leading i v) = (rises.put b n i v).1

  pub other_quiet : (q : ℕ) → (q ≡ m → ⊥) → Quiet g.sent h.sent q
  other_quiet q f =
      record {
        keeps = keeps;
        votes = λ b n v. vote b n (new_vote q b n v);
        vows = λ b slots s. vow b slots (move.grows.only q (Vow b slots) s);
        puts = λ b n i e s. put b n i e (new_said (Put b n i) s);
      }
    where
      vote : (b : Ballot) (n : ℕ) → Voted g.sent q b n ⊎ ((q ≡ m) × NewVote New b n) → Voted g.sent q b n
      vote b n (inl v) = v
      vote b n (inr v) = absurd (f v.0)

      vow : (b : Ballot) (slots : List Slot) → Says g.sent q (Vow b slots) ⊎ ((q ≡ m) × New (Vow b slots)) → Says g.sent q (Vow b slots)
      vow b slots (inl s) = s
      vow b slots (inr s) = absurd (f s.0)

      put : (b : Ballot) (n i : ℕ) → b.member ≡ q → IsSaid g.sent (Put b n i) ⊎ New (Put b n i) → IsSaid g.sent (Put b n i)
      put b n i e (inl s) = s
      put b n i e (inr s) = absurd (f (sym e ∙ (rises.put b n i s).0))

  -- promises rise
  pub promise_up : (q : ℕ) → 1 ≤ q → IsUpTo (promise_at g.members q) (promise_at h.members q)
  promise_up q a = by_place (cases_eq q m)
    where
      by_place : (q ≡ m) ⊎ (q ≡ m → ⊥) → IsUpTo (promise_at g.members q) (promise_at h.members q)
      by_place (inl e) = subst (λ (k : ℕ). IsUpTo (promise_at g.members k) (promise_at h.members k)) (sym e) (subst (λ (z : Member). IsUpTo (promise_at g.members m) z.promised) (sym move.there) rises.promise)
      by_place (inr f) = subst (λ (z : Member). IsUpTo (promise_at g.members q) z.promised) (sym (move.others q a f)) (up_to_itself (promise_at g.members q))

  pub promise_at_up : (q : ℕ) → IsUpTo (promise_at g.members q) (promise_at h.members q)
  promise_at_up zero = promise_up 1 (omega arith)
  promise_at_up (suc q) = promise_up (suc q) (omega arith)

  pub begun_on : (b : Ballot) → IsUpTo b (promise_at g.members b.member) → IsUpTo b (promise_at h.members b.member)
  begun_on b u = up_to_up_to u (promise_at_up b.member)

  pub blocked : (b : Ballot) (n q : ℕ) → 1 ≤ q → IsBlocked g.sent g.members b n q → IsBlocked h.sent h.members b n q
  blocked b n q a k = record { above = below_up_to k.above (promise_up q a); never = λ v. named (new_vote q b n v) }
    where
      named : Voted g.sent q b n ⊎ ((q ≡ m) × NewVote New b n) → ⊥
      named (inl v) = k.never v
      named (inr v) = not_both (subst (λ (j : ℕ). IsBelow b (promise_at g.members j)) v.0 k.above) (vote_up b n v.1)

  pub stuck : (b : Ballot) (n : ℕ) → IsStuck g b n → IsStuck h b n
  stuck b n s =
      majority_of_more (length g.members) (length h.members) (λ (q : ℕ). IsBlocked g.sent g.members b n q) (λ (q : ℕ). IsBlocked h.sent h.members b n q)
      move.count (λ q least most k. blocked b n q least k) s

  pub promised : (b : Ballot) → IsPromised g b → IsPromised h b
  promised b s =
      majority_of_more (length g.members) (length h.members) (λ (q : ℕ). IsUpTo b (promise_at g.members q)) (λ (q : ℕ). IsUpTo b (promise_at h.members q))
      move.count (λ q least most k. up_to_up_to k (promise_up q least)) s

  pub voted : (b : Ballot) (n : ℕ) → IsVoted g b n → IsVoted h b n
  voted b n s =
      majority_of_more (length g.members) (length h.members) (λ (q : ℕ). Voted g.sent q b n) (λ (q : ℕ). Voted h.sent q b n)
      move.count (λ q least most k. votes_keep keeps q b n k) s

  pub picked : (n i : ℕ) → IsPicked g n i → IsPicked h n i
  picked n i p = record { ballot = p.ballot; put = said _ p.put; voted = voted p.ballot n p.voted }

  -- a leader that has as many slots or more leads on
  pub led_longer : (q : ℕ) → promise_at h.members q ≡ promise_at g.members q → length (member_at g q).slots ≤ length (member_at h q).slots → IsLed g q → IsLed h q
  led_longer q p more l =
      record {
        promised = subst (λ (b : Ballot). IsPromised h b) (sym p) (promised (promise_at g.members q) l.promised);
        free = λ b n below longer. stuck b n (l.free b n (subst (λ (c : Ballot). IsBelow b c) p below) (omega (arith, more, longer)));
      }

  pub led_on : (q : ℕ) → member_at h q ≡ member_at g q → IsLed g q → IsLed h q
  led_on q e l =
      let same : length (member_at h q).slots ≡ length (member_at g q).slots = ap (λ (z : Member). length z.slots) e in
      led_longer q (ap (λ (z : Member). z.promised) e) (omega (arith, same)) l

  pub led_role : (q : ℕ) → member_at h q ≡ member_at g q → (r : Role) → IsLedBy g q r → IsLedBy h q r
  led_role q e follower l = l
  led_role q e (candidate heard) l = l
  led_role q e (leader notes) l = led_on q e l

  -- what is put below a ballot that a majority has promised will not be chosen, where nothing was put there before
  pub stuck_below : IsNet g → (c b : Ballot) (n : ℕ) → IsPromised g b → IsBelow c b → ((i : ℕ) → IsSaid g.sent (Put c n i) → ⊥) → IsUpTo (member_at g m).promised c → IsStuck h c n
  stuck_below net c b n many l none own =
      majority_of_more (length g.members) (length h.members) (λ (q : ℕ). IsUpTo b (promise_at g.members q)) (λ (q : ℕ). IsBlocked h.sent h.members c n q)
      move.count (λ q least most u. record { above = below_up_to l (up_to_up_to u (promise_up q least)); never = λ v. named q u (new_vote q c n v) }) many
    where
      old : (q : ℕ) → Voted g.sent q c n → ⊥
      old q (by_keeping s) = let p = net.kept c n record { by = q; says = s } in none p.0 p.1
      old q (by_leading i e s) = none i s

      named : (q : ℕ) → IsUpTo b (promise_at g.members q) → Voted g.sent q c n ⊎ ((q ≡ m) × NewVote New c n) → ⊥
      named q u (inl v) = old q v
      named q u (inr v) = not_both l (up_to_up_to (subst (λ (k : ℕ). IsUpTo b (promise_at g.members k)) v.0 u) own)
