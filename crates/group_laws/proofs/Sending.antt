-- What is said after messages were sent.
use Rattle.std.proofs.Common.{◌≡◌, ℕ, zero, suc, ◌+◌, ◌<◌, ◌≤◌, ◌⊎◌, inl, inr, Bool, true, false, List, [], ◌∷◌, ◌++◌, length, get_or, Some, arith, refl, sym, ap, ◌∙◌, subst, length-append}
use Rattle.std.proofs.Math.ListN.{set, length-set}
use Rattle.std.specs.Prelude.{◌==◌, if◌then◌else◌, slice_get}
use Rattle.std.proofs.lemmas.Grind.{common_steps}
use Rattle.std.proofs.lemmas.Bool.{cases_lt, cases_eq, eqb-true, eqb-false}
use Rattle.rss_wire.specs.declared.message.Fate.{Fate}
use Rattle.rss_wire.specs.declared.message.Fate.TheVariants.{Pending}
use Rattle.group_tables.specs.declared.messages.Ballot.{Ballot}
use Rattle.group_tables.specs.declared.messages.Slot.{Slot}
use Rattle.group_tables.specs.declared.messages.Body.{Body}
use Rattle.group_tables.specs.declared.messages.Body.TheVariants.{Put}
use Rattle.group_tables.specs.Groups.{Group, Sent, no_sent, sends, sends_from, sends_others}
use Rattle.group_tables.specs.Rows.{puts_all}
use Rattle.group_laws.specs.Said.{Says, IsRouted, MaySay}
use Rattle.group_laws.proofs.Lists.{get_or_set, some_is, none_is_not}

-- messages of one member more, and each of these bodies among them
pub record Grows (old new : List Sent) (m : ℕ) (New : Body → Type 0) : Type 0 where
  pub keeps : (q : ℕ) (y : Body) → Says old q y → Says new q y
  pub only : (q : ℕ) (y : Body) → Says new q y → Says old q y ⊎ ((q ≡ m) × New y)
  pub said : (y : Body) → New y → Says new m y

abbrev pub AreRouted : ℕ → List Sent → Type 0
AreRouted members sent = (k : ℕ) → k < length sent → IsRouted members (get_or sent k no_sent)

-- messages alone
pub record Sends (g h : Group) (m : ℕ) (New : Body → Type 0) : Type 0 where
  pub requests : h.requests ≡ g.requests
  pub members : h.members ≡ g.members
  pub told : h.told ≡ g.told
  pub grows : Grows g.sent h.sent m New
  pub routed : AreRouted (length g.members) g.sent → AreRouted (length g.members) h.sent

-- a message that meets its fate says what it said
met_sender : (old : List Sent) (i : ℕ) (f : Fate) (k : ℕ) → (get_or (set old i (record (get_or old i no_sent) { fate = f })) k no_sent).sender ≡ (get_or old k no_sent).sender
met_sender old i f k = grind (arith, get_or_set)

met_receiver : (old : List Sent) (i : ℕ) (f : Fate) (k : ℕ) → (get_or (set old i (record (get_or old i no_sent) { fate = f })) k no_sent).receiver ≡ (get_or old k no_sent).receiver
met_receiver old i f k = grind (arith, get_or_set)

met_body : (old : List Sent) (i : ℕ) (f : Fate) (k : ℕ) → (get_or (set old i (record (get_or old i no_sent) { fate = f })) k no_sent).body ≡ (get_or old k no_sent).body
met_body old i f k = grind (arith, get_or_set)

pub met_says : (old : List Sent) (i : ℕ) (f : Fate) (q : ℕ) (y : Body) → Says old q y → Says (set old i (record (get_or old i no_sent) { fate = f })) q y
met_says old i f q y s =
    record {
      place = s.place;
      there = let l = s.there in let e = length-set old i (record (get_or old i no_sent) { fate = f }) in omega (arith, l, e);
      by = met_sender old i f s.place ∙ s.by;
      says = met_body old i f s.place ∙ s.says;
    }

pub met_said : (old : List Sent) (i : ℕ) (f : Fate) (q : ℕ) (y : Body) → Says (set old i (record (get_or old i no_sent) { fate = f })) q y → Says old q y
met_said old i f q y s =
    record {
      place = s.place;
      there = let l = s.there in let e = length-set old i (record (get_or old i no_sent) { fate = f }) in omega (arith, l, e);
      by = sym (met_sender old i f s.place) ∙ s.by;
      says = sym (met_body old i f s.place) ∙ s.says;
    }

routed_as : (members : ℕ) (s t : Sent) → t.sender ≡ s.sender → t.receiver ≡ s.receiver → t.body ≡ s.body → IsRouted members s → IsRouted members t
routed_as members s t e f g r =
    let from_least = r.from_least in
    let from_most = r.from_most in
    let to_least = r.to_least in
    let to_most = r.to_most in
    record {
      from_least = omega (arith, e, from_least);
      from_most = omega (arith, e, from_most);
      to_least = omega (arith, f, to_least);
      to_most = omega (arith, f, to_most);
      apart = λ x. r.apart (sym f ∙ x ∙ e);
      may_say = subst (λ (y : Body). MaySay t.sender y) (sym g) (subst (λ (q : ℕ). MaySay q s.body) (sym e) r.may_say);
    }

pub met_routed : (members : ℕ) (old : List Sent) (i : ℕ) (f : Fate) → AreRouted members old → AreRouted members (set old i (record (get_or old i no_sent) { fate = f }))
met_routed members old i f r k l =
    routed_as members (get_or old k no_sent) _ (met_sender old i f k) (met_receiver old i f k) (met_body old i f k)
    (r k (let e = length-set old i (record (get_or old i no_sent) { fate = f }) in omega (arith, l, e)))

-- one message more
appended_at : {X : Type 0} (xs : List X) (y : X) (j : ℕ) (d : X) → j < length xs → get_or (xs ++ y ∷ []) j d ≡ get_or xs j d
appended_at xs y j d l = grind (arith, common_steps)

appended_last : {X : Type 0} (xs : List X) (y : X) (j : ℕ) (d : X) → j ≡ length xs → get_or (xs ++ y ∷ []) j d ≡ y
appended_last xs y j d l = grind (arith, common_steps)

length_more : {X : Type 0} (xs : List X) (y : X) → length (xs ++ y ∷ []) ≡ length xs + 1
length_more xs y = length-append xs (y ∷ [])

one_says : (old : List Sent) (x : Sent) (q : ℕ) (y : Body) → Says old q y → Says (old ++ x ∷ []) q y
one_says old x q y s =
    let l = s.there in
    let e = length_more old x in
    record {
      place = s.place;
      there = omega (arith, l, e);
      by = ap (λ (t : Sent). t.sender) (appended_at old x s.place no_sent l) ∙ s.by;
      says = ap (λ (t : Sent). t.body) (appended_at old x s.place no_sent l) ∙ s.says;
    }

one_only : (old : List Sent) (x : Sent) (q : ℕ) (y : Body) → Says (old ++ x ∷ []) q y → Says old q y ⊎ ((q ≡ x.sender) × (y ≡ x.body))
one_only old x q y s = by_place (cases_lt s.place (length old))
  where
    by_place : (s.place < length old) ⊎ (length old ≤ s.place) → Says old q y ⊎ ((q ≡ x.sender) × (y ≡ x.body))
    by_place (inl l) =
        inl record {
          place = s.place;
          there = l;
          by = sym (ap (λ (t : Sent). t.sender) (appended_at old x s.place no_sent l)) ∙ s.by;
          says = sym (ap (λ (t : Sent). t.body) (appended_at old x s.place no_sent l)) ∙ s.says;
        }
    by_place (inr l) =
        let m = s.there in
        let e = length_more old x in
        let last = appended_last old x s.place no_sent (omega (arith, l, m, e)) in
        inr (sym s.by ∙ ap (λ (t : Sent). t.sender) last, sym s.says ∙ ap (λ (t : Sent). t.body) last)

one_said : (old : List Sent) (x : Sent) → Says (old ++ x ∷ []) x.sender x.body
one_said old x =
    let e = length_more old x in
    record {
      place = length old;
      there = omega (arith, e);
      by = ap (λ (t : Sent). t.sender) (appended_last old x (length old) no_sent refl);
      says = ap (λ (t : Sent). t.body) (appended_last old x (length old) no_sent refl);
    }

pub sends_nothing : (g : Group) (m : ℕ) (New : Body → Type 0) → ((y : Body) → New y → ⊥) → Sends g g m New
sends_nothing g m New none =
    record {
      requests = refl;
      members = refl;
      told = refl;
      grows = record { keeps = λ q y s. s; only = λ q y s. inl s; said = λ y n. absurd (none y n) };
      routed = λ r. r;
    }

-- who sends, to whom
pub record MaySend (members m r : ℕ) (body : Body) : Type 0 where
  pub from_least : 1 ≤ m
  pub from_most : m ≤ members
  pub to_least : 1 ≤ r
  pub to_most : r ≤ members
  pub apart : r ≡ m → ⊥
  pub may_say : MaySay m body

one_routed : (members : ℕ) (old : List Sent) (x : Sent) → IsRouted members x → AreRouted members old → AreRouted members (old ++ x ∷ [])
one_routed members old x may all k l = by_place (cases_lt k (length old))
  where
    by_place : (k < length old) ⊎ (length old ≤ k) → IsRouted members (get_or (old ++ x ∷ []) k no_sent)
    by_place (inl a) = subst (λ (s : Sent). IsRouted members s) (sym (appended_at old x k no_sent a)) (all k a)
    by_place (inr a) =
        let e = length_more old x in
        subst (λ (s : Sent). IsRouted members s) (sym (appended_last old x k no_sent (omega (arith, l, a, e)))) may

pub sends_one : (g : Group) (m r : ℕ) (body : Body) → MaySend (length g.members) m r body → Sends g (sends g m r body) m (λ y. y ≡ body)
sends_one g m r body may =
    record {
      requests = refl;
      members = refl;
      told = refl;
      grows = record {
        keeps = one_says g.sent x;
        only = one_only g.sent x;
        said = λ y e. subst (λ (z : Body). Says (g.sent ++ x ∷ []) m z) (sym e) (one_said g.sent x);
      };
      routed = one_routed (length g.members) g.sent x
          record { from_least = may.from_least; from_most = may.from_most; to_least = may.to_least; to_most = may.to_most; apart = may.apart; may_say = may.may_say };
    }
  where
    x : Sent
    x = record { sender = m; receiver = r; body = body; fate = Pending }

pub sends_then : (g h k : Group) (m : ℕ) (New More : Body → Type 0) → Sends g h m New → Sends h k m More → Sends g k m (λ y. New y ⊎ More y)
sends_then g h k m New More a b =
    record {
      requests = b.requests ∙ a.requests;
      members = b.members ∙ a.members;
      told = b.told ∙ a.told;
      grows = record {
        keeps = λ q y s. b.grows.keeps q y (a.grows.keeps q y s);
        only = λ q y s. first q y (b.grows.only q y s);
        said = λ y n. either y n;
      };
      routed = λ r. back (b.routed (there (a.routed r)));
    }
  where
    counts : length h.members ≡ length g.members
    counts = ap length a.members

    second : (q : ℕ) (y : Body) → Says g.sent q y ⊎ ((q ≡ m) × New y) → Says g.sent q y ⊎ ((q ≡ m) × (New y ⊎ More y))
    second q y (inl s) = inl s
    second q y (inr n) = inr (n.0, inl n.1)

    first : (q : ℕ) (y : Body) → Says h.sent q y ⊎ ((q ≡ m) × More y) → Says g.sent q y ⊎ ((q ≡ m) × (New y ⊎ More y))
    first q y (inl s) = second q y (a.grows.only q y s)
    first q y (inr n) = inr (n.0, inr n.1)

    either : (y : Body) → New y ⊎ More y → Says k.sent m y
    either y (inl n) = b.grows.keeps m y (a.grows.said y n)
    either y (inr n) = b.grows.said y n

    there : AreRouted (length g.members) h.sent → AreRouted (length h.members) h.sent
    there r = subst (λ (n : ℕ). AreRouted n h.sent) (sym counts) r

    back : AreRouted (length h.members) k.sent → AreRouted (length g.members) k.sent
    back r = subst (λ (n : ℕ). AreRouted n k.sent) counts r

pub sends_as : (g h : Group) (m : ℕ) (New Same : Body → Type 0) → ((y : Body) → New y → Same y) → ((y : Body) → Same y → New y) → Sends g h m New → Sends g h m Same
sends_as g h m New Same to from a =
    record {
      requests = a.requests;
      members = a.members;
      told = a.told;
      grows = record {
        keeps = a.grows.keeps;
        only = λ q y s. named q y (a.grows.only q y s);
        said = λ y n. a.grows.said y (from y n);
      };
      routed = a.routed;
    }
  where
    named : (q : ℕ) (y : Body) → Says g.sent q y ⊎ ((q ≡ m) × New y) → Says g.sent q y ⊎ ((q ≡ m) × Same y)
    named q y (inl s) = inl s
    named q y (inr n) = inr (n.0, to y n.1)

-- among so many members from one on there is another one
pub record HasOther (n left m : ℕ) : Type 0 where
  pub other : ℕ
  pub least : n ≤ other
  pub most : other < n + left
  pub apart : other ≡ m → ⊥

-- this body, if it was sent to anybody
abbrev IsSent : Body → ℕ → ℕ → ℕ → Body → Type 0
IsSent body n left m y = (y ≡ body) × HasOther n left m

no_other : (n m : ℕ) → HasOther n zero m → ⊥
no_other n m o = let a = o.least in let b = o.most in absurd (omega (arith, a, b))

wider : (n left m : ℕ) → HasOther (n + 1) left m → HasOther n (suc left) m
wider n left m o = let a = o.least in let b = o.most in record { other = o.other; least = omega (arith, a); most = omega (arith, b); apart = o.apart }

narrower : (n left m : ℕ) → n ≡ m → HasOther n (suc left) m → HasOther (n + 1) left m
narrower n left m e o = by_place (cases_eq o.other n)
  where
    by_place : (o.other ≡ n) ⊎ (o.other ≡ n → ⊥) → HasOther (n + 1) left m
    by_place (inl f) = absurd (o.apart (f ∙ e))
    by_place (inr f) = let a = o.least in let b = o.most in record { other = o.other; least = omega (arith, a, f); most = omega (arith, b); apart = o.apart }

sends_many : (g : Group) (m : ℕ) (body : Body) (n left : ℕ) → 1 ≤ m → m ≤ length g.members → 1 ≤ n → n + left ≤ length g.members + 1 → MaySay m body
    → Sends g (sends_from g m body n left) m (IsSent body n left m)
sends_many g m body n zero a b c d may = sends_nothing g m (IsSent body n zero m) (λ y s. no_other n m s.1)
sends_many g m body n (suc left) a b c d may =
    by_test (n == m) refl
    (sends_many g m body (n + 1) left a b (omega arith) (omega (arith, d)) may)
    (sends_many (sends g m n body) m body (n + 1) left a b (omega arith) (omega (arith, d)) may)
  where
    by_test : (t : Bool) → (n == m) ≡ t → Sends g (sends_from g m body (n + 1) left) m (IsSent body (n + 1) left m)
        → Sends (sends g m n body) (sends_from (sends g m n body) m body (n + 1) left) m (IsSent body (n + 1) left m)
        → Sends g (sends_from (if t then g else sends g m n body) m body (n + 1) left) m (IsSent body n (suc left) m)
    by_test true e same one =
        sends_as g _ m (IsSent body (n + 1) left m) (IsSent body n (suc left) m)
        (λ y s. (s.0, wider n left m s.1)) (λ y s. (s.0, narrower n left m (eqb-true n m e) s.1)) same
    by_test false e same one =
        sends_as g _ m (λ y. (y ≡ body) ⊎ IsSent body (n + 1) left m y) (IsSent body n (suc left) m) to (λ y s. inl s.0)
        (sends_then g (sends g m n body) _ m (λ y. y ≡ body) (IsSent body (n + 1) left m)
        (sends_one g m n body record { from_least = a; from_most = b; to_least = c; to_most = omega (arith, d); apart = eqb-false n m e; may_say = may }) one)
      where
        to : (y : Body) → (y ≡ body) ⊎ IsSent body (n + 1) left m y → IsSent body n (suc left) m y
        to y (inl f) = (f, record { other = n; least = omega arith; most = omega arith; apart = eqb-false n m e })
        to y (inr f) = (f.0, wider n left m f.1)

some_other : (members m : ℕ) → 2 ≤ members → HasOther 1 members m
some_other members m l = by_first (cases_eq m 1)
  where
    by_first : (m ≡ 1) ⊎ (m ≡ 1 → ⊥) → HasOther 1 members m
    by_first (inl e) = record { other = 2; least = omega arith; most = omega (arith, l); apart = λ f. absurd (omega (arith, e, f)) }
    by_first (inr e) = record { other = 1; least = omega arith; most = omega (arith, l); apart = λ f. e (sym f) }

pub sends_to_others : (g : Group) (m : ℕ) (body : Body) → 2 ≤ length g.members → 1 ≤ m → m ≤ length g.members → MaySay m body
    → Sends g (sends_others g m body) m (λ y. y ≡ body)
sends_to_others g m body l a b may =
    sends_as g _ m (IsSent body 1 (length g.members) m) (λ y. y ≡ body) (λ y s. s.0) (λ y e. (e, some_other (length g.members) m l))
    (sends_many g m body 1 (length g.members) a b (omega arith) (omega arith) may)

-- a slot of these that is put, counted from one on
pub record IsPutOf (b : Ballot) (n : ℕ) (slots : List Slot) (y : Body) : Type 0 where
  pub place : ℕ
  pub slot : Slot
  pub there : slice_get slots place ≡ Some slot
  pub is : y ≡ Put b (n + place) slot.request

pub puts_each : (g : Group) (m : ℕ) (b : Ballot) (n : ℕ) (slots : List Slot) → 2 ≤ length g.members → 1 ≤ m → m ≤ length g.members → b.member ≡ m → 1 ≤ n
    → Sends g (puts_all g m b n slots) m (IsPutOf b n slots)
puts_each g m b n [] l a c own least = sends_nothing g m (IsPutOf b n []) (λ y p. none_is_not p.there)
puts_each g m b n (s ∷ slots) l a c own least =
    let first = sends_to_others g m (Put b n s.request) l a c (own, least) in
    let e = ap length first.members in
    sends_as g _ m (λ y. (y ≡ Put b n s.request) ⊎ IsPutOf b (n + 1) slots y) (IsPutOf b n (s ∷ slots)) to from
    (sends_then g (sends_others g m (Put b n s.request)) _ m (λ y. y ≡ Put b n s.request) (IsPutOf b (n + 1) slots) first
    (puts_each (sends_others g m (Put b n s.request)) m b (n + 1) slots (omega (arith, e, l)) a (omega (arith, e, c)) own (omega arith)))
  where
    to : (y : Body) → (y ≡ Put b n s.request) ⊎ IsPutOf b (n + 1) slots y → IsPutOf b n (s ∷ slots) y
    to y (inl e) = let start : n ≡ n + 0 = omega arith in record { place = 0; slot = s; there = refl; is = e ∙ ap (λ (k : ℕ). Put b k s.request) start }
    to y (inr p) =
        let same : (n + 1) + p.place ≡ n + suc p.place = omega arith in
        record { place = suc p.place; slot = p.slot; there = p.there; is = p.is ∙ ap (λ (k : ℕ). Put b k p.slot.request) same }

    by_place : (y : Body) (k : ℕ) (x : Slot) → slice_get (s ∷ slots) k ≡ Some x → y ≡ Put b (n + k) x.request → (y ≡ Put b n s.request) ⊎ IsPutOf b (n + 1) slots y
    by_place y zero x e f =
        let same : x ≡ s = sym (some_is e) in
        let start : n + 0 ≡ n = omega arith in
        inl (f ∙ ap (λ (k : ℕ). Put b k x.request) start ∙ ap (λ (z : Slot). Put b n z.request) same)
    by_place y (suc k) x e f =
        let same : n + suc k ≡ (n + 1) + k = omega arith in
        inr record { place = k; slot = x; there = e; is = f ∙ ap (λ (j : ℕ). Put b j x.request) same }

    from : (y : Body) → IsPutOf b n (s ∷ slots) y → (y ≡ Put b n s.request) ⊎ IsPutOf b (n + 1) slots y
    from y p = by_place y p.place p.slot p.there p.is
