-- How much more there is of everything in one state than in another.
use Rattle.std.proofs.Common.{◌≡◌, ℕ, ◌+◌, ◌-◌, ◌≤◌, Bool, true, ◌&&◌, List, length, get_or, Option, Some, None, refl, ap, sym, ◌∙◌, subst, arith, leb}
use Rattle.std.specs.Prelude.{⊤}
use Rattle.std.proofs.Math.ListN.{set}
use Rattle.std.proofs.lemmas.Bool.{leb-true, and_parts}
use Rattle.rss_names.specs.declared.attempt.Attempt.{Attempt}
use Rattle.rss_model.specs.declared.history.Entry.{Entry}
use Rattle.rss_wire.specs.declared.message.Message.{Message}
use Rattle.rss_tables.specs.Losses.{no_losses}
use Rattle.rss_tables.specs.ShardRow.{Shard}
use Rattle.rss_tables.specs.Pipes.{Pipe, opening_pipe}
use Rattle.rss_machine.specs.Session.{Session}
use Rattle.rss_machine.specs.State.{State, Stage, Owner, no_stage, no_owner, owner_at}
use Rattle.rss_machine.specs.declared.session.OwnerKind.{OwnerKind}
use Rattle.rss_machine.specs.declared.session.OwnerKind.TheVariants as kind
use Rattle.rss_machine.specs.declared.session.Session.TheVariants as session
use Rattle.world_laws.proofs.Looks.{looks, get_or_repeat}
use Rattle.world_laws.proofs.Told.{each_set}

-- the attempt of what an owner has under way
abbrev pub attempt_number : Session → ℕ
attempt_number (session.Transaction t) = t.k
attempt_number session.Idle = 0
attempt_number (session.Fixing r) = 0
attempt_number (session.Register r) = 0
attempt_number (session.Snapshot t) = 0
attempt_number (session.Settling attempt shards) = 0

-- no more than seven replicas and sixteen lines or shards
abbrev pub FewIn : Session → Type 0
FewIn (session.Transaction t) = length t.lines ≤ 16
FewIn (session.Snapshot t) = length t.lines ≤ 16
FewIn (session.Register r) = r.round.replicas ≤ 7
FewIn (session.Fixing r) = r.round.replicas ≤ 7
FewIn (session.Settling attempt shards) = length shards ≤ 16
FewIn session.Idle = ⊤

abbrev pub FewLeft : Option (Attempt × List ℕ) → Type 0
FewLeft None = ⊤
FewLeft (Some u) = length u.1 ≤ 16

abbrev pub FewKind : OwnerKind → Type 0
FewKind (kind.Calling x) = ⊤
FewKind kind.Fencing = ⊤
FewKind (kind.Stubbing u) = FewLeft u

pub record FewOwner (w : Owner) : Type 0 where
  pub session : FewIn w.session
  pub kind : FewKind w.kind

abbrev pub AllFew : State → Type 0
AllFew s = (o : ℕ) → FewOwner (owner_at s o)

-- so much more: messages, owners, entries; acts of a stage, numbers of a pipe, losses of a target, attempts of an owner
pub record Budget : Type 0 where
  pub net : ℕ
  pub owners : ℕ
  pub entries : ℕ
  pub acts : ℕ
  pub next : ℕ
  pub losses : ℕ
  pub attempts : ℕ

abbrev pub none : Budget
none = record { net = 0; owners = 0; entries = 0; acts = 0; next = 0; losses = 0; attempts = 0 }

abbrev pub plus : Budget → Budget → Budget
plus x y = record {
  net = x.net + y.net;
  owners = x.owners + y.owners;
  entries = x.entries + y.entries;
  acts = x.acts + y.acts;
  next = x.next + y.next;
  losses = x.losses + y.losses;
  attempts = x.attempts + y.attempts;
}

-- no budget is above another
pub record Within (x y : Budget) : Type 0 where
  pub net : x.net ≤ y.net
  pub owners : x.owners ≤ y.owners
  pub entries : x.entries ≤ y.entries
  pub acts : x.acts ≤ y.acts
  pub next : x.next ≤ y.next
  pub losses : x.losses ≤ y.losses
  pub attempts : x.attempts ≤ y.attempts

abbrev is_within : Budget → Budget → Bool
is_within x y = leb x.net y.net && (leb x.owners y.owners && (leb x.entries y.entries && (leb x.acts y.acts && (leb x.next y.next && (leb x.losses y.losses && leb x.attempts y.attempts)))))

pub within : (x y : Budget) → is_within x y ≡ true → Within x y
within x y e =
    let a = and_parts (leb x.net y.net) _ e in
    let b = and_parts (leb x.owners y.owners) _ a.1 in
    let d = and_parts (leb x.entries y.entries) _ b.1 in
    let f = and_parts (leb x.acts y.acts) _ d.1 in
    let g = and_parts (leb x.next y.next) _ f.1 in
    let h = and_parts (leb x.losses y.losses) _ g.1 in
    record {
      net = leb-true x.net y.net a.0;
      owners = leb-true x.owners y.owners b.0;
      entries = leb-true x.entries y.entries d.0;
      acts = leb-true x.acts y.acts f.0;
      next = leb-true x.next y.next g.0;
      losses = leb-true x.losses y.losses h.0;
      attempts = leb-true x.attempts y.attempts h.1;
    }

-- one owner against what it was
pub record OwnerGrew (more again : ℕ) (v w : Owner) : Type 0 where
  pub losses : (place : ℕ) → get_or w.losses place 0 ≤ get_or v.losses place 0 + more
  pub attempts : attempt_number w.session ≤ attempt_number v.session + again

-- as many stages, pipes and shards
pub record SameLong (s t : State) : Type 0 where
  pub stages : length t.stages ≡ length s.stages
  pub pipes : length t.pipes ≡ length s.pipes
  pub shards : length t.shards ≡ length s.shards

pub long_same : (s : State) → SameLong s s
long_same s = record { stages = refl; pipes = refl; shards = refl }

-- the later state has no more than the earlier one and a budget, and its sessions are few where the earlier one's are
pub record Grew (x : Budget) (s t : State) : Type 0 where
  pub steps : t.steps ≡ s.steps
  pub long : SameLong s t
  pub net : length t.net ≤ length s.net + x.net
  pub owners : length t.owners ≤ length s.owners + x.owners
  pub entries : length t.history ≤ length s.history + x.entries
  pub acts : (i : ℕ) → (get_or t.stages i no_stage).acts ≤ (get_or s.stages i no_stage).acts + x.acts
  pub next : (i : ℕ) → (get_or t.pipes i opening_pipe).next ≤ (get_or s.pipes i opening_pipe).next + x.next
  pub each : (o : ℕ) → OwnerGrew x.losses x.attempts (owner_at s o) (owner_at t o)
  pub few : AllFew s → AllFew t

pub grew_more : (x y : Budget) (s t : State) → Within x y → Grew x s t → Grew y s t
grew_more x y s t w g = record {
  steps = g.steps;
  long = g.long;
  net = let a = g.net in let b = w.net in omega (arith, a, b);
  owners = let a = g.owners in let b = w.owners in omega (arith, a, b);
  entries = let a = g.entries in let b = w.entries in omega (arith, a, b);
  acts = λ i. (let a = g.acts i in let b = w.acts in omega (arith, a, b));
  next = λ i. (let a = g.next i in let b = w.next in omega (arith, a, b));
  each = λ o. record {
    losses = λ p. (let a = (g.each o).losses p in let b = w.losses in omega (arith, a, b));
    attempts = let a = (g.each o).attempts in let b = w.attempts in omega (arith, a, b);
  };
  few = g.few;
}

pub grew_both : (x y : Budget) (s t u : State) → Grew x s t → Grew y t u → Grew (plus x y) s u
grew_both x y s t u g h = record {
  steps = h.steps ∙ g.steps;
  long = record { stages = h.long.stages ∙ g.long.stages; pipes = h.long.pipes ∙ g.long.pipes; shards = h.long.shards ∙ g.long.shards };
  net = let a = g.net in let b = h.net in omega (arith, a, b);
  owners = let a = g.owners in let b = h.owners in omega (arith, a, b);
  entries = let a = g.entries in let b = h.entries in omega (arith, a, b);
  acts = λ i. (let a = g.acts i in let b = h.acts i in omega (arith, a, b));
  next = λ i. (let a = g.next i in let b = h.next i in omega (arith, a, b));
  each = λ o. record {
    losses = λ p. (let a = (g.each o).losses p in let b = (h.each o).losses p in omega (arith, a, b));
    attempts = let a = (g.each o).attempts in let b = (h.each o).attempts in omega (arith, a, b);
  };
  few = λ f. h.few (g.few f);
}

-- the two of a chain, in a budget
pub chain : (x y z : Budget) (s t u : State) → Within (plus x y) z → Grew x s t → Grew y t u → Grew z s u
chain x y z s t u w g h = grew_more (plus x y) z s u w (grew_both x y s t u g h)

-- an owner that stays
pub owner_still : (v : Owner) → OwnerGrew 0 0 v v
owner_still v = record { losses = λ p. omega arith; attempts = omega arith }

pub still : (s : State) → Grew none s s
still s = record { steps = refl; long = long_same s; net = omega arith; owners = omega arith; entries = omega arith; acts = λ i. omega arith; next = λ i. omega arith; each = λ o. owner_still (owner_at s o); few = λ f. f }

-- so much less is no more
pub owner_least : (losses attempts : ℕ) (v : Owner) → OwnerGrew losses attempts v v
owner_least losses attempts v = record { losses = λ p. omega arith; attempts = omega arith }

abbrev pub for_owner : ℕ → ℕ → Budget
for_owner losses attempts = record { net = 0; owners = 0; entries = 0; acts = 0; next = 0; losses = losses; attempts = attempts }

-- one owner changes, and nothing else that is counted
pub grew_owner : (losses attempts : ℕ) (s t : State) (o : ℕ) (w : Owner) → t.steps ≡ s.steps → t.net ≡ s.net → t.history ≡ s.history → t.stages ≡ s.stages → t.pipes ≡ s.pipes → t.shards ≡ s.shards → t.owners ≡ set s.owners o w
    → OwnerGrew losses attempts (owner_at s o) w → (FewOwner (owner_at s o) → FewOwner w) → Grew (for_owner losses attempts) s t
grew_owner losses attempts s t o w a b d e f z g h k = record {
  steps = a;
  long = record { stages = ap (λ (xs : List Stage). length xs) e; pipes = ap (λ (xs : List Pipe). length xs) f; shards = ap (λ (xs : List Shard). length xs) z };
  net = let m = ap (λ (xs : List Message). length xs) b in omega (arith, m);
  owners = let m = ap (λ (xs : List Owner). length xs) g in let n = kept s.owners o w in omega (arith, m, n);
  entries = let m = ap (λ (xs : List Entry). length xs) d in omega (arith, m);
  acts = λ i. (let m = ap (λ (xs : List Stage). (get_or xs i no_stage).acts) e in omega (arith, m));
  next = λ i. (let m = ap (λ (xs : List Pipe). (get_or xs i opening_pipe).next) f in omega (arith, m));
  each = subst (λ (xs : List Owner). (i : ℕ) → OwnerGrew losses attempts (owner_at s i) (get_or xs i no_owner)) (sym g) (each_set (λ i v. OwnerGrew losses attempts (owner_at s i) v) s.owners o w h (λ i. owner_least losses attempts (owner_at s i)));
  few = λ y. subst (λ (xs : List Owner). (i : ℕ) → FewOwner (get_or xs i no_owner)) (sym g) (each_set (λ i v. FewOwner v) s.owners o w (k (y o)) y);
}
  where
    kept : (xs : List Owner) (o : ℕ) (w : Owner) → length (set xs o w) ≡ length xs
    kept xs o w = grind (arith, looks)

-- an owner that begins has no more than any
pub new_grew : (losses attempts : ℕ) (v w : Owner) → w.losses ≡ no_losses → attempt_number w.session ≡ 0 → OwnerGrew losses attempts v w
new_grew losses attempts v w e f = record {
  losses = λ p. (let m = ap (λ (xs : List ℕ). get_or xs p 0) e in let n = zero_at p in omega (arith, m, n));
  attempts = omega (arith, f);
}
  where
    zero_at : (p : ℕ) → get_or no_losses p 0 ≡ 0
    zero_at p = let q = get_or_repeat {X = ℕ} 72 0 p 0 in grind (arith, q)
