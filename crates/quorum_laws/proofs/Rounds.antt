-- What rounds that are reached tell of the replicas.
use Rattle.std.proofs.Common.{◌≡◌, ℕ, zero, suc, ◌<◌, ◌≤◌, Bool, true, List, [], ◌∷◌, length, get_or, Option, Some, None, refl, sym, ◌∙◌, ap, subst, arith}
use Rattle.std.specs.Prelude.{is_some, IsTrue}
use Rattle.std.proofs.lemmas.Bool.{leb-true, le-leb, true≢false, cond_both}
use Rattle.std.proofs.lemmas.Option.{same_Some, none-some}
use Rattle.rss_names.specs.declared.service.Key.{Key}
use Rattle.carstamps.specs.declared.carstamp.Carstamp.{Carstamp}
use Rattle.carstamps.specs.Stamp.{IsAtMost, stamp_le, stamp_lt}
use Rattle.rss_wire.specs.declared.messages.RegReply.{RegReply}
use Rattle.rss_tables.specs.Round.{Round, greatest_heard, majority, count_heard, is_reached, greater_cell, greatest_after}
use Rattle.quorum_laws.specs.Majority.{count_passing, majority_passes, is_held}
use Rattle.quorum_laws.specs.Heard.{IsHeardAt, HearsItsReplicas, stamp_held, HeardAtLeast, HeardOfMajority}
use Rattle.quorum_laws.proofs.Counts.{passes_at, passes_inside, passes_read, read_passes, count_none, count_more, counts_meet}
use Rattle.quorum_laws.proofs.StampTests.{le_itself, le_chain, lt_is_le, lt_or_below, le_at_most, at_most_le}

-- the greatest cell of some heard ones has this stamp or a greater one
record EndsAbove (best : Option RegReply) (heard : List (Option RegReply)) (stamp : Carstamp) : Type 0 where
  greatest : RegReply
  is_greatest : greatest_after best heard ≡ Some greatest
  at_least : stamp_le stamp greatest.stamp ≡ true

-- the greater of two cells is at least each
greater_best : (best cell : RegReply) →
    stamp_le best.stamp (greater_cell (Some best) cell).stamp ≡ true
greater_best best cell =
    cond_both (stamp_lt best.stamp cell.stamp) cell best (λ (x : RegReply). stamp_le best.stamp x.stamp ≡ true)
    (λ e. lt_is_le best.stamp cell.stamp e) (λ e. le_itself best.stamp)

greater_new : (best : Option RegReply) (cell : RegReply) →
    stamp_le cell.stamp (greater_cell best cell).stamp ≡ true
greater_new None cell = le_itself cell.stamp
greater_new (Some best) cell =
    cond_both (stamp_lt best.stamp cell.stamp) cell best (λ (x : RegReply). stamp_le cell.stamp x.stamp ≡ true)
    (λ e. le_itself cell.stamp) (λ e. lt_or_below best.stamp cell.stamp e)

-- the best so far only grows
above_best : (best : RegReply) (heard : List (Option RegReply)) (stamp : Carstamp) →
    stamp_le stamp best.stamp ≡ true → EndsAbove (Some best) heard stamp
above_best best [] stamp l = record { greatest = best; is_greatest = refl; at_least = l }
above_best best (None ∷ heard) stamp l =
    let r = above_best best heard stamp l in record { greatest = r.greatest; is_greatest = r.is_greatest; at_least = r.at_least }
above_best best (Some cell ∷ heard) stamp l =
    let next = greater_cell (Some best) cell in
    let r = above_best next heard stamp (le_chain stamp best.stamp next.stamp l (greater_best best cell)) in
    record { greatest = r.greatest; is_greatest = r.is_greatest; at_least = r.at_least }

-- and in the end it is at least each cell heard
above_heard : (best : Option RegReply) (heard : List (Option RegReply)) (at : ℕ) (cell : RegReply) →
    get_or heard at None ≡ Some cell → EndsAbove best heard cell.stamp
above_heard best [] at cell e = absurd (none-some cell e)
above_heard best (None ∷ heard) zero cell e = absurd (none-some cell e)
above_heard best (None ∷ heard) (suc at) cell e =
    let r = above_heard best heard at cell e in record { greatest = r.greatest; is_greatest = r.is_greatest; at_least = r.at_least }
above_heard best (Some other ∷ heard) zero cell e =
    let next = greater_cell best other in
    let l : stamp_le cell.stamp next.stamp ≡ true = subst (λ (x : RegReply). stamp_le x.stamp next.stamp ≡ true) (same_Some other cell e) (greater_new best other) in
    let r = above_best next heard cell.stamp l in
    record { greatest = r.greatest; is_greatest = r.is_greatest; at_least = r.at_least }
above_heard best (Some other ∷ heard) (suc at) cell e =
    let r = above_heard (Some (greater_cell best other)) heard at cell e in
    record { greatest = r.greatest; is_greatest = r.is_greatest; at_least = r.at_least }

above_each : (round : Round) (at : ℕ) (cell : RegReply) (stamp : Carstamp) →
    IsHeardAt round at cell → stamp_le stamp cell.stamp ≡ true → HeardAtLeast round stamp
above_each round at cell stamp e l =
    let r = above_heard None round.heard at cell e in
    record {
      greatest = r.greatest;
      is_greatest = r.is_greatest;
      at_least = le_at_most stamp r.greatest.stamp (le_chain stamp cell.stamp r.greatest.stamp l r.at_least);
    }

pub greatest_above_each : (round : Round) (at : ℕ) (cell : RegReply) → IsHeardAt round at cell →
    HeardAtLeast round cell.stamp
greatest_above_each round at cell e = above_each round at cell cell.stamp e (le_itself cell.stamp)

-- who was heard, by a test
pub count_heard-passing : (heard : List (Option RegReply)) →
    count_heard heard ≡ count_passing is_some heard
count_heard-passing [] = refl
count_heard-passing (None ∷ heard) = count_heard-passing heard
count_heard-passing (Some cell ∷ heard) = ap suc (count_heard-passing heard)

some_is : (o : Option RegReply) → is_some o ≡ true → (cell : RegReply) × (o ≡ Some cell)
some_is None e = absurd (true≢false (sym e))
some_is (Some cell) e = (cell, refl)

heard_cell : (round : Round) (at : ℕ) → passes_at is_some round.heard at ≡ true →
    (cell : RegReply) × IsHeardAt round at cell
heard_cell round at e = some_is (get_or round.heard at None) (passes_read is_some round.heard at None e)

-- a majority was heard
reached : (round : Round) → is_reached round ≡ true →
    majority round.replicas ≤ count_passing is_some round.heard
reached round e = omega (arith, leb-true (majority round.replicas) (count_heard round.heard) e, count_heard-passing round.heard)

pub told_of_majority :
    (round : Round) (replicas : List (List RegReply)) (test : List RegReply → Bool) →
    IsTrue (is_reached round) → HearsItsReplicas round → length replicas ≡ round.replicas →
    ((at : ℕ) (cell : RegReply) → IsHeardAt round at cell → IsTrue (test (get_or replicas at []))) →
    IsTrue (majority_passes test replicas)
told_of_majority round replicas test e own l f =
    le-leb (majority (length replicas)) (count_passing test replicas) (omega (arith, reached round e, all, l))
  where
    each : (at : ℕ) → passes_at is_some round.heard at ≡ true → passes_at test replicas at ≡ true
    each at h =
        let c = heard_cell round at h in
        read_passes test replicas at [] (omega (arith, l, own at c.0 c.1)) (f at c.0 c.1)

    all : count_passing is_some round.heard ≤ count_passing test replicas
    all = count_more is_some test round.heard replicas each

pub heard_of_majority : (round : Round) (replicas : List (List RegReply)) (key : Key) →
    IsTrue (is_reached round) → HearsItsReplicas round → length replicas ≡ round.replicas →
    ((at : ℕ) (cell : RegReply) → IsHeardAt round at cell →
    IsAtMost (stamp_held key (get_or replicas at [])) cell.stamp) →
    HeardOfMajority round replicas key
heard_of_majority round replicas key e own l f = by_greatest (greatest_heard round) refl
  where
    by_greatest : (best : Option RegReply) → greatest_heard round ≡ best →
        HeardOfMajority round replicas key
    by_greatest None g =
        let none = count_none is_some round.heard
        (λ at h. (let c = heard_cell round at h in let r = greatest_above_each round at c.0 c.1 in none-some r.greatest (sym g ∙ r.is_greatest))) in
        absurd (omega (arith, none, reached round e))
    by_greatest (Some best) g =
        record { greatest = best; is_greatest = g; at_least = told_of_majority round replicas test e own l each }
      where
        test : List RegReply → Bool
        test cells = stamp_le (stamp_held key cells) best.stamp

        each : (at : ℕ) (cell : RegReply) → IsHeardAt round at cell →
            IsTrue (stamp_le (stamp_held key (get_or replicas at [])) best.stamp)
        each at cell h =
            let r = greatest_above_each round at cell h in
            let told = stamp_held key (get_or replicas at []) in
            let same : r.greatest ≡ best = same_Some r.greatest best (sym r.is_greatest ∙ g) in
            subst (λ (x : RegReply). stamp_le told x.stamp ≡ true) same
            (le_chain told cell.stamp r.greatest.stamp (at_most_le told cell.stamp (f at cell h)) (at_most_le cell.stamp r.greatest.stamp r.at_least))

pub heard_what_was_held :
    (round : Round) (replicas : List (List RegReply)) (key : Key) (stamp : Carstamp) →
    IsTrue (is_reached round) → HearsItsReplicas round → length replicas ≡ round.replicas →
    IsTrue (is_held (stamp_held key) replicas stamp) →
    ((at : ℕ) (cell : RegReply) → IsHeardAt round at cell → IsAtMost (stamp_held key (get_or replicas at [])) cell.stamp) →
    HeardAtLeast round stamp
heard_what_was_held round replicas key stamp e own l held f =
    let holds : List RegReply → Bool = λ cells. stamp_le stamp (stamp_held key cells) in
    let a = reached round e in
    let b = leb-true (majority (length replicas)) (count_passing holds replicas) held in
    let inside : (at : ℕ) → passes_at is_some round.heard at ≡ true → at < round.replicas =
    λ at h. (let c = heard_cell round at h in own at c.0 c.1) in
    let meet = counts_meet is_some holds round.replicas round.heard replicas inside (λ at h. omega (arith, l, passes_inside holds replicas at h)) (omega (arith, a, b, l)) in
    let c = heard_cell round meet.0 meet.1 in
    let h = passes_read holds replicas meet.0 [] meet.2 in
    let told = stamp_held key (get_or replicas meet.0 []) in
    above_each round meet.0 c.0 stamp c.1 (le_chain stamp told c.0.stamp h (at_most_le told c.0.stamp (f meet.0 c.0 c.1)))
