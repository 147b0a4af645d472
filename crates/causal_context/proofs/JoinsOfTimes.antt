-- Least times are joined as lists by ascending place are.
use Rattle.std.proofs.Common.{◌≡◌, ℕ, suc, ◌<◌, max, Bool, true, false, if◌then◌else◌, ◌==◌, nat_lt, ◌⊎◌, inl, inr, List, [], ◌∷◌, All, AllPairs, arith, refl, sym, ap, ◌∙◌, subst}
use Rattle.std.proofs.lemmas.Bool.Decides.{nat_tests}
use Rattle.std.proofs.lemmas.List.Elements.{All-cons, All-nil, All-head, All-tail}
use Rattle.std.proofs.lemmas.List.Kept.{AllPairs-cons}
use Rattle.rss_names.specs.declared.service.ServiceId.{ServiceId}
use Rattle.rss_names.specs.declared.service.ServiceId.TheVariants.{Txn, Reg}
use Rattle.rss_names.specs.Services.{same_service}
use Rattle.causal_context.specs.Services.{IsService, IsTransaction, StandsBefore, stands_before}
use Rattle.causal_context.specs.LeastTimes.{AreLeastTimes, least_of, services_of, put_least, least_raised, least_joined}
use Rattle.causal_context.proofs.Ordered.{AllAbove, Rising, put, joined, three, above_more, rising_put, rising_joined}

-- the number of the service of a least time
unfoldable pub number_of : ServiceId × ℕ → ℕ
number_of entry = by_service entry.0
  where
    by_service : ServiceId → ℕ
    by_service (Txn n) = n
    by_service (Reg n) = n

-- of two least times of one service the greater
unfoldable pub later : ServiceId × ℕ → ServiceId × ℕ → ServiceId × ℕ
later a b = (a.0, max a.1 b.1)

pub later_kept : (a b : ServiceId × ℕ) → number_of a ≡ number_of b → number_of (later a b) ≡ number_of a
unfolding later number_of
later_kept a b h = refl

-- each least time is of a transaction service
abbrev pub AllTimes : List (ServiceId × ℕ) → Type 0
AllTimes entries = All IsTransaction (services_of entries)

-- past a number there is no least time of it
least_of_above : (n : ℕ) (entries : List (ServiceId × ℕ)) → AllTimes entries → AllAbove number_of n entries → least_of entries (Txn n) ≡ 0
unfolding number_of
least_of_above n [] a h = refl
least_of_above n ((Txn m, t) ∷ entries) a h =
    let r = least_of_above n entries (All-tail IsTransaction (Txn m) (services_of entries) a) h.1 in
    let l = h.0 in
    grind (arith, nat_tests, r, l)
least_of_above n ((Reg m, t) ∷ entries) a h = absurd (All-head IsTransaction (Reg m) (services_of entries) a)

-- a least time is raised as one is put among others
pub least_raised_is : (n time : ℕ) (entries : List (ServiceId × ℕ)) → AllTimes entries → Rising number_of entries → least_raised (Txn n) time entries ≡ put number_of later (Txn n, time) entries
unfolding number_of later
least_raised_is n time [] a h = grind arith
least_raised_is n time ((Reg m, t) ∷ entries) a h = absurd (All-head IsTransaction (Reg m) (services_of entries) a)
least_raised_is n time ((Txn m, t) ∷ entries) a h = by_place (least_raised_is n time entries (All-tail IsTransaction (Txn m) (services_of entries) a) h.1) (three n m)
  where
    by_place : least_raised (Txn n) time entries ≡ put number_of later (Txn n, time) entries
        → (n < m) ⊎ ((n ≡ m) ⊎ (m < n)) → least_raised (Txn n) time ((Txn m, t) ∷ entries) ≡ put number_of later (Txn n, time) ((Txn m, t) ∷ entries)
    by_place r (inl l) =
        let z = least_of_above n entries (All-tail IsTransaction (Txn m) (services_of entries) a) (above_more number_of n m entries (omega (arith, l)) h.0) in
        grind (arith, nat_tests, z, l)
    by_place r (inr (inl e)) = grind (arith, nat_tests, e)
    by_place r (inr (inr l)) = grind (arith, nat_tests, r, l)

-- what is raised stays of transaction services
times_put : (n time : ℕ) (entries : List (ServiceId × ℕ)) → AllTimes entries → AllTimes (put_least (Txn n) time entries)
times_put n time [] a = All-cons IsTransaction (Txn n) [] tt (All-nil IsTransaction)
times_put n time ((Reg m, t) ∷ entries) a = absurd (All-head IsTransaction (Reg m) (services_of entries) a)
times_put n time ((Txn m, t) ∷ entries) a = by_place (times_put n time entries (All-tail IsTransaction (Txn m) (services_of entries) a)) (nat_lt n m) (n == m)
  where
    by_place : AllTimes (put_least (Txn n) time entries) → (b c : Bool)
        → AllTimes (if b then (Txn n, time) ∷ (Txn m, t) ∷ entries else if c then (Txn n, time) ∷ entries else (Txn m, t) ∷ put_least (Txn n) time entries)
    by_place r true c = All-cons IsTransaction (Txn n) (Txn m ∷ services_of entries) tt a
    by_place r false true = All-cons IsTransaction (Txn n) (services_of entries) tt (All-tail IsTransaction (Txn m) (services_of entries) a)
    by_place r false false = All-cons IsTransaction (Txn m) (services_of (put_least (Txn n) time entries)) tt r

-- least times are joined as lists by ascending place are
pub least_joined_is : (entries others : List (ServiceId × ℕ)) → AllTimes entries → Rising number_of entries → AllTimes others → least_joined entries others ≡ joined number_of later entries others
least_joined_is entries [] a h b = refl
least_joined_is entries ((Reg m, t) ∷ others) a h b = absurd (All-head IsTransaction (Reg m) (services_of others) b)
least_joined_is entries ((Txn m, t) ∷ others) a h b =
    let p = least_raised_is m t entries a h in
    let k = rising_put number_of later later_kept (Txn m, t) entries h in
    let r = least_joined_is (least_raised (Txn m) t entries) others (times_put m (max (least_of entries (Txn m)) t) entries a) (subst (Rising number_of) (sym p) k) (All-tail IsTransaction (Txn m) (services_of others) b) in
    r ∙ ap (λ l. joined number_of later l others) p

pub times_joined : (entries others : List (ServiceId × ℕ)) → AllTimes entries → AllTimes others → AllTimes (least_joined entries others)
times_joined entries [] a b = a
times_joined entries ((Reg m, t) ∷ others) a b = absurd (All-head IsTransaction (Reg m) (services_of others) b)
times_joined entries ((Txn m, t) ∷ others) a b = times_joined (least_raised (Txn m) t entries) others (times_put m (max (least_of entries (Txn m)) t) entries a) (All-tail IsTransaction (Txn m) (services_of others) b)

above_times : (id : ServiceId) (n : ℕ) (entries : List (ServiceId × ℕ)) → id ≡ Txn n → AllTimes entries → All (StandsBefore id) (services_of entries) → AllAbove number_of n entries
unfolding number_of
above_times id n [] e a p = tt
above_times id n ((Reg m, t) ∷ entries) e a p = absurd (All-head IsTransaction (Reg m) (services_of entries) a)
above_times id n ((Txn m, t) ∷ entries) e a p = (
  subst (λ x. StandsBefore x (Txn m)) e (All-head (StandsBefore id) (Txn m) (services_of entries) p),
  above_times id n entries e (All-tail IsTransaction (Txn m) (services_of entries) a) (All-tail (StandsBefore id) (Txn m) (services_of entries) p),
)

pub rising_times : (entries : List (ServiceId × ℕ)) → AllTimes entries → AllPairs StandsBefore (services_of entries) → Rising number_of entries
unfolding number_of
rising_times [] a p = tt
rising_times ((Reg m, t) ∷ entries) a p = absurd (All-head IsTransaction (Reg m) (services_of entries) a)
rising_times ((Txn m, t) ∷ entries) a p = (
  above_times (Txn m) m entries refl (All-tail IsTransaction (Txn m) (services_of entries) a) (λ k d l. p 0 (suc k) d (omega arith) (omega (arith, l))),
  rising_times entries (All-tail IsTransaction (Txn m) (services_of entries) a) (λ i j d l m. p (suc i) (suc j) d (omega (arith, l)) (omega (arith, m))),
)

times_above : (n : ℕ) (entries : List (ServiceId × ℕ)) → AllTimes entries → AllAbove number_of n entries → All (StandsBefore (Txn n)) (services_of entries)
unfolding number_of
times_above n [] a p = All-nil (StandsBefore (Txn n))
times_above n ((Reg m, t) ∷ entries) a p = absurd (All-head IsTransaction (Reg m) (services_of entries) a)
times_above n ((Txn m, t) ∷ entries) a p = All-cons (StandsBefore (Txn n)) (Txn m) (services_of entries) p.0 (times_above n entries (All-tail IsTransaction (Txn m) (services_of entries) a) p.1)

pub times_rising : (entries : List (ServiceId × ℕ)) → AllTimes entries → Rising number_of entries → AllPairs StandsBefore (services_of entries)
unfolding number_of
times_rising [] a p = λ i j d l m. absurd (omega (arith, m))
times_rising ((Reg m, t) ∷ entries) a p = absurd (All-head IsTransaction (Reg m) (services_of entries) a)
times_rising ((Txn m, t) ∷ entries) a p =
    AllPairs-cons StandsBefore (Txn m) (services_of entries) (times_above m entries (All-tail IsTransaction (Txn m) (services_of entries) a) p.0) (times_rising entries (All-tail IsTransaction (Txn m) (services_of entries) a) p.1)

-- numbers in range stay in range
in_range_put : (n time : ℕ) (entries : List (ServiceId × ℕ)) → IsService (Txn n) → All IsService (services_of entries) → All IsService (services_of (put_least (Txn n) time entries))
in_range_put n time [] s a = All-cons IsService (Txn n) [] s (All-nil IsService)
in_range_put n time (entry ∷ entries) s a = by_place (in_range_put n time entries s (All-tail IsService entry.0 (services_of entries) a)) (stands_before (Txn n) entry.0) (same_service (Txn n) entry.0)
  where
    by_place : All IsService (services_of (put_least (Txn n) time entries)) → (b c : Bool)
        → All IsService (services_of (if b then (Txn n, time) ∷ entry ∷ entries else if c then (Txn n, time) ∷ entries else entry ∷ put_least (Txn n) time entries))
    by_place r true c = All-cons IsService (Txn n) (entry.0 ∷ services_of entries) s a
    by_place r false true = All-cons IsService (Txn n) (services_of entries) s (All-tail IsService entry.0 (services_of entries) a)
    by_place r false false = All-cons IsService entry.0 (services_of (put_least (Txn n) time entries)) (All-head IsService entry.0 (services_of entries) a) r

pub in_range_joined : (entries others : List (ServiceId × ℕ)) → AllTimes others → All IsService (services_of entries) → All IsService (services_of others) → All IsService (services_of (least_joined entries others))
in_range_joined entries [] t a b = a
in_range_joined entries ((Reg m, s) ∷ others) t a b = absurd (All-head IsTransaction (Reg m) (services_of others) t)
in_range_joined entries ((Txn m, s) ∷ others) t a b =
    in_range_joined (least_raised (Txn m) s entries) others (All-tail IsTransaction (Txn m) (services_of others) t)
    (in_range_put m (max (least_of entries (Txn m)) s) entries (All-head IsService (Txn m) (services_of others) b) a) (All-tail IsService (Txn m) (services_of others) b)

-- of two least times of one service the second
newer : ServiceId × ℕ → ServiceId × ℕ → ServiceId × ℕ
newer a b = b

newer_kept : (a b : ServiceId × ℕ) → number_of a ≡ number_of b → number_of (newer a b) ≡ number_of a
unfolding newer
newer_kept a b h = sym h

put_least_is : (n time : ℕ) (entries : List (ServiceId × ℕ)) → AllTimes entries → put_least (Txn n) time entries ≡ put number_of newer (Txn n, time) entries
unfolding number_of newer
put_least_is n time [] a = refl
put_least_is n time ((Reg m, t) ∷ entries) a = absurd (All-head IsTransaction (Reg m) (services_of entries) a)
put_least_is n time ((Txn m, t) ∷ entries) a = let r = put_least_is n time entries (All-tail IsTransaction (Txn m) (services_of entries) a) in grind (arith, nat_tests, r)

-- least times that one was put among are least times
pub least_times_put : (n time : ℕ) (entries : List (ServiceId × ℕ)) → IsService (Txn n) → AreLeastTimes entries → AreLeastTimes (put_least (Txn n) time entries)
least_times_put n time entries s h =
    let t = times_put n time entries h.transactions in
    let r = rising_put number_of newer newer_kept (Txn n, time) entries (rising_times entries h.transactions h.services.in_order) in
    record {
      services = record {
        in_range = in_range_put n time entries s h.services.in_range;
        in_order = times_rising (put_least (Txn n) time entries) t (subst (Rising number_of) (sym (put_least_is n time entries h.transactions)) r);
      };
      transactions = t;
    }

-- joined least times are least times
pub least_times_joined : (entries others : List (ServiceId × ℕ)) → AreLeastTimes entries → AreLeastTimes others → AreLeastTimes (least_joined entries others)
least_times_joined entries others h k =
    let t = times_joined entries others h.transactions k.transactions in
    let r = rising_joined number_of later later_kept entries others (rising_times entries h.transactions h.services.in_order) in
    record {
      services = record {
        in_range = in_range_joined entries others k.transactions h.services.in_range k.services.in_range;
        in_order = times_rising (least_joined entries others) t (subst (Rising number_of) (sym (least_joined_is entries others h.transactions (rising_times entries h.transactions h.services.in_order) k.transactions)) r);
      };
      transactions = t;
    }
