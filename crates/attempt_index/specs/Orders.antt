-- Attempts and pairs stand in an order: what stands before an item stands before all behind that.
use Rattle.std.proofs.Common.{◌≡◌, ℕ, Bool, true, false, ◌&&◌, ◌||◌, nat_lt, arith, refl, sym, ap, ◌∙◌}
use Rattle.std.proofs.lemmas.Grind.{common_steps}
use Rattle.std.proofs.lemmas.Bool.{false≢true}
use Rattle.std.specs.Bool.{Decides}
use Rattle.rss_names.specs.declared.attempt.Attempt.{Attempt}
use Rattle.rss_names.specs.declared.service.Key.{Key}
use Rattle.rss_names.specs.declared.service.ServiceId.{ServiceId}
use Rattle.rss_names.specs.declared.service.ServiceId.TheVariants.{Txn, Reg}
use Rattle.rss_names.specs.Services.{same_service, same_key}
use Rattle.rss_names.proofs.Services.{same_service-Decides, same_key-Decides}
use Rattle.rss_tables.specs.Attempts.{attempt_lt}
use Rattle.rss_wire.specs.declared.messages.Holder.{Holder}
use Rattle.rss_wire.specs.declared.messages.Skipped.{Skipped}
use Rattle.attempt_index.specs.declared.index.KeyAttempt.{KeyAttempt}
use Rattle.attempt_index.specs.KeyIndex.{service_lt, key_lt, key_attempt_lt}

pub attempts-transitive : (a b c : Attempt) → attempt_lt a b ≡ true → attempt_lt b c ≡ true → attempt_lt a c ≡ true
attempts-transitive a b c p q = grind (arith, common_steps, p, q)

pub services-transitive : (a b c : ServiceId) → service_lt a b ≡ true → service_lt b c ≡ true → service_lt a c ≡ true
services-transitive (Txn l) (Txn m) (Txn n) p q = grind (arith, common_steps, p, q)
services-transitive (Txn l) (Txn m) (Reg n) p q = refl
services-transitive (Txn l) (Reg m) (Txn n) p q = absurd (false≢true q)
services-transitive (Txn l) (Reg m) (Reg n) p q = refl
services-transitive (Reg l) (Txn m) c p q = absurd (false≢true p)
services-transitive (Reg l) (Reg m) (Txn n) p q = absurd (false≢true q)
services-transitive (Reg l) (Reg m) (Reg n) p q = grind (arith, common_steps, p, q)

both : (a b : Bool) → (a && b) ≡ true → (a ≡ true) × (b ≡ true)
both true b e = (refl, e)
both false b e = absurd (false≢true e)

or-right : (a b : Bool) → b ≡ true → (a || b) ≡ true
or-right true b e = refl
or-right false b e = e

-- an order by a first part, and then by a second one
pub in-turn : {K N : Type 0} (lt same : K → K → Bool) (low : N → N → Bool) → ((a b c : K) → lt a b ≡ true → lt b c ≡ true → lt a c ≡ true) → ((a b : K) → Decides (same a b) (a ≡ b)) → ((x y z : N) → low x y ≡ true → low y z ≡ true → low x z ≡ true)
    → (a b c : K) (x y z : N) → (lt a b || (same a b && low x y)) ≡ true → (lt b c || (same b c && low y z)) ≡ true → (lt a c || (same a c && low x z)) ≡ true
in-turn {K} lt same low t d u a b c x y z p q = go (lt a b) refl (lt b c) refl
  where
    go : (s : Bool) → lt a b ≡ s → (r : Bool) → lt b c ≡ r → (lt a c || (same a c && low x z)) ≡ true
    go true e true f = rw (t a b c e f) refl
    go true e false f =
        let h : (same b c && low y z) ≡ true = rw f at q in
        let eq : b ≡ c = (d b c).0 (both _ _ h).0 in
        let g : lt a c ≡ true = ap (λ (k : K). lt a k) (sym eq) ∙ e in
        rw g refl
    go false e true f =
        let h : (same a b && low x y) ≡ true = rw e at p in
        let eq : a ≡ b = (d a b).0 (both _ _ h).0 in
        let g : lt a c ≡ true = ap (λ (k : K). lt k c) eq ∙ f in
        rw g refl
    go false e false f =
        let h : (same a b && low x y) ≡ true = rw e at p in
        let i : (same b c && low y z) ≡ true = rw f at q in
        let eq : a ≡ c = (d a b).0 (both _ _ h).0 ∙ (d b c).0 (both _ _ i).0 in
        let m : same a c ≡ true = (d a c).1 eq in
        let n : low x z ≡ true = u x y z (both _ _ h).1 (both _ _ i).1 in
        let g : (same a c && low x z) ≡ true = rw (m, n) refl in
        or-right (lt a c) _ g

pub numbers-transitive : (a b c : ℕ) → nat_lt a b ≡ true → nat_lt b c ≡ true → nat_lt a c ≡ true
numbers-transitive a b c p q = grind (arith, common_steps, p, q)

pub keys-transitive : (a b c : Key) → key_lt a b ≡ true → key_lt b c ≡ true → key_lt a c ≡ true
keys-transitive a b c p q = in-turn service_lt same_service nat_lt services-transitive same_service-Decides numbers-transitive a.service b.service c.service a.index b.index c.index p q

pub key_attempts-transitive : (a b c : KeyAttempt) → key_attempt_lt a b ≡ true → key_attempt_lt b c ≡ true → key_attempt_lt a c ≡ true
key_attempts-transitive a b c p q = in-turn key_lt same_key attempt_lt keys-transitive same_key-Decides attempts-transitive a.key b.key c.key a.attempt b.attempt c.attempt p q

-- blocking writers stand by ascending attempt
abbrev pub holder_lt : Holder → Holder → Bool
holder_lt a b = attempt_lt a.attempt b.attempt

-- and so do those passed by
abbrev pub skipped_lt : Skipped → Skipped → Bool
skipped_lt a b = attempt_lt a.attempt b.attempt

pub holders-transitive : (a b c : Holder) → holder_lt a b ≡ true → holder_lt b c ≡ true → holder_lt a c ≡ true
holders-transitive a b c p q = attempts-transitive a.attempt b.attempt c.attempt p q

pub skipped-transitive : (a b c : Skipped) → skipped_lt a b ≡ true → skipped_lt b c ≡ true → skipped_lt a c ≡ true
skipped-transitive a b c p q = attempts-transitive a.attempt b.attempt c.attempt p q
