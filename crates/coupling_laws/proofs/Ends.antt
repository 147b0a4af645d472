-- Contexts in which calls end cover the calls behind them and these.
use Rattle.std.proofs.Common.{◌≡◌, ℕ, ◌≤◌, ◌⊎◌, inl, inr, Bool, true, false, ◌==◌, Option, None, [], ◌∷◌, All, arith, refl, sym, ap, ◌∙◌, subst}
use Rattle.std.proofs.lemmas.Bool.{true≢false, false≢true}
use Rattle.std.proofs.lemmas.Bool.Decides.{nat_tests}
use Rattle.std.proofs.lemmas.List.Elements.{All-nil}
use Rattle.rss_names.specs.declared.service.ServiceId.{ServiceId}
use Rattle.rss_names.specs.declared.service.ServiceId.TheVariants.{Txn, Reg}
use Rattle.rss_names.specs.Services.{same_service}
use Rattle.causal_context.specs.declared.dep.Dep.{Dep}
use Rattle.causal_context.specs.Services.{IsService, has_service}
use Rattle.causal_context.specs.LastView.{last_alone}
use Rattle.causal_context.specs.LeastTimes.{least_of, put_least}
use Rattle.causal_context.specs.Deps.{deps_of, given_dep}
use Rattle.causal_context.specs.Seen.{Seen, after_txn, after_read, after_write, deps_cleared}
use Rattle.causal_context.proofs.SameServices.{same_itself, same_is}
use Rattle.causal_context.proofs.Looked.{least_of_put, least_of_others}
use Rattle.causal_context.proofs.SeenKept.{txn_seen, read_seen, cleared_seen}
use Rattle.coupling_laws.specs.Calls.{View, IsView, and_one}
use Rattle.coupling_laws.specs.Covers.{holds, IsValid, Covers, IsAt}
use Rattle.coupling_laws.proofs.Held.{of_none}
use Rattle.coupling_laws.proofs.Used.{one_of, not_one, at_no_other, alone_is_something, alone_once}

-- one of calls and one more is that one or one of them
pub one_more : (call a : ℕ) (calls : ℕ → Bool) → and_one call calls a ≡ true → (a ≡ call) ⊎ (calls a ≡ true)
one_more call a calls h = by_one (one_of (a == call) (calls a) h)
  where
    by_one : ((a == call) ≡ true) ⊎ (calls a ≡ true) → (a ≡ call) ⊎ (calls a ≡ true)
    by_one (inl e) = inl (grind (arith, nat_tests, e))
    by_one (inr e) = inr e

-- what each of the calls meets and the one more meets, each of those and it meet
pub with_one : (P : ℕ → Type 0) (call : ℕ) (calls : ℕ → Bool) → P call → ((a : ℕ) → calls a ≡ true → P a) → (a : ℕ) → and_one call calls a ≡ true → P a
with_one P call calls p q a h = by_one (one_more call a calls h)
  where
    by_one : (a ≡ call) ⊎ (calls a ≡ true) → P a
    by_one (inl e) = subst P (sym e) p
    by_one (inr e) = q a e

-- a call of another service than that at which the context is has come
pub come_elsewhere : (v : View) (behind : ℕ → Bool) (c : Seen) (id : ServiceId) → IsAt c id → Covers v behind c → (a : ℕ) → behind a ≡ true → same_service (v.call a).service id ≡ false → v.come a ≡ true
come_elsewhere v behind c id at k a h f = k.out a h (at_no_other c id (v.call a).service at f)

-- where the context has no dependency each register call has come
pub come_at_registers : (v : View) (behind : ℕ → Bool) (c : Seen) → c.deps ≡ [] → Covers v behind c → (a n : ℕ) → behind a ≡ true → (v.call a).service ≡ Reg n → v.come a ≡ true
come_at_registers v behind c d k a n h s = by_dep (k.dep a n h s)
  where
    by_dep : (v.come a ≡ true) ⊎ (holds c.deps (v.call a) ≡ true) → v.come a ≡ true
    by_dep (inl e) = e
    by_dep (inr e) = absurd (false≢true (sym (ap (λ x. holds x (v.call a)) d) ∙ e))

-- a call at which service is which
txn_is : (m n : ℕ) → Txn m ≡ Txn n → m ≡ n
txn_is m n e = let s = same_itself (Txn m) in let t = ap (same_service (Txn m)) e in grind (arith, nat_tests, s, t)

txn_not_reg : (m n : ℕ) → Txn m ≡ Reg n → ⊥
txn_not_reg m n e = let s = same_itself (Txn m) in let t = ap (same_service (Txn m)) e in true≢false (sym s ∙ t)

-- no service but one alone
other_than : (id other : ServiceId) → has_service (id ∷ []) other ≡ false → (s : ServiceId) → s ≡ id → s ≡ other → ⊥
other_than id other f s e g = let t = same_itself id in let n = not_one id other f in true≢false (sym t ∙ ap (λ x. same_service x id) (sym e ∙ g) ∙ n)

-- a call of a transaction service ends at a time that is not below the least
module _ (v : View) (behind : ℕ → Bool) (c : Seen) (call m : ℕ) (i : IsView v) (k : Covers v behind c) (o : IsService (Txn m)) (e : v.ended call ≡ true) (s : (v.call call).service ≡ Txn m)
    (l : least_of c.least (Txn m) ≤ (v.call call).time) (at : IsAt c (Txn m)) (d : c.deps ≡ []) where
  old_least : (a n : ℕ) → behind a ≡ true → (v.call a).service ≡ Txn n → (b : Bool) → same_service (Txn n) (Txn m) ≡ b → (v.call a).time ≤ least_of (put_least (Txn m) (v.call call).time c.least) (Txn n)
  old_least a n h t true f =
      let q = same_is (Txn n) (Txn m) f in
      let p = k.least a n h t in
      subst (λ x. (v.call a).time ≤ least_of (put_least (Txn m) (v.call call).time c.least) x) (sym q)
      (let r = subst (λ x. (v.call a).time ≤ least_of c.least x) q p in let g = least_of_put (Txn m) (v.call call).time c.least in omega (arith, r, g, l))
  old_least a n h t false f = let p = k.least a n h t in let g = least_of_others (Txn m) (Txn n) (v.call call).time c.least f in omega (arith, p, g)

  new_least : (n : ℕ) → (v.call call).service ≡ Txn n → (v.call call).time ≤ least_of (put_least (Txn m) (v.call call).time c.least) (Txn n)
  new_least n t =
      let g = least_of_put (Txn m) (v.call call).time c.least in
      subst (λ x. (v.call call).time ≤ least_of (put_least (Txn m) (v.call call).time c.least) x) (sym s ∙ t) (omega (arith, g))

  old_before : (a : ℕ) → behind a ≡ true → same_service (v.call a).service (Txn m) ≡ false → IsAt c (Txn m) → v.before a (v.call call).time ≡ true
  old_before a h f (inl q) = i.rises a (least_of c.least (Txn m)) (v.call call).time l (k.alone a m h q f)
  old_before a h f (inr q) = absurd (true≢false (sym h ∙ (k.empty (ap (λ (x : Seen). x.last) q)).1 a))

  all_before : (a n : ℕ) → and_one call behind a ≡ true → last_alone (Txn m) ≡ last_alone (Txn n) → same_service (v.call a).service (Txn n) ≡ false → v.before a (least_of (put_least (Txn m) (v.call call).time c.least) (Txn n)) ≡ true
  all_before a n h q f = let x = alone_once (Txn m) (Txn n) q in
      subst (λ y. same_service (v.call a).service y ≡ false → v.before a (least_of (put_least (Txn m) (v.call call).time c.least) y) ≡ true) x (by_one (one_more call a behind h)) f
    where
      by_one : (a ≡ call) ⊎ (behind a ≡ true) → same_service (v.call a).service (Txn m) ≡ false → v.before a (least_of (put_least (Txn m) (v.call call).time c.least) (Txn m)) ≡ true
      by_one (inl p) g = absurd (true≢false (sym (same_itself (Txn m)) ∙ ap (λ y. same_service y (Txn m)) (sym s ∙ ap (λ y. (v.call y).service) (sym p)) ∙ g))
      by_one (inr p) g = subst (λ t. v.before a t ≡ true) (sym (least_of_put (Txn m) (v.call call).time c.least)) (old_before a p g at)

  pub txn_ends : Covers v (and_one call behind) (after_txn c (Txn m) (v.call call).time)
  txn_ends = record {
    ended = with_one (λ a. v.ended a ≡ true) call behind e k.ended;
    least = λ a n h t. with_one (λ x. (v.call x).service ≡ Txn n → (v.call x).time ≤ least_of (put_least (Txn m) (v.call call).time c.least) (Txn n)) call behind (new_least n) (λ x p t. old_least x n p t (same_service (Txn n) (Txn m)) refl) a h t;
    dep = λ a n h t. inl (with_one (λ x. (v.call x).service ≡ Reg n → v.come x ≡ true) call behind (λ t. absurd (txn_not_reg m n (sym s ∙ t))) (λ x p t. come_at_registers v behind c d k x n p t) a h t);
    out = λ a h f. with_one (λ x. has_service (Txn m ∷ []) (v.call x).service ≡ false → v.come x ≡ true) call behind
        (λ f. absurd (other_than (Txn m) (v.call call).service f (v.call call).service s refl))
        (λ x p f. come_elsewhere v behind c (Txn m) at k x p (not_one (Txn m) (v.call x).service f)) a h f;
    out_deps = λ n f. ap (deps_of (Reg n)) d;
    alone = all_before;
    empty = λ q. absurd (alone_is_something (Txn m) q);
    valid = subst (All (IsValid v)) (sym d) (All-nil (IsValid v));
    orders = txn_seen c (Txn m) (v.call call).time k.orders o;
  }

-- one service alone is not another
reg_not_alone : (m n : ℕ) → last_alone (Reg m) ≡ last_alone (Txn n) → ⊥
reg_not_alone m n q = txn_not_reg n m (sym (alone_once (Reg m) (Txn n) q))

-- a read ends: the value read is held by a majority, or the dependency given holds the read
module _ (v : View) (behind : ℕ → Bool) (c : Seen) (call m : ℕ) (dep : Option Dep) (k : Covers v behind c) (o : IsService (Reg m)) (e : v.ended call ≡ true) (s : (v.call call).service ≡ Reg m)
    (at : IsAt c (Reg m)) (d : c.deps ≡ []) (w : All (IsValid v) (given_dep dep)) (y : All (λ x. x.key.service ≡ Reg m) (given_dep dep))
    (z : (v.come call ≡ true) ⊎ (holds (given_dep dep) (v.call call) ≡ true)) where
  new_out_deps : (n : ℕ) → has_service (Reg m ∷ []) (Reg n) ≡ false → deps_of (Reg n) (given_dep dep) ≡ []
  new_out_deps n f = of_none (Reg n) (given_dep dep) (λ i x l. ap (same_service (Reg n)) (y i x l) ∙ not_one (Reg m) (Reg n) f)

  pub read_ends : Covers v (and_one call behind) (after_read c (Reg m) dep)
  read_ends = record {
    ended = with_one (λ a. v.ended a ≡ true) call behind e k.ended;
    least = λ a n h t. with_one (λ x. (v.call x).service ≡ Txn n → (v.call x).time ≤ least_of c.least (Txn n)) call behind (λ t. absurd (txn_not_reg n m (sym t ∙ s))) (λ x p. k.least x n p) a h t;
    dep = λ a n h t. with_one (λ x. (v.call x).service ≡ Reg n → (v.come x ≡ true) ⊎ (holds (given_dep dep) (v.call x) ≡ true)) call behind (λ t. z) (λ x p t. inl (come_at_registers v behind c d k x n p t)) a h t;
    out = λ a h f. with_one (λ x. has_service (Reg m ∷ []) (v.call x).service ≡ false → v.come x ≡ true) call behind
        (λ f. absurd (other_than (Reg m) (v.call call).service f (v.call call).service s refl))
        (λ x p f. come_elsewhere v behind c (Reg m) at k x p (not_one (Reg m) (v.call x).service f)) a h f;
    out_deps = new_out_deps;
    alone = λ a n h q f. absurd (reg_not_alone m n q);
    empty = λ q. absurd (alone_is_something (Reg m) q);
    valid = w;
    orders = read_seen c (Reg m) dep k.orders o;
  }

-- a write ends: a majority holds its stamp
pub write_ends : (v : View) (behind : ℕ → Bool) (c : Seen) (call m : ℕ) → Covers v behind c → IsService (Reg m) → v.ended call ≡ true → (v.call call).service ≡ Reg m → IsAt c (Reg m) → c.deps ≡ [] → v.come call ≡ true
    → Covers v (and_one call behind) (after_write c (Reg m))
write_ends v behind c call m k o e s at d z = read_ends v behind c call m None k o e s at d (All-nil (IsValid v)) (All-nil (λ (x : Dep). x.key.service ≡ Reg m)) (inl z)

-- the dependencies of the service at which the context is are cleared: each of its calls has come
pub cleared : (v : View) (behind : ℕ → Bool) (c : Seen) (m : ℕ) → Covers v behind c → IsAt c (Reg m) → ((a : ℕ) → behind a ≡ true → (v.call a).service ≡ Reg m → v.come a ≡ true) → Covers v behind (deps_cleared c)
cleared v behind c m k at z = record {
  ended = k.ended;
  least = k.least;
  dep = λ a n h t. inl (by_service a h (same_service (v.call a).service (Reg m)) refl);
  out = k.out;
  out_deps = λ n f. refl;
  alone = k.alone;
  empty = λ q. (ap deps_cleared (k.empty q).0, (k.empty q).1);
  valid = All-nil (IsValid v);
  orders = cleared_seen c k.orders;
}
  where
    by_service : (a : ℕ) → behind a ≡ true → (b : Bool) → same_service (v.call a).service (Reg m) ≡ b → v.come a ≡ true
    by_service a h true f = z a h (same_is (v.call a).service (Reg m) f)
    by_service a h false f = come_elsewhere v behind c (Reg m) at k a h f
