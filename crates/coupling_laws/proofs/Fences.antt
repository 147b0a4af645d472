-- Contexts of which services are fenced and entered cover the calls behind them, and what a call finds when it is launched.
use Rattle.std.proofs.Common.{◌≡◌, ℕ, ◌≤◌, ◌⊎◌, inl, inr, Bool, true, false, [], ◌∷◌, All, arith, refl, sym, ap, ◌∙◌, subst}
use Rattle.std.proofs.lemmas.Bool.{true≢false}
use Rattle.std.proofs.lemmas.List.Elements.{All-nil, All-filter}
use Rattle.rss_names.specs.declared.service.ServiceId.{ServiceId}
use Rattle.rss_names.specs.declared.service.ServiceId.TheVariants.{Txn, Reg}
use Rattle.rss_names.specs.Services.{same_service}
use Rattle.causal_context.specs.Services.{IsService, has_service, without_service}
use Rattle.causal_context.specs.LastView.{nothing_last, last_alone, last_fenced, outside_alone}
use Rattle.causal_context.specs.LeastTimes.{least_of, least_raised}
use Rattle.causal_context.specs.Deps.{deps_of, deps_fenced}
use Rattle.causal_context.specs.Seen.{Seen, after_fence, fenced_outside, entered}
use Rattle.causal_context.proofs.SameServices.{same_itself, same_is}
use Rattle.causal_context.proofs.Looked.{least_raised_holds, least_raised_reaches, has_others, none_elsewhere}
use Rattle.causal_context.proofs.SeenKept.{fence_seen, outside_seen, entered_seen}
use Rattle.coupling_laws.specs.Calls.{View, IsView}
use Rattle.coupling_laws.specs.Covers.{holds, IsValid, Covers, IsAt, NoOther}
use Rattle.coupling_laws.proofs.Held.{none_of_fewer, holds_elsewhere}
use Rattle.coupling_laws.proofs.Used.{not_one, one_not, not_true, alone_is_something, alone_once, outside_not}
use Rattle.coupling_laws.proofs.Places.{second_leads}
use Rattle.coupling_laws.proofs.Ends.{come_elsewhere, come_at_registers}

-- a fence of a service ends: each call of it has come
module _ (v : View) (behind : ℕ → Bool) (c : Seen) (id : ServiceId) (i : IsView v) (k : Covers v behind c) (z : (a : ℕ) → behind a ≡ true → (v.call a).service ≡ id → v.come a ≡ true) where
  -- a dependency on the register of a call of another service stays
  kept_dep : (a n : ℕ) (other : ServiceId) → behind a ≡ true → (v.call a).service ≡ Reg n → same_service other (Reg n) ≡ false → holds c.deps (v.call a) ≡ true → holds (deps_fenced other c.deps) (v.call a) ≡ true
  kept_dep a n (Txn m) h s f p = p
  kept_dep a n (Reg m) h s f p =
      holds_elsewhere (Reg m) (v.call a) c.deps
      (λ j d l q. ap (same_service (Reg m)) ((k.valid j d l).1 ∙ ap v.home q ∙ i.at_home a n (k.ended a h) s) ∙ f) p

  fence_dep : (a n : ℕ) → behind a ≡ true → (v.call a).service ≡ Reg n → (b : Bool) → same_service id (Reg n) ≡ b → (v.come a ≡ true) ⊎ (holds (deps_fenced id c.deps) (v.call a) ≡ true)
  fence_dep a n h s true f = inl (z a h (s ∙ sym (same_is id (Reg n) f)))
  fence_dep a n h s false f = second_leads (kept_dep a n id h s f) (k.dep a n h s)

  fence_out : (a : ℕ) → behind a ≡ true → has_service (without_service id c.last.services) (v.call a).service ≡ false → (b : Bool) → same_service (v.call a).service id ≡ b → v.come a ≡ true
  fence_out a h f true g = z a h (same_is (v.call a).service id g)
  fence_out a h f false g = k.out a h (sym (has_others id (v.call a).service c.last.services g) ∙ f)

  fence_out_deps : (n : ℕ) → has_service (without_service id c.last.services) (Reg n) ≡ false → (b : Bool) → same_service (Reg n) id ≡ b → deps_of (Reg n) (deps_fenced id c.deps) ≡ []
  fence_out_deps n f true g = subst (λ x. deps_of (Reg n) (deps_fenced x c.deps) ≡ []) (same_is (Reg n) id g) (none_elsewhere (Reg n) c.deps)
  fence_out_deps n f false g = none_of_fewer (Reg n) id c.deps (k.out_deps n (sym (has_others id (Reg n) c.last.services g) ∙ f))

  fewer_valid : (other : ServiceId) → All (IsValid v) (deps_fenced other c.deps)
  fewer_valid (Txn m) = k.valid
  fewer_valid (Reg m) = All-filter _ (IsValid v) c.deps k.valid

  pub fence_ends : Covers v behind (after_fence c id)
  fence_ends = record {
    ended = k.ended;
    least = k.least;
    dep = λ a n h s. fence_dep a n h s (same_service id (Reg n)) refl;
    out = λ a h f. fence_out a h f (same_service (v.call a).service id) refl;
    out_deps = λ n f. fence_out_deps n f (same_service (Reg n) id) refl;
    alone = λ a n h q f. absurd (outside_not (last_fenced id c.last) refl (last_alone (Txn n)) refl q);
    empty = λ q. absurd (outside_not (last_fenced id c.last) refl nothing_last refl q);
    valid = fewer_valid id;
    orders = fence_seen c id k.orders;
  }

-- every service was fenced: each call has come
pub outside_fenced : (v : View) (behind : ℕ → Bool) (c : Seen) → Covers v behind c → ((a : ℕ) → behind a ≡ true → v.come a ≡ true) → Covers v behind (fenced_outside c)
outside_fenced v behind c k z = record {
  ended = k.ended;
  least = k.least;
  dep = λ a n h s. inl (z a h);
  out = λ a h f. z a h;
  out_deps = λ n f. refl;
  alone = λ a n h q f. absurd (outside_not outside_alone refl (last_alone (Txn n)) refl q);
  empty = λ q. absurd (outside_not outside_alone refl nothing_last refl q);
  valid = All-nil (IsValid v);
  orders = outside_seen c k.orders;
}

-- where no service was used last each call has come
pub none_last : (v : View) (behind : ℕ → Bool) (c : Seen) → Covers v behind c → c.last.services ≡ [] → (a : ℕ) → behind a ≡ true → v.come a ≡ true
none_last v behind c k e a h = k.out a h (ap (λ x. has_service x (v.call a).service) e)

-- a service is entered of which alone the services used last may be
module _ (v : View) (behind : ℕ → Bool) (c : Seen) (id : ServiceId) (latest : ℕ) (k : Covers v behind c) (o : IsService id) (p : NoOther c id) where
  not_used : (other : ServiceId) → has_service (id ∷ []) other ≡ false → has_service c.last.services other ≡ false
  not_used other f = not_true (has_service c.last.services other) (λ h. true≢false (sym (same_itself id) ∙ ap (λ x. same_service x id) (sym (p other h)) ∙ not_one id other f))

  pub entered_covers : ((a n : ℕ) → behind a ≡ true → id ≡ Txn n → v.come a ≡ true → v.before a (least_of (entered c id latest).least (Txn n)) ≡ true) → Covers v behind (entered c id latest)
  entered_covers z = record {
    ended = k.ended;
    least = λ a n h s. let q = k.least a n h s in let r = least_raised_holds id latest c.least (Txn n) in omega (arith, q, r);
    dep = k.dep;
    out = λ a h f. k.out a h (not_used (v.call a).service f);
    out_deps = λ n f. k.out_deps n (not_used (Reg n) f);
    alone = λ a n h q f. let e = alone_once id (Txn n) q in z a n h e (k.out a h (not_used (v.call a).service (subst (λ x. has_service (x ∷ []) (v.call a).service ≡ false) (sym e) (one_not (Txn n) (v.call a).service f))));
    empty = λ q. absurd (alone_is_something id q);
    valid = k.valid;
    orders = entered_seen c id latest k.orders o;
  }

-- a transaction service is entered at a moment that is not below the true one: each call that has come comes before it
pub txn_entered : (v : View) (behind : ℕ → Bool) (c : Seen) (m latest : ℕ) → IsView v → Covers v behind c → IsService (Txn m) → NoOther c (Txn m)
    → ((a : ℕ) → behind a ≡ true → v.come a ≡ true → v.before a latest ≡ true) → Covers v behind (entered c (Txn m) latest)
txn_entered v behind c m latest i k o p z = entered_covers v behind c (Txn m) latest k o p
    (λ a n h e y. subst (λ x. v.before a (least_of (least_raised (Txn m) latest c.least) x) ≡ true) e
    (i.rises a latest (least_of (least_raised (Txn m) latest c.least) (Txn m)) (least_raised_reaches m latest c.least) (z a h y)))

-- a register service is entered
pub reg_entered : (v : View) (behind : ℕ → Bool) (c : Seen) (m latest : ℕ) → Covers v behind c → IsService (Reg m) → NoOther c (Reg m) → Covers v behind (entered c (Reg m) latest)
reg_entered v behind c m latest k o p = entered_covers v behind c (Reg m) latest k o p (λ a n h e y. absurd (true≢false (sym (same_itself (Reg m)) ∙ ap (same_service (Reg m)) e)))

-- a call of a transaction service is launched: each call behind it is of its service with a time at most the least, or comes before the least
pub launched_same : (v : View) (behind : ℕ → Bool) (c : Seen) (m : ℕ) → Covers v behind c → (a : ℕ) → behind a ≡ true → (v.call a).service ≡ Txn m → (v.call a).time ≤ least_of c.least (Txn m)
launched_same v behind c m k a h s = k.least a m h s

pub launched_other : (v : View) (behind : ℕ → Bool) (c : Seen) (m : ℕ) → Covers v behind c → IsAt c (Txn m) → (a : ℕ) → behind a ≡ true → same_service (v.call a).service (Txn m) ≡ false → v.before a (least_of c.least (Txn m)) ≡ true
launched_other v behind c m k (inl q) a h f = k.alone a m h q f
launched_other v behind c m k (inr q) a h f = absurd (true≢false (sym h ∙ (k.empty (ap (λ (x : Seen). x.last) q)).1 a))

-- a call of a register service is launched: each call behind it has come
pub launched_register : (v : View) (behind : ℕ → Bool) (c : Seen) (m : ℕ) → Covers v behind c → IsAt c (Reg m) → c.deps ≡ [] → (a : ℕ) → behind a ≡ true → v.come a ≡ true
launched_register v behind c m k at d a h = by_service (same_service (v.call a).service (Reg m)) refl
  where
    by_service : (b : Bool) → same_service (v.call a).service (Reg m) ≡ b → v.come a ≡ true
    by_service true f = come_at_registers v behind c d k a m h (same_is (v.call a).service (Reg m) f)
    by_service false f = come_elsewhere v behind c (Reg m) at k a h f
