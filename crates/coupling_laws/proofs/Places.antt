-- Contexts that begin, lie, are copied and are joined cover the calls behind them.
use Rattle.std.proofs.Common.{◌≡◌, ℕ, ◌≤◌, ◌⊎◌, inl, inr, Bool, true, false, ◌||◌, [], arith, refl, sym, ap, ◌∙◌, subst}
use Rattle.std.proofs.lemmas.Bool.{true≢false, false≢true}
use Rattle.std.proofs.lemmas.List.Elements.{All-nil}
use Rattle.rss_names.specs.declared.service.ServiceId.TheVariants.{Txn, Reg}
use Rattle.rss_names.specs.Services.{same_service}
use Rattle.causal_context.specs.Services.{has_service}
use Rattle.causal_context.specs.LastView.{nothing_last, last_alone, last_joined}
use Rattle.causal_context.specs.LeastTimes.{least_of}
use Rattle.causal_context.specs.Deps.{deps_of}
use Rattle.causal_context.specs.Seen.{Seen, nothing_seen, context_joined}
use Rattle.causal_context.proofs.Looked.{least_joined_first, least_joined_second, has_joined}
use Rattle.causal_context.proofs.SeenJoins.{joined_is_seen, nothing_is_seen}
use Rattle.coupling_laws.specs.Calls.{EndedCall, View, IsView, Grows, nobody, either}
use Rattle.coupling_laws.specs.Covers.{holds, IsValid, Covers}
use Rattle.coupling_laws.proofs.Held.{all_joined, none_joined, holds_first, holds_second}
use Rattle.coupling_laws.proofs.Used.{one_of, none_first, none_second, not_true, joined_alone_first, joined_alone_second, joined_nothing_first, joined_nothing_second}

-- a context that begins covers no call
pub begins : (v : View) → Covers v nobody nothing_seen
begins v = record {
  ended = λ a h. absurd (false≢true h);
  least = λ a n h s. absurd (false≢true h);
  dep = λ a n h s. absurd (false≢true h);
  out = λ a h f. absurd (false≢true h);
  out_deps = λ n f. refl;
  alone = λ a n h l f. absurd (false≢true h);
  empty = λ l. (refl, λ a. refl);
  valid = All-nil (IsValid v);
  orders = nothing_is_seen;
}

-- of two facts of which one holds, where the first leads to a third
pub first_leads : {A B C : Type 0} → (A → C) → A ⊎ B → C ⊎ B
first_leads f (inl a) = inl (f a)
first_leads f (inr b) = inr b

pub second_leads : {A B C : Type 0} → (B → C) → A ⊎ B → A ⊎ C
second_leads f (inl a) = inl a
second_leads f (inr b) = inr (f b)

-- a later view keeps what a context covers
pub grows : (v w : View) (behind : ℕ → Bool) (c : Seen) → Grows v w → Covers v behind c → Covers w behind c
grows v w behind c g k = record {
  ended = λ a h. g.ended a (k.ended a h);
  least = λ a n h. subst (λ (x : EndedCall). x.service ≡ Txn n → x.time ≤ least_of c.least (Txn n)) (sym (g.call a (k.ended a h))) (k.least a n h);
  dep = λ a n h. subst (λ (x : EndedCall). x.service ≡ Reg n → (w.come a ≡ true) ⊎ (holds c.deps x ≡ true)) (sym (g.call a (k.ended a h))) (λ s. first_leads (g.come a (k.ended a h)) (k.dep a n h s));
  out = λ a h. subst (λ (x : EndedCall). has_service c.last.services x.service ≡ false → w.come a ≡ true) (sym (g.call a (k.ended a h))) (λ f. g.come a (k.ended a h) (k.out a h f));
  out_deps = k.out_deps;
  alone = λ a n h l. subst (λ (x : EndedCall). same_service x.service (Txn n) ≡ false → w.before a (least_of c.least (Txn n)) ≡ true) (sym (g.call a (k.ended a h))) (λ f. g.before a (least_of c.least (Txn n)) (k.ended a h) (k.alone a n h l f));
  empty = k.empty;
  valid = λ i d l. (g.sound _ (k.valid i d l).0, (k.valid i d l).1 ∙ sym (g.home _));
  orders = k.orders;
}

-- where a context covers calls it covers fewer of them
pub fewer : (v : View) (behind calls : ℕ → Bool) (c : Seen) → ((a : ℕ) → calls a ≡ true → behind a ≡ true) → Covers v behind c → Covers v calls c
fewer v behind calls c p k = record {
  ended = λ a h. k.ended a (p a h);
  least = λ a n h. k.least a n (p a h);
  dep = λ a n h. k.dep a n (p a h);
  out = λ a h. k.out a (p a h);
  out_deps = k.out_deps;
  alone = λ a n h. k.alone a n (p a h);
  empty = λ l. ((k.empty l).0, λ a. not_true (calls a) (λ h. true≢false (sym (p a h) ∙ (k.empty l).1 a)));
  valid = k.valid;
  orders = k.orders;
}

-- two contexts joined cover the calls behind both
module _ (v : View) (behind calls : ℕ → Bool) (c d : Seen) (i : IsView v) (k : Covers v behind c) (m : Covers v calls d) where
  joined_least : (a n : ℕ) → (behind a ≡ true) ⊎ (calls a ≡ true) → (v.call a).service ≡ Txn n → (v.call a).time ≤ least_of (context_joined c d).least (Txn n)
  joined_least a n (inl h) s = let p = k.least a n h s in let q = least_joined_first c.least d.least (Txn n) in omega (arith, p, q)
  joined_least a n (inr h) s = let p = m.least a n h s in let q = least_joined_second c.least d.least n in omega (arith, p, q)

  joined_dep : (a n : ℕ) → (behind a ≡ true) ⊎ (calls a ≡ true) → (v.call a).service ≡ Reg n → (v.come a ≡ true) ⊎ (holds (context_joined c d).deps (v.call a) ≡ true)
  joined_dep a n (inl h) s = second_leads (holds_first (v.call a) c.deps d.deps) (k.dep a n h s)
  joined_dep a n (inr h) s = second_leads (holds_second (v.call a) c.deps d.deps) (m.dep a n h s)

  joined_out : (a : ℕ) → (behind a ≡ true) ⊎ (calls a ≡ true) → has_service (context_joined c d).last.services (v.call a).service ≡ false → v.come a ≡ true
  joined_out a (inl h) f = k.out a h (none_first (has_service c.last.services (v.call a).service) (has_service d.last.services (v.call a).service) (sym (has_joined c.last.services d.last.services (v.call a).service) ∙ f))
  joined_out a (inr h) f = m.out a h (none_second (has_service c.last.services (v.call a).service) (has_service d.last.services (v.call a).service) (sym (has_joined c.last.services d.last.services (v.call a).service) ∙ f))

  joined_out_deps : (n : ℕ) → has_service (context_joined c d).last.services (Reg n) ≡ false → deps_of (Reg n) (context_joined c d).deps ≡ []
  joined_out_deps n f =
      let e = sym (has_joined c.last.services d.last.services (Reg n)) ∙ f in
      none_joined (Reg n) c.deps d.deps
      (k.out_deps n (none_first (has_service c.last.services (Reg n)) (has_service d.last.services (Reg n)) e))
      (m.out_deps n (none_second (has_service c.last.services (Reg n)) (has_service d.last.services (Reg n)) e))

  joined_alone : (a n : ℕ) → (behind a ≡ true) ⊎ (calls a ≡ true) → last_joined c.last d.last ≡ last_alone (Txn n) → same_service (v.call a).service (Txn n) ≡ false → v.before a (least_of (context_joined c d).least (Txn n)) ≡ true
  joined_alone a n (inl h) l f = by_last (joined_alone_first c.last d.last (Txn n) k.orders.last l)
    where
      by_last : (c.last ≡ last_alone (Txn n)) ⊎ (c.last ≡ nothing_last) → v.before a (least_of (context_joined c d).least (Txn n)) ≡ true
      by_last (inl e) = i.rises a (least_of c.least (Txn n)) (least_of (context_joined c d).least (Txn n)) (least_joined_first c.least d.least (Txn n)) (k.alone a n h e f)
      by_last (inr e) = absurd (true≢false (sym h ∙ (k.empty e).1 a))
  joined_alone a n (inr h) l f = by_last (joined_alone_second c.last d.last (Txn n) m.orders.last l)
    where
      by_last : (d.last ≡ last_alone (Txn n)) ⊎ (d.last ≡ nothing_last) → v.before a (least_of (context_joined c d).least (Txn n)) ≡ true
      by_last (inl e) = i.rises a (least_of d.least (Txn n)) (least_of (context_joined c d).least (Txn n)) (least_joined_second c.least d.least n) (m.alone a n h e f)
      by_last (inr e) = absurd (true≢false (sym h ∙ (m.empty e).1 a))

  joined_empty : last_joined c.last d.last ≡ nothing_last → (context_joined c d ≡ nothing_seen) × ((a : ℕ) → either behind calls a ≡ false)
  joined_empty l =
      let e = k.empty (joined_nothing_first c.last d.last l) in
      let f = m.empty (joined_nothing_second c.last d.last l) in (
        ap (λ x. context_joined x d) e.0 ∙ ap (context_joined nothing_seen) f.0,
        λ a. ap (λ x. x || calls a) (e.1 a) ∙ f.1 a,
      )

  pub joined : Covers v (either behind calls) (context_joined c d)
  joined = record {
    ended = λ a h. by_one a (one_of (behind a) (calls a) h);
    least = λ a n h. joined_least a n (one_of (behind a) (calls a) h);
    dep = λ a n h. joined_dep a n (one_of (behind a) (calls a) h);
    out = λ a h. joined_out a (one_of (behind a) (calls a) h);
    out_deps = joined_out_deps;
    alone = λ a n h. joined_alone a n (one_of (behind a) (calls a) h);
    empty = joined_empty;
    valid = all_joined (IsValid v) c.deps d.deps k.valid m.valid;
    orders = joined_is_seen c d k.orders m.orders;
  }
    where
      by_one : (a : ℕ) → (behind a ≡ true) ⊎ (calls a ≡ true) → v.ended a ≡ true
      by_one a (inl h) = k.ended a h
      by_one a (inr h) = m.ended a h

-- an equal context covers the same
pub copied : (v : View) (behind : ℕ → Bool) (c copy : Seen) → copy ≡ c → Covers v behind c → Covers v behind copy
copied v behind c copy e k = subst (Covers v behind) (sym e) k
