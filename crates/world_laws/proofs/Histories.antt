-- Histories that grow by an entry, and what their words find.
use Rattle.std.proofs.Common.{◌≡◌, ℕ, suc, ◌<◌, ◌⊎◌, Bool, true, false, List, [], ◌∷◌, ◌++◌, length, refl, ap, sym, arith}
use Rattle.std.specs.Prelude.{◌==◌, ◌||◌, if◌then◌else◌}
use Rattle.std.proofs.lemmas.Bool.{true≢false}
use Rattle.rss_model.specs.declared.history.Entry.{Entry}
use Rattle.rss_model.specs.declared.history.Entry.TheVariants.{Begin, End, Give, Get, Over}
use Rattle.rss_model.specs.declared.history.How.TheVariants.{Exited}
use Rattle.rss_model.specs.declared.op.Op.{Op}
use Rattle.rss_model.specs.declared.op.Shown.{Shown}
use Rattle.rss_model.specs.History.{entry_at, begins, ends, has_begun, has_ended, op_of, reply_of}
use Rattle.rss_model.specs.Stages.{stage_of}
use Rattle.world_laws.proofs.Looks.{looks}

-- where an entry of a longer history stands
pub entry_more : (h : List Entry) (e : Entry) (i : ℕ) → ((entry_at (h ++ e ∷ []) i ≡ entry_at h i) × (i < length h)) ⊎ ((entry_at (h ++ e ∷ []) i ≡ e) × (i ≡ length h)) ⊎ ((entry_at (h ++ e ∷ []) i ≡ Over 0 Exited) × (length h < i))
entry_more h e i = grind (arith, looks)

pub has_begun_more : (h : List Entry) (e : Entry) (o : ℕ) → has_begun (h ++ e ∷ []) o ≡ has_begun h o || begins o e
unfolding has_begun
has_begun_more [] e o = by_case (begins o e)
  where
    by_case : (b : Bool) → (b || false) ≡ (false || b)
    by_case true = refl
    by_case false = refl
has_begun_more (x ∷ h) e o = by_case (begins o x) (has_begun_more h e o)
  where
    by_case : (b : Bool) → has_begun (h ++ e ∷ []) o ≡ has_begun h o || begins o e → (b || has_begun (h ++ e ∷ []) o) ≡ ((b || has_begun h o) || begins o e)
    by_case true q = refl
    by_case false q = q

pub has_ended_more : (h : List Entry) (e : Entry) (o : ℕ) → has_ended (h ++ e ∷ []) o ≡ has_ended h o || ends o e
unfolding has_ended
has_ended_more [] e o = by_case (ends o e)
  where
    by_case : (b : Bool) → (b || false) ≡ (false || b)
    by_case true = refl
    by_case false = refl
has_ended_more (x ∷ h) e o = by_case (ends o x) (has_ended_more h e o)
  where
    by_case : (b : Bool) → has_ended (h ++ e ∷ []) o ≡ has_ended h o || ends o e → (b || has_ended (h ++ e ∷ []) o) ≡ ((b || has_ended h o) || ends o e)
    by_case true q = refl
    by_case false q = q

-- the Begin that a history has of a call
pub record BeginIn (h : List Entry) (o stage : ℕ) (x : Op) : Type 0 where
  pub at : ℕ
  pub inside : at < length h
  pub says : entry_at h at ≡ Begin o stage x

pub record EndIn (h : List Entry) (o : ℕ) (reply : List Shown) : Type 0 where
  pub at : ℕ
  pub inside : at < length h
  pub says : entry_at h at ≡ End o reply

begin_later : (h : List Entry) (e : Entry) (o stage : ℕ) (x : Op) → BeginIn h o stage x → BeginIn (e ∷ h) o stage x
begin_later h e o stage x b = record { at = suc b.at; inside = let l = b.inside in omega (arith, l); says = b.says }

end_later : (h : List Entry) (e : Entry) (o : ℕ) (reply : List Shown) → EndIn h o reply → EndIn (e ∷ h) o reply
end_later h e o reply b = record { at = suc b.at; inside = let l = b.inside in omega (arith, l); says = b.says }

same_call : (c o : ℕ) → (c == o) ≡ true → c ≡ o
same_call c o e = grind (arith)

pub begin_in : (h : List Entry) (o : ℕ) → has_begun h o ≡ true → BeginIn h o (stage_of h o) (op_of h o)
unfolding has_begun stage_of op_of
begin_in [] o e = absurd (true≢false (sym e))
begin_in (End c reply ∷ h) o e = begin_later h (End c reply) o (stage_of h o) (op_of h o) (begin_in h o e)
begin_in (Give stage token ∷ h) o e = begin_later h (Give stage token) o (stage_of h o) (op_of h o) (begin_in h o e)
begin_in (Get stage token ∷ h) o e = begin_later h (Get stage token) o (stage_of h o) (op_of h o) (begin_in h o e)
begin_in (Over stage how ∷ h) o e = begin_later h (Over stage how) o (stage_of h o) (op_of h o) (begin_in h o e)
begin_in (Begin c stage x ∷ h) o e = by_call (c == o) refl e (begin_in h o)
  where
    by_call : (b : Bool) → (c == o) ≡ b → (b || has_begun h o) ≡ true → (has_begun h o ≡ true → BeginIn h o (stage_of h o) (op_of h o)) → BeginIn (Begin c stage x ∷ h) o (if b then stage else stage_of h o) (if b then x else op_of h o)
    by_call true q e ih = record { at = 0; inside = omega arith; says = ap (λ (n : ℕ). Begin n stage x) (same_call c o q) }
    by_call false q e ih = begin_later h (Begin c stage x) o (stage_of h o) (op_of h o) (ih e)

pub end_in : (h : List Entry) (o : ℕ) → has_ended h o ≡ true → EndIn h o (reply_of h o)
unfolding has_ended reply_of
end_in [] o e = absurd (true≢false (sym e))
end_in (Begin c stage x ∷ h) o e = end_later h (Begin c stage x) o (reply_of h o) (end_in h o e)
end_in (Give stage token ∷ h) o e = end_later h (Give stage token) o (reply_of h o) (end_in h o e)
end_in (Get stage token ∷ h) o e = end_later h (Get stage token) o (reply_of h o) (end_in h o e)
end_in (Over stage how ∷ h) o e = end_later h (Over stage how) o (reply_of h o) (end_in h o e)
end_in (End c reply ∷ h) o e = by_call (c == o) refl e (end_in h o)
  where
    by_call : (b : Bool) → (c == o) ≡ b → (b || has_ended h o) ≡ true → (has_ended h o ≡ true → EndIn h o (reply_of h o)) → EndIn (End c reply ∷ h) o (if b then reply else reply_of h o)
    by_call true q e ih = record { at = 0; inside = omega arith; says = ap (λ (n : ℕ). End n reply) (same_call c o q) }
    by_call false q e ih = end_later h (End c reply) o (reply_of h o) (ih e)
