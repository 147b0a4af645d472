-- What the sample script does not give: an exit before its put.
use Rattle.std.proofs.Common.{◌≡◌, ℕ, ◌∙◌, sym, arith, refl, subst, ap}
use Rattle.rss_model.specs.declared.history.Entry.{Entry}
use Rattle.rss_model.specs.declared.history.Entry.TheVariants.{Over}
use Rattle.rss_model.specs.declared.history.How.TheVariants.{Exited}
use Rattle.rss_model.specs.History.{entry_at}
use Rattle.rss_model.specs.Walk.{Walk, first_walk}
use Rattle.rss_model.specs.Walked.{Silent, local, fence, take_nothing, wait_in_vain, Makes, birth, begin_call, end_call, spawn, put, close, wait, exit, death, last_give, Walked, starts, passes, silently, makes, takes}
use Rattle.rss_model.specs.ScriptRun.{ScriptRun}
use Rattle.rss_model.specs.PipeSample.{two_stages, put_skipped}

-- nothing is silent before the put
not_silent : (w v : Walk) → w ≡ first_walk two_stages 1 → Silent two_stages put_skipped 1 w v → ⊥
not_silent w v e (local n l) = absurd (grind (arith, e, n, n.statement, l))
not_silent w v e (fence n) = absurd (grind (arith, e, n.statement))
not_silent w v e (take_nothing n c) = absurd (grind (arith, e, n.statement))
not_silent w v e (wait_in_vain n d) = absurd (grind (arith, e, n.statement))

-- the exit does not come first
not_made : (w v : Walk) (x : Entry) → w ≡ first_walk two_stages 1 → x ≡ Over 1 Exited →
    Makes two_stages put_skipped 1 0 x w v → ⊥
not_made w v x e o (birth m g) = absurd (grind (arith, o))
not_made w v x e o (begin_call n p) = absurd (grind (arith, o))
not_made w v x e o (end_call m) = absurd (grind (arith, o))
not_made w v x e o (spawn n) = absurd (grind (arith, o))
not_made w v x e o (put n) = absurd (grind (arith, o))
not_made w v x e o (close n) = absurd (grind (arith, o))
not_made w v x e o (wait n g) = absurd (grind (arith, o))
not_made w v x e o (exit n) = absurd (grind (arith, e, n.statement))
not_made w v x e o (death a d) = absurd (grind (arith, o, d))
not_made w v x e o (last_give m) = absurd (grind (arith, o))

-- so the walk stays at the beginning, and does not come past the exit
pub record Stays (n : ℕ) (w : Walk) : Type 0 where
  pub first : n ≡ 0 → w ≡ first_walk two_stages 1
  pub last : n ≡ 1 → ⊥

stays : (stage n : ℕ) (w : Walk) → Walked two_stages put_skipped stage n w → stage ≡ 1 → Stays n w
stays stage n w starts s =
    let same : ℕ → Type 0 = λ t. first_walk two_stages t ≡ first_walk two_stages 1 in
    record { first = λ z. subst same (sym s) refl; last = λ o. omega (arith, o) }
stays stage n w (passes {n = m} p o) s =
    record { first = λ z. absurd (omega (arith, z)); last = λ l. absurd (grind (arith, l, o, s)) }
stays stage n w (silently {w = u} p q) s =
    let before = stays stage n u p s in
    let r : Silent two_stages put_skipped 1 u w =
    subst (λ t. Silent two_stages put_skipped t u w) s q in
    record { first = λ z. absurd (not_silent u w (before.first z) r); last = before.last }
stays stage n w (makes {n = m} {w = u} {e = x} p e q) s =
    let before = stays stage m u p s in
    record {
      first = λ z. absurd (omega (arith, z));
      last = λ l.
          let z : m ≡ 0 = omega (arith, l) in
          let o : x ≡ Over 1 Exited = sym e ∙ ap (entry_at put_skipped) z in
          let r : Makes two_stages put_skipped 1 m x u w =
          subst (λ t. Makes two_stages put_skipped t m x u w) s q in
          let r' : Makes two_stages put_skipped 1 0 x u w =
          subst (λ k. Makes two_stages put_skipped 1 k x u w) z r in
          not_made u w x (before.first z) o r';
    }
stays stage n w (takes {n = m} p e l g q t) s =
    record { first = λ z. absurd (omega (arith, z)); last = λ o. absurd (grind (arith, o, e)) }

pub not_run : ¬ ScriptRun two_stages put_skipped 1
not_run r = (stays 1 1 r.walk r.walked refl).last refl
