-- Facts on paths of messages and on the closure of the generating pairs.
use Rattle.std.proofs.Common.{ℕ, ◌≤◌, List, arith}
use Rattle.rss_model.specs.declared.history.Entry.{Entry}
use Rattle.rss_model.specs.Causality.{Path, here, along, carried, Generates, CausallyBefore, at_once, further}

-- a path never leads back
pub path_forward : (h : List Entry) (i j : ℕ) → Path h i j → i ≤ j
path_forward h i j here = omega arith
path_forward h i j (along {k = k} p l s) = let f = path_forward h i k p in omega (arith, f, l)
path_forward h i j (carried {k = k} p l s t) = let f = path_forward h i k p in omega (arith, f, l)

-- paths that meet are one path
pub path_joined : (h : List Entry) (i k j : ℕ) → Path h i k → Path h k j → Path h i j
path_joined h i k j p here = p
path_joined h i k j p (along {k = m} q l s) = along (path_joined h i k m p q) l s
path_joined h i k j p (carried {k = m} q l s t) = carried (path_joined h i k m p q) l s t

-- a relation that goes on over the generating pairs holds of the closure
pub closure_within : (h : List Entry) (R : ℕ → ℕ → Type 0) → ((a b : ℕ) → Generates h a b → R a b) →
    ((a b c : ℕ) → R a b → Generates h b c → R a c) → (a b : ℕ) → CausallyBefore h a b → R a b
closure_within h R one more a b (at_once g) = one a b g
closure_within h R one more a b (further {b = m} c g) =
    more a m b (closure_within h R one more a m c) g
