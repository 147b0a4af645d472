use Rattle.std.proofs.Common.{◌≡◌, ℕ, suc, zero, ◌+◌, ◌-◌, ◌≤◌, true, false, List, [], ◌∷◌, ◌++◌, length, if◌then◌else◌, arith, refl}
use Rattle.std.specs.Prelude.{get_or, set}
use Rattle.rss_names.specs.declared.service.Target.{Target}
use Rattle.rss_wire.specs.declared.message.Message.{Message}
use Rattle.rss_wire.specs.Messages.{count_requests, pending_count, is_request_to, is_pending}

pub count_requests-append : (s : ℕ) (t : Target) (ms : List Message) (m : Message) → count_requests s t (ms ++ m ∷ []) ≡ count_requests s t ms + (if is_request_to s t m.envelope then 1 else 0)
count_requests-append s t [] m = grind (arith)
count_requests-append s t (x ∷ ms) m = grind (arith, count_requests-append s t ms m)

pub count_requests-le : (s : ℕ) (t : Target) (ms : List Message) → count_requests s t ms ≤ length ms
count_requests-le s t [] = omega arith
count_requests-le s t (x ∷ ms) = grind (arith, count_requests-le s t ms)

pub pending_count-append : (ms : List Message) (m : Message) → pending_count (ms ++ m ∷ []) ≡ pending_count ms + (if is_pending m.fate then 1 else 0)
pending_count-append [] m = grind (arith)
pending_count-append (x ∷ ms) m = grind (arith, pending_count-append ms m)

pub pending_count-le : (ms : List Message) → pending_count ms ≤ length ms
pending_count-le [] = omega arith
pending_count-le (x ∷ ms) = grind (arith, pending_count-le ms)

-- a message's fate is not counted
pub count_requests-set : (s : ℕ) (t : Target) (ms : List Message) (i : ℕ) (m d : Message) → m.envelope ≡ (get_or ms i d).envelope → count_requests s t (set ms i m) ≡ count_requests s t ms
count_requests-set s t [] i m d e = refl
count_requests-set s t (x ∷ ms) zero m d e = grind (arith, e)
count_requests-set s t (x ∷ ms) (suc i) m d e = grind (arith, count_requests-set s t ms i m d e)

-- a message that is no longer pending
pub pending_count-set : (ms : List Message) (i : ℕ) (m d : Message) → is_pending (get_or ms i d).fate ≡ true → is_pending d.fate ≡ false → is_pending m.fate ≡ false → suc (pending_count (set ms i m)) ≡ pending_count ms
pending_count-set [] i m d p q e = grind (arith, p, q)
pending_count-set (x ∷ ms) zero m d p q e = grind (arith, p, e)
pending_count-set (x ∷ ms) (suc i) m d p q e = grind (arith, pending_count-set ms i m d p q e)

-- a message that was not pending and is not
pub pending_count-keeps : (ms : List Message) (i : ℕ) (m d : Message) → is_pending (get_or ms i d).fate ≡ false → is_pending m.fate ≡ false → pending_count (set ms i m) ≡ pending_count ms
pending_count-keeps [] i m d p e = refl
pending_count-keeps (x ∷ ms) zero m d p e = grind (arith, p, e)
pending_count-keeps (x ∷ ms) (suc i) m d p e = grind (arith, pending_count-keeps ms i m d p e)

pub set-cons : {X : Type 0} (x : X) (xs : List X) (n : ℕ) (y : X) → 1 ≤ n → set (x ∷ xs) n y ≡ x ∷ set xs (n - 1) y
set-cons x xs zero y h = grind (arith, h)
set-cons x xs (suc n) y h = grind arith

pub get_or-cons : {X : Type 0} (x : X) (xs : List X) (n : ℕ) (d : X) → 1 ≤ n → get_or (x ∷ xs) n d ≡ get_or xs (n - 1) d
get_or-cons x xs zero d h = grind (arith, h)
get_or-cons x xs (suc n) d h = grind arith
