use Rattle.std.proofs.Common.{◌≡◌, ℕ, suc, Bool, true, false, List, ◌∷◌, ap, ◌∙◌, arith, refl, None}
use Rattle.rss_names.specs.declared.service.Target.{Target}
use Rattle.rss_wire.specs.declared.message.Fate.{Fate}
use Rattle.rss_wire.specs.declared.message.Fate.TheVariants.{Pending, Delivered, Repeated, Lost}
use Rattle.rss_wire.specs.declared.message.Message.{Message}
use Rattle.rss_wire.specs.Messages.{message_at, no_message, is_sent, meets, is_pending, count_requests, pending_count}
use Rattle.rss_wire.specs.Net.{deliver_refusal, again_refusal, fate_refusal, repeat_refusal}
use Rattle.rss_wire.proofs.Counts.{count_requests-set, pending_count-set, pending_count-keeps}

-- what can be delivered or lost is pending
pub fate_refusal-none : (f : Fate) → fate_refusal f ≡ None → is_pending f ≡ true
fate_refusal-none Pending h = refl
fate_refusal-none Delivered h = cc
fate_refusal-none Repeated h = cc
fate_refusal-none Lost h = cc

-- what can be repeated is not
pub repeat_refusal-none : (f : Fate) → repeat_refusal f ≡ None → is_pending f ≡ false
repeat_refusal-none Pending h = cc
repeat_refusal-none Delivered h = refl
repeat_refusal-none Repeated h = refl
repeat_refusal-none Lost h = refl

pub deliver_refusal-none : (net : List Message) (m : ℕ) → deliver_refusal net m ≡ None → is_pending (message_at net m).fate ≡ true
deliver_refusal-none net m h = go (is_sent net m) refl
  where
    go : (b : Bool) → is_sent net m ≡ b → is_pending (message_at net m).fate ≡ true
    go true e = grind (arith, e, h, fate_refusal-none (message_at net m).fate)
    go false e = grind (arith, e, h)

pub again_refusal-none : (net : List Message) (m : ℕ) → again_refusal net m ≡ None → is_pending (message_at net m).fate ≡ false
again_refusal-none net m h = go (is_sent net m) refl
  where
    go : (b : Bool) → is_sent net m ≡ b → is_pending (message_at net m).fate ≡ false
    go true e = grind (arith, e, h, repeat_refusal-none (message_at net m).fate)
    go false e = grind (arith, e, h)

-- a fate changes no ordinal
pub count_requests-meets : (old new : List Message) (m : ℕ) (f : Fate) → no_message ∷ new ≡ meets (no_message ∷ old) m f → (s : ℕ) (t : Target) → count_requests s t new ≡ count_requests s t old
count_requests-meets old new m f e s t =
    ap (count_requests s t) e ∙ count_requests-set s t (no_message ∷ old) m (record (message_at (no_message ∷ old) m) { fate = f }) no_message refl

-- a pending message that meets a fate is no longer counted
pub pending_count-meets : (old new : List Message) (m : ℕ) (f : Fate) → no_message ∷ new ≡ meets (no_message ∷ old) m f → deliver_refusal (no_message ∷ old) m ≡ None → is_pending f ≡ false → suc (pending_count new) ≡ pending_count old
pending_count-meets old new m f e h p =
    ap (λ net. suc (pending_count net)) e
    ∙ pending_count-set (no_message ∷ old) m (record (message_at (no_message ∷ old) m) { fate = f }) no_message (deliver_refusal-none (no_message ∷ old) m h) refl p

-- a message that is repeated was not counted
pub pending_count-repeats : (old new : List Message) (m : ℕ) (f : Fate) → no_message ∷ new ≡ meets (no_message ∷ old) m f → again_refusal (no_message ∷ old) m ≡ None → is_pending f ≡ false → pending_count new ≡ pending_count old
pending_count-repeats old new m f e h p =
    ap pending_count e
    ∙ pending_count-keeps (no_message ∷ old) m (record (message_at (no_message ∷ old) m) { fate = f }) no_message (again_refusal-none (no_message ∷ old) m h) p
