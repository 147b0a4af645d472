-- Potential causality: the order of messages, and what was read from whom.
use Rattle.std.specs.Prelude.{◌≡◌, ℕ, ◌<◌, ◌⊎◌, List, Any}
use Rattle.rss_model.specs.declared.op.Shown.{Shown}
use Rattle.rss_model.specs.declared.history.Entry.{Entry}
use Rattle.rss_model.specs.declared.history.Entry.TheVariants.{Give, Get}
use Rattle.rss_model.specs.declared.history.Token.{Token}
use Rattle.rss_model.specs.History.{entry_at, reply_of, BeginsAt, EndsAt}
use Rattle.rss_model.specs.Stages.{stage_at}

-- a path leads on: along the entries of one stage, and from a Give to a later Get of the token
pub data Path (h : List Entry) (i : ℕ) : ℕ → Type 0 where
  here : Path h i i
  along : {k j : ℕ} → Path h i k → k < j → stage_at h k ≡ stage_at h j → Path h i j
  carried : {k j giver getter : ℕ} {token : Token} → Path h i k → k < j →
      entry_at h k ≡ Give giver token → entry_at h j ≡ Get getter token → Path h i j

-- a is before b by messages: a path leads from the End of a to the Begin of b
abbrev pub BeforeByMessages : List Entry → ℕ → ℕ → Type 0
BeforeByMessages h a b = (i : ℕ) × (j : ℕ) × EndsAt h a i × BeginsAt h b j × Path h i j

-- b reads from a: the reply of b names a as a writer; writer 0 is no call
abbrev pub ReadsFrom : List Entry → ℕ → ℕ → Type 0
ReadsFrom h b a = (0 < a) × Any (λ (shown : Shown). shown.writer ≡ a) (reply_of h b)

-- the pairs that generate potential causality
abbrev pub Generates : List Entry → ℕ → ℕ → Type 0
Generates h a b = BeforeByMessages h a b ⊎ ReadsFrom h b a

-- a is potentially causally before b: the transitive closure of the generating pairs
pub data CausallyBefore (h : List Entry) (a : ℕ) : ℕ → Type 0 where
  at_once : {b : ℕ} → Generates h a b → CausallyBefore h a b
  further : {b c : ℕ} → CausallyBefore h a b → Generates h b c → CausallyBefore h a c
