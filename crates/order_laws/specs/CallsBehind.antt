-- Which calls are behind each stage and each message, by one pass over a history from its first entry on.
use Rattle.std.specs.Prelude.{ℕ, zero, suc, ◌==◌, ◌&&◌, ◌||◌, Bool, false, List}
use Rattle.rss_model.specs.Tokens.{same_token}
use Rattle.rss_model.specs.declared.history.Entry.{Entry}
use Rattle.rss_model.specs.declared.history.Entry.TheVariants.{Begin, End, Give, Get, Over}
use Rattle.rss_model.specs.declared.history.Token.{Token}
use Rattle.rss_model.specs.declared.history.Token.TheVariants.{Spawn, Chunk, Exit}
use Rattle.rss_model.specs.History.{entry_at}
use Rattle.rss_model.specs.Stages.{stage_of}

-- for each stage, and for each message, whether a call is behind it
pub record CallsBehind : Type 0 where
  pub stage : ℕ → ℕ → Bool
  pub message : Token → ℕ → Bool

-- at first no call is behind anything
abbrev pub none_behind : CallsBehind
none_behind = record { stage = λ stage call. false; message = λ token call. false }

-- these calls, too, are behind a stage
abbrev pub with_stage : CallsBehind → ℕ → (ℕ → Bool) → CallsBehind
with_stage behind stage calls =
    record behind { stage = λ other call. behind.stage other call || (stage == other && calls call) }

-- these calls, too, are behind a message
abbrev pub with_message : CallsBehind → Token → (ℕ → Bool) → CallsBehind
with_message behind token calls =
    record behind { message = λ other call. behind.message other call || (same_token token other && calls call) }

-- one more entry of a history: a call that ends is behind its stage, a message takes along what is
-- behind its giver, and brings it to who gets it
abbrev pub behind_after : List Entry → CallsBehind → Entry → CallsBehind
behind_after h behind (Begin call stage op) = behind
behind_after h behind (End call reply) = with_stage behind (stage_of h call) (λ other. call == other)
behind_after h behind (Give giver token) = with_message behind token (behind.stage giver)
behind_after h behind (Get getter token) = with_stage behind getter (behind.message token)
behind_after h behind (Over stage how) = behind

-- which calls are behind what, after this many entries of a history
unfoldable pub calls_behind : List Entry → ℕ → CallsBehind
calls_behind h zero = none_behind
calls_behind h (suc i) = behind_after h (calls_behind h i) (entry_at h i)
