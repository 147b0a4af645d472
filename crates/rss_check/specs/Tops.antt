-- The greatest place behind each stage and each message, by one pass over a history.
use Rattle.std.specs.Prelude.{ℕ, zero, suc, ◌≡◌, ◌≤◌, ◌⊎◌, ◌==◌, max, Bool, true, List, if◌then◌else◌}
use Rattle.rss_model.specs.declared.history.Entry.{Entry}
use Rattle.rss_model.specs.declared.history.Entry.TheVariants.{Begin, End, Give, Get, Over}
use Rattle.rss_model.specs.declared.history.Token.{Token}
use Rattle.rss_model.specs.History.{entry_at}
use Rattle.rss_model.specs.Stages.{stage_of}
use Rattle.rss_model.specs.Tokens.{same_token}

-- for each stage and each message, the greatest place behind it; 0 where none is
pub record Tops : Type 0 where
  pub stage : ℕ → ℕ
  pub message : Token → ℕ

abbrev pub no_tops : Tops
no_tops = record { stage = λ s. 0; message = λ t. 0 }

-- this place, too, is behind a stage
abbrev pub with_stage_top : Tops → ℕ → ℕ → Tops
with_stage_top tops stage place =
    record tops { stage = λ other. max (tops.stage other) (if stage == other then place else 0) }

-- this place, too, is behind a message
abbrev pub with_message_top : Tops → Token → ℕ → Tops
with_message_top tops token place =
    record tops { message = λ other. max (tops.message other) (if same_token token other then place else 0) }

-- one more entry of a history
abbrev pub top_after : List Entry → (ℕ → ℕ) → Tops → Entry → Tops
top_after h place tops (Begin call stage op) = tops
top_after h place tops (End call reply) = with_stage_top tops (stage_of h call) (place call)
top_after h place tops (Give giver token) = with_message_top tops token (tops.stage giver)
top_after h place tops (Get getter token) = with_stage_top tops getter (tops.message token)
top_after h place tops (Over stage how) = tops

-- after this many entries of a history
unfoldable pub tops_at : List Entry → (ℕ → ℕ) → ℕ → Tops
tops_at h place zero = no_tops
tops_at h place (suc i) = top_after h place (tops_at h place i) (entry_at h i)

-- the greatest place of these calls; 0 where there is none
pub record IsTop (place : ℕ → ℕ) (calls : ℕ → Bool) (top : ℕ) : Type 0 where
  pub bound : (a : ℕ) → calls a ≡ true → place a ≤ top
  pub reached : (top ≡ 0) ⊎ ((a : ℕ) × (calls a ≡ true) × (place a ≡ top))
