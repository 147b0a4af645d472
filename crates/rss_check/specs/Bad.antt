-- The least call that a pass over a history finds bad.
use Rattle.std.specs.Prelude.{ℕ, zero, suc, ◌≡◌, ◌<◌, ◌≤◌, ◌||◌, ◌&&◌, Bool, false, max, List, [], ◌∷◌, nat_lt, nat_le, if◌then◌else◌, Option, Some, None}
use Rattle.std.specs.List.{list_any}
use Rattle.rss_names.specs.declared.service.Key.{Key}
use Rattle.rss_names.specs.Services.{same_key}
use Rattle.rss_model.specs.declared.op.Op.{Op}
use Rattle.rss_model.specs.declared.history.Entry.{Entry}
use Rattle.rss_model.specs.declared.history.Entry.TheVariants.{Begin, End, Give, Get, Over}
use Rattle.rss_model.specs.Operation.{reads_of, writes_of}
use Rattle.rss_model.specs.History.{entry_at, ends, op_of, BeginsAt}
use Rattle.rss_model.specs.Stages.{stage_at}
use Rattle.rss_model.specs.Mutation.{is_mutation}
use Rattle.rss_check.specs.Tops.{tops_at}

-- of the calls that are bad at one of the first n places, this one is the least, if there is any
pub record IsLeastBad (Bad : ℕ → ℕ → Type 0) (n : ℕ) (least : Option ℕ) : Type 0 where
  pub found : (call : ℕ) → least ≡ Some call → (i : ℕ) × (i < n) × Bad i call
  pub least_is : (call i other : ℕ) → least ≡ Some call → i < n → Bad i other → call ≤ other
  pub none : (i other : ℕ) → least ≡ None → i < n → Bad i other → ⊥

-- the lesser of a call and the least so far
abbrev pub lesser : Option ℕ → ℕ → Option ℕ
lesser None call = Some call
lesser (Some least) call = if nat_lt call least then Some call else Some least

-- a call that begins at a place has a place in the order that is at most this one
pub record StandsAtMost (h : List Entry) (place : ℕ → ℕ) (bound i call : ℕ) : Type 0 where
  pub begins : BeginsAt h call i
  pub placed : 1 ≤ place call
  pub at_most : place call ≤ bound

-- a call begins where one that is behind its stage stands no less far behind
abbrev pub IsUncaused : List Entry → (ℕ → ℕ) → ℕ → ℕ → Type 0
IsUncaused h place i call = StandsAtMost h place ((tops_at h place i).stage (stage_at h i)) i call

-- whether an operation writes a key
abbrev pub writes_key : Op → Key → Bool
writes_key op key = list_any (same_key key) (writes_of op)

-- whether a call ends at one of the first places
unfoldable pub ended_by : List Entry → ℕ → ℕ → Bool
ended_by h zero call = false
ended_by h (suc i) call = ended_by h i call || ends call (entry_at h i)

-- the greatest place of an ended mutation, and of one that writes a key; 0 where there is none
pub record Latest : Type 0 where
  pub any : ℕ
  pub written : Key → ℕ

abbrev pub no_latest : Latest
no_latest = record { any = 0; written = λ key. 0 }

-- one more mutation has ended
abbrev pub with_ended : Latest → Op → ℕ → Latest
with_ended latest op place = record {
  any = max latest.any place;
  written = λ key. max (latest.written key) (if writes_key op key then place else 0);
}

-- one more call has ended
abbrev pub ended_latest : List Entry → (ℕ → ℕ) → Latest → ℕ → Latest
ended_latest h place latest call =
    if is_mutation h call then with_ended latest (op_of h call) (place call) else latest

abbrev pub latest_after : List Entry → (ℕ → ℕ) → Latest → Entry → Latest
latest_after h place latest (Begin call stage op) = latest
latest_after h place latest (End call reply) = ended_latest h place latest call
latest_after h place latest (Give stage token) = latest
latest_after h place latest (Get stage token) = latest
latest_after h place latest (Over stage how) = latest

-- after this many entries of a history
unfoldable pub latest_at : List Entry → (ℕ → ℕ) → ℕ → Latest
latest_at h place zero = no_latest
latest_at h place (suc i) = latest_after h place (latest_at h place i) (entry_at h i)

-- the greatest for one of these keys
abbrev pub greatest_of : (Key → ℕ) → List Key → ℕ
greatest_of written [] = 0
greatest_of written (key ∷ keys) = max (written key) (greatest_of written keys)

-- behind which place a call is to stand: that of each ended mutation where it is one, else that of
-- each that writes a key that it reads
abbrev pub time_bound : List Entry → Latest → ℕ → ℕ
time_bound h latest call =
    if is_mutation h call then latest.any else greatest_of latest.written (reads_of (op_of h call))

-- a call begins where one that it must follow in real time stands no less far behind
abbrev pub IsUntimely : List Entry → (ℕ → ℕ) → ℕ → ℕ → Type 0
IsUntimely h place i call = StandsAtMost h place (time_bound h (latest_at h place i) call) i call

-- the least so far, and a call, where its place is at least 1 and at most a bound
abbrev pub least_if : Option ℕ → ℕ → ℕ → ℕ → Option ℕ
least_if least place bound call =
    if nat_lt 0 place && nat_le place bound then lesser least call else least

-- the least so far, and the call that an entry begins, if that stands before a call behind its stage
abbrev pub least_with : Option ℕ → (ℕ → ℕ) → (ℕ → ℕ) → Entry → Option ℕ
least_with least top place (Begin call stage op) = least_if least (place call) (top stage) call
least_with least top place (End call reply) = least
least_with least top place (Give stage token) = least
least_with least top place (Get stage token) = least
least_with least top place (Over stage how) = least

-- the same where that stands before a call that it must follow in real time
abbrev pub least_late : Option ℕ → List Entry → Latest → (ℕ → ℕ) → Entry → Option ℕ
least_late least h latest place (Begin call stage op) = least_if least (place call) (time_bound h latest call) call
least_late least h latest place (End call reply) = least
least_late least h latest place (Give stage token) = least
least_late least h latest place (Get stage token) = least
least_late least h latest place (Over stage how) = least
