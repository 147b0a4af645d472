-- What is closed before the first step, and as a step is counted.
use Rattle.std.proofs.Common.{◌≡◌, ℕ, ◌-◌, true, [], sym, ap, ◌∙◌, subst}
use Rattle.std.proofs.lemmas.Bool.{true≢false}
use Rattle.truetime.specs.Reading.{Reading}
use Rattle.rss_names.specs.declared.attempt.Attempt.{Attempt}
use Rattle.rss_names.specs.declared.service.Key.{Key}
use Rattle.pipeline_lang.specs.declared.config.Config.{Config}
use Rattle.rss_wire.specs.declared.messages.Version.{Version}
use Rattle.rss_tables.specs.Attempts.{has_attempt}
use Rattle.rss_tables.specs.ShardRow.{Shard as ShardState}
use Rattle.rss_tables.specs.Versions.{versions_of}
use Rattle.rss_machine.specs.Moves.{ticks}
use Rattle.rss_machine.specs.State.{State, start, shard_at}
use Rattle.shard_laws.specs.Closed.{EachOf}
use Rattle.shard_laws.proofs.Rising.{each_more, unwritten_none}
use Rattle.txn_state_laws.specs.Closed.{WasWritten, AllClosed}
use Rattle.txn_state_laws.proofs.Starts.{opens, nothing_replied, replied_ticks, attempt_ticks}
use Rattle.txn_shard_laws.specs.Unreleased.{IsAttempt, AllUnreleased, AllClosing}

-- BEFORE THE FIRST STEP

-- nobody has given locks back
starts_held : (c : Config) (n : ℕ) (a : Attempt) → has_attempt (shard_at (start c) n).released a ≡ true → ⊥
starts_held c n a e = true≢false (sym e ∙ ap (λ (sh : ShardState). has_attempt sh.released a) (opens c n).is)

-- no key has a version
starts_unwritten : (c : Config) (n : ℕ) (key : Key) → versions_of (shard_at (start c) n).store key ≡ []
starts_unwritten c n key = ap (λ (sh : ShardState). versions_of sh.store key) (opens c n).is ∙ unwritten_none (opens c n).keys key

-- nothing is closed yet
pub closed_start : (c : Config) → AllClosed (start c)
closed_start c = record {
  freed = λ n a x l time i e. absurd (starts_held c n a e);
  released = λ n a time last e. absurd (nothing_replied c _ _ _ e);
  written = λ n key i. subst (EachOf (WasWritten (start c) key)) (sym (starts_unwritten c n key)) tt;
  answered = λ n read_time least keys skip versions skipped e. absurd (nothing_replied c _ _ _ e);
}

pub unreleased_start : (c : Config) → AllUnreleased (start c)
unreleased_start c = record { known = λ n a e. absurd (starts_held c n a e); phases = λ n a x e. absurd (starts_held c n a e) }

pub closing_start : (c : Config) → AllClosing (start c)
closing_start c = record { closed = closed_start c; unreleased = unreleased_start c }

-- AS A STEP IS COUNTED

-- attempts are what they were
known_ticks : (s : State) (at : Reading) (a : Attempt) → IsAttempt s a → IsAttempt (ticks s at) a
known_ticks s at a e = record { txn = e.txn; of = attempt_ticks s at a e.txn e.of }

-- and so is what was written
written_ticks : (s : State) (at : Reading) (key : Key) (v : Version) → WasWritten s key v → WasWritten (ticks s at) key v
written_ticks s at key v e = record { txn = e.txn; under_way = e.under_way; committed = e.committed; writes = e.writes }

-- what is closed looks at no clock
pub closed_ticks : (s : State) (at : Reading) → AllClosed s → AllClosed (ticks s at)
closed_ticks s at h = record {
  freed = λ n a x l time i e f. h.freed n a x l time i e record { under_way = f.under_way; first = f.first; last = f.last };
  released = λ n a time last e. h.released n a time last (replied_ticks s at _ _ _ e);
  written = λ n key i. each_more (WasWritten s key) (WasWritten (ticks s at) key) (written_ticks s at key) (versions_of (shard_at s n).store key) (h.written n key i);
  answered = λ n read_time least keys skip versions skipped e. h.answered n read_time least keys skip versions skipped (replied_ticks s at _ _ _ e);
}

pub unreleased_ticks : (s : State) (at : Reading) → AllUnreleased s → AllUnreleased (ticks s at)
unreleased_ticks s at h = record {
  known = λ n a e. known_ticks s at a (h.known n a e);
  phases = λ n a x e f. h.phases n a x e record { under_way = f.under_way; first = f.first; last = f.last };
}

pub closing_ticks : (s : State) (at : Reading) → AllClosing s → AllClosing (ticks s at)
closing_ticks s at h = record { closed = closed_ticks s at h.closed; unreleased = unreleased_ticks s at h.unreleased }
