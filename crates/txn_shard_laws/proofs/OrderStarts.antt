-- Shards are orderly before the first step, and a step that is counted leaves them so.
use Rattle.std.proofs.Common.{◌≡◌, ℕ, ◌-◌, Option, Some, None, sym, ap, ◌∙◌, subst}
use Rattle.truetime.specs.Reading.{Reading}
use Rattle.rss_names.specs.declared.attempt.Attempt.{Attempt}
use Rattle.pipeline_lang.specs.declared.config.Config.{Config}
use Rattle.rss_tables.specs.Locks.{LockHolder}
use Rattle.rss_tables.specs.Prepared.{PreparedWriter}
use Rattle.rss_tables.specs.ShardRow.{Shard as ShardState}
use Rattle.rss_machine.specs.Moves.{ticks}
use Rattle.rss_machine.specs.State.{State, start, shard_at}
use Rattle.shard_laws.specs.Entries.{holder_of}
use Rattle.shard_laws.specs.Orderly.{IsOrderly}
use Rattle.shard_laws.proofs.Orderly.{orderly_first}
use Rattle.txn_state_laws.specs.Orderly.{AllOrderly, HeldIs, PreparedIs}
use Rattle.txn_state_laws.proofs.Starts.{IsOpening, opens, nobody_prepared, nothing_replied, replied_ticks, attempt_ticks}

-- a shard that has served nothing has no holders
nobody_holds : (sh : ShardState) (a : Attempt) (h : LockHolder) → IsOpening sh → holder_of sh.locks.holders a ≡ Some h → ⊥
nobody_holds sh a h x e = let y : ◌≡◌ {A = Option LockHolder} None (Some h) = ap (λ (z : ShardState). holder_of z.locks.holders a) (sym x.is) ∙ e in cc

-- shards are orderly before the first step
pub orderly_start : (c : Config) → AllOrderly c (start c)
orderly_start c = record {
  orderly = λ shard. let x = opens c shard in subst IsOrderly (sym x.is) (orderly_first x.keys);
  keys = λ key k. k.kept;
  held = λ shard a h i e. absurd (nobody_holds (shard_at (start c) shard) a h (opens c shard) e);
  prepared = λ shard a p i e. absurd (nobody_prepared (shard_at (start c) shard) a p (opens c shard) e);
  granted = λ shard a coordinator reads writes shown x. absurd (nothing_replied c _ _ _ x);
}

-- a step that is counted leaves holders and entries
ticks_held : (s : State) (at : Reading) (shard : ℕ) (a : Attempt) (h : LockHolder) → HeldIs s shard a h → HeldIs (ticks s at) shard a h
ticks_held s at shard a h d = record {
  txn = d.txn;
  of = attempt_ticks s at a d.txn d.of;
  line = d.line;
  is_line = d.is_line;
  reads_are = d.reads_are;
  writes_are = d.writes_are;
}

ticks_prepared : (s : State) (at : Reading) (shard : ℕ) (a : Attempt) (p : PreparedWriter) → PreparedIs s shard a p → PreparedIs (ticks s at) shard a p
ticks_prepared s at shard a p d = record {
  txn = d.txn;
  of = attempt_ticks s at a d.txn d.of;
  line = d.line;
  is_line = d.is_line;
  above = d.above;
  fits = d.fits;
  now = d.now;
}

-- a step that is counted leaves shards orderly
pub orderly_ticks : (c : Config) (s : State) (at : Reading) → AllOrderly c s → AllOrderly c (ticks s at)
orderly_ticks c s at o = record {
  orderly = o.orderly;
  keys = o.keys;
  held = λ shard a h i e. ticks_held s at shard a h (o.held shard a h i e);
  prepared = λ shard a p i e. ticks_prepared s at shard a p (o.prepared shard a p i e);
  granted = λ shard a coordinator reads writes shown x. o.granted shard a coordinator reads writes shown (replied_ticks s at _ _ _ x);
}
