-- Entries that are found are of their attempts, and who is prepared holds.
use Rattle.std.proofs.Common.{◌≡◌, true, List, Option, Some, None, sym, ap, ◌∙◌}
use Rattle.std.proofs.lemmas.Bool.{or_left, or_right}
use Rattle.rss_names.specs.declared.attempt.Attempt.{Attempt}
use Rattle.rss_names.specs.declared.service.Key.{Key}
use Rattle.rss_tables.specs.Locks.{LockHolder, has_key}
use Rattle.rss_tables.specs.Prepared.{PreparedWriter, prepared_of}
use Rattle.rss_tables.specs.ShardRow.{Shard}
use Rattle.shard_laws.specs.Served.{IsReached}
use Rattle.shard_laws.specs.Entries.{held_by, prepared_by, holder_of}
use Rattle.shard_laws.specs.Fitting.{locks_key}
use Rattle.shard_laws.proofs.Entries.{found_at}
use Rattle.shard_laws.proofs.Lists.{prepared_is}
use Rattle.shard_laws.proofs.Laters.{prepared_hold_for}

-- a holder that is found is of the attempt that was looked for
pub found_attempt : (holders : List LockHolder) (a : Attempt) (h : LockHolder) → holder_of holders a ≡ Some h → h.attempt ≡ a
found_attempt holders a h e = found_at held_by holders a h e

-- and so is an entry of a prepared attempt
pub prepared_attempt : (prepared : List PreparedWriter) (a : Attempt) (p : PreparedWriter) → prepared_of prepared a ≡ Some p → p.attempt ≡ a
prepared_attempt prepared a p e = found_at prepared_by prepared a p (sym (prepared_is prepared a) ∙ e)

-- a holder that is found is found at its own attempt
pub found_itself : (holders : List LockHolder) (a : Attempt) (h : LockHolder) → holder_of holders a ≡ Some h → holder_of holders h.attempt ≡ Some h
found_itself holders a h e = ap (holder_of holders) (found_attempt holders a h e) ∙ e

-- and an entry of a prepared attempt at its own
pub prepared_itself : (prepared : List PreparedWriter) (a : Attempt) (p : PreparedWriter) → prepared_of prepared a ≡ Some p → prepared_of prepared p.attempt ≡ Some p
prepared_itself prepared a p e = ap (prepared_of prepared) (prepared_attempt prepared a p e) ∙ e

-- two holders of one attempt are the same
pub same_holder : (holders : List LockHolder) (a : Attempt) (h g : LockHolder) → holder_of holders a ≡ Some h → holder_of holders a ≡ Some g → h ≡ g
same_holder holders a h g e f = let x : ◌≡◌ {A = Option LockHolder} (Some h) (Some g) = sym e ∙ f in cc

-- who is prepared holds
pub not_free : (sh : Shard) → IsReached sh → (p : PreparedWriter) → prepared_of sh.prepared p.attempt ≡ Some p → holder_of sh.locks.holders p.attempt ≡ None → ⊥
not_free sh x p e n =
    let q = prepared_hold_for sh x p e in
    let y : ◌≡◌ {A = Option LockHolder} None (Some q.holder) = sym n ∙ q.holds in cc

-- a key that is locked to read is locked
pub read_locked : (h : LockHolder) (key : Key) → has_key h.reads key ≡ true → locks_key h key ≡ true
read_locked h key e = or_left (has_key h.reads key) (has_key h.writes key) e

-- and so is one that is locked to write
pub write_locked : (h : LockHolder) (key : Key) → has_key h.writes key ≡ true → locks_key h key ≡ true
write_locked h key e = or_right (has_key h.reads key) (has_key h.writes key) e
