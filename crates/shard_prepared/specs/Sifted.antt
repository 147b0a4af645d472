-- What is listed of the writers that a snapshot asks about.
use Rattle.std.specs.Prelude.{Bool, ◌&&◌, not, nat_le}
use Rattle.rss_wire.specs.declared.messages.Holder.{Holder}
use Rattle.rss_wire.specs.declared.messages.Skipped.{Skipped}
use Rattle.rss_tables.specs.Prepared.{PreparedWriter, must_wait_for}
use Rattle.shard_prepared.specs.declared.sifting.SnapshotRead.{SnapshotRead}

-- a blocking writer as a reply names it
abbrev pub holder_of : PreparedWriter → Holder
holder_of p = record { attempt = p.attempt; coordinator = p.coordinator }

-- a writer passed by as a reply names it
abbrev pub skipped_of : PreparedWriter → Skipped
skipped_of p = record { attempt = p.attempt; coordinator = p.coordinator; prepare_time = p.prepare_time }

-- whether a reader must wait for a writer of an asked key
abbrev pub blocks : SnapshotRead → PreparedWriter → Bool
blocks read p = nat_le p.prepare_time read.read_time && must_wait_for read.read_time read.least read.skip p

-- whether it may pass it by
abbrev pub is_passed : SnapshotRead → PreparedWriter → Bool
is_passed read p = nat_le p.prepare_time read.read_time && not (must_wait_for read.read_time read.least read.skip p)
