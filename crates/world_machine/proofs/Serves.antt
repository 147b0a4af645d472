-- A request that is served: what it makes of all parts.
use Rattle.std.proofs.Common.{◌≡◌, ℕ, Bool, true, false, List, refl, ap, if◌then◌else◌}
use Rattle.rss_names.specs.declared.service.Target.{Target}
use Rattle.rss_names.specs.declared.service.Target.TheVariants.{Shard, Replica}
use Rattle.truetime.specs.Reading.{Reading}
use Rattle.rss_wire.specs.declared.messages.Request.{Request}
use Rattle.rss_machine.specs.Effect.{request_comes}
use Rattle.rss_machine.specs.Marks.{is_store}
use Rattle.rss_machine.specs.State.{Owner, no_owner}
use Rattle.world_parts.specs.Halves.{answers_in, notes_stored, put_owner}
use Rattle.world_parts.specs.Parts.{Clock, Staging, Traffic, Stores, assembled, in_stores, owner_in}
use Rattle.world_stores.specs.Serving.{serves, reply_at}
use Rattle.world_machine.specs.Serving.{stores_at}
use Rattle.world_machine.proofs.Lists.{set_same}

-- a note that changes nothing
quiet_note : (t : Traffic) (o : ℕ) (b : Bool) → b ≡ false → put_owner t o (record (owner_in t o) { stored = if b then true else (owner_in t o).stored }) ≡ t
quiet_note t o true e = absurd (cc)
quiet_note t o false e = ap (λ (owners : List Owner). record t { owners = owners }) (set_same t.owners o no_owner)

-- where the request is no store of its owner's at a replica, nothing is noted of it
pub served_quietly : (k : Clock) (g : Staging) (t : Traffic) (d : Stores) (m o : ℕ) (at : Reading) (target : Target) (r : Request) → stores_at target r ≡ false
    → request_comes (assembled k g t d) m o at target r ≡ assembled k g (answers_in t m (reply_at d target at.latest r)) (in_stores k.steps (serves target at.latest r) d)
served_quietly k g t d m o at (Shard shard) r e = refl
served_quietly k g t d m o at (Replica service replica) r e =
    ap (λ (u : Traffic). assembled k g u (in_stores k.steps (serves (Replica service replica) at.latest r) d)) (quiet_note (answers_in t m (reply_at d (Replica service replica) at.latest r)) o (is_store r) e)

pub served_store : (k : Clock) (g : Staging) (t : Traffic) (d : Stores) (m o : ℕ) (at : Reading) (target : Target) (r : Request) → stores_at target r ≡ true
    → request_comes (assembled k g t d) m o at target r ≡ assembled k g (notes_stored (answers_in t m (reply_at d target at.latest r)) o r) (in_stores k.steps (serves target at.latest r) d)
served_store k g t d m o at (Shard shard) r e = absurd (cc)
served_store k g t d m o at (Replica service replica) r e = refl
