-- A request comes to its target: what that makes of shards and replicas, and what is replied.
use Rattle.std.proofs.Common.{◌≡◌, ℕ, refl}
use Rattle.rss_names.specs.declared.service.Target.{Target}
use Rattle.rss_names.specs.declared.service.Target.TheVariants.{Shard, Replica}
use Rattle.rss_wire.specs.declared.messages.Request.{Request}
use Rattle.rss_wire.specs.Messages.{answers}
use Rattle.rss_machine.specs.Effect.{request_comes}
use Rattle.truetime.specs.Reading.{Reading}
use Rattle.world_parts.specs.Parts.{Clock, Staging, Traffic, Stores, assembled, stores_of, in_stores}
use Rattle.world_stores.specs.Serving.{serves, reply_at}

pub comes_to_stores : (k : Clock) (g : Staging) (t : Traffic) (d : Stores) (m o : ℕ) (at : Reading) (target : Target) (r : Request) → stores_of (request_comes (assembled k g t d) m o at target r) ≡ in_stores k.steps (serves target at.latest r) d
comes_to_stores k g t d m o at (Shard shard) r = refl
comes_to_stores k g t d m o at (Replica service replica) r = refl

pub comes_with_reply : (k : Clock) (g : Staging) (t : Traffic) (d : Stores) (m o : ℕ) (at : Reading) (target : Target) (r : Request) → (request_comes (assembled k g t d) m o at target r).net ≡ answers t.net m (reply_at d target at.latest r)
comes_with_reply k g t d m o at (Shard shard) r = refl
comes_with_reply k g t d m o at (Replica service replica) r = refl
