-- Shards and replies before the first step, and what a step that is counted leaves as it was.
use Rattle.std.proofs.Common.{◌≡◌, ℕ, zero, suc, ◌+◌, ◌-◌, ◌<◌, List, [], ◌∷◌, get_or, Option, Some, None, refl, sym, ap, ◌∙◌, arith}
use Rattle.truetime.specs.Reading.{Reading}
use Rattle.rss_names.specs.declared.attempt.Attempt.{Attempt}
use Rattle.rss_names.specs.declared.service.Key.{Key}
use Rattle.rss_names.specs.declared.service.ServiceId.{ServiceId}
use Rattle.rss_names.specs.declared.service.Target.{Target}
use Rattle.pipeline_lang.specs.declared.config.Config.{Config}
use Rattle.rss_wire.specs.declared.messages.Reply.{Reply}
use Rattle.rss_wire.specs.declared.messages.Request.{Request}
use Rattle.rss_tables.specs.Prepared.{PreparedWriter, prepared_of}
use Rattle.rss_tables.specs.ShardRow.{Shard as ShardState, opening_shard}
use Rattle.rss_tables.specs.TransactionSession.{TxnSession}
use Rattle.rss_machine.specs.Moves.{ticks}
use Rattle.rss_machine.specs.State.{State, start, shard_at, shards_from}
use Rattle.txn_state_laws.specs.Framed.{OfAttempt}
use Rattle.txn_state_laws.specs.Replied.{Replied}

-- a shard that has served nothing
pub record IsOpening (sh : ShardState) : Type 0 where
  pub keys : List Key
  pub is : sh ≡ opening_shard keys

opening_at : (c : Config) (n : ℕ) (services : List ServiceId) (i : ℕ) → IsOpening (get_or (shards_from c n services) i (opening_shard []))
opening_at c n [] i = record { keys = []; is = refl }
opening_at c n (service ∷ services) zero = record { keys = _; is = refl }
opening_at c n (service ∷ services) (suc i) = opening_at c (n + 1) services i

pub opens : (c : Config) (shard : ℕ) → IsOpening (shard_at (start c) shard)
opens c shard = opening_at c 1 c.shard_services (shard - 1)

-- nobody is prepared there
pub nobody_prepared : (sh : ShardState) (a : Attempt) (p : PreparedWriter) → IsOpening sh → prepared_of sh.prepared a ≡ Some p → ⊥
nobody_prepared sh a p x e = let y : ◌≡◌ {A = Option PreparedWriter} None (Some p) = ap (λ (z : ShardState). prepared_of z.prepared a) (sym x.is) ∙ e in cc

-- nothing was replied yet
pub nothing_replied : (c : Config) (target : Target) (q : Request) (r : Reply) → Replied (start c) target q r → ⊥
nothing_replied c target q r x = let a = x.is.numbered in let b : x.message < 1 = x.is.sent in omega (arith, a, b)

-- a step that is counted leaves the replies
pub replied_ticks : (s : State) (at : Reading) (target : Target) (q : Request) (r : Reply) → Replied (ticks s at) target q r → Replied s target q r
replied_ticks s at target q r x = record {
  message = x.message;
  is = record { numbered = x.is.numbered; sent = x.is.sent; says = x.is.says; asked = x.is.asked; from = x.is.from };
}

-- and the attempts
pub attempt_ticks : (s : State) (at : Reading) (a : Attempt) (x : TxnSession) → OfAttempt s a x → OfAttempt (ticks s at) a x
attempt_ticks s at a x of = record { under_way = of.under_way; first = of.first; last = of.last }
