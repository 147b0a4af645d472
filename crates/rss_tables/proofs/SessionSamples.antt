-- Samples of sessions over shards, each computed.
use Rattle.std.specs.Prelude.{◌≡◌, ℕ, ◌+◌, ◌*◌, true, false, List, [], ◌∷◌, Some, None, map, refl}
use Rattle.rss_names.specs.declared.attempt.Attempt.{Attempt}
use Rattle.rss_names.specs.declared.service.Key.{Key}
use Rattle.rss_names.specs.declared.service.ServiceId.TheVariants.{Txn, Reg}
use Rattle.rss_names.specs.declared.service.Target.{Target}
use Rattle.rss_names.specs.declared.service.Target.TheVariants.{Shard}
use Rattle.pipeline_lang.specs.declared.script.Expr.TheVariants.{One}
use Rattle.pipeline_lang.specs.declared.script.Term.TheVariants.{Number, Variable}
use Rattle.pipeline_lang.specs.declared.script.Compare.TheVariants.{Less}
use Rattle.truetime.specs.Reading.{Reading}
use Rattle.causal_context.specs.Seen.{Seen, nothing_seen, after_txn, after_read}
use Rattle.rss_wire.specs.declared.messages.Outcome.TheVariants.{Committed, Aborted}
use Rattle.rss_wire.specs.declared.messages.Request.{Request}
use Rattle.rss_wire.specs.declared.messages.Request.TheVariants as request
use Rattle.rss_wire.specs.declared.messages.Reply.TheVariants as reply
use Rattle.rss_tables.specs.Lines.{line_at}
use Rattle.rss_tables.specs.Outs.{Out}
use Rattle.rss_tables.specs.SnapshotSession.{SnapSession, opening_snapshot, snap_hears}
use Rattle.rss_tables.specs.TransactionSession.{TxnSession, opening_txn, txn_hears, waiting_time}
use Rattle.rss_tables.specs.Turns.{Turn}
use Rattle.rss_tables.specs.Works.{plan_for, plan_all}
use Rattle.rss_tables.specs.declared.fences.FenceWork.TheVariants.{Past, Fix}
use Rattle.rss_tables.specs.declared.phases.SnapPhase.TheVariants.{Second, Done}

abbrev x : Key
x = record { service = Txn 1; index = 0 }

abbrev z : Key
z = record { service = Txn 1; index = 1 }

-- x lives on shard 1 and z on shard 2
abbrev home : ℕ → ℕ
home index = index + 1

-- a reading of step n
abbrev at : ℕ → Reading
at n = record { earliest = 10 * n; latest = 10 * n + 4 }

-- what is sent, without its slots
abbrev sent : List Out → List (Target × Request)
sent outs = map (λ (out : Out). (out.target, out.request)) outs

abbrev first_attempt : Attempt
first_attempt = record { call = 1; k = 1 }

-- a transaction that writes x, with 20 microseconds to its earliest end
abbrev writes_x : TxnSession
writes_x = opening_txn home 1 [] None ((x, One (Number 1)) ∷ []) 0 20

abbrev locked : Turn TxnSession
locked = txn_hears writes_x (line_at writes_x.lines 1) (at 3) (reply.Granted [])

locked-asks : sent locked.outs ≡ (Shard 1, request.Prepare first_attempt 0 54 ((x, 1) ∷ [])) ∷ []
locked-asks = refl

abbrev prepared : Turn TxnSession
prepared = txn_hears locked.after (line_at locked.after.lines 1) (at 5) (reply.Prepared 44)

prepared-asks : sent prepared.outs ≡ (Shard 1, request.Decide first_attempt true 44) ∷ []
prepared-asks = refl

-- it waits for the greater of its commit time and its earliest end
abbrev decided : ℕ → Turn TxnSession
decided time = txn_hears prepared.after (line_at prepared.after.lines 1) (at 4) (reply.Decided (Committed time))

waits-for-commit : waiting_time (decided 64).after (decided 64).after.phase ≡ Some 64
waits-for-commit = refl

waits-for-end : waiting_time (decided 44).after (decided 44).after.phase ≡ Some 54
waits-for-end = refl

-- where both have passed it ends, and tells its shards without a slot
ends-at-once : (txn_hears prepared.after (line_at prepared.after.lines 1) (at 7) (reply.Decided (Committed 64))).outs ≡ record { slot = None; target = Shard 1; request = request.Commit first_attempt 64 } ∷ []
ends-at-once = refl

-- a wounded attempt is decided without commit, and then the next one begins
abbrev wounded : Turn TxnSession
wounded = txn_hears writes_x (line_at writes_x.lines 1) (at 3) reply.Wounded

wounded-asks : sent wounded.outs ≡ (Shard 1, request.Decide first_attempt false 0) ∷ []
wounded-asks = refl

next-attempt : sent (txn_hears wounded.after (line_at wounded.after.lines 1) (at 5) (reply.Decided Aborted)).outs ≡ (Shard 1, request.Abort first_attempt) ∷ (Shard 1, request.Lock (record { call = 1; k = 2 }) 1 [] (x ∷ [])) ∷ []
next-attempt = refl

-- a guard that fails over what was read: the keys are given back at a time that is not below it
abbrev guarded : TxnSession
guarded = opening_txn home 2 (x ∷ []) (Some (Less (One (Variable 0)) (One (Number 1)))) ((x, One (Number 9)) ∷ []) 0 20

guard-fails : sent (txn_hears guarded (line_at guarded.lines 1) (at 3) (reply.Granted ((x, record { value = 1; time = 90; writer = 1 }) ∷ []))).outs ≡ (Shard 1, request.Release (record { call = 2; k = 1 }) 90 true) ∷ []
guard-fails = refl

-- a snapshot of both shards passes a writer of z by that was prepared at 74
abbrev both : SnapSession
both = opening_snapshot home 3 (x ∷ z ∷ []) 0 (at 19)

abbrev first_shown : ℕ → Turn SnapSession
first_shown time = snap_hears both (line_at both.lines 1) (reply.Values ((x, record { value = 1; time = time; writer = 1 }) ∷ []) [])

abbrev passed_by : ℕ → Turn SnapSession
passed_by time = snap_hears (first_shown time).after (line_at (first_shown time).after.lines 2) (reply.Values ((z, record { value = 0; time = 0; writer = 0 }) ∷ []) (record { attempt = first_attempt; coordinator = 1; prepare_time = 74 } ∷ []))

-- where x is shown at 104, shard 2 is asked again at 104 with nothing skipped
asked-again : sent (passed_by 104).outs ≡ (Shard 2, request.Snapshot 104 0 (z ∷ []) false) ∷ []
asked-again = refl

second-round : (passed_by 104).after.phase ≡ Second 104
second-round = refl

-- also where the snapshot is at the writer's own time
asked-at-its-time : (passed_by 74).after.phase ≡ Second 74
asked-at-its-time = refl

-- where x is shown at 50, the writer stands above the snapshot
one-round : (passed_by 50).after.phase ≡ Done 50
one-round = refl

-- a call at a register service behind a transaction first waits for that one's time, and enters
abbrev behind_txn : Seen
behind_txn = after_txn nothing_seen (Txn 1) 64

plans-a-wait : plan_for behind_txn (Reg 1) ≡ record { fences = (Txn 1, Past 64) ∷ []; enter = true }
plans-a-wait = refl

plans-nothing : plan_for behind_txn (Txn 1) ≡ record { fences = []; enter = false }
plans-nothing = refl

-- behind a read whose replicas did not agree, its dependency is stored first
abbrev behind_read : Seen
behind_read = after_read nothing_seen (Reg 1) (Some record { key = record { service = Reg 1; index = 0 }; value = 5; stamp = record { number = 1; call = 1 }; writer = 1 })

plans-a-fix : plan_for behind_read (Txn 1) ≡ record { fences = (Reg 1, Fix) ∷ []; enter = true }
plans-a-fix = refl

fences-all : plan_all behind_read ≡ record { fences = (Reg 1, Fix) ∷ []; enter = false }
fences-all = refl
