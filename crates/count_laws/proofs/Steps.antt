-- What a step adds.
use Rattle.std.proofs.Common.{◌≡◌, ℕ, ◌-◌, ◌≤◌, Bool, true, false, List, [], ◌∷◌, length, Option, Some, None, refl, sym, ◌∙◌, subst, arith}
use Rattle.std.specs.Prelude.{nat_lt, if◌then◌else◌}
use Rattle.std.proofs.Math.ListN.{set}
use Rattle.std.proofs.lemmas.Bool.{cond_both}
use Rattle.truetime.specs.Reading.{Reading}
use Rattle.rss_names.specs.declared.service.Key.{Key}
use Rattle.rss_names.specs.declared.service.Target.{Target}
use Rattle.rss_names.specs.declared.service.Target.TheVariants.{Shard, Replica}
use Rattle.rss_names.specs.declared.attempt.Attempt.{Attempt}
use Rattle.pipeline_lang.specs.Config.{replicas_of}
use Rattle.pipeline_lang.specs.declared.config.Config.{Config}
use Rattle.pipeline_lang.specs.declared.script.Statement.{Statement}
use Rattle.pipeline_lang.specs.declared.script.Statement.TheVariants as statement
use Rattle.rss_model.specs.CallStatement.{op_of_statement}
use Rattle.rss_model.specs.declared.history.How.TheVariants.{Killed, Unavailable}
use Rattle.rss_model.specs.declared.history.Token.TheVariants as token
use Rattle.rss_model.specs.declared.op.Op.{Op}
use Rattle.rss_wire.specs.declared.envelope.Envelope.{Envelope}
use Rattle.rss_wire.specs.declared.message.Body.{Body as MessageBody}
use Rattle.rss_wire.specs.declared.message.Body.TheVariants as body
use Rattle.rss_wire.specs.declared.message.Fate.TheVariants as fate
use Rattle.rss_wire.specs.declared.messages.Request.{Request}
use Rattle.rss_wire.specs.declared.messages.Request.TheVariants as request
use Rattle.rss_wire.specs.declared.messages.Reply.{Reply}
use Rattle.rss_wire.specs.declared.messages.Reply.TheVariants as reply
use Rattle.rss_wire.specs.declared.messages.Outcome.{Outcome}
use Rattle.rss_wire.specs.declared.messages.RegReply.{RegReply}
use Rattle.rss_wire.specs.Messages.{message_at}
use Rattle.rss_tables.specs.declared.endings.StubEnd.TheVariants.{Fenced, Unfenced}
use Rattle.rss_tables.specs.Lines.{Line, line_at, tells_decision}
use Rattle.rss_tables.specs.Losses.{losses_of, reaches_tries, is_quorum_lost}
use Rattle.rss_tables.specs.Outs.{line_out, slot_replica, slot_shard}
use Rattle.rss_tables.specs.Pipes.{Chunk, EndMark, no_mark, fenced_mark, bare_mark}
use Rattle.rss_tables.specs.RegisterSession.{RegSession, session_after, phase_end, reached}
use Rattle.rss_tables.specs.Round.{Round, was_heard, hears, is_reached}
use Rattle.rss_tables.specs.RegisterSession.{reply_cell}
use Rattle.rss_tables.specs.SnapshotSession.{SnapSession, snap_wakes}
use Rattle.rss_tables.specs.TransactionSession.{TxnSession, txn_wakes, txn_passes, waiting_time}
use Rattle.rss_tables.specs.declared.register_session.RegEnd.{RegEnd}
use Rattle.rss_tables.specs.declared.register_session.RegPhase.{RegPhase}
use Rattle.rss_tables.specs.declared.register_session.RegPhase.TheVariants as phase
use Rattle.rss_machine.specs.Effect.{begins_call, takes_end, takes, waits_over, makes, waking_line, txn_line_wakes, snap_line_wakes, txn_acts, session_acts, owner_acts, acts, request_comes, fix_goes_on, opens_round, register_goes_on, stub_settles, owner_hears, reply_comes, comes, target_lost, is_cut_off, asks_again, replaces, loss_counts, loses, least_shard, settles, stub_starts, stub_acts, stub_of_stage, effect, with_status}
use Rattle.rss_machine.specs.Enabling.{next_statement}
use Rattle.rss_machine.specs.Moves.{marks_message, sends, opens_call, opens_fence, starts_stub, plans_stub, turns_session, listens, forgets, counts_loss, cuts_off, counts_act, takes_chunk, closes}
use Rattle.rss_machine.specs.Session.{Session}
use Rattle.rss_machine.specs.Slots.{slot_in}
use Rattle.rss_machine.specs.Standing.{is_running, stage_state, exit_context}
use Rattle.rss_machine.specs.State.{State, stage_at, owner_at, pipe_at}
use Rattle.rss_machine.specs.declared.ending.StageState.{StageState}
use Rattle.rss_machine.specs.declared.ending.StageState.TheVariants as standing
use Rattle.rss_machine.specs.declared.session.OwnerKind.{OwnerKind}
use Rattle.rss_machine.specs.declared.session.OwnerKind.TheVariants as kind
use Rattle.rss_machine.specs.declared.session.Session.TheVariants as session
use Rattle.rss_machine.specs.declared.state.OwnerFate.TheVariants.{Dropped, CutOff}
use Rattle.rss_machine.specs.declared.step.StepKind.{StepKind}
use Rattle.rss_machine.specs.declared.step.StepKind.TheVariants.{Act, Go, Lose, Again, Kill, Stub}
use Rattle.world_laws.proofs.Looks.{looks}
use Rattle.count_laws.proofs.Budget.{FewIn, FewKind, AllFew, Budget, none, plus, Within, within, Grew, grew_more, chain, still, for_owner}
use Rattle.count_laws.proofs.FewLines.{few_hears, few_wakes, few_passes, snap_few_hears, snap_few_wakes, told_few}
use Rattle.count_laws.proofs.Moves.{sent, going, entered, given, begun, one_act, exited, g_marks, g_sends_upto, g_serves_shard, g_serves_replica, g_goes_on, g_opens_call, g_opens_fence, g_plans_stub, g_listens, g_forgets, g_starts_stub, g_counts_loss, g_cuts_off, g_counts_act, g_moves_on, g_spawns, g_receives, g_takes_chunk, g_puts, g_closes, g_exits, g_dies, g_loses_stub, g_turns, g_sends_one}
use Rattle.count_laws.proofs.Works.{FewOf, worked, turned, g_goes_through, g_ends_work, g_fix_ends, g_register_ends, g_txn_turns, g_snap_turns, round_few}

-- what a step adds at most, but for the act and the loss
abbrev pub whole : Budget
whole = record { net = 32; owners = 1; entries = 18; acts = 0; next = 1; losses = 0; attempts = 1 }

up : (x : Budget) (s t : State) → Within x whole → Grew x s t → Grew whole s t
up x s t w g = grew_more x whole s t w g

stays : (s : State) → Grew whole s s
stays s = up none s s (within none whole refl) (still s)

-- STATEMENTS

g_begins_call : (c : Config) (s : State) (n : ℕ) (at : Reading) (x : Option Op) → FewOf c → Grew whole s (begins_call c s n at x)
g_begins_call c s n at None f = stays s
g_begins_call c s n at (Some x) f =
    let t = opens_call s n x in
    chain (begun 1) worked whole s t (begins_call c s n at (Some x)) (within (plus (begun 1) worked) whole refl) (g_opens_call s n x) (g_goes_through c t (length s.owners) at (owner_at t (length s.owners)).works.left f)

g_takes_end : (s : State) (n variable p : ℕ) (x : EndMark) → Grew whole s (takes_end s n variable p x)
g_takes_end s n variable p no_mark = stays s
g_takes_end s n variable p (fenced_mark number seen) = up (entered 1) s _ (within (entered 1) whole refl) (g_receives s n _ seen _)
g_takes_end s n variable p bare_mark = up none s _ (within none whole refl) (g_moves_on s n _)

g_takes : (s : State) (n variable p : ℕ) (chunks : List Chunk) → Grew whole s (takes s n variable p chunks)
g_takes s n variable p [] = g_takes_end s n variable p (pipe_at s p).mark
g_takes s n variable p (chunk ∷ chunks) =
    let t = takes_chunk s p in
    chain none (entered 1) whole s t (takes s n variable p (chunk ∷ chunks)) (within (plus none (entered 1)) whole refl) (g_takes_chunk s p) (g_receives t n _ chunk.context _)

g_waits_over : (s : State) (n child : ℕ) (x : StageState) → Grew whole s (waits_over s n child x)
g_waits_over s n child standing.Exited = up (entered 1) s _ (within (entered 1) whole refl) (g_receives s n (token.Exit child) (exit_context s child) (with_status (stage_at s n).cursor 0))
g_waits_over s n child (standing.Ended how (Some Fenced)) = up (entered 1) s _ (within (entered 1) whole refl) (g_receives s n (token.Exit child) (exit_context s child) (with_status (stage_at s n).cursor 1))
g_waits_over s n child (standing.Ended how (Some (Unfenced target))) = up none s _ (within none whole refl) (g_moves_on s n _)
g_waits_over s n child (standing.Ended how None) = stays s
g_waits_over s n child standing.Unborn = stays s
g_waits_over s n child standing.Live = stays s

g_makes : (c : Config) (s : State) (n : ℕ) (at : Reading) (x : Statement ℕ Key ℕ ℕ) → FewOf c → Grew whole s (makes c s n at x)
g_makes c s n at (statement.Let variable value) f = up none s _ (within none whole refl) (g_moves_on s n _)
g_makes c s n at (statement.Repeat times) f = up none s _ (within none whole refl) (g_moves_on s n _)
g_makes c s n at (statement.When test) f = up none s _ (within none whole refl) (g_moves_on s n _)
g_makes c s n at statement.End f = up none s _ (within none whole refl) (g_moves_on s n _)
g_makes c s n at (statement.Read variable key) f = g_begins_call c s n at (op_of_statement (statement.Read variable key) (stage_at s n).cursor.variables) f
g_makes c s n at (statement.Write key value) f = g_begins_call c s n at (op_of_statement (statement.Write key value) (stage_at s n).cursor.variables) f
g_makes c s n at (statement.Snap pairs) f = g_begins_call c s n at (op_of_statement (statement.Snap pairs) (stage_at s n).cursor.variables) f
g_makes c s n at (statement.Txn reads guard writes) f = g_begins_call c s n at (op_of_statement (statement.Txn reads guard writes) (stage_at s n).cursor.variables) f
g_makes c s n at statement.Fence f =
    let t = opens_fence s n in
    chain (begun 0) worked whole s t (makes c s n at statement.Fence) (within (plus (begun 0) worked) whole refl) (g_opens_fence s n) (g_goes_through c t (length s.owners) at (owner_at t (length s.owners)).works.left f)
g_makes c s n at (statement.Spawn child) f = up (entered 2) s _ (within (entered 2) whole refl) (g_spawns s n child _)
g_makes c s n at (statement.Wait child) f = g_waits_over s n child (stage_state s child)
g_makes c s n at (statement.Put p value) f = up given s _ (within given whole refl) (g_puts s n p _ _ _)
g_makes c s n at (statement.Take variable p) f = g_takes s n variable p (pipe_at s p).chunks
g_makes c s n at (statement.Close p) f =
    let t = closes s n (stage_at s n).context p in
    chain given none whole s t (makes c s n at (statement.Close p)) (within (plus given none) whole refl) (g_closes s n (stage_at s n).context p) (g_moves_on t n _)
g_makes c s n at statement.Exit f = up exited s _ (within exited whole refl) (g_exits c s n f.pipes)

-- ACTS OF OWNERS

g_txn_line_wakes : (c : Config) (s : State) (o : ℕ) (t : TxnSession) (l : Option Line) → (owner_at s o).session ≡ session.Transaction t → FewIn (owner_at s o).session → Grew whole s (txn_line_wakes c s o t l)
g_txn_line_wakes c s o t None e h = stays s
g_txn_line_wakes c s o t (Some l) e h = up turned s _ (within turned whole refl) (g_txn_turns c s o t (txn_wakes t l) e h (few_wakes (length t.lines) t.k t l refl refl))

g_snap_line_wakes : (c : Config) (s : State) (o : ℕ) (t : SnapSession) (l : Option Line) → (owner_at s o).session ≡ session.Snapshot t → FewIn (owner_at s o).session → Grew whole s (snap_line_wakes c s o t l)
g_snap_line_wakes c s o t None e h = stays s
g_snap_line_wakes c s o t (Some l) e h = up turned s _ (within turned whole refl) (g_snap_turns c s o t (snap_wakes t l) e h (snap_few_wakes (length t.lines) t l refl))

g_txn_acts : (c : Config) (s : State) (o : ℕ) (t : TxnSession) (time : Option ℕ) → (owner_at s o).session ≡ session.Transaction t → FewIn (owner_at s o).session → Grew whole s (txn_acts c s o t time)
g_txn_acts c s o t (Some time) e h = up turned s _ (within turned whole refl) (g_txn_turns c s o t (txn_passes t t.phase) e h (few_passes (length t.lines) t.k t t.phase (subst FewIn e h) refl refl))
g_txn_acts c s o t None e h = g_txn_line_wakes c s o t (waking_line s t.lines) e h

g_session_acts : (c : Config) (s : State) (o : ℕ) (x : Session) → (owner_at s o).session ≡ x → FewIn (owner_at s o).session → Grew whole s (session_acts c s o x)
g_session_acts c s o (session.Transaction t) e h = g_txn_acts c s o t (waiting_time t t.phase) e h
g_session_acts c s o (session.Snapshot t) e h = g_snap_line_wakes c s o t (waking_line s t.lines) e h
g_session_acts c s o session.Idle e h = stays s
g_session_acts c s o (session.Fixing r) e h = stays s
g_session_acts c s o (session.Register r) e h = stays s
g_session_acts c s o (session.Settling attempt shards) e h = stays s

g_owner_acts : (c : Config) (s : State) (o : ℕ) (at : Reading) (wait : Option ℕ) → FewOf c → AllFew s → Grew whole s (owner_acts c s o at wait)
g_owner_acts c s o at (Some time) f h = up worked s _ (within worked whole refl) (g_ends_work c s o at (owner_at s o).works.left f)
g_owner_acts c s o at None f h = g_session_acts c s o (owner_at s o).session refl (h o).session

g_acts : (c : Config) (s : State) (n : ℕ) (at : Reading) (o : Option ℕ) → FewOf c → AllFew s → Grew whole s (acts c s n at o)
g_acts c s n at None f h = g_makes c s n at (next_statement c s n) f
g_acts c s n at (Some o) f h = g_owner_acts c s o at (owner_at s o).works.wait f h

-- MESSAGES

g_request_comes : (s : State) (m o : ℕ) (at : Reading) (target : Target) (r : Request) → Grew whole s (request_comes s m o at target r)
g_request_comes s m o at (Shard shard) r = up (sent 1) s _ (within (sent 1) whole refl) (g_serves_shard s m shard at.latest r)
g_request_comes s m o at (Replica service replica) r = up (sent 1) s _ (within (sent 1) whole refl) (g_serves_replica s m o service replica r)

-- a round keeps its number of replicas
reached_same : (r : RegSession) (x : RegPhase) → (reached r x).round.replicas ≡ r.round.replicas
reached_same r phase.Fixing = refl
reached_same r phase.Asking = refl
reached_same r phase.Stamping = refl
reached_same r (phase.Storing stamp) = refl
reached_same r (phase.Done end) = refl

hears_same : (x : Round) (from : ℕ) (cell : RegReply) → (hears x from cell).replicas ≡ x.replicas
hears_same x from cell = cond_both (was_heard x from) x (record x { heard = set x.heard (from - 1) (Some cell) }) (λ (y : Round). y.replicas ≡ x.replicas) (λ e. refl) (λ e. refl)

after_same : (f : RegSession) (from : ℕ) (r : Reply) → (session_after f from r).round.replicas ≡ f.round.replicas
after_same f from r =
    let g = record f { round = hears f.round from (reply_cell r) } in
    cond_both (is_reached (hears f.round from (reply_cell r))) (reached g f.phase) g (λ (x : RegSession). x.round.replicas ≡ f.round.replicas) (λ e. reached_same g f.phase ∙ hears_same f.round from (reply_cell r)) (λ e. hears_same f.round from (reply_cell r))

g_fix_goes_on : (c : Config) (s : State) (o : ℕ) (at : Reading) (r : RegSession) (e : Option RegEnd) → FewOf c → r.round.replicas ≤ 7 → Grew whole s (fix_goes_on c s o at r e)
g_fix_goes_on c s o at r None f l = up (for_owner 0 0) s _ (within (for_owner 0 0) whole refl) (g_turns 0 s o (session.Fixing r) (omega arith) l)
g_fix_goes_on c s o at r (Some e) f l =
    let t = turns_session s o (session.Fixing r) in
    let u = forgets t o in
    chain none worked whole s u (fix_goes_on c s o at r (Some e)) (within (plus none worked) whole refl)
    (chain (for_owner 0 0) none none s t u (within (plus (for_owner 0 0) none) none refl) (g_turns 0 s o (session.Fixing r) (omega arith) l) (g_forgets t o)) (g_fix_ends c u o at (owner_at s o).works.left f)

g_register_goes_on : (c : Config) (s : State) (o : ℕ) (r : RegSession) (anew : Bool) (e : Option RegEnd) → r.round.replicas ≤ 7 → Grew whole s (register_goes_on c s o r anew e)
g_register_goes_on c s o r anew (Some e) l =
    let t = turns_session s o (session.Register r) in
    let u = forgets t o in
    chain none (entered 1) whole s u (register_goes_on c s o r anew (Some e)) (within (plus none (entered 1)) whole refl)
    (chain (for_owner 0 0) none none s t u (within (plus (for_owner 0 0) none) none refl) (g_turns 0 s o (session.Register r) (omega arith) l) (g_forgets t o)) (g_register_ends c u o r.work e)
g_register_goes_on c s o r true None l =
    let u = forgets s o in
    chain none (going 7 0) whole s u (register_goes_on c s o r true None) (within (plus none (going 7 0)) whole refl) (g_forgets s o) (g_goes_on 7 0 u o (session.Register r) _ (omega arith) l (round_few r 7 l (omega arith)))
g_register_goes_on c s o r false None l = up (for_owner 0 0) s _ (within (for_owner 0 0) whole refl) (g_turns 0 s o (session.Register r) (omega arith) l)

g_stub_settles : (c : Config) (s : State) (o : ℕ) (at : Reading) (attempt : Attempt) (shards : List ℕ) (r : Reply) → FewOf c → length shards ≤ 16 → Grew whole s (stub_settles c s o at attempt shards r)
g_stub_settles c s o at attempt shards (reply.Decided outcome) f l =
    let outs = tells_decision attempt outcome shards in
    let t = sends s o outs in
    let u = plans_stub t o in
    let m = told_few attempt outcome shards in
    chain (sent 16) worked whole s u (stub_settles c s o at attempt shards (reply.Decided outcome)) (within (plus (sent 16) worked) whole refl)
    (chain (sent 16) none (sent 16) s t u (within (plus (sent 16) none) (sent 16) refl) (g_sends_upto 16 o outs s (omega (arith, l, m))) (g_plans_stub t o)) (g_goes_through c u o at (owner_at u o).works.left f)
g_stub_settles c s o at attempt shards reply.Wounded f l = stays s
g_stub_settles c s o at attempt shards (reply.Granted shown) f l = stays s
g_stub_settles c s o at attempt shards (reply.Wait holders) f l = stays s
g_stub_settles c s o at attempt shards (reply.Prepared time) f l = stays s
g_stub_settles c s o at attempt shards reply.Done f l = stays s
g_stub_settles c s o at attempt shards (reply.Outcome outcome) f l = stays s
g_stub_settles c s o at attempt shards reply.Open f l = stays s
g_stub_settles c s o at attempt shards reply.Released f l = stays s
g_stub_settles c s o at attempt shards (reply.Blocked holders) f l = stays s
g_stub_settles c s o at attempt shards (reply.Values versions skipped) f l = stays s
g_stub_settles c s o at attempt shards reply.Fixed f l = stays s
g_stub_settles c s o at attempt shards (reply.Held value stamp writer) f l = stays s
g_stub_settles c s o at attempt shards reply.Stored f l = stays s

g_owner_hears : (c : Config) (s : State) (o slot : ℕ) (at : Reading) (r : Reply) (x : Session) → FewOf c → (owner_at s o).session ≡ x → FewIn (owner_at s o).session → Grew whole s (owner_hears c s o slot at r x)
g_owner_hears c s o slot at r (session.Fixing g) f e h =
    let l : g.round.replicas ≤ 7 = subst FewIn e h in
    let m = after_same g (slot_replica slot) r in
    g_fix_goes_on c s o at (session_after g (slot_replica slot) r) (phase_end (session_after g (slot_replica slot) r).phase) f (omega (arith, l, m))
g_owner_hears c s o slot at r (session.Register g) f e h =
    let l : g.round.replicas ≤ 7 = subst FewIn e h in
    let m = after_same g (slot_replica slot) r in
    g_register_goes_on c s o (session_after g (slot_replica slot) r) (opens_round g.phase (session_after g (slot_replica slot) r).phase) (phase_end (session_after g (slot_replica slot) r).phase) (omega (arith, l, m))
g_owner_hears c s o slot at r (session.Transaction t) f e h = up turned s _ (within turned whole refl) (g_txn_turns c s o t _ e h (few_hears (length t.lines) t.k t (line_at t.lines (slot_shard slot)) at r (subst FewIn e h) refl refl))
g_owner_hears c s o slot at r (session.Snapshot t) f e h = up turned s _ (within turned whole refl) (g_snap_turns c s o t _ e h (snap_few_hears (length t.lines) t (line_at t.lines (slot_shard slot)) r (subst FewIn e h) refl))
g_owner_hears c s o slot at r (session.Settling attempt shards) f e h = g_stub_settles c s o at attempt shards r f (subst FewIn e h)
g_owner_hears c s o slot at r session.Idle f e h = stays s

listens_session : (s : State) (o slot : ℕ) → (owner_at (listens s o slot) o).session ≡ (owner_at s o).session
listens_session s o slot = grind (arith, looks)

g_reply_comes : (c : Config) (s : State) (o : ℕ) (at : Reading) (r : Reply) (slot : Option ℕ) → FewOf c → AllFew s → Grew whole s (reply_comes c s o at r slot)
g_reply_comes c s o at r None f h = stays s
g_reply_comes c s o at r (Some slot) f h =
    let t = listens s o slot in
    let e = listens_session s o slot in
    chain none whole whole s t (reply_comes c s o at r (Some slot)) (within (plus none whole) whole refl) (g_listens s o slot) (g_owner_hears c t o slot at r (owner_at s o).session f e (subst FewIn (sym e) (h o).session))

g_comes : (c : Config) (s : State) (m : ℕ) (at : Reading) (e : Envelope) (x : MessageBody) → FewOf c → AllFew s → Grew whole s (comes c s m at e x)
g_comes c s m at e (body.Request r) f h = g_request_comes s m e.owner at e.target r
g_comes c s m at e (body.Reply r) f h = g_reply_comes c s e.owner at r (slot_in (owner_at s e.owner).currents e.exchange) f h

-- LOSSES

g_target_lost : (c : Config) (s : State) (o : ℕ) (target : Target) (k : OwnerKind) → Grew whole s (target_lost c s o target k)
g_target_lost c s o target (kind.Calling x) = up (begun 1) s _ (within (begun 1) whole refl) (g_dies s (owner_at s o).stage Unavailable (CutOff target))
g_target_lost c s o target kind.Fencing = up (begun 1) s _ (within (begun 1) whole refl) (g_dies s (owner_at s o).stage Unavailable (CutOff target))
g_target_lost c s o target (kind.Stubbing u) = up none s _ (within none whole refl) (g_loses_stub c s o target)

g_is_cut_off : (c : Config) (s : State) (o : ℕ) (target : Target) → Grew whole s (is_cut_off c s o target)
g_is_cut_off c s o (Shard shard) = g_target_lost c s o (Shard shard) (owner_at s o).kind
g_is_cut_off c s o (Replica service replica) =
    let t = cuts_off s o (Replica service replica) in
    let u = target_lost c t o (Replica service replica) (owner_at s o).kind in
    cond_both (is_quorum_lost c.tries (owner_at s o).losses service (replicas_of c service)) u t (Grew whole s)
    (λ e. chain none whole whole s t u (within (plus none whole) whole refl) (g_cuts_off s o (Replica service replica)) (g_target_lost c t o (Replica service replica) (owner_at s o).kind))
    (λ e. up none s t (within none whole refl) (g_cuts_off s o (Replica service replica)))

g_asks_again : (s : State) (o slot : ℕ) (target : Target) (x : MessageBody) → Grew whole s (asks_again s o slot target x)
g_asks_again s o slot target (body.Request r) = up (sent 1) s _ (within (sent 1) whole refl) (g_sends_one s o (record { slot = Some slot; target = target; request = r }))
g_asks_again s o slot target (body.Reply r) = stays s

g_replaces : (s : State) (o : ℕ) (target : Target) (exchange : ℕ) (slot : Option ℕ) → Grew whole s (replaces s o target exchange slot)
g_replaces s o target exchange None = stays s
g_replaces s o target exchange (Some slot) = g_asks_again s o slot target (message_at s.net exchange).body

-- with the act and the loss
abbrev pub a_step : Budget
a_step = record { net = 32; owners = 1; entries = 18; acts = 1; next = 1; losses = 1; attempts = 1 }

g_loss_counts : (c : Config) (s : State) (o : ℕ) (e : Envelope) → Grew a_step s (loss_counts c s o e)
g_loss_counts c s o e =
    let t = counts_loss s o e.target in
    let g = g_counts_loss s o e.target in
    let w : Within (plus (for_owner 1 0) whole) a_step = within (plus (for_owner 1 0) whole) a_step refl in
    let cut = is_cut_off c t o e.target in
    let again = replaces t o e.target e.exchange (slot_in (owner_at t o).currents e.exchange) in
    let more = if nat_lt (losses_of (owner_at t o).losses e.target) c.tries then again else t in
    cond_both (reaches_tries c.tries (owner_at s o).losses e.target) cut more (Grew a_step s)
    (λ q. chain (for_owner 1 0) whole a_step s t cut w g (g_is_cut_off c t o e.target))
    (λ q. cond_both (nat_lt (losses_of (owner_at t o).losses e.target) c.tries) again t (Grew a_step s)
    (λ p. chain (for_owner 1 0) whole a_step s t again w g (g_replaces t o e.target e.exchange _))
    (λ p. grew_more (for_owner 1 0) a_step s t (within (for_owner 1 0) a_step refl) g))

g_loses : (c : Config) (s : State) (e : Envelope) → Grew a_step s (loses c s e)
g_loses c s e = cond_both (is_running (owner_at s e.owner).fate) (loss_counts c s e.owner e) s (Grew a_step s) (λ q. g_loss_counts c s e.owner e) (λ q. grew_more none a_step s s (within none a_step refl) (still s))

-- STUBS

g_settles : (s : State) (o : ℕ) (attempt : Attempt) (shards : List ℕ) → length shards ≤ 16 → Grew whole s (settles s o attempt shards)
g_settles s o attempt shards l =
    let t = starts_stub s o in
    chain none (going 1 0) whole s t (settles s o attempt shards) (within (plus none (going 1 0)) whole refl) (g_starts_stub s o) (g_goes_on 1 0 t o (session.Settling attempt shards) (line_out (least_shard shards) (request.Decide attempt false 0) ∷ []) (omega arith) l (omega arith))

g_stub_starts : (c : Config) (s : State) (o : ℕ) (at : Reading) (k : OwnerKind) → FewOf c → FewKind k → Grew whole s (stub_starts c s o at k)
g_stub_starts c s o at (kind.Stubbing (Some u)) f h = g_settles s o u.0 u.1 h
g_stub_starts c s o at (kind.Stubbing None) f h =
    let t = plans_stub s o in
    chain none worked whole s t (stub_starts c s o at (kind.Stubbing None)) (within (plus none worked) whole refl) (g_plans_stub s o) (g_goes_through c t o at (owner_at t o).works.left f)
g_stub_starts c s o at (kind.Calling x) f h = stays s
g_stub_starts c s o at kind.Fencing f h = stays s

g_stub_acts : (c : Config) (s : State) (o : ℕ) (at : Reading) (started : Bool) → FewOf c → AllFew s → Grew whole s (stub_acts c s o at started)
g_stub_acts c s o at false f h = g_stub_starts c s o at (owner_at s o).kind f (h o).kind
g_stub_acts c s o at true f h = up worked s _ (within worked whole refl) (g_ends_work c s o at (owner_at s o).works.left f)

g_stub_of_stage : (c : Config) (s : State) (o : Option ℕ) (at : Reading) → FewOf c → AllFew s → Grew whole s (stub_of_stage c s o at)
g_stub_of_stage c s None at f h = stays s
g_stub_of_stage c s (Some o) at f h = g_stub_acts c s o at (owner_at s o).started f h

-- any step
pub g_effect : (c : Config) (s : State) (at : Reading) (x : StepKind) → FewOf c → AllFew s → Grew a_step s (effect c s at x)
unfolding effect
g_effect c s at (Act n) f h =
    let t = counts_act s n in
    let g = g_counts_act s n in
    chain one_act whole a_step s t (acts c t n at (stage_at s n).owner) (within (plus one_act whole) a_step refl) g (g_acts c t n at (stage_at s n).owner f (g.few h))
g_effect c s at (Go m) f h =
    let t = marks_message s m fate.Delivered in
    chain none whole a_step s t (comes c t m at (message_at s.net m).envelope (message_at s.net m).body) (within (plus none whole) a_step refl) (g_marks s m fate.Delivered) (g_comes c t m at (message_at s.net m).envelope (message_at s.net m).body f h)
g_effect c s at (Again m) f h =
    let t = marks_message s m fate.Repeated in
    chain none whole a_step s t (comes c t m at (message_at s.net m).envelope (message_at s.net m).body) (within (plus none whole) a_step refl) (g_marks s m fate.Repeated) (g_comes c t m at (message_at s.net m).envelope (message_at s.net m).body f h)
g_effect c s at (Lose m) f h =
    let t = marks_message s m fate.Lost in
    chain none a_step a_step s t (loses c t (message_at s.net m).envelope) (within (plus none a_step) a_step refl) (g_marks s m fate.Lost) (g_loses c t (message_at s.net m).envelope)
g_effect c s at (Kill n) f h = grew_more (begun 1) a_step s _ (within (begun 1) a_step refl) (g_dies s n Killed Dropped)
g_effect c s at (Stub n) f h = grew_more whole a_step s _ (within whole a_step refl) (g_stub_of_stage c s (stage_at s n).stub at f h)
