-- The moves of the machine: all changes of its state are made of these, and rows only choose among
-- them. Some are made of smaller ones that stand before them.
use Rattle.std.specs.Prelude.{ℕ, suc, ◌+◌, ◌-◌, max, Bool, true, false, ◌==◌, List, [], ◌∷◌, ◌++◌, drop, length, get_or, set, map, Option, Some, None, if◌then◌else◌}
use Rattle.truetime.specs.Reading.{Reading}
use Rattle.truetime.specs.TrueMoment.{moment_after}
use Rattle.rss_names.specs.declared.service.Key.{Key}
use Rattle.rss_names.specs.declared.service.ServiceId.{ServiceId}
use Rattle.rss_names.specs.declared.service.Target.{Target}
use Rattle.rss_names.specs.declared.service.Target.TheVariants.{Shard, Replica}
use Rattle.rss_names.specs.declared.attempt.Attempt.{Attempt}
use Rattle.causal_context.specs.Seen.{Seen, after_fence, fenced_outside, entered, deps_cleared, context_joined}
use Rattle.causal_context.specs.Services.{place_of}
use Rattle.pipeline_lang.specs.declared.config.Config.{Config}
use Rattle.pipeline_lang.specs.declared.config.PipeEnds.{PipeEnds}
use Rattle.rss_model.specs.declared.op.Op.{Op}
use Rattle.rss_model.specs.declared.op.Shown.{Shown}
use Rattle.rss_model.specs.declared.history.Entry.{Entry}
use Rattle.rss_model.specs.declared.history.Entry.TheVariants.{Begin, End, Give, Get, Over}
use Rattle.rss_model.specs.declared.history.Token.{Token}
use Rattle.rss_model.specs.declared.history.Token.TheVariants as token
use Rattle.rss_model.specs.declared.history.How.{How}
use Rattle.rss_model.specs.declared.history.How.TheVariants.{Exited}
use Rattle.rss_model.specs.Cursor.{Cursor}
use Rattle.rss_wire.specs.declared.message.Fate.{Fate}
use Rattle.rss_wire.specs.declared.message.Fate.TheVariants as fate
use Rattle.rss_wire.specs.declared.messages.Request.{Request}
use Rattle.rss_wire.specs.Messages.{asks, answers, meets, message_at}
use Rattle.rss_tables.specs.declared.fences.FenceWork.{FenceWork}
use Rattle.rss_tables.specs.Losses.{one_more_lost}
use Rattle.rss_tables.specs.Outs.{Out, replica_slot}
use Rattle.rss_tables.specs.Pipes.{Pipe, pipe_put, pipe_taken, pipe_closed, pipe_cut_off, is_marked}
use Rattle.rss_tables.specs.RegisterSession.{RegSession}
use Rattle.rss_tables.specs.ReplicaRow.{replica_after, replica_reply}
use Rattle.rss_tables.specs.Round.{cuts}
use Rattle.rss_tables.specs.ShardRow.{shard_after, shard_reply}
use Rattle.rss_tables.specs.Works.{Plan, Works, no_works, planned, plan_for, plan_all}
use Rattle.rss_names.specs.Services.{same_service}
use Rattle.rss_machine.specs.Marks.{raised_by, is_store, notes_keys}
use Rattle.rss_machine.specs.Session.{Session, service_of, left_unsettled}
use Rattle.rss_machine.specs.declared.session.Session.TheVariants as session
use Rattle.rss_machine.specs.Slots.{with_current, without_target}
use Rattle.rss_machine.specs.State.{State, Stage, Owner, stage_at, owner_at, pipe_at, shard_at, cells_at, replicas_at, service_index, opening_owner, no_currents}
use Rattle.rss_machine.specs.declared.session.OwnerKind.{OwnerKind}
use Rattle.rss_machine.specs.declared.session.OwnerKind.TheVariants as kind
use Rattle.rss_machine.specs.declared.state.Dates.{Dates}
use Rattle.rss_machine.specs.declared.state.Life.TheVariants as life
use Rattle.rss_machine.specs.declared.state.OwnerFate.{OwnerFate}
use Rattle.rss_machine.specs.declared.state.OwnerFate.TheVariants.{Running, Ended, Dropped, CutOff}

-- THE CLOCK AND THE NET

-- the step is counted, and its reading taken
abbrev pub ticks : State → Reading → State
ticks s at = record s {
  steps = s.steps + 1;
  moment = moment_after s.moment at;
  moments = s.moments ++ moment_after s.moment at ∷ [];
}

-- a message meets a fate: it is delivered, repeated or lost
abbrev pub marks_message : State → ℕ → Fate → State
marks_message s m f = record s { net = meets s.net m f }

-- an owner in the place of what it was
abbrev pub with_owner : State → ℕ → Owner → State
with_owner s o owner = record s { owners = set s.owners o owner }

-- an owner sends a request, whose exchange becomes the current one of its slot, if it has one
abbrev pub sends_one : State → ℕ → Out → State
sends_one s o out = record s {
  net = asks s.net o (owner_at s o).stage out.target out.request;
  owners = set s.owners o (record (owner_at s o) { currents = with_current (owner_at s o).currents out.slot (length s.net) });
}

-- an owner sends requests, in order
abbrev pub sends : State → ℕ → List Out → State
sends s o [] = s
sends s o (out ∷ outs) = sends (sends_one s o out) o outs

-- a shard serves a request, and its reply is sent
abbrev pub serves_shard : State → ℕ → ℕ → ℕ → Request → State
serves_shard s m shard latest r = record s {
  shards = set s.shards (shard - 1) (shard_after (shard_at s shard) latest r);
  net = answers s.net m (shard_reply (shard_at s shard) latest r);
}

-- a replica serves a request, and its reply is sent
abbrev pub serves_replica : State → ℕ → ServiceId → ℕ → Request → State
serves_replica s m service replica r = record s {
  replicas = set s.replicas (service_index service) (set (replicas_at s service) (replica - 1) (replica_after (cells_at s service replica) r));
  net = answers s.net m (replica_reply (cells_at s service replica) r);
}

-- what a served request leaves noted: that its call's store was handled, and what a majority then
-- holds of the registers on which it may have raised a stamp
abbrev pub notes_served : State → ℕ → ServiceId → Request → State
notes_served s o service r = record s {
  owners = set s.owners o (record (owner_at s o) { stored = if is_store r then true else (owner_at s o).stored });
  marks = notes_keys (replicas_at s service) s.steps (raised_by r) s.marks;
}

-- OWNERS

-- a stage in the place of what it was
abbrev pub with_stage : State → ℕ → Stage → State
with_stage s n stage = record s { stages = set s.stages (n - 1) stage }

-- one more fence is planned of a service
abbrev pub one_more_at : Option ℕ → List ℕ → List ℕ
one_more_at None counts = counts
one_more_at (Some place) counts = set counts place (get_or counts place 0 + 1)

-- the fences of a plan are counted, each with its service
abbrev pub counts_fences : List (ServiceId × FenceWork) → List ℕ → List ℕ
counts_fences [] counts = counts
counts_fences (work ∷ works) counts = counts_fences works (one_more_at (place_of work.0) counts)

-- a stage begins a call, as the owner of the next number, with its plan
abbrev pub opens_call : State → ℕ → Op → State
opens_call s n op =
    let plan = plan_for (stage_at s n).context (service_of op) in
    record s {
      owners = s.owners ++ opening_owner n (kind.Calling op) true (planned (stage_at s n).context plan) s.steps ∷ [];
      stages = set s.stages (n - 1) (record (stage_at s n) { owner = Some (length s.owners) });
      planned = counts_fences plan.fences s.planned;
      history = s.history ++ Begin (length s.owners) n op ∷ [];
    }

-- a stage begins a fence statement likewise
abbrev pub opens_fence : State → ℕ → State
opens_fence s n =
    let plan = plan_all (stage_at s n).context in
    record s {
      owners = s.owners ++ opening_owner n kind.Fencing true (planned (stage_at s n).context plan) s.steps ∷ [];
      stages = set s.stages (n - 1) (record (stage_at s n) { owner = Some (length s.owners) });
      planned = counts_fences plan.fences s.planned;
    }

-- a stub has started
abbrev pub starts_stub : State → ℕ → State
starts_stub s o = with_owner s o (record (owner_at s o) { started = true })

-- a stub plans the fences of its context
abbrev pub plans_stub : State → ℕ → State
plans_stub s o =
    let plan = plan_all (owner_at s o).works.copy in
    record s {
      owners = set s.owners o (record (owner_at s o) { started = true; session = session.Idle; works = planned (owner_at s o).works.copy plan });
      planned = counts_fences plan.fences s.planned;
    }

-- an owner waits for a time
abbrev pub waits_for : State → ℕ → ℕ → State
waits_for s o time = with_owner s o (record (owner_at s o) { works = record (owner_at s o).works { wait = Some time } })

-- the first of an owner's works, the fence of this service, has ended
abbrev pub fence_ends : State → ℕ → ServiceId → State
fence_ends s o id = with_owner s o (record (owner_at s o) {
  works = record (owner_at s o).works {
    copy = after_fence (owner_at s o).works.copy id;
    left = drop 1 (owner_at s o).works.left;
    wait = None;
  };
  session = session.Idle;
})

-- a call enters its service
abbrev pub enters : State → ℕ → ServiceId → ℕ → State
enters s o id latest = with_owner s o (record (owner_at s o) {
  works = record (owner_at s o).works { copy = entered (owner_at s o).works.copy id latest; enter = false };
  dates = record (owner_at s o).dates { entered = s.steps };
})

-- what an owner has under way changes
abbrev pub turns_session : State → ℕ → Session → State
turns_session s o session = with_owner s o (record (owner_at s o) { session = session })

-- an owner begins a round of dependencies, or goes on with a session, and sends its requests
abbrev pub goes_on : State → ℕ → Session → List Out → State
goes_on s o session outs = sends (turns_session s o session) o outs

-- the dependencies of a call's copy are stored at a majority
abbrev pub clears : State → ℕ → State
clears s o = with_owner s o (record (owner_at s o) {
  works = record (owner_at s o).works { copy = deps_cleared (owner_at s o).works.copy };
  session = session.Idle;
})

-- a call begins its own session, and sends its first round
abbrev pub launches : State → ℕ → Session → List Out → State
launches s o session outs =
    sends (with_owner s o (record (owner_at s o) { session = session; dates = record (owner_at s o).dates { launched = s.steps } })) o outs

-- the current exchange of a slot has ended
abbrev pub listens : State → ℕ → ℕ → State
listens s o slot = with_owner s o (record (owner_at s o) { currents = set (owner_at s o).currents slot None })

-- no exchange of an owner is current any more
abbrev pub forgets : State → ℕ → State
forgets s o = with_owner s o (record (owner_at s o) { currents = no_currents })

-- one more message between an owner and a target is lost
abbrev pub counts_loss : State → ℕ → Target → State
counts_loss s o target = with_owner s o (record (owner_at s o) { losses = one_more_lost (owner_at s o).losses target })

-- a round over the replicas of a service goes on without one of them
abbrev pub round_without : RegSession → ServiceId → ℕ → RegSession
round_without r service replica =
    if same_service r.service service then record r { round = cuts r.round replica } else r

abbrev pub session_without : Session → Target → Session
session_without (session.Fixing r) (Replica service replica) = session.Fixing (round_without r service replica)
session_without (session.Register r) (Replica service replica) = session.Register (round_without r service replica)
session_without (session.Fixing r) (Shard shard) = session.Fixing r
session_without (session.Register r) (Shard shard) = session.Register r
session_without session.Idle target = session.Idle
session_without (session.Transaction t) target = session.Transaction t
session_without (session.Snapshot t) target = session.Snapshot t
session_without (session.Settling attempt shards) target = session.Settling attempt shards

-- a replica is cut off from an owner: no exchange with it is current, and its round goes on without it
abbrev pub cuts_off : State → ℕ → Target → State
cuts_off s o target = with_owner s o (record (owner_at s o) {
  currents = without_target s.net target (owner_at s o).currents;
  session = session_without (owner_at s o).session target;
})

-- an owner is closed
abbrev pub closed : State → ℕ → OwnerFate → Owner
closed s o f = record (owner_at s o) {
  fate = f;
  currents = no_currents;
  dates = record (owner_at s o).dates { ended = s.steps };
}

-- a call ends with a reply: its stage goes on behind it, with this context
abbrev pub ends_call : State → ℕ → List Shown → Cursor → Seen → State
ends_call s o shown cursor seen = record s {
  owners = set s.owners o (closed s o Ended);
  stages = set s.stages ((owner_at s o).stage - 1) (record (stage_at s (owner_at s o).stage) {
    cursor = cursor;
    context = seen;
    owner = None;
  });
  history = s.history ++ End o shown ∷ [];
}

-- a fence statement ends likewise
abbrev pub ends_fence : State → ℕ → Cursor → Seen → State
ends_fence s o cursor seen = record s {
  owners = set s.owners o (closed s o Ended);
  stages = set s.stages ((owner_at s o).stage - 1) (record (stage_at s (owner_at s o).stage) {
    cursor = cursor;
    context = seen;
    owner = None;
  });
}

-- STAGES

-- a stage makes an act
abbrev pub counts_act : State → ℕ → State
counts_act s n = with_stage s n (record (stage_at s n) { acts = (stage_at s n).acts + 1 })

-- a stage goes on to a place in its script
abbrev pub moves_on : State → ℕ → Cursor → State
moves_on s n cursor = with_stage s n (record (stage_at s n) { cursor = cursor })

-- a stage spawns another, which lives from then on with a copy of its context
abbrev pub spawns : State → ℕ → ℕ → Cursor → State
spawns s n child cursor = record s {
  stages = set (set s.stages (n - 1) (record (stage_at s n) { cursor = cursor })) (child - 1) (record (stage_at s child) {
    life = life.Live;
    context = (stage_at s n).context;
  });
  history = s.history ++ Give n (token.Spawn child) ∷ Get child (token.Spawn child) ∷ [];
}

-- a stage gets a token, and joins the context that lies with it
abbrev pub receives : State → ℕ → Token → Seen → Cursor → State
receives s n t seen cursor = record s {
  stages = set s.stages (n - 1) (record (stage_at s n) { cursor = cursor; context = context_joined (stage_at s n).context seen });
  history = s.history ++ Get n t ∷ [];
}

-- a pipe in the place of what it was
abbrev pub with_pipe : State → ℕ → Pipe → State
with_pipe s p pipe = record s { pipes = set s.pipes (p - 1) pipe }

-- the first chunk of a pipe is taken out
abbrev pub takes_chunk : State → ℕ → State
takes_chunk s p = with_pipe s p (pipe_taken (pipe_at s p))

-- a stage puts a value into a pipe with a copy of its context; where nobody will take it, it is dropped
abbrev pub puts : State → ℕ → ℕ → ℕ → Bool → Cursor → State
puts s n p value dropped cursor = record s {
  stages = set s.stages (n - 1) (record (stage_at s n) { cursor = cursor });
  pipes = set s.pipes (p - 1) (pipe_put (pipe_at s p) value (stage_at s n).context dropped);
  history = s.history ++ Give n (token.Chunk p (pipe_at s p).next) ∷ [];
}

-- a pipe gets its end mark from a stage, with a context
abbrev pub closes : State → ℕ → Seen → ℕ → State
closes s n seen p = record s {
  pipes = set s.pipes (p - 1) (pipe_closed (pipe_at s p) seen);
  history = s.history ++ Give n (token.Chunk p (pipe_at s p).next) ∷ [];
}

-- a pipe gets a bare end mark
abbrev pub cuts_pipe : State → ℕ → State
cuts_pipe s p = with_pipe s p (pipe_cut_off (pipe_at s p))

-- whether a pipe is from a stage and has no end mark yet
abbrev pub is_to_end : Config → State → ℕ → ℕ → Bool
is_to_end c s n p = if (get_or c.pipe_ends (p - 1) record { giver = 0; taker = 0; capacity = 0 }).giver == n then (if is_marked (pipe_at s p).mark then false else true) else false

-- each of these many pipes from a number on that is from a stage and not closed gets its end mark, in file order
abbrev pub closes_from : Config → State → ℕ → Seen → ℕ → List PipeEnds → State
closes_from c s n seen p [] = s
closes_from c s n seen p (ends ∷ rest) =
    closes_from c (if is_to_end c s n p then closes s n seen p else s) n seen (p + 1) rest

-- each of them gets a bare end mark
abbrev pub cuts_from : Config → State → ℕ → ℕ → List PipeEnds → State
cuts_from c s n p [] = s
cuts_from c s n p (ends ∷ rest) = cuts_from c (if is_to_end c s n p then cuts_pipe s p else s) n (p + 1) rest

-- all pipes of a stage end fenced, and its exit is given
abbrev pub gives_exit : Config → State → ℕ → Seen → State
gives_exit c s n seen =
    let t = closes_from c s n seen 1 c.pipe_ends in
    record t { history = t.history ++ Give n (token.Exit n) ∷ [] }

-- a stage exits
abbrev pub exits : Config → State → ℕ → State
exits c s n =
    gives_exit c (record s {
      stages = set s.stages (n - 1) (record (stage_at s n) { life = life.Over Exited });
      history = s.history ++ Over n Exited ∷ [];
    }) n (stage_at s n).context

-- the fate of the owner that a stage leaves when it dies, if it has one
abbrev pub closes_owner : State → Option ℕ → OwnerFate → State
closes_owner s None f = s
closes_owner s (Some o) f = with_owner s o (closed s o f)

-- what the owner under way leaves unsettled
abbrev pub unsettled_by : State → Option ℕ → Option (Attempt × List ℕ)
unsettled_by s None = None
unsettled_by s (Some o) = left_unsettled (owner_at s o).session

-- a stage dies: its owner is closed, and its stub begins with a copy of its context
abbrev pub dies : State → ℕ → How → OwnerFate → State
dies s n how f =
    let stub = opening_owner n (kind.Stubbing (unsettled_by s (stage_at s n).owner)) false (no_works (stage_at s n).context) s.steps in
    let t = closes_owner s (stage_at s n).owner f in
    record t {
      owners = t.owners ++ stub ∷ [];
      stages = set t.stages (n - 1) (record (stage_at t n) { life = life.Over how; owner = None; stub = Some (length t.owners) });
      history = t.history ++ Over n how ∷ [];
    }

-- a stub is done and fenced: the pipes of its stage end with its context, and its exit is given
abbrev pub ends_stub : Config → State → ℕ → State
ends_stub c s o =
    let seen = fenced_outside (owner_at s o).works.copy in
    gives_exit c (with_owner s o (record (closed s o Ended) { works = record (owner_at s o).works { copy = seen } })) (owner_at s o).stage seen

-- a stub is cut off: the pipes of its stage end bare
abbrev pub loses_stub : Config → State → ℕ → Target → State
loses_stub c s o target =
    cuts_from c (with_owner s o (closed s o (CutOff target))) (owner_at s o).stage 1 c.pipe_ends
