-- All that holds of transactions, snapshots and shards holds in every run: each event keeps it.
use Rattle.std.proofs.Common.{true, if◌then◌else◌, ◌≡◌, ℕ, ◌+◌, List, [], ◌∷◌, ◌++◌, All, length, Some, refl, ap, ◌∙◌, arith}
use Rattle.truetime.specs.Reading.{Reading}
use Rattle.truetime.specs.TrueMoment.{moment_after}
use Rattle.pipeline_lang.specs.declared.config.Config.{Config}
use Rattle.rss_tables.specs.TransactionSession.{TxnSession}
use Rattle.rss_tables.specs.declared.lines.LineState.TheVariants.{Awaiting, Dropped}
use Rattle.rss_tables.specs.declared.phases.TxnPhase.{TxnPhase}
use Rattle.rss_tables.specs.declared.phases.TxnPhase.TheVariants as phases
use Rattle.rss_machine.specs.Moves.{ticks}
use Rattle.rss_machine.specs.Run.{run, readings_of}
use Rattle.rss_machine.specs.State.{State, start}
use Rattle.rss_machine.specs.declared.step.Step.{Step}
use Rattle.world_laws.specs.Laws.{IsOrdered}
use Rattle.world_laws.proofs.Looks.{looks}
use Rattle.world_laws.proofs.Replies.{exchanges_run}
use Rattle.shard_event_laws.specs.Events.{Event}
use Rattle.shard_event_laws.specs.Known.{Known}
use Rattle.shard_event_laws.proofs.Runs.{events_run}
use Rattle.txn_state_laws.specs.Awaited.{AnswersHeard}
use Rattle.txn_state_laws.specs.Dated.{AllDated}
use Rattle.txn_state_laws.specs.Decided.{AllDecided}
use Rattle.txn_laws.specs.Files.{NamesKeys}
use Rattle.txn_state_laws.specs.Fresh.{AllFresh}
use Rattle.txn_state_laws.specs.Justified.{AllJust}
use Rattle.txn_state_laws.specs.Onward.{AllOnward, Between}
use Rattle.txn_state_laws.specs.Orderly.{AllOrderly, AllInOrder}
use Rattle.txn_state_laws.specs.Passed.{AllPassed}
use Rattle.txn_state_laws.specs.Told.{AllTold}
use Rattle.txn_state_laws.specs.Voted.{AllVoted}
use Rattle.txn_session_laws.specs.Standing.{UnderWay, is_led, TxnLed, AllLed}
use Rattle.txn_session_laws.proofs.UnderWay.{under_way_keeps, under_way_start, under_way_ticks, under_way_hears}
use Rattle.txn_session_laws.specs.Alone.{is_alone, IsAlone, AllAlone}
use Rattle.txn_session_laws.specs.Undone.{NeverUndone}
use Rattle.txn_session_laws.proofs.Goes.{onward}
use Rattle.txn_session_laws.proofs.Never.{no}
use Rattle.txn_session_laws.proofs.Tells.{told_keeps, told_start, told_ticks}
use Rattle.txn_decision_laws.specs.Calm.{AllCalm}
use Rattle.txn_decision_laws.proofs.CalmKeeps.{calm_keeps}
use Rattle.txn_decision_laws.proofs.DecidedKeeps.{decided_keeps}
use Rattle.txn_decision_laws.proofs.Heard.{never_undone}
use Rattle.txn_decision_laws.proofs.JustKeeps.{just_keeps}
use Rattle.txn_decision_laws.proofs.DecisionStarts.{calm_start, calm_ticks, just_start, just_ticks, decided_start, decided_ticks}
use Rattle.txn_shard_laws.proofs.InOrder.{in_order}
use Rattle.txn_shard_laws.proofs.OrderKeeps.{orderly_keeps}
use Rattle.txn_shard_laws.proofs.OrderStarts.{orderly_start, orderly_ticks}
use Rattle.txn_shard_laws.proofs.VoteKeeps.{voted_keeps, voted_start, voted_ticks}
use Rattle.txn_shard_laws.specs.Unreleased.{AllClosing}
use Rattle.txn_shard_laws.proofs.Closed.{closing_keeps}
use Rattle.txn_shard_laws.proofs.ClosedStarts.{closing_start, closing_ticks}
use Rattle.txn_shard_laws.proofs.PassedKeeps.{passed_keeps, passed_start, passed_ticks}
use Rattle.txn_decision_laws.proofs.Entered.{entered_run}
use Rattle.txn_decision_laws.proofs.DateKeeps.{dated_keeps}
use Rattle.txn_decision_laws.proofs.DateStarts.{dated_start, dated_ticks}
use Rattle.txn_shard_laws.proofs.FreshKeeps.{fresh_keeps, fresh_start, fresh_ticks}
use Rattle.fence_laws.proofs.StepsOf.{moments_run}
use Rattle.txn_line_laws.proofs.Facts.{Facts}

pub record AllTrue (c : Config) (s : State) : Type 0 where
  pub under : UnderWay c s
  pub calm : AllCalm s
  pub told : AllTold s
  pub just : AllJust s
  pub decided : AllDecided s
  pub orderly : AllOrderly c s
  pub voted : AllVoted s
  pub closing : AllClosing s
  pub passed : AllPassed s
  pub dated : AllDated s
  pub fresh : AllFresh s
  pub long : length s.moments ≡ s.steps

true_start : (c : Config) → AllTrue c (start c)
true_start c = record {
  under = under_way_start c;
  calm = calm_start c;
  told = told_start c;
  just = just_start c;
  decided = decided_start c;
  orderly = orderly_start c;
  voted = voted_start c;
  closing = closing_start c;
  passed = passed_start c;
  dated = dated_start c;
  fresh = fresh_start c;
  long = refl;
}

true_ticks : (c : Config) (s : State) (at : Reading) → AllTrue c s → AllTrue c (ticks s at)
true_ticks c s at h = record {
  under = under_way_ticks c s at h.under;
  calm = calm_ticks s at h.calm;
  told = told_ticks s at h.told;
  just = just_ticks s at h.just;
  decided = decided_ticks s at h.decided;
  orderly = orderly_ticks c s at h.orderly;
  voted = voted_ticks s at h.voted;
  closing = closing_ticks s at h.closing;
  passed = passed_ticks s at h.passed;
  dated = dated_ticks s at h.long h.dated;
  fresh = fresh_ticks s at h.fresh;
  long = more s.moments (moment_after s.moment at) ∙ ap (λ (n : ℕ). n + 1) h.long;
}
  where
    more : (ms : List ℕ) (x : ℕ) → length (ms ++ x ∷ []) ≡ length ms + 1
    more ms x = grind (arith, looks)

-- where the coordinator alone is asked, the lines of the others are dropped
led_where_alone : (phase : TxnPhase) → is_alone phase ≡ true → is_led phase ≡ true
led_where_alone phases.Locking e = no e
led_where_alone phases.Preparing e = no e
led_where_alone (phases.Freeing time) e = no e
led_where_alone (phases.FreeingLast time) e = refl
led_where_alone (phases.Deciding time) e = refl
led_where_alone phases.Undoing e = refl
led_where_alone (phases.Waiting time) e = no e
led_where_alone (phases.Committed time) e = no e
led_where_alone (phases.Failed time) e = no e

is_other : (x : TxnSession) → TxnLed x → IsAlone x
is_other x h = record { others = λ p place m e. h.each (led_where_alone x.phase p) place m ∙ ap (λ b. if b then Awaiting else Dropped) e }

all_alone : (s : State) → AllLed s → AllAlone s
all_alone s h = record { txn = λ o x e. is_other x (h.txn o x e) }

module _ (c : Config) (names : NamesKeys c) (at : Reading) (s t : State) (known : Known at s) (known_after : Known at t) (event : Event c at s t) (h : AllTrue c s) where
  heard : AnswersHeard s
  heard = under_way_hears c at s known h.under

  never : NeverUndone s
  never = record { never = never_undone c at s h.under.framed (under_way_hears c at s known h.under) h.decided }

  under : UnderWay c t
  under = under_way_keeps c at s t names known event h.under

  on : AllOnward s t
  on = onward c at s t known h.under.framed heard never event

  told : AllTold t
  told = told_keeps c at s t known known_after h.under.framed heard never (all_alone s h.under.led) on event h.told

  between : Between c at s t
  between = record {
    names = names;
    event = event;
    known = known;
    known_after = known_after;
    framed = h.under.framed;
    framed_after = under.framed;
    heard = heard;
    told = h.told;
    told_after = told;
    onward = on;
  }

  decided : AllDecided t
  decided = decided_keeps c at s t between h.just h.decided

  orders : AllInOrder s
  orders = in_order c s h.under.framed h.told h.just h.decided h.orderly h.voted

  dated : AllDated t
  dated = dated_keeps c at s t between h.just h.orderly h.dated

  true_keeps : AllTrue c t
  true_keeps = record {
    under = under;
    calm = calm_keeps c at s t between h.calm;
    told = told;
    just = just_keeps c at s t between h.calm h.just h.decided;
    decided = decided;
    orderly = orderly_keeps c at s t between h.just orders h.orderly;
    voted = voted_keeps c at s t between h.just h.decided decided h.orderly orders h.voted;
    closing = closing_keeps c at s t between h.just h.decided decided h.orderly orders h.closing;
    passed = passed_keeps c at s t between h.just h.decided decided h.orderly orders h.passed;
    dated = dated;
    fresh = fresh_keeps c at s t between h.decided h.orderly h.voted h.passed h.dated dated h.fresh;
    long = known_after.long;
  }

pub true_run : (c : Config) (steps : List Step) (s : State) → NamesKeys c → All IsOrdered (readings_of steps) → run c steps ≡ Some s → AllTrue c s
true_run c steps s n a e = events_run c (AllTrue c) (true_ticks c) (λ at u t k l x h. true_keeps c n at u t k l x h) (true_start c) steps s a e

pub facts_run : (c : Config) (steps : List Step) (s : State) → NamesKeys c → All IsOrdered (readings_of steps) → run c steps ≡ Some s → Facts c s
facts_run c steps s n a e = let h = true_run c steps s n a e in record {
  sound = exchanges_run c steps s e;
  framed = h.under.framed;
  told = h.told;
  decided = h.decided;
  orderly = h.orderly;
  voted = h.voted;
  closed = h.closing.closed;
  dated = h.dated;
  fresh = h.fresh;
  rises = moments_run c steps s e;
  entered = entered_run c steps s a e;
}
