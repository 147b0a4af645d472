-- What the lines of transactions and snapshots were told, in every state.
use Rattle.std.proofs.Common.{◌≡◌, ℕ, ◌<◌, max, false, List, [], length, Option, refl, sym, ap, ◌∙◌, arith}
use Rattle.std.proofs.lemmas.Bool.{true≢false}
use Rattle.truetime.specs.Reading.{Reading}
use Rattle.rss_names.specs.declared.service.Key.{Key}
use Rattle.pipeline_lang.specs.Config.{home_of}
use Rattle.pipeline_lang.specs.declared.config.Config.{Config}
use Rattle.pipeline_lang.specs.declared.script.Compare.{Compare}
use Rattle.pipeline_lang.specs.declared.script.Expr.{Expr}
use Rattle.rss_tables.specs.Lines.{Line, lines_of, is_answered}
use Rattle.rss_tables.specs.SnapshotSession.{SnapSession, opening_snapshot}
use Rattle.rss_tables.specs.TransactionSession.{TxnSession, opening_txn, written_keys}
use Rattle.rss_tables.specs.declared.phases.SnapPhase.{SnapPhase}
use Rattle.rss_tables.specs.declared.phases.SnapPhase.TheVariants.{First, Done}
use Rattle.rss_machine.specs.Moves.{ticks}
use Rattle.rss_machine.specs.State.{State, start, owner_at}
use Rattle.rss_machine.specs.declared.session.Session.TheVariants as session
use Rattle.session_laws.specs.Frames.{nth_line}
use Rattle.session_laws.proofs.Frames.{lines_of_opened}
use Rattle.shard_event_laws.specs.Events.{Event}
use Rattle.shard_event_laws.specs.Facts.{NetGrows}
use Rattle.shard_event_laws.specs.Known.{Known}
use Rattle.txn_state_laws.specs.Awaited.{AnswersHeard}
use Rattle.txn_state_laws.specs.Framed.{AllFramed}
use Rattle.txn_state_laws.specs.Onward.{AllOnward}
use Rattle.txn_state_laws.specs.Told.{IsFinal, LineTold, SnapLineTold, AllTold}
use Rattle.txn_session_laws.specs.Alone.{IsAlone, AllAlone}
use Rattle.txn_session_laws.specs.Undone.{NeverUndone}
use Rattle.txn_session_laws.proofs.OnwardOwners.{start_without, start_without_snap}
use Rattle.txn_session_laws.proofs.Replies.{replied_grows, replied_ticks, own_replied, snap_replied}
use Rattle.txn_session_laws.proofs.SnapTold.{SnapTold}
use Rattle.txn_session_laws.proofs.SnapToldTurns.{snap_turn_told, snap_wake_told}
use Rattle.txn_session_laws.proofs.Steps.{TxnSteps, SnapSteps, each_txn, each_snap}
use Rattle.txn_session_laws.proofs.ToldLines.{told_grows}
use Rattle.txn_session_laws.proofs.ToldParts.{Told, nothing_told, nothing_known}
use Rattle.txn_session_laws.proofs.ToldTurns.{turn_told, wake_told, pass_told}
use Rattle.txn_session_laws.proofs.Never.{none}

-- what lines of a snapshot were told stays, when the net grows
final_grows : (at : Reading) (s t : State) (x : SnapSession) (l : Line) (time : ℕ) → Known at s → NetGrows s t → IsFinal s x l time → IsFinal t x l time
final_grows at s t x l time known grows h = record { read_time = h.read_time; skip = h.skip; replied = replied_grows at s t _ _ _ known grows h.replied; upto = h.upto; passed = h.passed; below = h.below }

snap_grows : (at : Reading) (s t : State) (x : SnapSession) (l : Line) → Known at s → NetGrows s t → SnapLineTold s x l → SnapLineTold t x l
snap_grows at s t x l known grows h = record {
  first = λ read_time e a. replied_grows at s t _ _ _ known grows (h.first read_time e a);
  final = λ time e a. final_grows at s t x l time known grows (h.final time e a);
  done = h.done;
}

-- no line of a call that begins is answered
opening_state : (home : ℕ → ℕ) (reads writes : List Key) (place : ℕ) → place < length (lines_of home reads writes) → is_answered (nth_line (lines_of home reads writes) place).state ≡ false
opening_state home reads writes place h = ap (λ (l : Line). is_answered l.state) (lines_of_opened home reads writes place h).opened

module _ (c : Config) (at : Reading) (s t : State) (known : Known at s) (known_after : Known at t) (grows : NetGrows s t) where
  told_more : (x : TxnSession) → Told s x → Told t x
  told_more x h = record { lines = λ place a. told_grows at s t x (nth_line x.lines place) known grows (h.lines place a); knows = h.knows }

  snap_more : (x : SnapSession) → SnapTold s x → SnapTold t x
  snap_more x h = record { lines = λ place a. snap_grows at s t x (nth_line x.lines place) known grows (h.lines place a); knows = h.knows }

  opens_told : (o : ℕ) (reads : List Key) (guard : Option (Compare ℕ)) (writes : List (Key × Expr ℕ)) (least margin : ℕ) → Told t (opening_txn (home_of c) o reads guard writes least margin)
  opens_told o reads guard writes least margin = record {
    lines = λ place h. nothing_told t (opening_txn (home_of c) o reads guard writes least margin) (nth_line (lines_of (home_of c) reads (written_keys writes)) place) (opening_state (home_of c) reads (written_keys writes) place h) refl refl;
    knows = nothing_known (opening_txn (home_of c) o reads guard writes least margin) refl refl;
  }

  snap_opens_told : (o : ℕ) (keys : List Key) (least : ℕ) → SnapTold t (opening_snapshot (home_of c) o keys least at)
  snap_opens_told o keys least = record {
    lines = λ place h. record {
      first = λ read_time e a. absurd (true≢false (sym a ∙ opening_state (home_of c) keys [] place h));
      final = λ time e a. none time e;
      done = λ time e. absurd (let f : ◌≡◌ {A = SnapPhase} (First (max at.latest least)) (Done time) = e in cc);
    };
    knows = record {
      first = λ read_time e. let f : ◌≡◌ {A = SnapPhase} (First (max at.latest least)) (First read_time) = e in let g : max at.latest least ≡ read_time = cc in omega (arith, g);
      later = λ time e. none time e;
    };
  }

  told_steps : TxnSteps c at s (λ x. Told s x × IsAlone x) (Told t)
  told_steps = record {
    stays = λ x h. told_more x h.0;
    opens = opens_told;
    hears = λ o x l r f heard never turn same h. turn_told t x l heard.is f.lines.apart (told_more x h.0) at r _ h.1 never turn same (λ p e w. replied_grows at s t _ _ r known grows (own_replied s x l r p e w heard));
    wakes = λ o x l f i same h. wake_told t x l i f.lines.apart (told_more x h.0);
    passes = λ o x f same h. pass_told t x (told_more x h.0);
  }

  snap_steps : SnapSteps c at s (SnapTold s) (SnapTold t)
  snap_steps = record {
    stays = snap_more;
    opens = snap_opens_told;
    hears = λ o x l r f heard turn same h. snap_turn_told at t known_after x l heard.is f.lines.apart (snap_more x h) r _ turn (λ p e w. replied_grows at s t _ _ r known grows (snap_replied s x l r p e w heard));
    wakes = λ o x l f i same h. snap_wake_told at t known_after x l i f.lines.apart (snap_more x h);
  }

told_of : (s : State) → AllTold s → (o : ℕ) (x : TxnSession) → (owner_at s o).session ≡ session.Transaction x → Told s x
told_of s h o x e = record { lines = λ place a. h.txn o place x e a; knows = h.knows o x e }

snap_told_of : (s : State) → AllTold s → (o : ℕ) (x : SnapSession) → (owner_at s o).session ≡ session.Snapshot x → SnapTold s x
snap_told_of s h o x e = record { lines = λ place a. h.snap o place x e a; knows = h.snap_knows o x e }

all_told : (s : State) → ((o : ℕ) (x : TxnSession) → (owner_at s o).session ≡ session.Transaction x → Told s x) → ((o : ℕ) (x : SnapSession) → (owner_at s o).session ≡ session.Snapshot x → SnapTold s x) → AllTold s
all_told s h g = record {
  txn = λ o place x e a. (h o x e).lines place a;
  knows = λ o x e. (h o x e).knows;
  snap = λ o place x e a. (g o x e).lines place a;
  snap_knows = λ o x e. (g o x e).knows;
}

pub told_keeps : (c : Config) (at : Reading) (s t : State) → Known at s → Known at t → AllFramed c s → AnswersHeard s → NeverUndone s → AllAlone s → AllOnward s t → Event c at s t → AllTold s → AllTold t
told_keeps c at s t known known_after framed heard never alone onward event h = all_told t
    (λ o y e. each_txn c at s t framed heard never (λ x. Told s x × IsAlone x) (Told t) (told_steps c at s t known known_after onward.net) event o y (λ x f. (told_of s h o x f, alone.txn o x f)) e)
    (λ o y e. each_snap c at s t framed heard (SnapTold s) (SnapTold t) (snap_steps c at s t known known_after onward.net) event o y (λ x f. snap_told_of s h o x f) e)

pub told_start : (c : Config) → AllTold (start c)
told_start c = all_told (start c) (λ o x e. start_without c o x e) (λ o x e. start_without_snap c o x e)

-- the clock changes nothing of it
line_ticks : (s : State) (at : Reading) (x : TxnSession) (l : Line) → LineTold s x l → LineTold (ticks s at) x l
line_ticks s at x l h = record {
  granted = λ e. replied_ticks s at _ _ _ (h.granted e);
  voted = λ e. replied_ticks s at _ _ _ (h.voted e);
  released = λ time e a. replied_ticks s at _ _ _ (h.released time e a);
}

snap_line_ticks : (s : State) (at : Reading) (x : SnapSession) (l : Line) → SnapLineTold s x l → SnapLineTold (ticks s at) x l
snap_line_ticks s at x l h = record {
  first = λ read_time e a. replied_ticks s at _ _ _ (h.first read_time e a);
  final = λ time e a. let f = h.final time e a in record { read_time = f.read_time; skip = f.skip; replied = replied_ticks s at _ _ _ f.replied; upto = f.upto; passed = f.passed; below = f.below };
  done = h.done;
}

pub told_ticks : (s : State) (at : Reading) → AllTold s → AllTold (ticks s at)
told_ticks s at h = record {
  txn = λ o place x e a. line_ticks s at x (nth_line x.lines place) (h.txn o place x e a);
  knows = h.knows;
  snap = λ o place x e a. snap_line_ticks s at x (nth_line x.lines place) (h.snap o place x e a);
  snap_knows = h.snap_knows;
}
