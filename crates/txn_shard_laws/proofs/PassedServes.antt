-- What was shown of a key of a shard stays right, where the shard stays and where it serves a request.
use Rattle.std.proofs.Common.{◌≡◌, inl, inr, ℕ, ◌<◌, ◌≤◌, Some, refl, sym, subst}
use Rattle.truetime.specs.Reading.{Reading}
use Rattle.rss_names.specs.declared.service.Key.{Key}
use Rattle.pipeline_lang.specs.declared.config.Config.{Config}
use Rattle.rss_wire.specs.declared.messages.Outcome.TheVariants.{Committed}
use Rattle.rss_wire.specs.declared.messages.Request.{Request}
use Rattle.rss_wire.specs.declared.messages.Version.{Version}
use Rattle.rss_tables.specs.Prepared.{PreparedWriter, prepared_of}
use Rattle.rss_tables.specs.ShardRow.{Shard, shard_after}
use Rattle.rss_tables.specs.Versions.{versions_of}
use Rattle.rss_machine.specs.State.{State, shard_at}
use Rattle.shard_laws.specs.Committed.{version_by}
use Rattle.shard_laws.proofs.Rising.{each_more}
use Rattle.txn_state_laws.specs.Decided.{AllDecided}
use Rattle.txn_state_laws.specs.Justified.{Kept, IsJust}
use Rattle.txn_state_laws.specs.Onward.{Between}
use Rattle.txn_state_laws.specs.Orderly.{AllOrderly, PreparedIs}
use Rattle.txn_state_laws.specs.Passed.{IsPassedRightly, KeyPassed}
use Rattle.txn_state_laws.proofs.Commits.{kept_committed}
use Rattle.txn_state_laws.proofs.Grows.{DecisionsStay}
use Rattle.txn_state_laws.proofs.Serves.{ServesAt}
use Rattle.txn_shard_laws.proofs.PassedEnds.{ends_later, kept_ends_later}
use Rattle.txn_shard_laws.proofs.Shown.{CommitsLate, IsSeen, IsShownRightly, shown_stays}

-- what was passed rightly is so in the next state
passed_later : (c : Config) (at : Reading) (s t : State) → Between c at s t → DecisionsStay s t → AllDecided s → AllDecided t → (read_time : ℕ) (v u : Version) → IsPassedRightly s read_time v u → IsPassedRightly t read_time v u
passed_later c at s t b stay decided decided' read_time v u (inl l) = inl l
passed_later c at s t b stay decided decided' read_time v u (inr (inl l)) = inr (inl l)
passed_later c at s t b stay decided decided' read_time v u (inr (inr h)) = inr (inr (ends_later c s t b.framed b.framed_after b.onward stay decided decided' read_time u h))

-- what was shown of a key of a shard, of what passes rightly in the next state
shown_before : (c : Config) (at : Reading) (s t : State) → Between c at s t → DecisionsStay s t → AllDecided s → AllDecided t → (n read_time : ℕ) (key : Key) (v : Version) → KeyPassed s n read_time key v → IsShownRightly (shard_at s n) read_time key (IsPassedRightly t read_time v)
shown_before c at s t b stay decided decided' n read_time key v h = record {
  floor = h.floor;
  entries = h.entries;
  versions = each_more (IsPassedRightly s read_time v) (IsPassedRightly t read_time v) (passed_later c at s t b stay decided decided' read_time v) (versions_of (shard_at s n).store key) h.versions;
}

-- what was shown rightly by what a shard is, is passed rightly
pub passed_by_shard : (t : State) (n read_time : ℕ) (key : Key) (v : Version) (sh : Shard) → shard_at t n ≡ sh → IsShownRightly sh read_time key (IsPassedRightly t read_time v) → KeyPassed t n read_time key v
passed_by_shard t n read_time key v sh e h =
    let i : IsShownRightly (shard_at t n) read_time key (IsPassedRightly t read_time v) = subst (λ (w : Shard). IsShownRightly w read_time key (IsPassedRightly t read_time v)) (sym e) h in
    record { floor = i.floor; entries = i.entries; versions = i.versions }

-- where the shard stays
pub key_stays : (c : Config) (at : Reading) (s t : State) → Between c at s t → DecisionsStay s t → AllDecided s → AllDecided t → (n : ℕ) → shard_at t n ≡ shard_at s n → (read_time : ℕ) (key : Key) (v : Version) → KeyPassed s n read_time key v → KeyPassed t n read_time key v
key_stays c at s t b stay decided decided' n same read_time key v h = passed_by_shard t n read_time key v (shard_at s n) same (shown_before c at s t b stay decided decided' n read_time key v h)

-- a commit of a prepared writer is above the read time, or of a transaction that could not end before that
commit_late : (c : Config) (at : Reading) (s t : State) → Between c at s t → DecisionsStay s t → AllDecided s → AllDecided t → AllOrderly c s → (n : ℕ) → 1 ≤ n → (p : PreparedWriter) (time value : ℕ) → Kept s p.attempt (Committed time) → prepared_of (shard_at s n).prepared p.attempt ≡ Some p → (read_time : ℕ) (v : Version) → CommitsLate read_time (IsPassedRightly t read_time v) p time value
commit_late c at s t b stay decided decided' orderly n numbered p time value k e read_time v = record {
  above = λ l. inr (inl l);
  unended = λ l.
      inr (inr (kept_ends_later c s t b.framed b.framed_after b.onward stay decided decided' p.attempt time k is.txn is.of read_time
      (subst (λ (end : ℕ). read_time < end) (is.now (kept_committed c s b.framed decided p.attempt time k is.txn is.of).present).ends l) (version_by p time value) refl refl));
}
  where
    is : PreparedIs s n p.attempt p
    is = orderly.prepared n p.attempt p numbered e

-- where it serves a request
pub key_serves : (c : Config) (at : Reading) (s t : State) → Between c at s t → DecisionsStay s t → AllDecided s → AllDecided t → AllOrderly c s → (n : ℕ) → 1 ≤ n → (q : Request) → ServesAt at.latest s t n q → (read_time : ℕ) (key : Key) (v : Version) → KeyPassed s n read_time key v → KeyPassed t n read_time key v
key_serves c at s t b stay decided decided' orderly n numbered q x read_time key v h =
    passed_by_shard t n read_time key v (shard_after (shard_at s n) at.latest q) x.after
    (shown_stays (shard_at s n) at.latest q (orderly.orderly n) x.in_order read_time key (IsPassedRightly t read_time v) (shown_before c at s t b stay decided decided' n read_time key v h)
    (λ p time value e there. commit_late c at s t b stay decided decided' orderly n numbered p time value (subst (IsJust s x.owner x.shard) e x.just) there read_time v))

-- what was seen is passed rightly
pub seen_passed : (t : State) (sh : Shard) (read_time : ℕ) (key : Key) (v : Version) → IsShownRightly sh read_time key (IsSeen read_time v) → IsShownRightly sh read_time key (IsPassedRightly t read_time v)
seen_passed t sh read_time key v h = record {
  floor = h.floor;
  entries = h.entries;
  versions = each_more (IsSeen read_time v) (IsPassedRightly t read_time v) one (versions_of sh.store key) h.versions;
}
  where
    one : (u : Version) → IsSeen read_time v u → IsPassedRightly t read_time v u
    one u (inl l) = inl l
    one u (inr l) = inr (inl l)
