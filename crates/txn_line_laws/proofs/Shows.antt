-- What the lines of placed calls show of the keys that they read, and that their shards see it so.
use Rattle.std.proofs.Common.{◌≡◌, ℕ, ◌<◌, Bool, true, false, List, length, Some, None, refl, sym, ap, ◌∙◌, subst}
use Rattle.std.specs.Prelude.{if◌then◌else◌}
use Rattle.rss_names.specs.declared.attempt.Attempt.{Attempt}
use Rattle.rss_names.specs.declared.service.Key.{Key}
use Rattle.rss_names.specs.declared.service.Target.{Target}
use Rattle.rss_names.specs.declared.service.Target.TheVariants.{Shard as OfShard}
use Rattle.pipeline_lang.specs.Config.{home_of}
use Rattle.pipeline_lang.specs.declared.config.Config.{Config}
use Rattle.rss_wire.specs.declared.messages.Reply.{Reply}
use Rattle.rss_wire.specs.declared.messages.Reply.TheVariants as reply
use Rattle.rss_wire.specs.declared.messages.Request.{Request}
use Rattle.rss_wire.specs.declared.messages.Request.TheVariants.{Lock, Snapshot}
use Rattle.rss_wire.specs.declared.messages.Skipped.{Skipped}
use Rattle.rss_wire.specs.declared.messages.Version.{Version}
use Rattle.rss_tables.specs.Lines.{Line, shown_on, version_in}
use Rattle.rss_tables.specs.Locks.{has_key, is_tombstoned, holds, named_holders, in_way_of}
use Rattle.rss_tables.specs.Prepared.{blocking, named_blocking, named_skipped, passed_by}
use Rattle.rss_tables.specs.ShardRow.{Shard, shard_after, shard_reply, is_clear}
use Rattle.rss_tables.specs.Versions.{KeyVersions, newest_of, newest_version, versions_at, version_at}
use Rattle.rss_machine.specs.State.{State}
use Rattle.world_laws.specs.Exchanges.{Exchanges, Fits, ShardReplies}
use Rattle.session_laws.specs.Frames.{nth_line}
use Rattle.session_laws.proofs.Shown.{shown_on_line, newest_in_there, newest_in_not, versions_in_there, versions_in_not}
use Rattle.txn_state_laws.specs.Framed.{LinesFit}
use Rattle.txn_state_laws.specs.Replied.{Replied}
use Rattle.txn_line_laws.proofs.Facts.{HomeLine, reads_of}

-- a list of versions shows just these keys
pub record ShowsKeys (keys : List Key) (shown : List (Key × Version)) : Type 0 where
  pub of : Key → Version
  pub there : (key : Key) → has_key keys key ≡ true → version_in shown key ≡ Some (of key)
  pub not : (key : Key) → has_key keys key ≡ false → version_in shown key ≡ None

newest_shows_keys : (store : List KeyVersions) (keys : List Key) (shown : List (Key × Version)) → shown ≡ newest_of store keys → ShowsKeys keys shown
newest_shows_keys store keys shown e = record {
  of = newest_version store;
  there = λ key h. ap (λ (l : List (Key × Version)). version_in l key) e ∙ newest_in_there store keys key h;
  not = λ key h. ap (λ (l : List (Key × Version)). version_in l key) e ∙ newest_in_not store keys key h;
}

values_show_keys : (store : List KeyVersions) (keys : List Key) (time : ℕ) (shown : List (Key × Version)) → shown ≡ versions_at store keys time → ShowsKeys keys shown
values_show_keys store keys time shown e = record {
  of = λ key. version_at store key time;
  there = λ key h. ap (λ (l : List (Key × Version)). version_in l key) e ∙ versions_in_there store keys time key h;
  not = λ key h. ap (λ (l : List (Key × Version)). version_in l key) e ∙ versions_in_not store keys time key h;
}

-- a reply that was sent is what a shard gives to its request
pub replied_fits : (s : State) → Exchanges s.net → (n : ℕ) (q : Request) (r : Reply) → Replied s (OfShard n) q r → ShardReplies q r
replied_fits s x n q r d =
    let i = d.is in
    subst (λ (t : Target). Fits t q r) i.from ((x d.message i.numbered i.sent).fits q r i.says i.asked)

granted_same : (a : Attempt) (coordinator : ℕ) (reads writes : List Key) (shown : List (Key × Version)) (sh : Shard) (latest : ℕ) → reply.Granted shown ≡ shard_reply sh latest (Lock a coordinator reads writes) → shown ≡ newest_of (shard_after sh latest (Lock a coordinator reads writes)).store reads
unfolding shard_reply
granted_same a coordinator reads writes shown sh latest e = by_tomb (is_tombstoned (shard_after sh latest (Lock a coordinator reads writes)).locks a) (holds (shard_after sh latest (Lock a coordinator reads writes)).locks a) e
  where
    w : Shard
    w = shard_after sh latest (Lock a coordinator reads writes)

    same : (xs ys : List (Key × Version)) → reply.Granted xs ≡ reply.Granted ys → xs ≡ ys
    same xs ys f = cc

    not_wounded : reply.Granted shown ≡ reply.Wounded → ⊥
    not_wounded f = cc

    not_waiting : reply.Granted shown ≡ reply.Wait (named_holders (in_way_of w.locks a reads writes)) → ⊥
    not_waiting f = cc

    by_tomb : (b d : Bool) → reply.Granted shown ≡ (if b then reply.Wounded else (if d then reply.Granted (newest_of (shard_after sh latest (Lock a coordinator reads writes)).store reads) else reply.Wait (named_holders (in_way_of (shard_after sh latest (Lock a coordinator reads writes)).locks a reads writes)))) → shown ≡ newest_of (shard_after sh latest (Lock a coordinator reads writes)).store reads
    by_tomb true d f = absurd (not_wounded f)
    by_tomb false true f = same shown _ f
    by_tomb false false f = absurd (not_waiting f)

values_same : (read_time least : ℕ) (keys : List Key) (skip : Bool) (versions : List (Key × Version)) (skipped : List Skipped) (sh : Shard) (latest : ℕ) → reply.Values versions skipped ≡ shard_reply sh latest (Snapshot read_time least keys skip) → versions ≡ versions_at sh.store keys read_time
unfolding shard_reply
values_same read_time least keys skip versions skipped sh latest e = by_clear (is_clear sh keys read_time least skip) e
  where
    same : (xs ys : List (Key × Version)) (a b : List Skipped) → reply.Values xs a ≡ reply.Values ys b → xs ≡ ys
    same xs ys a b f = cc

    not_blocked : reply.Values versions skipped ≡ reply.Blocked (named_blocking (blocking sh.prepared keys read_time least skip)) → ⊥
    not_blocked f = cc

    by_clear : (b : Bool) → reply.Values versions skipped ≡ (if b then reply.Values (versions_at sh.store keys read_time) (named_skipped (passed_by sh.prepared keys read_time least skip)) else reply.Blocked (named_blocking (blocking sh.prepared keys read_time least skip))) → versions ≡ versions_at sh.store keys read_time
    by_clear true f = same versions _ skipped _ f
    by_clear false f = absurd (not_blocked f)

pub granted_shows : (s : State) → Exchanges s.net → (n : ℕ) (a : Attempt) (coordinator : ℕ) (reads writes : List Key) (shown : List (Key × Version)) → Replied s (OfShard n) (Lock a coordinator reads writes) (reply.Granted shown) → ShowsKeys reads shown
granted_shows s x n a coordinator reads writes shown d =
    let f = replied_fits s x n (Lock a coordinator reads writes) (reply.Granted shown) d in
    newest_shows_keys (shard_after f.shard f.latest (Lock a coordinator reads writes)).store reads shown (granted_same a coordinator reads writes shown f.shard f.latest f.reply)

pub answer_shows_keys : (s : State) → Exchanges s.net → (n read_time least : ℕ) (keys : List Key) (skip : Bool) (versions : List (Key × Version)) (skipped : List Skipped) → Replied s (OfShard n) (Snapshot read_time least keys skip) (reply.Values versions skipped) → ShowsKeys keys versions
answer_shows_keys s x n read_time least keys skip versions skipped d =
    let f = replied_fits s x n (Snapshot read_time least keys skip) (reply.Values versions skipped) d in
    values_show_keys f.shard.store keys read_time versions (values_same read_time least keys skip versions skipped f.shard f.latest f.reply)

-- a key that lines show is shown by the line of its home alone
pub record KeyShown (c : Config) (lines : List Line) (key : Key) : Type 0 where
  pub home : HomeLine c lines key reads_of
  pub version : Version
  pub there : version_in (nth_line lines home.place).shown key ≡ Some version
  pub on : shown_on lines key ≡ version

not_true : (b : Bool) → (b ≡ true → ⊥) → b ≡ false
not_true true n = absurd (n refl)
not_true false n = refl

pub key_shown : (c : Config) (lines : List Line) (key : Key) → LinesFit c lines → ((i : ℕ) → i < length lines → has_key (nth_line lines i).reads key ≡ true → home_of c key.index ≡ (nth_line lines i).shard) → ((i : ℕ) → i < length lines → ShowsKeys (nth_line lines i).reads (nth_line lines i).shown) → HomeLine c lines key reads_of → KeyShown c lines key
key_shown c lines key fit homes shows m = record {
  home = m;
  version = (shows m.place m.inside).of key;
  there = (shows m.place m.inside).there key m.has;
  on = shown_on_line lines m.place key ((shows m.place m.inside).of key) m.inside others ((shows m.place m.inside).there key m.has);
}
  where
    others : (j : ℕ) → j < length lines → (j ≡ m.place → ⊥) → version_in (nth_line lines j).shown key ≡ None
    others j l n = (shows j l).not key (not_true (has_key (nth_line lines j).reads key) (λ f. n (fit.apart j m.place l m.inside (sym (homes j l f) ∙ sym m.on))))
