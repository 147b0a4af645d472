-- Lines read from four vectors.
use Rattle.std.specs.Prelude.{◌≡◌, ℕ, ◌+◌, ◌<◌, ◌≤◌, ◌==◌, max, Bool, true, false, List, [], ◌∷◌, ◌++◌, length, take, drop, map, get_or, nat_le, if◌then◌else◌}
use Rattle.std.specs.List.{list_all, list_any}
use Rattle.rss_names.specs.declared.service.Key.{Key}
use Rattle.rss_wire.specs.declared.messages.Skipped.{Skipped}
use Rattle.rss_wire.specs.declared.messages.Version.{Version}
use Rattle.rss_tables.specs.Lines.{Line, in_state, is_answered, no_line, line_at, version_in, version_or}
use Rattle.rss_tables.specs.TransactionSession.{greatest_time}
use Rattle.rss_tables.specs.Versions.{opening_version}
use Rattle.rss_tables.specs.declared.lines.LineState.TheVariants.{Awaiting, Dropped}
use Rattle.shard_lines.specs.declared.flat.Part.{Part}
use Rattle.shard_lines.specs.declared.flat.FlatLine.{FlatLine}

-- the lines, and for how many more versions and skipped writers there is room
pub record LinesView : Type 0 where
  pub lines : List Line
  pub room : ℕ
  pub skips : ℕ

-- a part of a list
abbrev pub part : {A : Type 0} → List A → Part → List A
part xs p = take p.many (drop p.from xs)

-- a line read over the lists of its call
abbrev pub read_line : List Key → List (Key × Version) → List Skipped → FlatLine → Line
read_line keys shown skipped l = record {
  shard = l.shard;
  reads = part keys l.reads;
  writes = part keys l.writes;
  state = l.state;
  shown = part shown l.shown;
  skipped = part skipped l.skipped;
  prepare_time = l.prepare_time;
}

-- whether a part lies inside
abbrev pub IsInside : ℕ → Part → Type 0
IsInside size p = p.from + p.many ≤ size

-- the parts of a line lie inside, and those of keys have eight keys at most
abbrev pub IsLine : ℕ → ℕ → ℕ → FlatLine → Type 0
IsLine ks vs ss l = IsInside ks l.reads × IsInside ks l.writes × IsInside vs l.shown × IsInside ss l.skipped × (l.reads.many ≤ 8) × (l.writes.many ≤ 8)

-- all shards of these lines are greater
abbrev pub AreAbove : ℕ → List FlatLine → Type 0
AreAbove shard [] = Unit {0}
AreAbove shard (l ∷ lines) = (shard < l.shard) × AreAbove shard lines

-- lines by ascending shard, whose parts lie inside
abbrev pub AreLines : ℕ → ℕ → ℕ → List FlatLine → Type 0
AreLines ks vs ss [] = Unit {0}
AreLines ks vs ss (l ∷ lines) = IsLine ks vs ss l × AreAbove l.shard lines × AreLines ks vs ss lines

-- the line of this place is of this shard
pub record HasShard (lines : List FlatLine) (at shard : ℕ) : Type 0 where
  pub inside : at < length lines
  pub same : (d : FlatLine) → (get_or lines at d).shard ≡ shard

-- a line awaits
abbrev pub awaiting : FlatLine → FlatLine
awaiting l = record l { state = Awaiting }

-- the line of this shard awaits, and another is dropped
abbrev pub awaiting_one : ℕ → FlatLine → FlatLine
awaiting_one shard l = record l { state = if l.shard == shard then Awaiting else Dropped }

-- the part with nothing in it
abbrev pub no_part : Part
no_part = record { from = 0; many = 0 }

-- a line in a new attempt
abbrev pub opened : FlatLine → FlatLine
opened l = record l { state = Awaiting; shown = no_part; prepare_time = 0 }

-- whether all lines are answered
abbrev pub are_answered : List FlatLine → Bool
are_answered lines = list_all (λ (l : FlatLine). is_answered l.state) lines

-- the greatest prepare time
abbrev pub last_prepared : List FlatLine → ℕ
last_prepared [] = 0
last_prepared (l ∷ lines) = max l.prepare_time (last_prepared lines)

-- this place is that of the shard's line
pub record IsPlace (lines : List Line) (at shard : ℕ) : Type 0 where
  pub inside : at < length lines
  pub same : get_or lines at no_line ≡ line_at lines shard

-- a line in a new attempt
abbrev pub open_line : Line → Line
open_line l = record l { state = Awaiting; shown = []; prepare_time = 0 }

-- the lists of versions lie inside
abbrev pub AreShown : ℕ → List FlatLine → Type 0
AreShown vs [] = Unit {0}
AreShown vs (l ∷ lines) = IsInside vs l.shown × AreShown vs lines

-- the version that lines show of a key
abbrev pub version_of : List (Key × Version) → List FlatLine → Key → Version
version_of shown [] key = opening_version
version_of shown (l ∷ lines) key = version_or (version_in (part shown l.shown) key) (version_of shown lines key)

-- no line
abbrev pub no_flat : FlatLine
no_flat = record { shard = 0; reads = no_part; writes = no_part; state = Awaiting; shown = no_part; skipped = no_part; prepare_time = 0 }

-- the lists of skipped writers lie inside
abbrev pub AreSkips : ℕ → List FlatLine → Type 0
AreSkips ss [] = Unit {0}
AreSkips ss (l ∷ lines) = IsInside ss l.skipped × AreSkips ss lines

-- whether one of these writers may stand at or below a time
abbrev pub may_stand_by : ℕ → List Skipped → Bool
may_stand_by time skipped = list_any (λ (s : Skipped). nat_le s.prepare_time time) skipped

-- a line awaits where it passed by a writer that may stand at or below a time
abbrev pub awaiting_passed : List Skipped → ℕ → FlatLine → FlatLine
awaiting_passed skipped time l = record l { state = if may_stand_by time (part skipped l.skipped) then Awaiting else l.state }

-- the home of a key by its index, in a list
abbrev pub home_in : List ℕ → ℕ → ℕ
home_in homes index = get_or homes index 0

-- whether a home is the number of a shard
abbrev pub IsShard : ℕ → Type 0
IsShard home = (1 ≤ home) × (home ≤ 16)

-- each of these keys has a shard as its home
abbrev pub AreHomed : List ℕ → List Key → Type 0
AreHomed homes [] = Unit {0}
AreHomed homes (key ∷ keys) = IsShard (home_in homes key.index) × AreHomed homes keys

-- all shards of these lines are less
abbrev pub AreBelow : ℕ → List FlatLine → Type 0
AreBelow shard [] = Unit {0}
AreBelow shard (l ∷ lines) = (l.shard < shard) × AreBelow shard lines

-- a line awaits, but not that of this shard
abbrev pub awaiting_but : ℕ → FlatLine → FlatLine
awaiting_but shard l = record l { state = if l.shard == shard then l.state else Awaiting }

-- the same of the tables' line
abbrev pub awaits_unless : ℕ → Line → Line
awaits_unless shard l = if l.shard == shard then l else in_state l Awaiting

-- the greatest time that lines show
abbrev pub last_shown : List (Key × Version) → List FlatLine → ℕ
last_shown shown [] = 0
last_shown shown (l ∷ lines) = max (greatest_time (part shown l.shown)) (last_shown shown lines)

-- whether one of these lines is of a shard
abbrev pub has_line : List Line → ℕ → Bool
has_line [] shard = false
has_line (l ∷ lines) shard = if l.shard == shard then true else has_line lines shard

-- the same of the lines that are kept
abbrev pub has_flat : List FlatLine → ℕ → Bool
has_flat [] shard = false
has_flat (l ∷ lines) shard = if l.shard == shard then true else has_flat lines shard
