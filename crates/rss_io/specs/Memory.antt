-- A source and a sink in memory, as callers see them.
use Rattle.std.specs.Prelude.{ℕ, Bool, List, ◌==◌, ◌++◌, drop}
use Rattle.std.specs.List.{list_any}
use Rattle.rss_io.specs.Faults.{one_more}

-- the calls on an object: the numbers of those that fail, how many were made, how many failed
pub record Calls : Type 0 where
  pub fails : List ℕ
  pub made : ℕ
  pub faults : ℕ

-- before the first call
abbrev pub no_calls : List ℕ → Calls
no_calls fails = record { fails = fails; made = 0; faults = 0 }

-- whether the next call is listed as one that fails; calls are numbered from 1
abbrev pub is_listed : Calls → Bool
is_listed c = list_any (λ n. n == one_more c.made) c.fails

-- after one more call, which succeeds
abbrev pub with_success : Calls → Calls
with_success c = record c { made = one_more c.made }

-- after one more call, which fails
abbrev pub with_fault : Calls → Calls
with_fault c = record c { made = one_more c.made; faults = one_more c.faults }

-- a source in memory: the bytes left, the most bytes of a call, and the calls
pub record Input : Type 0 where
  pub bytes : List ℕ
  pub piece : ℕ
  pub calls : Calls

-- after a call that gave the first n bytes
abbrev pub after_read : Input → ℕ → Input
after_read s n = record s { bytes = drop n s.bytes; calls = with_success s.calls }

-- after a call that failed
abbrev pub after_failed_read : Input → Input
after_failed_read s = record s { calls = with_fault s.calls }

-- a sink in memory: the bytes written, the most bytes of a call, and the calls
pub record Output : Type 0 where
  pub bytes : List ℕ
  pub piece : ℕ
  pub calls : Calls

-- after a call that took these bytes
abbrev pub after_write : Output → List ℕ → Output
after_write s bytes = record s { bytes = s.bytes ++ bytes; calls = with_success s.calls }

-- after a call that failed
abbrev pub after_failed_write : Output → Output
after_failed_write s = record s { calls = with_fault s.calls }
