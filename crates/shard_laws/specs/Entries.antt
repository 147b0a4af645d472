-- Entries of attempts: which one is found, and that each attempt has at most one.
use Rattle.std.specs.Prelude.{◌≡◌, ⊤, List, [], ◌∷◌, Option, Some, None, if◌then◌else◌}
use Rattle.rss_names.specs.declared.attempt.Attempt.{Attempt}
use Rattle.rss_tables.specs.Attempts.{same_attempt}
use Rattle.rss_tables.specs.Locks.{LockHolder}
use Rattle.rss_tables.specs.Prepared.{PreparedWriter}

-- the first entry of an attempt
abbrev pub entry_of : {E : Type 0} → (E → Attempt) → List E → Attempt → Option E
entry_of at [] attempt = None
entry_of at (e ∷ entries) attempt = if same_attempt attempt (at e) then Some e else entry_of at entries attempt

-- each attempt has at most one entry
abbrev pub AreApart : {E : Type 0} → (E → Attempt) → List E → Type 0
AreApart at [] = ⊤
AreApart at (e ∷ entries) = (entry_of at entries (at e) ≡ None) × AreApart at entries

-- the attempt of a holder, and of a prepared writer
abbrev pub held_by : LockHolder → Attempt
held_by h = h.attempt

abbrev pub prepared_by : PreparedWriter → Attempt
prepared_by p = p.attempt

-- what an attempt holds, if it holds locks
abbrev pub holder_of : List LockHolder → Attempt → Option LockHolder
holder_of holders attempt = entry_of held_by holders attempt
