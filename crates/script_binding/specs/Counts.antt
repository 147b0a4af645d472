-- how many calls a script makes, as if every `when` held, and the sums over the scripts of a file
use Rattle.std.specs.Prelude.{ℕ, ◌+◌, if◌then◌else◌, Bool, true, false, ◌&&◌, nat_le, List, [], ◌∷◌}
use Rattle.pipeline_lang.specs.declared.script.Statement.TheVariants.{Read, Write, Snap, Txn, Fence}
use Rattle.pipeline_lang.specs.Counts.{turns_after, outer_after, executed}
use Rattle.script_binding.specs.declared.tally.Tally.{Tally}
use Rattle.script_binding.specs.Environment.{Bound}

-- a call, or a fence statement
abbrev pub is_call : Bound → Bool
is_call (Read v r) = true
is_call (Write r e) = true
is_call (Snap pairs) = true
is_call (Txn pairs guard writes) = true
is_call Fence = true
is_call s = false

-- how many calls and fence statements are executed
abbrev pub called_from : ℕ → List ℕ → List Bound → ℕ
called_from turns outer [] = 0
called_from turns outer (s ∷ ss) =
    (if is_call s then turns else 0) + called_from (turns_after turns outer s) (outer_after turns outer s) ss

-- how many calls and fence statements a script executes
abbrev pub called : List Bound → ℕ
called script = called_from 1 [] script

-- the sums over no stages
abbrev pub nothing : Tally
nothing = record { statements = 0; calls = 0 }

-- the sums with one stage more, which counts as a call
abbrev pub tallied : Tally → List Bound → Tally
tallied t script = record {
  statements = t.statements + executed script;
  calls = t.calls + called script + 1;
}

-- whether the sums are within the limits of a file
abbrev pub is_within : Tally → Bool
is_within t = nat_le t.statements 200000 && nat_le t.calls 20000
