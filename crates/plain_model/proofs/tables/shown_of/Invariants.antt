use Rattle.std.proofs.Common.{◌≡◌, drop}
use Rattle.plain_model.specs.Written.{shown_over, table_of}
use Rattle.plain_model.proofs.tables.shown_of.Given as goal

-- what was passed was made, and what is left makes the rest
abbrev pub invariant-loop-write : goal.invariant-loop-write
invariant-loop-write l =
    shown_over l.shown (drop l.write-index l.written) ≡ table_of l.written l.fn.key
