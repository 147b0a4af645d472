-- The parts of the operation that a transaction's statement makes.
use Rattle.std.specs.Prelude.{ℕ, List, map}
use Rattle.rss_names.specs.declared.service.Key.{Key}
use Rattle.pipeline_lang.specs.declared.script.Expr.{Expr}
use Rattle.rss_model.specs.CallStatement.{bound_formula}

-- the keys that it reads
abbrev pub keys_of : List (ℕ × Key) → List Key
keys_of pairs = map (λ pair. pair.1) pairs

-- what it writes, over its own reads
abbrev pub bound_writes : List (ℕ × Key) → List ℕ → List (Key × Expr ℕ) → List (Key × Expr ℕ)
bound_writes pairs variables writes =
    map (λ write. (write.0, bound_formula pairs variables write.1)) writes
