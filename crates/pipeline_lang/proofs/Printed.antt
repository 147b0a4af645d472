-- Lines of printed scripts.
use Rattle.std.proofs.Common.{◌≡◌, ℕ, zero, suc, ◌+◌, ◌++◌, ap, arith}
use Rattle.std.specs.Prelude.{codes}
use Rattle.pipeline_lang.specs.Printing.{indent}

pub indent_step : (n m : ℕ) → n ≡ m + 1 → indent n ≡ codes "  " ++ indent m
unfolding indent
indent_step zero m e = absurd (omega arith)
indent_step (suc n) m e =
    let same : n ≡ m = omega arith in
    ap (λ (k : ℕ). codes "  " ++ indent k) same
