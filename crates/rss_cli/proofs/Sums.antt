-- What an answer is, is one of two things that it can be.
use Rattle.std.specs.Prelude.{◌⊎◌, Result, Ok, Err, IfOk}
use Rattle.std.proofs.Common.{inr}

pub second_of : {X E : Type 0} (P Q : X → Type 0) (r : Result X E) → IfOk r Q → IfOk r (λ x. P x ⊎ Q x)
second_of P Q (Ok x) h = inr h
second_of P Q (Err e) h = h
