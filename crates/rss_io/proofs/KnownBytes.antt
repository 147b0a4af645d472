-- What is known of bytes after two calls, one behind the other.
use Rattle.std.proofs.Common.{◌∙◌, ℕ, ◌+◌, ◌-◌, List, ◌++◌, length, take, drop}
use Rattle.std.proofs.Common.{Option, None, Some, ap, sym, append_assoc}
use Rattle.std.proofs.Math.Seq.{take-add}
use Rattle.std.proofs.lemmas.List.{take_rest}
use Rattle.std.specs.Io.KnownBytes.{Appends, Consumes}

-- two reads took the bytes of both
pub consumes_both : (a b c : Option (List ℕ)) (xs ys : List ℕ) →
    Consumes a b xs → Consumes b c ys → Consumes a c (xs ++ ys)
consumes_both None b c xs ys h k = tt
consumes_both (Some ps) None c xs ys h k = absurd h
consumes_both (Some ps) (Some qs) None xs ys h k = absurd k
consumes_both (Some ps) (Some qs) (Some rs) xs ys h k =
    h ∙ ap (λ (l : List ℕ). xs ++ l) k ∙ sym (append_assoc xs ys rs)

-- two writes appended the bytes of both
pub appends_both : (a b c : Option (List ℕ)) (xs ys : List ℕ) →
    Appends a b xs → Appends b c ys → Appends a c (xs ++ ys)
appends_both None b c xs ys h k = tt
appends_both (Some ps) None c xs ys h k = absurd h
appends_both (Some ps) (Some qs) None xs ys h k = absurd k
appends_both (Some ps) (Some qs) (Some rs) xs ys h k =
    k ∙ ap (λ (l : List ℕ). l ++ ys) h ∙ append_assoc ps xs ys

-- after n bytes of a text the next write took m bytes of the rest
pub appends_more : (a b c : Option (List ℕ)) (text : List ℕ) (n m : ℕ) →
    Appends a b (take n text) →
    Appends b c (take m (take (length text - n) (drop n text))) →
    Appends a c (take (n + m) text)
appends_more a b c text n m h k =
    let rest : Appends b c (take m (drop n text)) = rw (take_rest text n) at k in
    rw (take-add n m text) (appends_both a b c (take n text) (take m (drop n text)) h rest)
