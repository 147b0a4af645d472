-- What is added to a reply, key by key.
use Rattle.std.proofs.Common.{◌≡◌, ℕ, zero, suc, ◌+◌, ◌<◌, List, [], ◌∷◌, ◌++◌, length, drop, get_or, Option, Some, None, refl, ap, sym, ◌∙◌, append_assoc, add-one}
use Rattle.std.proofs.Math.Seq.{drop-cons}
use Rattle.std.proofs.lemmas.List.{append-nil}
use Rattle.rss_names.specs.declared.service.Key.{Key}
use Rattle.pipeline_lang.specs.declared.config.Config.{Config}
use Rattle.rss_model.specs.declared.op.Shown.{Shown}
use Rattle.history_text.specs.Reading.{◌>>=◌}
use Rattle.history_text.specs.Entries.{next_shown_at, more_shown_at}
use Rattle.history_text.proofs.Parts.{after}

after_more : (made : List Shown) (shown : Shown) (r : Option (List Shown × List ℕ)) → after made (r >>= λ more. Some (shown ∷ more.0, more.1)) ≡ after (made ++ shown ∷ []) r
after_more made shown (Some more) = ap (λ l. Some (l, more.1)) (sym (append_assoc made (shown ∷ []) more.0))
after_more made shown None = refl

-- one more key is shown
pub shown_more : (config : Config) (whole : List Key) (n : ℕ) (key : Key) (start line rest : List ℕ) (made : List Shown) (shown : Shown) → n < length whole → key ≡ get_or whole n key → more_shown_at config whole start ≡ after made (more_shown_at config (drop n whole) line) → next_shown_at config key line ≡ Some (shown, rest) → more_shown_at config whole start ≡ after (made ++ shown ∷ []) (more_shown_at config (drop (n + 1) whole) rest)
unfolding more_shown_at
shown_more config whole n key start line rest made shown l e m r =
    let left : drop n whole ≡ key ∷ drop (n + 1) whole = drop-cons whole n key l ∙ ap (λ (x : Key). x ∷ drop (suc n) whole) (sym e) ∙ ap (λ (j : ℕ). key ∷ drop j whole) (sym (add-one n)) in
    m
    ∙ ap (λ (ks : List Key). after made (more_shown_at config ks line)) left
    ∙ ap (λ (o : Option (Shown × List ℕ)). after made (o >>= λ x. more_shown_at config (drop (n + 1) whole) x.1 >>= λ more. Some (x.0 ∷ more.0, more.1))) r
    ∙ after_more made shown (more_shown_at config (drop (n + 1) whole) rest)

-- one is not
pub shown_none : (config : Config) (whole : List Key) (n : ℕ) (key : Key) (start line : List ℕ) (made : List Shown) → n < length whole → key ≡ get_or whole n key → more_shown_at config whole start ≡ after made (more_shown_at config (drop n whole) line) → next_shown_at config key line ≡ None → more_shown_at config whole start ≡ None
unfolding more_shown_at
shown_none config whole n key start line made l e m r =
    let left : drop n whole ≡ key ∷ drop (suc n) whole = drop-cons whole n key l ∙ ap (λ (x : Key). x ∷ drop (suc n) whole) (sym e) in
    m
    ∙ ap (λ (ks : List Key). after made (more_shown_at config ks line)) left
    ∙ ap (λ (o : Option (Shown × List ℕ)). after made (o >>= λ x. more_shown_at config (drop (suc n) whole) x.1 >>= λ more. Some (x.0 ∷ more.0, more.1))) r

-- all are
pub shown_all : (config : Config) (whole : List Key) (n : ℕ) (start line : List ℕ) (made : List Shown) → drop n whole ≡ [] → more_shown_at config whole start ≡ after made (more_shown_at config (drop n whole) line) → more_shown_at config whole start ≡ Some (made, line)
unfolding more_shown_at
shown_all config whole n start line made e m =
    m ∙ ap (λ (ks : List Key). after made (more_shown_at config ks line)) e ∙ ap (λ (l : List Shown). Some (l, line)) (append-nil made)
