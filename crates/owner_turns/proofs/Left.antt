-- What a transaction leaves behind.
use Rattle.std.proofs.Common.{◌≡◌, ℕ, ◌+◌, ◌<◌, ◌≤◌, List, [], ◌∷◌, ◌++◌, length, get_or, drop, Option, Some, None, refl, sym, ap, ◌∙◌, append_assoc}
use Rattle.std.proofs.lemmas.List.{drop_more, drop_all, append-nil}
use Rattle.rss_names.specs.declared.attempt.Attempt.{Attempt}
use Rattle.rss_tables.specs.Lines.{Line, no_line, shards_of}
use Rattle.rss_machine.specs.Session.{Session, left_unsettled}
use Rattle.rss_machine.specs.declared.session.OwnerKind.{OwnerKind}
use Rattle.rss_machine.specs.declared.session.OwnerKind.TheVariants as kind
use Rattle.owner_sessions.specs.Parts.{settling_in}
use Rattle.owner_sessions.proofs.Told.{told_txn}

pub nothing_left : (k : OwnerKind) → left_unsettled (settling_in k) ≡ None
nothing_left (kind.Stubbing (Some unsettled)) = refl
nothing_left (kind.Stubbing None) = refl
nothing_left (kind.Calling x) = refl
nothing_left kind.Fencing = refl

pub ruleset leaving = (nothing_left, told_txn)

pub shard_more : (lines : List Line) (at : ℕ) (before now whole : List ℕ) → at < length lines → now ≡ before ++ (get_or lines at no_line).shard ∷ [] → before ++ shards_of (drop at lines) ≡ whole → now ++ shards_of (drop (at + 1) lines) ≡ whole
shard_more lines at before now whole h n w =
    ap (λ (l : List ℕ). l ++ shards_of (drop (at + 1) lines)) n
    ∙ append_assoc before ((get_or lines at no_line).shard ∷ []) (shards_of (drop (at + 1) lines))
    ∙ ap (λ (l : List Line). before ++ shards_of l) (sym (drop_more lines at no_line h))
    ∙ w

pub shards_end : (lines : List Line) (at : ℕ) (now whole : List ℕ) → length lines ≤ at → now ++ shards_of (drop at lines) ≡ whole → now ≡ whole
shards_end lines at now whole h w = sym (append-nil now) ∙ sym (ap (λ (l : List Line). now ++ shards_of l) (drop_all at lines h)) ∙ w

pub ruleset shards_more = (shard_more, shards_end)
