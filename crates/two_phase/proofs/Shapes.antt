-- Shapes of lines.
use Rattle.std.proofs.Common.{◌≡◌, ℕ, ◌+◌, ◌<◌, ◌≤◌, ◌==◌, Bool, true, false, List, [], ◌∷◌, ◌++◌, length, map, get_or, drop, zero, suc, refl, sym, ap, ◌∙◌, arith}
use Rattle.std.specs.Prelude.{if◌then◌else◌}
use Rattle.std.proofs.lemmas.List.{drop_more}
use Rattle.std.proofs.Common.{append_assoc}
use Rattle.rss_tables.specs.Outs.{Out}
use Rattle.rss_tables.specs.Lines.{Line, no_line, line_at, coordinator_of, shards_of, tells_decision, decision_request, all_awaiting, only_awaiting, with_line}
use Rattle.rss_tables.specs.Outs.{told}
use Rattle.rss_names.specs.declared.attempt.Attempt.{Attempt}
use Rattle.rss_wire.specs.declared.messages.Outcome.{Outcome}
use Rattle.rss_tables.specs.declared.lines.LineState.{LineState}
use Rattle.std.proofs.lemmas.List.{length-map}
use Rattle.rss_tables.specs.TransactionSession.{TxnSession, asks_lines}

-- what was asked, with what is still asked, is the whole
pub asks_more : (t : TxnSession) (outs now : List Out) (lines : List Line) (at : ℕ) (whole : List Out) → at < length lines → now ≡ outs ++ asks_lines t (get_or lines at no_line ∷ []) → outs ++ asks_lines t (drop at lines) ≡ whole → now ++ asks_lines t (drop (at + 1) lines) ≡ whole
asks_more t outs now lines at whole h e w =
    ap (λ (l : List Out). l ++ asks_lines t (drop (at + 1) lines)) e
    ∙ append_assoc outs (asks_lines t (get_or lines at no_line ∷ [])) (asks_lines t (drop (at + 1) lines))
    ∙ ap (λ (l : List Line). outs ++ asks_lines t l) (sym (drop_more lines at no_line h))
    ∙ w

pub tells_more : (attempt : Attempt) (outcome : Outcome) (outs now : List Out) (lines : List Line) (at : ℕ) (whole : List Out) → at < length lines → now ≡ outs ++ told (get_or lines at no_line).shard (decision_request attempt outcome) ∷ [] → outs ++ tells_decision attempt outcome (shards_of (drop at lines)) ≡ whole → now ++ tells_decision attempt outcome (shards_of (drop (at + 1) lines)) ≡ whole
tells_more attempt outcome outs now lines at whole h e w =
    ap (λ (l : List Out). l ++ tells_decision attempt outcome (shards_of (drop (at + 1) lines))) e
    ∙ append_assoc outs (told (get_or lines at no_line).shard (decision_request attempt outcome) ∷ []) (tells_decision attempt outcome (shards_of (drop (at + 1) lines)))
    ∙ ap (λ (l : List Line). outs ++ tells_decision attempt outcome (shards_of l)) (sym (drop_more lines at no_line h))
    ∙ w

-- the coordinator stays
pub same_coordinator : (shard : ℕ) (lines : List Line) → coordinator_of (only_awaiting shard lines) ≡ coordinator_of lines
same_coordinator shard [] = refl
same_coordinator shard (l ∷ lines) = refl

pub ruleset keeping = (append_assoc)
