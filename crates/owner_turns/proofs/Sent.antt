-- What was sent, from what lies in the outbox.
use Rattle.std.proofs.Common.{◌≡◌, ℕ, List, [], ◌∷◌, ◌++◌, ap, sym, ◌∙◌, refl}
use Rattle.std.proofs.lemmas.List.{append-nil}
use Rattle.rss_names.specs.declared.service.Target.{Target}
use Rattle.rss_wire.specs.declared.messages.Request.{Request}
use Rattle.rss_tables.specs.Outs.{Out, awaited}

-- rounds send
pub rounds_send : (lines before : List Out) (old now requests : List (Target × Request)) → lines ≡ before → old ≡ [] → now ≡ old ++ requests → lines ++ awaited now ≡ before ++ awaited requests
rounds_send lines before old now requests l o n = ap (λ (x : List Out). x ++ awaited now) l ∙ ap (λ (x : List (Target × Request)). before ++ awaited x) (n ∙ ap (λ (x : List (Target × Request)). x ++ requests) o)

-- lines send
pub lines_send : (now before outs : List Out) (rounds : List (Target × Request)) → rounds ≡ [] → now ≡ before ++ outs → now ++ awaited rounds ≡ before ++ outs
lines_send now before outs rounds r n = ap (λ (x : List (Target × Request)). now ++ awaited x) r ∙ append-nil now ∙ n

-- nothing is sent
pub none_sent : (lines before : List Out) (rounds : List (Target × Request)) → rounds ≡ [] → lines ≡ before → lines ++ awaited rounds ≡ before ++ []
none_sent lines before rounds r l = ap (λ (x : List (Target × Request)). lines ++ awaited x) r ∙ append-nil lines ∙ l ∙ sym (append-nil before)

pub ruleset sending = (rounds_send, lines_send, none_sent)
