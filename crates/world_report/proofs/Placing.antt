-- Places of calls, and what is known of calls by them.
use Rattle.std.proofs.Common.{◌≡◌, ℕ, suc, ◌+◌, ◌<◌, ◌≤◌, ◌==◌, Bool, true, false, if◌then◌else◌, List, [], ◌∷◌, length, Option, Some, None, IfSome, refl, sym, ap, ◌∙◌, subst, arith}
use Rattle.rss_model.specs.declared.op.Op.{Op}
use Rattle.rss_model.specs.declared.op.Shown.{Shown}
use Rattle.rss_model.specs.declared.history.Entry.{Entry}
use Rattle.rss_machine.specs.Places.{numbered, placed_calls, places_of, keyed_calls, sorted}
use Rattle.rss_machine.specs.ReportText.{place_in, known_reply, shown_at_place}
use Rattle.rss_machine.specs.State.{State}
use Rattle.rss_machine.specs.declared.place.KeyedCall.{KeyedCall}
use Rattle.rss_machine.specs.declared.place.Placed.{Placed}
use Rattle.plain_model.specs.Found.{found_reply}
use Rattle.plain_model.proofs.FoundLemmas.{HasEnded, found_reply-is}

-- a place lies among as many from a place on
abbrev IsAmong : ℕ → ℕ → ℕ → Type 0
IsAmong n count place = (n ≤ place) × (place < n + count)

later : (n count : ℕ) (place : Option ℕ) → IfSome place (IsAmong (n + 1) count) → IfSome place (IsAmong n (suc count))
later n count None h = tt
later n count (Some place) h = (omega (arith, h.0), omega (arith, h.1))

-- the place of a call is one of those that are numbered
place_among : (call n : ℕ) (cs : List KeyedCall) → IfSome (place_in call (numbered n cs)) (IsAmong n (length cs))
place_among call n [] = tt
place_among call n (c ∷ cs) = by (c.call == call) (place_among call (n + 1) cs)
  where
    by : (t : Bool) → IfSome (place_in call (numbered (n + 1) cs)) (IsAmong (n + 1) (length cs)) → IfSome (if t then Some n else place_in call (numbered (n + 1) cs)) (IsAmong n (suc (length cs)))
    by true rest = (omega arith, omega arith)
    by false rest = later n (length cs) (place_in call (numbered (n + 1) cs)) rest

as_many : (n : ℕ) (cs : List KeyedCall) → length (placed_calls (numbered n cs)) ≡ length cs
as_many n [] = refl
as_many n (c ∷ cs) = ap suc (as_many (n + 1) cs)

within : (n count : ℕ) (place : Option ℕ) → IfSome place (IsAmong 1 count) → n ≡ count → IfSome place (λ p. (1 ≤ p) × (p ≤ n))
within n count None h e = tt
within n count (Some place) h e = (h.0, omega (arith, h.1, e))

-- before the place of a call stand no more calls than are placed
pub place_within : (s : State) (call : ℕ) (place : Option ℕ) (places : List Placed) (order : List ℕ) → places ≡ places_of s → place ≡ place_in call places → order ≡ placed_calls places → IfSome place (λ p. (1 ≤ p) × (p ≤ length order))
place_within s call place places order e f g =
    let cs = sorted (keyed_calls s) in
    let many : length order ≡ length cs = ap (λ (calls : List ℕ). length calls) (g ∙ ap placed_calls e) ∙ as_many 1 cs in
    let among : IfSome place (IsAmong 1 (length cs)) =
    subst (λ (o : Option ℕ). IfSome o (IsAmong 1 (length cs))) (sym (f ∙ ap (place_in call) e)) (place_among call 1 cs) in
    within (length order) (length cs) place among many

-- what is known of a call that has ended is its reply
pub known_ended : (h : List Entry) (order : List ℕ) (call : ℕ) (o : Op) (place : Option ℕ) (reply : List Shown) → Some reply ≡ found_reply h call → known_reply h order call o place ≡ Some reply
known_ended h order call o place reply e =
    let ended : HasEnded h call (Some reply) = subst (HasEnded h call) (sym e) (found_reply-is h call) in
    grind (arith, ended)

-- of one that has not, what it would be shown at its place
pub known_open : (h : List Entry) (order : List ℕ) (call : ℕ) (o : Op) (place : Option ℕ) → None ≡ found_reply h call → known_reply h order call o place ≡ shown_at_place h order o place
known_open h order call o place e =
    let ended : HasEnded h call None = subst (HasEnded h call) (sym e) (found_reply-is h call) in
    grind (arith, ended)
