-- The lines of calls, entry by entry.
use Rattle.std.proofs.Common.{◌≡◌, ℕ, ◌+◌, ◌-◌, Some, None, ◌<◌, ◌≤◌, List, [], ◌∷◌, ◌++◌, length, get_or, drop, IfSome, refl, sym, ap, ◌∙◌, arith, append-nil}
use Rattle.std.specs.Prelude.{Option}
use Rattle.std.proofs.lemmas.List.{drop_more, append_assoc}
use Rattle.pipeline_lang.specs.declared.config.Config.{Config}
use Rattle.rss_model.specs.declared.op.Op.{Op}
use Rattle.rss_model.specs.declared.op.Shown.{Shown}
use Rattle.rss_model.specs.declared.history.Entry.{Entry}
use Rattle.rss_model.specs.declared.history.Entry.TheVariants.{Begin, End, Give, Get, Over}
use Rattle.rss_model.specs.declared.history.How.{How}
use Rattle.rss_model.specs.declared.history.Token.{Token}
use Rattle.rss_model.specs.Legal.{shown_by, table_at}
use Rattle.plain_model.specs.Found.{found_reply}
use Rattle.rss_machine.specs.Places.{places_of, placed_calls}
use Rattle.rss_machine.specs.ReportText.{place_in, known_reply, shown_at_place, call_line, call_lines}
use Rattle.rss_machine.specs.State.{State, owner_at}
use Rattle.rss_machine.specs.declared.place.Placed.{Placed}
use Rattle.rss_machine.specs.declared.state.OwnerFate.{OwnerFate}
use Rattle.call_tables.specs.Along.{IsWalk}
use Rattle.call_tables.specs.Tables.{held}
use Rattle.call_tables.specs.declared.walk.Walk.{Walk}
use Rattle.call_tables.proofs.Going.{first_walk}
use Rattle.world_report.proofs.Placing.{place_within, known_ended, known_open}

-- the line of a call by its reply, by what it would be shown at its place, or by neither
pub ended_line : (config : Config) (h : List Entry) (order : List ℕ) (call n : ℕ) (o : Op) (place : Option ℕ) (fate : OwnerFate) (out new : List ℕ) (shown reply : List Shown)
    → new ≡ out ++ call_line config call n o (Some shown) fate place → Some reply ≡ found_reply h call → shown ≡ reply
    → new ≡ out ++ call_line config call n o (known_reply h order call o place) fate place
ended_line config h order call n o place fate out new shown reply e f g =
    e ∙ ap (λ (k : Option (List Shown)). out ++ call_line config call n o k fate place) (ap (λ (x : List Shown). Some x) g ∙ sym (known_ended h order call o place reply f))

pub placed_line : (config : Config) (h : List Entry) (order : List ℕ) (call n at : ℕ) (o : Op) (place : Option ℕ) (fate : OwnerFate) (out new : List ℕ) (shown items : List Shown)
    → new ≡ out ++ call_line config call n o (Some shown) fate place → items ≡ shown_by (table_at h order (at - 1)) o → shown ≡ items → place ≡ Some at → None ≡ found_reply h call
    → new ≡ out ++ call_line config call n o (known_reply h order call o place) fate place
placed_line config h order call n at o place fate out new shown items e i g p f =
    e ∙ ap (λ (k : Option (List Shown)). out ++ call_line config call n o k fate place)
    (ap (λ (x : List Shown). Some x) (g ∙ i) ∙ ap (shown_at_place h order o) (sym p) ∙ sym (known_open h order call o place f))

pub open_line : (config : Config) (h : List Entry) (order : List ℕ) (call n : ℕ) (o : Op) (place : Option ℕ) (fate : OwnerFate) (out new : List ℕ)
    → new ≡ out ++ call_line config call n o None fate place → place ≡ None → None ≡ found_reply h call
    → new ≡ out ++ call_line config call n o (known_reply h order call o place) fate place
open_line config h order call n o place fate out new e p f =
    e ∙ ap (λ (k : Option (List Shown)). out ++ call_line config call n o k fate place) (ap (shown_at_place h order o) (sym p) ∙ sym (known_open h order call o place f))

pub ruleset replies = (ended_line, placed_line, open_line)

-- the line of a call that begins
pub begun_line : (c : Config) (s : State) (entry : Entry) (call n number : ℕ) (o : Op) (h : List Entry) (order : List ℕ) (place : Option ℕ) (placed : List (Option ℕ)) (fate : OwnerFate) (config : Config) (out new : List ℕ)
    → new ≡ out ++ call_line config call n o (known_reply h order call o place) fate place
    → entry ≡ Begin call n o → h ≡ s.history → order ≡ placed_calls (places_of s)
    → ((k : ℕ) → held placed k ≡ place_in k (places_of s)) → place ≡ held placed number → number ≡ call
    → fate ≡ (owner_at s call).fate → config ≡ c
    → new ≡ out ++ call_lines c s (places_of s) (entry ∷ [])
begun_line c s entry call n number o h order place placed fate config out new e b d f t g m a k =
    let here : place ≡ place_in call (places_of s) = g ∙ t number ∙ ap (λ (x : ℕ). place_in x (places_of s)) m in
    e
    ∙ ap (λ (x : Config). out ++ call_line x call n o (known_reply h order call o place) fate place) k
    ∙ ap (λ (x : List Entry). out ++ call_line c call n o (known_reply x order call o place) fate place) d
    ∙ ap (λ (x : List ℕ). out ++ call_line c call n o (known_reply s.history x call o place) fate place) f
    ∙ ap (λ (x : OwnerFate). out ++ call_line c call n o (known_reply s.history (placed_calls (places_of s)) call o place) x place) a
    ∙ ap (λ (x : Option ℕ). out ++ call_line c call n o (known_reply s.history (placed_calls (places_of s)) call o x) (owner_at s call).fate x) here
    ∙ ap (λ (x : List ℕ). out ++ x) (sym (append-nil (call_line c call n o (known_reply s.history (placed_calls (places_of s)) call o (place_in call (places_of s))) (owner_at s call).fate (place_in call (places_of s)))))
    ∙ ap (λ (x : Entry). out ++ call_lines c s (places_of s) (x ∷ [])) (sym b)

pub end_line : (c : Config) (s : State) (places : List Placed) (entry : Entry) (call : ℕ) (reply : List Shown) (out : List ℕ) → entry ≡ End call reply → out ≡ out ++ call_lines c s places (entry ∷ [])
end_line c s places entry call reply out e = sym (append-nil out) ∙ ap (λ (x : Entry). out ++ call_lines c s places (x ∷ [])) (sym e)

pub give_line : (c : Config) (s : State) (places : List Placed) (entry : Entry) (n : ℕ) (token : Token) (out : List ℕ) → entry ≡ Give n token → out ≡ out ++ call_lines c s places (entry ∷ [])
give_line c s places entry n token out e = sym (append-nil out) ∙ ap (λ (x : Entry). out ++ call_lines c s places (x ∷ [])) (sym e)

pub get_line : (c : Config) (s : State) (places : List Placed) (entry : Entry) (n : ℕ) (token : Token) (out : List ℕ) → entry ≡ Get n token → out ≡ out ++ call_lines c s places (entry ∷ [])
get_line c s places entry n token out e = sym (append-nil out) ∙ ap (λ (x : Entry). out ++ call_lines c s places (x ∷ [])) (sym e)

pub over_line : (c : Config) (s : State) (places : List Placed) (entry : Entry) (n : ℕ) (how : How) (out : List ℕ) → entry ≡ Over n how → out ≡ out ++ call_lines c s places (entry ∷ [])
over_line c s places entry n how out e = sym (append-nil out) ∙ ap (λ (x : Entry). out ++ call_lines c s places (x ∷ [])) (sym e)

-- before the place of a call stand no more calls than are placed
pub place_here : (s : State) (number : ℕ) (place : Option ℕ) (placed : List (Option ℕ)) (order : List ℕ) → order ≡ placed_calls (places_of s) → ((k : ℕ) → held placed k ≡ place_in k (places_of s)) → place ≡ held placed number → IfSome place (λ p. (1 ≤ p) × (p ≤ length order))
place_here s number place placed order f t g = place_within s number place (places_of s) order refl (g ∙ t number) f

pub ruleset entries = (begun_line, end_line, give_line, get_line, over_line, place_here)

-- one entry more, and those that are left
pub parted : (c : Config) (s : State) (places : List Placed) (e : Entry) (rest : List Entry) → call_lines c s places (e ∷ rest) ≡ call_lines c s places (e ∷ []) ++ call_lines c s places rest
parted c s places (Begin call n o) rest =
    ap (λ (x : List ℕ). x ++ call_lines c s places rest) (sym (append-nil (call_line c call n o (known_reply s.history (placed_calls places) call o (place_in call places)) (owner_at s call).fate (place_in call places))))
parted c s places (End call reply) rest = refl
parted c s places (Give n token) rest = refl
parted c s places (Get n token) rest = refl
parted c s places (Over n how) rest = refl

pub lines_more : (c : Config) (s : State) (places : List Placed) (h : List Entry) (i : ℕ) (d : Entry) (whole out new : List ℕ) → whole ≡ out ++ call_lines c s places (drop i h) → new ≡ out ++ call_lines c s places (get_or h i d ∷ []) → i < length h → whole ≡ new ++ call_lines c s places (drop (i + 1) h)
lines_more c s places h i d whole out new w e l =
    w ∙ ap (λ (es : List Entry). out ++ call_lines c s places es) (drop_more h i d l)
    ∙ ap (λ (x : List ℕ). out ++ x) (parted c s places (get_or h i d) (drop (i + 1) h))
    ∙ sym (append_assoc out (call_lines c s places (get_or h i d ∷ [])) (call_lines c s places (drop (i + 1) h)))
    ∙ ap (λ (x : List ℕ). x ++ call_lines c s places (drop (i + 1) h)) (sym e)

pub new_walk : (h : List Entry) (order : List ℕ) (walk : Walk) → walk.place ≡ 0 → walk.rows.items ≡ [] → IsWalk h order walk
new_walk h order walk e f = first_walk h order walk e f

pub ruleset lines = (lines_more, new_walk)

-- by the places that are those of the state
pub held_placed : (s : State) (places : List Placed) (table items : List (Option ℕ)) → ((call : ℕ) → held items call ≡ place_in call places) → table ≡ items → places ≡ places_of s → (call : ℕ) → held table call ≡ place_in call (places_of s)
held_placed s places table items t e f call = ap (λ (x : List (Option ℕ)). held x call) e ∙ t call ∙ ap (place_in call) f

pub lines_placed : (c : Config) (s : State) (places : List Placed) (h : List Entry) (out new : List ℕ) → new ≡ out ++ call_lines c s (places_of s) h → places ≡ places_of s → new ≡ out ++ call_lines c s places h
lines_placed c s places h out new e f = e ∙ ap (λ (ps : List Placed). out ++ call_lines c s ps h) (sym f)

pub order_placed : (s : State) (places : List Placed) (order items : List ℕ) → items ≡ placed_calls places → order ≡ items → places ≡ places_of s → order ≡ placed_calls (places_of s)
order_placed s places order items e f g = f ∙ e ∙ ap placed_calls g

pub ruleset placing = (held_placed, lines_placed, order_placed)
