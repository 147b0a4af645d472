-- A cursor stands no further than the longest script and a place for each step.
use Rattle.std.proofs.Common.{◌≡◌, ◌⊎◌, inl, inr, ℕ, zero, suc, ◌+◌, ◌-◌, ◌<◌, ◌≤◌, Bool, true, false, List, [], ◌∷◌, length, get_or, drop, Option, Some, None, sym, subst, arith}
use Rattle.std.specs.Prelude.{⊤, nat_lt, option_map, if◌then◌else◌}
use Rattle.std.proofs.Math.ListN.{set}
use Rattle.std.proofs.lemmas.List.{length-drop}
use Rattle.rss_names.specs.declared.service.Key.{Key}
use Rattle.pipeline_lang.specs.declared.script.Compare.{Compare}
use Rattle.pipeline_lang.specs.declared.script.Statement.TheVariants as statement
use Rattle.rss_model.specs.CallStatement.{with_pairs, with_verdict, after_call, bound_guard}
use Rattle.rss_model.specs.Cursor.{NumberedStatement, Cursor, Block, next_cursor, with_variable, depth_after, cursor_in_block, cursor_after_end, statements_to_end, cursor_past_block, after_local}
use Rattle.rss_model.specs.Formula.{guard_value}
use Rattle.rss_machine.specs.State.{Stage, no_stage}
use Rattle.world_laws.proofs.Looks.{get_or_set}

-- the first statement of each open block stands no further than a place
abbrev pub FirstsNear : ℕ → List Block → Type 0
FirstsNear b [] = ⊤
FirstsNear b (x ∷ blocks) = (x.first ≤ b) × FirstsNear b blocks

-- a cursor stands no further than a place, and goes back no further
pub record IsNear (b : ℕ) (at : Cursor) : Type 0 where
  pub position : at.position ≤ b
  pub blocks : FirstsNear b at.blocks

firsts_up : (b d : ℕ) (blocks : List Block) → b ≤ d → FirstsNear b blocks → FirstsNear d blocks
firsts_up b d [] l h = tt
firsts_up b d (x ∷ blocks) l h = (let k = h.0 in omega (arith, k, l), firsts_up b d blocks l h.1)

pub near_up : (b d : ℕ) (at : Cursor) → b ≤ d → IsNear b at → IsNear d at
near_up b d at l h = record { position = let k = h.position in omega (arith, k, l); blocks = firsts_up b d at.blocks l h.blocks }

-- on to the next place
pub near_next : (b : ℕ) (at : Cursor) → IsNear b at → IsNear (b + 1) (next_cursor at)
near_next b at h = record { position = let k = h.position in omega (arith, k); blocks = firsts_up b (b + 1) at.blocks (omega arith) h.blocks }

pub near_variable : (b : ℕ) (at : Cursor) (variable value : ℕ) → IsNear b at → IsNear b (with_variable at variable value)
near_variable b at variable value h = record { position = h.position; blocks = h.blocks }

near_block : (b : ℕ) (at : Cursor) (turns : ℕ) → IsNear b at → IsNear (b + 1) (cursor_in_block at turns)
near_block b at turns h = record { position = let k = h.position in omega (arith, k); blocks = (let k = h.position in omega (arith, k), firsts_up b (b + 1) at.blocks (omega arith) h.blocks) }

-- no more statements stand up to an `end` than there are
to_end_within : (k : ℕ) (xs : List NumberedStatement) → statements_to_end k xs ≤ length xs
unfolding statements_to_end
to_end_within zero xs = omega arith
to_end_within (suc k) [] = omega arith
to_end_within (suc k) (x ∷ xs) = let r = to_end_within (depth_after x (suc k)) xs in omega (arith, r)

near_past : (b : ℕ) (script : List NumberedStatement) (at : Cursor) → length script ≤ b → IsNear b at → IsNear (b + 1) (cursor_past_block script at)
near_past b script at l h = record {
  position = let k = h.position in let m = to_end_within 1 (drop (at.position + 1) script) in let e = length-drop (at.position + 1) script in omega (arith, k, l, m, e);
  blocks = firsts_up b (b + 1) at.blocks (omega arith) h.blocks;
}

near_end : (b : ℕ) (at : Cursor) (bs : List Block) → FirstsNear b bs → IsNear b at → IsNear (b + 1) (cursor_after_end at bs)
near_end b at [] f h = near_next b at h
near_end b at (x ∷ bs) f h = by_turns (nat_lt 1 x.turns)
  where
    rest : FirstsNear (b + 1) bs
    rest = firsts_up b (b + 1) bs (omega arith) f.1

    by_turns : (t : Bool) → IsNear (b + 1) (if t then record at { position = x.first; blocks = record x { turns = x.turns - 1 } ∷ bs } else record at { position = at.position + 1; blocks = bs })
    by_turns true = record { position = let k = f.0 in omega (arith, k); blocks = (let k = f.0 in omega (arith, k), rest) }
    by_turns false = record { position = let k = h.position in omega (arith, k); blocks = rest }

near_when : (b : ℕ) (script : List NumberedStatement) (at : Cursor) (t : Bool) → length script ≤ b → IsNear b at → IsNear (b + 1) (if t then cursor_in_block at 1 else cursor_past_block script at)
near_when b script at true l h = near_block b at 1 h
near_when b script at false l h = near_past b script at l h

-- behind a statement that concerns the script alone
pub near_local : (b : ℕ) (script : List NumberedStatement) (at : Cursor) (x : NumberedStatement) → length script ≤ b → IsNear b at → IsNear (b + 1) (after_local script at x)
near_local b script at (statement.Let variable value) l h = near_next b (with_variable at variable _) (near_variable b at variable _ h)
near_local b script at (statement.Repeat turns) l h = near_block b at turns h
near_local b script at (statement.When test) l h = near_when b script at (guard_value test at.variables) l h
near_local b script at statement.End l h = near_end b at at.blocks h.blocks h
near_local b script at (statement.Read variable key) l h = near_up b (b + 1) at (omega arith) h
near_local b script at (statement.Write key value) l h = near_up b (b + 1) at (omega arith) h
near_local b script at (statement.Snap pairs) l h = near_up b (b + 1) at (omega arith) h
near_local b script at (statement.Txn pairs guard writes) l h = near_up b (b + 1) at (omega arith) h
near_local b script at (statement.Spawn stage) l h = near_up b (b + 1) at (omega arith) h
near_local b script at (statement.Wait stage) l h = near_up b (b + 1) at (omega arith) h
near_local b script at (statement.Put pipe value) l h = near_up b (b + 1) at (omega arith) h
near_local b script at (statement.Take variable pipe) l h = near_up b (b + 1) at (omega arith) h
near_local b script at (statement.Close pipe) l h = near_up b (b + 1) at (omega arith) h
near_local b script at statement.Fence l h = near_up b (b + 1) at (omega arith) h
near_local b script at statement.Exit l h = near_up b (b + 1) at (omega arith) h

near_pairs : (b : ℕ) (at : Cursor) (pairs : List (ℕ × Key)) (values : List ℕ) → IsNear b at → IsNear b (with_pairs at pairs values)
near_pairs b at [] values h = h
near_pairs b at (pair ∷ pairs) [] h = h
near_pairs b at (pair ∷ pairs) (value ∷ values) h = near_pairs b (with_variable at pair.0 value) pairs values (near_variable b at pair.0 value h)

near_verdict : (b : ℕ) (at : Cursor) (guard : Option (Compare ℕ)) (values : List ℕ) → IsNear b at → IsNear b (with_verdict at guard values)
near_verdict b at None values h = h
near_verdict b at (Some guard) values h = near_variable b at 0 _ h

-- behind a statement whose call is answered
pub near_call : (b : ℕ) (at : Cursor) (x : NumberedStatement) (values : List ℕ) → IsNear b at → IsNear (b + 1) (after_call at x values)
near_call b at (statement.Read variable key) values h = near_next b (with_pairs at ((variable, key) ∷ []) values) (near_pairs b at ((variable, key) ∷ []) values h)
near_call b at (statement.Write key value) values h = near_next b at h
near_call b at (statement.Snap pairs) values h = near_next b (with_pairs at pairs values) (near_pairs b at pairs values h)
near_call b at (statement.Txn pairs guard writes) values h =
    let bound = option_map (bound_guard pairs at.variables) guard in
    near_next b (with_verdict (with_pairs at pairs values) bound values) (near_verdict b (with_pairs at pairs values) bound values (near_pairs b at pairs values h))
near_call b at (statement.Let variable value) values h = near_up b (b + 1) at (omega arith) h
near_call b at (statement.Spawn stage) values h = near_up b (b + 1) at (omega arith) h
near_call b at (statement.Wait stage) values h = near_up b (b + 1) at (omega arith) h
near_call b at (statement.Put pipe value) values h = near_up b (b + 1) at (omega arith) h
near_call b at (statement.Take variable pipe) values h = near_up b (b + 1) at (omega arith) h
near_call b at (statement.Close pipe) values h = near_up b (b + 1) at (omega arith) h
near_call b at statement.Fence values h = near_up b (b + 1) at (omega arith) h
near_call b at (statement.Repeat turns) values h = near_up b (b + 1) at (omega arith) h
near_call b at (statement.When test) values h = near_up b (b + 1) at (omega arith) h
near_call b at statement.End values h = near_up b (b + 1) at (omega arith) h
near_call b at statement.Exit values h = near_up b (b + 1) at (omega arith) h

-- the cursors of all stages
pub record CursorsNear (b : ℕ) (stages : List Stage) : Type 0 where
  pub each : (i : ℕ) → IsNear b (get_or stages i no_stage).cursor

pub cursors_up : (b d : ℕ) (stages : List Stage) → b ≤ d → CursorsNear b stages → CursorsNear d stages
cursors_up b d stages l h = record { each = λ i. near_up b d (get_or stages i no_stage).cursor l (h.each i) }

pub cursors_set : (b : ℕ) (stages : List Stage) (i : ℕ) (x : Stage) → IsNear b x.cursor → CursorsNear b stages → CursorsNear b (set stages i x)
cursors_set b stages i x n h = record { each = λ j. by_place j (get_or_set stages i x j no_stage) }
  where
    by_place : (j : ℕ) → ((get_or (set stages i x) j no_stage ≡ x) × (j ≡ i) × (i < length stages)) ⊎ ((get_or (set stages i x) j no_stage ≡ get_or stages j no_stage) × ((j ≡ i → ⊥) ⊎ (length stages ≤ j))) → IsNear b (get_or (set stages i x) j no_stage).cursor
    by_place j (inl e) = subst (λ (y : Stage). IsNear b y.cursor) (sym e.0) n
    by_place j (inr e) = subst (λ (y : Stage). IsNear b y.cursor) (sym e.0) (h.each j)
