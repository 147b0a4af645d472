-- what is looked up in a file's tables is there
use Rattle.std.proofs.Common.{ℕ, ◌+◌, ◌<◌, ◌≡◌, ◌∙◌, Bool, true, false, cond, List, [], ◌∷◌, ◌++◌, Option, Some, None, length, refl, ap, arith}
use Rattle.std.proofs.lemmas.List.Quantifiers.{position-Some}
use Rattle.std.specs.Prelude.{is_some, option_map, option_and_then, unwrap_or, nat_lt}
use Rattle.std.specs.Str.{bytes_eq}
use Rattle.pipeline_lang.specs.declared.script.Expr.{Expr}
use Rattle.pipeline_lang.specs.declared.script.Statement.TheVariants.{Let, Read, Write, Snap, Txn, Spawn, Wait, Put, Take, Close, Fence, Repeat, When, End, Exit}
use Rattle.pipeline_lang.specs.Positions.{position_of}
use Rattle.pipeline_lang.specs.Statements.{Raw}
use Rattle.script_binding.specs.declared.mention.Mention.{Mention}
use Rattle.script_binding.specs.declared.mention.Role.TheVariants as role
use Rattle.script_binding.specs.Mentions.{mention, in_expr, in_pairs, in_writes, in_guard, behind_pairs, first_write, next_write, mentions}
use Rattle.script_binding.specs.NameFaults.{is_known_as, first_unknown}
use Rattle.script_binding.specs.Named.{IsRegister, IsKey, IsNumber, ArePairs, AreWrites, IsNamed}
use Rattle.script_binding.specs.Naming.{Naming, register_at, register_of, key_at, key_of, numbered}
use Rattle.script_binding.specs.Numbering.{no_key, bound_register, bound_key, bound_pairs, bound_writes, bound}

-- a position of a table is within it
within : (name : List ℕ) (table : List (List ℕ)) (at : ℕ) → position_of name table ≡ Some at → at < length table
within name table at e = (position-Some (bytes_eq name) table at name e).0

-- a register that is found
pub found_register : (n : Naming) (name : List ℕ) → is_some (register_of n name) ≡ true → IsRegister n (bound_register n name)
found_register n name h = go (position_of name n.registers) refl h
  where
    go : (o : Option ℕ) → position_of name n.registers ≡ o → is_some (option_map (register_at n) o) ≡ true → IsRegister n (unwrap_or (option_map (register_at n) o) no_key)
    go None e i = absurd cc
    go (Some at) e i = record { there = within name n.registers at e; same = refl }

-- a key that is found
pub found_key : (n : Naming) (name : List ℕ) → is_some (key_of n name) ≡ true → IsKey n (bound_key n name)
found_key n name h = go (position_of name n.keys) refl h
  where
    go : (o : Option ℕ) → position_of name n.keys ≡ o → is_some (option_map (key_at n) o) ≡ true → IsKey n (unwrap_or (option_map (key_at n) o) no_key)
    go None e i = absurd cc
    go (Some at) e i = record { there = within name n.keys at e; same = refl }

-- a number that is found in a table
pub found_number : (name : List ℕ) (table : List (List ℕ)) (other : ℕ) → is_some (option_and_then numbered (position_of name table)) ≡ true → IsNumber table (unwrap_or (option_and_then numbered (position_of name table)) other)
found_number name table other h = go (position_of name table) refl h
  where
    low : (at : ℕ) (b : Bool) → at < length table → is_some (cond b (Some (at + 1)) None) ≡ true → IsNumber table (unwrap_or (cond b (Some (at + 1)) None) other)
    low at true l i = record { least = omega arith; most = omega arith }
    low at false l i = absurd cc

    go : (o : Option ℕ) → position_of name table ≡ o → is_some (option_and_then numbered o) ≡ true → IsNumber table (unwrap_or (option_and_then numbered o) other)
    go None e i = absurd cc
    go (Some at) e i = low at (nat_lt at 16) (within name table at e) i

-- the first name of a list without an unknown one is known, and so are the others
first_known : (n : Naming) (m : Mention) (ms : List Mention) → first_unknown n (m ∷ ms) ≡ None → (is_known_as n m.name m.role ≡ true) × (first_unknown n ms ≡ None)
first_known n m ms h = go (is_known_as n m.name m.role) refl h
  where
    go : (b : Bool) → is_known_as n m.name m.role ≡ b → cond b (first_unknown n ms) (Some m.token) ≡ None → (is_known_as n m.name m.role ≡ true) × (first_unknown n ms ≡ None)
    go true e i = (e, i)
    go false e i = absurd cc

-- where two lists have no unknown name, the second has none
known_behind : (n : Naming) (front ms : List Mention) → first_unknown n (front ++ ms) ≡ None → first_unknown n ms ≡ None
known_behind n [] ms h = h
known_behind n (m ∷ front) ms h = known_behind n front ms (first_known n m (front ++ ms) h).1

-- nor has the first
known_front : (n : Naming) (front ms : List Mention) → first_unknown n (front ++ ms) ≡ None → first_unknown n front ≡ None
known_front n [] ms h = refl
known_front n (m ∷ front) ms h =
    let f = first_known n m (front ++ ms) h in
    ap (λ (b : Bool). cond b (first_unknown n front) (Some m.token)) f.0 ∙ known_front n front ms f.1

-- the keys of pairs without an unknown name
known_pairs : (n : Naming) (variables : List (List ℕ)) (at : ℕ) (ps : List (List ℕ × List ℕ)) → first_unknown n (in_pairs at ps) ≡ None → ArePairs n (bound_pairs n variables ps)
known_pairs n variables at [] h = tt
known_pairs n variables at (p ∷ ps) h =
    let k = first_known n (mention role.Key (at + 1) p.1) (in_pairs (at + 3) ps) h in
    (found_key n p.1 k.0, known_pairs n variables (at + 3) ps k.1)

-- the keys of writes without an unknown name
known_writes : (n : Naming) (variables : List (List ℕ)) (at : ℕ) (ws : List (List ℕ × Expr (List ℕ))) → first_unknown n (in_writes at ws) ≡ None → AreWrites n (bound_writes n variables ws)
known_writes n variables at [] h = tt
known_writes n variables at (w ∷ ws) h =
    let k = first_known n (mention role.Key at w.0) (in_expr (at + 2) w.1 ++ in_writes (next_write at w.1) ws) h in
    (found_key n w.0 k.0, known_writes n variables (next_write at w.1) ws (known_behind n (in_expr (at + 2) w.1) (in_writes (next_write at w.1) ws) k.1))

-- a statement without an unknown name
pub known_statement : (n : Naming) (variables : List (List ℕ)) (s : Raw) → first_unknown n (mentions s) ≡ None → IsNamed n (bound n variables s)
unfolding mentions bound
known_statement n variables (Let v e) h = tt
known_statement n variables (Read v r) h = found_register n r (first_known n (mention role.Register 2 r) [] h).0
known_statement n variables (Write r e) h = found_register n r (first_known n (mention role.Register 1 r) (in_expr 2 e) h).0
known_statement n variables (Snap pairs) h = known_pairs n variables 1 pairs h
known_statement n variables (Txn pairs guard writes) h =
    let front = in_pairs 1 pairs ++ in_guard (behind_pairs pairs) guard in
    let back = in_writes (first_write pairs guard) writes in (
      known_pairs n variables 1 pairs (known_front n (in_pairs 1 pairs) (in_guard (behind_pairs pairs) guard) (known_front n front back h)),
      known_writes n variables (first_write pairs guard) writes (known_behind n front back h),
    )
known_statement n variables (Spawn s) h = found_number s n.stages n.stage (first_known n (mention role.Stage 1 s) [] h).0
known_statement n variables (Wait s) h = found_number s n.stages n.stage (first_known n (mention role.Stage 1 s) [] h).0
known_statement n variables (Put p e) h = found_number p n.pipes 0 (first_known n (mention role.Pipe 1 p) (in_expr 2 e) h).0
known_statement n variables (Take v p) h = found_number p n.pipes 0 (first_known n (mention role.Pipe 2 p) [] h).0
known_statement n variables (Close p) h = found_number p n.pipes 0 (first_known n (mention role.Pipe 1 p) [] h).0
known_statement n variables Fence h = tt
known_statement n variables (Repeat turns) h = tt
known_statement n variables (When c) h = tt
known_statement n variables End h = tt
known_statement n variables Exit h = tt
