-- The operations of scripts that name keys of the file, and the lines of such operations.
use Rattle.std.proofs.Common.{◌≡◌, ◌⊎◌, inl, inr, ℕ, zero, suc, ◌+◌, ◌<◌, ◌≤◌, true, List, [], ◌∷◌, ◌++◌, length, map, All, Option, Some, None, refl, sym, ap, ◌∙◌, subst, arith}
use Rattle.std.specs.Prelude.{◌==◌}
use Rattle.std.proofs.lemmas.Bool.{cond_both, true≢false, eqb-true, eqb-false, or_left, cases_lt}
use Rattle.std.proofs.lemmas.List.Elements.{All-nil, All-cons, All-head, All-tail, All-filter, filter_passes}
use Rattle.std.proofs.lemmas.Simd.{map-map}
use Rattle.rss_names.specs.Services.{same_key}
use Rattle.rss_names.specs.declared.service.Key.{Key}
use Rattle.pipeline_lang.specs.Config.{home_of, statement_at}
use Rattle.pipeline_lang.specs.declared.config.Config.{Config}
use Rattle.pipeline_lang.specs.declared.script.Expr.{Expr}
use Rattle.pipeline_lang.specs.declared.script.Statement.{Statement}
use Rattle.pipeline_lang.specs.declared.script.Statement.TheVariants as statement
use Rattle.rss_model.specs.CallStatement.{op_of_statement, bound_formula}
use Rattle.rss_model.specs.declared.op.Op.{Op}
use Rattle.rss_tables.specs.Lines.{Line, keys_on, opening_line, lines_from, lines_of}
use Rattle.rss_tables.specs.Locks.{has_key}
use Rattle.world_laws.specs.Scripted.{IsScripted}
use Rattle.world_laws.proofs.Looks.{some_is, none_is_not}
use Rattle.session_laws.specs.Frames.{frames_of, nth_line}
use Rattle.session_laws.proofs.Frames.{frames_length, frames_shard, frames_apart, lines_of_apart, lines_of_bounds, lines_of_reads, lines_of_writes}
use Rattle.session_laws.proofs.Shown.{key_itself}
use Rattle.txn_laws.specs.Files.{IsKey, statement_keys, is_some_key, names_some, NamesKeys, OpNamed}
use Rattle.txn_state_laws.specs.Framed.{LinesFit}

-- what is true of each of two lists behind each other is true of each of the one and of the other
pub all_first : {X : Type 0} (P : X → Type 0) (xs ys : List X) → All P (xs ++ ys) → All P xs
all_first P [] ys h = All-nil P
all_first P (x ∷ xs) ys h = All-cons P x xs (All-head P x (xs ++ ys) h) (all_first P xs ys (All-tail P x (xs ++ ys) h))

pub all_second : {X : Type 0} (P : X → Type 0) (xs ys : List X) → All P (xs ++ ys) → All P ys
all_second P [] ys h = h
all_second P (x ∷ xs) ys h = all_second P xs ys (All-tail P x (xs ++ ys) h)

-- a statement's operation names the keys that the statement names
some_op : (x y : Op) → Some x ≡ Some y → x ≡ y
some_op x y e = some_is x y e

none_op : (c : Config) (x : Op) → ◌≡◌ {A = Option Op} None (Some x) → OpNamed c x
none_op c x e = absurd (none_is_not x e)

keys_written : (pairs : List (ℕ × Key)) (variables : List ℕ) (writes : List (Key × Expr ℕ))
    → map (λ (write : Key × Expr ℕ). write.0) (map (λ (write : Key × Expr ℕ). (write.0, bound_formula pairs variables write.1)) writes) ≡ map (λ (write : Key × Expr ℕ). write.0) writes
keys_written pairs variables writes = map-map (λ (write : Key × Expr ℕ). write.0) (λ (write : Key × Expr ℕ). (write.0, bound_formula pairs variables write.1)) writes

statement_named : (c : Config) (variables : List ℕ) (x : Op) (z : Statement ℕ Key ℕ ℕ) → All (IsKey c) (statement_keys z) → names_some z ≡ true → op_of_statement z variables ≡ Some x → OpNamed c x
statement_named c variables x (statement.Snap pairs) k n e = subst (OpNamed c) (some_op _ x e) (record { keys = k; some = n })
statement_named c variables x (statement.Txn reads guard writes) k n e =
    let w = keys_written reads variables writes in
    subst (OpNamed c) (some_op _ x e) (record {
      keys = subst (λ (keys : List Key). All (IsKey c) (map (λ (pair : ℕ × Key). pair.1) reads ++ keys)) (sym w) k;
      some = ap (λ (keys : List Key). is_some_key (map (λ (pair : ℕ × Key). pair.1) reads ++ keys)) w ∙ n;
    })
statement_named c variables x (statement.Read variable key) k n e = subst (OpNamed c) (some_op _ x e) (record { keys = All-nil (IsKey c); some = refl })
statement_named c variables x (statement.Write key value) k n e = subst (OpNamed c) (some_op _ x e) (record { keys = All-nil (IsKey c); some = refl })
statement_named c variables x (statement.Let variable value) k n e = none_op c x e
statement_named c variables x (statement.Spawn child) k n e = none_op c x e
statement_named c variables x (statement.Wait child) k n e = none_op c x e
statement_named c variables x (statement.Put p value) k n e = none_op c x e
statement_named c variables x (statement.Take variable p) k n e = none_op c x e
statement_named c variables x (statement.Close p) k n e = none_op c x e
statement_named c variables x statement.Fence k n e = none_op c x e
statement_named c variables x (statement.Repeat times) k n e = none_op c x e
statement_named c variables x (statement.When test) k n e = none_op c x e
statement_named c variables x statement.End k n e = none_op c x e
statement_named c variables x statement.Exit k n e = none_op c x e

pub scripted_named : (c : Config) (stage : ℕ) (x : Op) → NamesKeys c → IsScripted c stage x → OpNamed c x
scripted_named c stage x names h = statement_named c h.variables x (statement_at c stage h.place) (names.statements stage h.place) (names.some stage h.place) h.makes

-- each line of keys has a key
lines_keyed : (home : ℕ → ℕ) (reads writes : List Key) (shard left i : ℕ) → i < length (lines_from home reads writes shard left)
    → 0 < length (keys_on home (nth_line (lines_from home reads writes shard left) i).shard reads) + length (keys_on home (nth_line (lines_from home reads writes shard left) i).shard writes)
lines_keyed home reads writes shard zero i h = absurd (omega (arith, h))
lines_keyed home reads writes shard (suc left) i h =
    cond_both (length (keys_on home shard reads) + length (keys_on home shard writes) == 0) (lines_from home reads writes (shard + 1) left)
    (opening_line shard (keys_on home shard reads) (keys_on home shard writes) ∷ lines_from home reads writes (shard + 1) left)
    (λ (lines : List Line). i < length lines → 0 < length (keys_on home (nth_line lines i).shard reads) + length (keys_on home (nth_line lines i).shard writes))
    (λ e a. lines_keyed home reads writes (shard + 1) left i a) (λ e. by_place i (eqb-false (length (keys_on home shard reads) + length (keys_on home shard writes)) 0 e) (lines_keyed home reads writes (shard + 1) left)) h
  where
    by_place : (j : ℕ) → (length (keys_on home shard reads) + length (keys_on home shard writes) ≡ 0 → ⊥)
        → ((k : ℕ) → k < length (lines_from home reads writes (shard + 1) left) → 0 < length (keys_on home (nth_line (lines_from home reads writes (shard + 1) left) k).shard reads) + length (keys_on home (nth_line (lines_from home reads writes (shard + 1) left) k).shard writes))
        → j < length (opening_line shard (keys_on home shard reads) (keys_on home shard writes) ∷ lines_from home reads writes (shard + 1) left)
        → 0 < length (keys_on home (nth_line (opening_line shard (keys_on home shard reads) (keys_on home shard writes) ∷ lines_from home reads writes (shard + 1) left) j).shard reads) + length (keys_on home (nth_line (opening_line shard (keys_on home shard reads) (keys_on home shard writes) ∷ lines_from home reads writes (shard + 1) left) j).shard writes)
    by_place zero n ih a = omega (arith, n)
    by_place (suc j) n ih a = ih j (omega (arith, a))

-- a shard that has a key of the file is one of the file
key_home : (c : Config) (shard : ℕ) (keys : List Key) → All (IsKey c) keys → 0 < length (keys_on (home_of c) shard keys) → shard ≤ length c.shard_services
key_home c shard keys a h = by_first (keys_on (home_of c) shard keys) (All-filter (λ (key : Key). home_of c key.index == shard) (IsKey c) keys a) (filter_passes (λ (key : Key). home_of c key.index == shard) keys) h
  where
    by_first : (found : List Key) → All (IsKey c) found → All (λ (key : Key). (home_of c key.index == shard) ≡ true) found → 0 < length found → shard ≤ length c.shard_services
    by_first [] b p i = absurd (omega (arith, i))
    by_first (key ∷ found) b p i =
        let k : IsKey c key = All-head (IsKey c) key found b in
        let e : home_of c key.index ≡ shard = eqb-true (home_of c key.index) shard (All-head (λ (other : Key). (home_of c other.index == shard) ≡ true) key found p) in
        subst (λ (n : ℕ). n ≤ length c.shard_services) e k.last

-- keys of which there is one have a line
key_line : (c : Config) (reads writes : List Key) → All (IsKey c) reads → All (IsKey c) writes → is_some_key (reads ++ writes) ≡ true → 0 < length (lines_of (home_of c) reads writes)
key_line c [] [] a b e = absurd (true≢false (sym e))
key_line c [] (key ∷ writes) a b e =
    let k : IsKey c key = All-head (IsKey c) key writes b in
    let l = (lines_of_writes (home_of c) [] (key ∷ writes) key (or_left (same_key key key) (has_key writes key) (key_itself key)) k.first k.most).2 in
    let i = l.inside in omega (arith, i)
key_line c (key ∷ reads) writes a b e =
    let k : IsKey c key = All-head (IsKey c) key reads a in
    let l = (lines_of_reads (home_of c) (key ∷ reads) writes key (or_left (same_key key key) (has_key reads key) (key_itself key)) k.first k.most).2 in
    let i = l.inside in omega (arith, i)

-- the lines of keys of the file fit
pub lines_of_fit : (c : Config) (reads writes : List Key) → All (IsKey c) (reads ++ writes) → is_some_key (reads ++ writes) ≡ true → LinesFit c (lines_of (home_of c) reads writes)
lines_of_fit c reads writes a e = record {
  some = key_line c reads writes (all_first (IsKey c) reads writes a) (all_second (IsKey c) reads writes a) e;
  first = λ place i. (lines_of_bounds (home_of c) reads writes place i).0;
  last = λ place i. by_sum (nth_line (lines_of (home_of c) reads writes) place).shard (lines_keyed (home_of c) reads writes 1 16 place i);
  apart = lines_of_apart (home_of c) reads writes;
}
  where
    by_reads : (shard : ℕ) → (0 < length (keys_on (home_of c) shard reads)) ⊎ (length (keys_on (home_of c) shard reads) ≤ 0) → 0 < length (keys_on (home_of c) shard reads) + length (keys_on (home_of c) shard writes) → shard ≤ length c.shard_services
    by_reads shard (inl h) k = key_home c shard reads (all_first (IsKey c) reads writes a) h
    by_reads shard (inr h) k = key_home c shard writes (all_second (IsKey c) reads writes a) (omega (arith, h, k))

    by_sum : (shard : ℕ) → 0 < length (keys_on (home_of c) shard reads) + length (keys_on (home_of c) shard writes) → shard ≤ length c.shard_services
    by_sum shard k = by_reads shard (cases_lt 0 (length (keys_on (home_of c) shard reads))) k

-- lines that are made of the same fit as well
pub lines_fit_stay : (c : Config) (u v : List Line) → frames_of u ≡ frames_of v → LinesFit c v → LinesFit c u
lines_fit_stay c u v e h = record {
  some = subst (λ (n : ℕ). 0 < n) (sym (frames_length u v e)) h.some;
  first = λ place i. subst (λ (n : ℕ). 1 ≤ n) (sym (frames_shard u v e place)) (h.first place (subst (λ (n : ℕ). place < n) (frames_length u v e) i));
  last = λ place i. subst (λ (n : ℕ). n ≤ length c.shard_services) (sym (frames_shard u v e place)) (h.last place (subst (λ (n : ℕ). place < n) (frames_length u v e) i));
  apart = frames_apart u v e h.apart;
}
