-- Each snapshot and each transaction of a file is of one transaction service, and names few keys, each once.
use Rattle.std.proofs.Common.{◌≡◌, ℕ, suc, ◌+◌, ◌-◌, ◌<◌, ◌≤◌, Bool, true, false, List, [], ◌∷◌, ◌++◌, length, map, get_or, Option, Some, None, Ok, refl, ap, sym, ◌∙◌, subst, arith}
use Rattle.std.specs.Prelude.{nat_lt, AllPairs}
use Rattle.std.specs.Option.{option_or}
use Rattle.std.proofs.lemmas.Bool.Decides.{nat_tests}
use Rattle.std.proofs.lemmas.List.{length-append}
use Rattle.rss_names.specs.declared.service.Key.{Key}
use Rattle.rss_names.specs.declared.service.ServiceId.{ServiceId}
use Rattle.rss_names.specs.declared.service.ServiceId.TheVariants as id
use Rattle.pipeline_lang.specs.Config.{no_body, statement_at}
use Rattle.pipeline_lang.specs.declared.config.Config.{Config}
use Rattle.pipeline_lang.specs.declared.script.Compare.{Compare}
use Rattle.pipeline_lang.specs.declared.script.Expr.{Expr}
use Rattle.pipeline_lang.specs.declared.script.Statement.TheVariants as statement
use Rattle.pipeline_lang.specs.Spelled.{IsStatement}
use Rattle.pipeline_lang.specs.Statements.{Raw}
use Rattle.pipeline_lang.proofs.Grammatical.{script_spelled}
use Rattle.script_binding.specs.declared.environment.Environment.{Environment}
use Rattle.script_binding.specs.declared.mention.Mention.{Mention}
use Rattle.script_binding.specs.Environment.{Bound, noted, start, after}
use Rattle.script_binding.specs.Limits.{over_pairs, over_writes}
use Rattle.script_binding.specs.Mentions.{in_pairs, in_guard, in_writes, in_txn, written_keys, behind_pairs, first_write, mentions}
use Rattle.script_binding.specs.NameFaults.{first_repeat}
use Rattle.script_binding.specs.Named.{IsKey}
use Rattle.script_binding.specs.Naming.{Naming, key_at}
use Rattle.script_binding.specs.Numbering.{bound_pairs, bound_writes, bound}
use Rattle.script_binding.specs.Outcome.{first_fault, bound_in, outcome_in}
use Rattle.script_binding.proofs.Passing.{no_first, no_second, comes_bound}
use Rattle.pipeline_tables.specs.declared.tables.StageTable.{StageTable}
use Rattle.pipeline_file.specs.declared.declared_names.Declared.{Declared}
use Rattle.pipeline_file.specs.declared.resolve.Resolved.{Resolved}
use Rattle.pipeline_file.specs.Scripts.{naming_of, bodies_from}
use Rattle.file_laws.proofs.Each.{Each, each_at, each_or}
use Rattle.file_laws.proofs.NamedKeys.{statements_each}
use Rattle.file_laws.proofs.Parts.{HoldsOfSaid, BodyHas, bodies_have}
use Rattle.file_laws.proofs.Shards.{IsHome}
use Rattle.world_laws.specs.Shapes.{AreOfOne, Differ, KeepsSnapshot, KeepsTransaction, KeepsService, KeepsServices}
use Rattle.sound_laws.proofs.Keyed.{pair_keys, write_keys, known_front, known_behind, own_front, own_behind, OneService, one_service, pairs_known, writes_known, pairs_own, writes_own, pairs_distinct, writes_distinct}
use Rattle.sound_laws.proofs.TxnKeys.{keys_of, keys_append, pairs_are, writes_are, IsTxnKey, of_one, once}
use Rattle.sound_laws.proofs.Tested.{IsFree, is_free, fails}

-- binding keeps the length of a list
length_pairs : (n : Naming) (variables : List (List ℕ)) (ps : List (List ℕ × List ℕ)) → length (bound_pairs n variables ps) ≡ length ps
length_pairs n variables [] = refl
length_pairs n variables (p ∷ ps) = ap suc (length_pairs n variables ps)

length_writes : (n : Naming) (variables : List (List ℕ)) (ws : List (List ℕ × Expr (List ℕ))) → length (bound_writes n variables ws) ≡ length ws
length_writes n variables [] = refl
length_writes n variables (w ∷ ws) = ap suc (length_writes n variables ws)

many_pairs : (ps : List (List ℕ × List ℕ)) → length (pair_keys ps) ≡ length ps
many_pairs [] = refl
many_pairs (p ∷ ps) = ap suc (many_pairs ps)

many_writes : (ws : List (List ℕ × Expr (List ℕ))) → length (write_keys ws) ≡ length ws
many_writes [] = refl
many_writes (w ∷ ws) = ap suc (many_writes ws)

at_most : (n m : ℕ) → nat_lt n m ≡ false → m ≤ n
at_most n m h = grind (arith, nat_tests, h)

few_pairs : (n : Naming) (variables : List (List ℕ)) (ps : List (List ℕ × List ℕ)) → over_pairs ps ≡ None → length (bound_pairs n variables ps) ≤ 8
few_pairs n variables ps h = subst (λ (i : ℕ). i ≤ 8) (sym (length_pairs n variables ps)) (at_most 8 (length ps) (fails (nat_lt 8 (length ps)) 25 h))

some_of_two : (xs ys : List (List ℕ)) → 1 ≤ length ys → 1 ≤ length (xs ++ ys)
some_of_two xs ys l = let e = length-append xs ys in omega (arith, e, l)

each_both : (P : List ℕ → Type 0) (xs ys : List (List ℕ)) → Each P xs → Each P ys → Each P (xs ++ ys)
each_both P [] ys h k = k
each_both P (x ∷ xs) ys h k = (h.0, each_both P xs ys h.1 k)

module _ (n : Naming) (env : Environment) (variables : List (List ℕ)) (txn : (key : Key) → IsKey n key → IsTxnKey key) where
  snapshot : (ps : List (List ℕ × List ℕ)) → 0 < length ps → IsFree n env (statement.Snap ps) → KeepsSnapshot (bound_pairs n variables ps)
  unfolding mentions
  snapshot ps l f =
      let own = one_service n (in_pairs 1 ps) f.own in
      let known = pairs_known n 1 ps f.known in
      record {
        of_one = subst AreOfOne (sym (pairs_are n variables ps)) (of_one n own.service (pair_keys ps) txn (subst (λ (i : ℕ). 1 ≤ i) (sym (many_pairs ps)) l) known (pairs_own n own.service 1 ps own.own));
        few = few_pairs n variables ps f.few;
        once = subst (AllPairs Differ) (sym (pairs_are n variables ps)) (once n (pair_keys ps) known (pairs_distinct 1 ps f.single));
      }

  transaction : (ps : List (List ℕ × List ℕ)) (guard : Option (Compare (List ℕ))) (ws : List (List ℕ × Expr (List ℕ))) → 0 < length ws → IsFree n env (statement.Txn ps guard ws) → KeepsTransaction (bound_pairs n variables ps) (bound_writes n variables ws)
  unfolding mentions
  transaction ps guard ws l f =
      let front = in_pairs 1 ps ++ in_guard (behind_pairs ps) guard in
      let back = in_writes (first_write ps guard) ws in
      let own = one_service n (in_txn ps guard ws) f.own in
      let reads = pairs_known n 1 ps (known_front n (in_pairs 1 ps) (in_guard (behind_pairs ps) guard) (known_front n front back f.known)) in
      let writes = writes_known n (first_write ps guard) ws (known_behind n front back f.known) in
      let own_reads = pairs_own n own.service 1 ps (own_front n own.service (in_pairs 1 ps) (in_guard (behind_pairs ps) guard) (own_front n own.service front back own.own)) in
      let own_writes = writes_own n own.service (first_write ps guard) ws (own_behind n own.service front back own.own) in
      let names = pair_keys ps ++ write_keys ws in
      let are : map (λ (pair : ℕ × Key). pair.1) (bound_pairs n variables ps) ++ map (λ (write : Key × Expr ℕ). write.0) (bound_writes n variables ws) ≡ keys_of n names = ap (λ (xs : List Key). xs ++ map (λ (write : Key × Expr ℕ). write.0) (bound_writes n variables ws)) (pairs_are n variables ps) ∙ (ap (λ (xs : List Key). keys_of n (pair_keys ps) ++ xs) (writes_are n variables ws) ∙ sym (keys_append n (pair_keys ps) (write_keys ws))) in
      record {
        of_one = subst AreOfOne (sym are) (of_one n own.service names txn (some_of_two (pair_keys ps) (write_keys ws) (subst (λ (i : ℕ). 1 ≤ i) (sym (many_writes ws)) l)) (each_both _ (pair_keys ps) (write_keys ws) reads writes) (each_both _ (pair_keys ps) (write_keys ws) own_reads own_writes));
        few_read = few_pairs n variables ps (no_first (over_pairs ps) (over_writes (first_write ps guard) ws) f.few);
        some_written = subst (λ (i : ℕ). 1 ≤ i) (sym (length_writes n variables ws)) l;
        few_written = subst (λ (i : ℕ). i ≤ 8) (sym (length_writes n variables ws)) (at_most 8 (length ws) (fails (nat_lt 8 (length ws)) _ (no_second (over_pairs ps) (over_writes (first_write ps guard) ws) f.few)));
        read_once = subst (AllPairs Differ) (sym (pairs_are n variables ps)) (once n (pair_keys ps) reads (pairs_distinct 1 ps (no_first (first_repeat (in_pairs 1 ps)) (first_repeat (written_keys (first_write ps guard) ws)) f.single)));
        written_once = subst (AllPairs Differ) (sym (writes_are n variables ws)) (once n (write_keys ws) writes (writes_distinct (first_write ps guard) ws (no_second (first_repeat (in_pairs 1 ps)) (first_repeat (written_keys (first_write ps guard) ws)) f.single)));
      }

  keeps : (s : Raw) → IsStatement s → IsFree n env s → KeepsService (bound n variables s)
  unfolding bound
  keeps (statement.Let v e) h f = tt
  keeps (statement.Read v r) h f = tt
  keeps (statement.Write r e) h f = tt
  keeps (statement.Snap ps) h f = snapshot ps h.0 f
  keeps (statement.Txn ps guard ws) h f = transaction ps guard ws h.2 f
  keeps (statement.Spawn s) h f = tt
  keeps (statement.Wait s) h f = tt
  keeps (statement.Put p e) h f = tt
  keeps (statement.Take v p) h f = tt
  keeps (statement.Close p) h f = tt
  keeps statement.Fence h f = tt
  keeps (statement.Repeat turns) h f = tt
  keeps (statement.When test) h f = tt
  keeps statement.End h f = tt
  keeps statement.Exit h f = tt

-- what comes of statements that a text spells
all_keep : (n : Naming) (env : Environment) (raw : List Raw) (script : List Bound) → ((key : Key) → IsKey n key → IsTxnKey key) → Each IsStatement raw → outcome_in n env raw ≡ Ok script → Each KeepsService script
all_keep n env [] script txn each h =
    let made : [] ≡ script = cc in
    subst (Each KeepsService) made tt
all_keep n env (s ∷ ss) script txn each h =
    let b = bound_in n env s in
    let later = after env s b in
    let g = comes_bound env.statements (first_fault n env s) b (outcome_in n later ss) script h in
    subst (Each KeepsService) g.whole (keeps n env (noted env.variables (mentions s)) txn s each.0 (is_free n env s g.free), all_keep n later ss g.rest txn each.1 g.below)

-- the service of a shard
pub record IsTxnService (s : ServiceId) : Type 0 where
  pub number : ℕ
  pub is : s ≡ id.Txn number
  pub first : 1 ≤ number
  pub last : number ≤ 8

-- keys of the file are of services of its shards
pub key_served : (n : Naming) → length n.homes ≡ length n.keys → Each IsTxnService n.shard_services → Each (IsHome (length n.shard_services)) n.homes → (key : Key) → IsKey n key → IsTxnKey key
key_served n long services homes key k =
    let home = each_at (IsHome (length n.shard_services)) n.homes key.index 0 (subst (λ (m : ℕ). key.index < m) (sym long) k.there) homes in
    let s = each_at IsTxnService n.shard_services (get_or n.homes key.index 0 - 1) (id.Txn 0) (below (get_or n.homes key.index 0) (length n.shard_services) home.first home.last) services in
    record { number = s.number; is = ap (λ (x : Key). x.service) k.same ∙ s.is; first = s.first; last = s.last }
  where
    below : (home most : ℕ) → 1 ≤ home → home ≤ most → home - 1 < most
    below home most a b = omega (arith, a, b)

-- the scripts of stages
scripts_keep : (d : Declared) (r : Resolved) → ((m : ℕ) (earlier : List ℕ) (key : Key) → IsKey (naming_of d r m earlier) key → IsTxnKey key) → HoldsOfSaid KeepsService d r
scripts_keep d r txn m earlier text script h = all_keep (naming_of d r m earlier) start h.raw script (txn m earlier) (statements_each h.raw 0 (script_spelled text h.raw h.read).written) h.came

pub statements_keep : (c : Config) (d : Declared) (r : Resolved) (ts : List StageTable) → ((m : ℕ) (earlier : List ℕ) (key : Key) → IsKey (naming_of d r m earlier) key → IsTxnKey key) → bodies_from d r 1 [] ts ≡ Ok c.bodies → KeepsServices c
statements_keep c d r ts txn h = record {
  statements = λ n place. each_or KeepsService (get_or c.bodies (n - 1) no_body).script place statement.Exit tt
      (each_or (BodyHas KeepsService) c.bodies (n - 1) no_body tt (bodies_have KeepsService d r 1 [] ts c.bodies (scripts_keep d r txn) h));
}
