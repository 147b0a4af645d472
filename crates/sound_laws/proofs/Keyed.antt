-- The keys that a statement without a fault names are known, of one service, and no list has one of them twice.
use Rattle.std.proofs.Common.{◌≡◌, ℕ, ◌+◌, Bool, true, false, cond, ◌&&◌, ◌||◌, List, [], ◌∷◌, ◌++◌, map, Option, Some, None, refl, ap, sym, ◌∙◌, subst, append_assoc}
use Rattle.std.specs.Prelude.{not, is_some}
use Rattle.std.specs.List.{list_any}
use Rattle.std.specs.Option.{option_or, option_map_or, option_and_then}
use Rattle.std.specs.Str.{bytes_eq}
use Rattle.std.proofs.lemmas.Bool.{false≢true, true≢false}
use Rattle.rss_names.specs.declared.service.Key.{Key}
use Rattle.rss_names.specs.declared.service.ServiceId.{ServiceId}
use Rattle.rss_names.specs.declared.service.ServiceId.TheVariants as id
use Rattle.rss_names.specs.Services.{same_service}
use Rattle.rss_names.proofs.Services.{same_service-Decides}
use Rattle.pipeline_lang.specs.declared.script.Compare.{Compare}
use Rattle.pipeline_lang.specs.declared.script.Expr.{Expr}
use Rattle.script_binding.specs.declared.mention.Mention.{Mention}
use Rattle.script_binding.specs.declared.mention.Role.TheVariants as role
use Rattle.script_binding.specs.Mentions.{mention, in_expr, in_pairs, in_writes, next_write, written_keys}
use Rattle.script_binding.specs.NameFaults.{is_known_as, first_unknown, is_key, service_named, is_foreign, foreign_to, first_service, first_foreign, repeats, repeat_behind}
use Rattle.script_binding.specs.Naming.{Naming, key_of}
use Rattle.file_laws.proofs.Each.{Each}

-- the keys of pairs and of writes
abbrev pub pair_keys : List (List ℕ × List ℕ) → List (List ℕ)
pair_keys [] = []
pair_keys (p ∷ ps) = p.1 ∷ pair_keys ps

abbrev pub write_keys : List (List ℕ × Expr (List ℕ)) → List (List ℕ)
write_keys [] = []
write_keys (w ∷ ws) = w.0 ∷ write_keys ws

-- names of keys of the file
abbrev pub Known : Naming → List (List ℕ) → Type 0
Known n ks = Each (λ (k : List ℕ). is_some (key_of n k) ≡ true) ks

-- names of keys of one service
abbrev pub OfService : Naming → ServiceId → List (List ℕ) → Type 0
OfService n service ks = Each (λ (k : List ℕ). service ≡ service_named n k) ks

-- names of which none stands twice
abbrev pub Distinct : List (List ℕ) → Type 0
Distinct [] = Unit {0}
Distinct (k ∷ ks) = Each (λ (q : List ℕ). bytes_eq q k ≡ false) ks × Distinct ks

-- KNOWN

first_known : (n : Naming) (m : Mention) (ms : List Mention) → first_unknown n (m ∷ ms) ≡ None → (is_known_as n m.name m.role ≡ true) × (first_unknown n ms ≡ None)
first_known n m ms h = by_known (is_known_as n m.name m.role) refl h
  where
    by_known : (b : Bool) → is_known_as n m.name m.role ≡ b → cond b (first_unknown n ms) (Some m.token) ≡ None → (is_known_as n m.name m.role ≡ true) × (first_unknown n ms ≡ None)
    by_known true e i = (e, i)
    by_known false e i = absurd cc

pub known_behind : (n : Naming) (front ms : List Mention) → first_unknown n (front ++ ms) ≡ None → first_unknown n ms ≡ None
known_behind n [] ms h = h
known_behind n (m ∷ front) ms h = known_behind n front ms (first_known n m (front ++ ms) h).1

pub known_front : (n : Naming) (front ms : List Mention) → first_unknown n (front ++ ms) ≡ None → first_unknown n front ≡ None
known_front n [] ms h = refl
known_front n (m ∷ front) ms h =
    let f = first_known n m (front ++ ms) h in
    ap (λ (b : Bool). cond b (first_unknown n front) (Some m.token)) f.0 ∙ known_front n front ms f.1

pub pairs_known : (n : Naming) (at : ℕ) (ps : List (List ℕ × List ℕ)) → first_unknown n (in_pairs at ps) ≡ None → Known n (pair_keys ps)
pairs_known n at [] h = tt
pairs_known n at (p ∷ ps) h = let k = first_known n (mention role.Key (at + 1) p.1) (in_pairs (at + 3) ps) h in (k.0, pairs_known n (at + 3) ps k.1)

pub writes_known : (n : Naming) (at : ℕ) (ws : List (List ℕ × Expr (List ℕ))) → first_unknown n (in_writes at ws) ≡ None → Known n (write_keys ws)
writes_known n at [] h = tt
writes_known n at (w ∷ ws) h =
    let k = first_known n (mention role.Key at w.0) (in_expr (at + 2) w.1 ++ in_writes (next_write at w.1) ws) h in
    (k.0, writes_known n (next_write at w.1) ws (known_behind n (in_expr (at + 2) w.1) (in_writes (next_write at w.1) ws) k.1))

-- OF ONE SERVICE

first_own : (n : Naming) (service : ServiceId) (m : Mention) (ms : List Mention) → foreign_to n service (m ∷ ms) ≡ None → (is_foreign n service m ≡ false) × (foreign_to n service ms ≡ None)
first_own n service m ms h = by_foreign (is_foreign n service m) refl h
  where
    by_foreign : (b : Bool) → is_foreign n service m ≡ b → cond b (Some m.token) (foreign_to n service ms) ≡ None → (is_foreign n service m ≡ false) × (foreign_to n service ms ≡ None)
    by_foreign true e i = absurd cc
    by_foreign false e i = (e, i)

own_both : (n : Naming) (service : ServiceId) (front ms : List Mention) → foreign_to n service (front ++ ms) ≡ None → (foreign_to n service front ≡ None) × (foreign_to n service ms ≡ None)
own_both n service [] ms h = (refl, h)
own_both n service (m ∷ front) ms h =
    let f = first_own n service m (front ++ ms) h in
    let k = own_both n service front ms f.1 in
    (ap (λ (b : Bool). cond b (Some m.token) (foreign_to n service front)) f.0 ∙ k.0, k.1)

pub own_front : (n : Naming) (service : ServiceId) (front ms : List Mention) → foreign_to n service (front ++ ms) ≡ None → foreign_to n service front ≡ None
own_front n service front ms h = (own_both n service front ms h).0

pub own_behind : (n : Naming) (service : ServiceId) (front ms : List Mention) → foreign_to n service (front ++ ms) ≡ None → foreign_to n service ms ≡ None
own_behind n service front ms h = (own_both n service front ms h).1

-- where no key is named, none is of another service
none_foreign : (n : Naming) (service : ServiceId) (ms : List Mention) → first_service n ms ≡ None → foreign_to n service ms ≡ None
none_foreign n service [] h = refl
none_foreign n service (m ∷ ms) h = by_key (is_key m.role) refl h (none_foreign n service ms)
  where
    by_key : (b : Bool) → is_key m.role ≡ b → cond b (Some (service_named n m.name)) (first_service n ms) ≡ None → (first_service n ms ≡ None → foreign_to n service ms ≡ None) → foreign_to n service (m ∷ ms) ≡ None
    by_key true e i ih = absurd cc
    by_key false e i ih = ap (λ (b : Bool). cond (b && not (same_service service (service_named n m.name))) (Some m.token) (foreign_to n service ms)) e ∙ ih i

-- the one service of all keys that are named
pub record OneService (n : Naming) (ms : List Mention) : Type 0 where
  pub service : ServiceId
  pub own : foreign_to n service ms ≡ None

pub one_service : (n : Naming) (ms : List Mention) → first_foreign n ms ≡ None → OneService n ms
one_service n ms h = by_first (first_service n ms) refl h
  where
    by_first : (first : Option ServiceId) → first_service n ms ≡ first → option_and_then (λ service. foreign_to n service ms) first ≡ None → OneService n ms
    by_first (Some service) e i = record { service = service; own = i }
    by_first None e i = record { service = id.Txn 0; own = none_foreign n (id.Txn 0) ms e }

not_false : (b : Bool) → not b ≡ false → b ≡ true
not_false true h = refl
not_false false h = absurd (true≢false h)

pub pairs_own : (n : Naming) (service : ServiceId) (at : ℕ) (ps : List (List ℕ × List ℕ)) → foreign_to n service (in_pairs at ps) ≡ None → OfService n service (pair_keys ps)
pairs_own n service at [] h = tt
pairs_own n service at (p ∷ ps) h =
    let k = first_own n service (mention role.Key (at + 1) p.1) (in_pairs (at + 3) ps) h in
    ((same_service-Decides service (service_named n p.1)).0 (not_false (same_service service (service_named n p.1)) k.0), pairs_own n service (at + 3) ps k.1)

pub writes_own : (n : Naming) (service : ServiceId) (at : ℕ) (ws : List (List ℕ × Expr (List ℕ))) → foreign_to n service (in_writes at ws) ≡ None → OfService n service (write_keys ws)
writes_own n service at [] h = tt
writes_own n service at (w ∷ ws) h =
    let k = first_own n service (mention role.Key at w.0) (in_expr (at + 2) w.1 ++ in_writes (next_write at w.1) ws) h in
    ((same_service-Decides service (service_named n w.0)).0 (not_false (same_service service (service_named n w.0)) k.0), writes_own n service (next_write at w.1) ws (own_behind n service (in_expr (at + 2) w.1) (in_writes (next_write at w.1) ws) k.1))

-- NONE TWICE

-- mentions of which none repeats one of these, or an earlier one
abbrev Fresh : List Mention → List Mention → Type 0
Fresh earlier [] = Unit {0}
Fresh earlier (m ∷ ms) = Each (λ (b : Mention). repeats m b ≡ false) earlier × Fresh (earlier ++ m ∷ []) ms

each_false : {A : Type 0} (test : A → Bool) (xs : List A) → list_any test xs ≡ false → Each (λ (x : A). test x ≡ false) xs
each_false test [] h = tt
each_false {A = A} test (x ∷ xs) h = by_test (test x) refl h (each_false test xs)
  where
    by_test : (b : Bool) → test x ≡ b → (b || list_any test xs) ≡ false → (list_any test xs ≡ false → Each (λ (y : A). test y ≡ false) xs) → Each (λ (y : A). test y ≡ false) (x ∷ xs)
    by_test true e i ih = absurd (true≢false i)
    by_test false e i ih = (e, ih i)

fresh : (earlier ms : List Mention) → repeat_behind earlier ms ≡ None → Fresh earlier ms
fresh earlier [] h = tt
fresh earlier (m ∷ ms) h = by_repeat (list_any (repeats m) earlier) refl h (fresh (earlier ++ m ∷ []) ms)
  where
    by_repeat : (b : Bool) → list_any (repeats m) earlier ≡ b → cond b (Some m.token) (repeat_behind (earlier ++ m ∷ []) ms) ≡ None → (repeat_behind (earlier ++ m ∷ []) ms ≡ None → Fresh (earlier ++ m ∷ []) ms) → Fresh earlier (m ∷ ms)
    by_repeat true e i ih = absurd cc
    by_repeat false e i ih = (each_false (repeats m) earlier e, ih i)

-- none of these repeats one mention
abbrev Apart : Mention → List Mention → Type 0
Apart b ms = Each (λ (m : Mention). repeats m b ≡ false) ms

middle : {A : Type 0} (P : A → Type 0) (front back : List A) (x : A) → Each P (front ++ x ∷ back) → P x
middle P [] back x h = h.0
middle P (y ∷ front) back x h = middle P front back x h.1

apart : (front back : List Mention) (b : Mention) (ms : List Mention) → Fresh (front ++ b ∷ back) ms → Apart b ms
apart front back b [] h = tt
apart front back b (m ∷ ms) h =
    (middle (λ (x : Mention). repeats m x ≡ false) front back b h.0, apart front (back ++ m ∷ []) b ms (subst (λ (earlier : List Mention). Fresh earlier ms) (append_assoc front (b ∷ back) (m ∷ [])) h.1))

pairs_apart : (key : List ℕ) (token at : ℕ) (ps : List (List ℕ × List ℕ)) → Apart (mention role.Key token key) (in_pairs at ps) → Each (λ (q : List ℕ). bytes_eq q key ≡ false) (pair_keys ps)
pairs_apart key token at [] h = tt
pairs_apart key token at (p ∷ ps) h = (h.1.0, pairs_apart key token (at + 3) ps h.1.1)

pairs_fresh : (earlier : List Mention) (at : ℕ) (ps : List (List ℕ × List ℕ)) → Fresh earlier (in_pairs at ps) → Distinct (pair_keys ps)
pairs_fresh earlier at [] h = tt
pairs_fresh earlier at (p ∷ ps) h =
    let front = earlier ++ mention role.Variable at p.0 ∷ [] in
    (pairs_apart p.1 (at + 1) (at + 3) ps (apart front [] (mention role.Key (at + 1) p.1) (in_pairs (at + 3) ps) h.1.1), pairs_fresh (front ++ mention role.Key (at + 1) p.1 ∷ []) (at + 3) ps h.1.1)

writes_apart : (key : List ℕ) (token at : ℕ) (ws : List (List ℕ × Expr (List ℕ))) → Apart (mention role.Key token key) (written_keys at ws) → Each (λ (q : List ℕ). bytes_eq q key ≡ false) (write_keys ws)
writes_apart key token at [] h = tt
writes_apart key token at (w ∷ ws) h = (h.0, writes_apart key token (next_write at w.1) ws h.1)

writes_fresh : (earlier : List Mention) (at : ℕ) (ws : List (List ℕ × Expr (List ℕ))) → Fresh earlier (written_keys at ws) → Distinct (write_keys ws)
writes_fresh earlier at [] h = tt
writes_fresh earlier at (w ∷ ws) h =
    (writes_apart w.0 at (next_write at w.1) ws (apart earlier [] (mention role.Key at w.0) (written_keys (next_write at w.1) ws) h.1), writes_fresh (earlier ++ mention role.Key at w.0 ∷ []) (next_write at w.1) ws h.1)

pub pairs_distinct : (at : ℕ) (ps : List (List ℕ × List ℕ)) → repeat_behind [] (in_pairs at ps) ≡ None → Distinct (pair_keys ps)
pairs_distinct at ps h = pairs_fresh [] at ps (fresh [] (in_pairs at ps) h)

pub writes_distinct : (at : ℕ) (ws : List (List ℕ × Expr (List ℕ))) → repeat_behind [] (written_keys at ws) ≡ None → Distinct (write_keys ws)
writes_distinct at ws h = writes_fresh [] at ws (fresh [] (written_keys at ws) h)
