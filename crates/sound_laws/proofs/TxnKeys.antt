-- Keys that are known, of one service and none twice are different keys of one transaction service.
use Rattle.std.proofs.Common.{◌≡◌, ℕ, ◌<◌, ◌≤◌, Bool, true, false, ◌&&◌, ◌==◌, List, [], ◌∷◌, ◌++◌, length, map, get_or, All, Option, Some, None, refl, ap, sym, ◌∙◌, subst, arith}
use Rattle.std.specs.Prelude.{is_some, option_map, unwrap_or, AllPairs}
use Rattle.std.specs.Option.{option_map_or}
use Rattle.std.specs.Str.{bytes_eq}
use Rattle.std.proofs.lemmas.Bool.{false≢true, true≢false}
use Rattle.std.proofs.lemmas.List.{map-append}
use Rattle.std.proofs.lemmas.List.Elements.{All-nil, All-cons}
use Rattle.std.proofs.lemmas.List.Kept.{AllPairs-cons}
use Rattle.std.proofs.lemmas.List.Quantifiers.{position-Some}
use Rattle.std.proofs.lemmas.Slice.Eq.{bytes_eq-Decides}
use Rattle.rss_names.specs.declared.service.Key.{Key}
use Rattle.rss_names.specs.declared.service.ServiceId.{ServiceId}
use Rattle.rss_names.specs.declared.service.ServiceId.TheVariants as id
use Rattle.rss_names.specs.Services.{same_service, same_key}
use Rattle.pipeline_lang.specs.declared.script.Expr.{Expr}
use Rattle.pipeline_lang.specs.Positions.{position_of}
use Rattle.script_binding.specs.NameFaults.{service_named}
use Rattle.script_binding.specs.Named.{IsKey}
use Rattle.script_binding.specs.Naming.{Naming, key_at, key_of}
use Rattle.script_binding.specs.Numbering.{no_key, bound_key, bound_pairs, bound_writes}
use Rattle.file_laws.proofs.Each.{Each, each_append}
use Rattle.world_laws.specs.Shapes.{AreOfOne, Differ}
use Rattle.sound_laws.proofs.Keyed.{pair_keys, write_keys, Known, OfService, Distinct}

-- the keys of names
abbrev pub keys_of : Naming → List (List ℕ) → List Key
keys_of n [] = []
keys_of n (k ∷ ks) = bound_key n k ∷ keys_of n ks

pub keys_append : (n : Naming) (xs ys : List (List ℕ)) → keys_of n (xs ++ ys) ≡ keys_of n xs ++ keys_of n ys
keys_append n [] ys = refl
keys_append n (x ∷ xs) ys = ap (λ (rest : List Key). bound_key n x ∷ rest) (keys_append n xs ys)

pub pairs_are : (n : Naming) (variables : List (List ℕ)) (ps : List (List ℕ × List ℕ)) → map (λ (pair : ℕ × Key). pair.1) (bound_pairs n variables ps) ≡ keys_of n (pair_keys ps)
pairs_are n variables [] = refl
pairs_are n variables (p ∷ ps) = ap (λ (rest : List Key). bound_key n p.1 ∷ rest) (pairs_are n variables ps)

pub writes_are : (n : Naming) (variables : List (List ℕ)) (ws : List (List ℕ × Expr (List ℕ))) → map (λ (write : Key × Expr ℕ). write.0) (bound_writes n variables ws) ≡ keys_of n (write_keys ws)
writes_are n variables [] = refl
writes_are n variables (w ∷ ws) = ap (λ (rest : List Key). bound_key n w.0 ∷ rest) (writes_are n variables ws)

-- what holds of each member of a list holds at each place
all_of : {A : Type 0} (P : A → Type 0) (xs : List A) → Each P xs → All P xs
all_of P [] h = All-nil P
all_of P (x ∷ xs) h = All-cons P x xs h.0 (all_of P xs h.1)

-- a key of a transaction service from 1 to 8
pub record IsTxnKey (key : Key) : Type 0 where
  pub number : ℕ
  pub is : key.service ≡ id.Txn number
  pub first : 1 ≤ number
  pub last : number ≤ 8

-- the position of a name that is known
record Found (n : Naming) (k : List ℕ) : Type 0 where
  pub at : ℕ
  pub position : position_of k n.keys ≡ Some at
  pub is : bound_key n k ≡ key_at n at

found : (n : Naming) (k : List ℕ) → is_some (key_of n k) ≡ true → Found n k
found n k h = by_position (position_of k n.keys) refl h
  where
    by_position : (o : Option ℕ) → position_of k n.keys ≡ o → is_some (option_map (key_at n) o) ≡ true → Found n k
    by_position None e i = absurd (false≢true i)
    by_position (Some at) e i = record { at = at; position = e; is = ap (λ (p : Option ℕ). unwrap_or (option_map (key_at n) p) no_key) e }

-- a key that is found is one of the table
is_there : (n : Naming) (k : List ℕ) → is_some (key_of n k) ≡ true → IsKey n (bound_key n k)
is_there n k h =
    let f = found n k h in
    record { there = subst (λ (key : Key). key.index < length n.keys) (sym f.is) (position-Some (bytes_eq k) n.keys f.at k f.position).0; same = subst (λ (key : Key). key ≡ key_at n key.index) (sym f.is) refl }

-- its service is the one of its name
service_is : (n : Naming) (k : List ℕ) → service_named n k ≡ (bound_key n k).service
service_is n k = by_key (key_of n k)
  where
    by_key : (o : Option Key) → option_map_or (λ (key : Key). key.service) o (id.Txn 0) ≡ (unwrap_or o no_key).service
    by_key None = refl
    by_key (Some key) = refl

services_are : (n : Naming) (service : ServiceId) (ks : List (List ℕ)) → OfService n service ks → Each (λ (key : Key). key.service ≡ service) (keys_of n ks)
services_are n service [] h = tt
services_are n service (k ∷ ks) h = (sym (service_is n k) ∙ sym h.0, services_are n service ks h.1)

pub of_one : (n : Naming) (service : ServiceId) (ks : List (List ℕ)) → ((key : Key) → IsKey n key → IsTxnKey key) → 1 ≤ length ks → Known n ks → OfService n service ks → AreOfOne (keys_of n ks)
of_one n service [] txn l known own = absurd (omega (arith, l))
of_one n service (k ∷ ks) txn l known own =
    let t = txn (bound_key n k) (is_there n k known.0) in
    let all = services_are n service (k ∷ ks) own in
    record {
      number = t.number;
      first = t.first;
      last = t.last;
      all = all_of (λ (key : Key). key.service ≡ id.Txn t.number) (keys_of n (k ∷ ks)) (subst (λ (s : ServiceId). Each (λ (key : Key). key.service ≡ s) (keys_of n (k ∷ ks))) (sym all.0 ∙ t.is) all);
    }

-- two names that differ have two keys
and_right : (a b : Bool) → b ≡ false → (a && b) ≡ false
and_right true b e = e
and_right false b e = refl

not_equal : (a b : ℕ) → (a ≡ b → ⊥) → (a == b) ≡ false
not_equal a b f = by_test (a == b) refl
  where
    one : (a == b) ≡ true → a ≡ b
    one e = grind (arith, e)

    by_test : (t : Bool) → (a == b) ≡ t → t ≡ false
    by_test true e = absurd (f (one e))
    by_test false e = refl

two_places : (n : Naming) (a b : List ℕ) (i j : ℕ) → position_of a n.keys ≡ Some i → position_of b n.keys ≡ Some j → bytes_eq b a ≡ false → i ≡ j → ⊥
two_places n a b i j e f h q =
    let x = (bytes_eq-Decides a (get_or n.keys i a)).0 (position-Some (bytes_eq a) n.keys i a e).1 in
    let y = (bytes_eq-Decides b (get_or n.keys j a)).0 (position-Some (bytes_eq b) n.keys j a f).1 in
    let same : b ≡ a = y ∙ (ap (λ (place : ℕ). get_or n.keys place a) (sym q) ∙ sym x) in
    true≢false (sym ((bytes_eq-Decides b a).1 same) ∙ h)

differ : (n : Naming) (a b : List ℕ) → is_some (key_of n a) ≡ true → is_some (key_of n b) ≡ true → bytes_eq b a ≡ false → Differ (bound_key n a) (bound_key n b)
differ n a b k l h =
    let x = found n a k in
    let y = found n b l in
    and_right (same_service (bound_key n a).service (bound_key n b).service) ((bound_key n a).index == (bound_key n b).index)
    (not_equal (bound_key n a).index (bound_key n b).index
    (λ q. two_places n a b x.at y.at x.position y.position h (sym (ap (λ (key : Key). key.index) x.is) ∙ (q ∙ ap (λ (key : Key). key.index) y.is))))

all_differ : (n : Naming) (k : List ℕ) (ks : List (List ℕ)) → is_some (key_of n k) ≡ true → Known n ks → Each (λ (q : List ℕ). bytes_eq q k ≡ false) ks → Each (Differ (bound_key n k)) (keys_of n ks)
all_differ n k [] i known h = tt
all_differ n k (q ∷ ks) i known h = (differ n k q i known.0 h.0, all_differ n k ks i known.1 h.1)

no_pairs : AllPairs Differ []
no_pairs i j d l m = absurd (omega (arith, l, m))

pub once : (n : Naming) (ks : List (List ℕ)) → Known n ks → Distinct ks → AllPairs Differ (keys_of n ks)
once n [] known h = no_pairs
once n (k ∷ ks) known h = AllPairs-cons Differ (bound_key n k) (keys_of n ks) (all_of (Differ (bound_key n k)) (keys_of n ks) (all_differ n k ks known.0 known.1 h.0)) (once n ks known.1 h.1)
