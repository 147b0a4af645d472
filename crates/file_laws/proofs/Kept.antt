-- the shard of a key's home keeps the key from the beginning
use Rattle.std.proofs.Common.{◌≡◌, ℕ, zero, suc, ◌+◌, ◌-◌, ◌==◌, ◌<◌, ◌≤◌, Bool, true, false, ◌||◌, List, [], ◌∷◌, length, get_or, refl, ap, sym, subst, ◌∙◌, arith}
use Rattle.std.specs.Prelude.{IsTrue}
use Rattle.std.proofs.lemmas.Bool.{cond_both, eq-eqb, false≢true}
use Rattle.rss_names.specs.declared.service.Key.{Key}
use Rattle.rss_names.specs.declared.service.ServiceId.{ServiceId}
use Rattle.rss_names.specs.declared.service.ServiceId.TheVariants as id
use Rattle.rss_names.specs.Services.{same_key}
use Rattle.pipeline_lang.specs.Config.{home_of}
use Rattle.pipeline_lang.specs.declared.config.Config.{Config}
use Rattle.script_binding.specs.Named.{IsKey as IsNamedKey}
use Rattle.script_binding.specs.Naming.{Naming, key_at}
use Rattle.rss_tables.specs.ShardRow.{Shard, opening_shard}
use Rattle.rss_tables.specs.Versions.{unwritten}
use Rattle.rss_machine.specs.State.{keys_from, shards_from, shard_at, start}
use Rattle.shard_laws.specs.Committed.{keeps_key}
use Rattle.world_laws.proofs.Marked.{same_service_itself}
use Rattle.txn_laws.specs.Files.{IsKey}
use Rattle.file_laws.proofs.Each.{Each, each_at}
use Rattle.file_laws.proofs.Shards.{IsHome}

-- the shard of a number, in its place
shard_there : (c : Config) (n : ℕ) (services : List ServiceId) (place number : ℕ) (other : Shard) → place < length services → n + place ≡ number → get_or (shards_from c n services) place other ≡ opening_shard (keys_from (get_or services place (id.Txn 0)) number c.homes 0)
shard_there c n [] place number other there e = absurd (omega (arith, there))
shard_there c n (service ∷ services) zero number other there e = ap (λ (m : ℕ). opening_shard (keys_from service m c.homes 0)) (omega (arith, e))
shard_there c n (service ∷ services) (suc place) number other there e = shard_there c (n + 1) services place number other (omega (arith, there)) (omega (arith, e))

-- the key of a number among those of a shard
abbrev the_key : ServiceId → ℕ → Key
the_key service number = record { service = service; index = number }

itself : (service : ServiceId) (m n : ℕ) → m ≡ n → same_key (the_key service m) (the_key service n) ≡ true
itself service m n e = rw (same_service_itself service) (eq-eqb m n e)

first_kept : (key other : Key) (more : List Key) → same_key other key ≡ true → keeps_key (unwritten (other ∷ more)) key ≡ true
first_kept key other more e = rw e refl

behind_kept : (b rest : Bool) → rest ≡ true → (b || rest) ≡ true
behind_kept true rest e = refl
behind_kept false rest e = e

keys_keep : (service : ServiceId) (shard : ℕ) (homes : List ℕ) (index place number : ℕ) → place < length homes → get_or homes place 0 ≡ shard → index + place ≡ number → keeps_key (unwritten (keys_from service shard homes index)) (the_key service number) ≡ true
keys_keep service shard [] index place number there home e = absurd (omega (arith, there))
keys_keep service shard (home ∷ homes) index zero number there is e =
    cond_both (home == shard) (the_key service index ∷ keys_from service shard homes (index + 1)) (keys_from service shard homes (index + 1)) (λ (keys : List Key). keeps_key (unwritten keys) (the_key service number) ≡ true)
    (λ t. first_kept (the_key service number) (the_key service index) (keys_from service shard homes (index + 1)) (itself service index number (omega (arith, e))))
    (λ f. absurd (false≢true (sym f ∙ eq-eqb home shard is)))
keys_keep service shard (home ∷ homes) index (suc place) number there is e =
    let rest = keys_keep service shard homes (index + 1) place number (omega (arith, there)) is (omega (arith, e)) in
    cond_both (home == shard) (the_key service index ∷ keys_from service shard homes (index + 1)) (keys_from service shard homes (index + 1)) (λ (keys : List Key). keeps_key (unwritten keys) (the_key service number) ≡ true)
    (λ t. behind_kept (same_key (the_key service index) (the_key service number)) (keeps_key (unwritten (keys_from service shard homes (index + 1))) (the_key service number)) rest)
    (λ f. rest)

-- the shard of a home keeps the key
home_keeps : (c : Config) (place : ℕ) → place < length c.homes → 1 ≤ home_of c place → home_of c place ≤ length c.shard_services → IsTrue (keeps_key (shard_at (start c) (home_of c place)).store (the_key (get_or c.shard_services (home_of c place - 1) (id.Txn 0)) place))
home_keeps c place there first last =
    let home = home_of c place in
    let service = get_or c.shard_services (home - 1) (id.Txn 0) in
    let shard = shard_there c 1 c.shard_services (home - 1) home (opening_shard []) (omega (arith, first, last)) (omega (arith, first)) in
    subst (λ (s : Shard). keeps_key s.store (the_key service place) ≡ true) (sym shard) (keys_keep service home c.homes 0 place place there refl (omega arith))

-- a key that a script can name is one of the file
key_there : (c : Config) (n : Naming) (place : ℕ) → n.homes ≡ c.homes → n.shard_services ≡ c.shard_services → place < length c.homes → length c.shard_services ≤ 16 → IsHome (length c.shard_services) (home_of c place) → IsKey c (key_at n place)
key_there c n place homes services there few h =
    let service : get_or c.shard_services (home_of c place - 1) (id.Txn 0) ≡ (key_at n place).service = rw (homes, services) refl in
    record {
      first = h.first;
      last = h.last;
      most = omega (arith, few, h.last);
      kept = subst (λ (s : ServiceId). IsTrue (keeps_key (shard_at (start c) (home_of c place)).store (the_key s place))) service (home_keeps c place there h.first h.last);
    }

pub key_is : (c : Config) (n : Naming) → n.keys ≡ c.keys → n.homes ≡ c.homes → n.shard_services ≡ c.shard_services → length c.homes ≡ length c.keys → length c.shard_services ≤ 16 → Each (IsHome (length c.shard_services)) c.homes → (k : Key) → IsNamedKey n k → IsKey c k
key_is c n keys homes services long few home k h =
    let there : k.index < length c.homes = subst (λ (m : ℕ). k.index < m) (ap length keys ∙ sym long) h.there in
    subst (IsKey c) (sym h.same) (key_there c n k.index homes services there few (each_at (IsHome (length c.shard_services)) c.homes k.index 0 there home))
