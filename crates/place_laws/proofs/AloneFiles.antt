-- Files whose scripts pass the test keep to services.
use Rattle.std.proofs.Common.{◌≡◌, ℕ, zero, suc, ◌-◌, true, List, [], ◌∷◌, get_or, refl, sym}
use Rattle.std.specs.List.{list_all}
use Rattle.std.proofs.lemmas.Bool.{true≢false, and_parts}
use Rattle.rss_names.specs.declared.service.Key.{Key}
use Rattle.rss_names.specs.declared.service.ServiceId.{ServiceId}
use Rattle.pipeline_lang.specs.Config.{script_of, no_body}
use Rattle.pipeline_lang.specs.declared.config.Body.{Body}
use Rattle.pipeline_lang.specs.declared.config.Config.{Config}
use Rattle.pipeline_lang.specs.declared.script.Statement.{Statement}
use Rattle.pipeline_lang.specs.declared.script.Statement.TheVariants as statement
use Rattle.world_laws.proofs.Marked.{same_service_is}
use Rattle.place_laws.specs.Alone.{KeepsTo, KeepsToServices, keeps_to, service_in, is_alone, are_alone}

keeps_true : (id : ServiceId) (x : Statement ℕ Key ℕ ℕ) → keeps_to id x ≡ true → KeepsTo id x
keeps_true id (statement.Read variable key) e = same_service_is key.service id e
keeps_true id (statement.Write key value) e = same_service_is key.service id e
keeps_true id (statement.Let variable value) e = tt
keeps_true id (statement.Repeat times) e = tt
keeps_true id (statement.When test) e = tt
keeps_true id statement.End e = tt
keeps_true id statement.Exit e = tt
keeps_true id (statement.Snap pairs) e = absurd (true≢false (sym e))
keeps_true id (statement.Txn reads guard writes) e = absurd (true≢false (sym e))
keeps_true id (statement.Spawn child) e = absurd (true≢false (sym e))
keeps_true id (statement.Wait child) e = absurd (true≢false (sym e))
keeps_true id (statement.Put p value) e = absurd (true≢false (sym e))
keeps_true id (statement.Take variable p) e = absurd (true≢false (sym e))
keeps_true id (statement.Close p) e = absurd (true≢false (sym e))
keeps_true id statement.Fence e = absurd (true≢false (sym e))

each_keeps : (id : ServiceId) (script : List (Statement ℕ Key ℕ ℕ)) → list_all (keeps_to id) script ≡ true → (place : ℕ) → KeepsTo id (get_or script place statement.Exit)
each_keeps id [] e zero = tt
each_keeps id [] e (suc place) = tt
each_keeps id (x ∷ script) e zero = keeps_true id x (and_parts _ _ e).0
each_keeps id (x ∷ script) e (suc place) = each_keeps id script (and_parts _ _ e).1 place

alone_at : (bodies : List Body) → are_alone bodies ≡ true → (place : ℕ) → is_alone (get_or bodies place no_body).script ≡ true
alone_at [] e zero = refl
alone_at [] e (suc place) = refl
alone_at (body ∷ bodies) e zero = (and_parts _ _ e).0
alone_at (body ∷ bodies) e (suc place) = alone_at bodies (and_parts _ _ e).1 place

pub alone_keeps : (c : Config) → are_alone c.bodies ≡ true → KeepsToServices c
alone_keeps c e = record {
  service = λ n. service_in (script_of c n);
  statements = λ n place. each_keeps (service_in (script_of c n)) (script_of c n) (alone_at c.bodies e (n - 1)) place;
}
