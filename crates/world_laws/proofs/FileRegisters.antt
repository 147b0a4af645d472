-- Where scripts name the registers of the file alone, a run leaves each register of the file alone: no
-- other one that is raised has its number. So the notes tell the step of every stamp.
use Rattle.std.proofs.Common.{◌≡◌, ℕ, ◌-◌, Bool, true, false, List, [], ◌∷◌, All, Some, refl, ap, sym, ◌∙◌, subst, arith}
use Rattle.std.specs.Prelude.{◌==◌, ◌&&◌, ◌||◌, not}
use Rattle.std.specs.List.{list_all}
use Rattle.std.proofs.lemmas.Bool.{and_from, and_parts, eqb-true}
use Rattle.std.proofs.lemmas.List.Elements.{All-head, All-tail}
use Rattle.rss_names.specs.declared.service.Key.{Key}
use Rattle.rss_names.specs.declared.service.ServiceId.{ServiceId}
use Rattle.rss_names.specs.declared.service.ServiceId.TheVariants.{Reg}
use Rattle.rss_names.specs.declared.service.Target.{Target}
use Rattle.rss_names.specs.declared.service.Target.TheVariants.{Shard, Replica}
use Rattle.rss_names.specs.Services.{same_service}
use Rattle.carstamps.specs.declared.carstamp.Carstamp.{Carstamp}
use Rattle.pipeline_lang.specs.Config.{service_of_register}
use Rattle.pipeline_lang.specs.declared.config.Config.{Config}
use Rattle.rss_wire.specs.Messages.{message_at}
use Rattle.rss_wire.specs.declared.message.Body.{Body}
use Rattle.rss_wire.specs.declared.message.Body.TheVariants as body
use Rattle.rss_wire.specs.declared.messages.Request.{Request}
use Rattle.rss_wire.specs.declared.messages.Request.TheVariants as request
use Rattle.rss_machine.specs.Marks.{raised_by}
use Rattle.rss_machine.specs.Run.{run}
use Rattle.rss_machine.specs.State.{State, service_index}
use Rattle.rss_machine.specs.Times.{step_of_stamp, marked_step}
use Rattle.rss_machine.specs.declared.step.Step.{Step}
use Rattle.world_laws.proofs.Alone.{is_apart, leaves_registers, leaves_alone, IsAlone}
use Rattle.world_laws.specs.Laws.{AsksRegisters}
use Rattle.world_laws.specs.Proper.{registers_of, are_kept_by, is_proper_body}
use Rattle.world_laws.specs.Registers.{IsRegister, NamesRegisters}
use Rattle.world_laws.proofs.Marked.{marks_tell, same_service_itself, same_service_is}
use Rattle.world_laws.proofs.Named.{RequestOn}
use Rattle.world_laws.proofs.NamedRuns.{named_run}
use Rattle.world_laws.proofs.RequestsProper.{proper_run}

-- a register of the file is the only one of its number
pub same_number : (c : Config) (a b : Key) → IsRegister c a → IsRegister c b → a.index ≡ b.index → a.service ≡ b.service
same_number c a b g h e = sym g.kept_by ∙ (ap (λ (n : ℕ). service_of_register c n) e ∙ h.kept_by)

-- two register services have two places
pub same_place : (c : Config) (a b : Key) → IsRegister c a → IsRegister c b → service_index a.service ≡ service_index b.service → a.service ≡ b.service
same_place c a b g h e =
    let m : service_index a.service ≡ g.number - 1 = ap service_index g.is in
    let n : service_index b.service ≡ h.number - 1 = ap service_index h.is in
    let f : g.number ≡ h.number = omega (arith, e, m, n, g.first, h.first) in
    g.is ∙ (ap Reg f ∙ sym h.is)

-- a register of the file is apart from another
apart : (c : Config) (key k : Key) → IsRegister c key → IsRegister c k → is_apart key k ≡ true
apart c key k g h = by_number (k.index == key.index) refl
  where
    by_number : (t : Bool) → (k.index == key.index) ≡ t → (not t || (same_service k.service key.service && t)) ≡ true
    by_number false e = refl
    by_number true e = and_from (same_service k.service key.service) true (subst (λ (x : ServiceId). same_service k.service x ≡ true) (same_number c k key h g (eqb-true k.index key.index e)) (same_service_itself k.service)) refl

all_apart : (c : Config) (key : Key) (ks : List Key) → IsRegister c key → All (IsRegister c) ks → list_all (is_apart key) ks ≡ true
all_apart c key [] g h = refl
all_apart c key (k ∷ ks) g h = and_from (is_apart key k) (list_all (is_apart key) ks) (apart c key k g (All-head (IsRegister c) k ks h)) (all_apart c key ks g (All-tail (IsRegister c) k ks h))

-- the service of a register that is raised is the register's own, or has another place
place_apart : (c : Config) (key k : Key) (service : ServiceId) → IsRegister c key → IsRegister c k → service ≡ k.service → (same_service service key.service || not (service_index service == service_index key.service)) ≡ true
place_apart c key k service g h e = by_place (service_index service == service_index key.service) refl
  where
    by_place : (t : Bool) → (service_index service == service_index key.service) ≡ t → (same_service service key.service || not t) ≡ true
    by_place false f = either_way (same_service service key.service)
      where
        either_way : (b : Bool) → (b || true) ≡ true
        either_way true = refl
        either_way false = refl
    by_place true f =
        let i : service_index k.service ≡ service_index key.service = ap service_index (sym e) ∙ eqb-true (service_index service) (service_index key.service) f in
        let s : service ≡ key.service = e ∙ same_place c k key h g i in
        ap (λ (b : Bool). b || false) (subst (λ (x : ServiceId). same_service service x ≡ true) s (same_service_itself service))

leaves : (c : Config) (key : Key) (service : ServiceId) (ks : List Key) → IsRegister c key → All (IsRegister c) ks → are_kept_by service ks ≡ true → leaves_registers key service ks ≡ true
unfolding are_kept_by
leaves c key service [] g h e = refl
leaves c key service (k ∷ ks) g h e =
    let p = and_parts (same_service service k.service) (list_all (λ (j : Key). same_service service j.service) ks) e in
    and_from (same_service service key.service || not (service_index service == service_index key.service)) (list_all (is_apart key) (k ∷ ks))
    (place_apart c key k service g (All-head (IsRegister c) k ks h) (same_service_is service k.service p.0)) (all_apart c key (k ∷ ks) g h)

-- what a request raises is among what it names
raised_of : (Q : List Key → Type 0) (r : Request) → Q [] → Q (registers_of r) → Q (raised_by r)
raised_of Q (request.Store key value stamp writer) n h = h
raised_of Q (request.Fix deps) n h = h
raised_of Q (request.Ask key) n h = n
raised_of Q (request.Stamp key) n h = n
raised_of Q (request.Lock attempt coordinator reads writes) n h = n
raised_of Q (request.Prepare attempt least earliest_end writes) n h = n
raised_of Q (request.Decide attempt commit time) n h = n
raised_of Q (request.Commit attempt commit_time) n h = n
raised_of Q (request.Abort attempt) n h = n
raised_of Q (request.Inquire attempt) n h = n
raised_of Q (request.Release attempt time last) n h = n
raised_of Q (request.Snapshot read_time least keys skip) n h = n

body_leaves : (c : Config) (key : Key) (owner : ℕ) (target : Target) (b : Body) → IsRegister c key → ((r : Request) → b ≡ body.Request r → RequestOn (IsRegister c) owner target r) → is_proper_body target b ≡ true → leaves_alone key target b ≡ true
body_leaves c key owner (Shard shard) b g h e = refl
body_leaves c key owner (Replica service replica) (body.Reply r) g h e = refl
body_leaves c key owner (Replica service replica) (body.Request r) g h e =
    raised_of (λ (ks : List Key). leaves_registers key service ks ≡ true) r refl (leaves c key service (registers_of r) g (h r refl) e)

-- a run leaves each register of the file alone
pub alone_run : (c : Config) (key : Key) (steps : List Step) (s : State) → NamesRegisters c → IsRegister c key → run c steps ≡ Some s → IsAlone key s.net
alone_run c key steps s n g e m l =
    body_leaves c key (message_at s.net m).envelope.owner (message_at s.net m).envelope.target (message_at s.net m).body g ((named_run c (IsRegister c) n.statements steps s e).messages.each m) (proper_run c steps s e m)

-- the notes tell the step of every stamp of a register of the file
pub marks_tell_all : (c : Config) (key : Key) (z : Carstamp) (steps : List Step) (s : State) → NamesRegisters c → IsRegister c key → run c steps ≡ Some s → step_of_stamp c steps key z ≡ marked_step s key z
marks_tell_all c key z steps s n g e = marks_tell c key z steps s g.there e (alone_run c key steps s n g e)

-- every register that a replica is asked about is one of the file
pub asks_registers : (c : Config) (steps : List Step) (s : State) → NamesRegisters c → run c steps ≡ Some s → AsksRegisters c s
asks_registers c steps s n e m service replica r f g =
    subst (λ (t : Target). RequestOn (IsRegister c) (message_at s.net m).envelope.owner t r) f ((named_run c (IsRegister c) n.statements steps s e).messages.each m r g)
