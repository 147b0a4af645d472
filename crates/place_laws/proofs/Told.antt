-- What the history says of a call, by what is told of it.
use Rattle.std.proofs.Common.{◌≡◌, ℕ, ◌<◌, ◌≤◌, true, false, List, refl, sym, ap, ◌∙◌, subst, arith}
use Rattle.std.specs.Prelude.{◌==◌, IsTrue}
use Rattle.std.proofs.lemmas.Bool.Decides.{nat_tests}
use Rattle.rss_names.specs.declared.service.Key.{Key}
use Rattle.rss_model.specs.declared.history.Entry.{Entry}
use Rattle.rss_model.specs.declared.history.Entry.TheVariants.{Begin, End, Give, Get, Over}
use Rattle.rss_model.specs.declared.history.Token.{Token}
use Rattle.rss_model.specs.declared.op.Op.{Op}
use Rattle.rss_model.specs.declared.op.Op.TheVariants as op
use Rattle.rss_model.specs.declared.op.Shown.{Shown}
use Rattle.rss_model.specs.Causality.{Path, here, along, carried}
use Rattle.rss_model.specs.History.{entry_at, begins, ends, has_begun, op_of, op_in, BeginsAt, EndsAt}
use Rattle.rss_model.specs.Mutation.{is_mutation}
use Rattle.rss_model.specs.Stages.{stage_at, stage_of, entry_stage}
use Rattle.rss_machine.specs.State.{State, owner_at}
use Rattle.rss_machine.specs.declared.session.OwnerKind.TheVariants as kind
use Rattle.world_laws.specs.Calls.{is_call, IsCallOf, HistoryTells}
use Rattle.world_laws.proofs.Histories.{begin_in}

-- entries that begin and end a call
record IsBegin (e : Entry) (call : ℕ) : Type 0 where
  stage : ℕ
  op : Op
  is : e ≡ Begin call stage op

record IsEnd (e : Entry) (call : ℕ) : Type 0 where
  reply : List Shown
  is : e ≡ End call reply

same_number : (m n : ℕ) → (m == n) ≡ true → m ≡ n
same_number m n e = grind (arith, nat_tests, e)

is_begin : (e : Entry) (call : ℕ) → begins call e ≡ true → IsBegin e call
is_begin (Begin c stage op) call b = record { stage = stage; op = op; is = ap (λ (n : ℕ). Begin n stage op) (same_number c call b) }
is_begin (End c reply) call b = absurd (grind (arith, b))
is_begin (Give stage token) call b = absurd (grind (arith, b))
is_begin (Get stage token) call b = absurd (grind (arith, b))
is_begin (Over stage how) call b = absurd (grind (arith, b))

is_end : (e : Entry) (call : ℕ) → ends call e ≡ true → IsEnd e call
is_end (End c reply) call b = record { reply = reply; is = ap (λ (n : ℕ). End n reply) (same_number c call b) }
is_end (Begin c stage op) call b = absurd (grind (arith, b))
is_end (Give stage token) call b = absurd (grind (arith, b))
is_end (Get stage token) call b = absurd (grind (arith, b))
is_end (Over stage how) call b = absurd (grind (arith, b))

-- what the history says of a call that has begun
pub record Says (s : State) (o : ℕ) (x : Op) : Type 0 where
  pub numbered : 0 < o
  pub begun : IsTrue (has_begun s.history o)
  pub op : op_of s.history o ≡ x
  pub stage : stage_of s.history o ≡ (owner_at s o).stage

module _ (s : State) (f : HistoryTells s) where
  begin_there : (i call : ℕ) → BeginsAt s.history call i → IsBegin (entry_at s.history i) call
  begin_there i call b = is_begin (entry_at s.history i) call b

  end_there : (i call : ℕ) → EndsAt s.history call i → IsEnd (entry_at s.history i) call
  end_there i call b = is_end (entry_at s.history i) call b

  pub says : (o : ℕ) (x : Op) → (owner_at s o).kind ≡ kind.Calling x → Says s o x
  says o x e =
      let begun : IsTrue (has_begun s.history o) = f.begun o ∙ ap is_call e in
      let b = begin_in s.history o begun in
      record { numbered = (f.entries.begins b.at o _ _ b.says).numbered; begun = begun; op = f.op o x e; stage = f.stage o x e }

  -- a call that begins at a place of the history
  pub begins_there : (i o : ℕ) → BeginsAt s.history o i → IsCallOf s o (stage_at s.history i) (op_in (entry_at s.history i))
  begins_there i o b = let d = begin_there i o b in subst (λ (y : Entry). IsCallOf s o (entry_stage s.history y) (op_in y)) (sym d.is) (f.entries.begins i o d.stage d.op d.is)

  -- real time is that of the dates
  pub dated : (a b i j : ℕ) → EndsAt s.history a i → BeginsAt s.history b j → i < j → (owner_at s a).dates.ended < (owner_at s b).dates.begun
  dated a b i j x y l = let d = end_there i a x in let g = begin_there j b y in f.entries.order i j a b g.stage d.reply g.op l d.is g.is

  -- the stage of an End
  pub end_stage : (i o : ℕ) → EndsAt s.history o i → stage_at s.history i ≡ stage_of s.history o
  end_stage i o b = let d = end_there i o b in ap (entry_stage s.history) d.is

-- where no stage gets a message a path goes along a stage
pub record Along (h : List Entry) (i j : ℕ) : Type 0 where
  pub forward : i ≤ j
  pub stage : stage_at h i ≡ stage_at h j

pub path_along : (h : List Entry) → ((i n : ℕ) (token : Token) → entry_at h i ≡ Get n token → ⊥) → (i j : ℕ) → Path h i j → Along h i j
path_along h g i j here = record { forward = omega arith; stage = refl }
path_along h g i j (along {k = k} p l e) = let a = path_along h g i k p in record { forward = let b = a.forward in omega (arith, b, l); stage = a.stage ∙ e }
path_along h g i j (carried {getter = n} {token = token} p l x y) = absurd (g j n token y)

-- no entry both ends and begins a call
pub ends_or_begins : (e : Entry) (a b : ℕ) → ends a e ≡ true → begins b e ≡ true → ⊥
ends_or_begins (Begin c stage op) a b x y = grind (arith, x)
ends_or_begins (End c reply) a b x y = grind (arith, y)
ends_or_begins (Give stage token) a b x y = grind (arith, x)
ends_or_begins (Get stage token) a b x y = grind (arith, x)
ends_or_begins (Over stage how) a b x y = grind (arith, x)

-- writes are mutations, and reads are not
pub writes_mutate : (h : List Entry) (o : ℕ) (key : Key) (value : ℕ) → op_of h o ≡ op.Write key value → is_mutation h o ≡ true
writes_mutate h o key value e = grind (arith, e)

pub reads_not : (h : List Entry) (o : ℕ) (key : Key) → op_of h o ≡ op.Read key → is_mutation h o ≡ false
reads_not h o key e = grind (arith, e)
