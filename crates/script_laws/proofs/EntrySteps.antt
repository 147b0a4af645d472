-- Where entries lead is where the model lets them.
use Rattle.std.proofs.Common.{◌≡◌, ◌∙◌, sym, ap, ℕ, zero, suc, ◌<◌, List, [], ◌∷◌, take, Bool, true, false, refl, arith, subst, Some, None, ◌⊎◌, inl, inr}
use Rattle.std.specs.Prelude.{◌&&◌, ◌==◌, Option, IsTrue, if◌then◌else◌}
use Rattle.std.specs.Bool.{Decides}
use Rattle.std.proofs.lemmas.Bool.{false≢true}
use Rattle.std.proofs.lemmas.Bool.Decides.{Decides-eqb, Decides-and, Decides-or, Decides-like}
use Rattle.pipeline_lang.specs.declared.config.Config.{Config}
use Rattle.pipeline_lang.specs.declared.script.Statement.TheVariants as statement
use Rattle.pipeline_lang.specs.Config.{statement_at}
use Rattle.rss_model.specs.Tokens.{same_token}
use Rattle.rss_model.specs.declared.op.Op.{Op}
use Rattle.rss_model.specs.declared.op.Shown.{Shown}
use Rattle.rss_model.specs.declared.history.Entry.{Entry}
use Rattle.rss_model.specs.declared.history.Entry.TheVariants.{Begin, End, Give, Get, Over}
use Rattle.rss_model.specs.declared.history.Token.{Token}
use Rattle.rss_model.specs.declared.history.Token.TheVariants as token
use Rattle.rss_model.specs.declared.history.How.{How}
use Rattle.rss_model.specs.declared.history.How.TheVariants.{Exited, Killed, Unavailable}
use Rattle.rss_model.specs.Operation.{values_of}
use Rattle.rss_model.specs.History.{entry_at}
use Rattle.rss_model.specs.Stages.{wait_status, is_death}
use Rattle.rss_model.specs.Cursor.{NumberedStatement}
use Rattle.rss_model.specs.CallStatement.{op_of_statement}
use Rattle.rss_model.specs.Walk.{Walk, Mode, unborn, ready, in_call, over, is_alive, IsNext, next_given, past_statement, after_put, after_close, after_reply, after_wait, over_as}
use Rattle.rss_model.specs.Given.{GivenAbove}
use Rattle.rss_model.specs.Walked.{Makes, birth, begin_call, end_call, spawn, put, close, wait, exit, death, last_give}
use Rattle.script_laws.specs.SameOps.{same_op}
use Rattle.script_laws.specs.Entries.{gives, gave, next_in, next_statement, is_op, begun, ended, gave_at, paid, given_in, born, waited, got, exited, ended_as, entry_step}
use Rattle.script_laws.proofs.SameOperations.{op-Decides}

pub token-Decides : (a b : Token) → Decides (same_token a b) (a ≡ b)
token-Decides (token.Spawn s) (token.Spawn t) =
    Decides-like _ (λ e. ap token.Spawn e) (λ e. cc) (Decides-eqb s t)
token-Decides (token.Spawn s) (token.Chunk q n) = (λ t. absurd (false≢true t), λ e. cc)
token-Decides (token.Spawn s) (token.Exit t) = (λ t. absurd (false≢true t), λ e. cc)
token-Decides (token.Chunk p m) (token.Spawn t) = (λ t. absurd (false≢true t), λ e. cc)
token-Decides (token.Chunk p m) (token.Chunk q n) =
    Decides-like _ (λ e i. token.Chunk (e.0 i) (e.1 i)) (λ e. (cc, cc))
    (Decides-and _ _ (Decides-eqb p q) (Decides-eqb m n))
token-Decides (token.Chunk p m) (token.Exit t) = (λ t. absurd (false≢true t), λ e. cc)
token-Decides (token.Exit s) (token.Spawn t) = (λ t. absurd (false≢true t), λ e. cc)
token-Decides (token.Exit s) (token.Chunk q n) = (λ t. absurd (false≢true t), λ e. cc)
token-Decides (token.Exit s) (token.Exit t) =
    Decides-like _ (λ e. ap token.Exit e) (λ e. cc) (Decides-eqb s t)

-- an entry of these gives the token
abbrev Gave : Token → List Entry → Type 0
Gave t h = (i : ℕ) × (giver : ℕ) × (entry_at h i ≡ Give giver t)

gives-to : (t : Token) (e : Entry) → gives t e ≡ true → (giver : ℕ) × (e ≡ Give giver t)
gives-to t (Begin call s op) g = absurd (false≢true g)
gives-to t (End call reply) g = absurd (false≢true g)
gives-to t (Give s given) g = (s, ap (Give s) ((token-Decides given t).0 g))
gives-to t (Get s other) g = absurd (false≢true g)
gives-to t (Over s how) g = absurd (false≢true g)

gives-from : (t : Token) (e : Entry) (giver : ℕ) → e ≡ Give giver t → gives t e ≡ true
gives-from t e giver g = ap (gives t) g ∙ (token-Decides t t).1 refl

gave-to : (t : Token) (h : List Entry) → gave t h ≡ true → Gave t h
gave-to t [] g = absurd (false≢true g)
gave-to t (e ∷ h) g =
    by_part ((Decides-or (gives t e) (gave t h) (λ x. x, λ x. x) (λ x. x, λ x. x)).0 g) (gave-to t h)
  where
    by_part : (gives t e ≡ true) ⊎ (gave t h ≡ true) → (gave t h ≡ true → Gave t h) → Gave t (e ∷ h)
    by_part (inl x) rest = let one = gives-to t e x in (0, one.0, one.1)
    by_part (inr x) rest = let one = rest x in (suc one.0, one.1, one.2)

gave-from : (t : Token) (h : List Entry) → Gave t h → gave t h ≡ true
gave-from t [] (i, giver, e) = absurd (cc (e))
gave-from t (x ∷ h) (zero, giver, e) =
    (Decides-or (gives t x) (gave t h) (λ y. y, λ y. y) (λ y. y, λ y. y)).1 (inl (gives-from t x giver e))
gave-from t (x ∷ h) (suc i, giver, e) =
    (Decides-or (gives t x) (gave t h) (λ y. y, λ y. y) (λ y. y, λ y. y)).1
    (inr (gave-from t h (i, giver, e)))

-- the entries above a place
above-to : (h : List Entry) (place : ℕ) (t : Token) → Gave t (take place h) → GivenAbove h place t
above-to h zero t (i, giver, e) = absurd (cc (e))
above-to [] (suc place) t (i, giver, e) = absurd (cc (e))
above-to (x ∷ h) (suc place) t (zero, giver, e) =
    record { origin = 0; giver = giver; above = omega arith; gives = e }
above-to (x ∷ h) (suc place) t (suc i, giver, e) =
    let rest = above-to h place t (i, giver, e) in
    record {
      origin = suc rest.origin;
      giver = rest.giver;
      above = omega (arith, rest.above);
      gives = rest.gives;
    }

above-from : (h : List Entry) (place : ℕ) (t : Token) → (i giver : ℕ) → i < place →
    entry_at h i ≡ Give giver t → Gave t (take place h)
above-from h zero t i giver l e = absurd (omega (arith, l))
above-from [] (suc place) t i giver l e = absurd (cc (e))
above-from (x ∷ h) (suc place) t zero giver l e = (0, giver, e)
above-from (x ∷ h) (suc place) t (suc i) giver l e =
    let rest = above-from h place t i giver (omega (arith, l)) e in
    (suc rest.0, rest.1, rest.2)

pub above-Decides : (h : List Entry) (place : ℕ) (t : Token) →
    Decides (gave t (take place h)) (GivenAbove h place t)
above-Decides h place t = (
  λ g. above-to h place t (gave-to t (take place h) g),
  λ a. gave-from t (take place h) (above-from h place t a.origin a.giver a.above a.gives),
)

-- a choice that gives a value was taken, and gives this one
pub taken_if : {X : Type 0} (b : Bool) (x v : X) → (if b then Some x else None) ≡ Some v →
    (b ≡ true) × (x ≡ v)
taken_if true x v e = (refl, cc (e))
taken_if false x v e = absurd (cc (e))

pub chosen_if : {X : Type 0} (b : Bool) (x : Option X) (v : X) → (if b then x else None) ≡ Some v →
    (b ≡ true) × (x ≡ Some v)
chosen_if true x v e = (refl, e)
chosen_if false x v e = absurd (cc (e))

module _ (config : Config) (h : List Entry) (stage place : ℕ) where
  abbrev Next : Walk → NumberedStatement → Type 0
  Next w s = IsNext config stage w s

  abbrev Made : Entry → Walk → Walk → Type 0
  Made e w v = Makes config h stage place e w v

  pub next-from : (w : Walk) (s : NumberedStatement) → Next w s → next_statement config stage w ≡ Some s
  next-from w s n = ap (next_in config stage w) n.ready ∙ ap (λ x. Some x) n.statement

  pub next-to : (w : Walk) (s : NumberedStatement) → next_statement config stage w ≡ Some s → Next w s
  next-to w s e = by_mode w.mode refl e
    where
      by_mode : (m : Mode) → w.mode ≡ m → next_in config stage w m ≡ Some s → Next w s
      by_mode unborn m f = absurd (cc (f))
      by_mode ready m f = record { ready = m; statement = cc (f) }
      by_mode (in_call call) m f = absurd (cc (f))
      by_mode (over how owed) m f = absurd (cc (f))

  begun-to : (w v : Walk) (o : Option NumberedStatement) (call : ℕ) (op : Op) →
      next_statement config stage w ≡ o → begun w o call op ≡ Some v → Made (Begin call stage op) w v
  begun-to w v None call op n e = absurd (cc (e))
  begun-to w v (Some s) call op n e =
      by_op (op_of_statement s w.cursor.variables) refl e
    where
      by_op : (o : Option Op) → op_of_statement s w.cursor.variables ≡ o →
          (if is_op o op then Some (record w { mode = in_call call }) else None) ≡ Some v →
          Made (Begin call stage op) w v
      by_op None o f = absurd (cc (f))
      by_op (Some made) o f =
          let at = taken_if (same_op made op) (record w { mode = in_call call }) v f in
          let same : made ≡ op = (op-Decides made op).0 at.0 in
          subst (Made (Begin call stage op) w) at.1
          (begin_call (next-to w s n) (o ∙ ap (λ x. Some x) same))

  ended-to : (w v : Walk) (m : Mode) (call : ℕ) (reply : List Shown) → w.mode ≡ m →
      ended config stage w m call reply ≡ Some v → Made (End call reply) w v
  ended-to w v unborn call reply m e = absurd (cc (e))
  ended-to w v ready call reply m e = absurd (cc (e))
  ended-to w v (in_call c) call reply m e =
      let at = taken_if (c == call) (after_reply config stage w (values_of reply)) v e in
      subst (Made (End call reply) w) at.1
      (end_call (m ∙ ap in_call ((Decides-eqb c call).0 at.0)))
  ended-to w v (over how owed) call reply m e = absurd (cc (e))

  gave_at-to : (w v : Walk) (s : NumberedStatement) (t : Token) → Next w s →
      gave_at w (Some s) t ≡ Some v → Made (Give stage t) w v
  gave_at-to w v (statement.Let variable value) t n e = absurd (cc (e))
  gave_at-to w v (statement.Read variable key) t n e = absurd (cc (e))
  gave_at-to w v (statement.Write key value) t n e = absurd (cc (e))
  gave_at-to w v (statement.Snap pairs) t n e = absurd (cc (e))
  gave_at-to w v (statement.Txn pairs guard writes) t n e = absurd (cc (e))
  gave_at-to w v (statement.Spawn child) t n e =
      let at = taken_if (same_token (token.Spawn child) t) (past_statement w) v e in
      let same : token.Spawn child ≡ t = (token-Decides (token.Spawn child) t).0 at.0 in
      subst (λ (x : Token). Made (Give stage x) w v) same (subst (Made (Give stage (token.Spawn child)) w) at.1 (spawn n))
  gave_at-to w v (statement.Wait child) t n e = absurd (cc (e))
  gave_at-to w v (statement.Put pipe value) t n e =
      let at = taken_if (same_token (token.Chunk pipe (next_given w pipe)) t) (after_put w pipe) v e in
      let same : token.Chunk pipe (next_given w pipe) ≡ t = (token-Decides (token.Chunk pipe (next_given w pipe)) t).0 at.0 in
      subst (λ (x : Token). Made (Give stage x) w v) same
      (subst (Made (Give stage (token.Chunk pipe (next_given w pipe))) w) at.1 (put n))
  gave_at-to w v (statement.Take variable pipe) t n e = absurd (cc (e))
  gave_at-to w v (statement.Close pipe) t n e =
      let at = taken_if (same_token (token.Chunk pipe (next_given w pipe)) t) (after_close w pipe) v e in
      let same : token.Chunk pipe (next_given w pipe) ≡ t = (token-Decides (token.Chunk pipe (next_given w pipe)) t).0 at.0 in
      subst (λ (x : Token). Made (Give stage x) w v) same
      (subst (Made (Give stage (token.Chunk pipe (next_given w pipe))) w) at.1 (close n))
  gave_at-to w v statement.Fence t n e = absurd (cc (e))
  gave_at-to w v (statement.Repeat turns) t n e = absurd (cc (e))
  gave_at-to w v (statement.When test) t n e = absurd (cc (e))
  gave_at-to w v statement.End t n e = absurd (cc (e))
  gave_at-to w v statement.Exit t n e = absurd (cc (e))

  paid-to : (w v : Walk) (how : How) (owed : List Token) (t : Token) → w.mode ≡ over how owed →
      paid w how owed t ≡ Some v → Made (Give stage t) w v
  paid-to w v how [] t m e = absurd (cc (e))
  paid-to w v how (o ∷ owed) t m e =
      let at = taken_if (same_token o t) (record w { mode = over how owed }) v e in
      let same : o ≡ t = (token-Decides o t).0 at.0 in
      subst (λ (x : Token). Made (Give stage x) w v) same
      (subst (Made (Give stage o) w) at.1 (last_give m))

  given-to : (w v : Walk) (m : Mode) (t : Token) → w.mode ≡ m →
      given_in config stage w m t ≡ Some v → Made (Give stage t) w v
  given-to w v unborn t m e = absurd (cc (e))
  given-to w v ready t m e =
      gave_at-to w v (statement_at config stage w.cursor.position) t
      (record { ready = m; statement = refl }) e
  given-to w v (in_call call) t m e = absurd (cc (e))
  given-to w v (over how owed) t m e = paid-to w v how owed t m e

  born-to : (w v : Walk) (m : Mode) → w.mode ≡ m → GivenAbove h place (token.Spawn stage) →
      born w m ≡ Some v → Made (Get stage (token.Spawn stage)) w v
  born-to w v unborn m g e = subst (Made (Get stage (token.Spawn stage)) w) (cc (e)) (birth m g)
  born-to w v ready m g e = absurd (cc (e))
  born-to w v (in_call call) m g e = absurd (cc (e))
  born-to w v (over how owed) m g e = absurd (cc (e))

  waited-to : (w v : Walk) (s : NumberedStatement) (child : ℕ) → Next w s →
      GivenAbove h place (token.Exit child) → waited h w (Some s) child ≡ Some v →
      Made (Get stage (token.Exit child)) w v
  waited-to w v (statement.Let variable value) child n g e = absurd (cc (e))
  waited-to w v (statement.Read variable key) child n g e = absurd (cc (e))
  waited-to w v (statement.Write key value) child n g e = absurd (cc (e))
  waited-to w v (statement.Snap pairs) child n g e = absurd (cc (e))
  waited-to w v (statement.Txn pairs guard writes) child n g e = absurd (cc (e))
  waited-to w v (statement.Spawn s) child n g e = absurd (cc (e))
  waited-to w v (statement.Wait s) child n g e =
      let at = taken_if (s == child) (after_wait w (wait_status h child)) v e in
      let same : s ≡ child = (Decides-eqb s child).0 at.0 in
      subst (Made (Get stage (token.Exit child)) w) at.1
      (wait (subst (λ x. Next w (statement.Wait x)) same n) g)
  waited-to w v (statement.Put pipe value) child n g e = absurd (cc (e))
  waited-to w v (statement.Take variable pipe) child n g e = absurd (cc (e))
  waited-to w v (statement.Close pipe) child n g e = absurd (cc (e))
  waited-to w v statement.Fence child n g e = absurd (cc (e))
  waited-to w v (statement.Repeat turns) child n g e = absurd (cc (e))
  waited-to w v (statement.When test) child n g e = absurd (cc (e))
  waited-to w v statement.End child n g e = absurd (cc (e))
  waited-to w v statement.Exit child n g e = absurd (cc (e))

  waited_next-to : (w v : Walk) (o : Option NumberedStatement) (child : ℕ) →
      next_statement config stage w ≡ o → GivenAbove h place (token.Exit child) →
      waited h w o child ≡ Some v → Made (Get stage (token.Exit child)) w v
  waited_next-to w v None child n g e = absurd (cc (e))
  waited_next-to w v (Some s) child n g e = waited-to w v s child (next-to w s n) g e

  got-to : (w v : Walk) (t : Token) → GivenAbove h place t → got config h stage w t ≡ Some v →
      Made (Get stage t) w v
  got-to w v (token.Spawn s) g e =
      let at = chosen_if (s == stage) (born w w.mode) v e in
      let same : s ≡ stage = (Decides-eqb s stage).0 at.0 in
      subst (λ x. Made (Get stage (token.Spawn x)) w v) (sym same)
      (born-to w v w.mode refl (subst (λ x. GivenAbove h place (token.Spawn x)) same g) at.1)
  got-to w v (token.Chunk pipe number) g e = absurd (cc (e))
  got-to w v (token.Exit child) g e =
      waited_next-to w v (next_statement config stage w) child refl g e

  exited-to : (w v : Walk) (s : NumberedStatement) → Next w s →
      exited config stage w (Some s) ≡ Some v → Made (Over stage Exited) w v
  exited-to w v (statement.Let variable value) n e = absurd (cc (e))
  exited-to w v (statement.Read variable key) n e = absurd (cc (e))
  exited-to w v (statement.Write key value) n e = absurd (cc (e))
  exited-to w v (statement.Snap pairs) n e = absurd (cc (e))
  exited-to w v (statement.Txn pairs guard writes) n e = absurd (cc (e))
  exited-to w v (statement.Spawn s) n e = absurd (cc (e))
  exited-to w v (statement.Wait s) n e = absurd (cc (e))
  exited-to w v (statement.Put pipe value) n e = absurd (cc (e))
  exited-to w v (statement.Take variable pipe) n e = absurd (cc (e))
  exited-to w v (statement.Close pipe) n e = absurd (cc (e))
  exited-to w v statement.Fence n e = absurd (cc (e))
  exited-to w v (statement.Repeat turns) n e = absurd (cc (e))
  exited-to w v (statement.When test) n e = absurd (cc (e))
  exited-to w v statement.End n e = absurd (cc (e))
  exited-to w v statement.Exit n e = subst (Made (Over stage Exited) w) (cc (e)) (exit n)

  exited_next-to : (w v : Walk) (o : Option NumberedStatement) → next_statement config stage w ≡ o →
      exited config stage w o ≡ Some v → Made (Over stage Exited) w v
  exited_next-to w v None n e = absurd (cc (e))
  exited_next-to w v (Some s) n e = exited-to w v s (next-to w s n) e

  ended_as-to : (w v : Walk) (how : How) → ended_as config stage w how ≡ Some v →
      Made (Over stage how) w v
  ended_as-to w v Exited e = exited_next-to w v (next_statement config stage w) refl e
  ended_as-to w v Killed e =
      let at = taken_if (is_alive w.mode) (over_as config stage w Killed) v e in
      subst (Made (Over stage Killed) w) at.1 (death at.0 refl)
  ended_as-to w v Unavailable e =
      let at = taken_if (is_alive w.mode) (over_as config stage w Unavailable) v e in
      subst (Made (Over stage Unavailable) w) at.1 (death at.0 refl)

  pub entry-to : (w v : Walk) (e : Entry) →
      entry_step config h stage (take place h) e w ≡ Some v → Made e w v
  entry-to w v (Begin call s op) f =
      let at = chosen_if (s == stage) (begun w (next_statement config stage w) call op) v f in
      subst (λ x. Made (Begin call x op) w v) (sym ((Decides-eqb s stage).0 at.0))
      (begun-to w v (next_statement config stage w) call op refl at.1)
  entry-to w v (End call reply) f = ended-to w v w.mode call reply refl f
  entry-to w v (Give s t) f =
      let at = chosen_if (s == stage) (given_in config stage w w.mode t) v f in
      subst (λ x. Made (Give x t) w v) (sym ((Decides-eqb s stage).0 at.0))
      (given-to w v w.mode t refl at.1)
  entry-to w v (Get s t) f =
      let at = chosen_if ((s == stage) && gave t (take place h)) (got config h stage w t) v f in
      let parts = (Decides-and (s == stage) (gave t (take place h)) (Decides-eqb s stage) (above-Decides h place t)).0 at.0 in
      subst (λ x. Made (Get x t) w v) (sym parts.0) (got-to w v t parts.1 at.1)
  entry-to w v (Over s how) f =
      let at = chosen_if (s == stage) (ended_as config stage w how) v f in
      subst (λ x. Made (Over x how) w v) (sym ((Decides-eqb s stage).0 at.0))
      (ended_as-to w v how at.1)

  own : (stage == stage) ≡ true
  own = (Decides-eqb stage stage).1 refl

  pub entry-from : (w v : Walk) (e : Entry) → Made e w v →
      entry_step config h stage (take place h) e w ≡ Some v
  entry-from w v e (birth m g) =
      rw (own, (above-Decides h place (token.Spawn stage)).1 g, m) refl
  entry-from w v e (begin_call {s = s} {op = op} n o) =
      rw (own, next-from w s n, o, (op-Decides op op).1 refl) refl
  entry-from w v e (end_call {call = call} m) = rw (m, (Decides-eqb call call).1 refl) refl
  entry-from w v e (spawn {child = child} n) =
      rw (own, n.ready, n.statement, (Decides-eqb child child).1 refl) refl
  entry-from w v e (put {pipe = pipe} n) =
      rw (own, n.ready, n.statement, (Decides-eqb pipe pipe).1 refl, (Decides-eqb (next_given w pipe) (next_given w pipe)).1 refl) refl
  entry-from w v e (close {pipe = pipe} n) =
      rw (own, n.ready, n.statement, (Decides-eqb pipe pipe).1 refl, (Decides-eqb (next_given w pipe) (next_given w pipe)).1 refl) refl
  entry-from w v e (wait {child = child} n g) =
      rw (own, (above-Decides h place (token.Exit child)).1 g, next-from w (statement.Wait child) n, (Decides-eqb child child).1 refl) refl
  entry-from w v e (exit n) = rw (own, next-from w statement.Exit n) refl
  entry-from w v e (death {how = how} a d) = by_how how d
    where
      by_how : (x : How) → IsTrue (is_death (Some x)) →
          entry_step config h stage (take place h) (Over stage x) w ≡ Some (over_as config stage w x)
      by_how Exited f = absurd (false≢true f)
      by_how Killed f = rw (own, a) refl
      by_how Unavailable f = rw (own, a) refl
  entry-from w v e (last_give {how = how} {token = t} {owed = owed} m) =
      rw (own, m, (token-Decides t t).1 refl) refl
