-- A withhold covers no more requests than it orders: the requests of a stage to a target are numbered in turn.
use Rattle.std.proofs.Common.{◌≡◌, ◌⊎◌, inl, inr, ℕ, zero, suc, ◌+◌, ◌<◌, ◌≤◌, Bool, true, false, List, [], ◌∷◌, ◌++◌, length, refl, ap, sym, ◌∙◌, subst, arith}
use Rattle.std.specs.List.{list_any}
use Rattle.std.specs.Prelude.{◌&&◌, ◌||◌, ◌==◌, nat_le, nat_lt, if◌then◌else◌}
use Rattle.std.proofs.Math.ListN.{set}
use Rattle.std.proofs.lemmas.Bool.{true≢false, eqb-true, leb-true, ltb-true}
use Rattle.rss_names.specs.Services.{same_service}
use Rattle.rss_names.specs.declared.service.ServiceId.{ServiceId}
use Rattle.rss_names.specs.declared.service.ServiceId.TheVariants.{Txn, Reg}
use Rattle.rss_names.specs.declared.service.Target.{Target}
use Rattle.rss_names.specs.declared.service.Target.TheVariants.{Shard, Replica}
use Rattle.pipeline_lang.specs.declared.config.Withhold.{Withhold}
use Rattle.rss_wire.specs.Messages.{message_at, no_message, same_target, is_request_to, count_requests, request_envelope, reply_envelope, asks, answers, meets}
use Rattle.rss_wire.specs.declared.envelope.Envelope.{Envelope}
use Rattle.rss_wire.specs.declared.message.Body.TheVariants as body
use Rattle.rss_wire.specs.declared.message.Fate.{Fate}
use Rattle.rss_wire.specs.declared.message.Fate.TheVariants as fate
use Rattle.rss_wire.specs.declared.message.Message.{Message}
use Rattle.rss_wire.specs.declared.messages.Request.{Request}
use Rattle.rss_wire.specs.declared.messages.Reply.{Reply}
use Rattle.rss_wire.proofs.Lines.{same_target-true}
use Rattle.rss_machine.specs.Budget.{all_withheld}
use Rattle.rss_machine.specs.Turns.{covers}
use Rattle.budget_laws.specs.Counts.{sum_of}
use Rattle.budget_laws.proofs.Sums.{sum_more, sum_set}

-- whether a message is a request that a withhold covers
abbrev pub hit : Withhold → Envelope → ℕ
hit w e = if e.request && covers e w then 1 else 0

abbrev pub hits : Withhold → List Message → ℕ
hits w net = sum_of (λ (m : Message). hit w m.envelope) net

abbrev to_of : ℕ → Target → Message → ℕ
to_of stage target m = if is_request_to stage target m.envelope then 1 else 0

-- the requests of its stage to its target are numbered in turn: so no more of them are covered than are ordered, and
-- none that is not sent yet
pub record Fits (w : Withhold) (net : List Message) : Type 0 where
  pub few : hits w net ≤ w.count
  pub below : 0 < hits w net → hits w net + w.first ≤ sum_of (to_of w.stage w.target) net + 1

count_sum : (stage : ℕ) (target : Target) (net : List Message) → count_requests stage target net ≡ sum_of (to_of stage target) net
count_sum stage target [] = refl
count_sum stage target (m ∷ net) = one (is_request_to stage target m.envelope) (count_sum stage target net)
  where
    one : (b : Bool) → count_requests stage target net ≡ sum_of (to_of stage target) net → (if b then suc (count_requests stage target net) else count_requests stage target net) ≡ (if b then 1 else 0) + sum_of (to_of stage target) net
    one true h = omega (arith, h)
    one false h = omega (arith, h)

four : (a b d f : Bool) → (a && b && d && f) ≡ true → (a ≡ true) × (b ≡ true) × (d ≡ true) × (f ≡ true)
four true true true true e = (refl, refl, refl, refl)
four false b d f e = absurd (true≢false (sym e))
four true false d f e = absurd (true≢false (sym e))
four true true false f e = absurd (true≢false (sym e))
four true true true false e = absurd (true≢false (sym e))

-- A NEW REQUEST

equal_self : (n : ℕ) → (n == n) ≡ true
equal_self n = grind (arith)

same_self : (t : Target) → same_target t t ≡ true
same_self (Shard a) = equal_self a
same_self (Replica (Txn n) a) = ap (λ (b : Bool). b && (a == a)) (equal_self n) ∙ equal_self a
same_self (Replica (Reg n) a) = ap (λ (b : Bool). b && (a == a)) (equal_self n) ∙ equal_self a

two : (a b : Bool) → a ≡ true → b ≡ true → (true && a && b) ≡ true
two true true p q = refl
two false b p q = absurd (true≢false (sym p))
two true false p q = absurd (true≢false (sym q))

one_more_fits : (h first count n : ℕ) → (0 < h → h + first ≤ n + 1) → first ≤ suc n → suc n < first + count → h + 1 ≤ count
one_more_fits zero first count n f a b = omega (arith, a, b)
one_more_fits (suc h) first count n f a b = let q = f (omega arith) in omega (arith, q, b)

one_more_below : (h first n : ℕ) → (0 < h → h + first ≤ n + 1) → first ≤ suc n → h + 1 + first ≤ n + 1 + 1
one_more_below zero first n f a = omega (arith, a)
one_more_below (suc h) first n f a = let q = f (omega arith) in omega (arith, q)

module _ (w : Withhold) (net : List Message) (owner stage : ℕ) (target : Target) (r : Request) (h : Fits w net) where
  abbrev x : Message
  x = record { envelope = request_envelope net owner stage target; body = body.Request r; fate = fate.Pending }

  abbrev many : ℕ
  many = sum_of (to_of w.stage w.target) net

  more_hits : hits w (asks net owner stage target r) ≡ hits w net + hit w x.envelope
  more_hits = sum_more (λ (m : Message). hit w m.envelope) net x

  more_to : sum_of (to_of w.stage w.target) (asks net owner stage target r) ≡ many + to_of w.stage w.target x
  more_to = sum_more (to_of w.stage w.target) net x

  -- the request is covered: it is the next of its stage to its target
  hit_fits : (w.stage ≡ stage) → (w.target ≡ target) → w.first ≤ suc (count_requests stage target net) → suc (count_requests stage target net) < w.first + w.count → covers x.envelope w ≡ true → Fits w (asks net owner stage target r)
  hit_fits s t a b g =
      let q : many ≡ count_requests stage target net = sym (count_sum w.stage w.target net) ∙ (ap (λ (n : ℕ). count_requests n w.target net) s ∙ ap (λ (u : Target). count_requests stage u net) t) in
      let one : hit w x.envelope ≡ 1 = ap (λ (b : Bool). if b then 1 else 0) g in
      let is : is_request_to w.stage w.target x.envelope ≡ true = ap (λ (n : ℕ). is_request_to n w.target x.envelope) s ∙ (ap (λ (u : Target). is_request_to stage u x.envelope) t ∙ two (stage == stage) (same_target target target) (equal_self stage) (same_self target)) in
      let next : to_of w.stage w.target x ≡ 1 = ap (λ (b : Bool). if b then 1 else 0) is in
      let f : w.first ≤ suc many = subst (λ (n : ℕ). w.first ≤ suc n) (sym q) a in
      let l : suc many < w.first + w.count = subst (λ (n : ℕ). suc n < w.first + w.count) (sym q) b in
      let k : hits w net + 1 ≤ w.count = one_more_fits (hits w net) w.first w.count many h.below f l in
      let d : hits w net + 1 + w.first ≤ many + 1 + 1 = one_more_below (hits w net) w.first many h.below f in
      let e : hits w (asks net owner stage target r) ≡ hits w net + 1 = more_hits ∙ ap (λ (n : ℕ). hits w net + n) one in
      let v : sum_of (to_of w.stage w.target) (asks net owner stage target r) ≡ many + 1 = more_to ∙ ap (λ (n : ℕ). many + n) next in
      record { few = subst (λ (n : ℕ). n ≤ w.count) (sym e) k; below = λ z. subst (λ (n : ℕ). n + w.first ≤ sum_of (to_of w.stage w.target) (asks net owner stage target r) + 1) (sym e) (subst (λ (n : ℕ). hits w net + 1 + w.first ≤ n + 1) (sym v) d) }

  missed : covers x.envelope w ≡ false → Fits w (asks net owner stage target r)
  missed g =
      let none : hit w x.envelope ≡ 0 = ap (λ (b : Bool). if b then 1 else 0) g in
      let e : hits w (asks net owner stage target r) ≡ hits w net + 0 = more_hits ∙ ap (λ (n : ℕ). hits w net + n) none in
      let v = more_to in
      let k = h.few in
      record { few = omega (arith, e, k); below = λ z. (let d = h.below (omega (arith, z, e)) in omega (arith, d, e, v)) }

  pub asked_fits : Fits w (asks net owner stage target r)
  asked_fits = by_cover (covers x.envelope w) refl
    where
      by_cover : (b : Bool) → covers x.envelope w ≡ b → Fits w (asks net owner stage target r)
      by_cover true g =
          let p = four (w.stage == stage) (same_target w.target target) (nat_le w.first (suc (count_requests stage target net))) (nat_lt (suc (count_requests stage target net)) (w.first + w.count)) g in
          hit_fits (eqb-true w.stage stage p.0) (same_target-true w.target target p.1) (leb-true w.first (suc (count_requests stage target net)) p.2) (ltb-true (suc (count_requests stage target net)) (w.first + w.count) p.3) g
      by_cover false g = missed g

-- A REPLY, AND A FATE

pub answered_fits : (w : Withhold) (net : List Message) (m : ℕ) (r : Reply) → Fits w net → Fits w (answers net m r)
answered_fits w net m r h =
    let x : Message = record { envelope = reply_envelope net m; body = body.Reply r; fate = fate.Pending } in
    let e : hits w (answers net m r) ≡ hits w net + 0 = sum_more (λ (y : Message). hit w y.envelope) net x in
    let v : sum_of (to_of w.stage w.target) (answers net m r) ≡ sum_of (to_of w.stage w.target) net + 0 = sum_more (to_of w.stage w.target) net x in
    let k = h.few in
    record { few = omega (arith, e, k); below = λ z. (let d = h.below (omega (arith, z, e)) in omega (arith, d, e, v)) }

same_sum : (f : Message → ℕ) (net : List Message) (m : ℕ) (x : Message) → m < length net → f x ≡ f (message_at net m) → sum_of f (set net m x) ≡ sum_of f net
same_sum f net m x l e = let q : sum_of f (set net m x) + f (message_at net m) ≡ sum_of f net + f x = sum_set f net m x no_message l in omega (arith, q, e)

pub fated_fits : (w : Withhold) (net : List Message) (m : ℕ) (f : Fate) → m < length net → Fits w net → Fits w (meets net m f)
fated_fits w net m f l h =
    let x : Message = record (message_at net m) { fate = f } in
    let e : hits w (meets net m f) ≡ hits w net = same_sum (λ (y : Message). hit w y.envelope) net m x l refl in
    let v : sum_of (to_of w.stage w.target) (meets net m f) ≡ sum_of (to_of w.stage w.target) net = same_sum (to_of w.stage w.target) net m x l refl in
    let k = h.few in
    record { few = omega (arith, e, k); below = λ z. (let d = h.below (omega (arith, z, e)) in omega (arith, d, e, v)) }

-- ALL WITHHOLDS

abbrev pub all_hits : List Withhold → List Message → ℕ
all_hits ws net = sum_of (λ (w : Withhold). hits w net) ws

pub all_fit : (ws : List Withhold) (net : List Message) → ((w : Withhold) → Fits w net) → all_hits ws net ≤ all_withheld ws
all_fit [] net h = omega arith
all_fit (w ∷ ws) net h = let a = (h w).few in let b = all_fit ws net h in omega (arith, a, b)

-- whether a message that was lost is one that the file withholds
abbrev pub was_lost : Fate → Bool
was_lost fate.Lost = true
was_lost fate.Pending = false
was_lost fate.Delivered = false
was_lost fate.Repeated = false

abbrev pub lost_one : List Withhold → Message → ℕ
lost_one ws m = if was_lost m.fate then (if m.envelope.request && list_any (covers m.envelope) ws then 1 else 0) else 0

one_hit : (e : Envelope) (ws : List Withhold) (r : Bool) → (if r && list_any (covers e) ws then 1 else 0) ≤ sum_of (λ (w : Withhold). if r && covers e w then 1 else 0) ws
one_hit e ws false = omega arith
one_hit e [] true = omega arith
one_hit e (w ∷ ws) true = by_first (covers e w) (one_hit e ws true)
  where
    by_first : (b : Bool) → (if true && list_any (covers e) ws then 1 else 0) ≤ sum_of (λ (w : Withhold). if true && covers e w then 1 else 0) ws → (if true && (b || list_any (covers e) ws) then 1 else 0) ≤ (if true && b then 1 else 0) + sum_of (λ (w : Withhold). if true && covers e w then 1 else 0) ws
    by_first true h = omega arith
    by_first false h = omega (arith, h)

lost_hit : (m : Message) (ws : List Withhold) → lost_one ws m ≤ sum_of (λ (w : Withhold). hit w m.envelope) ws
lost_hit m ws = by_fate (was_lost m.fate)
  where
    by_fate : (b : Bool) → (if b then (if m.envelope.request && list_any (covers m.envelope) ws then 1 else 0) else 0) ≤ sum_of (λ (w : Withhold). hit w m.envelope) ws
    by_fate true = one_hit m.envelope ws m.envelope.request
    by_fate false = omega arith

sum_plus : {X : Type 0} (f g : X → ℕ) (xs : List X) → sum_of (λ (x : X). f x + g x) xs ≡ sum_of f xs + sum_of g xs
sum_plus f g [] = refl
sum_plus f g (x ∷ xs) = let h = sum_plus f g xs in omega (arith, h)

pub lost_hits : (ws : List Withhold) (net : List Message) → sum_of (lost_one ws) net ≤ all_hits ws net
lost_hits ws [] = omega arith
lost_hits ws (m ∷ net) =
    let a = lost_hit m ws in
    let b = lost_hits ws net in
    let d : all_hits ws (m ∷ net) ≡ sum_of (λ (w : Withhold). hit w m.envelope) ws + all_hits ws net = sum_plus (λ (w : Withhold). hit w m.envelope) (λ (w : Withhold). hits w net) ws in
    omega (arith, a, b, d)
