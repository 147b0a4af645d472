-- Sums over lists, and what sending, fates and replies make of the messages that may still come.
use Rattle.std.proofs.Common.{◌≡◌, ℕ, zero, suc, ◌+◌, ◌*◌, ◌<◌, ◌≤◌, Bool, true, false, List, [], ◌∷◌, ◌++◌, length, refl, ap, sym, ◌∙◌, arith}
use Rattle.std.proofs.Math.ListN.{set}
use Rattle.std.specs.Prelude.{get_or, if◌then◌else◌}
use Rattle.rss_names.specs.declared.service.Target.{Target}
use Rattle.rss_wire.specs.Messages.{is_pending, message_at, request_envelope, reply_envelope, asks, answers, meets}
use Rattle.rss_wire.specs.declared.message.Body.{Body}
use Rattle.rss_wire.specs.declared.message.Body.TheVariants as body
use Rattle.rss_wire.specs.declared.message.Fate.{Fate}
use Rattle.rss_wire.specs.declared.message.Fate.TheVariants as fate
use Rattle.rss_wire.specs.declared.message.Message.{Message}
use Rattle.rss_wire.specs.declared.messages.Request.{Request}
use Rattle.rss_wire.specs.declared.messages.Reply.{Reply}
use Rattle.world_laws.specs.Exchanges.{is_request}
use Rattle.budget_laws.specs.Counts.{sum_of, request_of, open_of, requests, open_count}

-- one element more
pub sum_more : {X : Type 0} (f : X → ℕ) (xs : List X) (x : X) → sum_of f (xs ++ x ∷ []) ≡ sum_of f xs + f x
sum_more f [] x = omega arith
sum_more f (y ∷ xs) x = let h = sum_more f xs x in omega (arith, h)

-- one element in the place of another
pub sum_set : {X : Type 0} (f : X → ℕ) (xs : List X) (i : ℕ) (x d : X) → i < length xs → sum_of f (set xs i x) + f (get_or xs i d) ≡ sum_of f xs + f x
sum_set f [] i x d l = absurd (omega (arith, l))
sum_set f (y ∷ xs) zero x d l = omega arith
sum_set f (y ∷ xs) (suc i) x d l = let h = sum_set f xs i x d (omega (arith, l)) in omega (arith, h)

-- WHAT MAY STILL COME OF A MESSAGE

pub open_settled : (x : Message) → is_pending x.fate ≡ false → open_of x ≡ 0
open_settled x p = ap (λ (t : Bool). if t then (if is_request x.body then 2 else 1) else 0) p

pub open_request : (x : Message) (r : Request) → is_pending x.fate ≡ true → x.body ≡ body.Request r → open_of x ≡ 2
open_request x r p b = ap (λ (t : Bool). if t then (if is_request x.body then 2 else 1) else 0) p ∙ ap (λ (y : Body). if is_request y then 2 else 1) b

pub open_reply : (x : Message) (r : Reply) → is_pending x.fate ≡ true → x.body ≡ body.Reply r → open_of x ≡ 1
open_reply x r p b = ap (λ (t : Bool). if t then (if is_request x.body then 2 else 1) else 0) p ∙ ap (λ (y : Body). if is_request y then 2 else 1) b

-- WHAT IS PAID

-- so many messages have come or were lost, where so many came once more
abbrev pub Paid : ℕ → ℕ → List Message → Type 0
Paid k j net = open_count net + k ≤ 2 * requests net + j

pub asked : (k j : ℕ) (net : List Message) (owner stage : ℕ) (target : Target) (r : Request) → Paid k j net → Paid k j (asks net owner stage target r)
asked k j net owner stage target r h =
    let x : Message = record { envelope = request_envelope net owner stage target; body = body.Request r; fate = fate.Pending } in
    let a : open_count (asks net owner stage target r) ≡ open_count net + 2 = sum_more open_of net x in
    let b : requests (asks net owner stage target r) ≡ requests net + 1 = sum_more request_of net x in
    omega (arith, h, a, b)

pub answered : (k j : ℕ) (net : List Message) (m : ℕ) (r : Reply) → Paid (k + 1) j net → Paid k j (answers net m r)
answered k j net m r h =
    let x : Message = record { envelope = reply_envelope net m; body = body.Reply r; fate = fate.Pending } in
    let a : open_count (answers net m r) ≡ open_count net + 1 = sum_more open_of net x in
    let b : requests (answers net m r) ≡ requests net + 0 = sum_more request_of net x in
    omega (arith, h, a, b)

-- a message that meets a fate behind which it is not to come
pub fated : (net : List Message) (m : ℕ) (f : Fate) → is_pending f ≡ false → m < length net → open_count (meets net m f) + open_of (message_at net m) ≡ open_count net + 0
fated net m f p l =
    let x : Message = record (message_at net m) { fate = f } in
    sum_set open_of net m x _ l ∙ ap (λ (n : ℕ). open_count net + n) (open_settled x p)

pub same_requests : (net : List Message) (m : ℕ) (f : Fate) → m < length net → requests (meets net m f) ≡ requests net
same_requests net m f l =
    let x : Message = record (message_at net m) { fate = f } in
    let h : requests (meets net m f) + request_of (message_at net m) ≡ requests net + request_of (message_at net m) = sum_set request_of net m x _ l in
    omega (arith, h)

pub marked : (k j w : ℕ) (net : List Message) (m : ℕ) (f : Fate) → is_pending f ≡ false → m < length net → open_of (message_at net m) ≡ w → Paid k j net → Paid (k + w) j (meets net m f)
marked k j w net m f p l e h =
    let a : open_count (meets net m f) + w ≡ open_count net + 0 = ap (λ (n : ℕ). open_count (meets net m f) + n) (sym e) ∙ fated net m f p l in
    let b = same_requests net m f l in
    omega (arith, h, a, b)

pub fewer : (k j : ℕ) (net : List Message) → Paid (k + 1) j net → Paid k j net
fewer k j net h = omega (arith, h)

pub more_again : (k j : ℕ) (net : List Message) → Paid k j net → Paid k (j + 1) net
more_again k j net h = omega (arith, h)
