-- The fences that are left, from a place on.
use Rattle.std.proofs.Common.{◌≡◌, ℕ, zero, suc, ◌+◌, ◌-◌, ◌<◌, ◌≤◌, Bool, true, false, List, [], ◌∷◌, length, get_or, drop, Option, Some, None, refl, sym, ap, ◌∙◌, arith, if◌then◌else◌, nat_lt}
use Rattle.std.specs.Prelude.{slice_index_or}
use Rattle.std.proofs.lemmas.List.{drop_more, drop_all, length-drop, drop-drop}
use Rattle.rss_names.specs.declared.service.ServiceId.{ServiceId}
use Rattle.truetime.specs.Reading.{Reading}
use Rattle.rss_tables.specs.Works.{Works}
use Rattle.rss_tables.specs.declared.fences.FenceWork.{FenceWork}
use Rattle.rss_tables.specs.declared.fences.FenceWork.TheVariants.{Nothing, Past, Fix}
use Rattle.session_stub.specs.declared.works.Next.{Next}
use Rattle.session_stub.specs.declared.works.Next.TheVariants as next
use Rattle.session_stub.specs.Passing.{passed, first_ended, first_of, first_passes, through_works, next_work, stopped, stopped_at}

pub length_left : {X : Type 0} (xs : List X) (at : ℕ) → length (drop at xs) ≡ length xs - at
length_left xs at = length-drop at xs

pub first_there : (xs : List (ServiceId × FenceWork)) (at : ℕ) (x : ServiceId × FenceWork) → at < length xs → x ≡ get_or xs at x → first_of (drop at xs) ≡ Some x
first_there xs at x h e = ap first_of (drop_more xs at x h) ∙ ap (λ (y : ServiceId × FenceWork). Some y) (sym e)

pub first_past : (xs : List (ServiceId × FenceWork)) (at : ℕ) → length xs ≤ at → first_of (drop at xs) ≡ None
first_past xs at h = ap first_of (drop_all at xs h)

pub ruleset first_left = (first_there, first_past)

pub drop_one : {X : Type 0} (xs : List X) (at : ℕ) → drop (at + 1) xs ≡ drop 1 (drop at xs)
drop_one xs at = sym (drop-drop 1 at xs)

pub ends_there : (w : Works) (ws : List (ServiceId × FenceWork)) (x : ServiceId × FenceWork) → first_of ws ≡ Some x → first_ended w ws ≡ passed w x.0
ends_there w [] x e = cc
ends_there w (y ∷ ws) x e = cc

pub ends_nowhere : (w : Works) (ws : List (ServiceId × FenceWork)) → first_of ws ≡ None → first_ended w ws ≡ w
ends_nowhere w [] e = refl
ends_nowhere w (y ∷ ws) e = cc

pub ruleset next_left = (ends_there, ends_nowhere, drop_one)

-- one fence that passes
pub one_passes : (at : Reading) (w : Works) (ws : List (ServiceId × FenceWork)) → first_passes at ws ≡ true → through_works at (first_ended w ws) (drop 1 ws) ≡ through_works at w ws
one_passes at w [] e = cc
one_passes at w ((id, Nothing) ∷ ws) e = refl
one_passes at w ((id, Past time) ∷ ws) e = sym (ap (λ (b : Bool). if b then through_works at (passed w id) ws else record w { wait = Some time }) e)
one_passes at w ((id, Fix) ∷ ws) e = cc

pub one_less : (at : Reading) (ws : List (ServiceId × FenceWork)) → first_passes at ws ≡ true → next_work at (drop 1 ws) ≡ next_work at ws
one_less at [] e = cc
one_less at ((id, Nothing) ∷ ws) e = refl
one_less at ((id, Past time) ∷ ws) e = sym (ap (λ (b : Bool). if b then next_work at ws else next.Waits time) e)
one_less at ((id, Fix) ∷ ws) e = cc

pub none_passes : (at : Reading) (w : Works) (ws : List (ServiceId × FenceWork)) → first_passes at ws ≡ false → stopped w ws ≡ through_works at w ws
none_passes at w [] e = refl
none_passes at w ((id, Nothing) ∷ ws) e = cc
none_passes at w ((id, Past time) ∷ ws) e = sym (ap (λ (b : Bool). if b then through_works at (passed w id) ws else record w { wait = Some time }) e)
none_passes at w ((id, Fix) ∷ ws) e = refl

pub none_less : (at : Reading) (ws : List (ServiceId × FenceWork)) → first_passes at ws ≡ false → stopped_at ws ≡ next_work at ws
none_less at [] e = refl
none_less at ((id, Nothing) ∷ ws) e = cc
none_less at ((id, Past time) ∷ ws) e = sym (ap (λ (b : Bool). if b then next_work at ws else next.Waits time) e)
none_less at ((id, Fix) ∷ ws) e = refl

left_ended : (w : Works) → (first_ended w w.left).left ≡ drop 1 w.left
left_ended w = by w.left refl
  where
    by : (ws : List (ServiceId × FenceWork)) → w.left ≡ ws → (first_ended w ws).left ≡ drop 1 w.left
    by [] e = e ∙ sym (ap (λ (l : List (ServiceId × FenceWork)). drop 1 l) e)
    by (x ∷ ws) e = refl

-- one step of the loop
pub pass_more : (at : Reading) (w now whole : Works) → now ≡ first_ended w w.left → first_passes at w.left ≡ true → through_works at w w.left ≡ whole → through_works at now now.left ≡ whole
pass_more at w now whole e p h =
    ap (λ (x : Works). through_works at x x.left) e
    ∙ ap (λ (l : List (ServiceId × FenceWork)). through_works at (first_ended w w.left) l) (left_ended w)
    ∙ one_passes at w w.left p ∙ h

pub next_more : (at : Reading) (w now : Works) (whole : Next) → now ≡ first_ended w w.left → first_passes at w.left ≡ true → next_work at w.left ≡ whole → next_work at now.left ≡ whole
next_more at w now whole e p h = ap (λ (x : Works). next_work at x.left) e ∙ ap (next_work at) (left_ended w) ∙ one_less at w.left p ∙ h

pub fewer : (at : Reading) (w now : Works) → now ≡ first_ended w w.left → first_passes at w.left ≡ true → length now.left < length w.left
fewer at w now e p = by w.left refl
  where
    by : (ws : List (ServiceId × FenceWork)) → w.left ≡ ws → length now.left < length w.left
    by [] q = cc
    by (x ∷ ws) q =
        let l : length now.left ≡ length (drop 1 w.left) = ap (λ (y : Works). length y.left) e ∙ ap (λ (y : List (ServiceId × FenceWork)). length y) (left_ended w) in
        let d : length (drop 1 w.left) ≡ length ws = ap (λ (y : List (ServiceId × FenceWork)). length (drop 1 y)) q in
        let f : length w.left ≡ suc (length ws) = ap (λ (y : List (ServiceId × FenceWork)). length y) q in
        omega (arith, l, d, f)

pub ruleset passing = (pass_more, next_more, fewer, none_passes, none_less)

pub tells_some : (at : Reading) (ws : List (ServiceId × FenceWork)) (id : ServiceId) (work : FenceWork) → first_of ws ≡ Some (id, work) → first_passes at ws ≡ first_passes at ((id, work) ∷ [])
tells_some at [] id work e = cc
tells_some at ((other, Nothing) ∷ ws) id Nothing e = refl
tells_some at ((other, Nothing) ∷ ws) id (Past time) e = cc
tells_some at ((other, Nothing) ∷ ws) id Fix e = cc
tells_some at ((other, Past t) ∷ ws) id Nothing e = cc
tells_some at ((other, Past t) ∷ ws) id (Past time) e = cc
tells_some at ((other, Past t) ∷ ws) id Fix e = cc
tells_some at ((other, Fix) ∷ ws) id Nothing e = cc
tells_some at ((other, Fix) ∷ ws) id (Past time) e = cc
tells_some at ((other, Fix) ∷ ws) id Fix e = refl

pub tells_none : (at : Reading) (ws : List (ServiceId × FenceWork)) → first_of ws ≡ None → first_passes at ws ≡ false
tells_none at [] e = refl
tells_none at (x ∷ ws) e = cc

pub ruleset first_tells = (tells_some, tells_none)

work_same : {x y : ServiceId × FenceWork} → Some x ≡ Some y → x.1 ≡ y.1
work_same {x} {y} e = let q : x ≡ y = cc in ap (λ (p : ServiceId × FenceWork). p.1) q

service_same : {x y : ServiceId × FenceWork} → Some x ≡ Some y → x.0 ≡ y.0
service_same {x} {y} e = let q : x ≡ y = cc in ap (λ (p : ServiceId × FenceWork). p.0) q

pub stops_past : (w : Works) (ws : List (ServiceId × FenceWork)) (id : ServiceId) (time : ℕ) → first_of ws ≡ Some (id, Past time) → (stopped w ws ≡ record w { wait = Some time }) × (stopped_at ws ≡ next.Waits time)
stops_past w [] id time e = (cc, cc)
stops_past w ((other, Nothing) ∷ ws) id time e = let q : Nothing ≡ Past time = work_same e in (cc, cc)
stops_past w ((other, Past t) ∷ ws) id time e = let q : Past t ≡ Past time = work_same e in (cc, cc)
stops_past w ((other, Fix) ∷ ws) id time e = let q : Fix ≡ Past time = work_same e in (cc, cc)

pub stops_fix : (w : Works) (ws : List (ServiceId × FenceWork)) (id : ServiceId) → first_of ws ≡ Some (id, Fix) → (stopped w ws ≡ w) × (stopped_at ws ≡ next.Fix id)
stops_fix w [] id e = (cc, cc)
stops_fix w ((other, Nothing) ∷ ws) id e = let q : Nothing ≡ Fix = work_same e in (cc, cc)
stops_fix w ((other, Past t) ∷ ws) id e = let q : Past t ≡ Fix = work_same e in (cc, cc)
stops_fix w ((other, Fix) ∷ ws) id e = let q : other ≡ id = service_same e in (refl, cc)

pub stops_nothing : (w : Works) (ws : List (ServiceId × FenceWork)) (id : ServiceId) → first_of ws ≡ Some (id, Nothing) → (stopped w ws ≡ w) × (stopped_at ws ≡ next.Over)
stops_nothing w [] id e = (cc, cc)
stops_nothing w ((other, Nothing) ∷ ws) id e = (refl, refl)
stops_nothing w ((other, Past t) ∷ ws) id e = let q : Past t ≡ Nothing = work_same e in (cc, cc)
stops_nothing w ((other, Fix) ∷ ws) id e = let q : Fix ≡ Nothing = work_same e in (cc, cc)

pub stops_none : (w : Works) (ws : List (ServiceId × FenceWork)) → first_of ws ≡ None → (stopped w ws ≡ w) × (stopped_at ws ≡ next.Over)
stops_none w [] e = (refl, refl)
stops_none w (x ∷ ws) e = (cc, cc)

pub ruleset first_stops = (stops_past, stops_fix, stops_nothing, stops_none)
