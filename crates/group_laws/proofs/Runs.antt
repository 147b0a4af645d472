-- Whole runs of a group: what was chosen, and what was applied.
use Rattle.std.proofs.Common.{◌≡◌, ℕ, zero, suc, ◌+◌, ◌-◌, ◌<◌, ◌≤◌, ◌⊎◌, inl, inr, List, [], ◌∷◌, length, get_or, take, Option, Some, None, arith, refl, sym, ap, ◌∙◌, subst}
use Rattle.std.specs.Prelude.{slice_get, replicate}
use Rattle.std.proofs.lemmas.Grind.{common_steps}
use Rattle.std.proofs.lemmas.List.{length-replicate}
use Rattle.group_tables.specs.declared.messages.Ballot.{Ballot}
use Rattle.group_tables.specs.declared.messages.Slot.{Slot}
use Rattle.group_tables.specs.declared.messages.Body.{Body}
use Rattle.group_tables.specs.declared.messages.Body.TheVariants.{Vow, Put, Kept}
use Rattle.group_tables.specs.declared.steps.GroupStep.{GroupStep}
use Rattle.group_tables.specs.declared.steps.GroupRefusal.{GroupRefusal}
use Rattle.group_tables.specs.Groups.{Group, Member, Sent, member_at, new_member, opening_group}
use Rattle.group_tables.specs.Steps.{happens, group_refusal, unless_refused, run_from}
use Rattle.group_laws.specs.Said.{Says, IsSaid, Voted, by_keeping, by_leading}
use Rattle.group_laws.specs.Sound.{IsLog, IsInRole, IsLedBy, IsVoted, IsStuck, HasApplied, IsSound}
use Rattle.group_laws.specs.Chosen.{IsSize, HeldAfter, IsChosen, HasInSlot, HasAppliedFirst, OneIsChosen, ToldAreChosen, AppliedAreTold, StepsKeepGroupsSound, GroupsBeginSound}
use Rattle.group_laws.proofs.Ballots.{Compared, is_below, is_same, is_above, compare, not_both}
use Rattle.group_laws.proofs.Lists.{some_is, none_is_not}
use Rattle.group_laws.proofs.Majorities.{majority_of_more, majorities_share}
use Rattle.group_laws.proofs.Bodies.{entry_of}
use Rattle.group_laws.proofs.After.{Goes, HoldsUnder}
use Rattle.group_laws.proofs.Applying.{one_is_picked, not_stuck, applied_told}
use Rattle.group_laws.proofs.Arriving.{step_goes}

-- at first nothing was said
nobody_says : (q : ℕ) (y : Body) → Says [] q y → ⊥
nobody_says q y s = let l = s.there in absurd (omega (arith, l))

nobody_voted : (q : ℕ) (b : Ballot) (n : ℕ) → Voted [] q b n → ⊥
nobody_voted q b n (by_keeping s) = nobody_says q (Kept b n) s
nobody_voted q b n (by_leading i e s) = nobody_says s.by (Put b n i) s.says

new_at : (n k : ℕ) → get_or (replicate n new_member) k new_member ≡ new_member
new_at n k = grind (arith, common_steps)

pub opening_sound : (members requests : ℕ) → IsSize members → IsSound (opening_group members requests)
opening_sound members requests size =
    record {
      size = subst (λ (n : ℕ). (n ≡ 3) ⊎ (n ≡ 5)) (sym (length-replicate members new_member)) size;
      net = record {
        routed = λ k l. absurd (omega (arith, l));
        begun = λ y s. absurd (nobody_says s.by y s.says);
        one = λ b n i j s t. absurd (nobody_says s.by _ s.says);
        kept = λ b n s. absurd (nobody_says s.by _ s.says);
        promised = λ b n i s. absurd (nobody_says s.by _ s.says);
        learn = λ b n s. absurd (nobody_says s.by _ s.says);
      };
      log = λ m a b. subst (λ (x : Member). IsLog [] m x.promised x.slots) (sym (new_at members (m - 1)))
          record {
            below = λ k s e. absurd (none_is_not e);
            put = λ k s e. absurd (none_is_not e);
            voted = λ k s e. absurd (none_is_not e);
            stays = λ c n v. absurd (nobody_voted m c n v);
            vow = λ c told s. absurd (nobody_says m (Vow c told) s);
          };
      role = λ m a b. subst (λ (x : Member). IsInRole [] m x.promised x.slots x.role) (sym (new_at members (m - 1))) tt;
      led = λ m a b. subst (λ (x : Member). IsLedBy (opening_group members requests) m x.role) (sym (new_at members (m - 1))) tt;
      safe = λ b c n i j s t l. absurd (nobody_says s.by _ s.says);
      told = λ k i e. absurd (none_is_not e);
      applied = λ m k a b l. absurd (nothing m (new_at members (m - 1)) k l);
    }
  where
    nothing : (m : ℕ) → get_or (replicate members new_member) (m - 1) new_member ≡ new_member → (k : ℕ) → k < (get_or (replicate members new_member) (m - 1) new_member).applied → ⊥
    nothing m e k l = let z : k < 0 = subst (λ (x : Member). k < x.applied) e l in absurd (omega (arith, z))

-- the group after the steps up to the first one that is refused
onward : Option GroupRefusal → Group → Group → Group
onward None now after = after
onward (Some cause) now after = now

reached : Group → List GroupStep → Group
reached g [] = g
reached g (s ∷ steps) = onward (group_refusal g s) g (reached (happens g s) steps)

-- what is said and voted stays
pub record Leads (g h : Group) : Type 0 where
  pub sound : IsSound h
  pub count : length h.members ≡ length g.members
  pub keeps : (q : ℕ) (y : Body) → Says g.sent q y → Says h.sent q y

then_leads : (g h k : Group) → Goes g h → Leads h k → Leads g k
then_leads g h k a b = record { sound = b.sound; count = b.count ∙ a.count; keeps = λ q y s. b.keeps q y (a.keeps q y s) }

reached_leads : (steps : List GroupStep) (g : Group) → IsSound g → Leads g (reached g steps)
unfolding reached onward
reached_leads [] g sound = record { sound = sound; count = refl; keeps = λ q y s. s }
reached_leads (s ∷ steps) g sound = by_refusal (group_refusal g s) refl (λ now. reached_leads steps (happens g s) now)
  where
    by_refusal : (o : Option GroupRefusal) → group_refusal g s ≡ o → (IsSound (happens g s) → Leads (happens g s) (reached (happens g s) steps)) → Leads g (onward o g (reached (happens g s) steps))
    by_refusal None e ih = let goes = step_goes g s e sound in then_leads g (happens g s) _ goes (ih goes.sound)
    by_refusal (Some cause) e ih = record { sound = sound; count = refl; keeps = λ q y t. t }

run_reaches : (steps : List GroupStep) (g h : Group) → run_from g steps ≡ Some h → reached g steps ≡ h
unfolding reached onward run_from
run_reaches [] g h e = some_is e
run_reaches (s ∷ steps) g h e = by_refusal (group_refusal g s) e (λ f. run_reaches steps (happens g s) h f)
  where
    by_refusal : (o : Option GroupRefusal) → unless_refused o (run_from (happens g s) steps) ≡ Some h → (run_from (happens g s) steps ≡ Some h → reached (happens g s) steps ≡ h) → onward o g (reached (happens g s) steps) ≡ h
    by_refusal None f ih = ih f
    by_refusal (Some cause) f ih = absurd (none_is_not f)

-- from the group after so many steps on
front_leads : (k : ℕ) (steps : List GroupStep) (g h : Group) → IsSound g → run_from g (take k steps) ≡ Some h → IsSound h × Leads h (reached g steps)
unfolding reached onward run_from
front_leads zero steps g h sound e = subst (λ (x : Group). IsSound x × Leads x (reached g steps)) (some_is e) (sound, reached_leads steps g sound)
front_leads (suc k) [] g h sound e = subst (λ (x : Group). IsSound x × Leads x (reached g [])) (some_is e) (sound, reached_leads [] g sound)
front_leads (suc k) (s ∷ steps) g h sound e = by_refusal (group_refusal g s) refl e (λ now f. front_leads k steps (happens g s) h now f)
  where
    by_refusal : (o : Option GroupRefusal) → group_refusal g s ≡ o → unless_refused o (run_from (happens g s) (take k steps)) ≡ Some h
        → (IsSound (happens g s) → run_from (happens g s) (take k steps) ≡ Some h → IsSound h × Leads h (reached (happens g s) steps)) → IsSound h × Leads h (onward o g (reached (happens g s) steps))
    by_refusal None r f ih = ih (step_goes g s r sound).sound f
    by_refusal (Some cause) r f ih = absurd (none_is_not f)

-- who voted held it after some step
record Once (g : Group) (steps : List GroupStep) (q : ℕ) (b : Ballot) (n : ℕ) : Type 0 where
  made : ℕ
  group : Group
  runs : run_from g (take made steps) ≡ Some group
  held : HoldsUnder (member_at group q).slots n b

votes_held : (steps : List GroupStep) (g : Group) (q : ℕ) (b : Ballot) (n : ℕ) → IsSound g → 1 ≤ q → Voted (reached g steps).sent q b n → Voted g.sent q b n ⊎ Once g steps q b n
unfolding reached onward run_from
votes_held [] g q b n sound least v = inl v
votes_held (s ∷ steps) g q b n sound least v = by_refusal (group_refusal g s) refl v (λ now w. votes_held steps (happens g s) q b n now least w)
  where
    now_held : group_refusal g s ≡ None → Voted g.sent q b n ⊎ HoldsUnder (member_at (happens g s) q).slots n b → Voted g.sent q b n ⊎ Once g (s ∷ steps) q b n
    now_held r (inl w) = inl w
    now_held r (inr k) =
        inr record { made = 1; group = happens g s; runs = ap (λ (o : Option GroupRefusal). unless_refused o (Some (happens g s))) r; held = k }

    later : group_refusal g s ≡ None → Voted (happens g s).sent q b n ⊎ Once (happens g s) steps q b n → Voted g.sent q b n ⊎ Once g (s ∷ steps) q b n
    later r (inl w) = now_held r ((step_goes g s r sound).votes q b n least w)
    later r (inr o) =
        inr record { made = suc o.made; group = o.group; runs = ap (λ (c : Option GroupRefusal). unless_refused c (run_from (happens g s) (take o.made steps))) r ∙ o.runs; held = o.held }

    by_refusal : (o : Option GroupRefusal) → group_refusal g s ≡ o → Voted (onward o g (reached (happens g s) steps)).sent q b n
        → (IsSound (happens g s) → Voted (reached (happens g s) steps).sent q b n → Voted (happens g s).sent q b n ⊎ Once (happens g s) steps q b n) → Voted g.sent q b n ⊎ Once g (s ∷ steps) q b n
    by_refusal None r w ih = later r (ih (step_goes g s r sound).sound w)
    by_refusal (Some cause) r w ih = inl w

-- what was held was put and voted for
module _ (members requests : ℕ) (steps : List GroupStep) (size : IsSize members) where
  counted : length (opening_group members requests).members ≡ members
  counted = length-replicate members new_member

  sound_at_first : IsSound (opening_group members requests)
  sound_at_first = opening_sound members requests size

  record Seen (q n : ℕ) (s : Slot) : Type 0 where
    put : IsSaid (reached (opening_group members requests) steps).sent (Put s.ballot ((n - 1) + 1) s.request)
    voted : Voted (reached (opening_group members requests) steps).sent q s.ballot ((n - 1) + 1)

  held_seen : (q n : ℕ) (s : Slot) → 1 ≤ q → q ≤ members → HeldAfter members requests steps q n s → Seen q n s
  held_seen q n s a b h =
      let t = front_leads h.made steps (opening_group members requests) h.group sound_at_first h.runs in
      let e = t.1.count in
      let f = (reached_leads steps (opening_group members requests) sound_at_first).count in
      let c = counted in
      let log = t.0.log q a (omega (arith, b, e, f, c)) in
      record {
        put = let p = log.put (n - 1) s h.holds in record { by = p.by; says = t.1.keeps p.by _ p.says };
        voted = voted_on t.1.keeps (log.voted (n - 1) s h.holds);
      }
    where
      voted_on : {old new : List Sent} {p : ℕ} {c : Ballot} {j : ℕ} → ((r : ℕ) (y : Body) → Says old r y → Says new r y) → Voted old p c j → Voted new p c j
      voted_on k (by_keeping s) = by_keeping (k _ _ s)
      voted_on k (by_leading i e s) = by_leading i e record { by = s.by; says = k _ _ s.says }

  -- what is chosen was put, and a majority voted for it
  record Settled (n i : ℕ) : Type 0 where
    ballot : Ballot
    put : IsSaid (reached (opening_group members requests) steps).sent (Put ballot ((n - 1) + 1) i)
    voted : IsVoted (reached (opening_group members requests) steps) ballot ((n - 1) + 1)

  chosen_settled : (n i : ℕ) → IsChosen members requests steps n i → Settled n i
  chosen_settled n i c =
      let seen = majority_of_more members members (λ (q : ℕ). HeldAfter members requests steps q n record { ballot = c.ballot; request = i }) (λ (q : ℕ). Seen q n record { ballot = c.ballot; request = i }) refl
      (λ q a b h. held_seen q n record { ballot = c.ballot; request = i } a b h) c.held in
      let one = majorities_share members (λ (q : ℕ). Seen q n record { ballot = c.ballot; request = i }) (λ (q : ℕ). Seen q n record { ballot = c.ballot; request = i }) seen seen in
      record {
        ballot = c.ballot;
        put = one.first.put;
        voted = majority_of_more members (length (reached (opening_group members requests) steps).members) (λ (q : ℕ). Seen q n record { ballot = c.ballot; request = i })
            (λ (q : ℕ). Voted (reached (opening_group members requests) steps).sent q c.ballot ((n - 1) + 1))
            ((reached_leads steps (opening_group members requests) sound_at_first).count ∙ counted) (λ q a b s. s.voted) seen;
      }

  chosen_once : (n i j : ℕ) → IsChosen members requests steps n i → IsChosen members requests steps n j → i ≡ j
  chosen_once n i j c d =
      let a = chosen_settled n i c in
      let b = chosen_settled n j d in
      one_is_picked (reached (opening_group members requests) steps) (reached_leads steps (opening_group members requests) sound_at_first).sound a.ballot b.ballot ((n - 1) + 1) i j a.put a.voted b.put b.voted

  -- what is told is chosen
  told_chosen : (k i : ℕ) → slice_get (reached (opening_group members requests) steps).told k ≡ Some i → IsChosen members requests steps (k + 1) i
  told_chosen k i e =
      let leads = reached_leads steps (opening_group members requests) sound_at_first in
      let p = leads.sound.told k i e in
      record {
        ballot = p.ballot;
        held = majority_of_more (length (reached (opening_group members requests) steps).members) members (λ (q : ℕ). Voted (reached (opening_group members requests) steps).sent q p.ballot (k + 1))
            (λ (q : ℕ). HeldAfter members requests steps q (k + 1) record { ballot = p.ballot; request = i }) (sym (leads.count ∙ counted))
            (λ q a b v. held q a (omega (arith, b, leads.count, counted)) p.ballot p.put (votes_held steps (opening_group members requests) q p.ballot (k + 1) sound_at_first a v)) p.voted;
      }
    where
      held : (q : ℕ) → 1 ≤ q → q ≤ members → (b : Ballot) → IsSaid (reached (opening_group members requests) steps).sent (Put b (k + 1) i) → Voted [] q b (k + 1) ⊎ Once (opening_group members requests) steps q b (k + 1)
          → HeldAfter members requests steps q (k + 1) record { ballot = b; request = i }
      held q a c b put (inl v) = absurd (nobody_voted q b (k + 1) v)
      held q a c b put (inr o) =
          let t = front_leads o.made steps (opening_group members requests) o.group sound_at_first o.runs in
          let log = t.0.log q a (let e = t.1.count in let f = (reached_leads steps (opening_group members requests) sound_at_first).count in let d = counted in omega (arith, c, e, f, d)) in
          let said = log.put ((k + 1) - 1) o.held.slot o.held.there in
          let back : ((k + 1) - 1) + 1 ≡ k + 1 = omega arith in
          let there : IsSaid (reached (opening_group members requests) steps).sent (Put b (k + 1) o.held.slot.request) =
          subst (λ (d : Ballot). IsSaid (reached (opening_group members requests) steps).sent (Put d (k + 1) o.held.slot.request)) o.held.is
          (subst (λ (n : ℕ). IsSaid (reached (opening_group members requests) steps).sent (Put o.held.slot.ballot n o.held.slot.request)) back record { by = said.by; says = t.1.keeps said.by _ said.says }) in
          let same = (reached_leads steps (opening_group members requests) sound_at_first).sound.net.one b (k + 1) o.held.slot.request i there put in
          record {
            made = o.made;
            group = o.group;
            runs = o.runs;
            holds = o.held.there ∙ ap (λ (s : Slot). Some s) (ap (λ (d : Ballot). entry_of d o.held.slot.request) o.held.is ∙ ap (λ (r : ℕ). entry_of b r) same);
          }

-- what a member has applied
applied_in : (g : Group) (m : ℕ) → IsSound g → 1 ≤ m → m ≤ length g.members → HasAppliedFirst g m
applied_in g m sound a b = record { count = applied_told g sound m a b; each = λ k l. in_slot k (sound.applied m k a b l) }
  where
    in_slot : (k : ℕ) → HasApplied g (member_at g m).slots k → HasInSlot g (member_at g m).slots k
    in_slot k h =
        record {
          slot = h.held.slot;
          there = subst (λ (n : ℕ). slice_get (member_at g m).slots n ≡ Some h.held.slot) back h.held.there;
          told = h.told ∙ ap (λ (r : ℕ). Some r) (same_request (compare h.picked.ballot h.held.slot.ballot));
        }
      where
        back : (k + 1) - 1 ≡ k
        back = omega arith

        put : IsSaid g.sent (Put h.held.slot.ballot (k + 1) h.held.slot.request)
        put = (sound.log m a b).put k h.held.slot (subst (λ (n : ℕ). slice_get (member_at g m).slots n ≡ Some h.held.slot) back h.held.there)

        lower : (h.request ≡ h.held.slot.request) ⊎ IsStuck g h.picked.ballot (k + 1) → h.request ≡ h.held.slot.request
        lower (inl e) = e
        lower (inr s) = absurd (not_stuck g sound h.picked.ballot (k + 1) h.picked.voted s)

        same_request : Compared h.picked.ballot h.held.slot.ballot → h.request ≡ h.held.slot.request
        same_request (is_below l) = lower (sound.safe h.held.slot.ballot h.picked.ballot (k + 1) h.held.slot.request h.request put h.picked.put l)
        same_request (is_same e) = sound.net.one h.held.slot.ballot (k + 1) h.request h.held.slot.request (subst (λ (c : Ballot). IsSaid g.sent (Put c (k + 1) h.request)) e h.picked.put) put
        same_request (is_above l) = absurd (not_both l h.held.least)

pub one_is_chosen : OneIsChosen
one_is_chosen members requests steps n i j size c d = chosen_once members requests steps size n i j c d

pub told_are_chosen : ToldAreChosen
told_are_chosen members requests steps g k i size run e =
    told_chosen members requests steps size k i (subst (λ (x : Group). slice_get x.told k ≡ Some i) (sym (run_reaches steps (opening_group members requests) g run)) e)

pub applied_are_told : AppliedAreTold
applied_are_told members requests steps g m size run a b =
    let is = run_reaches steps (opening_group members requests) g run in
    let leads = reached_leads steps (opening_group members requests) (opening_sound members requests size) in
    let count = leads.count in
    let first = length-replicate members new_member in
    let same : length g.members ≡ length (reached (opening_group members requests) steps).members = ap (λ (x : Group). length x.members) (sym is) in
    applied_in g m (subst (λ (x : Group). IsSound x) is leads.sound) a (omega (arith, b, count, first, same))

pub steps_keep_groups_sound : StepsKeepGroupsSound
steps_keep_groups_sound g s sound e = (step_goes g s e sound).sound

pub groups_begin_sound : GroupsBeginSound
groups_begin_sound members requests size = opening_sound members requests size
