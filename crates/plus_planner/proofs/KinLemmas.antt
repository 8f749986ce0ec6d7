-- The timelines of one search stay those of one search.
use Rattle.std.proofs.Common.{◌≡◌, inl, inr, ℕ, zero, suc, ◌+◌, ◌<◌, ◌≤◌, List, [], ◌∷◌, ◌++◌, length, take, drop, arith, refl, ap, sym, subst, ◌∙◌}
use Rattle.std.proofs.lemmas.List.{length-append, take-append-le}
use Rattle.std.specs.Prelude.{true, false, pos, Bool, Option, Some, None, Result, Ok, Err, OnOk, IfSome, slice_get, nat_lt, option_to_list, if◌then◌else◌}
use Rattle.std.specs.List.{AllByRecursion}
use Rattle.plus_fraction.specs.Fraction.{Fraction, whole}
use Rattle.plus_model.specs.Terms.{Action, State, Problem}
use Rattle.plus_model.specs.Trajectory.{first_view}
use Rattle.plus_search.specs.declared.spaces.Fate.{Fate}
use Rattle.plus_search.specs.declared.spaces.Fate.TheVariants.{Alive, Broken, Beyond}
use Rattle.plus_reads.specs.Indexing.{Indexes}
use Rattle.plus_reads.specs.declared.index.Index.{Index}
use Rattle.plus_timeline.specs.declared.next.Next.{Next}
use Rattle.plus_timeline.specs.declared.next.Next.TheVariants.{Round, Run, Entry, There}
use Rattle.plus_timeline.specs.Timeline.{TimelineView, begun}
use Rattle.plus_timeline.specs.Act.{DoesAct}
use Rattle.plus_timeline.specs.Advance.{Advances}
use Rattle.plus_timeline.specs.Forked.{forked, CanRefork}
use Rattle.plus_planner.specs.declared.places.Taken.{Taken}
use Rattle.plus_planner.specs.declared.places.Tried.{Tried}
use Rattle.plus_planner.specs.Kin.{IsKin, IsLightened, IsRooted, AreKin, AddsOne, Spares, KeepsKin}
use Rattle.plus_planner.specs.Grid.{Task}
use Rattle.plus_planner.specs.Tried.{Returns}
use Rattle.plus_planner.specs.Worlds.{Stands, Holds}
use Rattle.plus_planner.specs.Places.{now_in, base_in}
use Rattle.plus_planner.specs.Standing.{CanGoOn, CanReach, Carried}
use Rattle.plus_planner.proofs.ForkLemmas.{alike_carried}

-- ---- one timeline

roots_one : (x : State) (o o' : Option State) → IfSome o (λ r. r ≡ x) → IfSome o' (λ r. r ≡ x) → IfSome o (λ r. IfSome o' (λ s. r ≡ s))
roots_one x None o' h g = tt
roots_one x (Some r) None h g = tt
roots_one x (Some r) (Some s) h g = h ∙ sym g

pub kin_refork : (P : Problem) (s t : TimelineView) → IsKin P s → IsKin P t → CanRefork s t
kin_refork P s t h g = record {
  atoms = h.atoms ∙ sym g.atoms;
  fluents = h.fluents ∙ sym g.fluents;
  events = h.events ∙ sym g.events;
  root = roots_one (first_view P).state s.root t.root h.root g.root;
}

pub kin_forked : (P : Problem) (t : TimelineView) → IsKin P t → IsKin P (forked t)
kin_forked P t h = record { atoms = h.atoms; fluents = h.fluents; events = h.events; root = h.root }

pub kin_as : (P : Problem) (old new : TimelineView) → new.atoms ≡ old.atoms → new.fluents ≡ old.fluents → new.event_count ≡ old.event_count → new.root ≡ old.root → IsKin P old → IsKin P new
kin_as P old new a f e r h = record {
  atoms = a ∙ h.atoms;
  fluents = f ∙ h.fluents;
  events = e ∙ h.events;
  root = subst (λ (o : Option State). IfSome o (λ s. s ≡ (first_view P).state)) (sym r) h.root;
}

pub kin_step : {Q : Type 0} (value : Q → Fraction) (P : Problem) (u : Fraction) (old new : TimelineView) (answer : Next Q) → Advances value P u old new answer → IsKin P old → IsKin P new
kin_step value P u old new Round a h = kin_as P old new (ap (λ v. v.atoms) a.is) (ap (λ v. v.fluents) a.is) (ap (λ v. v.event_count) a.is) (ap (λ v. v.root) a.is) h
kin_step value P u old new Run a h = kin_as P old new (ap (λ v. v.atoms) a.is) (ap (λ v. v.fluents) a.is) (ap (λ v. v.event_count) a.is) (ap (λ v. v.root) a.is) h
kin_step value P u old new (Entry t) a h = kin_as P old new (ap (λ v. v.atoms) a.is) (ap (λ v. v.fluents) a.is) (ap (λ v. v.event_count) a.is) (ap (λ v. v.root) a.is) h
kin_step value P u old new There a h = kin_as P old new (ap (λ v. v.atoms) a.is) (ap (λ v. v.fluents) a.is) (ap (λ v. v.event_count) a.is) (ap (λ v. v.root) a.is) h

pub kin_act : (P : Problem) (action : Action) (old new : TimelineView) → DoesAct P action old new → IsKin P old → IsKin P new
kin_act P action old new a h = kin_as P old new (ap (λ v. v.atoms) a.is) (ap (λ v. v.fluents) a.is) (ap (λ v. v.event_count) a.is) (ap (λ v. v.root) a.is) h

pub kin_ended : (P : Problem) (old new : TimelineView) → new ≡ record old { ended = true } → IsKin P old → IsKin P new
kin_ended P old new e h = kin_as P old new (ap (λ v. v.atoms) e) (ap (λ v. v.fluents) e) (ap (λ v. v.event_count) e) (ap (λ v. v.root) e) h

pub kin_light : (P : Problem) (old new : TimelineView) → IsLightened old new → IsKin P old → IsKin P new
kin_light P old new l h = elim l [
  | inl e ↦ subst (IsKin P) (sym e) h
  | inr e ↦ subst (IsKin P) (sym e) record { atoms = h.atoms; fluents = h.fluents; events = h.events; root = tt }
]

can_rooted : (P : Problem) (t : TimelineView) (o : Option State) → CanGoOn P t → CanGoOn P (record t { root = o })
can_rooted P t o c = record {
  knows = record { atoms = c.knows.atoms; fluents = c.knows.fluents; events = c.knows.events; runs = c.knows.runs; still = c.knows.still };
  going = c.going;
  within = c.within;
}

-- the root says nothing of where a timeline stands
carried_rootless : (fits : Fraction → Type 0) (P : Problem) (u : Fraction) (old new : TimelineView) (fate : Fate) → Carried fits P u old new fate → Carried fits P u old (record new { root = None }) fate
carried_rootless fits P u old new Alive c = record {
  can = can_rooted P new None c.can;
  paused = record { there = c.paused.there; fresh = c.paused.fresh };
  moment = c.moment;
  most = c.most;
  reached = λ L acted h b w.
      let x = c.reached L acted h b w in (
        x.0,
        record {
          played = record { prefix = x.1.played.prefix; now = x.1.played.now; entries = x.1.played.entries; beside = tt; clear = x.1.played.clear };
          present = x.1.present;
          over = x.1.over;
          passed = x.1.passed;
          acted_is = x.1.acted_is;
          time_is = x.1.time_is;
        },
      );
}
carried_rootless fits P u old new Broken c = c
carried_rootless fits P u old new Beyond c = c

pub carried_light : (fits : Fraction → Type 0) (P : Problem) (u : Fraction) (old mid new : TimelineView) (fate : Fate) → IsLightened mid new → Carried fits P u old mid fate → Carried fits P u old new fate
carried_light fits P u old mid new fate l c = elim l [
  | inl e ↦ subst (λ t. Carried fits P u old t fate) (sym e) c
  | inr e ↦ subst (λ t. Carried fits P u old t fate) (sym e) (carried_rootless fits P u old mid fate c)
]

-- ---- the root at the beginning

pub rooted_reach : (P : Problem) (u : Fraction) (old new : TimelineView) → IsRooted old new → CanReach P u old → CanReach P u new
rooted_reach P u old new l c = elim l [
  | inl e ↦ subst (CanReach P u) (sym e) c
  | inr e ↦ subst (CanReach P u) (sym e) record { goes = can_rooted P old (Some old.now.state) c.goes; ahead = c.ahead; room = c.room }
]

rooted_carried : (fits : Fraction → Type 0) (P : Problem) (u : Fraction) (old mid new : TimelineView) (fate : Fate) → IsRooted old mid → Carried fits P u mid new fate → Carried fits P u old new fate
rooted_carried fits P u old mid new fate l c = elim l [
  | inl e ↦ subst (λ t. Carried fits P u t new fate) e c
  | inr e ↦ alike_carried fits P u old mid new fate (record { now = ap (λ v. v.now) e; entries = ap (λ v. v.entries) e; most = ap (λ v. v.most) e }) c
]

-- what is carried from there is carried from the beginning
pub first_carried : (fits : Fraction → Type 0) (P : Problem) (most : ℕ) (u : Fraction) (old mid new : TimelineView) (fate : Fate) → u ≡ whole (pos 0) → old ≡ begun P most → IsRooted old mid → Carried fits P u mid new fate → Carried fits P (whole (pos 0)) (begun P most) new fate
first_carried fits P most u old mid new fate e b l c =
    subst (λ (z : Fraction). Carried fits P z (begun P most) new fate) e
    (subst (λ (t : TimelineView). Carried fits P u t new fate) b (rooted_carried fits P u old mid new fate l c))

kin_begun : (P : Problem) (most : ℕ) → IsKin P (begun P most)
kin_begun P most = record { atoms = refl; fluents = refl; events = refl; root = tt }

pub rooted_kin : (P : Problem) (most : ℕ) (old new : TimelineView) → old ≡ begun P most → IsRooted old new → IsKin P new
rooted_kin P most old new b l = elim l [
  | inl e ↦ subst (IsKin P) (sym (e ∙ b)) (kin_begun P most)
  | inr e ↦ subst (IsKin P) (sym (e ∙ ap (λ (v : TimelineView). record v { root = Some v.now.state }) b)) record { atoms = refl; fluents = refl; events = refl; root = refl }
]

pub rooted_moment : (P : Problem) (most : ℕ) (old new : TimelineView) → old ≡ begun P most → IsRooted old new → new.now.running ≡ None
rooted_moment P most old new b l = elim l [
  | inl e ↦ ap (λ (v : TimelineView). v.now.running) (e ∙ b)
  | inr e ↦ ap (λ (v : TimelineView). v.now.running) e ∙ ap (λ (v : TimelineView). v.now.running) b
]

-- ---- lists of them

module _ {A : Type 0} (Is : A → Type 0) where
  pub each_append : (xs ys : List A) → AllByRecursion Is xs → AllByRecursion Is ys → AllByRecursion Is (xs ++ ys)
  each_append [] ys h g = g
  each_append (x ∷ xs) ys h g = (h.0, each_append xs ys h.1 g)

  pub each_left : (xs ys : List A) → AllByRecursion Is (xs ++ ys) → AllByRecursion Is xs
  each_left [] ys h = tt
  each_left (x ∷ xs) ys h = (h.0, each_left xs ys h.1)

  pub each_right : (xs ys : List A) → AllByRecursion Is (xs ++ ys) → AllByRecursion Is ys
  each_right [] ys h = h
  each_right (x ∷ xs) ys h = each_right xs ys h.1

  pub each_take : (n : ℕ) (xs : List A) → AllByRecursion Is xs → AllByRecursion Is (take n xs)
  each_take zero [] h = tt
  each_take zero (x ∷ xs) h = tt
  each_take (suc n) [] h = tt
  each_take (suc n) (x ∷ xs) h = (h.0, each_take n xs h.1)

  pub each_drop : (n : ℕ) (xs : List A) → AllByRecursion Is xs → AllByRecursion Is (drop n xs)
  each_drop zero [] h = tt
  each_drop zero (x ∷ xs) h = h
  each_drop (suc n) [] h = tt
  each_drop (suc n) (x ∷ xs) h = each_drop n xs h.1

  pub each_at : (xs : List A) (i : ℕ) (x : A) → slice_get xs i ≡ Some x → AllByRecursion Is xs → Is x
  each_at [] i x e h = absurd (cc e)
  each_at (y ∷ xs) zero x e h = let f : y ≡ x = cc e in subst Is f h.0
  each_at (y ∷ xs) (suc i) x e h = each_at xs i x e h.1

chosen : (P : Problem) (b : Bool) (s t : TimelineView) → IsKin P s → IsKin P t → IsKin P (if b then s else t)
chosen P true s t h g = h
chosen P false s t h g = g

module _ {Q : Type 0} (P : Problem) where
  pub kin_now : (start : TimelineView) (taken : List (Taken Q)) → IsKin P start → AllByRecursion (λ (x : Taken Q). IsKin P x.timeline) taken → IsKin P (now_in start taken)
  kin_now start [] s h = s
  kin_now start (x ∷ xs) s h = kin_now x.timeline xs h.0 h.1

  pub kin_base : (n : ℕ) (start : TimelineView) (taken : List (Taken Q)) → IsKin P start → AllByRecursion (λ (x : Taken Q). IsKin P x.timeline) taken → IsKin P (base_in n start taken)
  kin_base n start [] s h = s
  kin_base n start (x ∷ xs) s h = kin_base n (if nat_lt x.decision n then x.timeline else start) xs (chosen P (nat_lt x.decision n) x.timeline start h.0 s) h.1

-- ---- the timelines of a place

pub kin_again : {Q : Type 0} (P : Problem) (start start' : TimelineView) (taken taken' : List (Taken Q)) (tried tried' : List (Tried Q)) (spares spares' : List TimelineView) (i : ℕ) → start' ≡ start → spares' ≡ spares → Returns i taken tried taken' tried' → AreKin P start taken tried spares → AreKin P start' taken' tried' spares'
kin_again {Q} P start start' taken taken' tried tried' spares spares' i e f r h = record {
  start_is = subst (IsKin P) (sym e) h.start_is;
  taken_are = subst (AllByRecursion (λ (x : Taken Q). IsKin P x.timeline)) (sym r.taken_is)
      (each_append (λ (x : Taken Q). IsKin P x.timeline) taken (r.tried.taken ∷ []) h.taken_are
      (each_at (λ (x : Tried Q). IsKin P x.taken.timeline) tried i r.tried r.stands h.tried_are, tt));
  tried_are = subst (AllByRecursion (λ (x : Tried Q). IsKin P x.taken.timeline)) (sym r.others)
      (each_append (λ (x : Tried Q). IsKin P x.taken.timeline) (take i tried) (drop (i + 1) tried)
      (each_take (λ (x : Tried Q). IsKin P x.taken.timeline) i tried h.tried_are)
      (each_drop (λ (x : Tried Q). IsKin P x.taken.timeline) (i + 1) tried h.tried_are));
  spares_are = subst (AllByRecursion (IsKin P)) (sym f) h.spares_are;
}

pub kin_back : {Q : Type 0} (P : Problem) (start start' : TimelineView) (taken popped taken' : List (Taken Q)) (x : Taken Q) (tried tried' : List (Tried Q)) (spares spares' : List TimelineView) → taken ≡ popped ++ x ∷ [] → start' ≡ start → taken' ≡ popped → KeepsKin x tried spares tried' spares' → AreKin P start taken tried spares → AreKin P start' taken' tried' spares'
kin_back {Q} P start start' taken popped taken' x tried tried' spares spares' p e f k h =
    let all = subst (AllByRecursion (λ (y : Taken Q). IsKin P y.timeline)) p h.taken_are in
    let one = (each_right (λ (y : Taken Q). IsKin P y.timeline) popped (x ∷ []) all).0 in
    let both = k P one h.tried_are h.spares_are in
    record {
      start_is = subst (IsKin P) (sym e) h.start_is;
      taken_are = subst (AllByRecursion (λ (y : Taken Q). IsKin P y.timeline)) (sym f) (each_left (λ (y : Taken Q). IsKin P y.timeline) popped (x ∷ []) all);
      tried_are = both.0;
      spares_are = both.1;
    }

pub holds_ok : {Q A E : Type 0} (fits : Fraction → Type 0) (task : Task) (start : TimelineView) (taken : List (Taken Q)) (tried : List (Tried Q)) (spares : List TimelineView) (i : Index) (r : Result A E) → OnOk r (Stands fits task start taken tried) → OnOk r (AreKin task.problem start taken tried spares) → OnOk r (Indexes task.problem i) → OnOk r (Holds fits task start taken tried spares i)
holds_ok fits task start taken tried spares i (Err e) s k x = tt
holds_ok fits task start taken tried spares i (Ok a) s k x = record { stands = s; kin = k; indexes = x }

-- a decision was taken, or the timeline spared
pub kin_adds : {Q : Type 0} (P : Problem) (t start start' : TimelineView) (taken taken' : List (Taken Q)) (tried tried' : List (Tried Q)) (spares spares' : List TimelineView) → IsKin P t → start' ≡ start → tried' ≡ tried → AddsOne t taken spares taken' spares' → AreKin P start taken tried spares → AreKin P start' taken' tried' spares'
kin_adds {Q} P t start start' taken taken' tried tried' spares spares' i e f a h =
    let both = a P i h.taken_are h.spares_are in
    record {
      start_is = subst (IsKin P) (sym e) h.start_is;
      taken_are = both.0;
      tried_are = subst (AllByRecursion (λ (x : Tried Q). IsKin P x.taken.timeline)) (sym f) h.tried_are;
      spares_are = both.1;
    }

-- a timeline was spared
pub kin_spares : {Q : Type 0} (P : Problem) (t start : TimelineView) (taken : List (Taken Q)) (tried : List (Tried Q)) (spares spares' : List TimelineView) → IsKin P t → spares' ≡ spares ++ t ∷ [] → AreKin P start taken tried spares → AreKin P start taken tried spares'
kin_spares P t start taken tried spares spares' i e h = record {
  start_is = h.start_is;
  taken_are = h.taken_are;
  tried_are = h.tried_are;
  spares_are = subst (AllByRecursion (IsKin P)) (sym e) (each_append (IsKin P) spares (t ∷ []) h.spares_are (i, tt));
}

-- the last spare one is taken, if there is one
pub kin_pop : {Q : Type 0} (P : Problem) (start : TimelineView) (taken : List (Taken Q)) (tried : List (Tried Q)) (spares left : List TimelineView) (o : Option TimelineView) → spares ≡ left ++ option_to_list o → AreKin P start taken tried spares → AreKin P start taken tried left
kin_pop P start taken tried spares left o e h = record {
  start_is = h.start_is;
  taken_are = h.taken_are;
  tried_are = h.tried_are;
  spares_are = each_left (IsKin P) left (option_to_list o) (subst (AllByRecursion (IsKin P)) e h.spares_are);
}

popped_some : (P : Problem) (o : Option TimelineView) → AllByRecursion (IsKin P) (option_to_list o) → (t : TimelineView) → IsKin P t → IfSome o (λ s. CanRefork s t)
popped_some P None h t k = tt
popped_some P (Some s) h t k = kin_refork P s t h.0 k

pub kin_popped : (P : Problem) (spares left : List TimelineView) (o : Option TimelineView) (t : TimelineView) → spares ≡ left ++ option_to_list o → AllByRecursion (IsKin P) spares → IsKin P t → IfSome o (λ s. CanRefork s t)
kin_popped P spares left o t e h k = popped_some P o (each_right (IsKin P) left (option_to_list o) (subst (AllByRecursion (IsKin P)) e h)) t k

-- ---- what was tried is forgotten

less_left : {A : Type 0} (count : ℕ) (xs ys : List A) (x : A) → count < length xs → xs ≡ ys ++ x ∷ [] → count ≤ length ys
less_left count xs ys x h e = (let n : length xs ≡ length ys + 1 = ap length e ∙ length-append ys (x ∷ []) in omega arith)

pub forget_next : {A : Type 0} (count : ℕ) (all xs ys : List A) (x : A) → count < length xs → xs ≡ ys ++ x ∷ [] → take count xs ≡ take count all → take count ys ≡ take count all
forget_next count all xs ys x h e k = sym (take-append-le count ys (x ∷ []) (less_left count xs ys x h e)) ∙ ap (take count) (sym e) ∙ k

pub forget_kin : {Q : Type 0} (P : Problem) (xs ys : List (Tried Q)) (x : Tried Q) (spares spares' : List TimelineView) → xs ≡ ys ++ x ∷ [] → spares' ≡ spares ++ x.taken.timeline ∷ [] → AllByRecursion (λ (t : Tried Q). IsKin P t.taken.timeline) xs × AllByRecursion (IsKin P) spares → AllByRecursion (λ (t : Tried Q). IsKin P t.taken.timeline) ys × AllByRecursion (IsKin P) spares'
forget_kin {Q} P xs ys x spares spares' e f h =
    let all = subst (AllByRecursion (λ (t : Tried Q). IsKin P t.taken.timeline)) e h.0 in (
      each_left (λ (t : Tried Q). IsKin P t.taken.timeline) ys (x ∷ []) all,
      subst (AllByRecursion (IsKin P)) (sym f) (each_append (IsKin P) spares (x.taken.timeline ∷ []) h.1
          ((each_right (λ (t : Tried Q). IsKin P t.taken.timeline) ys (x ∷ []) all).0, tt)),
    )

-- what is left was tried before, or is what was taken back
pub keep_taken : {Q : Type 0} (n count : ℕ) (x : Taken Q) (tried mid tried' : List (Tried Q)) (spares spares' : List TimelineView) → mid ≡ take count tried → Spares tried spares spares' → tried' ≡ mid ++ record { before = n; taken = x } ∷ [] → KeepsKin x tried spares tried' spares'
keep_taken {Q} n count x tried mid tried' spares spares' e s f P i h k =
    let left = subst (AllByRecursion (λ (t : Tried Q). IsKin P t.taken.timeline)) (sym e) (each_take (λ (t : Tried Q). IsKin P t.taken.timeline) count tried h) in (
      subst (AllByRecursion (λ (t : Tried Q). IsKin P t.taken.timeline)) (sym f)
          (each_append (λ (t : Tried Q). IsKin P t.taken.timeline) mid (record { before = n; taken = x } ∷ []) left (i, tt)),
      s P h k,
    )

pub keep_spared : {Q : Type 0} (count : ℕ) (x : Taken Q) (tried mid : List (Tried Q)) (spares left spares' : List TimelineView) → mid ≡ take count tried → Spares tried spares left → spares' ≡ left ++ x.timeline ∷ [] → KeepsKin x tried spares mid spares'
keep_spared {Q} count x tried mid spares left spares' e s f P i h k = (
  subst (AllByRecursion (λ (t : Tried Q). IsKin P t.taken.timeline)) (sym e) (each_take (λ (t : Tried Q). IsKin P t.taken.timeline) count tried h),
  subst (AllByRecursion (IsKin P)) (sym f) (each_append (IsKin P) left (x.timeline ∷ []) (s P h k) (i, tt)),
)

-- ---- a timeline is taken, or spared
