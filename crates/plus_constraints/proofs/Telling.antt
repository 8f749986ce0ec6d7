-- What the first place at which a condition has the truth that is sought tells of a constraint.
use Rattle.std.proofs.Common.{◌≡◌, true, false, Bool, List, refl, sym, subst, inl, inr}
use Rattle.std.specs.Prelude.{Option, Some, None}
use Rattle.plus_fraction.specs.Fraction.{Fraction, ◌<ℚ◌, ◌≤ℚ◌}
use Rattle.plus_fraction.proofs.FractionOrder.{<ℚ_trans, <ℚ_or}
use Rattle.plus_fraction.proofs.FractionAtMost.{le_by_not, le_not_above}
use Rattle.plus_model.specs.Terms.{Problem}
use Rattle.plus_model.specs.Value.{holds}
use Rattle.plus_model.specs.History.{Part}
use Rattle.plus_constraints.specs.Visits.{Visits}
use Rattle.plus_constraints.specs.Constraint.{When, Always, Sometime, Within, HoldAfter, Constraint, IsRegarded, is_lasting, IsSeen, IsSometime, IsMetBy}
use Rattle.plus_constraints.specs.Found.{IsBetween, IsSeenAfter, Fails, IsFound}
use Rattle.plus_constraints.specs.Place.{Place, At, After, told_by, told}
use Rattle.plus_constraints.proofs.OneFound.{differ, later_regarded}
use Rattle.plus_constraints.proofs.Scanned.{Seen, Before, FirstAfter, Finds, Scanned}

-- the states of a history that a constraint regards
abbrev pub Regards : Problem → List Part → When → Seen
Regards P h w t s = Visits P h t s × IsRegarded w t

-- a moment before two others and after a first one is before the lesser of them
lesser : (P : Problem) (h : List Part) (a m n : Fraction) → a <ℚ m → a <ℚ n → ((x : Fraction) → a <ℚ x → IsBetween P h a x) → (b : IsBetween P h a m) × (b.time <ℚ n)
lesser P h a m n l k soon = elim (<ℚ_or m n) [
  | inl i ↦ (let b = soon m l in (b, <ℚ_trans b.time m n b.earlier i))
  | inr o ↦ elim o [
    | inl e ↦ (let b = soon m l in (b, subst (λ (z : Fraction). b.time <ℚ z) e b.earlier))
    | inr i ↦ (let b = soon n k in (record { time = b.time; state = b.state; visited = b.visited; later = b.later; earlier = <ℚ_trans b.time n m b.earlier i }, b.earlier))
  ]
]

module _ (P : Problem) (h : List Part) (c : Constraint) (lasts : is_lasting c.when ≡ true) where
  -- nothing fails before all that holds
  least : (u : Fraction) → Before c.condition true (Regards P h c.when) u → (other : Fraction) → Fails P h c other → u ≤ℚ other
  least u before other f = le_by_not u other (λ l. elim f [
    | inl s ↦ differ (holds c.condition s.state) (before other s.state (s.visited, s.regarded) l) s.is
    | inr s ↦ (let b = lesser P h other s.until u s.above l s.soon in
        differ (holds c.condition b.0.state)
        (before b.0.time b.0.state (b.0.visited, later_regarded c.when other b.0.time lasts s.regarded b.0.later) b.1)
        (s.inside b.0.time b.0.state b.0.visited b.0.later b.0.earlier))
  ])

  at_last : (first last u : Fraction) → FirstAfter c.condition true first last (Regards P h c.when) u → IsRegarded c.when u
  at_last first last u f = go c.when lasts (λ m l. let x = f.soon m l in (x.time, x.earlier, x.seen.1))
    where
      go : (w : When) → is_lasting w ≡ true → ((m : Fraction) → u <ℚ m → (t : Fraction) × (t <ℚ m) × IsRegarded w t) → IsRegarded w u
      go Always e f = tt
      go Sometime e f = cc
      go (Within t) e f = cc
      go (HoldAfter t) e f = le_by_not t u (λ l. let x = f t l in le_not_above t x.0 x.2 x.1)

  seen_after : (first last u : Fraction) → FirstAfter c.condition true first last (Regards P h c.when) u → IsSeenAfter P h c false u
  seen_after first last u f =
      let r = at_last first last u f in
      record {
        regarded = r;
        until = f.until;
        above = f.above;
        inside = λ t s v l m. f.inside t s (v, later_regarded c.when u t lasts r l) l m;
        soon = λ m l. let x = f.soon m l in record { time = x.time; state = x.state; visited = x.seen.0; later = x.later; earlier = x.earlier };
      }

  pub lasting : (first last : Fraction) (o : Option Place) → Finds c.condition true first last (Regards P h c.when) o → IsFound P h c (told_by true o)
  lasting first last None f = subst (λ (b : Bool). IsMetBy b P h c) (sym lasts) (λ t s v r. f t s (v, r))
  lasting first last (Some (At u)) f =
      let s : IsSeen P h c false u = record { state = f.state; visited = f.seen.0; regarded = f.seen.1; is = f.is } in
      (lasts, record { fails = inl s; least = least u f.before }, s)
  lasting first last (Some (After u)) f =
      (lasts, record { fails = inr (seen_after first last u f); least = least u f.before }, λ s. differ (holds c.condition s.state) (f.at s.state (s.visited, s.regarded)) s.is)

module _ (P : Problem) (h : List Part) (c : Constraint) (ends : is_lasting c.when ≡ false) where
  met : IsSometime P h c true → IsMetBy (is_lasting c.when) P h c
  met s = subst (λ (b : Bool). IsMetBy b P h c) (sym ends) s

  pub passing : (first last : Fraction) (o : Option Place) → Finds c.condition false first last (Regards P h c.when) o → IsFound P h c (told_by false o)
  passing first last None f = (ends, λ m. let s = subst (λ (b : Bool). IsMetBy b P h c) ends m in differ (holds c.condition s.seen.state) s.seen.is (f s.time s.seen.state (s.seen.visited, s.seen.regarded)))
  passing first last (Some (At u)) f = met (record { time = u; seen = record { state = f.state; visited = f.seen.0; regarded = f.seen.1; is = f.is } })
  passing first last (Some (After u)) f =
      let x = f.soon f.until f.above in
      met (record { time = x.time; seen = record { state = x.state; visited = x.seen.0; regarded = x.seen.1; is = f.inside x.time x.state x.seen x.later x.earlier } })

pub found : (P : Problem) (h : List Part) (c : Constraint) (first last : Fraction) (o : Option Place) → Scanned c.condition (is_lasting c.when) first last (Regards P h c.when) o → IsFound P h c (told c.when o)
unfolding told
found P h c first last o a = go (is_lasting c.when) refl a.finds
  where
    go : (b : Bool) → is_lasting c.when ≡ b → Finds c.condition b first last (Regards P h c.when) o → IsFound P h c (told_by b o)
    go true e f = lasting P h c e first last o f
    go false e f = passing P h c e first last o f
