-- What a timeline keeps from call to call.
use Rattle.std.proofs.Common.{◌≡◌, ℕ, ◌<◌, ◌≤◌, List, [], ◌∷◌, ◌++◌, length, refl, ap, sym, subst, ◌∙◌}
use Rattle.std.proofs.lemmas.List.Elements.{All-nil, All-cons, All-head, All-tail}
use Rattle.std.specs.Prelude.{Bool, Option, Some, None, All, unwrap_or}
use Rattle.plus_fraction.specs.Fraction.{Fraction}
use Rattle.plus_model.specs.Terms.{State}
use Rattle.plus_state.specs.Changes.{Changes, patched}
use Rattle.plus_state.proofs.PatchLemmas.{same_atoms, same_fluents}
use Rattle.plus_cascade.specs.Fired.{IsSetOf}
use Rattle.plus_timeline.specs.declared.next.Next.{Next}
use Rattle.plus_timeline.specs.declared.next.Next.TheVariants.{Round, Run, Entry}
use Rattle.plus_timeline.specs.EntryStates.{EntryView}
use Rattle.plus_timeline.specs.Timeline.{Keeps}

-- three states for the same atoms and fluents
record AreAlike (v : EntryView) (atoms fluents : ℕ) : Type 0 where
  before_atoms : length v.before.atoms ≡ atoms
  before_fluents : length v.before.fluents ≡ fluents
  arrival_atoms : length v.arrival.atoms ≡ atoms
  arrival_fluents : length v.arrival.fluents ≡ fluents

module _ (v : EntryView) (set : List Bool) (fired : List ℕ) (answer : Option (Next Fraction)) (entries most : ℕ) where
  keeps : AreAlike v (length v.state.atoms) (length v.state.fluents) → IsSetOf set fired → All (λ e. e < length set) fired → entries ≤ most → (answer ≡ Some Run → entries < most) → Keeps v.state v.before v.arrival (length v.state.atoms) (length v.state.fluents) set fired answer entries most
  keeps a i b w r = record {
    state_fits = record { atoms_fit = refl; fluents_fit = refl };
    before_fits = record { atoms_fit = a.before_atoms; fluents_fit = a.before_fluents };
    arrival_fits = record { atoms_fit = a.arrival_atoms; fluents_fit = a.arrival_fluents };
    set_is = i;
    inside = b;
    within = w;
    room = r;
  }

  -- at the beginning
  pub keeps_first : (initial : State) (c : Changes) → v ≡ record { state = patched initial c; before = initial; arrival = initial; root = None } → IsSetOf set fired → All (λ e. e < length set) fired → entries ≤ most → (answer ≡ Some Run → entries < most) → Keeps v.state v.before v.arrival (length v.state.atoms) (length v.state.fluents) set fired answer entries most
  keeps_first initial c e i b w r =
      let a : length v.state.atoms ≡ length initial.atoms = ap (λ (x : EntryView). length x.state.atoms) e ∙ same_atoms initial c in
      let f : length v.state.fluents ≡ length initial.fluents = ap (λ (x : EntryView). length x.state.fluents) e ∙ same_fluents initial c in
      keeps (record {
        before_atoms = ap (λ (x : EntryView). length x.before.atoms) e ∙ sym a;
        before_fluents = ap (λ (x : EntryView). length x.before.fluents) e ∙ sym f;
        arrival_atoms = ap (λ (x : EntryView). length x.arrival.atoms) e ∙ sym a;
        arrival_fluents = ap (λ (x : EntryView). length x.arrival.fluents) e ∙ sym f;
      }) i b w r

-- after a step, and in the next entry
module _ (old new : EntryView) (set set' : List Bool) (fired fired' : List ℕ) (answer answer' : Option (Next Fraction)) (entries entries' most : ℕ) (h : Keeps old.state old.before old.arrival (length old.state.atoms) (length old.state.fluents) set fired answer entries most) (i : IsSetOf set' fired') (b : All (λ e. e < length set') fired') (w : entries' ≤ most) (r : answer' ≡ Some Run → entries' < most) where
  pub keeps_step : (c : Changes) → new ≡ record old { state = patched old.state c; before = old.state } → Keeps new.state new.before new.arrival (length new.state.atoms) (length new.state.fluents) set' fired' answer' entries' most
  keeps_step c e =
      let a : length new.state.atoms ≡ length old.state.atoms = ap (λ (x : EntryView). length x.state.atoms) e ∙ same_atoms old.state c in
      let f : length new.state.fluents ≡ length old.state.fluents = ap (λ (x : EntryView). length x.state.fluents) e ∙ same_fluents old.state c in
      keeps new set' fired' answer' entries' most (record {
        before_atoms = ap (λ (x : EntryView). length x.before.atoms) e ∙ sym a;
        before_fluents = ap (λ (x : EntryView). length x.before.fluents) e ∙ sym f;
        arrival_atoms = ap (λ (x : EntryView). length x.arrival.atoms) e ∙ h.arrival_fits.atoms_fit ∙ sym a;
        arrival_fluents = ap (λ (x : EntryView). length x.arrival.fluents) e ∙ h.arrival_fits.fluents_fit ∙ sym f;
      }) i b w r

  pub keeps_entry : (moves literals : Changes) → new ≡ record { state = patched (patched old.state moves) literals; before = old.state; arrival = patched old.state moves; root = old.root } → Keeps new.state new.before new.arrival (length new.state.atoms) (length new.state.fluents) set' fired' answer' entries' most
  keeps_entry moves literals e =
      let s : State = patched old.state moves in
      let a : length new.state.atoms ≡ length s.atoms = ap (λ (x : EntryView). length x.state.atoms) e ∙ same_atoms s literals in
      let f : length new.state.fluents ≡ length s.fluents = ap (λ (x : EntryView). length x.state.fluents) e ∙ same_fluents s literals in
      keeps new set' fired' answer' entries' most (record {
        before_atoms = ap (λ (x : EntryView). length x.before.atoms) e ∙ sym (same_atoms old.state moves) ∙ sym a;
        before_fluents = ap (λ (x : EntryView). length x.before.fluents) e ∙ sym (same_fluents old.state moves) ∙ sym f;
        arrival_atoms = ap (λ (x : EntryView). length x.arrival.atoms) e ∙ sym a;
        arrival_fluents = ap (λ (x : EntryView). length x.arrival.fluents) e ∙ sym f;
      }) i b w r

-- ---- the events that have fired

all_append : (n : ℕ) (xs ys : List ℕ) → All (λ e. e < n) xs → All (λ e. e < n) ys → All (λ e. e < n) (xs ++ ys)
all_append n [] ys a b = b
all_append n (x ∷ xs) ys a b = All-cons (λ e. e < n) x (xs ++ ys) (All-head (λ e. e < n) x xs a) (all_append n xs ys (All-tail (λ e. e < n) x xs a) b)

pub fired_inside : (set new : List Bool) (fired es all : List ℕ) → length new ≡ length set → all ≡ fired ++ es → All (λ e. e < length set) fired → All (λ e. e < length set) es → All (λ e. e < length new) all
fired_inside set new fired es all n e a b =
    subst (λ (xs : List ℕ). All (λ x. x < length new) xs) (sym e) (subst (λ (k : ℕ). All (λ x. x < k) (fired ++ es)) (sym n) (all_append (length set) fired es a b))

pub fired_in_set : (set : List Bool) (all xs : List ℕ) → all ≡ xs → IsSetOf set xs → IsSetOf set all
fired_in_set set all xs e h = subst (IsSetOf set) (sym e) h

pub none_inside : (n : ℕ) (all : List ℕ) → all ≡ [] → All (λ e. e < n) all
none_inside n all e = subst (λ (xs : List ℕ). All (λ x. x < n) xs) (sym e) (All-nil (λ x. x < n))

-- a further answer than `Run`
same_next : (x y : Next Fraction) → Some x ≡ Some y → x ≡ y
same_next x y e = ap (λ (o : Option (Next Fraction)). unwrap_or o x) e

pub no_run : (o : Option (Next Fraction)) (next : Next Fraction) (entries most : ℕ) → o ≡ Some next → (next ≡ Run → ⊥) → o ≡ Some Run → entries < most
no_run o next entries most e n r = absurd (n (same_next next Run (sym e ∙ r)))

pub round_is_none : (n : Next Fraction) → n ≡ Round → n ≡ Run → ⊥
round_is_none n e r = cc

pub entry_is_none : (n : Next Fraction) (t : Fraction) → n ≡ Entry t → n ≡ Run → ⊥
entry_is_none n t e r = cc

pub none_runs : (entries most : ℕ) (o : Option (Next Fraction)) → o ≡ None → o ≡ Some Run → entries < most
none_runs entries most o e r = cc
