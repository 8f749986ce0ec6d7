-- Joint effects that are plain: what is noted write by write is what all of them come to.
use Rattle.std.proofs.Common.{◌≡◌, ℕ, suc, ◌-◌, ◌<◌, Bool, true, false, ◌&&◌, List, [], ◌∷◌, ◌++◌, length, map, set, refl, ap, ap₂, sym, subst, ◌∙◌, arith, append_assoc}
use Rattle.std.proofs.lemmas.List.{append-nil}
use Rattle.std.proofs.lemmas.Bool.{eqb-true}
use Rattle.std.specs.Prelude.{Option, Some, None, Ok, option_map, nat_eq, slice_get, if◌then◌else◌}
use Rattle.plus_fraction.specs.Fraction.{Fraction}
use Rattle.plus_model.specs.Terms.{State, Effect}
use Rattle.plus_model.specs.Value.{fluent_of}
use Rattle.plus_model.specs.Joint.{joint}
use Rattle.plus_state.specs.Asked.{NodeFits, AllFit}
use Rattle.plus_state.specs.Changes.{Changes, patched_list, patched, AreIn, Over, Rises, RisesIn}
use Rattle.plus_state.specs.Due.{Update, Due, puts, updates, DuesFit, due_effect, updated}
use Rattle.plus_state.specs.Steps.{AllPass, effect_steps, joint_steps, updated_nodes}
use Rattle.plus_state.specs.declared.due.Due as due
use Rattle.plus_state.specs.Stops.{due_of, as_list}
use Rattle.plus_state.specs.Fits.{AllEffectsFit}
use Rattle.plus_state.specs.Writes.{on, From, Ordered, Sorts, sets, puts_as, clashes, clash_after, value_at, after, walk}
use Rattle.plus_state.specs.Noted.{Notes, NotesDue, IsOneAtMost}
use Rattle.plus_state.proofs.Testing.{pass_none, pass_append}
use Rattle.plus_state.proofs.SortLemmas.{on_cases, on_here, on_other, on_below}
use Rattle.plus_state.proofs.AddLemmas.{Adding, adding_start, adding_next, adding_end, due_effect_fits}
use Rattle.plus_state.proofs.ApplyLemmas.{ends}
use Rattle.plus_state.proofs.OpenLemmas.{in_append, in_left, in_right, rises_append, patched_append, patched_out, value_get}
use Rattle.plus_state.proofs.ChangesLemmas.{both_puts, atoms_in, atoms_same, ends_pass, ends_state}

same_some : {X : Type 0} (x y : X) → Some x ≡ Some y → x ≡ y
same_some x y e = cc

-- all numbers are below one that is above the last
module _ {X A : Type 0} (view : X → ℕ × A) (k : ℕ) where
  pub under_last : (c : X) (xs : List X) → Rises (map view xs) → Some c ≡ slice_get xs (length xs - 1) → (view c).0 < k → AreIn k (map view xs)
  under_last c [] r e l = tt
  under_last c (x ∷ []) r e l = (subst (λ (y : X). (view y).0 < k) (same_some c x e) l, tt)
  under_last c (x ∷ y ∷ xs) r e l =
      let i : length (x ∷ y ∷ xs) - 1 ≡ suc (length (y ∷ xs) - 1) = omega arith in
      let rest = under_last c (y ∷ xs) r.1 (subst (λ (n : ℕ). Some c ≡ slice_get (x ∷ y ∷ xs) n) i e) l in
      (omega (arith, r.0.0, rest.0), rest)

-- all writes on atoms, in the order added
abbrev pub all_puts : List Due → List (ℕ × Bool)
all_puts [] = []
all_puts (puts a b ∷ ds) = (a, b) ∷ all_puts ds
all_puts (updates f u ∷ ds) = all_puts ds

all_puts-append : (ds es : List Due) → all_puts (ds ++ es) ≡ all_puts ds ++ all_puts es
all_puts-append [] es = refl
all_puts-append (puts a b ∷ ds) es = ap (λ ps. (a, b) ∷ ps) (all_puts-append ds es)
all_puts-append (updates f u ∷ ds) es = all_puts-append ds es

sets-append : (ds es : List Due) → sets (ds ++ es) ≡ sets ds ++ sets es
sets-append [] es = refl
sets-append (puts a b ∷ ds) es = sets-append ds es
sets-append (updates f u ∷ ds) es = ap (λ ps. (f, u) ∷ ps) (sets-append ds es)

from_over : {A : Type 0} (k : ℕ) (xs : List (ℕ × A)) → Over k xs → From k xs
from_over k [] h = tt
from_over k (x ∷ xs) h = (omega (arith, h.0), from_over k xs h.1)

rises_ordered : {A : Type 0} (xs : List (ℕ × A)) → Rises xs → Ordered xs
rises_ordered [] h = tt
rises_ordered (x ∷ xs) h = (from_over x.0 xs h.0, rises_ordered xs h.1)

-- where numbers rise the writes on atoms are sorted
over_puts : (present : Bool) (k : ℕ) (ds : List Due) → Over k (all_puts ds) → Over k (puts_as present ds)
over_puts present k [] h = tt
over_puts true k (puts a true ∷ ds) h = (h.0, over_puts true k ds h.1)
over_puts true k (puts a false ∷ ds) h = over_puts true k ds h.1
over_puts false k (puts a true ∷ ds) h = over_puts false k ds h.1
over_puts false k (puts a false ∷ ds) h = (h.0, over_puts false k ds h.1)
over_puts true k (updates f u ∷ ds) h = over_puts true k ds h
over_puts false k (updates f u ∷ ds) h = over_puts false k ds h

on_append : {A : Type 0} (k : ℕ) (xs ys : List (ℕ × A)) → on k (xs ++ ys) ≡ on k xs ++ on k ys
on_append k [] ys = refl
on_append k (x ∷ xs) ys =
    on_cases (λ l. on k (x ∷ xs ++ ys) ≡ l ++ on k ys) k x xs
    (λ e. on_here k x (xs ++ ys) e ∙ ap (λ l. x.1 ∷ l) (on_append k xs ys))
    (λ n. on_other k x (xs ++ ys) n ∙ on_append k xs ys)

puts_on : (k : ℕ) (ds : List Due) → Rises (all_puts ds) → on k (all_puts ds) ≡ on k (puts_as false ds) ++ on k (puts_as true ds)
puts_on k [] r = refl
puts_on k (puts a true ∷ ds) r =
    on_cases (λ l. on k ((a, true) ∷ all_puts ds) ≡ on k (puts_as false ds) ++ l) k (a, true) (puts_as true ds)
    (λ e.
    let none = on_below a (all_puts ds) r.0 in
    let f = on_below a (puts_as false ds) (over_puts false a ds r.0) in
    let t = on_below a (puts_as true ds) (over_puts true a ds r.0) in
    on_here k (a, true) (all_puts ds) e
    ∙ subst (λ (n : ℕ). true ∷ on n (all_puts ds) ≡ on n (puts_as false ds) ++ true ∷ on n (puts_as true ds)) (sym e)
    (ap (λ l. true ∷ l) none ∙ sym (ap₂ (λ x y. x ++ true ∷ y) f t)))
    (λ n. on_other k (a, true) (all_puts ds) n ∙ puts_on k ds r.1)
puts_on k (puts a false ∷ ds) r =
    on_cases (λ l. on k ((a, false) ∷ all_puts ds) ≡ l ++ on k (puts_as true ds)) k (a, false) (puts_as false ds)
    (λ e. on_here k (a, false) (all_puts ds) e ∙ ap (λ l. false ∷ l) (puts_on k ds r.1))
    (λ n. on_other k (a, false) (all_puts ds) n ∙ puts_on k ds r.1)
puts_on k (updates f u ∷ ds) r = puts_on k ds r

puts_sorted : (ds : List Due) → Rises (all_puts ds) → Sorts (both_puts ds) (all_puts ds)
puts_sorted ds r = record {
  order = rises_ordered (all_puts ds) r;
  same = λ k. puts_on k ds r ∙ sym (on_append k (puts_as false ds) (puts_as true ds));
}

-- where numbers rise no two writes clash
abbrev Above : {A : Type 0} → Option (ℕ × A) → List (ℕ × A) → Type 0
Above None xs = Unit {0}
Above (Some c) xs = Over c.0 xs

apart : (m n : ℕ) (b c : Bool) → nat_eq m n ≡ b → m < n → b && c ≡ false
apart m n true c e l = let k : m ≡ n = eqb-true m n e in absurd (omega (arith, k, l))
apart m n false c e l = refl

does_not_clash : (o : Option (ℕ × Update)) (q : ℕ × Update) (qs : List (ℕ × Update)) → Above o (q ∷ qs) → clashes o q ≡ false
does_not_clash None q qs h = refl
does_not_clash (Some p) q qs h = apart p.0 q.0 _ _ refl h.0

no_clash : (o : Option (ℕ × Update)) (qs : List (ℕ × Update)) → Above o qs → Rises qs → clash_after o qs ≡ None
no_clash o [] h r = refl
no_clash o (q ∷ qs) h r =
    ap (λ (b : Bool). if b then Some q.0 else clash_after (Some q) qs) (does_not_clash o q qs h) ∙ no_clash (Some q) qs r.0 r.1

-- one write on a fluent behind others
after_append : (ps qs : List (ℕ × Update)) (vs : List (Option Fraction)) → after (ps ++ qs) vs ≡ after qs (after ps vs)
after_append [] qs vs = refl
after_append (p ∷ ps) qs vs = after_append ps qs _

walk_append : (ps qs : List (ℕ × Update)) (vs : List (Option Fraction)) → walk (ps ++ qs) vs ≡ walk ps vs ++ walk qs (after ps vs)
walk_append [] qs vs = refl
walk_append (p ∷ ps) qs vs =
    ap (λ ns. updated_nodes p.1.op p.1.amount (value_at vs p.0) ++ ns) (walk_append ps qs _)
    ∙ sym (append_assoc (updated_nodes p.1.op p.1.amount (value_at vs p.0)) (walk ps _) (walk qs _))

-- what is noted of writes that are due
pub record Noted (fits : Fraction → Type 0) (ds : List Due) (s : State) (c : Changes) : Type 0 where
  pub atoms : c.atoms ≡ all_puts ds
  pub atoms_rise : Rises c.atoms
  pub fluents_rise : Rises c.fluents
  pub sets_rise : Rises (sets ds)
  pub under : (k : ℕ) → AreIn k c.fluents → AreIn k (sets ds)
  pub inside : AreIn (length s.fluents) c.fluents
  pub fit : AllFit fits (walk (sets ds) s.fluents)
  pub values : patched_list c.fluents s.fluents ≡ after (sets ds) s.fluents

pub noted_none : (fits : Fraction → Type 0) (s : State) (c : Changes) → c ≡ record { atoms = []; fluents = [] } → Noted fits [] s c
noted_none fits s c e = subst (λ (x : Changes). Noted fits [] s x) (sym e) (record {
  atoms = refl;
  atoms_rise = tt;
  fluents_rise = tt;
  sets_rise = tt;
  under = λ k h. tt;
  inside = tt;
  fit = pass_none (NodeFits fits);
  values = refl;
})

module _ (fits : Fraction → Type 0) (ds : List Due) (s : State) (c c' : Changes) (h : Noted fits ds s c) where
  noted_put : (a : ℕ) (b : Bool) → Notes fits (puts a b) s c c' → Noted fits (ds ++ puts a b ∷ []) s c'
  noted_put a b n =
      let same : sets (ds ++ puts a b ∷ []) ≡ sets ds = sets-append ds (puts a b ∷ []) ∙ append-nil (sets ds) in
      record {
        atoms = n.1.is ∙ ap (λ ps. ps ++ (a, b) ∷ []) h.atoms ∙ sym (all_puts-append ds (puts a b ∷ []));
        atoms_rise = subst Rises (sym n.1.is) (rises_append c.atoms (a, b) h.atoms_rise (n.1.above h.atoms_rise));
        fluents_rise = subst Rises (sym n.0) h.fluents_rise;
        sets_rise = subst Rises (sym same) h.sets_rise;
        under = λ k i. subst (AreIn k) (sym same) (h.under k (subst (AreIn k) n.0 i));
        inside = subst (AreIn (length s.fluents)) (sym n.0) h.inside;
        fit = subst (λ ps. AllFit fits (walk ps s.fluents)) (sym same) h.fit;
        values = ap (λ cs. patched_list cs s.fluents) n.0 ∙ h.values ∙ ap (λ ps. after ps s.fluents) (sym same);
      }

  -- the value of a fluent that no change is one of
  still : (f : ℕ) → AreIn f c.fluents → value_at (after (sets ds) s.fluents) f ≡ fluent_of s f
  still f i = ap (λ vs. value_at vs f) (sym h.values) ∙ value_get (patched_list c.fluents s.fluents) f ∙ patched_out f c.fluents s.fluents None i ∙ sym (value_get s.fluents f)

  noted_set : (f : ℕ) (u : Update) → f < length s.fluents → Notes fits (updates f u) s c c' → Noted fits (ds ++ updates f u ∷ []) s c'
  noted_set f u l n =
      let more = n.2 in
      let above : AreIn f c.fluents = more.above h.fluents_rise in
      let v = value_at (after (sets ds) s.fluents) f in
      let at : v ≡ fluent_of s f = still f above in
      let w = updated u.op u.amount (fluent_of s f) in
      let all : sets (ds ++ updates f u ∷ []) ≡ sets ds ++ (f, u) ∷ [] = sets-append ds (updates f u ∷ []) in
      record {
        atoms = n.0 ∙ h.atoms ∙ sym (append-nil (all_puts ds)) ∙ sym (all_puts-append ds (updates f u ∷ []));
        atoms_rise = subst Rises (sym n.0) h.atoms_rise;
        fluents_rise = subst Rises (sym more.is) (rises_append c.fluents (f, w) h.fluents_rise above);
        sets_rise = subst Rises (sym all) (rises_append (sets ds) (f, u) h.sets_rise (h.under f above));
        under = λ k i.
            let j = subst (AreIn k) more.is i in
            subst (AreIn k) (sym all) (in_append k (sets ds) ((f, u) ∷ []) (h.under k (in_left k c.fluents ((f, w) ∷ []) j)) ((in_right k c.fluents ((f, w) ∷ []) j).0, tt));
        inside = subst (AreIn (length s.fluents)) (sym more.is) (in_append _ c.fluents ((f, w) ∷ []) h.inside (l, tt));
        fit = subst (λ ps. AllFit fits (walk ps s.fluents)) (sym all) (subst (AllFit fits) (sym (walk_append (sets ds) ((f, u) ∷ []) s.fluents))
            (pass_append (NodeFits fits) _ _ h.fit (pass_append (NodeFits fits) _ _ (subst (λ (x : Option Fraction). AllFit fits (updated_nodes u.op u.amount x)) (sym at) n.1) (pass_none (NodeFits fits)))));
        values = ap (λ cs. patched_list cs s.fluents) more.is ∙ patched_append c.fluents ((f, w) ∷ []) s.fluents
            ∙ ap₂ (λ vs (x : Option Fraction). set vs f (updated u.op u.amount x)) h.values (sym at)
            ∙ sym (after_append (sets ds) ((f, u) ∷ []) s.fluents) ∙ ap (λ ps. after ps s.fluents) (sym all);
      }

  pub noted_next : (es : List Due) → DuesFit (length s.atoms) (length s.fluents) es → IsOneAtMost es → NotesDue fits es s c c' → Noted fits (ds ++ es) s c'
  noted_next [] l o n = subst (λ (x : Changes). Noted fits (ds ++ []) s x) (sym n) (subst (λ xs. Noted fits xs s c) (sym (append-nil ds)) h)
  noted_next (puts a b ∷ []) l o n = noted_put a b n
  noted_next (updates f u ∷ []) l o n = noted_set f u l.0 n
  noted_next (d ∷ e ∷ es) l o n = absurd o

-- how far effects are noted
pub record Noting (fits : Fraction → Type 0) (rest whole : List Effect) (s : State) (c : Changes) : Type 0 where
  pub due : List Due
  pub adding : Adding fits due rest [] whole s
  pub noted : Noted fits due s c

pub noting_start : (fits : Fraction → Type 0) (es : List Effect) (s : State) (c : Changes) → AllEffectsFit (length s.atoms) (length s.fluents) es → c ≡ record { atoms = []; fluents = [] } → Noting fits es es s c
noting_start fits es s c h e = record { due = []; adding = adding_start fits [] es s h tt; noted = noted_none fits s c e }

pub noting_due : (fits : Fraction → Type 0) (e : Effect) (rest whole : List Effect) (s : State) (c : Changes) (ds : List Due) → Noting fits (e ∷ rest) whole s c → ds ≡ due_effect e s → DuesFit (length s.atoms) (length s.fluents) ds
noting_due fits e rest whole s c ds h k = subst (DuesFit (length s.atoms) (length s.fluents)) (sym k) (due_effect_fits _ _ e s h.adding.effects.0.1)

one_at_most : {Q : Type 0} (v : Q → Fraction) (o : Option (due.Due Q)) → IsOneAtMost (as_list (option_map (due_of v) o))
one_at_most v None = tt
one_at_most v (Some d) = tt

pub noting_next : {Q : Type 0} (v : Q → Fraction) (fits : Fraction → Type 0) (e : Effect) (rest whole : List Effect) (s : State) (c c' : Changes) (o : Option (due.Due Q)) → Noting fits (e ∷ rest) whole s c → AllPass fits (effect_steps e s) → as_list (option_map (due_of v) o) ≡ due_effect e s → NotesDue fits (as_list (option_map (due_of v) o)) s c c' → Noting fits rest whole s c'
noting_next v fits e rest whole s c c' o h a k n = record {
  due = h.due ++ as_list (option_map (due_of v) o);
  adding = adding_next fits h.due e rest [] whole s _ _ h.adding a k refl;
  noted = noted_next fits h.due s c c' h.noted _ (noting_due fits e rest whole s c _ h k) (one_at_most v o) n;
}

module _ (fits : Fraction → Type 0) (es : List Effect) (s : State) (c : Changes) (h : Noting fits [] es s c) where
  abbrev all : List Due
  all = h.due

  sorted : Sorts (sets all) (sets all)
  sorted = record { order = rises_ordered (sets all) h.noted.sets_rise; same = λ k. refl }

  atoms_sorted : Sorts (both_puts all) c.atoms
  atoms_sorted = subst (Sorts (both_puts all)) (sym h.noted.atoms) (puts_sorted all (subst Rises h.noted.atoms h.noted.atoms_rise))

  pub noting_rises : RisesIn s c
  noting_rises = record {
    atoms = h.noted.atoms_rise;
    fluents = h.noted.fluents_rise;
    within = record { atoms_in = atoms_in all c.atoms c.atoms atoms_sorted (λ n i. i) _ _ h.adding.due; fluents_in = h.noted.inside };
  }

  pub noting_end : {Q : Type 0} (v : Q → Fraction) → AllPass fits (joint_steps es s) × (joint es s ≡ Ok (patched s c))
  noting_end v =
      let a = adding_end fits all [] es s h.adding in
      let none = sym (no_clash None (sets all) tt h.noted.sets_rise) in
      ends v fits es s all (patched s c) a.0 a.1
      (ends_pass all (sets all) s fits sorted h.adding.due none h.noted.fit)
      (ends_state all (sets all) s fits sorted h.adding.due c (atoms_same all c.atoms c.atoms atoms_sorted (λ bs. refl) s.atoms) h.noted.values)
