-- Readers that are gathered, key by key; and numbers in order.
use Rattle.std.proofs.Common.{◌≡◌, ◌⊎◌, ℕ, zero, suc, ◌+◌, ◌<◌, ◌≤◌, true, List, [], ◌∷◌, ◌++◌, length, get_or, map, take, refl, ap, sym, subst, ◌∙◌, inl, inr, arith}
use Rattle.std.specs.Prelude.{All}
use Rattle.std.specs.Prelude.{nat_eq, ◌↔◌}
use Rattle.std.specs.Cmp.{IsEquivalence}
use Rattle.plus_fraction.specs.Fraction.{Fraction}
use Rattle.plus_state.specs.ChangesView.{atom_changes, fluent_changes}
use Rattle.plus_state.specs.declared.changes.AtomChange.{AtomChange}
use Rattle.plus_state.specs.declared.changes.FluentChange.{FluentChange}
use Rattle.std.proofs.lemmas.List.{take_more, take_all, map-append}
use Rattle.std.specs.List.{Contains, dedup}
use Rattle.std.specs.List.Sorted.{IsStrictlyIncreasing, IsPermutation}
use Rattle.std.proofs.Math.Dec.{eqb}
use Rattle.std.proofs.lemmas.Bool.{eqb-true}
use Rattle.std.proofs.lemmas.Bool.Decides.{nat_tests}
use Rattle.std.proofs.lemmas.List.Kept.{Contains-dedup_nat, Contains-from_dedup}
use Rattle.std.proofs.lemmas.List.Sorted.{Contains-permutation, IsPermutation-sym}
use Rattle.std.proofs.lemmas.Map.Views.{Contains-from_any, list_any-from_Contains}
use Rattle.plus_model.specs.Firing.{is_in}
use Rattle.plus_model.specs.Running.{IsRising}
use Rattle.plus_model.proofs.Members.{in_first, in_later, in_cases}
use Rattle.plus_state.specs.Changes.{Changes}
use Rattle.plus_state.specs.Numbers.{AreMembers}
use Rattle.plus_reads.specs.Tables.{readers_at, AreBelow, ReadAny, Wakes, atoms_changed, fluents_changed}
use Rattle.plus_reads.specs.declared.readers.Readers.{Readers}
use Rattle.plus_reads.proofs.Sets.{in_left, in_right, in_either}

-- numbers that rise one by one
pub rising_from : (n : ℕ) (xs : List ℕ) → (0 < length xs → n ≤ get_or xs 0 0) → IsStrictlyIncreasing xs → IsRising n xs
rising_from n [] h r = tt
rising_from n (x ∷ xs) h r =
    (h (omega arith), rising_from (suc x) xs (λ l. (let b = r 0 (omega arith) in omega arith)) (λ k l. (let e : suc k + 1 ≡ suc (k + 1) = omega arith in subst (λ m. get_or xs k 0 < get_or (x ∷ xs) m 0) e (r (suc k) (omega arith)))))

-- each member of a list is in it
in_at : (xs : List ℕ) (i d : ℕ) → i < length xs → is_in xs (get_or xs i d) ≡ true
in_at [] i d h = absurd (omega arith)
in_at (x ∷ xs) zero d h = in_first x xs
in_at (x ∷ xs) (suc i) d h = in_later (get_or xs i d) x xs (in_at xs i d (omega arith))

at_in : (P : ℕ → Type 0) (xs : List ℕ) (k : ℕ) → All P xs → is_in xs k ≡ true → P k
at_in P [] k a h = cc
at_in P (x ∷ xs) k a h = elim (in_cases k x xs h) [
  | inl e ↦ subst P (sym e) (a 0 x (omega arith))
  | inr i ↦ at_in P xs k (λ j d l. a (suc j) d (omega arith)) i
]

-- the readers of these keys are gathered, beside what was there before
pub record Gathers (table : List (List ℕ)) (keys before now : List ℕ) : Type 0 where
  pub kept : (k : ℕ) → is_in before k ≡ true → is_in now k ≡ true
  pub listed : (a k : ℕ) → is_in keys a ≡ true → is_in (readers_at table a) k ≡ true → is_in now k ≡ true
  pub only : (k : ℕ) → is_in now k ≡ true → (is_in before k ≡ true) ⊎ ((a : ℕ) × is_in (readers_at table a) k ≡ true)

pub gathers_none : (table : List (List ℕ)) (before : List ℕ) → Gathers table [] before before
gathers_none table before = record { kept = λ k h. h; listed = λ a k h. cc; only = λ k h. inl h }

module _ (table : List (List ℕ)) (keys before now new : List ℕ) (key : ℕ) (g : Gathers table keys before now) (e : new ≡ now ++ readers_at table key) where
  there : (k : ℕ) → is_in (now ++ readers_at table key) k ≡ true → is_in new k ≡ true
  there k h = subst (λ xs. is_in xs k ≡ true) (sym e) h

  of_key : (a k : ℕ) → is_in (key ∷ []) a ≡ true → is_in (readers_at table a) k ≡ true → is_in new k ≡ true
  of_key a k i h = elim (in_cases a key [] i) [
    | inl q ↦ there k (in_right now (readers_at table key) k (subst (λ n. is_in (readers_at table n) k ≡ true) q h))
    | inr n ↦ cc
  ]

  listed : (a k : ℕ) → is_in (keys ++ key ∷ []) a ≡ true → is_in (readers_at table a) k ≡ true → is_in new k ≡ true
  listed a k i h = elim (in_either keys (key ∷ []) a i) [
    | inl l ↦ there k (in_left now (readers_at table key) k (g.listed a k l h))
    | inr r ↦ of_key a k r h
  ]

  only : (k : ℕ) → is_in new k ≡ true → (is_in before k ≡ true) ⊎ ((a : ℕ) × is_in (readers_at table a) k ≡ true)
  only k h = elim (in_either now (readers_at table key) k (subst (λ xs. is_in xs k ≡ true) e h)) [ inl l ↦ g.only k l | inr r ↦ inr (key, r) ]

  pub gathers_next : Gathers table (keys ++ key ∷ []) before new
  gathers_next = record { kept = λ k h. there k (in_left now (readers_at table key) k (g.kept k h)); listed = listed; only = only }

-- all are gathered, and put in order
module _ (t : Readers) (c : Changes) (before mid all after : List ℕ) (p : Gathers t.atoms (atoms_changed c) before mid) (q : Gathers t.fluents (fluents_changed c) mid all)
    (in_all : (k : ℕ) → is_in all k ≡ true → is_in after k ≡ true) (from_all : (k : ℕ) → is_in after k ≡ true → is_in all k ≡ true) where
  pub wakes : Wakes t c before after
  wakes = record {
    kept = λ k h. in_all k (q.kept k (p.kept k h));
    by_atoms = λ a k i h. in_all k (q.kept k (p.listed a k i h));
    by_fluents = λ f k i h. in_all k (q.listed f k i h);
  }

  module _ (n : ℕ) (b : AreBelow n t) (inside : All (λ k. k < n) before) (r : IsRising 0 after) where
    below : (k : ℕ) → is_in after k ≡ true → k < n
    below k h = elim (q.only k (from_all k h)) [
      | inl l ↦ elim (p.only k l) [ inl i ↦ at_in (λ k. k < n) before k inside i | inr w ↦ b.by_atoms w.0 k w.1 ]
      | inr w ↦ b.by_fluents w.0 k w.1
    ]

    pub members : AreMembers n after
    members = record { inside = λ i d l. below (get_or after i d) (in_at after i d l); rising = r }

pub rising_all : (xs : List ℕ) → IsStrictlyIncreasing xs → IsRising 0 xs
rising_all xs r = rising_from 0 xs (λ h. omega arith) r

-- a sort and a `dedup` keep the members
same_true : (x : ℕ) → nat_eq x x ≡ true
same_true x = grind (arith, nat_tests)

same_symm : (x y : ℕ) → nat_eq x y ≡ nat_eq y x
same_symm x y = grind (arith, nat_tests)

same_congr : (x y z : ℕ) → nat_eq x y ≡ true → nat_eq x z ≡ nat_eq y z
same_congr x y z e = ap (λ n. nat_eq n z) (eqb-true x y e)

nat_equals : IsEquivalence nat_eq
nat_equals = record {
  refl = λ x. same_true x;
  symm = λ x y. same_symm x y;
  congr = λ x y z e. same_congr x y z e;
}

pub same_members : (xs ys zs : List ℕ) (k : ℕ) → IsPermutation xs ys → zs ≡ dedup eqb ys → is_in zs k ≡ true ↔ is_in xs k ≡ true
same_members xs ys zs k p e = (
  λ h. list_any-from_Contains nat_equals k xs (Contains-permutation _ _ k (IsPermutation-sym _ _ p) (Contains-from_dedup _ _ k (subst (λ (us : List ℕ). Contains us k) e (Contains-from_any (λ x y. eqb-true x y) k zs h)))),
  λ h. list_any-from_Contains nat_equals k zs (subst (λ (us : List ℕ). Contains us k) (sym e) (Contains-dedup_nat _ k (Contains-permutation _ _ k p (Contains-from_any (λ x y. eqb-true x y) k xs h)))),
)

-- the next of these items
pub gathers_at : {A : Type 0} (f : A → ℕ) (table : List (List ℕ)) (items : List A) (i : ℕ) (d : A) (before now new : List ℕ) → i < length items → Gathers table (map f (take i items)) before now → new ≡ now ++ readers_at table (f (get_or items i d)) → Gathers table (map f (take (i + 1) items)) before new
gathers_at f table items i d before now new h g k =
    subst (λ ks. Gathers table ks before new) (sym (ap (map f) (take_more items i d h) ∙ map-append f (take i items) (get_or items i d ∷ [])))
    (gathers_next table (map f (take i items)) before now new (f (get_or items i d)) g k)

pub gathers_more : {A : Type 0} (f : A → ℕ) (table : List (List ℕ)) (items : List A) (i : ℕ) (x : A) (before now new : List ℕ) → i < length items → x ≡ get_or items i x → Gathers table (map f (take i items)) before now → new ≡ now ++ readers_at table (f x) → Gathers table (map f (take (i + 1) items)) before new
gathers_more f table items i x before now new h e g k =
    gathers_at f table items i x before now new h g (k ∙ ap (λ y. now ++ readers_at table (f y)) e)

pub gathers_all : {A : Type 0} (f : A → ℕ) (table : List (List ℕ)) (items : List A) (i : ℕ) (keys before now : List ℕ) → length items ≤ i → map f items ≡ keys → Gathers table (map f (take i items)) before now → Gathers table keys before now
gathers_all f table items i keys before now h e g = subst (λ ks. Gathers table ks before now) (ap (map f) (take_all i items h) ∙ e) g

pub atoms_named : (cs : List AtomChange) → map (λ (a : AtomChange). a.atom.0) cs ≡ map (λ p. p.0) (atom_changes cs)
atoms_named [] = refl
atoms_named (c ∷ cs) = ap (λ ks. c.atom.0 ∷ ks) (atoms_named cs)

pub fluents_named : {Q : Type 0} (v : Q → Fraction) (cs : List (FluentChange Q)) → map (λ (a : FluentChange Q). a.fluent.0) cs ≡ map (λ p. p.0) (fluent_changes v cs)
fluents_named v [] = refl
fluents_named v (c ∷ cs) = ap (λ ks. c.fluent.0 ∷ ks) (fluents_named v cs)

-- the readers of fluents, put in order
pub reads_any : (t : Readers) (fluents all after : List ℕ) → Gathers t.fluents fluents [] all → ((k : ℕ) → is_in all k ≡ true → is_in after k ≡ true) → ((k : ℕ) → is_in after k ≡ true → is_in all k ≡ true) → IsRising 0 after → ReadAny t fluents after
reads_any t fluents all after g in_all from_all r = record {
  all = λ f k i h. in_all k (g.listed f k i h);
  members = λ n b. record { inside = λ i d l. below n b (get_or after i d) (in_at after i d l); rising = r };
}
  where
    below : (n : ℕ) → AreBelow n t → (k : ℕ) → is_in after k ≡ true → k < n
    below n b k h = elim (g.only k (from_all k h)) [ inl l ↦ cc | inr w ↦ b.by_fluents w.0 k w.1 ]
