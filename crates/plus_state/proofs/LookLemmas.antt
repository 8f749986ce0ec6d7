-- A look at some conditions of a list tells what a look at all of them tells.
use Rattle.std.proofs.Common.{◌≡◌, ℕ, ◌+◌, ◌<◌, ◌≤◌, suc, Bool, false, List, [], ◌∷◌, ◌++◌, length, refl, ap, sym, subst, ◌∙◌, inl, inr, arith}
use Rattle.std.proofs.lemmas.Bool.{cases_eq}
use Rattle.std.proofs.lemmas.Bool.Decides.{nat_tests}
use Rattle.std.proofs.lemmas.List.Elements.{All-head, All-tail}
use Rattle.std.specs.Prelude.{Option, Some, slice_get, if◌then◌else◌}
use Rattle.std.specs.List.{All}
use Rattle.plus_fraction.specs.Fraction.{Fraction}
use Rattle.plus_model.specs.Terms.{Condition, State}
use Rattle.plus_model.specs.Value.{holds}
use Rattle.plus_model.specs.Firing.{numbers_of, is_in}
use Rattle.plus_model.specs.Running.{IsRising}
use Rattle.plus_state.specs.Node.{Node}
use Rattle.plus_state.specs.Asked.{NodeFits, AllFit, FirstUnfit}
use Rattle.plus_state.specs.Tests.{tests_of}
use Rattle.plus_state.specs.Numbers.{AreMembers}
use Rattle.plus_state.specs.Walk.{all_asked}
use Rattle.plus_state.specs.Looked.{asked_at, holds_at, asked_among, held_among}
use Rattle.plus_state.specs.WalkLaws.{LookSuffices, LookFinds}
use Rattle.plus_state.proofs.Testing.{pass_append, pass_left, pass_right, fail_left, fail_right, fail_split}

-- numbers below the start are no members
none_below : (n k : ℕ) (xs : List ℕ) → IsRising n xs → k < n → is_in xs k ≡ false
none_below n k [] r h = refl
none_below n k (x ∷ xs) r h =
    let b = r.0 in
    let rest = none_below (suc x) k xs r.1 (omega arith) in
    let other : k < x = omega arith in
    grind (arith, nat_tests)

-- a number that is not the first is a member where it is a later one
not_first : (k x : ℕ) (xs : List ℕ) → (k ≡ x → ⊥) → is_in (x ∷ xs) k ≡ is_in xs k
not_first k x xs h = grind (arith, nat_tests)

-- Along a list and numbers that rise: each member either has the next of these numbers, or none and is then one of the others.
-- What holds at the end, and is kept by both, holds of the whole.
module _ {A : Type 0} (whole : List A) (Other : A → Type 0) (R : ℕ → List A → List ℕ → Type 0) where
  -- these are the members from number j on
  abbrev IsRest : ℕ → List A → Type 0
  IsRest j xs = (i : ℕ) → slice_get whole (j + i) ≡ slice_get xs i

  -- each of them with none of these numbers is one of the others
  abbrev Others : ℕ → List A → List ℕ → Type 0
  Others j xs ks = (i : ℕ) (a : A) → slice_get xs i ≡ Some a → is_in ks (j + i) ≡ false → Other a

  rest_later : (j : ℕ) (a : A) (xs : List A) → IsRest j (a ∷ xs) → IsRest (suc j) xs
  rest_later j a xs h i = let n : suc j + i ≡ j + suc i = omega arith in ap (slice_get whole) n ∙ h (suc i)

  others_later : (j : ℕ) (a : A) (xs : List A) (ks : List ℕ) → Others j (a ∷ xs) ks → Others (suc j) xs ks
  others_later j a xs ks o i b g n = let m : suc j + i ≡ j + suc i = omega arith in o (suc i) b g (subst (λ k. is_in ks k ≡ false) m n)

  others_behind : (j : ℕ) (a : A) (xs : List A) (ks : List ℕ) → Others j (a ∷ xs) (j ∷ ks) → Others (suc j) xs ks
  others_behind j a xs ks o i b g n =
      let m : suc j + i ≡ j + suc i = omega arith in
      let apart : j + suc i ≡ j → ⊥ = λ q. omega arith in
      o (suc i) b g (not_first (j + suc i) j ks apart ∙ subst (λ k. is_in ks k ≡ false) m n)

  other_here : (j : ℕ) (a : A) (xs : List A) (ks : List ℕ) → Others j (a ∷ xs) ks → is_in ks j ≡ false → Other a
  other_here j a xs ks o n = let m : j ≡ j + 0 = omega arith in o 0 a refl (subst (λ k. is_in ks k ≡ false) m n)

  first_here : (j : ℕ) (a : A) (xs : List A) → IsRest j (a ∷ xs) → slice_get whole j ≡ Some a
  first_here j a xs h = let m : j ≡ j + 0 = omega arith in ap (slice_get whole) m ∙ h 0

  module _
      (none : (j : ℕ) → R j [] [])
      (over : (j : ℕ) (a : A) (xs : List A) (ks : List ℕ) → Other a → R (suc j) xs ks → R j (a ∷ xs) ks)
      (take : (j : ℕ) (a : A) (xs : List A) (ks : List ℕ) → slice_get whole j ≡ Some a → R (suc j) xs ks → R j (a ∷ xs) (j ∷ ks)) where
    along : (xs : List A) (j : ℕ) (ks : List ℕ) → j + length xs ≡ length whole → IsRest j xs → IsRising j ks → All (λ k. k < length whole) ks → Others j xs ks → R j xs ks
    along [] j [] e h r i o = none j
    along [] j (k ∷ ks) e h r i o = let b = r.0 in let l : k < length whole = All-head (λ k. k < length whole) k ks i in absurd (omega arith)
    along (a ∷ xs) j [] e h r i o = over j a xs [] (other_here j a xs [] o refl) (along xs (suc j) [] (omega arith) (rest_later j a xs h) tt i (others_later j a xs [] o))
    along (a ∷ xs) j (k ∷ ks) e h r i o = elim (cases_eq k j) [
      | inl q ↦ subst (λ n. R j (a ∷ xs) (n ∷ ks)) (sym q)
          (take j a xs ks (first_here j a xs h)
          (along xs (suc j) ks (omega arith) (rest_later j a xs h) (subst (λ n. IsRising (suc n) ks) q r.1) (All-tail (λ k. k < length whole) k ks i) (others_behind j a xs ks (subst (λ n. Others j (a ∷ xs) (n ∷ ks)) q o))))
      | inr d ↦ (let b = r.0 in let later : suc j ≤ k = omega arith in
          over j a xs (k ∷ ks) (other_here j a xs (k ∷ ks) o (none_below (suc j) j (k ∷ ks) (later, r.1) (omega arith)))
          (along xs (suc j) (k ∷ ks) (omega arith) (rest_later j a xs h) (later, r.1) i (others_later j a xs (k ∷ ks) o)))
    ]

    pub along_all : (ks : List ℕ) → AreMembers (length whole) ks → ((k : ℕ) (a : A) → slice_get whole k ≡ Some a → is_in ks k ≡ false → Other a) → R 0 whole ks
    along_all ks m o =
        let start : IsRest 0 whole = λ i. (let n : 0 + i ≡ i = omega arith in ap (slice_get whole) n) in
        along whole 0 ks (omega arith) start m.rising m.inside (λ i a g n. (let e : 0 + i ≡ i = omega arith in o i a g (subst (λ k. is_in ks k ≡ false) e n)))

-- ---- what is asked
record Telling (fits : Fraction → Type 0) (cs : List Condition) (s : State) (ns : List Node) : Type 0 where
  pass : AllFit fits ns → AllFit fits (all_asked cs s)
  stop : (m : Node) → FirstUnfit fits ns m → FirstUnfit fits (all_asked cs s) m

module _ (fits : Fraction → Type 0) (s : State) where
  pass_over : (c : Condition) (cs : List Condition) (ns : List Node) → AllFit fits (tests_of c s) → Telling fits cs s ns → Telling fits (c ∷ cs) s ns
  pass_over c cs ns q t = record {
    pass = λ a. pass_append (NodeFits fits) (tests_of c s) (all_asked cs s) q (t.pass a);
    stop = λ m u. fail_right (NodeFits fits) (tests_of c s) (all_asked cs s) m q (t.stop m u);
  }

  take_up : (c : Condition) (cs : List Condition) (ns : List Node) → Telling fits cs s ns → Telling fits (c ∷ cs) s (tests_of c s ++ ns)
  take_up c cs ns t = record {
    pass = λ a. pass_append (NodeFits fits) (tests_of c s) (all_asked cs s) (pass_left (NodeFits fits) (tests_of c s) ns a) (t.pass (pass_right (NodeFits fits) (tests_of c s) ns a));
    stop = λ m u. elim (fail_split (NodeFits fits) (tests_of c s) ns m u) [
      | inl h ↦ fail_left (NodeFits fits) (tests_of c s) (all_asked cs s) m h
      | inr p ↦ fail_right (NodeFits fits) (tests_of c s) (all_asked cs s) m p.0 (t.stop m p.1)
    ];
  }

pub look_suffices : (fits : Fraction → Type 0) → LookSuffices fits
look_suffices fits whole s looked m o =
    let t = along_all whole (λ c. AllFit fits (tests_of c s)) (λ j cs ks. Telling fits cs s (asked_among whole ks s))
    (λ j. record { pass = λ a. a; stop = λ m u. u })
    (λ j c cs ks q t. pass_over fits s c cs (asked_among whole ks s) q t)
    (λ j c cs ks g t. subst (λ (x : Option Condition). Telling fits (c ∷ cs) s (asked_at x s ++ asked_among whole ks s)) (sym g) (take_up fits s c cs (asked_among whole ks s) t))
    looked m o in
    record { pass = t.pass; stop = t.stop }

-- ---- which hold
pub look_finds : LookFinds
look_finds whole s looked m o =
    along_all whole (λ c. holds c s ≡ false) (λ j cs ks. held_among whole ks s ≡ numbers_of (λ c. holds c s) j cs)
    (λ j. refl)
    (λ j c cs ks q t. t ∙ sym (ap (λ (b : Bool). if b then j ∷ numbers_of (λ c. holds c s) (suc j) cs else numbers_of (λ c. holds c s) (suc j) cs) q))
    (λ j c cs ks g t. ap (λ (x : Option Condition). if holds_at x s then j ∷ held_among whole ks s else held_among whole ks s) g
    ∙ ap (λ (ns : List ℕ). if holds c s then j ∷ ns else ns) t)
    looked m o
