-- The conditions of the translation on a padded state: that no event holds, that one does, and that none repeats.
use Rattle.std.proofs.Common.{◌≡◌, ℕ, zero, suc, ◌<◌, ◌+◌, Bool, true, false, not, ◌&&◌, ◌||◌, List, [], ◌∷◌, ◌++◌, length, refl, ap, ap₂, sym, ◌∙◌, arith}
use Rattle.std.proofs.lemmas.List.Elements.{All-head, All-tail}
use Rattle.std.specs.Prelude.{Option, Some, None, slice_get, unwrap_or, find, if◌then◌else◌}
use Rattle.std.specs.List.{All}
use Rattle.plus_fraction.specs.Fraction.{Fraction}
use Rattle.plus_model.specs.Terms.{Condition, Always, Never, Both, Either, Atom, Compare, Event, State}
use Rattle.plus_model.specs.Value.{holds, value, atom_of, stand}
use Rattle.plus_model.specs.Firing.{numbers_of, is_in}
use Rattle.plus_state.specs.Fits.{StateFits}
use Rattle.plus_steps.specs.Laws.{EventInside}
use Rattle.plus_steps.specs.Translation.{negated, none_hold, some_hold, fresh_from}
use Rattle.plus_steps.proofs.Pads.{marks_from}
use Rattle.plus_steps.proofs.Inside.{longer, holds_same, get_right}

pub not_and : (x y : Bool) → not x || not y ≡ not (x && y)
not_and true y = refl
not_and false y = refl

not_or : (x y : Bool) → not x && not y ≡ not (x || y)
not_or true y = refl
not_or false y = refl

not_not : (x : Bool) → x ≡ not (not x)
not_not true = refl
not_not false = refl

pub holds_negated : (c : Condition) (s : State) → holds (negated c) s ≡ not (holds c s)
holds_negated Always s = refl
holds_negated Never s = refl
holds_negated (Both c d) s = ap₂ (λ x y. x || y) (holds_negated c s) (holds_negated d s) ∙ not_and (holds c s) (holds d s)
holds_negated (Either c d) s = ap₂ (λ x y. x && y) (holds_negated c s) (holds_negated d s) ∙ not_or (holds c s) (holds d s)
holds_negated (Atom a true) s = refl
holds_negated (Atom a false) s = not_not (atom_of s a)
holds_negated (Compare test l r true) s = refl
holds_negated (Compare test l r false) s = not_not (stand test (value l s) (value r s))

-- the numbers of the events that hold
abbrev pub firing_from : State → ℕ → List Event → List ℕ
firing_from s k es = numbers_of (λ e. holds e.condition s) k es

abbrev pub is_empty : List ℕ → Bool
is_empty [] = true
is_empty (x ∷ xs) = false

abbrev pub is_missing : Option ℕ → Bool
is_missing None = true
is_missing (Some x) = false

pub empty_is : (xs : List ℕ) → is_empty xs ≡ true → xs ≡ []
empty_is [] h = refl
empty_is (x ∷ xs) h = cc

pub missing_is : (o : Option ℕ) → is_missing o ≡ true → o ≡ None
missing_is None h = refl
missing_is (Some x) h = cc

module _ (s : State) where
  pub none_is : (k : ℕ) (es : List Event) → holds (none_hold es) s ≡ is_empty (firing_from s k es)
  none_is k [] = refl
  none_is k (e ∷ es) = ap₂ (λ x y. x && y) (holds_negated e.condition s) (none_is (suc k) es) ∙ by (holds e.condition s) (firing_from s (suc k) es)
    where
      by : (b : Bool) (xs : List ℕ) → not b && is_empty xs ≡ is_empty (if b then k ∷ xs else xs)
      by true xs = refl
      by false xs = refl

  pub some_is : (k : ℕ) (es : List Event) → holds (some_hold es) s ≡ not (is_empty (firing_from s k es))
  some_is k [] = refl
  some_is k (e ∷ es) = ap (λ y. holds e.condition s || y) (some_is (suc k) es) ∙ by (holds e.condition s) (firing_from s (suc k) es)
    where
      by : (b : Bool) (xs : List ℕ) → b || not (is_empty xs) ≡ not (is_empty (if b then k ∷ xs else xs))
      by true xs = refl
      by false xs = refl

  pub fresh_is : (fired : List ℕ) (a k : ℕ) (es : List Event) → ((j : ℕ) → j < length es → atom_of s (a + j) ≡ is_in fired (k + j)) → holds (fresh_from a es) s ≡ is_missing (find (is_in fired) (firing_from s k es))
  fresh_is fired a k [] h = refl
  fresh_is fired a k (e ∷ es) h =
      let a0 : a + 0 ≡ a = omega arith in
      let k0 : k + 0 ≡ k = omega arith in
      let here : atom_of s a ≡ is_in fired k = ap (atom_of s) (sym a0) ∙ h 0 (omega arith) ∙ ap (is_in fired) k0 in
      ap₂ (λ x y. x && y) (ap₂ (λ (x y : Bool). x || not y) (holds_negated e.condition s) here)
      (fresh_is fired (suc a) (suc k) es (λ j l.
      let aj : suc a + j ≡ a + suc j = omega arith in
      let kj : k + suc j ≡ suc k + j = omega arith in
      ap (atom_of s) aj ∙ h (suc j) (omega arith) ∙ ap (is_in fired) kj))
      ∙ by (holds e.condition s) (firing_from s (suc k) es) (is_in fired k) refl
    where
      by : (b : Bool) (xs : List ℕ) (c : Bool) → c ≡ is_in fired k → (not b || not c) && is_missing (find (is_in fired) xs) ≡ is_missing (find (is_in fired) (if b then k ∷ xs else xs))
      by false xs c p = refl
      by true xs true p = ap (λ (d : Bool). is_missing (if d then Some k else find (is_in fired) xs)) p
      by true xs false p = ap (λ (d : Bool). is_missing (if d then Some k else find (is_in fired) xs)) p

-- ---- on a padded state the same events hold
module _ (n m : ℕ) (s : State) (bs : List Bool) (vs : List (Option Fraction)) (z : StateFits n m s) where
  pub firing_same : (k : ℕ) (es : List Event) → All (EventInside n m) es → firing_from (longer s bs vs) k es ≡ firing_from s k es
  firing_same k [] h = refl
  firing_same k (e ∷ es) h =
      let here = All-head (EventInside n m) e es h in
      ap₂ (λ (b : Bool) xs. if b then k ∷ xs else xs) (holds_same n m s bs vs z e.condition here.condition) (firing_same (suc k) es (All-tail (EventInside n m) e es h))

get_mark : (fired : List ℕ) (k : ℕ) (es : List Event) (j : ℕ) → j < length es → slice_get (marks_from fired k es) j ≡ Some (is_in fired (k + j))
get_mark fired k [] j h = absurd (omega arith)
get_mark fired k (e ∷ es) zero h = let e : k ≡ k + 0 = omega arith in ap (λ (i : ℕ). Some (is_in fired i)) e
get_mark fired k (e ∷ es) (suc j) h = let e : suc k + j ≡ k + suc j = omega arith in get_mark fired (suc k) es j (omega arith) ∙ ap (λ (i : ℕ). Some (is_in fired i)) e

-- the mark of an event
pub mark_is : (n m : ℕ) (s : State) (fired : List ℕ) (es : List Event) (vs : List (Option Fraction)) → StateFits n m s → (j : ℕ) → j < length es → atom_of (longer s (marks_from fired 0 es) vs) (n + j) ≡ is_in fired (0 + j)
mark_is n m s fired es vs z j h =
    ap (λ o. unwrap_or o false) (ap (λ (i : ℕ). slice_get (s.atoms ++ marks_from fired 0 es) (i + j)) (sym z.atoms_fit) ∙ get_right s.atoms (marks_from fired 0 es) j ∙ get_mark fired 0 es j h)
