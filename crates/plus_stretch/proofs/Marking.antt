-- How far the roots of listed conditions are marked.
use Rattle.std.proofs.Common.{◌≡◌, ◌⊎◌, ℕ, ◌<◌, ◌+◌, zero, suc, List, [], ◌∷◌, ◌++◌, length, map, drop, refl, ap, sym, subst, ◌∙◌, inl, inr, arith}
use Rattle.std.proofs.lemmas.Bool.{cases_lt}
use Rattle.std.proofs.lemmas.List.{append-nil}
use Rattle.std.specs.Prelude.{Some, slice_get}
use Rattle.std.specs.List.{All}
use Rattle.plus_fraction.specs.Fraction.{Fraction}
use Rattle.plus_model.specs.Terms.{Condition, Event, Process, State, Problem}
use Rattle.plus_state.specs.Numbers.{AreMembers}
use Rattle.plus_crossing.specs.Asked as crossing
use Rattle.plus_crossing.specs.Next.{cross_asks}
use Rattle.plus_crossing.specs.Listed.{live_roots}
use Rattle.plus_settle.proofs.StillLemmas.Listed.{PassesOver, Walked, walked_start, walked_here, walked_end, item_at, from_item, mapped, none_left}
use Rattle.plus_stretch.specs.Tests.{Whose, event, process, AllPass}
use Rattle.plus_stretch.specs.Crossings.{Among, roots_in, all_roots}
use Rattle.plus_stretch.specs.StretchTests.{root_tests_in}
use Rattle.plus_stretch.specs.Among.{OthersHaveNoRoot}
use Rattle.plus_stretch.specs.Marked.{roots_of, IsMarked, IsOwner, AreOwners, Marks, AllMarked}
use Rattle.plus_stretch.proofs.Collecting.{Collecting, collecting_start, collecting_next, collecting_end}

-- ---- marks behind others
pub marked_left : (x : Fraction) (w : Whose) (xs ys : List (Fraction × Whose)) → IsMarked x w xs → IsMarked x w (xs ++ ys)
marked_left x w [] ys h = elim h [ ]
marked_left x w (m ∷ xs) ys h = elim h [ inl e ↦ inl e | inr i ↦ inr (marked_left x w xs ys i) ]

pub marked_right : (x : Fraction) (w : Whose) (xs ys : List (Fraction × Whose)) → IsMarked x w ys → IsMarked x w (xs ++ ys)
marked_right x w [] ys h = h
marked_right x w (m ∷ xs) ys h = inr (marked_right x w xs ys h)

pub marked_either : (x : Fraction) (w : Whose) (xs ys : List (Fraction × Whose)) → IsMarked x w (xs ++ ys) → IsMarked x w xs ⊎ IsMarked x w ys
marked_either x w [] ys h = inr h
marked_either x w (m ∷ xs) ys h = elim h [ inl e ↦ inl (inl e) | inr i ↦ elim (marked_either x w xs ys i) [ inl l ↦ inl (inr l) | inr r ↦ inr r ] ]

-- marks of one owner
abbrev of_one : {Q : Type 0} → (Q → Fraction) → Whose → List Q → List (Fraction × Whose)
of_one v w items = map (λ r. (v r, w)) items

roots_of_one : {Q : Type 0} (v : Q → Fraction) (w : Whose) (items : List Q) → roots_of (of_one v w items) ≡ map v items
roots_of_one v w [] = refl
roots_of_one v w (r ∷ items) = ap (λ (xs : List Fraction). v r ∷ xs) (roots_of_one v w items)

one_marks : {Q : Type 0} (v : Q → Fraction) (w : Whose) (x : Fraction) (items : List Q) → Among x (map v items) → IsMarked x w (of_one v w items)
one_marks v w x [] h = elim h [ ]
one_marks v w x (r ∷ items) h = elim h [ inl e ↦ inl (e, refl) | inr i ↦ inr (one_marks v w x items i) ]

one_owner : {Q : Type 0} (v : Q → Fraction) (w u : Whose) (x : Fraction) (items : List Q) → IsMarked x u (of_one v w items) → u ≡ w
one_owner v w u x [] h = elim h [ ]
one_owner v w u x (r ∷ items) h = elim h [ inl e ↦ e.1 | inr i ↦ one_owner v w u x items i ]

roots_append : (xs ys : List (Fraction × Whose)) → roots_of (xs ++ ys) ≡ roots_of xs ++ roots_of ys
roots_append [] ys = refl
roots_append (m ∷ xs) ys = ap (λ (us : List Fraction). m.0 ∷ us) (roots_append xs ys)

module _ {A : Type 0} (fits : Fraction → Type 0) (Fit : A → Type 0) (whose : ℕ → Whose) (condition : A → Condition) (s : State) (rs : List Fraction) (start : List (Fraction × Whose)) (whole : List A) where
  -- the roots up to number k are marked
  pub record Marking (found : List (Fraction × Whose)) (k : ℕ) : Type 0 where
    pub collecting : Collecting fits Fit whose condition s rs (roots_of found) (roots_of start) k (drop k whole) whole
    pub kept : (x : Fraction) (w : Whose) → IsMarked x w start → IsMarked x w found
    pub owners : (P : Problem) → AreOwners P start → ((j : ℕ) → j < length whole → IsOwner P (whose j)) → AreOwners P found
    pub marked : (j : ℕ) (a : A) (x : Fraction) → j < k → slice_get whole j ≡ Some a → Among x (live_roots (condition a) s rs) → IsMarked x (whose j) found

  pub marking_start : (listed : List ℕ) → All Fit whole → AreMembers (length whole) listed → Walked (Marking start) (length whole) listed listed
  marking_start listed f m = walked_start (Marking start) (length whole) listed m (record {
    collecting = collecting_start fits Fit whose condition s rs (roots_of start) whole f;
    kept = λ x w i. i;
    owners = λ P o b. o;
    marked = λ j a x l g i. absurd (omega arith);
  })

  same_item : (k : ℕ) (a d : A) → slice_get whole k ≡ Some a → slice_get whole k ≡ Some d → a ≡ d
  same_item k a d g h = cc

  up_to : (j k : ℕ) → j < k + 1 → (j < k) ⊎ (j ≡ k)
  up_to j k l = elim (cases_lt j k) [ inl b ↦ inl b | inr b ↦ inr (omega arith) ]

  within : (k : ℕ) (a : A) (xs : List A) → slice_get xs k ≡ Some a → k < length xs
  within k a [] g = cc
  within zero a (x ∷ xs) g = omega arith
  within (suc k) a (x ∷ xs) g = (let l = within k a xs g in omega arith)

  here_collecting : (found : List (Fraction × Whose)) (k : ℕ) (a : A) → slice_get whole k ≡ Some a → Marking found k → Collecting fits Fit whose condition s rs (roots_of found) (roots_of start) k (a ∷ drop (k + 1) whole) whole
  here_collecting found k a g h = subst (λ (rest : List A). Collecting fits Fit whose condition s rs (roots_of found) (roots_of start) k rest whole) (from_item whole k a g) h.collecting

  pub marking_next : {Q : Type 0} (v : Q → Fraction) (items : List Q) (found new : List (Fraction × Whose)) (k : ℕ) (a : A) → slice_get whole k ≡ Some a → Marking found k → crossing.AllPass fits (cross_asks 0 (condition a) s rs) → map v items ≡ live_roots (condition a) s rs → new ≡ found ++ map (λ r. (v r, whose k)) items → Marking new (k + 1)
  marking_next v items found new k a g h p e n = record {
    collecting = collecting_next fits Fit whose condition s rs (roots_of found) (roots_of start) k a (drop (k + 1) whole) whole (here_collecting found k a g h) (roots_of new) p
        (ap roots_of n ∙ roots_append found (of_one v (whose k) items) ∙ ap (λ (xs : List Fraction). roots_of found ++ xs) (roots_of_one v (whose k) items ∙ e));
    kept = λ x w i. keep x w (h.kept x w i);
    owners = λ P o b x w i. elim (marked_either x w found (of_one v (whose k) items) (subst (IsMarked x w) n i)) [
      | inl l ↦ h.owners P o b x w l
      | inr r ↦ subst (IsOwner P) (sym (one_owner v (whose k) w x items r)) (b k (within k a whole g))
    ];
    marked = λ j d x l q i. elim (up_to j k l) [
      | inl b ↦ keep x (whose j) (h.marked j d x b q i)
      | inr f ↦ (
          let c : slice_get whole k ≡ Some d = subst (λ (z : ℕ). slice_get whole z ≡ Some d) f q in
          let t : Among x (map v items) = subst (Among x) (ap (λ (z : A). live_roots (condition z) s rs) (same_item k d a c g) ∙ sym e) i in
          subst (IsMarked x (whose j)) (sym n) (marked_right x (whose j) found (of_one v (whose k) items) (subst (λ (z : ℕ). IsMarked x (whose z) (of_one v (whose k) items)) (sym f) (one_marks v (whose k) x items t)))
          )
    ];
  }
    where
      keep : (x : Fraction) (w : Whose) → IsMarked x w found → IsMarked x w new
      keep x w i = subst (IsMarked x w) (sym n) (marked_left x w found (of_one v (whose k) items) i)

  passes_over : (found : List (Fraction × Whose)) (listed : List ℕ) → OthersHaveNoRoot fits (map condition whole) s rs listed → PassesOver (Marking found) (length whole) listed
  passes_over found listed o k l n h =
      let i = item_at whole k l in
      let r = o k (condition i.item) (mapped condition whole k i.item i.is) n in
      marking_next (λ (x : Fraction). x) [] found found k i.item i.is h r.pass (sym r.none) (sym (append-nil found))

  -- those of all members before a listed one
  pub marking_at : (found : List (Fraction × Whose)) (listed : List ℕ) (k : ℕ) (rest : List ℕ) → OthersHaveNoRoot fits (map condition whole) s rs listed → Walked (Marking found) (length whole) (k ∷ rest) listed → Marking found k
  marking_at found listed k rest o w = walked_here (Marking found) (length whole) k rest listed w (passes_over found listed o)

  pub marking_collecting : (found : List (Fraction × Whose)) (listed : List ℕ) (k : ℕ) (rest : List ℕ) (a : A) → OthersHaveNoRoot fits (map condition whole) s rs listed → slice_get whole k ≡ Some a → Walked (Marking found) (length whole) (k ∷ rest) listed → Collecting fits Fit whose condition s rs (roots_of found) (roots_of start) k (a ∷ drop (k + 1) whole) whole
  marking_collecting found listed k rest a o g w = here_collecting found k a g (marking_at found listed k rest o w)

  pub marking_end : (found : List (Fraction × Whose)) (listed : List ℕ) → OthersHaveNoRoot fits (map condition whole) s rs listed → Walked (Marking found) (length whole) [] listed → AllPass fits (root_tests_in whose condition 0 whole s rs) × Marks whose condition whole s rs start found
  marking_end found listed o w =
      let h : Marking found (length whole) = walked_end (Marking found) (length whole) listed w (passes_over found listed o) in
      let t = collecting_end fits Fit whose condition s rs (roots_of found) (roots_of start) (length whole) whole (subst (λ (rest : List A). Collecting fits Fit whose condition s rs (roots_of found) (roots_of start) (length whole) rest whole) (none_left whole) h.collecting) in (
        t.0,
        record { roots = t.1; kept = h.kept; owners = h.owners; marked = λ k a x g i. h.marked k a x (within k a whole g) g i },
      )

-- ---- events, and then processes
pub all_marked : (P : Problem) (s : State) (rs : List Fraction) (start first second : List (Fraction × Whose)) → start ≡ [] → Marks event (λ (e : Event). e.condition) P.events s rs start first → Marks process (λ (p : Process). p.condition) P.processes s rs first second → AllMarked P s rs second
unfolding all_roots
all_marked P s rs start first second n e p = record {
  roots = p.roots ∙ ap (λ (l : List Fraction). l ++ roots_in (λ (p : Process). p.condition) P.processes s rs) (e.roots ∙ ap (λ (l : List (Fraction × Whose)). roots_of l ++ roots_in (λ (e : Event). e.condition) P.events s rs) n);
  are = record {
    owners = p.owners P (e.owners P (subst (AreOwners P) (sym n) (λ x w i. elim i [ ])) (λ k l. l)) (λ k l. l);
    events = λ k a x g i. p.kept x (event k) (e.marked k a x g i);
    processes = p.marked;
  };
}
