-- The atoms of the goal that nothing adds are those that are kept.
use Rattle.std.proofs.Common.{◌≡◌, ℕ, ◌<◌, ◌≤◌, ◌+◌, Bool, true, false, not, ◌||◌, List, [], ◌∷◌, ◌++◌, length, drop, get_or, replicate, refl, ap, sym, subst, ◌∙◌, append_assoc, append-nil, if◌then◌else◌}
use Rattle.std.specs.Prelude.{slice_get, unwrap_or}
use Rattle.std.specs.List.{AllByRecursion}
use Rattle.std.proofs.lemmas.Bool.{or_left}
use Rattle.std.proofs.lemmas.List.{at_drop_more, at_drop_all, get_or_past}
use Rattle.std.proofs.lemmas.Option.{unwrap_or-slice_get}
use Rattle.plus_fraction.specs.Fraction.{Fraction}
use Rattle.plus_model.specs.Terms.{Condition, Always, Never, Both, Either, Atom, Compare, Action, State, Problem}
use Rattle.plus_model.specs.Value.{atom_of}
use Rattle.plus_state.specs.declared.term.AtomId.{AtomId}
use Rattle.plus_state.specs.declared.term.Cond.{Cond}
use Rattle.plus_state.specs.declared.term.Cond as conds
use Rattle.plus_state.specs.Fits.{Fits, ProblemFits}
use Rattle.plus_state.specs.Tests.{joined}
use Rattle.plus_state.specs.View.{condition_of}
use Rattle.plus_never.specs.Adds.{something_adds}
use Rattle.plus_cut.specs.Lost.{before_atoms, goal_atoms, never_added, lost_atoms, some_false}
use Rattle.plus_cut.specs.Marks.{Marks, unmarked}
use Rattle.plus_cut.proofs.MarkLemmas.{marks_from_none}

-- ---- a false one in a state

pub false_past : (bs : List Bool) (a : ℕ) → length bs ≤ a → true ≡ not (unwrap_or (slice_get bs a) false)
false_past bs a h = sym (ap not (unwrap_or-slice_get bs a false ∙ get_or_past bs a false h))

next_false : (xs : List ℕ) (s : State) (i : ℕ) → i < length xs → some_false (drop i xs) s ≡ (not (atom_of s (get_or xs i 0)) || some_false (drop (i + 1) xs) s)
next_false xs s i h = at_drop_more (λ (ys : List ℕ). some_false ys s) xs i 0 h

module _ (xs : List ℕ) (s : State) (i : ℕ) (so_far : some_false (drop i xs) s ≡ some_false xs s) where
  pub false_here : (b : Bool) → i < length xs → b ≡ not (atom_of s (get_or xs i 0)) → b ≡ true → true ≡ some_false xs s
  false_here b h e t =
      sym (or_left (not (atom_of s (get_or xs i 0))) (some_false (drop (i + 1) xs) s) (sym e ∙ t)) ∙ sym (next_false xs s i h) ∙ so_far

  pub true_here : (b : Bool) → i < length xs → b ≡ not (atom_of s (get_or xs i 0)) → b ≡ false → some_false (drop (i + 1) xs) s ≡ some_false xs s
  true_here b h e f =
      ap (λ (x : Bool). x || some_false (drop (i + 1) xs) s) (sym (sym e ∙ f)) ∙ sym (next_false xs s i h) ∙ so_far

  pub all_true : length xs ≤ i → false ≡ some_false xs s
  all_true h = sym (at_drop_all (λ (ys : List ℕ). some_false ys s) xs i h) ∙ so_far

-- ---- one member of the goal

module _ {Q : Type 0} (v : Q → Fraction) (cond : Cond Q) (a : AtomId) (positive : Bool) (is : cond ≡ conds.Atom a positive) where
  pub atom_kept : positive ≡ true → a.0 ∷ [] ≡ before_atoms (condition_of v cond) []
  atom_kept t = ap (λ (p : Bool). before_atoms (Atom a.0 p) []) (sym t) ∙ ap (λ c. before_atoms (condition_of v c) []) (sym is)

  pub atom_left : positive ≡ false → [] ≡ before_atoms (condition_of v cond) []
  atom_left f = ap (λ (p : Bool). before_atoms (Atom a.0 p) []) (sym f) ∙ ap (λ c. before_atoms (condition_of v c) []) (sym is)

no_atom : (all : Bool) (cs : List Condition) → [] ≡ before_atoms (joined all cs) []
no_atom true [] = refl
no_atom false [] = refl
no_atom true (c ∷ cs) = refl
no_atom false (c ∷ cs) = refl

-- members in pairs are no atom
pub pairs_left : (all : Bool) (cs : List Condition) (c : Condition) → joined all cs ≡ c → [] ≡ before_atoms c []
pairs_left all cs c e = subst (λ (d : Condition). [] ≡ before_atoms d []) e (no_atom all cs)

pub kept_none : (marks : List Bool) (old new : List ℕ) (a : ℕ) (b : Bool) → b ≡ get_or marks a false → b ≡ true → new ≡ old → new ≡ old ++ unmarked marks (a ∷ [])
kept_none marks old new a b e t h =
    h ∙ sym (append-nil old) ∙ ap (λ (x : Bool). old ++ (if x then unmarked marks [] else a ∷ unmarked marks [])) (sym (sym e ∙ t))

pub kept_one : (marks : List Bool) (old new : List ℕ) (a : ℕ) (b : Bool) → b ≡ get_or marks a false → b ≡ false → new ≡ old ++ a ∷ [] → new ≡ old ++ unmarked marks (a ∷ [])
kept_one marks old new a b e f h = h ∙ ap (λ (x : Bool). old ++ (if x then unmarked marks [] else a ∷ unmarked marks [])) (sym (sym e ∙ f))

-- it is no positive atom
pub kept_no : (marks : List Bool) (old new bs : List ℕ) → [] ≡ bs → new ≡ old → new ≡ old ++ unmarked marks bs
kept_no marks old new bs e h = h ∙ sym (append-nil old) ∙ ap (λ (cs : List ℕ). old ++ unmarked marks cs) e

-- ---- all members of the goal

before_front : (c : Condition) (bs : List ℕ) → before_atoms c bs ≡ before_atoms c [] ++ bs
before_front (Atom a true) bs = refl
before_front (Atom a false) bs = refl
before_front Always bs = refl
before_front Never bs = refl
before_front (Both c d) bs = refl
before_front (Either c d) bs = refl
before_front (Compare t l r p) bs = refl

unmarked_append : (marks : List Bool) (xs ys : List ℕ) → unmarked marks (xs ++ ys) ≡ unmarked marks xs ++ unmarked marks ys
unmarked_append marks [] ys = refl
unmarked_append marks (a ∷ xs) ys = go (get_or marks a false) (unmarked_append marks xs ys)
  where
    go : (b : Bool) → unmarked marks (xs ++ ys) ≡ unmarked marks xs ++ unmarked marks ys
        → (if b then unmarked marks (xs ++ ys) else a ∷ unmarked marks (xs ++ ys)) ≡ (if b then unmarked marks xs else a ∷ unmarked marks xs) ++ unmarked marks ys
    go true e = e
    go false e = ap (λ (zs : List ℕ). a ∷ zs) e

-- what is kept, and what the members keep that are left, is what all keep
pub record Keeping (marks : List Bool) (old now : List ℕ) (rest whole : List Condition) : Type 0 where
  pub so_far : now ++ unmarked marks (goal_atoms (joined true rest)) ≡ old ++ unmarked marks (goal_atoms (joined true whole))

pub keeping_start : (marks : List Bool) (old : List ℕ) (whole : List Condition) → Keeping marks old old whole whole
keeping_start marks old whole = record { so_far = refl }

pub keeping_next :
    (marks : List Bool) (old now new : List ℕ) (c : Condition) (left rest whole : List Condition) → left ≡ c ∷ rest
    → Keeping marks old now left whole → new ≡ now ++ unmarked marks (before_atoms c []) → Keeping marks old new rest whole
keeping_next marks old now new c left rest whole i k e =
    let h = subst (λ (cs : List Condition). Keeping marks old now cs whole) i k in
    let later : List ℕ = goal_atoms (joined true rest) in
    record {
      so_far = ap (λ (zs : List ℕ). zs ++ unmarked marks later) e ∙ append_assoc now (unmarked marks (before_atoms c [])) (unmarked marks later)
          ∙ ap (λ (zs : List ℕ). now ++ zs) (sym (ap (unmarked marks) (before_front c later) ∙ unmarked_append marks (before_atoms c []) later)) ∙ h.so_far;
    }

pub keeping_end :
    (marks : List Bool) (old now : List ℕ) (left whole : List Condition) → left ≡ [] → Keeping marks old now left whole
    → now ≡ old ++ unmarked marks (goal_atoms (joined true whole))
keeping_end marks old now left whole i k =
    let h = subst (λ (cs : List Condition). Keeping marks old now cs whole) i k in sym (append-nil now) ∙ h.so_far

-- ---- the goal

-- where it is no `and`, it is its one member
alone_any : (cs : List Condition) → before_atoms (joined false cs) [] ≡ goal_atoms (joined false cs)
alone_any [] = refl
alone_any (c ∷ cs) = refl

pub goal_any : (cs : List Condition) (c : Condition) → joined false cs ≡ c → before_atoms c [] ≡ goal_atoms c
goal_any cs c e = subst (λ (d : Condition). before_atoms d [] ≡ goal_atoms d) e (alone_any cs)

alone_atom : (a : ℕ) (positive : Bool) → before_atoms (Atom a positive) [] ≡ goal_atoms (Atom a positive)
alone_atom a true = refl
alone_atom a false = refl

module _ {Q : Type 0} (v : Q → Fraction) (goal : Cond Q) where
  abbrev IsAlone : Cond Q → Type 0
  IsAlone c = before_atoms (condition_of v c) [] ≡ goal_atoms (condition_of v c)

  pub goal_atom : (a : AtomId) (positive : Bool) → goal ≡ conds.Atom a positive → before_atoms (condition_of v goal) [] ≡ goal_atoms (condition_of v goal)
  goal_atom a positive e = subst IsAlone (sym e) (alone_atom a.0 positive)

  pub goal_compare : (test : _) (left right : _) (positive : Bool) → goal ≡ conds.Compare test left right positive → before_atoms (condition_of v goal) [] ≡ goal_atoms (condition_of v goal)
  goal_compare test left right positive e = subst IsAlone (sym e) refl

-- ---- the atoms that are found

before_inside : (n m : ℕ) (c : Condition) (bs : List ℕ) → Fits n m c → AllByRecursion (λ a. a < n) bs → AllByRecursion (λ a. a < n) (before_atoms c bs)
before_inside n m (Atom a true) bs f h = (f, h)
before_inside n m (Atom a false) bs f h = h
before_inside n m Always bs f h = h
before_inside n m Never bs f h = h
before_inside n m (Both c d) bs f h = h
before_inside n m (Either c d) bs f h = h
before_inside n m (Compare t l r p) bs f h = h

goal_inside : (n m : ℕ) (c : Condition) → Fits n m c → AllByRecursion (λ a. a < n) (goal_atoms c)
goal_inside n m (Both c d) f = before_inside n m c (goal_atoms d) f.0 (goal_inside n m d f.1)
goal_inside n m (Atom a true) f = (f, tt)
goal_inside n m (Atom a false) f = tt
goal_inside n m Always f = tt
goal_inside n m Never f = tt
goal_inside n m (Either c d) f = tt
goal_inside n m (Compare t l r p) f = tt

never_marked :
    (P : Problem) (actions : List Action) (n : ℕ) (marks : List Bool) → ((a : ℕ) → a < n → get_or marks a false ≡ something_adds a P actions)
    → (bs : List ℕ) → AllByRecursion (λ a. a < n) bs → unmarked marks bs ≡ never_added P actions bs
never_marked P actions n marks e [] h = refl
never_marked P actions n marks e (a ∷ bs) h =
    ap (λ (b : Bool). if b then unmarked marks bs else a ∷ unmarked marks bs) (e a h.0)
    ∙ ap (λ (cs : List ℕ). if something_adds a P actions then cs else a ∷ cs) (never_marked P actions n marks e bs h.1)

pub found :
    (P : Problem) (actions : List Action) (marks : List Bool) (none kept : List ℕ) → ProblemFits P
    → Marks (replicate P.atoms false) marks (λ a. something_adds a P actions) → none ≡ [] → kept ≡ none ++ unmarked marks (goal_atoms P.goal)
    → kept ≡ lost_atoms P actions
found P actions marks none kept fit m i e =
    e ∙ ap (λ (xs : List ℕ). xs ++ unmarked marks (goal_atoms P.goal)) i
    ∙ never_marked P actions P.atoms marks (marks_from_none P.atoms marks (λ a. something_adds a P actions) m) (goal_atoms P.goal) (goal_inside P.atoms P.fluents P.goal fit.goal)
