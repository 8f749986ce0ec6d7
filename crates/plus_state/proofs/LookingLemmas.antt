-- How far members are looked at, and lists of all numbers.
use Rattle.std.proofs.Common.{◌≡◌, ℕ, ◌<◌, ◌≤◌, ◌+◌, zero, suc, Bool, true, false, List, [], ◌∷◌, ◌++◌, length, map, get_or, drop, refl, ap, sym, subst, ◌∙◌, inl, inr, arith, add-one, append_assoc}
use Rattle.std.proofs.lemmas.Bool.{cases_eq}
use Rattle.std.proofs.lemmas.List.{append-nil, length-map}
use Rattle.std.proofs.lemmas.List.Elements.{All-head, All-tail, All-nil, All-cons}
use Rattle.std.specs.Prelude.{Option, Some, slice_get, if◌then◌else◌}
use Rattle.std.specs.List.{All}
use Rattle.plus_fraction.specs.Fraction.{Fraction}
use Rattle.plus_model.specs.Terms.{Condition, Event, Process, State}
use Rattle.plus_model.specs.Value.{holds}
use Rattle.plus_model.specs.Firing.{numbers_of, is_in}
use Rattle.plus_model.specs.Running.{IsRising}
use Rattle.plus_model.proofs.Members.{in_first, in_later}
use Rattle.plus_number.specs.declared.exact.Exact.{Ghosts}
use Rattle.plus_state.specs.declared.problem.Ground.{Ground}
use Rattle.plus_state.specs.View.{event_of, process_of, problem_of}
use Rattle.plus_state.specs.Fits.{Fits, StateFits}
use Rattle.plus_state.specs.Node.{Node}
use Rattle.plus_state.specs.Asked.{NodeFits, AllFit, FirstUnfit}
use Rattle.plus_state.specs.Tests.{tests_of}
use Rattle.plus_state.specs.Numbers.{numbers_from, AreMembers}
use Rattle.plus_state.specs.Walk.{event_conditions, process_conditions, all_asked}
use Rattle.plus_state.specs.Looked.{asked_at, holds_at, asked_among, held_among, OthersPass, AreKnown}
use Rattle.plus_state.proofs.Testing.{pass_none, pass_append, fail_left, fail_right}
use Rattle.plus_state.proofs.LookLemmas.{look_suffices, look_finds}

-- a condition at its place, in two steps of meaning
pub here : {A B C : Type 0} (f : A → B) (g : B → C) (items : List A) (i : ℕ) (x : A) → i < length items → x ≡ get_or items i x → slice_get (map g (map f items)) i ≡ Some (g (f x))
here f g [] i x h e = absurd (omega arith)
here f g (y ∷ items) zero x h e = ap (λ z. Some (g (f z))) (sym e)
here f g (y ∷ items) (suc i) x h e = here f g items i x (omega arith) e

-- the condition with a number fits
pub at_place : (atoms fluents : ℕ) (cs : List Condition) (k : ℕ) (c : Condition) → slice_get cs k ≡ Some c → All (Fits atoms fluents) cs → Fits atoms fluents c
at_place atoms fluents [] k c g a = cc
at_place atoms fluents (d ∷ cs) zero c g a = (let e : d ≡ c = cc in subst (Fits atoms fluents) e (All-head (Fits atoms fluents) d cs a))
at_place atoms fluents (d ∷ cs) (suc k) c g a = at_place atoms fluents cs k c g (All-tail (Fits atoms fluents) d cs a)

pub condition_fits : (atoms fluents : ℕ) (s : State) (cs : List Condition) (k : ℕ) (c : Condition) → StateFits atoms fluents s → slice_get cs k ≡ Some c → All (Fits atoms fluents) cs → Fits (length s.atoms) (length s.fluents) c
condition_fits atoms fluents s cs k c f g a =
    subst (λ (n : ℕ). Fits n (length s.fluents) c) (sym f.atoms_fit) (subst (λ (n : ℕ). Fits atoms n c) (sym f.fluents_fit) (at_place atoms fluents cs k c g a))

pub record Looking (fits : Fraction → Type 0) (found rest whole : List ℕ) (cs : List Condition) (s : State) : Type 0 where
  pub inside : All (λ k. k < length cs) rest
  pub so_far : found ++ held_among cs rest s ≡ held_among cs whole s
  pub fit : AllFit fits (asked_among cs rest s) → AllFit fits (asked_among cs whole s)
  pub unfit : (m : Node) → FirstUnfit fits (asked_among cs rest s) m → FirstUnfit fits (asked_among cs whole s) m

pub looking_start : (fits : Fraction → Type 0) (found whole : List ℕ) (cs : List Condition) (s : State) → found ≡ [] → AreMembers (length cs) whole → Looking fits found whole whole cs s
looking_start fits found whole cs s e h = record { inside = h.inside; so_far = ap (λ (x : List ℕ). x ++ held_among cs whole s) e; fit = λ a. a; unfit = λ m u. u }

pub choose : (found : List ℕ) (k : ℕ) (b : Bool) (more : List ℕ) → (found ++ (if b then k ∷ [] else [])) ++ more ≡ found ++ (if b then k ∷ more else more)
choose found k true more = append_assoc found (k ∷ []) more
choose found k false more = ap (λ (x : List ℕ). x ++ more) (append-nil found)

module _ (fits : Fraction → Type 0) (found : List ℕ) (k : ℕ) (rest whole : List ℕ) (cs : List Condition) (s : State) (h : Looking fits found (k ∷ rest) whole cs s) where
  pub looking_inside : k < length cs
  looking_inside = All-head (λ k. k < length cs) k rest h.inside

  module _ (c : Condition) (g : slice_get cs k ≡ Some c) where
    asks_here : asked_among cs (k ∷ rest) s ≡ tests_of c s ++ asked_among cs rest s
    asks_here = ap (λ (o : Option Condition). asked_at o s ++ asked_among cs rest s) g

    pub looking_err : (m : Node) → FirstUnfit fits (tests_of c s) m → FirstUnfit fits (asked_among cs whole s) m
    looking_err m u = h.unfit m (subst (λ (ns : List Node). FirstUnfit fits ns m) (sym asks_here) (fail_left (NodeFits fits) _ _ m u))

    pub looking_next : (b : Bool) (new : List ℕ) → AllFit fits (tests_of c s) → b ≡ holds c s → new ≡ found ++ (if b then k ∷ [] else []) → Looking fits new rest whole cs s
    looking_next b new a d n = record {
      inside = All-tail (λ k. k < length cs) k rest h.inside;
      so_far = ap (λ (x : List ℕ). x ++ held_among cs rest s) n ∙ choose found k b (held_among cs rest s)
          ∙ ap (λ (t : Bool). found ++ (if t then k ∷ held_among cs rest s else held_among cs rest s)) (d ∙ sym (ap (λ (o : Option Condition). holds_at o s) g)) ∙ h.so_far;
      fit = λ r. h.fit (subst (AllFit fits) (sym asks_here) (pass_append (NodeFits fits) _ _ a r));
      unfit = λ m u. h.unfit m (subst (λ (ns : List Node). FirstUnfit fits ns m) (sym asks_here) (fail_right (NodeFits fits) _ _ m a u));
    }

pub looking_stop : (fits : Fraction → Type 0) (cs : List Condition) (s : State) (whole : List ℕ) (m : Node) → AreKnown fits cs s whole → FirstUnfit fits (asked_among cs whole s) m → FirstUnfit fits (all_asked cs s) m
looking_stop fits cs s whole m k u = (look_suffices fits cs s whole k.members k.pass).stop m u

pub looking_end : (fits : Fraction → Type 0) (found whole : List ℕ) (cs : List Condition) (s : State) → AreKnown fits cs s whole → Looking fits found [] whole cs s → AllFit fits (all_asked cs s) × (found ≡ numbers_of (λ c. holds c s) 0 cs)
looking_end fits found whole cs s k h = (
  (look_suffices fits cs s whole k.members k.pass).pass (h.fit (pass_none (NodeFits fits))),
  sym (append-nil found) ∙ h.so_far ∙ look_finds cs s whole k.members k.silent,
)

-- ---- all numbers
pub numbers_long : (k n : ℕ) → n ≡ length (numbers_from k n)
numbers_long k zero = refl
numbers_long k (suc n) = let h = numbers_long (suc k) n in omega arith

number_at : (k n i : ℕ) → i < n → drop i (numbers_from k n) ≡ (k + i) ∷ drop (suc i) (numbers_from k n)
number_at k zero i h = absurd (omega arith)
number_at k (suc n) zero h = let e : k ≡ k + 0 = omega arith in ap (λ (x : ℕ). x ∷ numbers_from (suc k) n) e
number_at k (suc n) (suc i) h =
    let e : suc k + i ≡ k + suc i = omega arith in
    number_at (suc k) n i (omega arith) ∙ ap (λ (x : ℕ). x ∷ drop (suc i) (numbers_from (suc k) n)) e

pub first_at : (n i k : ℕ) → i < length (numbers_from 0 n) → k ≡ i → drop i (numbers_from 0 n) ≡ k ∷ drop (i + 1) (numbers_from 0 n)
first_at n i k h e =
    let m = numbers_long 0 n in
    let z : 0 + i ≡ k = omega arith in
    rw add-one (number_at 0 n i (omega arith) ∙ ap (λ (x : ℕ). x ∷ drop (suc i) (numbers_from 0 n)) z)

pub these_at : {I : Type 0} (f : I → ℕ) (xs : List I) (i : ℕ) (x : I) → i < length xs → x ≡ get_or xs i x → drop i (map f xs) ≡ f x ∷ drop (i + 1) (map f xs)
these_at f [] i x h e = absurd (omega arith)
these_at f (y ∷ xs) zero x h e = ap (λ z. f z ∷ map f xs) (sym e)
these_at f (y ∷ xs) (suc i) x h e =
    let n : suc (i + 1) ≡ suc i + 1 = omega arith in
    these_at f xs i x (omega arith) e ∙ ap (λ (k : ℕ). f x ∷ drop k (f y ∷ map f xs)) n

below_all : (k n most : ℕ) → k + n ≤ most → All (λ i. i < most) (numbers_from k n)
below_all k zero most h = All-nil (λ i. i < most)
below_all k (suc n) most h = All-cons (λ i. i < most) k (numbers_from (suc k) n) (omega arith) (below_all (suc k) n most (omega arith))

rising : (j k n : ℕ) → j ≤ k → IsRising j (numbers_from k n)
rising j k zero h = tt
rising j k (suc n) h = (h, rising (suc k) (suc k) n (omega arith))

pub all_are_members : (n : ℕ) (members : List ℕ) → members ≡ numbers_from 0 n → AreMembers n members
all_are_members n members e = subst (AreMembers n) (sym e) (record { inside = below_all 0 n n (omega arith); rising = rising 0 0 n (omega arith) })

each_in : (k n i : ℕ) → k ≤ i → i < k + n → is_in (numbers_from k n) i ≡ true
each_in k zero i h l = absurd (omega arith)
each_in k (suc n) i h l = elim (cases_eq i k) [
  | inl e ↦ subst (λ (x : ℕ). is_in (k ∷ numbers_from (suc k) n) x ≡ true) (sym e) (in_first k (numbers_from (suc k) n))
  | inr d ↦ in_later i k (numbers_from (suc k) n) (each_in (suc k) n i (omega arith) (omega arith))
]

past : {A : Type 0} (xs : List A) (k : ℕ) (x : A) → slice_get xs k ≡ Some x → k < length xs
past [] k x e = cc
past (y ∷ xs) zero x e = omega arith
past (y ∷ xs) (suc k) x e = let h = past xs k x e in omega arith

pub no_other : {A : Type 0} (cs : List A) (members : List ℕ) (k : ℕ) (c : A) → members ≡ numbers_from 0 (length cs) → slice_get cs k ≡ Some c → is_in members k ≡ false → ⊥
no_other cs members k c e g n =
    let h = past cs k c g in
    let y : is_in members k ≡ true = subst (λ (xs : List ℕ). is_in xs k ≡ true) (sym e) (each_in 0 (length cs) k (omega arith) (omega arith)) in
    cc

pub no_other_asks : (fits : Fraction → Type 0) (cs : List Condition) (s : State) (members : List ℕ) → members ≡ numbers_from 0 (length cs) → OthersPass fits cs s members
no_other_asks fits cs s members e k c g n = absurd (no_other cs members k c e g n)

-- where all are looked at, nothing need be known of others
pub all_known : (fits : Fraction → Type 0) (cs : List Condition) (s : State) (looked : List ℕ) → looked ≡ numbers_from 0 (length cs) → AreKnown fits cs s looked
all_known fits cs s looked e = record {
  members = all_are_members (length cs) looked e;
  pass = no_other_asks fits cs s looked e;
  silent = λ k c g n. absurd (no_other cs looked k c e g n);
}

-- numbers of conditions are places in the code's lists
module _ {Q : Type 0} {E : Ghosts Q} (v : Q → Fraction) (g : Ground Q E) (looked : List ℕ) where
  pub event_places : AreMembers (length (event_conditions (problem_of v g))) looked → AreMembers (length g.events.items) looked
  event_places m = subst (λ (n : ℕ). AreMembers n looked) (length-map (problem_of v g).events (λ (e : Event). e.condition) ∙ length-map g.events.items (event_of v)) m

  pub process_places : AreMembers (length (process_conditions (problem_of v g))) looked → AreMembers (length g.processes.items) looked
  process_places m = subst (λ (n : ℕ). AreMembers n looked) (length-map (problem_of v g).processes (λ (p : Process). p.condition) ∙ length-map g.processes.items (process_of v)) m

  pub all_processes : looked ≡ numbers_from 0 (length (process_conditions (problem_of v g))) → AreMembers (length g.processes.items) looked
  all_processes e = process_places (all_are_members _ looked e)

-- which members of a list hold by their conditions
pub numbers_by : {A : Type 0} (f : A → Condition) (s : State) (k : ℕ) (xs : List A) → numbers_of (λ c. holds c s) k (map f xs) ≡ numbers_of (λ x. holds (f x) s) k xs
numbers_by f s k [] = refl
numbers_by f s k (x ∷ xs) = ap (λ (ns : List ℕ). if holds (f x) s then k ∷ ns else ns) (numbers_by f s (suc k) xs)
