-- What the timed literals of one time come to.
use Rattle.std.proofs.Common.{◌≡◌, ℕ, ◌<◌, ◌≤◌, ◌+◌, ◌-◌, zero, suc, Bool, true, false, ◌||◌, ◌&&◌, List, [], ◌∷◌, length, map, get_or, take, drop, replicate, refl, ap, sym, subst, ◌∙◌, arith, inl, inr}
use Rattle.std.proofs.lemmas.Bool.{eq-eqb, cases_lt}
use Rattle.std.proofs.lemmas.List.{get_or-drop, get_or-replicate, length-drop}
use Rattle.std.proofs.lemmas.List.Elements.{All-nil, All-cons, All-head, All-tail, All-take, All-drop}
use Rattle.std.specs.Prelude.{not, nat_eq, if◌then◌else◌, ◌↔◌, Result, Ok, Err, IfOk}
use Rattle.std.specs.List.{All, list_any}
use Rattle.std.specs.List.Sorted.{IsPartitionPoint}
use Rattle.std.specs.declared.cmp.Ordering.{Ordering}
use Rattle.std.specs.declared.cmp.Ordering.TheVariants.{Less, Equal, Greater}
use Rattle.plus_fraction.specs.Fraction.{Fraction, ◌<ℚ◌, compared}
use Rattle.plus_fraction.proofs.Compared.{compared-equal, compared-greater}
use Rattle.plus_fraction.proofs.FractionOrder.{<ℚ_irrefl, <ℚ_trans}
use Rattle.plus_model.specs.Terms as model
use Rattle.plus_model.specs.Terms.{Same, Below, State, Problem}
use Rattle.plus_model.specs.Value.{passes}
use Rattle.plus_model.specs.Joint.{Change, Gains, Loses, gains, loses, new_atoms}
use Rattle.plus_model.specs.Trajectory.{is_below, literal_changes, literals}
use Rattle.plus_model.proofs.Moments.{from_below}
use Rattle.plus_state.specs.declared.problem.Timed.{Timed}
use Rattle.plus_state.specs.View.{timed_of}
use Rattle.plus_state.specs.Changes.{Changes, patched_list, AreIn, Rises}
use Rattle.plus_state.specs.Due.{Due, puts, DuesFit, atom_change, atom_changes}
use Rattle.plus_state.proofs.AtomsLemmas.{atoms_are}
use Rattle.plus_stretch.proofs.Rising.{to_below}
use Rattle.plus_timeline.specs.Timeline.{has_literal}
use Rattle.plus_timeline.specs.Literals.{AreLiterals, is_before, is_by, puts_of}
use Rattle.plus_timeline.proofs.InOrder.{known, un_not, un_not_false}

-- ---- literals of the time, and others
below_is : (o : Ordering) → passes Below o ≡ true → passes Same o ≡ false
below_is Less h = refl
below_is Equal h = cc
below_is Greater h = cc

same_is : (o : Ordering) → passes Same o ≡ true → o ≡ Equal
same_is Less h = cc
same_is Equal h = refl
same_is Greater h = cc

not_later_one : (x t : Fraction) → is_below t x ≡ true → passes Same (compared x t) ≡ false
not_later_one x t h = known (passes Same (compared x t)) (λ e. <ℚ_irrefl t (subst (λ (y : Fraction). t <ℚ y) (compared-equal x t (same_is (compared x t) e)) (from_below t x h)))

of_time : (x t : Fraction) → is_below x t ≡ false → is_below t x ≡ false → passes Same (compared x t) ≡ true
of_time x t a b = go (compared x t) refl a
  where
    go : (o : Ordering) → compared x t ≡ o → passes Below o ≡ false → passes Same o ≡ true
    go Less c k = cc
    go Equal c k = refl
    go Greater c k = let e : is_below t x ≡ true = to_below t x (compared-greater x t c) in cc (e, b)

by_sign : (b : Bool) (a : ℕ) → (if b then Gains a else Loses a) ≡ atom_change a b
by_sign true a = refl
by_sign false a = refl

module _ {Q : Type 0} (value : Q → Fraction) (t : Fraction) where
  abbrev changes : List (Timed Q) → List Change
  changes xs = literal_changes t (map (timed_of value) xs)

  -- with one literal more
  one_more : (x : Timed Q) (xs : List (Timed Q)) (b : Bool) → passes Same (compared (value x.time) t) ≡ b → changes (x ∷ xs) ≡ (if b then atom_change x.atom.0 x.positive ∷ changes xs else changes xs)
  one_more x xs b e =
      ap (λ (c : Bool). if c then (if x.positive then Gains x.atom.0 else Loses x.atom.0) ∷ changes xs else changes xs) e
      ∙ ap (λ (y : Change). if b then y ∷ changes xs else changes xs) (by_sign x.positive x.atom.0)

  skipped : (xs : List (Timed Q)) (n : ℕ) → ((k : ℕ) (d : Timed Q) → 0 ≤ k → k < n → is_before value t (get_or xs k d) ≡ true) → changes xs ≡ changes (drop n xs)
  skipped xs zero h = refl
  skipped [] (suc n) h = refl
  skipped (x ∷ xs) (suc n) h =
      one_more x xs false (below_is _ (h 0 x (omega arith) (omega arith))) ∙ skipped xs n (λ k d l m. h (suc k) d (omega arith) (omega (arith, m)))

  none_after : (xs : List (Timed Q)) → ((k : ℕ) (d : Timed Q) → k < length xs → is_by value t (get_or xs k d) ≡ false) → changes xs ≡ []
  none_after [] h = refl
  none_after (x ∷ xs) h =
      one_more x xs false (not_later_one (value x.time) t (un_not_false _ (h 0 x (omega arith)))) ∙ none_after xs (λ k d m. h (suc k) d (omega (arith, m)))

  taken : (xs : List (Timed Q)) (n : ℕ) → ((k : ℕ) (d : Timed Q) → k < n → k < length xs → is_before value t (get_or xs k d) ≡ false) → ((k : ℕ) (d : Timed Q) → k < n → k < length xs → is_by value t (get_or xs k d) ≡ true) → ((k : ℕ) (d : Timed Q) → n ≤ k → k < length xs → is_by value t (get_or xs k d) ≡ false) → changes xs ≡ atom_changes (puts_of (take n xs))
  taken xs zero a b c = none_after xs (λ k d m. c k d (omega arith) m)
  taken [] (suc n) a b c = refl
  taken (x ∷ xs) (suc n) a b c =
      one_more x xs true (of_time (value x.time) t (a 0 x (omega arith) (omega arith)) (un_not _ (b 0 x (omega arith) (omega arith))))
      ∙ ap (λ (cs : List Change). atom_change x.atom.0 x.positive ∷ cs)
      (taken xs n (λ k d l m. a (suc k) d (omega (arith, l)) (omega (arith, m))) (λ k d l m. b (suc k) d (omega (arith, l)) (omega (arith, m))) (λ k d l m. c (suc k) d (omega (arith, l)) (omega (arith, m))))

  abbrev FirstFrom : List (Timed Q) → ℕ → Type 0
  FirstFrom xs m = IsPartitionPoint (λ l. is_before value t l ≡ true) (λ l. is_before value t l ≡ false) xs m

  abbrev FirstAfter : List (Timed Q) → ℕ → Type 0
  FirstAfter xs n = IsPartitionPoint (λ l. is_by value t l ≡ true) (λ l. is_by value t l ≡ false) xs n

  not_both : (x : Fraction) → is_below x t ≡ true → is_below t x ≡ true → ⊥
  not_both x a b = <ℚ_irrefl t (<ℚ_trans t x t (from_below t x b) (from_below x t a))

  -- the first that is not before the time does not stand behind the first that is after it
  pub in_turn : (xs : List (Timed Q)) (m n : ℕ) → FirstFrom xs m → FirstAfter xs n → m ≤ length xs → m ≤ n
  in_turn [] m n p q l = omega (arith, l)
  in_turn (x ∷ xs) m n p q l = elim (cases_lt n m) [
    | inl k ↦ absurd (not_both _ (p.0 n x (omega arith) k) (un_not_false _ (q.1 n x (omega arith) (omega (arith, k, l)))))
    | inr k ↦ k
  ]

  between : (xs : List (Timed Q)) (m n : ℕ) → FirstFrom xs m → FirstAfter xs n → changes xs ≡ atom_changes (puts_of (take (n - m) (drop m xs)))
  between xs m n p q =
      skipped xs m p.0 ∙ taken (drop m xs) (n - m)
      (λ k d l h. at k d (λ y. is_before value t y ≡ false) (p.1 (m + k) d (omega arith) (inside k h)))
      (λ k d l h. at k d (λ y. is_by value t y ≡ true) (q.0 (m + k) d (omega arith) (omega (arith, l))))
      (λ k d l h. at k d (λ y. is_by value t y ≡ false) (q.1 (m + k) d (omega (arith, l)) (inside k h)))
    where
      at : (k : ℕ) (d : Timed Q) (T : Timed Q → Type 0) → T (get_or xs (m + k) d) → T (get_or (drop m xs) k d)
      at k d T h = subst T (sym (get_or-drop m xs k d)) h

      inside : (k : ℕ) → k < length (drop m xs) → m + k < length xs
      inside k h = let e = length-drop m xs in omega (arith, e, h)

-- ---- what is put, as changes of a state
module _ {Q : Type 0} (value : Q → Fraction) where
  timed_in : (n : ℕ) (xs : List (Timed Q)) → All (λ (l : model.Timed). l.atom < n) (map (timed_of value) xs) → All (λ (l : Timed Q). l.atom.0 < n) xs
  timed_in n [] h = All-nil (λ (l : Timed Q). l.atom.0 < n)
  timed_in n (x ∷ xs) h =
      All-cons (λ (l : Timed Q). l.atom.0 < n) x xs (All-head (λ (l : model.Timed). l.atom < n) (timed_of value x) (map (timed_of value) xs) h)
      (timed_in n xs (All-tail (λ (l : model.Timed). l.atom < n) (timed_of value x) (map (timed_of value) xs) h))

  puts_fit : (n m : ℕ) (xs : List (Timed Q)) → All (λ (l : Timed Q). l.atom.0 < n) xs → DuesFit n m (puts_of xs)
  puts_fit n m [] h = tt
  puts_fit n m (x ∷ xs) h = (All-head (λ (l : Timed Q). l.atom.0 < n) x xs h, puts_fit n m xs (All-tail (λ (l : Timed Q). l.atom.0 < n) x xs h))

-- whether there is a literal of the time
any_of : (t : Fraction) (ts : List model.Timed) (x : model.Timed) (b : Bool) → passes Same (compared x.time t) ≡ b → (list_any (λ (l : model.Timed). passes Same (compared l.time t)) (x ∷ ts) ≡ (b || list_any (λ (l : model.Timed). passes Same (compared l.time t)) ts)) × (literal_changes t (x ∷ ts) ≡ (if b then (if x.positive then Gains x.atom else Loses x.atom) ∷ literal_changes t ts else literal_changes t ts))
any_of t ts x b e = (
  ap (λ (c : Bool). c || list_any (λ (l : model.Timed). passes Same (compared l.time t)) ts) e,
  ap (λ (c : Bool). if c then (if x.positive then Gains x.atom else Loses x.atom) ∷ literal_changes t ts else literal_changes t ts) e,
)

none_changes : (t : Fraction) (ts : List model.Timed) → list_any (λ (l : model.Timed). passes Same (compared l.time t)) ts ≡ false → literal_changes t ts ≡ []
none_changes t [] h = refl
none_changes t (x ∷ ts) h = go (passes Same (compared x.time t)) refl (none_changes t ts)
  where
    go : (b : Bool) → passes Same (compared x.time t) ≡ b → (list_any (λ (l : model.Timed). passes Same (compared l.time t)) ts ≡ false → literal_changes t ts ≡ []) → literal_changes t (x ∷ ts) ≡ []
    go true e r = let q = (any_of t ts x true e).0 in cc (q, h)
    go false e r = let q = any_of t ts x false e in q.1 ∙ r (sym q.0 ∙ h)

changes_none : (t : Fraction) (ts : List model.Timed) → literal_changes t ts ≡ [] → list_any (λ (l : model.Timed). passes Same (compared l.time t)) ts ≡ false
changes_none t [] h = refl
changes_none t (x ∷ ts) h = go (passes Same (compared x.time t)) refl (changes_none t ts)
  where
    go : (b : Bool) → passes Same (compared x.time t) ≡ b → (literal_changes t ts ≡ [] → list_any (λ (l : model.Timed). passes Same (compared l.time t)) ts ≡ false) → list_any (λ (l : model.Timed). passes Same (compared l.time t)) (x ∷ ts) ≡ false
    go true e r = let q = (any_of t ts x true e).1 in cc (q, h)
    go false e r = let q = any_of t ts x false e in q.0 ∙ r (sym q.1 ∙ h)

-- an atom that is put differs in some state
atom_at : (k : ℕ) (cs : List Change) (bs : List Bool) (i : ℕ) → i < length bs → get_or (new_atoms k cs bs) i false ≡ (gains (k + i) cs || (get_or bs i false && not (loses (k + i) cs)))
atom_at k cs [] i h = absurd (omega (arith, h))
atom_at k cs (b ∷ bs) zero h = ap (λ (n : ℕ). gains n cs || (b && not (loses n cs))) (let e : k ≡ k + 0 = omega arith in e)
atom_at k cs (b ∷ bs) (suc i) h =
    atom_at (suc k) cs bs i (omega (arith, h)) ∙ ap (λ (n : ℕ). gains n cs || (get_or bs i false && not (loses n cs))) (let e : suc k + i ≡ k + suc i = omega arith in e)

-- where nothing changes in a state whose atoms are all b
stays_at : (a : ℕ) (b : Bool) (cs : List Change) → ((bs : List Bool) → bs ≡ new_atoms 0 cs bs) → b ≡ (gains a cs || (b && not (loses a cs)))
stays_at a b cs h =
    let is : get_or (replicate (suc a) b) a false ≡ b = get_or-replicate (suc a) a b false (omega arith) in
    let below : a < length (replicate (suc a) b) = long a b in
    let zero_more : 0 + a ≡ a = omega arith in
    sym is ∙ ap (λ (bs : List Bool). get_or bs a false) (h (replicate (suc a) b)) ∙ atom_at 0 cs (replicate (suc a) b) a below
    ∙ ap (λ (n : ℕ). gains n cs || (get_or (replicate (suc a) b) a false && not (loses n cs))) zero_more
    ∙ ap (λ (c : Bool). gains a cs || (c && not (loses a cs))) is
  where
    long : (a : ℕ) (b : Bool) → a < length (replicate (suc a) b)
    long zero b = omega arith
    long (suc a) b = let e = long a b in omega (arith, e)

first_put : (a : ℕ) (b : Bool) (cs : List Change) → ((bs : List Bool) → bs ≡ new_atoms 0 (atom_change a b ∷ cs) bs) → ⊥
first_put a true cs h =
    let e = eq-eqb a a refl in
    let k = stays_at a false (Gains a ∷ cs) h in cc (e, k)
first_put a false cs h = go (gains a cs) refl
  where
    same : nat_eq a a ≡ true
    same = eq-eqb a a refl

    go : (g : Bool) → gains a cs ≡ g → ⊥
    go true e = let k = stays_at a false (Loses a ∷ cs) h in cc (e, k)
    go false e = let k = stays_at a true (Loses a ∷ cs) h in cc (e, same, k)

nothing_put : {Q : Type 0} (xs : List (Timed Q)) → ((bs : List Bool) → bs ≡ new_atoms 0 (atom_changes (puts_of xs)) bs) → xs ≡ []
nothing_put [] h = refl
nothing_put (x ∷ xs) h = absurd (first_put x.atom.0 x.positive (atom_changes (puts_of xs)) h)

-- one literal alone
one_put : {Q : Type 0} (xs : List (Timed Q)) (x : Timed Q) → length xs ≡ 1 → x ≡ get_or xs 0 x → puts_of xs ≡ puts x.atom.0 x.positive ∷ []
one_put [] x l e = absurd (omega (arith, l))
one_put (y ∷ []) x l e = ap (λ z. puts_of (z ∷ [])) (sym e)
one_put (y ∷ z ∷ zs) x l e = absurd (omega (arith, l))

one_same : (a : ℕ) (v : Bool) (bs : List Bool) → patched_list ((a, v) ∷ []) bs ≡ new_atoms 0 (atom_changes (puts a v ∷ [])) bs
one_same a true bs = atoms_are (puts a true ∷ []) bs
one_same a false bs = atoms_are (puts a false ∷ []) bs

pub one_alone : {Q : Type 0} (xs : List (Timed Q)) (x : Timed Q) (cs : List (ℕ × Bool)) → length xs ≡ 1 → x ≡ get_or xs 0 x → cs ≡ (x.atom.0, x.positive) ∷ [] → (bs : List Bool) → patched_list cs bs ≡ new_atoms 0 (atom_changes (puts_of xs)) bs
one_alone xs x cs l e h bs =
    ap (λ (cs : List (ℕ × Bool)). patched_list cs bs) h ∙ one_same x.atom.0 x.positive bs ∙ sym (ap (λ ds. new_atoms 0 (atom_changes ds) bs) (one_put xs x l e))

-- what follows from what an answer is
pub with_ok : {A E : Type 0} (P R : A → Type 0) (r : Result A E) → ((x : A) → P x → R x) → IfOk r P → IfOk r R
with_ok P R (Ok x) f h = f x h
with_ok P R (Err e) f h = tt

put_none : {Q : Type 0} (xs : List (Timed Q)) → atom_changes (puts_of xs) ≡ [] → xs ≡ []
put_none [] h = refl
put_none (x ∷ xs) h = cc

in_none : (cs : List (ℕ × Bool)) → AreIn 0 cs → cs ≡ []
in_none [] h = refl
in_none (c ∷ cs) h = absurd (let l = h.0 in omega (arith, l))

-- what is made of the literals between the two places are the changes of the time
pub are_literals : {Q : Type 0} (value : Q → Fraction) (P : Problem) (t : Fraction) (xs : List (Timed Q)) (m n : ℕ) (ds : List Due) (c : Changes) → P.timed ≡ map (timed_of value) xs → All (λ (l : model.Timed). l.atom < P.atoms) P.timed → FirstFrom value t xs m → FirstAfter value t xs n → ds ≡ puts_of (take (n - m) (drop m xs)) → c.fluents ≡ [] → Rises c.atoms → ((n k : ℕ) → DuesFit n k ds → AreIn n c.atoms) → ((bs : List Bool) → patched_list c.atoms bs ≡ new_atoms 0 (atom_changes ds) bs) → AreLiterals P t c
unfolding literals
are_literals {Q} value P t xs m n ds c timed fit p q made only rise inside same =
    let ys : List (Timed Q) = take (n - m) (drop m xs) in
    let all : atom_changes ds ≡ literal_changes t P.timed = ap atom_changes made ∙ sym (ap (literal_changes t) timed ∙ between value t xs m n p q) in
    let here : All (λ (l : Timed Q). l.atom.0 < P.atoms) xs = timed_in value P.atoms xs (subst (λ (ts : List model.Timed). All (λ (l : model.Timed). l.atom < P.atoms) ts) timed fit) in
    let due : DuesFit P.atoms 0 ds = subst (DuesFit P.atoms 0) (sym made) (puts_fit value P.atoms 0 ys (All-take (λ (l : Timed Q). l.atom.0 < P.atoms) (n - m) (drop m xs) (All-drop (λ (l : Timed Q). l.atom.0 < P.atoms) m xs here))) in
    record {
      is = λ s. λ i. record {
        atoms = (same s.atoms ∙ ap (λ (cs : List Change). new_atoms 0 cs s.atoms) all) i;
        fluents = ap (λ cs. patched_list cs s.fluents) only i;
      };
      rises = λ s h. record {
        atoms = rise;
        fluents = subst Rises (sym only) tt;
        within = record { atoms_in = subst (λ (k : ℕ). AreIn k c.atoms) (sym h.atoms_fit) (inside P.atoms 0 due); fluents_in = subst (AreIn (length s.fluents)) (sym only) tt };
      };
      only = only;
      some = (
        λ e. in_none c.atoms (inside 0 0 (subst (DuesFit 0 0) (sym (made ∙ ap puts_of (put_none ys (sym (ap atom_changes made) ∙ all ∙ none_changes t P.timed e)))) tt)),
        λ e. changes_none t P.timed (sym all ∙ ap atom_changes (made ∙ ap puts_of (nothing_put ys (λ bs. sym (ap (λ cs. patched_list cs bs) e) ∙ same bs ∙ ap (λ ds. new_atoms 0 (atom_changes ds) bs) made)))),
      );
    }

-- two truths that are false exactly where this is so are one
both_false : (b d : Bool) (X : Type 0) → (b ≡ false) ↔ X → (d ≡ false) ↔ X → b ≡ d
both_false true true X f g = refl
both_false false false X f g = refl
both_false true false X f g = f.1 (g.0 refl)
both_false false true X f g = sym (g.1 (f.0 refl))

pub literal_is : (P : Problem) (t : Fraction) (c : Changes) (b : Bool) → AreLiterals P t c → (b ≡ false) ↔ (c.atoms ≡ []) → b ≡ has_literal P t
literal_is P t c b h e = both_false b (has_literal P t) (c.atoms ≡ []) e h.some
