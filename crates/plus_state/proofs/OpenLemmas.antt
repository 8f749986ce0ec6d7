-- Changes that are ended, and one that is open: the last write on each number.
use Rattle.std.proofs.Common.{◌≡◌, ℕ, zero, suc, ◌<◌, ◌≤◌, Bool, true, false, List, [], ◌∷◌, ◌++◌, length, map, set, get_or, refl, ap, ap₂, sym, subst, ◌∙◌, arith}
use Rattle.std.proofs.lemmas.List.{length-set, get_or-set_same, get_or-set_other, append-nil, ext_get_or, map-append}
use Rattle.std.proofs.lemmas.Bool.{eqb-true, eqb-false}
use Rattle.std.specs.Prelude.{option_map, Option, Some, None, nat_eq, if◌then◌else◌}
use Rattle.plus_fraction.specs.Fraction.{Fraction}
use Rattle.plus_model.specs.Terms.{State}
use Rattle.plus_model.specs.Value.{fluent_of}
use Rattle.plus_state.specs.Node.{Node}
use Rattle.plus_state.specs.Asked.{NodeFits, AllFit, FirstUnfit}
use Rattle.plus_state.specs.Stops.{as_list}
use Rattle.plus_state.specs.Due.{Update, updated}
use Rattle.plus_state.specs.Steps.{updated_nodes}
use Rattle.plus_state.proofs.Testing.{pass_none, pass_append, fail_left, fail_right}
use Rattle.plus_state.specs.Changes.{patched_list, AreIn, Over, Rises}
use Rattle.plus_state.proofs.PatchLemmas.{length-patched}
use Rattle.plus_state.specs.Writes.{on, From, Ordered, Sorts, value_at, after, walk, shut, is_open, at_open}

pub in_append : {A : Type 0} (n : ℕ) (xs ys : List (ℕ × A)) → AreIn n xs → AreIn n ys → AreIn n (xs ++ ys)
in_append n [] ys h g = g
in_append n (x ∷ xs) ys h g = (h.0, in_append n xs ys h.1 g)

in_more : {A : Type 0} (m n : ℕ) (xs : List (ℕ × A)) → m ≤ n → AreIn m xs → AreIn n xs
in_more m n [] l h = tt
in_more m n (x ∷ xs) l h = (omega (arith, l, h.0), in_more m n xs l h.1)

over_append : {A : Type 0} (k : ℕ) (xs : List (ℕ × A)) (c : ℕ × A) → Over k xs → k < c.0 → Over k (xs ++ c ∷ [])
over_append k [] c h l = (l, tt)
over_append k (x ∷ xs) c h l = (h.0, over_append k xs c h.1 l)

pub rises_append : {A : Type 0} (xs : List (ℕ × A)) (c : ℕ × A) → Rises xs → AreIn c.0 xs → Rises (xs ++ c ∷ [])
rises_append [] c h i = (tt, tt)
rises_append (x ∷ xs) c h i = (over_append x.0 xs c h.0 i.0, rises_append xs c h.1 i.1)

pub patched_append : {A : Type 0} (xs ys : List (ℕ × A)) (v : List A) → patched_list (xs ++ ys) v ≡ patched_list ys (patched_list xs v)
patched_append [] ys v = refl
patched_append (x ∷ xs) ys v = patched_append xs ys _

set_twice : {A : Type 0} (v : List A) (k : ℕ) (a b : A) → set (set v k a) k b ≡ set v k b
set_twice [] k a b = refl
set_twice (x ∷ v) zero a b = refl
set_twice (x ∷ v) (suc k) a b = ap (λ l. x ∷ l) (set_twice v k a b)

pub patched_out : {A : Type 0} (k : ℕ) (xs : List (ℕ × A)) (v : List A) (d : A) → AreIn k xs → get_or (patched_list xs v) k d ≡ get_or v k d
patched_out k [] v d h = refl
patched_out k (x ∷ xs) v d h = patched_out k xs _ d h.1 ∙ get_or-set_other v x.0 k x.1 d (λ e. omega (arith, h.0, e))

pub value_get : (vs : List (Option Fraction)) (f : ℕ) → value_at vs f ≡ get_or vs f None
value_get [] f = refl
value_get (v ∷ vs) zero = refl
value_get (v ∷ vs) (suc f) = value_get vs f

-- those ended are before the open one, which is not behind what is left
abbrev pub UnderOpen : {A : Type 0} → Option (ℕ × A) → List (ℕ × A) → Type 0
UnderOpen None cs = cs ≡ []
UnderOpen (Some c) cs = AreIn c.0 cs

abbrev pub Near : {A B : Type 0} → Option (ℕ × A) → List (ℕ × B) → Type 0
Near None rest = Unit {0}
Near (Some c) rest = From c.0 rest

pub record Opening {A B : Type 0} (cs : List (ℕ × A)) (o : Option (ℕ × A)) (rest : List (ℕ × B)) : Type 0 where
  pub rises : Rises cs
  pub under : UnderOpen o cs
  pub near : Near o rest
  pub order : Ordered rest

shut_by : {A : Type 0} (cs : List (ℕ × A)) (c : ℕ × A) (k : ℕ) (b : Bool) → nat_eq c.0 k ≡ b → Rises cs → AreIn c.0 cs → c.0 ≤ k → Rises (cs ++ (if b then [] else c ∷ [])) × AreIn k (cs ++ (if b then [] else c ∷ []))
shut_by cs c k true e r u l = subst (λ xs. Rises xs × AreIn k xs) (sym (append-nil cs)) (r, in_more c.0 k cs l u)
shut_by cs c k false e r u l =
    let n = eqb-false c.0 k e in
    let below : c.0 < k = omega (arith, l, n) in
    (rises_append cs c r u, in_append k cs (c ∷ []) (in_more c.0 k cs l u) (below, tt))

shut_rises : {A B : Type 0} (cs : List (ℕ × A)) (o : Option (ℕ × A)) (p : ℕ × B) (rest : List (ℕ × B)) → Opening cs o (p ∷ rest) → Rises (cs ++ shut o p.0) × AreIn p.0 (cs ++ shut o p.0)
shut_rises cs None p rest h = let e : [] ≡ cs ++ [] = sym (append-nil cs ∙ h.under) in subst (λ xs. Rises xs × AreIn p.0 xs) e (tt, tt)
shut_rises cs (Some c) p rest h = shut_by cs c p.0 _ refl h.rises h.under h.near.0

pub opening_next : {A B : Type 0} (cs new : List (ℕ × A)) (o o' : Option (ℕ × A)) (p : ℕ × B) (w : A) (rest : List (ℕ × B)) → Opening cs o (p ∷ rest) → new ≡ cs ++ shut o p.0 → o' ≡ Some (p.0, w) → Opening new o' rest
opening_next cs new o o' p w rest h e g =
    let r = shut_rises cs o p rest h in
    subst (λ x. Opening new x rest) (sym g) (subst (λ x. Opening x (Some (p.0, w)) rest) (sym e) (record { rises = r.0; under = r.1; near = h.order.0; order = h.order.1 }))

pub opening_end : {A B : Type 0} (cs : List (ℕ × A)) (o : Option (ℕ × A)) → Opening {B = B} cs o [] → Rises (cs ++ as_list o)
opening_end cs None h = subst Rises (sym (append-nil cs)) h.rises
opening_end cs (Some c) h = rises_append cs c h.rises h.under

shut_in_by : {A : Type 0} (n : ℕ) (c : ℕ × A) (b : Bool) → AreIn n (c ∷ []) → AreIn n (if b then [] else c ∷ [])
shut_in_by n c true h = tt
shut_in_by n c false h = h

shut_in : {A : Type 0} (n k : ℕ) (o : Option (ℕ × A)) → AreIn n (as_list o) → AreIn n (shut o k)
shut_in n k None h = tt
shut_in n k (Some c) h = shut_in_by n c (nat_eq c.0 k) h

pub in_left : {A : Type 0} (n : ℕ) (xs ys : List (ℕ × A)) → AreIn n (xs ++ ys) → AreIn n xs
in_left n [] ys h = tt
in_left n (x ∷ xs) ys h = (h.0, in_left n xs ys h.1)

pub in_right : {A : Type 0} (n : ℕ) (xs ys : List (ℕ × A)) → AreIn n (xs ++ ys) → AreIn n ys
in_right n [] ys h = h
in_right n (x ∷ xs) ys h = in_right n xs ys h.1

pub in_next : {A : Type 0} (n k : ℕ) (cs new : List (ℕ × A)) (o o' : Option (ℕ × A)) (w : A) → AreIn n (cs ++ as_list o) → k < n → new ≡ cs ++ shut o k → o' ≡ Some (k, w) → AreIn n (new ++ as_list o')
in_next n k cs new o o' w h l e g =
    subst (λ x. AreIn n (new ++ as_list x)) (sym g) (in_append n new ((k, w) ∷ []) (subst (AreIn n) (sym e) (in_append n cs (shut o k) (in_left n cs _ h) (shut_in n k o (in_right n cs _ h)))) (l, tt))

over_by : {A : Type 0} (c : ℕ × A) (k : ℕ) (w : A) (v : List A) (b : Bool) → nat_eq c.0 k ≡ b → set (patched_list (if b then [] else c ∷ []) v) k w ≡ set (set v c.0 c.1) k w
over_by c k w v true e = sym (set_twice v k c.1 w) ∙ ap (λ (n : ℕ). set (set v n c.1) k w) (sym (eqb-true c.0 k e))
over_by c k w v false e = refl

over_open : {A : Type 0} (o : Option (ℕ × A)) (k : ℕ) (w : A) (v : List A) → set (patched_list (shut o k) v) k w ≡ set (patched_list (as_list o) v) k w
over_open None k w v = refl
over_open (Some c) k w v = over_by c k w v _ refl

-- one more write
pub patched_next : {A : Type 0} (cs new : List (ℕ × A)) (o o' : Option (ℕ × A)) (k : ℕ) (w : A) (v : List A) → new ≡ cs ++ shut o k → o' ≡ Some (k, w) → patched_list (new ++ as_list o') v ≡ set (patched_list (cs ++ as_list o) v) k w
patched_next cs new o o' k w v e g =
    ap₂ (λ xs x. patched_list (xs ++ as_list x) v) e g ∙ patched_append (cs ++ shut o k) ((k, w) ∷ []) v ∙ ap (λ l. set l k w) (patched_append cs (shut o k) v)
    ∙ over_open o k w (patched_list cs v) ∙ ap (λ l. set l k w) (sym (patched_append cs (as_list o) v))

at_by : (c : ℕ × Option Fraction) (k : ℕ) (cs : List (ℕ × Option Fraction)) (vs : List (Option Fraction)) (b : Bool) → nat_eq c.0 k ≡ b → AreIn c.0 cs → c.0 ≤ k → k < length vs → (if b then c.1 else value_at vs k) ≡ get_or (set (patched_list cs vs) c.0 c.1) k None
at_by c k cs vs true e u l m =
    let same : c.0 ≡ k = eqb-true c.0 k e in
    subst (λ (n : ℕ). c.1 ≡ get_or (set (patched_list cs vs) n c.1) k None) (sym same) (sym (get_or-set_same (patched_list cs vs) k c.1 None (subst (λ (n : ℕ). k < n) (sym (length-patched cs vs)) m)))
at_by c k cs vs false e u l m =
    let n = eqb-false c.0 k e in
    value_get vs k ∙ sym (patched_out k cs vs None (in_more c.0 k cs l u)) ∙ sym (get_or-set_other (patched_list cs vs) c.0 k c.1 None (λ g. n (sym g)))

-- the value where a change may be open
pub at_is : {B : Type 0} (cs : List (ℕ × Option Fraction)) (o : Option (ℕ × Option Fraction)) (p : ℕ × B) (rest : List (ℕ × B)) (vs : List (Option Fraction)) → Opening cs o (p ∷ rest) → p.0 < length vs → at_open o p.0 (value_at vs p.0) ≡ value_at (patched_list (cs ++ as_list o) vs) p.0
at_is cs None p rest vs h m = ap (λ xs. value_at (patched_list xs vs) p.0) (sym (append-nil cs ∙ h.under))
at_is cs (Some c) p rest vs h m =
    at_by c p.0 cs vs _ refl h.under h.near.0 m ∙ sym (value_get _ p.0) ∙ ap (λ l. value_at l p.0) (sym (patched_append cs (c ∷ []) vs))

-- how far the writes on fluents are done
pub record Valuing (fits : Fraction → Type 0) (cs : List (ℕ × Option Fraction)) (o : Option (ℕ × Option Fraction)) (rest whole : List (ℕ × Update)) (vs : List (Option Fraction)) : Type 0 where
  pub opening : Opening cs o rest
  pub left : AreIn (length vs) rest
  pub done : AreIn (length vs) (cs ++ as_list o)
  pub so_far : after rest (patched_list (cs ++ as_list o) vs) ≡ after whole vs
  pub fit : AllFit fits (walk rest (patched_list (cs ++ as_list o) vs)) → AllFit fits (walk whole vs)
  pub unfit : (m : Node) → FirstUnfit fits (walk rest (patched_list (cs ++ as_list o) vs)) m → FirstUnfit fits (walk whole vs) m

module _ (fits : Fraction → Type 0) (cs : List (ℕ × Option Fraction)) (o : Option (ℕ × Option Fraction)) (p : ℕ × Update) (rest whole : List (ℕ × Update)) (s : State) (x : Option Fraction) where
  abbrev now : List (Option Fraction)
  now = patched_list (cs ++ as_list o) s.fluents

  valuing_at : Valuing fits cs o (p ∷ rest) whole s.fluents → x ≡ at_open o p.0 (fluent_of s p.0) → x ≡ value_at now p.0
  valuing_at h e = e ∙ at_is cs o p rest s.fluents h.opening h.left.0

  pub valuing_err : (m : Node) → Valuing fits cs o (p ∷ rest) whole s.fluents → x ≡ at_open o p.0 (fluent_of s p.0) → FirstUnfit fits (updated_nodes p.1.op p.1.amount x) m → FirstUnfit fits (walk whole s.fluents) m
  valuing_err m h e u = h.unfit m (fail_left (NodeFits fits) _ _ m (subst (λ (v : Option Fraction). FirstUnfit fits (updated_nodes p.1.op p.1.amount v) m) (valuing_at h e) u))

  pub valuing_next : (new : List (ℕ × Option Fraction)) (o' : Option (ℕ × Option Fraction)) (w : Option Fraction) → Valuing fits cs o (p ∷ rest) whole s.fluents → x ≡ at_open o p.0 (fluent_of s p.0) → AllFit fits (updated_nodes p.1.op p.1.amount x) → w ≡ updated p.1.op p.1.amount x → new ≡ cs ++ shut o p.0 → o' ≡ Some (p.0, w) → Valuing fits new o' rest whole s.fluents
  valuing_next new o' w h e a k n g =
      let at = valuing_at h e in
      let made : w ≡ updated p.1.op p.1.amount (value_at now p.0) = k ∙ ap (updated p.1.op p.1.amount) at in
      let is : patched_list (new ++ as_list o') s.fluents ≡ set now p.0 (updated p.1.op p.1.amount (value_at now p.0)) = patched_next cs new o o' p.0 w s.fluents n g ∙ ap (set now p.0) made in
      record {
        opening = opening_next cs new o o' p w rest h.opening n g;
        left = h.left.1;
        done = in_next _ p.0 cs new o o' w h.done h.left.0 n g;
        so_far = ap (after rest) is ∙ h.so_far;
        fit = λ r. h.fit (pass_append (NodeFits fits) _ _ (subst (λ (v : Option Fraction). AllFit fits (updated_nodes p.1.op p.1.amount v)) at a) (subst (λ l. AllFit fits (walk rest l)) is r));
        unfit = λ m r. h.unfit m (fail_right (NodeFits fits) _ _ m (subst (λ (v : Option Fraction). AllFit fits (updated_nodes p.1.op p.1.amount v)) at a) (subst (λ l. FirstUnfit fits (walk rest l) m) is r));
      }

pub valuing_end : (fits : Fraction → Type 0) (cs end : List (ℕ × Option Fraction)) (o : Option (ℕ × Option Fraction)) (whole : List (ℕ × Update)) (vs : List (Option Fraction)) → Valuing fits cs o [] whole vs → end ≡ cs ++ as_list o → AllFit fits (walk whole vs) × (patched_list end vs ≡ after whole vs) × Rises end × AreIn (length vs) end
valuing_end fits cs end o whole vs h e =
    (h.fit (pass_none (NodeFits fits)), ap (λ l. patched_list l vs) e ∙ h.so_far, subst Rises (sym e) (opening_end cs o h.opening), subst (AreIn (length vs)) (sym e) h.done)

-- how far the writes on atoms are gone through
pub record Lasting (cs : List (ℕ × Bool)) (o : Option (ℕ × Bool)) (rest whole : List (ℕ × Bool)) : Type 0 where
  pub opening : Opening cs o rest
  pub inside : (n : ℕ) → AreIn n whole → AreIn n rest × AreIn n (cs ++ as_list o)
  pub so_far : (bs : List Bool) → patched_list rest (patched_list (cs ++ as_list o) bs) ≡ patched_list whole bs

pub lasting_next : (cs new : List (ℕ × Bool)) (o o' : Option (ℕ × Bool)) (p : ℕ × Bool) (rest whole : List (ℕ × Bool)) → Lasting cs o (p ∷ rest) whole → new ≡ cs ++ shut o p.0 → o' ≡ Some p → Lasting new o' rest whole
lasting_next cs new o o' p rest whole h n g = record {
  opening = opening_next cs new o o' p p.1 rest h.opening n g;
  inside = λ m i. let k = h.inside m i in (k.0.1, in_next m p.0 cs new o o' p.1 k.1 k.0.0 n g);
  so_far = λ bs. ap (patched_list rest) (patched_next cs new o o' p.0 p.1 bs n g) ∙ h.so_far bs;
}

pub lasting_end : (cs end : List (ℕ × Bool)) (o : Option (ℕ × Bool)) (whole : List (ℕ × Bool)) → Lasting cs o [] whole → end ≡ cs ++ as_list o → Rises end × ((n : ℕ) → AreIn n whole → AreIn n end) × ((bs : List Bool) → patched_list end bs ≡ patched_list whole bs)
lasting_end cs end o whole h e =
    (subst Rises (sym e) (opening_end cs o h.opening), λ n i. subst (AreIn n) (sym e) (h.inside n i).1, λ bs. ap (λ l. patched_list l bs) e ∙ h.so_far bs)

-- numbers that rise where none is that of the one before it
over_less : {A : Type 0} (j k : ℕ) (xs : List (ℕ × A)) → j ≤ k → Over k xs → Over j xs
over_less j k [] l h = tt
over_less j k (x ∷ xs) l h = (omega (arith, l, h.0), over_less j k xs l h.1)

abbrev OverOpen : {A : Type 0} → Option (ℕ × A) → List (ℕ × A) → Type 0
OverOpen None rest = Unit {0}
OverOpen (Some c) rest = Over c.0 rest

pub record Rising {A : Type 0} (o : Option (ℕ × A)) (rest whole : List (ℕ × A)) : Type 0 where
  pub order : Ordered rest
  pub near : Near o rest
  pub so_far : OverOpen o rest × Rises rest → Rises whole

behind_open : {A : Type 0} (o : Option (ℕ × A)) (p : ℕ × A) (rest : List (ℕ × A)) → Near o (p ∷ rest) → is_open o p.0 ≡ false → Over p.0 rest → OverOpen o (p ∷ rest)
behind_open None p rest n e h = tt
behind_open (Some c) p rest n e h =
    let d = eqb-false c.0 p.0 e in
    let l : c.0 < p.0 = omega (arith, n.0, d) in
    (l, over_less c.0 p.0 rest (omega (arith, l)) h)

pub rising_next : {A : Type 0} (o o' : Option (ℕ × A)) (p : ℕ × A) (rest whole : List (ℕ × A)) → Rising o (p ∷ rest) whole → is_open o p.0 ≡ false → o' ≡ Some p → Rising o' rest whole
rising_next o o' p rest whole h e g = subst (λ x. Rising x rest whole) (sym g) (record {
  order = h.order.1;
  near = h.order.0;
  so_far = λ r. h.so_far (behind_open o p rest h.near e r.0, r);
})

pub rising_end : {A : Type 0} (o : Option (ℕ × A)) (whole : List (ℕ × A)) → Rising o [] whole → Rises whole
rising_end None whole h = h.so_far (tt, tt)
rising_end (Some c) whole h = h.so_far (tt, tt)

-- the last write on each number counts
abbrev last_of : {A : Type 0} → List A → A → A
last_of [] d = d
last_of (x ∷ xs) d = last_of xs x

last_by : {A : Type 0} (k : ℕ) (p : ℕ × A) (ps : List (ℕ × A)) (v : List A) (d : A) (b : Bool) → nat_eq k p.0 ≡ b → k < length v → last_of (on k ps) (get_or (set v p.0 p.1) k d) ≡ last_of (if b then p.1 ∷ on k ps else on k ps) (get_or v k d)
last_by k p ps v d true e l = ap (last_of (on k ps)) (ap (λ (n : ℕ). get_or (set v n p.1) k d) (sym (eqb-true k p.0 e)) ∙ get_or-set_same v k p.1 d l)
last_by k p ps v d false e l = ap (last_of (on k ps)) (get_or-set_other v p.0 k p.1 d (eqb-false k p.0 e))

last_is : {A : Type 0} (k : ℕ) (ps : List (ℕ × A)) (v : List A) (d : A) → k < length v → get_or (patched_list ps v) k d ≡ last_of (on k ps) (get_or v k d)
last_is k [] v d l = refl
last_is k (p ∷ ps) v d l = last_is k ps (set v p.0 p.1) d (subst (λ (n : ℕ). k < n) (sym (length-set v p.0 p.1)) l) ∙ last_by k p ps v d _ refl l

pub sorted_patched : (xs ys : List (ℕ × Bool)) (bs : List Bool) → Sorts xs ys → patched_list ys bs ≡ patched_list xs bs
sorted_patched xs ys bs s = ext_get_or false _ _ (length-patched ys bs ∙ sym (length-patched xs bs)) (λ k h.
    let l : k < length bs = rw length-patched at h in
    last_is k ys bs false l ∙ ap (λ us. last_of us (get_or bs k false)) (s.same k) ∙ sym (last_is k xs bs false l))

-- the change that is open is ended, or there is none
pub ended_some : {X A : Type 0} (f : X → ℕ × A) (old new : List X) (last : Option X) (c : X) → new ≡ old ++ c ∷ [] → last ≡ Some c → map f new ≡ map f old ++ as_list (option_map f last)
ended_some f old new last c n e = ap (map f) n ∙ map-append f old (c ∷ []) ∙ ap (λ o. map f old ++ as_list (option_map f o)) (sym e)

pub ended_none : {X A : Type 0} (f : X → ℕ × A) (old : List X) (last : Option X) → last ≡ None → map f old ≡ map f old ++ as_list (option_map f last)
ended_none f old last e = sym (append-nil (map f old)) ∙ ap (λ o. map f old ++ as_list (option_map f o)) (sym e)
