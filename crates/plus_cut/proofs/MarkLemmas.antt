-- Marks that are set one after the other.
use Rattle.std.proofs.Common.{◌≡◌, ◌⊎◌, inl, inr, ℕ, ◌<◌, ◌≤◌, ◌+◌, Bool, true, false, ◌||◌, ◌&&◌, nat_eq, List, [], ◌∷◌, length, map, drop, get_or, set, replicate, refl, ap, sym, subst, ◌∙◌, arith, length-set, get_or-set_same, get_or-set_other}
use Rattle.std.proofs.lemmas.List.{get_or-replicate, length-replicate}
use Rattle.std.proofs.lemmas.Bool.{eq-eqb, ne_eqb, cases_eq, or_right}
use Rattle.plus_state.proofs.TestsLemmas.{next_member, no_member}
use Rattle.plus_cut.specs.Marks.{Marks}

or_none : (x y : Bool) → y ≡ false → x ≡ (x || y)
or_none true y e = refl
or_none false y e = sym e

or_joined : (x y z both : Bool) → (y || z) ≡ both → ((x || y) || z) ≡ (x || both)
or_joined true y z both e = refl
or_joined false y z both e = e

-- ---- one mark

-- nothing is marked
pub marks_none : (bs : List Bool) (f : ℕ → Bool) → ((a : ℕ) → a < length bs → f a ≡ false) → Marks bs bs f
marks_none bs f n = record { long = refl; each = λ a h. or_none (get_or bs a false) (f a) (n a h) }

-- an atom behind the last mark
pub mark_past : (bs : List Bool) (i : ℕ) → length bs ≤ i → Marks bs bs (λ a. nat_eq a i)
mark_past bs i h = marks_none bs (λ a. nat_eq a i) (λ a l. ne_eqb a i (λ e. omega arith))

set_one : (bs : List Bool) (i a : ℕ) → i < length bs → (a ≡ i) ⊎ (a ≡ i → ⊥) → get_or (set bs i true) a false ≡ (get_or bs a false || nat_eq a i)
set_one bs i a h (inl e) =
    ap (λ (x : ℕ). get_or (set bs i true) x false) e ∙ get_or-set_same bs i true false h ∙ sym (or_right (get_or bs a false) (nat_eq a i) (eq-eqb a i e))
set_one bs i a h (inr n) = get_or-set_other bs i a true false n ∙ or_none (get_or bs a false) (nat_eq a i) (ne_eqb a i n)

pub mark_set : (bs new : List Bool) (i : ℕ) → i < length bs → new ≡ set bs i true → Marks bs new (λ a. nat_eq a i)
mark_set bs new i h e =
    subst (λ (cs : List Bool). Marks bs cs (λ a. nat_eq a i)) (sym e)
    (record { long = length-set bs i true; each = λ a l. set_one bs i a h (cases_eq a i) })

-- a literal that clears its atom marks nothing
pub mark_not : (bs : List Bool) (i : ℕ) (positive : Bool) → positive ≡ false → Marks bs bs (λ a. positive && nat_eq a i)
mark_not bs i positive e = marks_none bs (λ a. positive && nat_eq a i) (λ a h. ap (λ (p : Bool). p && nat_eq a i) e)

pub mark_so : (bs new : List Bool) (i : ℕ) (positive : Bool) → positive ≡ true → Marks bs new (λ a. nat_eq a i) → Marks bs new (λ a. positive && nat_eq a i)
mark_so bs new i positive e m = subst (λ (p : Bool). Marks bs new (λ a. p && nat_eq a i)) (sym e) m

-- ---- one after the other

pub marks_then : (a b c : List Bool) (f g : ℕ → Bool) → Marks a b f → Marks b c g → Marks a c (λ x. f x || g x)
marks_then a b c f g p q = record {
  long = q.long ∙ p.long;
  each = λ x h.
      q.each x (subst (λ (n : ℕ). x < n) (sym p.long) h) ∙ ap (λ (y : Bool). y || g x) (p.each x h) ∙ or_joined (get_or a x false) (f x) (g x) (f x || g x) refl;
}

-- What is marked, or still to come, is what is marked in all.
pub record Marking (old now : List Bool) (all rest : ℕ → Bool) : Type 0 where
  pub long : length now ≡ length old
  pub each : (a : ℕ) → a < length old → (get_or now a false || rest a) ≡ (get_or old a false || all a)

pub marking_start : (bs : List Bool) (all : ℕ → Bool) → Marking bs bs all all
marking_start bs all = record { long = refl; each = λ a h. refl }

module _ {A B : Type 0} (f : A → B) (one : ℕ → B → Bool) (some : ℕ → List B → Bool) (cons : (a : ℕ) (b : B) (bs : List B) → some a (b ∷ bs) ≡ (one a b || some a bs)) (xs : List A) (old now : List Bool) (i : ℕ) where
  pub marking_next :
      (new : List Bool) (x : A) → i < length xs → x ≡ get_or xs i x
      → Marking old now (λ a. some a (map f xs)) (λ a. some a (map f (drop i xs))) → Marks now new (λ a. one a (f x))
      → Marking old new (λ a. some a (map f xs)) (λ a. some a (map f (drop (i + 1) xs)))
  marking_next new x h e m k = record {
    long = k.long ∙ m.long;
    each = λ a l.
        ap (λ (y : Bool). y || some a (map f (drop (i + 1) xs))) (k.each a (subst (λ (n : ℕ). a < n) (sym m.long) l))
        ∙ or_joined (get_or now a false) (one a (f x)) (some a (map f (drop (i + 1) xs))) (some a (map f (drop i xs)))
        (sym (ap (some a) (next_member f xs i x h e) ∙ cons a (f x) (map f (drop (i + 1) xs))))
        ∙ m.each a l;
  }

  pub marking_end :
      ((a : ℕ) → some a [] ≡ false) → length xs ≤ i → Marking old now (λ a. some a (map f xs)) (λ a. some a (map f (drop i xs)))
      → Marks old now (λ a. some a (map f xs))
  marking_end none h m = record {
    long = m.long;
    each = λ a l. or_none (get_or now a false) (some a (map f (drop i xs))) (ap (some a) (no_member f xs i h) ∙ none a) ∙ m.each a l;
  }

-- from no marks on
pub marks_from_none : (n : ℕ) (marks : List Bool) (f : ℕ → Bool) → Marks (replicate n false) marks f → (a : ℕ) → a < n → get_or marks a false ≡ f a
marks_from_none n marks f m a h =
    m.each a (subst (λ (k : ℕ). a < k) (sym (length-replicate n false)) h) ∙ ap (λ (y : Bool). y || f a) (get_or-replicate n a false false h)
