-- Timed literals one by one.
use Rattle.std.specs.Prelude.{◌≡◌, ℕ, zero, suc, ◌+◌, ◌<◌, ◌≤◌, Bool, List, [], ◌∷◌, ◌++◌, length, take, drop, get_or, map, filter, All, refl, Option}
use Rattle.std.specs.List.{flat_map}
use Rattle.std.proofs.lemmas.List.{map-append}
use Rattle.std.proofs.Common.{ap, sym, ◌∙◌, subst, arith, add-one, append-nil, append_assoc, drop-cons}
use Rattle.std.proofs.Math.Seq.{take-suc}
use Rattle.std.proofs.lemmas.List.{take-append-drop, take_all}
use Rattle.std.proofs.lemmas.List.Elements.{All-append, filter-append}
use Rattle.plus_fraction.specs.Fraction.{Fraction}
use Rattle.plus_tree.specs.declared.terms.Literal.{Literal}
use Rattle.plus_tree.specs.declared.trees.Init.{Init}
use Rattle.plus_tree.specs.Effect.{Effect}
use Rattle.plus_translation.specs.Translated.{due_by, time_of, is_later, due_effect}
use Rattle.plus_translate.specs.declared.due.Due as code
use Rattle.plus_translate.specs.declared.fault.TransFault.{TransFault}
use Rattle.plus_translate.specs.declared.fault.TransFault.TheVariants.{NameTaken, OffGrid, TooDeep, Memory}
use Rattle.plus_translate.specs.Grid.{StandsOnGrid, IsFirstOff}
use Rattle.plus_translate.specs.Dues.{due_of, dues_of, NotDue}

taken : {A : Type 0} (xs : List A) (k : ℕ) (x : A) → k < length xs → x ≡ get_or xs k x → take (suc k) xs ≡ take k xs ++ x ∷ []
taken xs k x h m = take-suc xs k x h ∙ ap (λ y. take k xs ++ y ∷ []) (sym m)

front : {A : Type 0} (xs : List A) (i : ℕ) (x : A) → i < length xs → x ≡ get_or xs i x → drop i xs ≡ x ∷ drop (suc i) xs
front xs i x h m = drop-cons xs i x h ∙ ap (λ y. y ∷ drop (suc i) xs) (sym m)

flat_map-append : {A B : Type 0} (f : A → List B) (xs : List A) (x : A) → flat_map f (xs ++ x ∷ []) ≡ flat_map f xs ++ f x
flat_map-append f [] x = append-nil (f x)
flat_map-append f (y ∷ xs) x = ap (λ ys. f y ++ ys) (flat_map-append f xs x) ∙ sym (append_assoc (f y) (flat_map f xs) (f x))

flat_map-both : {A B : Type 0} (f : A → List B) (xs ys : List A) → flat_map f (xs ++ ys) ≡ flat_map f xs ++ flat_map f ys
flat_map-both f [] ys = refl
flat_map-both f (x ∷ xs) ys = ap (λ zs. f x ++ zs) (flat_map-both f xs ys) ∙ sym (append_assoc (f x) (flat_map f xs) (flat_map f ys))

-- the members so far
pub record DuesSoFar (q : Fraction) (init : List Init) (i : ℕ) (found : List code.Due) : Type 0 where
  pub stand : All (StandsOnGrid q) (flat_map time_of (take i init))
  pub found_is : map due_of found ≡ flat_map (due_by q) (take i init)

none_yet : {A : Type 0} (P : A → Type 0) → All P []
none_yet P k d h = absurd (omega (arith, h))

pub dues_begin : (q : Fraction) (init : List Init) → DuesSoFar q init 0 []
dues_begin q init = record { stand = none_yet (StandsOnGrid q); found_is = refl }

-- behind members whose literals stand on the grid, a member with one that does not
off_behind : (q : Fraction) (before times after : List Literal) (fault : TransFault) → All (StandsOnGrid q) before → NotDue q times fault → NotDue q (before ++ (times ++ after)) fault
off_behind q before times after (NameTaken file place) a h = absurd h
off_behind q before times after (OffGrid place) a h = record {
  before = before ++ h.before;
  time = h.time;
  after = h.after ++ after;
  split = ap (λ ts. before ++ (ts ++ after)) h.split ∙ ap (λ ts. before ++ ts) (append_assoc h.before (h.time ∷ h.after) after)
      ∙ sym (append_assoc before h.before (h.time ∷ (h.after ++ after)));
  pass = All-append (StandsOnGrid q) before h.before a h.pass;
  fails = h.fails;
  place_is = h.place_is;
}
off_behind q before times after TooDeep a h = absurd h
off_behind q before times after Memory a h = tt

pub dues_off : (q : Fraction) (init : List Init) (i : ℕ) (x : Init) (found : List code.Due) (fault : TransFault) → i < length init → x ≡ get_or init i x
    → DuesSoFar q init i found → NotDue q (time_of x) fault → NotDue q (flat_map time_of init) fault
dues_off q init i x found fault h m inv off =
    subst (λ ts. NotDue q ts fault)
    (sym (ap (flat_map time_of) (sym (take-append-drop i init)) ∙ flat_map-both time_of (take i init) (drop i init)
    ∙ ap (λ xs. flat_map time_of (take i init) ++ flat_map time_of xs) (front init i x h m)))
    (off_behind q (flat_map time_of (take i init)) (time_of x) (flat_map time_of (drop (suc i) init)) fault inv.stand off)

-- one literal alone
pub alone : (q : Fraction) (t : Literal) → StandsOnGrid q t → All (StandsOnGrid q) (t ∷ [])
alone q t s zero d h = s
alone q t s (suc k) d h = absurd (omega (arith, h))

pub off_alone : (q : Fraction) (t : Literal) → (StandsOnGrid q t → ⊥) → IsFirstOff q (t ∷ []) t.span
off_alone q t h = record { before = []; time = t; after = []; split = refl; pass = none_yet (StandsOnGrid q); fails = h; place_is = refl }

pub ruleset single = (alone, off_alone)

pub kept_one : (xs : List code.Due) (x : code.Due) → map due_of (xs ++ x ∷ []) ≡ map due_of xs ++ due_of x ∷ []
kept_one xs x = map-append due_of xs (x ∷ [])

pub ruleset keeping = (kept_one, append-nil)

pub dues_more : (q : Fraction) (init : List Init) (i : ℕ) (x : Init) (found new : List code.Due) (due : Option code.Due) → i < length init → x ≡ get_or init i x
    → DuesSoFar q init i found → All (StandsOnGrid q) (time_of x) → dues_of due ≡ due_by q x → map due_of new ≡ map due_of found ++ dues_of due → DuesSoFar q init (i + 1) new
dues_more q init i x found new due h m inv a e k =
    let step : take (i + 1) init ≡ take i init ++ x ∷ [] = ap (λ n. take n init) (add-one i) ∙ taken init i x h m in
    record {
      stand = subst (λ ts. All (StandsOnGrid q) ts) (sym (ap (flat_map time_of) step ∙ flat_map-append time_of (take i init) x)) (All-append (StandsOnGrid q) _ _ inv.stand a);
      found_is = k ∙ ap (λ ds. ds ++ dues_of due) inv.found_is ∙ ap (λ ds. flat_map (due_by q) (take i init) ++ ds) e
          ∙ sym (ap (flat_map (due_by q)) step ∙ flat_map-append (due_by q) (take i init) x);
    }

pub dues_end : (q : Fraction) (init : List Init) (i : ℕ) (found : List code.Due) → length init ≤ i → DuesSoFar q init i found
    → All (StandsOnGrid q) (flat_map time_of init) × (map due_of found ≡ flat_map (due_by q) init)
dues_end q init i found h inv =
    (subst (λ xs. All (StandsOnGrid q) (flat_map time_of xs)) (take_all i init h) inv.stand, inv.found_is ∙ ap (flat_map (due_by q)) (take_all i init h))

-- ---- those after time 0
pub later_more : (xs : List code.Due) (k : ℕ) (x : code.Due) → k < length xs → x ≡ get_or xs k x
    → map due_effect (filter is_later (map due_of (take (suc k) xs)))
    ≡ map due_effect (filter is_later (map due_of (take k xs))) ++ map due_effect (filter is_later (due_of x ∷ []))
later_more xs k x h m =
    ap (λ ys. map due_effect (filter is_later (map due_of ys))) (taken xs k x h m)
    ∙ ap (λ ys. map due_effect (filter is_later ys)) (map-append due_of (take k xs) (x ∷ []))
    ∙ ap (map due_effect) (filter-append is_later (map due_of (take k xs)) (due_of x ∷ []))
    ∙ map-append due_effect (filter is_later (map due_of (take k xs))) (filter is_later (due_of x ∷ []))

pub ruleset going = (dues_begin, dues_end, dues_off)

pub later_done : (xs : List code.Due) (k : ℕ) (x : code.Due) (first into new : List Effect) → k < length xs → x ≡ get_or xs k x
    → into ≡ first ++ map due_effect (filter is_later (map due_of (take k xs))) → new ≡ into ++ map due_effect (filter is_later (due_of x ∷ []))
    → new ≡ first ++ map due_effect (filter is_later (map due_of (take (k + 1) xs)))
later_done xs k x first into new h m so_far put =
    put ∙ ap (λ ys. ys ++ map due_effect (filter is_later (due_of x ∷ []))) so_far ∙ append_assoc first _ _
    ∙ ap (λ ys. first ++ ys) (sym (ap (λ n. map due_effect (filter is_later (map due_of (take n xs)))) (add-one k) ∙ later_more xs k x h m))

-- ---- members that stay
pub staying : (p : Init → Bool) (xs : List Init) (k : ℕ) (x : Init) → k < length xs → x ≡ get_or xs k x
    → filter p (take (suc k) xs) ≡ filter p (take k xs) ++ filter p (x ∷ [])
staying p xs k x h m = ap (filter p) (taken xs k x h m) ∙ filter-append p (take k xs) (x ∷ [])
