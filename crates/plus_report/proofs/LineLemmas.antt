-- Lines that a loop puts, one for each number.
use Rattle.std.proofs.Common.{◌≡◌, ℕ, ◌+◌, ◌<◌, ◌≤◌, List, [], ◌∷◌, ◌++◌, Option, Result, Ok, ap, refl, sym, ◌∙◌, arith, length, get_or, take, drop, append-nil, take-append-drop}
use Rattle.std.proofs.lemmas.Grind.{take_at_read, flat_map-append}
use Rattle.std.proofs.lemmas.List.{map-append, take_all}
use Rattle.std.specs.List.{flat_map}
use Rattle.std.specs.Prelude.{IsErr, map}
use Rattle.plus_report.specs.Puts.{Puts}
use Rattle.plus_report.specs.Text.{lines_below}
use Rattle.plus_report.proofs.PutsLemmas.{both, early, worded, nothing}
use Rattle.plus_report.proofs.TextLemmas.{lines_below-more, lines_below-rest}

module _ {O E : Type 0} {taken : O → Option (List ℕ)} {faults : O → ℕ} (line : ℕ → List ℕ) where
  pub no_line : {x : O} {v : List ℕ}
      → Puts {T = Unit {0}} {E = E} taken faults x x v v (lines_below line 0) (Ok tt)
  unfolding lines_below
  no_line = nothing tt

  -- one more line
  pub next_line : {x y z : O} {v w u a : List ℕ} {r : Result (Unit {0}) E} (i j : ℕ)
      → Puts {T = Unit {0}} {E = E} taken faults x y v w (lines_below line i) (Ok tt)
      → Puts taken faults y z w u a r → a ≡ line i → j ≡ i + 1
      → Puts taken faults x z v u (lines_below line j) r
  next_line i j p q e d = worded (both p q) (ap (λ t. lines_below line i ++ t) e ∙ lines_below-more line i j d)

  -- a fault in a line
  pub last_line : {x y z : O} {v w u a : List ℕ} {r : Result (Unit {0}) E} (i n : ℕ)
      → Puts {T = Unit {0}} {E = E} taken faults x y v w (lines_below line i) (Ok tt)
      → Puts taken faults y z w u a r → a ≡ line i → i < n → IsErr r
      → Puts taken faults x z v u (lines_below line n) r
  last_line i n p q e l h =
      let rest = lines_below-rest line (i + 1) n (omega (arith, l)) in
      worded (early rest.0 (next_line i (i + 1) p q e refl) h) rest.1

  -- no more lines
  pub all_lines : {x y : O} {v w : List ℕ} (i n : ℕ)
      → Puts {T = Unit {0}} {E = E} taken faults x y v w (lines_below line i) (Ok tt) → i ≡ n
      → Puts {T = Unit {0}} {E = E} taken faults x y v w (lines_below line n) (Ok tt)
  all_lines i n p e = worded p (ap (lines_below line) e)

module _ {A B : Type 0} (text : B → List ℕ) (id : A → B) (xs : List A) where
  texts-more : (i : ℕ) (x : A) → i < length xs → x ≡ get_or xs i x
      → flat_map text (map id (take i xs)) ++ text (id x) ≡ flat_map text (map id (take (i + 1) xs))
  texts-more i x h e =
      sym (ap (λ ys. flat_map text (map id ys)) ((take_at_read xs i x h).1 ∙ ap (λ y. take i xs ++ y ∷ []) (sym e)) ∙ ap (flat_map text) (map-append id (take i xs) (x ∷ [])) ∙ flat_map-append text (map id (take i xs)) (id x ∷ []) ∙ ap (λ t. flat_map text (map id (take i xs)) ++ t) (append-nil (text (id x))))

  texts-rest : (i : ℕ)
      → (rest : List ℕ) × (flat_map text (map id (take i xs)) ++ rest ≡ flat_map text (map id xs))
  texts-rest i =
      (flat_map text (map id (drop i xs)), sym (ap (λ ys. flat_map text (map id ys)) (sym (take-append-drop i xs)) ∙ ap (flat_map text) (map-append id (take i xs) (drop i xs)) ∙ flat_map-append text (map id (take i xs)) (map id (drop i xs))))

-- texts that a loop puts, one for each member of a list
module _ {O E A B : Type 0} {taken : O → Option (List ℕ)} {faults : O → ℕ} (text : B → List ℕ) (id : A → B) (xs : List A) where
  pub no_text : {x : O} {v : List ℕ}
      → Puts {T = Unit {0}} {E = E} taken faults x x v v (flat_map text (map id (take 0 xs))) (Ok tt)
  no_text = nothing tt

  pub next_text : {x y z : O} {v w u a : List ℕ} {r : Result (Unit {0}) E} (i : ℕ) (e : A)
      → Puts {T = Unit {0}} {E = E} taken faults x y v w (flat_map text (map id (take i xs))) (Ok tt)
      → Puts taken faults y z w u a r → a ≡ text (id e) → i < length xs
      → e ≡ get_or xs i e
      → Puts taken faults x z v u (flat_map text (map id (take (i + 1) xs))) r
  next_text i e p q d h g = worded (both p q) (ap (λ t. flat_map text (map id (take i xs)) ++ t) d ∙ texts-more text id xs i e h g)

  pub last_text : {x y z : O} {v w u a : List ℕ} {r : Result (Unit {0}) E} (i : ℕ) (e : A)
      → Puts {T = Unit {0}} {E = E} taken faults x y v w (flat_map text (map id (take i xs))) (Ok tt)
      → Puts taken faults y z w u a r → a ≡ text (id e) → i < length xs
      → e ≡ get_or xs i e → IsErr r → Puts taken faults x z v u (flat_map text (map id xs)) r
  last_text i e p q d h g f =
      let rest = texts-rest text id xs (i + 1) in
      worded (early rest.0 (next_text i e p q d h g) f) rest.1

  pub all_texts : {x y : O} {v w : List ℕ} (i : ℕ)
      → Puts {T = Unit {0}} {E = E} taken faults x y v w (flat_map text (map id (take i xs))) (Ok tt)
      → length xs ≤ i
      → Puts {T = Unit {0}} {E = E} taken faults x y v w (flat_map text (map id xs)) (Ok tt)
  all_texts i p h = worded p (ap (λ ys. flat_map text (map id ys)) (take_all i xs h))
