-- Files in memory, as lists of names and of texts.
use Rattle.std.proofs.Common.{◌≡◌, ℕ, ◌+◌, suc, ◌<◌, ◌≤◌, Bool, true, false, cond, not, List, [], ◌∷◌, ◌++◌, map, length, slice_set, slice_get, Option, Some, None, refl, sym, ◌∙◌, ap, subst, inl, inr, ◌⊎◌, ltb, get_or, ◌≢◌, Contains, length-append, arith}
use Rattle.std.proofs.lemmas.Bool.{ltb-true, ltb-false}
use Rattle.std.proofs.lemmas.List.Sums.{prefix_len_passes}
use Rattle.std.proofs.lemmas.List.Quantifiers.{position-Some}
use Rattle.std.proofs.lemmas.Option.{slice_get-get_or, get_or_from_slice_get, unwrap_or-slice_get}
use Rattle.std.specs.Option.{ForSome}
use Rattle.std.proofs.lemmas.List.{get_or_append_left}
use Rattle.std.proofs.lemmas.Slice.Eq.{bytes_eq-Decides}
use Rattle.std.specs.List.{prefix_len, position, position_or_len}
use Rattle.std.specs.Str.{bytes_eq}
use Rattle.plus_io.specs.declared.stored.File.{File}
use Rattle.plus_io.specs.Named.{names_of, texts_of}
use Rattle.plus_io.specs.Stored.{Texts, place_of, name_at, text_at, with_file, with_named}

prefix_len-map : {X Y : Type 0} (f : X → Y) (p : Y → Bool) (xs : List X) → prefix_len (λ x. p (f x)) xs ≡ prefix_len p (map f xs)
prefix_len-map f p [] = refl
prefix_len-map f p (x ∷ xs) = ap (λ n. cond (p (f x)) (1 + n) 0) (prefix_len-map f p xs)

length-map : {X Y : Type 0} (f : X → Y) (xs : List X) → length (map f xs) ≡ length xs
length-map f [] = refl
length-map f (x ∷ xs) = ap suc (length-map f xs)

-- the place is the same in the list of what is looked at
position-map : {X Y : Type 0} (f : X → Y) (p : Y → Bool) (xs : List X) → position (λ x. p (f x)) xs ≡ position p (map f xs)
position-map f p xs = rw (length-map f xs, prefix_len-map f (λ y. not (p y)) xs) refl

-- the first file with a name stands at the place of the name
pub first_named : (files : List File) (name : List ℕ) → position (λ (file : File). bytes_eq file.name.items name) files ≡ place_of (names_of files) name
first_named files name = position-map (λ (file : File). file.name.items) (λ n. bytes_eq n name) files

-- the first place that passes is inside the list, or there is none
first_cases : (n len : ℕ) → ((n < len) × (cond (ltb n len) (Some n) None ≡ Some n)) ⊎ ((len ≤ n) × (cond (ltb n len) (Some n) None ≡ None))
first_cases n len = at (ltb n len) refl where
  at : (b : Bool) → ltb n len ≡ b → ((n < len) × (cond (ltb n len) (Some n) None ≡ Some n)) ⊎ ((len ≤ n) × (cond (ltb n len) (Some n) None ≡ None))
  at true e = inl (ltb-true n len e, rw e refl)
  at false e = inr (ltb-false n len e, rw e refl)

-- no name before the first place is the one that is looked for
before_first : (names : List (List ℕ)) (name : List ℕ) (k : ℕ) → k < position_or_len (λ n. bytes_eq n name) names → get_or names k name ≢ name
before_first names name k lt same =
    let passes : not (bytes_eq (get_or names k name) name) ≡ true = prefix_len_passes (λ n. not (bytes_eq n name)) names k name lt in
    let equal : bytes_eq (get_or names k name) name ≡ true = (bytes_eq-Decides (get_or names k name) name).1 same in
    absurd (let e : not true ≡ true = subst (λ b. not b ≡ true) equal passes in cc)

-- the name at the first place is the one that is looked for
at_first : (names : List (List ℕ)) (name : List ℕ) (n : ℕ) → place_of names name ≡ Some n → n < length names → slice_get names n ≡ Some name
at_first names name n e lt =
    slice_get-get_or names n name lt
    ∙ ap Some ((bytes_eq-Decides (get_or names n name) name).0 (position-Some (λ n. bytes_eq n name) names n name e).1)

-- a name that is in the list stands at its place
pub found : (names : List (List ℕ)) (name : List ℕ) → Contains names name → name_at names (place_of names name) ≡ Some name
found names name c =
    elim (first_cases (position_or_len (λ n. bytes_eq n name) names) (length names)) [
      | inl h ↦ rw h.1 (at_first names name (position_or_len (λ n. bytes_eq n name) names) h.1 h.0)
      | inr h ↦ absurd (before_first names name c.0 (omega (arith, c.1, h.0)) c.2)
    ]

-- a name that is not in the list has no place
pub absent : (names : List (List ℕ)) (name : List ℕ) → ¬ Contains names name → place_of names name ≡ None
absent names name out =
    elim (first_cases (position_or_len (λ n. bytes_eq n name) names) (length names)) [
      | inl h ↦ absurd (out (
        position_or_len (λ n. bytes_eq n name) names,
        h.0,
        get_or_from_slice_get names (position_or_len (λ n. bytes_eq n name) names) name name (at_first names name (position_or_len (λ n. bytes_eq n name) names) h.1 h.0),
      ))
      | inr h ↦ h.1
    ]

-- the text at a place inside the list stays where one more is put behind it
text_at-push : (texts : List (List ℕ)) (place : Option ℕ) (text : List ℕ) → ForSome place (λ p. p < length texts) → text_at (texts ++ text ∷ []) place ≡ text_at texts place
text_at-push texts None text within = refl
text_at-push texts (Some p) text within =
    let lt : p < length texts = within p refl in
    unwrap_or-slice_get (texts ++ text ∷ []) p [] ∙ get_or_append_left texts (text ∷ []) [] p lt ∙ sym (unwrap_or-slice_get texts p [])

-- what is picked stays the same where a file is put behind the others
pub same_text : (files files' : List File) (picked : Option ℕ) (text : List ℕ) → texts_of files' ≡ texts_of files ++ text ∷ []
    → ForSome picked (λ p. p < length files) → text_at (texts_of files') picked ≡ text_at (texts_of files) picked
same_text files files' picked text more within =
    let within' : ForSome picked (λ p. p < length (texts_of files)) = λ p e. rw (length-map (λ (f : File). f.bytes.items) files) (within p e) in
    rw more (text_at-push (texts_of files) picked text within')

-- and it stays inside
pub inside-push : (files files' : List File) (picked : Option ℕ) (at : ℕ) (text : List ℕ) → texts_of files' ≡ texts_of files ++ text ∷ []
    → ForSome picked (λ p. p < length files) → at ≤ length (text_at (texts_of files) picked)
    → ForSome picked (λ p. p < length files') × (at ≤ length (text_at (texts_of files') picked))
inside-push files files' picked at text more within before =
    let long : length files' ≡ length files + 1 =
    omega (arith, ap length more, length-map (λ (f : File). f.bytes.items) files, length-map (λ (f : File). f.bytes.items) files', length-append (texts_of files) (text ∷ [])) in
    (λ p e. omega (arith, within p e), rw (same_text files files' picked text more within) before)

-- an empty file is put under a new name
pub with_named-new : (t : Texts) (name : List ℕ) (names texts : List (List ℕ)) (rest : List ℕ) → place_of t.names name ≡ None → names ≡ t.names ++ name ∷ [] → texts ≡ t.texts ++ [] ∷ [] → rest ≡ t.rest
    → record { names = names; texts = texts; most = t.most; picked = t.picked; rest = rest } ≡ with_named (place_of t.names name) t name
with_named-new t name names texts rest absent longer more same = rw (absent, longer, more, same) refl
