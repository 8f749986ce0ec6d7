-- What is declared in the translation, behind what the old pair declares, leaves the old numbers as they are.
use Rattle.std.proofs.Common.{◌≡◌, ℕ, suc, ◌<◌, ◌+◌, List, [], ◌∷◌, ◌++◌, map, length, refl, ap, ap₂, sym, ◌∙◌, ◌⊎◌, inl, inr, arith, append_assoc}
use Rattle.std.specs.List.{position_or_len}
use Rattle.std.proofs.Math.Nat.{eq-or-lt_of_le}
use Rattle.std.specs.Str.{bytes_eq}
use Rattle.std.proofs.lemmas.List.{map-append}
use Rattle.plus_tree.specs.declared.terms.TypedName.{TypedName}
use Rattle.plus_tree.specs.declared.trees.Head.{Head}
use Rattle.plus_types.specs.Types.{Binding}
use Rattle.plus_types.specs.Faults.{Context}
use Rattle.plus_expansion.specs.Objects.{places_from, members_of, extents_of, tuples}
use Rattle.plus_expansion.specs.Numbers.{ground_names_from, ground_names, is_same, head_names, number_of}
use Rattle.plus_expansion.proofs.Places.{place-below, place-here}
use Rattle.plus_expansion.proofs.GroundNames.{ground-none, length-names}

-- the second context has the types and objects of the first
pub record SameWorld (c c' : Context) : Type 0 where
  pub types : c'.types ≡ c.types
  pub objects : c'.objects ≡ c.objects

module _ (c c' : Context) (w : SameWorld c c') where
  pub members_same : (kind : List ℕ) → members_of c' kind ≡ members_of c kind
  members_same kind = ap₂ (λ (ts os : List Binding). places_from ts kind 0 os) w.types w.objects

  pub extents_same : (params : List TypedName) → extents_of c' params ≡ extents_of c params
  extents_same [] = refl
  extents_same (p ∷ params) = ap₂ (λ x y. x ∷ y) (members_same p.kind.name) (extents_same params)

  names_from : (n : ℕ) (heads more : List Head) → ground_names_from c' n (heads ++ more) ≡ ground_names_from c n heads ++ ground_names_from c' (n + length heads) more
  names_from n [] more = let e : n ≡ n + 0 = omega arith in ap (λ (k : ℕ). ground_names_from c' k more) e
  names_from n (h ∷ heads) more =
      let e : suc n + length heads ≡ n + suc (length heads) = omega arith in
      ap₂ (λ xs ys. map (λ t. (n, t)) (tuples xs) ++ ys) (extents_same h.params) (names_from (suc n) heads more ∙ ap (λ (k : ℕ). ground_names_from c (suc n) heads ++ ground_names_from c' k more) e)
      ∙ sym (append_assoc (map (λ t. (n, t)) (tuples (extents_of c h.params))) (ground_names_from c (suc n) heads) (ground_names_from c' (n + suc (length heads)) more))

  pub ground_names_more : (heads more : List Head) → ground_names c' (heads ++ more) ≡ ground_names c heads ++ ground_names_from c' (0 + length heads) more
  ground_names_more heads more = names_from 0 heads more

  -- a number that is there stays
  pub number_same : (heads more : List Head) (name : List ℕ) (objects : List ℕ) → number_of c heads name objects < length (ground_names c heads) → number_of c' (heads ++ more) name objects ≡ number_of c heads name objects
  number_same heads more name objects h = by (eq-or-lt_of_le (place-below (bytes_eq name) (head_names heads)))
    where
      nowhere : position_or_len (bytes_eq name) (head_names heads) ≡ length (head_names heads) → ⊥
      nowhere l =
          let n = length-names heads in
          let e = ground-none c 0 (position_or_len (bytes_eq name) (head_names heads)) heads objects (λ i k q. absurd (omega (arith, n, l, k, q))) in
          absurd (omega (arith, e, h))

      by : (position_or_len (bytes_eq name) (head_names heads) ≡ length (head_names heads)) ⊎ (position_or_len (bytes_eq name) (head_names heads) < length (head_names heads)) → number_of c' (heads ++ more) name objects ≡ number_of c heads name objects
      by (inl l) = absurd (nowhere l)
      by (inr d) =
          let same : position_or_len (bytes_eq name) (head_names (heads ++ more)) ≡ position_or_len (bytes_eq name) (head_names heads) =
          ap (position_or_len (bytes_eq name)) (map-append (λ (x : Head). x.name.name) heads more) ∙ place-here (bytes_eq name) (head_names heads) (head_names more) d in
          ap₂ (λ (k : ℕ) xs. position_or_len (is_same (k, objects)) xs) same (ground_names_more heads more)
          ∙ place-here (is_same (position_or_len (bytes_eq name) (head_names heads), objects)) (ground_names c heads) (ground_names_from c' (0 + length heads) more) h
