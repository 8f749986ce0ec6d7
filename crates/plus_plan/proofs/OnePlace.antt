-- A line that is none has one place.
use Rattle.std.proofs.Common.{◌≡◌, ℕ, List, [], ◌∷◌, ◌++◌, length, map, refl, sym, ap, ◌∙◌, subst, inl, inr, ⊎_elim, append_assoc}
use Rattle.std.specs.Prelude.{◌⊎◌}
use Rattle.std.proofs.lemmas.List.{append-nil}
use Rattle.plus_tokens.specs.declared.span.Span.{Span}
use Rattle.plus_tokens.specs.declared.token.LexFault.{LexFault}
use Rattle.plus_plan.specs.declared.forms.PlanForm.{PlanForm}
use Rattle.plus_tokens.specs.Items.{Piece, Item, tok, bad, items_of}
use Rattle.plus_plan.specs.Reading.{byte_place}
use Rattle.plus_plan.specs.Spells.{SpellsTokens}
use Rattle.plus_plan.specs.Place.{Begins, NoToken, NoLineGoesOn, EndsEarly, IsPlace}

-- tokens that stand at the front of the same items: they are the same, or one list goes on where the other ends
abbrev Longer : List Piece → List Item → List Piece → List Item → Type 0
Longer a ra b rb = (p : Piece) × (more : List Piece) × (b ≡ a ++ p ∷ more) × (ra ≡ tok p ∷ (map tok more ++ rb))

abbrev Fronts : List Piece → List Item → List Piece → List Item → Type 0
Fronts a ra b rb = ((a ≡ b) × (ra ≡ rb)) ⊎ (Longer a ra b rb ⊎ Longer b rb a ra)

fronts : (a b : List Piece) (ra rb : List Item) → map tok a ++ ra ≡ map tok b ++ rb → Fronts a ra b rb
fronts [] [] ra rb e = inl (refl, e)
fronts [] (p ∷ b) ra rb e = inr (inl (p, b, refl, e))
fronts (p ∷ a) [] ra rb e = inr (inr (p, a, refl, sym e))
fronts (p ∷ a) (q ∷ b) ra rb e =
    let first : p ≡ q = cc in
    let rest : map tok a ++ ra ≡ map tok b ++ rb = cc in
    ⊎_elim
    (λ s. inl ((λ i. first i ∷ s.0 i), s.1))
    (λ l. inr (⊎_elim
    (λ m. inl (m.0, m.1, (λ i. sym first i ∷ m.2 i), m.3))
    (λ m. inr (m.0, m.1, (λ i. first i ∷ m.2 i), m.3)) l))
    (fronts a b ra rb rest)

module _ (form : PlanForm) (n : ℕ) (bytes : List ℕ) where
  -- what stands behind the tokens at which the bytes are refused
  abbrev Tail : List Piece → Span → List Item → Type 0
  Tail before s rest =
      ((f : LexFault) × (more : List Item) × (rest ≡ bad f ∷ more) × (s ≡ byte_place f))
      ⊎ (((p : Piece) × (more : List Item) × (rest ≡ tok p ∷ more) × (p.span ≡ s) × (Begins form n (before ++ p ∷ []) → ⊥))
      ⊎ ((rest ≡ []) × (s.start ≡ length bytes) × (s.«end» ≡ length bytes)))

  record Stops (before : List Piece) (s : Span) : Type 0 where
    rest : List Item
    whole : items_of bytes ≡ map tok before ++ rest
    tail : Tail before s rest

  stops : (before : List Piece) (s : Span) → NoToken bytes before s ⊎ (NoLineGoesOn form n bytes before s ⊎ EndsEarly form n bytes before s) → Stops before s
  stops before s h =
      ⊎_elim
      (λ b. record { rest = bad b.0 ∷ b.1; whole = b.2; tail = inl (b.0, b.1, refl, b.3) })
      (λ g. ⊎_elim
      (λ t. record { rest = tok t.0 ∷ t.1; whole = t.2; tail = inr (inl (t.0, t.1, refl, t.3, t.4)) })
      (λ z. record { rest = []; whole = z.0 ∙ sym (append-nil (map tok before)); tail = inr (inr (refl, z.1, z.2)) }) g)
      h

  -- more tokens than those at which the bytes are refused begin no line
  none_longer : (a b : List Piece) (s : Span) (ra rb : List Item) → Tail a s ra → Begins form n b → Longer a ra b rb → ⊥
  none_longer a b s ra rb tail begins l =
      ⊎_elim
      (λ t. let h : tok l.0 ∷ (map tok l.1 ++ rb) ≡ bad t.0 ∷ t.1 = sym l.3 ∙ t.2 in cc)
      (λ u. ⊎_elim
      (λ t.
      let h : tok l.0 ∷ (map tok l.1 ++ rb) ≡ tok t.0 ∷ t.1 = sym l.3 ∙ t.2 in
      let same : l.0 ≡ t.0 = cc in
      let regroup : b ++ begins.0 ≡ (a ++ t.0 ∷ []) ++ (l.1 ++ begins.0) =
      ap (λ (ps : List Piece). ps ++ begins.0) (l.2 ∙ ap (λ (p : Piece). a ++ p ∷ l.1) same) ∙ append_assoc a (t.0 ∷ l.1) begins.0 ∙ sym (append_assoc a (t.0 ∷ []) (l.1 ++ begins.0)) in
      t.4 (l.1 ++ begins.0, begins.1, subst (SpellsTokens form n begins.1) regroup begins.2))
      (λ z. let h : tok l.0 ∷ (map tok l.1 ++ rb) ≡ [] = sym l.3 ∙ z.0 in cc) u)
      tail

  span_same : (s t : Span) → s.start ≡ t.start → s.«end» ≡ t.«end» → s ≡ t
  span_same s t e f = λ i. record { start = e i; «end» = f i }

  tails : (a b : List Piece) (s t : Span) (r : List Item) → Tail a s r → Tail b t r → s ≡ t
  tails a b s t r x y = ⊎_elim (λ h. at_bad h y) (λ u. ⊎_elim (λ h. at_tok h y) (λ h. at_end h y) u) x
    where
      at_bad : ((f : LexFault) × (more : List Item) × (r ≡ bad f ∷ more) × (s ≡ byte_place f)) → Tail b t r → s ≡ t
      at_bad h y =
          ⊎_elim (λ k. let e : bad h.0 ∷ h.1 ≡ bad k.0 ∷ k.1 = sym h.2 ∙ k.2 in let same : h.0 ≡ k.0 = cc in h.3 ∙ ap byte_place same ∙ sym k.3)
          (λ u. ⊎_elim (λ k. let e : bad h.0 ∷ h.1 ≡ tok k.0 ∷ k.1 = sym h.2 ∙ k.2 in absurd cc) (λ k. let e : bad h.0 ∷ h.1 ≡ [] = sym h.2 ∙ k.0 in absurd cc) u) y

      at_tok : ((p : Piece) × (more : List Item) × (r ≡ tok p ∷ more) × (p.span ≡ s) × (Begins form n (a ++ p ∷ []) → ⊥)) → Tail b t r → s ≡ t
      at_tok h y =
          ⊎_elim (λ k. let e : tok h.0 ∷ h.1 ≡ bad k.0 ∷ k.1 = sym h.2 ∙ k.2 in absurd cc)
          (λ u. ⊎_elim
          (λ k. let e : tok h.0 ∷ h.1 ≡ tok k.0 ∷ k.1 = sym h.2 ∙ k.2 in let same : h.0 ≡ k.0 = cc in sym h.3 ∙ ap (λ (p : Piece). p.span) same ∙ k.3)
          (λ k. let e : tok h.0 ∷ h.1 ≡ [] = sym h.2 ∙ k.0 in absurd cc) u) y

      at_end : ((r ≡ []) × (s.start ≡ length bytes) × (s.«end» ≡ length bytes)) → Tail b t r → s ≡ t
      at_end h y =
          ⊎_elim (λ k. let e : [] ≡ bad k.0 ∷ k.1 = sym h.0 ∙ k.2 in absurd cc)
          (λ u. ⊎_elim (λ k. let e : [] ≡ tok k.0 ∷ k.1 = sym h.0 ∙ k.2 in absurd cc) (λ k. span_same s t (h.1 ∙ sym k.1) (h.2 ∙ sym k.2)) u) y

  pub one_place : (s t : Span) → IsPlace form n bytes s → IsPlace form n bytes t → s ≡ t
  one_place s t p q =
      let a = stops p.0 s p.2 in
      let b = stops q.0 t q.2 in
      ⊎_elim
      (λ same. tails p.0 q.0 s t a.rest a.tail (subst (Tail q.0 t) (sym same.1) b.tail))
      (λ l. ⊎_elim (λ m. absurd (none_longer p.0 q.0 s a.rest b.rest a.tail q.1 m)) (λ m. absurd (none_longer q.0 p.0 t b.rest a.rest b.tail p.1 m)) l)
      (fronts p.0 q.0 a.rest b.rest (sym a.whole ∙ b.whole))
