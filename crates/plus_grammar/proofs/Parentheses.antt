-- Parentheses that a reader counts up and down are those of the counts.
use Rattle.std.proofs.Common.{◌≡◌, ℕ, zero, suc, ◌+◌, ◌-◌, ◌≤◌, cond, List, [], ◌∷◌, ◌++◌, refl, ap, sym, subst, ◌∙◌, Option, Some, arith}
use Rattle.std.specs.Prelude.{◌↔◌}
use Rattle.std.specs.List.{sum_by}
use Rattle.std.proofs.lemmas.List.Sums.{sum_by-cons}
use Rattle.plus_tokens.specs.declared.token.Kind.{Kind}
use Rattle.plus_tokens.specs.declared.token.Kind.TheVariants as kinds
use Rattle.plus_tokens.specs.Items.{Piece}
use Rattle.plus_parser.specs.Phrases.Reading.{is_open}
use Rattle.plus_parser.specs.Phrases.Words.{is_close}
use Rattle.plus_parser.specs.Phrases.Spells.{room_step, room_after, FitsDepth}
use Rattle.plus_parser.specs.Balanced.{open_step, open_after, IsBalanced}
use Rattle.plus_grammar.specs.Parentheses.{IsWithin, ArePaired}

abbrev opens : Kind → ℕ
opens k = cond (is_open k) 1 0

abbrev closes : Kind → ℕ
closes k = cond (is_close k) 1 0

-- a step of a count that some tokens take from and others give to; none where nothing is left to take
abbrev Step : Type 0
Step = Kind → ℕ → (ℕ → Option ℕ) → Option ℕ

record Counts (step : Step) (takes gives : Kind → ℕ) : Type 0 where
  to : (k : Kind) (n s : ℕ) (after : ℕ → Option ℕ) → step k n after ≡ Some s → (m : ℕ) × (m + takes k ≡ n + gives k) × (after m ≡ Some s)
  from : (k : Kind) (n s m : ℕ) (after : ℕ → Option ℕ) → m + takes k ≡ n + gives k → after m ≡ Some s → step k n after ≡ Some s

module _ (step : Step) (takes gives : Kind → ℕ) (c : Counts step takes gives) where
  abbrev left : ℕ → List Piece → Option ℕ
  left n [] = Some n
  left n (p ∷ ps) = step p.kind n (λ m. left m ps)

  abbrev taken : List Piece → ℕ
  taken ts = sum_by (λ (p : Piece). takes p.kind) ts

  abbrev given : List Piece → ℕ
  given ts = sum_by (λ (p : Piece). gives p.kind) ts

  taken_more : (p : Piece) (ps : List Piece) → taken (p ∷ ps) ≡ takes p.kind + taken ps
  taken_more p ps = sum_by-cons (λ (q : Piece). takes q.kind) p ps

  given_more : (p : Piece) (ps : List Piece) → given (p ∷ ps) ≡ gives p.kind + given ps
  given_more p ps = sum_by-cons (λ (q : Piece). gives q.kind) p ps

  abbrev AtEach : ℕ → List Piece → Type 0
  AtEach n ts = (front back : List Piece) → ts ≡ front ++ back → taken front ≤ n + given front

  -- one more token in front
  each_more : (p : Piece) (ps : List Piece) (n m : ℕ) → m + takes p.kind ≡ n + gives p.kind → AtEach m ps → AtEach n (p ∷ ps)
  each_more p ps n m h at [] back e = omega arith
  each_more p ps n m h at (q ∷ front) back e =
      let same : p ≡ q = cc in
      let rest : ps ≡ front ++ back = cc in
      let few = at front back rest in
      let here : m + takes q.kind ≡ n + gives q.kind = subst (λ (x : Piece). m + takes x.kind ≡ n + gives x.kind) same h in
      omega (arith, few, here, taken_more q front, given_more q front)

  left_to : (ts : List Piece) (n s : ℕ) → left n ts ≡ Some s → AtEach n ts × (s + taken ts ≡ n + given ts)
  left_to [] n s e = (nothing, let same : n ≡ s = cc in omega (arith, same))
    where
      nothing : AtEach n []
      nothing [] back e = omega arith
      nothing (q ∷ front) back e = absurd cc
  left_to (p ∷ ps) n s e =
      let m = c.to p.kind n s (λ k. left k ps) e in
      let more = left_to ps m.0 s m.2 in
      let here = m.1 in
      let all = more.1 in
      (each_more p ps n m.0 here more.0, omega (arith, here, all, taken_more p ps, given_more p ps))

  left_from : (ts : List Piece) (n s : ℕ) → AtEach n ts → s + taken ts ≡ n + given ts → left n ts ≡ Some s
  left_from [] n s at e = ap Some (omega (arith, e))
  left_from (p ∷ ps) n s at e =
      let first = at (p ∷ []) ps refl in
      let m = n + gives p.kind - takes p.kind in
      let here : m + takes p.kind ≡ n + gives p.kind = omega (arith, first, taken_more p [], given_more p []) in
      c.from p.kind n s m (λ k. left k ps) here
      (left_from ps m s (λ front back h. let few = at (p ∷ front) back (ap (λ us. p ∷ us) h) in omega (arith, few, here, taken_more p front, given_more p front))
      (omega (arith, e, here, taken_more p ps, given_more p ps)))

-- ---- room for parentheses

room_counts : Counts room_step opens closes
room_counts = record { to = to; from = from }
  where
    to : (k : Kind) (n s : ℕ) (after : ℕ → Option ℕ) → room_step k n after ≡ Some s → (m : ℕ) × (m + opens k ≡ n + closes k) × (after m ≡ Some s)
    to kinds.Open zero s after e = absurd cc
    to kinds.Open (suc n) s after e = (n, omega arith, e)
    to kinds.Close n s after e = (n + 1, omega arith, e)
    to _ n s after e = (n, refl, e)

    from : (k : Kind) (n s m : ℕ) (after : ℕ → Option ℕ) → m + opens k ≡ n + closes k → after m ≡ Some s → room_step k n after ≡ Some s
    from kinds.Open zero s m after h e = absurd (omega (arith, h))
    from kinds.Open (suc n) s m after h e = let same : n ≡ m = omega (arith, h) in ap after same ∙ e
    from kinds.Close n s m after h e = let same : n + 1 ≡ m = omega (arith, h) in ap after same ∙ e
    from _ n s m after h e = let same : n ≡ m = omega (arith, h) in ap after same ∙ e

room_is : (ts : List Piece) (n : ℕ) → room_after n ts ≡ left room_step opens closes room_counts n ts
room_is [] n = refl
room_is (p ∷ ps) n = λ i. room_step p.kind n (λ m. room_is ps m i)

pub depth_by_counts : (depth : ℕ) (ts : List Piece) → FitsDepth depth ts ↔ IsWithin depth ts
depth_by_counts depth ts = (
  λ h. let r = left_to room_step opens closes room_counts ts depth depth (sym (room_is ts depth) ∙ h) in let all = r.1 in (r.0, omega (arith, all)),
  λ h. let all = h.1 in room_is ts depth ∙ left_from room_step opens closes room_counts ts depth depth h.0 (omega (arith, all)),
)

-- ---- parentheses that are open

open_counts : Counts open_step closes opens
open_counts = record { to = to; from = from }
  where
    to : (k : Kind) (n s : ℕ) (after : ℕ → Option ℕ) → open_step k n after ≡ Some s → (m : ℕ) × (m + closes k ≡ n + opens k) × (after m ≡ Some s)
    to kinds.Open n s after e = (suc n, omega arith, e)
    to kinds.Close zero s after e = absurd cc
    to kinds.Close (suc n) s after e = (n, omega arith, e)
    to _ n s after e = (n, refl, e)

    from : (k : Kind) (n s m : ℕ) (after : ℕ → Option ℕ) → m + closes k ≡ n + opens k → after m ≡ Some s → open_step k n after ≡ Some s
    from kinds.Open n s m after h e = let same : suc n ≡ m = omega (arith, h) in ap after same ∙ e
    from kinds.Close zero s m after h e = absurd (omega (arith, h))
    from kinds.Close (suc n) s m after h e = let same : n ≡ m = omega (arith, h) in ap after same ∙ e
    from _ n s m after h e = let same : n ≡ m = omega (arith, h) in ap after same ∙ e

open_is : (ts : List Piece) (n : ℕ) → open_after n ts ≡ left open_step closes opens open_counts n ts
open_is [] n = refl
open_is (p ∷ ps) n = λ i. open_step p.kind n (λ m. open_is ps m i)

pub pairs_by_counts : (ts : List Piece) → IsBalanced ts ↔ ArePaired ts
pairs_by_counts ts = (
  λ h.
      let r = left_to open_step closes opens open_counts ts 0 0 (sym (open_is ts 0) ∙ h) in
      let all = r.1 in
      (λ front back e. let few = r.0 front back e in omega (arith, few), omega (arith, all)),
  λ h.
      let all = h.1 in
      open_is ts 0 ∙ left_from open_step closes opens open_counts ts 0 0 (λ front back e. let few = h.0 front back e in omega (arith, few)) (omega (arith, all)),
)
