-- How many events have not fired yet: fewer after each round.
use Rattle.std.proofs.Common.{◌≡◌, ℕ, zero, suc, ◌<◌, ◌≤◌, Bool, true, false, List, [], ◌∷◌, length, set, replicate, refl, ap, sym, ◌∙◌, arith, cond}
use Rattle.std.proofs.lemmas.List.Elements.{All-head}
use Rattle.std.specs.Prelude.{◌≢◌, Some, None, find}
use Rattle.std.specs.List.{All}
use Rattle.plus_cascade.specs.Fired.{has_fired, first_repeated, with_fired}

abbrev pub unfired : List Bool → ℕ
unfired [] = 0
unfired (true ∷ bs) = unfired bs
unfired (false ∷ bs) = suc (unfired bs)

pub unfired-none : (n : ℕ) → unfired (replicate n false) ≡ n
unfired-none zero = refl
unfired-none (suc n) = ap suc (unfired-none n)

unfired-set : (bs : List Bool) (e : ℕ) → unfired (set bs e true) ≤ unfired bs
unfired-set [] e = omega arith
unfired-set (true ∷ bs) zero = omega arith
unfired-set (false ∷ bs) zero = omega arith
unfired-set (true ∷ bs) (suc e) = unfired-set bs e
unfired-set (false ∷ bs) (suc e) = let h = unfired-set bs e in omega arith

unfired-more : (bs : List Bool) (es : List ℕ) → unfired (with_fired bs es) ≤ unfired bs
unfired-more bs [] = omega arith
unfired-more bs (e ∷ es) =
    let h = unfired-more (set bs e true) es in
    let k = unfired-set bs e in
    omega arith

-- an event that has not fired
unfired-new : (bs : List Bool) (e : ℕ) → e < length bs → has_fired bs e ≡ false → unfired (set bs e true) < unfired bs
unfired-new [] e l h = absurd (omega arith)
unfired-new (true ∷ bs) zero l h = cc
unfired-new (false ∷ bs) zero l h = omega arith
unfired-new (true ∷ bs) (suc e) l h = unfired-new bs e (omega arith) h
unfired-new (false ∷ bs) (suc e) l h = let k = unfired-new bs e (omega arith) h in omega arith

first_fresh : (fired : List Bool) (e : ℕ) (es : List ℕ) → first_repeated fired (e ∷ es) ≡ None → has_fired fired e ≡ false
unfolding first_repeated
first_fresh fired e es h = by (has_fired fired e) refl
  where
    by : (b : Bool) → b ≡ has_fired fired e → has_fired fired e ≡ false
    by false k = sym k
    by true k = absurd (let n : cond true (Some e) (find (has_fired fired) es) ≡ None = ap (λ (b : Bool). cond b (Some e) (find (has_fired fired) es)) k ∙ h in cc)

pub fewer_unfired : (fired : List Bool) (events : List ℕ) → events ≢ [] → All (λ e. e < length fired) events → first_repeated fired events ≡ None → unfired (with_fired fired events) < unfired fired
fewer_unfired fired [] z a h = absurd (z refl)
fewer_unfired fired (e ∷ es) z a h =
    let k = unfired-new fired e (All-head (λ e. e < length fired) e es a) (first_fresh fired e es h) in
    let m = unfired-more (set fired e true) es in
    omega arith
