-- A list of fluents that is compared with those that move.
use Rattle.std.proofs.Common.{◌≡◌, ◌≢◌, ◌≤◌, ℕ, ◌<◌, ◌+◌, suc, Bool, false, List, [], ◌∷◌, ◌++◌, length, take, drop, get_or, ap, ap₂, sym, ◌∙◌, add-one, arith, take_all, drop-cons, length-take-le}
use Rattle.std.proofs.lemmas.List.{length-append, length-map, map-append, take-append-drop}
use Rattle.std.specs.Prelude.{if◌then◌else◌}
use Rattle.std.proofs.Math.Seq.{take-suc}
use Rattle.plus_fraction.specs.Fraction.{Fraction}
use Rattle.plus_model.specs.Value.{is_zero}
use Rattle.plus_state.specs.declared.term.FluentId.{FluentId}
use Rattle.plus_crossing.specs.Rated.{fluent_numbers}
use Rattle.plus_crossing.proofs.Rated.{moving_keys, noted_moving}

-- the next one that moves is the next one of the list
pub noted_just : {Q : Type 0} (v : Q → Fraction) (fluents : List FluentId) (place : ℕ) (d : FluentId) (left more : List (ℕ × Q)) (e : ℕ × Q) (all : List ℕ) → is_zero (v e.1) ≡ false → left ≡ e ∷ more → place < length fluents → (get_or fluents place d).0 ≡ e.0 → fluent_numbers (take place fluents) ++ moving_keys v left ≡ all → fluent_numbers (take (place + 1) fluents) ++ moving_keys v more ≡ all
noted_just {Q} v fluents place d left more e all z s inside same h =
    let grown : take (place + 1) fluents ≡ take place fluents ++ get_or fluents place d ∷ [] = rw add-one (take-suc fluents place d inside) in
    let next : left ≡ ((get_or fluents place d).0, e.1) ∷ more = s ∙ ap (λ (k : ℕ). (k, e.1) ∷ more) (sym same) in
    noted_moving v (take place fluents) (take (place + 1) fluents) left more (get_or fluents place d) e.1 all z next grown h

-- the keys of what moves from an entry that does
keys_here : {Q : Type 0} (v : Q → Fraction) (left more : List (ℕ × Q)) (e : ℕ × Q) → is_zero (v e.1) ≡ false → left ≡ e ∷ more → moving_keys v left ≡ e.0 ∷ moving_keys v more
keys_here v left more e z s =
    ap (λ es. moving_keys v es) s ∙ ap (λ (b : Bool). if b then moving_keys v more else e.0 ∷ moving_keys v more) z

-- a list at whose end something moves still is another one
pub just_short : {Q A : Type 0} (v : Q → Fraction) (fluents : List FluentId) (place : ℕ) (left more : List (ℕ × Q)) (e : ℕ × Q) (all : List ℕ) → is_zero (v e.1) ≡ false → left ≡ e ∷ more → length fluents ≤ place → fluent_numbers (take place fluents) ++ moving_keys v left ≡ all → fluent_numbers fluents ≡ all → A
just_short v fluents place left more e all z s short h same =
    let whole : fluent_numbers (take place fluents) ≡ fluent_numbers fluents = ap fluent_numbers (take_all place fluents short) in
    let longer : fluent_numbers fluents ≡ fluent_numbers fluents ++ e.0 ∷ moving_keys v more = same ∙ sym h ∙ ap₂ (λ xs ys. xs ++ ys) whole (keys_here v left more e z s) in
    absurd (omega (arith, ap length longer, length-append (fluent_numbers fluents) (e.0 ∷ moving_keys v more)))

-- what follows the same beginning
follows : (xs ys zs : List ℕ) (a b : ℕ) → xs ++ a ∷ ys ≡ xs ++ b ∷ zs → a ≡ b
follows [] ys zs a b e = ap (λ l. get_or l 0 0) e
follows (x ∷ xs) ys zs a b e = follows xs ys zs a b (ap (drop 1) e)

-- a list with another fluent where the next one moves is another one
pub just_other : {Q A : Type 0} (v : Q → Fraction) (fluents : List FluentId) (place : ℕ) (d : FluentId) (left more : List (ℕ × Q)) (e : ℕ × Q) (all : List ℕ) → is_zero (v e.1) ≡ false → left ≡ e ∷ more → place < length fluents → (get_or fluents place d).0 ≢ e.0 → fluent_numbers (take place fluents) ++ moving_keys v left ≡ all → fluent_numbers fluents ≡ all → A
just_other v fluents place d left more e all z s inside other h same =
    let split : fluent_numbers fluents ≡ fluent_numbers (take place fluents) ++ (get_or fluents place d).0 ∷ fluent_numbers (drop (suc place) fluents) =
    ap fluent_numbers (sym (take-append-drop place fluents) ∙ ap (λ xs. take place fluents ++ xs) (drop-cons fluents place d inside))
    ∙ map-append (λ (x : FluentId). x.0) (take place fluents) (get_or fluents place d ∷ drop (suc place) fluents) in
    let keys = ap (λ ks. fluent_numbers (take place fluents) ++ ks) (keys_here v left more e z s) in
    absurd (other (follows (fluent_numbers (take place fluents)) (fluent_numbers (drop (suc place) fluents)) (moving_keys v more) _ _ (sym split ∙ same ∙ sym h ∙ keys)))

-- a list whose beginning is all that moves has no more
pub just_end : (fluents : List FluentId) (place : ℕ) (all : List ℕ) → place ≤ length fluents → fluent_numbers (take place fluents) ≡ all → fluent_numbers fluents ≡ all → place ≡ length fluents
just_end fluents place all inside h same =
    sym (length-take-le place fluents inside)
    ∙ sym (length-map (take place fluents) (λ (x : FluentId). x.0))
    ∙ ap length (h ∙ sym same)
    ∙ length-map fluents (λ (x : FluentId). x.0)
