-- Texts that grow by one tank.
use Rattle.std.proofs.Common.{◌≡◌, ℕ, suc, ◌+◌, List, ◌++◌, ap, ◌∙◌, sym, add-one, append_assoc}
use Rattle.std.proofs.lemmas.List.{flat_map_more}
use Rattle.std.specs.List.{flat_map}
use Rattle.plus_trial.specs.Farm.{tanks}

tanks_at : (f : ℕ → List ℕ) (front : List ℕ) (k i : ℕ) → i ≡ suc k → (front ++ flat_map f (tanks k)) ++ f i ≡ front ++ flat_map f (tanks i)
tanks_at f front k i e =
    ap (λ j. (front ++ flat_map f (tanks k)) ++ f j) e ∙ flat_map_more f front (tanks k) (suc k) ∙ ap (λ j. front ++ flat_map f (tanks j)) (sym e)

-- the text of one tank more
pub one_more : (f : ℕ → List ℕ) (front now next : List ℕ) (k : ℕ) → now ≡ front ++ flat_map f (tanks k) → next ≡ now ++ f (k + 1) → next ≡ front ++ flat_map f (tanks (k + 1))
one_more f front now next k e d = d ∙ ap (λ t. t ++ f (k + 1)) e ∙ tanks_at f front k (k + 1) (add-one k)

-- two pieces, and three
pub two : (text a b next last : List ℕ) → next ≡ text ++ a → last ≡ next ++ b → last ≡ text ++ (a ++ b)
two text a b next last e d = d ∙ ap (λ t. t ++ b) e ∙ append_assoc text a b

pub three : (text a b c next later last : List ℕ) → next ≡ text ++ a → later ≡ next ++ b → last ≡ later ++ c → last ≡ text ++ (a ++ (b ++ c))
three text a b c next later last e d g = two text a (b ++ c) next last e (two next b c later last d g)
