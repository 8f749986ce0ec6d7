-- The tokens of a text, one after the other.
use Rattle.std.proofs.Common.{◌≡◌, ℕ, zero, suc, ◌+◌, ◌-◌, ◌<◌, ◌≤◌, List, [], ◌∷◌, length, Option, Some, None, Result, Ok, Err, refl, ap, ◌∙◌, arith}
use Rattle.plus_tokens.specs.declared.token.Token.{Token}
use Rattle.plus_tokens.specs.declared.token.LexFault.{LexFault}
use Rattle.plus_tokens.specs.First.{first_token}
use Rattle.plus_tokens.proofs.Inside.{first_token_inside}
use Rattle.plus_tokens.specs.Items.{Item, tok, bad, piece_of, items_step, items_from, items_at, Stands}

pub stands : (text : List ℕ) (from : ℕ) (t : Token) → first_token text from ≡ Ok (Some t) → Stands text from t
stands text from t e =
    let i = first_token_inside text from t e in
    record { starts = omega (arith, i.starts); some = omega (arith, i.starts, i.some); ends = i.ends }

step_same : (f g : ℕ → List Item) (text : List ℕ) (r : Result (Option Token) LexFault) → ((t : Token) → r ≡ Ok (Some t) → f t.«end» ≡ g t.«end») → items_step f text r ≡ items_step g text r
step_same f g text (Ok None) h = refl
step_same f g text (Ok (Some t)) h = ap (λ is. tok (piece_of text t) ∷ is) (h t refl)
step_same f g text (Err e) h = refl

-- more turns than bytes change nothing
enough : (n m : ℕ) (text : List ℕ) (from : ℕ) → from ≤ length text → length text + 1 - from ≤ n → length text + 1 - from ≤ m → items_from n text from ≡ items_from m text from
unfolding items_from
enough zero m text from le a b = absurd (omega arith)
enough (suc n) zero text from le a b = absurd (omega arith)
enough (suc n) (suc m) text from le a b =
    step_same (items_from n text) (items_from m text) text (first_token text from) (λ t e.
    let s = stands text from t e in
    enough n m text t.«end» s.ends (omega (arith, s.starts, s.some)) (omega (arith, s.starts, s.some)))

one_more : (n : ℕ) (text : List ℕ) (from : ℕ) → 0 < n → items_from n text from ≡ items_step (items_from (n - 1) text) text (first_token text from)
unfolding items_from
one_more zero text from lt = absurd (omega arith)
one_more (suc n) text from lt = ap (λ k. items_step (items_from k text) text (first_token text from)) (omega arith)

pub at_token : (text : List ℕ) (from : ℕ) (t : Token) → from ≤ length text → first_token text from ≡ Ok (Some t) → items_at text from ≡ tok (piece_of text t) ∷ items_at text t.«end»
at_token text from t le e =
    let s = stands text from t e in
    one_more (length text + 1 - from) text from (omega arith)
    ∙ ap (items_step (items_from (length text + 1 - from - 1) text) text) e
    ∙ ap (λ is. tok (piece_of text t) ∷ is) (enough (length text + 1 - from - 1) (length text + 1 - t.«end») text t.«end» s.ends (omega (arith, s.starts, s.some)) (omega arith))

pub at_none : (text : List ℕ) (from : ℕ) → from ≤ length text → first_token text from ≡ Ok None → items_at text from ≡ []
at_none text from le e =
    one_more (length text + 1 - from) text from (omega arith) ∙ ap (items_step (items_from (length text + 1 - from - 1) text) text) e

pub at_fault : (text : List ℕ) (from : ℕ) (f : LexFault) → from ≤ length text → first_token text from ≡ Err f → items_at text from ≡ bad f ∷ []
at_fault text from f le e =
    one_more (length text + 1 - from) text from (omega arith) ∙ ap (items_step (items_from (length text + 1 - from - 1) text) text) e
