-- Names up to a closing parenthesis, as a loop reads them.
use Rattle.std.proofs.Common.{◌≡◌, ℕ, List, [], ◌∷◌, ◌++◌, Result, Ok, Err, refl, sym, ap, ◌∙◌, append_assoc}
use Rattle.std.proofs.lemmas.List.{append-nil}
use Rattle.plus_tokens.specs.declared.token.Kind.{Kind}
use Rattle.plus_tokens.specs.declared.token.Kind.TheVariants as kinds
use Rattle.plus_plan.specs.declared.reader.Refusal.{Refusal}
use Rattle.plus_plan.specs.declared.reader.Refusal.TheVariants as refusals
use Rattle.plus_tokens.specs.Items.{Piece, Item, tok, bad}
use Rattle.plus_plan.specs.Reading.{◌>>=◌, Read, Fails, byte_place, next_of}
use Rattle.plus_plan.specs.Grammar.{with_name, args_with, args_of}

-- the names so far, before those that follow
abbrev pub with_front : List (List ℕ) → Read (List (List ℕ)) → Read (List (List ℕ))
with_front front r = r >>= λ ws. Ok (front ++ ws.0, ws.1)

pub next_args : (items rest : List Item) (p : Piece) → next_of items ≡ Ok (p, rest) → args_of items ≡ args_with p rest (args_of rest) p.kind
unfolding args_of
next_args [] rest p e = absurd cc
next_args (bad f ∷ is) rest p e = absurd cc
next_args (tok q ∷ is) rest p e =
    ap (λ (r : Read Piece). r >>= λ x. args_with x.0 x.1 (args_of x.1) x.0.kind) e

-- one more name
pub one_more : (front : List (List ℕ)) (items rest : List Item) (p : Piece) (total : Read (List (List ℕ))) → with_front front (args_of items) ≡ total → next_of items ≡ Ok (p, rest) → p.kind ≡ kinds.Name → with_front (front ++ p.word ∷ []) (args_of rest) ≡ total
one_more front items rest p total h e k =
    regroup (args_of rest) ∙ sym (ap (λ (r : Read (List (List ℕ))). with_front front r) (next_args items rest p e ∙ ap (args_with p rest (args_of rest)) k)) ∙ h
  where
    regroup : (r : Read (List (List ℕ))) → with_front (front ++ p.word ∷ []) r ≡ with_front front (with_name p.word r)
    regroup (Ok x) = ap (λ (ws : List (List ℕ)). Ok (ws, x.1)) (simp append_assoc)
    regroup (Err e) = refl

-- the closing parenthesis
pub at_close : (front : List (List ℕ)) (items rest : List Item) (p : Piece) (total : Read (List (List ℕ))) → with_front front (args_of items) ≡ total → next_of items ≡ Ok (p, rest) → p.kind ≡ kinds.Close → total ≡ Ok (front, rest)
at_close front items rest p total h e k =
    sym h ∙ ap (with_front front) (next_args items rest p e ∙ ap (args_with p rest (args_of rest)) k) ∙ ap (λ (ws : List (List ℕ)). Ok (ws, rest)) (append-nil front)

other : (p : Piece) (rest : List Item) (more : Read (List (List ℕ))) (k : Kind) → (k ≡ kinds.Name → ⊥) → (k ≡ kinds.Close → ⊥) → args_with p rest more k ≡ Err (refusals.At p.span)
other p rest more kinds.Name name close = absurd (name refl)
other p rest more kinds.Close name close = absurd (close refl)
other p rest more _ name close = refl
