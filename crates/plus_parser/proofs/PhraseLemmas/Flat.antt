-- Tokens that are no parenthesis, and what each token leaves of the room.
use Rattle.std.proofs.Common.{◌≡◌, ℕ, suc, ◌+◌, true, false, refl, List, ◌∷◌, Ok, ap, ◌∙◌, inl, inr}
use Rattle.plus_tokens.specs.declared.token.Kind.{Kind}
use Rattle.plus_tokens.specs.declared.token.Kind.TheVariants as kinds
use Rattle.plus_tokens.specs.Items.{Piece, Item, tok}
use Rattle.plus_parser.specs.Phrases.Reading.{next_of, is_open}
use Rattle.plus_parser.specs.Phrases.Words.{is_close, is_keyword}
use Rattle.plus_parser.specs.Phrases.Spells.{IsOpen, IsClose, IsName, room_step, room_after}
use Rattle.plus_parser.proofs.PhraseLemmas.Names.{keyword_says}
use Rattle.plus_parser.proofs.PhraseLemmas.Level.{Level, is_flat, after_flat}
use Rattle.plus_parser.proofs.PhraseLemmas.Tokens.{next_again}

-- a token that neither opens nor closes
pub record IsFlat (p : Piece) : Type 0 where
  pub «open» : is_open p.kind ≡ false
  pub close : is_close p.kind ≡ false
  pub room : (room : ℕ) (ts : List Piece) → room_after room (p ∷ ts) ≡ room_after room ts

pub keyword_flat : (p : Piece) → p.kind ≡ kinds.Keyword → IsFlat p
keyword_flat p e = record { «open» = ap is_open e; close = ap is_close e; room = λ r ts. ap (λ k. room_step k r (λ n. room_after n ts)) e }

pub flat_piece : (p : Piece) → is_flat p.kind ≡ true → IsFlat p
flat_piece p f = record { «open» = no_open p.kind f; close = no_close p.kind f; room = λ r ts. after_flat r p ts f }
  where
    no_open : (k : Kind) → is_flat k ≡ true → is_open k ≡ false
    no_open kinds.Open e = absurd cc
    no_open _ e = refl

    no_close : (k : Kind) → is_flat k ≡ true → is_close k ≡ false
    no_close kinds.Close e = absurd cc
    no_close _ e = refl

pub name_flat : (p : Piece) → IsName p → IsFlat p
name_flat p e = record { «open» = ap is_open e; close = ap is_close e; room = λ r ts. ap (λ k. room_step k r (λ n. room_after n ts)) e }

pub says_flat : {A : Type 0} (of : Piece → A) (other : A) → ((p : Piece) → is_keyword p.kind ≡ false → of p ≡ other) → (p : Piece) (h : A) → of p ≡ h → (other ≡ h → ⊥) → IsFlat p
says_flat of other else_other p h e apart = keyword_flat p (keyword_says of other else_other p h e apart)

pub flat_next : (room : ℕ) (p : Piece) (rest : List Item) → IsFlat p → next_of room (tok p ∷ rest) ≡ Ok (p, rest)
flat_next room p rest f = next_again room p rest f.«open»

pub flat_level : (p : Piece) (ts : List Piece) → IsFlat p → Level ts → Level (p ∷ ts)
flat_level p ts f l room = elim (l room) [ inl ev ↦ inl (f.room room ts ∙ ev) | inr n ↦ inr (f.room room ts ∙ n) ]

pub open_room : (p : Piece) (room : ℕ) (ts : List Piece) → IsOpen p → room_after (suc room) (p ∷ ts) ≡ room_after room ts
open_room p room ts e = ap (λ k. room_step k (suc room) (λ r. room_after r ts)) e

pub close_room : (p : Piece) (room : ℕ) (ts : List Piece) → IsClose p → room_after room (p ∷ ts) ≡ room_after (room + 1) ts
close_room p room ts e = ap (λ k. room_step k room (λ r. room_after r ts)) e
