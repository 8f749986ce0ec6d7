-- Where a text that spells no tree is refused: at the first token behind which no text of the grammar goes on. A tree and
-- its tokens are those of any relation; nothing here reads a text by forms.
use Rattle.std.specs.Prelude.{◌≡◌, ℕ, ◌<◌, List, [], ◌∷◌, ◌++◌, map, Some}
use Rattle.plus_tree.specs.declared.faults.TextFault.{TextFault}
use Rattle.plus_tree.specs.declared.faults.TextFault.TheVariants as faults
use Rattle.plus_tokens.specs.Items.{Piece, Item, tok, bad, items_of}
use Rattle.plus_parser.specs.Phrases.Spells.{IsOpen, room_after}

module _ {Tree : Type 0} (Tokens : Tree → List Piece → Type 0) where
  -- some text begins with these tokens and spells a tree, however deep
  pub record Begins (before : List Piece) : Type 0 where
    pub text : List ℕ
    pub more : List Piece
    pub tree : Tree
    pub items : items_of text ≡ map tok (before ++ more)
    pub tokens : Tokens tree (before ++ more)

  -- What is wrong behind these tokens, where so many more parentheses may be opened and the rest of the text stands.
  abbrev pub RefusedBehind : TextFault → List Piece → ℕ → List Item → Type 0
  -- no token can be read
  RefusedBehind (faults.Lex f) before room rest = (more : List Item) × (rest ≡ bad f ∷ more)
  -- a parenthesis opens, and no more may be opened
  RefusedBehind (faults.Depth at) before room rest =
      (p : Piece) × (more : List Item) × (rest ≡ tok p ∷ more) × IsOpen p × (room ≡ 0) × (p.span.start ≡ at)
  -- a token with which no text of the grammar goes on
  RefusedBehind (faults.Form s) before room rest =
      (p : Piece) × (more : List Item) × (rest ≡ tok p ∷ more) × (IsOpen p → 0 < room) × (p.span ≡ s)
      × (Begins (before ++ p ∷ []) → ⊥)
  -- the text ends, and its tokens are those of no tree
  RefusedBehind faults.Unclosed before room rest = (rest ≡ []) × ((x : Tree) → Tokens x before → ⊥)
  RefusedBehind faults.Memory before room rest = ⊥

  -- The place and the kind of a text's refusal: tokens stand before it with which some text of the grammar begins, and no
  -- more than so many parentheses are open at once in them; behind them this is wrong.
  pub record IsPlace (depth : ℕ) (text : List ℕ) (fault : TextFault) : Type 0 where
    pub before : List Piece
    pub rest : List Item
    pub room : ℕ
    pub whole : items_of text ≡ map tok before ++ rest
    pub within : room_after depth before ≡ Some room
    pub begins : Begins before
    pub refused : RefusedBehind fault before room rest

  -- a text is refused at its place, unless memory ran out
  abbrev pub Refuses : ℕ → List ℕ → TextFault → Type 0
  Refuses depth text faults.Memory = Unit {0}
  Refuses depth text fault = IsPlace depth text fault
