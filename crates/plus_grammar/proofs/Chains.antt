-- Chains of things that tokens spell, and folds that may refuse a part.
use Rattle.std.proofs.Common.{◌≡◌, ◌≢◌, Bool, true, false, cond, List, [], ◌∷◌, ◌++◌, map, length, refl, ap, sym, subst, ◌∙◌, append_assoc, append-nil, Option, Some, None, arith}
use Rattle.std.specs.Prelude.{◌==◌, option_and_then}
use Rattle.std.proofs.lemmas.Bool.{ne_eqb}
use Rattle.plus_tree.specs.declared.names.Spelled.{Spelled}
use Rattle.plus_tokens.specs.Items.{Piece}
use Rattle.plus_parser.specs.Phrases.Spells.{Chain}
use Rattle.plus_grammar.specs.Groups.{Group, IsGroup, AreGroups}

pub chain_both : {X : Type 0} (P : X → List Piece → Type 0) (xs ys : List X) (ts us : List Piece) → Chain P xs ts → Chain P ys us → Chain P (xs ++ ys) (ts ++ us)
chain_both P [] ys ts us a b = subst (λ vs. Chain P ys (vs ++ us)) (sym a) b
chain_both P (x ∷ xs) ys ts us a b = (a.0, a.1 ++ us, a.2, chain_both P xs ys a.1 us a.3 b, ap (λ vs. vs ++ us) a.4 ∙ append_assoc a.0 a.1 us)

pub chain_one : {X : Type 0} (P : X → List Piece → Type 0) (x : X) (ts : List Piece) → P x ts → Chain P (x ∷ []) ts
chain_one P x ts h = (ts, [], h, refl, sym (append-nil ts))

-- what each thing spells, another that is made of it spells too
pub chain_map : {X Y : Type 0} (P : X → List Piece → Type 0) (Q : Y → List Piece → Type 0) (f : X → Y) → ((x : X) (ts : List Piece) → P x ts → Q (f x) ts)
    → (xs : List X) (ts : List Piece) → Chain P xs ts → Chain Q (map f xs) ts
chain_map P Q f h [] ts c = c
chain_map P Q f h (x ∷ xs) ts c = (c.0, c.1, h x c.0 c.2, chain_map P Q f h xs c.1 c.3, c.4)

pub chain_more : {X : Type 0} (P Q : X → List Piece → Type 0) → ((x : X) (ts : List Piece) → P x ts → Q x ts) → (xs : List X) (ts : List Piece) → Chain P xs ts → Chain Q xs ts
chain_more P Q h [] ts c = c
chain_more P Q h (x ∷ xs) ts c = (c.0, c.1, h x c.0 c.2, chain_more P Q h xs c.1 c.3, c.4)

pub groups_more : {X : Type 0} (P Q : X → List Piece → Type 0) (K : Spelled → List Piece → Type 0) → ((x : X) (ts : List Piece) → P x ts → Q x ts)
    → (gs : List (Group X)) (xs : List X) (ts : List Piece) → AreGroups P K gs xs ts → AreGroups Q K gs xs ts
groups_more P Q K h gs xs ts g = (
  g.0,
  g.1,
  chain_more (IsGroup P K) (IsGroup Q K) (λ a us i. (i.0, i.1, i.2, chain_more P Q h a.members i.0 i.3, i.4, i.5)) gs g.0 g.2,
  chain_more P Q h xs g.1 g.3,
  g.4,
)

-- ---- parts that may be added

-- what a test lets through only where it fails, or only where it holds
pub passed_unless : {S : Type 0} (b : Bool) (made : S) (f : S → Option S) (found : S) → option_and_then f (cond b None (Some made)) ≡ Some found → (b ≡ false) × (f made ≡ Some found)
passed_unless true made f found e = absurd cc
passed_unless false made f found e = (refl, e)

pub passed_if : {S : Type 0} (b : Bool) (made : S) (f : S → Option S) (found : S) → option_and_then f (cond b (Some made) None) ≡ Some found → (b ≡ true) × (f made ≡ Some found)
passed_if true made f found e = (refl, e)
passed_if false made f found e = absurd cc

pub some_length : {X : Type 0} (xs : List X) → xs ≢ [] → (length xs == 0) ≡ false
some_length [] n = absurd (n refl)
some_length (x ∷ xs) n = ne_eqb (length (x ∷ xs)) 0 (λ z. omega (arith, z))

pub some_members : {X : Type 0} (xs : List X) → (length xs == 0) ≡ false → xs ≢ []
some_members [] e = absurd cc
some_members (x ∷ xs) e = λ z. cc

pub last_some : {X : Type 0} (xs : List X) (x : X) → (xs ++ x ∷ []) ≢ []
last_some [] x = λ z. cc
last_some (y ∷ ys) x = λ z. cc
