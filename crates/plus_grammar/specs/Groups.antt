-- Lists of names and of functions, by groups of one type.
use Rattle.std.specs.Prelude.{◌≡◌, ◌≢◌, List, [], ◌∷◌, ◌++◌, map, filter, flat_map, codes}
use Rattle.plus_tokens.specs.declared.token.Op.TheVariants as ops
use Rattle.plus_tokens.specs.declared.span.Span.{Span}
use Rattle.plus_tree.specs.declared.names.Spelled.{Spelled}
use Rattle.plus_tree.specs.declared.terms.TypedName.{TypedName}
use Rattle.plus_tree.specs.declared.trees.Head.{Head}
use Rattle.plus_parser.specs.declared.phrases.words.Allowed.{Allowed}
use Rattle.plus_parser.specs.declared.phrases.words.Allowed.TheVariants.{Names, Variables}
use Rattle.plus_tokens.specs.Items.{Piece}
use Rattle.plus_parser.specs.Phrases.Grammar.{spelled_of, named_of, of_type, object_type}
use Rattle.plus_parser.specs.Phrases.Spells.{IsName, IsWord, IsSign, IsPlain, IsAllowed, Wrapped, Chain}
use Rattle.plus_parser.specs.ReadingDomain.{is_own_type}

-- some members of a list, and the type that is written behind them
pub record Group (X : Type 0) : Type 0 where
  pub members : List X
  pub kind : Spelled

-- one member or more, and then the type
abbrev pub IsGroup : {X : Type 0} → (X → List Piece → Type 0) → (Spelled → List Piece → Type 0) → Group X → List Piece → Type 0
IsGroup Member Kind g ts =
    (front : List Piece) × (back : List Piece) × (g.members ≢ []) × Chain Member g.members front × Kind g.kind back × (ts ≡ front ++ back)

-- some groups, and behind them members without a type
abbrev pub AreGroups : {X : Type 0} → (X → List Piece → Type 0) → (Spelled → List Piece → Type 0) → List (Group X) → List X → List Piece → Type 0
AreGroups Member Kind groups others ts =
    (front : List Piece) × (back : List Piece) × Chain (IsGroup Member Kind) groups front × Chain Member others back × (ts ≡ front ++ back)

-- ---- names

-- `home` and `?x`
abbrev pub IsMember : Allowed → Spelled → List Piece → Type 0
IsMember allowed x ts = (p : Piece) × IsAllowed allowed p × (x ≡ named_of p) × (ts ≡ p ∷ [])

-- `- ship`
abbrev pub IsType : Spelled → List Piece → Type 0
IsType kind ts = (m : Piece) × (n : Piece) × IsSign ops.Minus m × IsName n × (kind ≡ spelled_of n) × (ts ≡ m ∷ n ∷ [])

-- the names of a group, each with the group's type
abbrev pub typed_names : Group Spelled → List TypedName
typed_names g = map (of_type g.kind) g.members

-- `?x ?y - ship ?z`: the names of the groups with their types, and behind them those without one, which are of type `object`
abbrev pub IsList : Allowed → List TypedName → List Piece → Type 0
IsList allowed xs ts =
    (groups : List (Group Spelled)) × (others : List Spelled) × AreGroups (IsMember allowed) IsType groups others ts
    × (xs ≡ flat_map typed_names groups ++ map (of_type object_type) others)

-- the types of a domain, with the type above each; `object` may be named without one, and is none of them then
abbrev pub AreTypes : List TypedName → List Piece → Type 0
AreTypes xs ts =
    (groups : List (Group Spelled)) × (others : List Spelled) × AreGroups (IsMember Names) IsType groups others ts
    × (xs ≡ flat_map typed_names groups ++ map (of_type object_type) (filter is_own_type others))

-- variables in parentheses
abbrev pub AreVariables : List TypedName → List Piece → Type 0
AreVariables vs ts = (s : Span) × (inner : List Piece) × Wrapped s inner ts × IsList Variables vs inner

-- ---- predicates and functions

-- `(at ?x - ship ?y)`
abbrev pub IsHead : Head → List Piece → Type 0
IsHead h ts =
    (n : Piece) × (inner : List Piece) × IsPlain n × Wrapped h.span (n ∷ inner) ts × (h.name ≡ spelled_of n) × IsList Variables h.params inner

-- `- number`
abbrev pub IsNumberType : Spelled → List Piece → Type 0
IsNumberType kind ts = (m : Piece) × (n : Piece) × IsSign ops.Minus m × IsWord (codes "number") n × (kind ≡ spelled_of n) × (ts ≡ m ∷ n ∷ [])

-- `(fuel ?x) (load ?x) - number (size ?x)`: functions with their type, and behind them some without
abbrev pub AreFunctions : List Head → List Piece → Type 0
AreFunctions hs ts =
    (groups : List (Group Head)) × (others : List Head) × AreGroups IsHead IsNumberType groups others ts
    × (hs ≡ flat_map (λ (g : Group Head). g.members) groups ++ others)
