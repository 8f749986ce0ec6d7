-- The worked rows of lists.
use Rattle.std.proofs.Common.{◌≡◌, ◌≢◌, true, List, [], ◌∷◌, ◌++◌, refl, ap, sym, subst, ◌∙◌, append_assoc}
use Rattle.plus_tree.specs.declared.names.Spelled.{Spelled}
use Rattle.plus_parser.specs.declared.phrases.words.Allowed.TheVariants.{Names}
use Rattle.plus_tokens.specs.Items.{Piece}
use Rattle.plus_parser.specs.Phrases.Words.{is_allowed}
use Rattle.plus_parser.specs.Phrases.Grammar.{spelled_of, named_of}
use Rattle.plus_parser.specs.Phrases.Spells.{Chain, IsAllowed}
use Rattle.plus_grammar.specs.Groups.{Group, IsGroup, AreGroups, IsMember, IsType}
use Rattle.plus_grammar.specs.Rows.{name, minus, ListRows}

-- one more name in front
more : (p : Piece) (xs : List Spelled) (ts : List Piece) → IsAllowed Names p → Chain (IsMember Names) xs ts → Chain (IsMember Names) (named_of p ∷ xs) (p ∷ ts)
more p xs ts a c = (p ∷ [], ts, (p, a, refl, refl), c, refl)

-- the first token, if there is one, passes
abbrev Begins : List Piece → Type 0
Begins [] = Unit {0}
Begins (p ∷ ps) = IsAllowed Names p

-- members begin with a name
begins : (xs : List Spelled) (ts : List Piece) → Chain (IsMember Names) xs ts → Begins ts
begins [] ts c = subst Begins (sym c) tt
begins (x ∷ xs) ts c = subst Begins (sym (c.4 ∙ ap (λ us. us ++ c.1) c.2.3)) c.2.1

-- and so do tokens that begin with one member or more
begins_some : (xs : List Spelled) (ts us : List Piece) → xs ≢ [] → Chain (IsMember Names) xs ts → Begins (ts ++ us)
begins_some [] ts us n c = absurd (n refl)
begins_some (x ∷ xs) ts us n c = subst (λ vs. Begins (vs ++ us)) (sym (c.4 ∙ ap (λ vs. vs ++ c.1) c.2.3)) c.2.1

begins_groups : (gs : List (Group Spelled)) (others : List Spelled) (ts : List Piece) → AreGroups (IsMember Names) IsType gs others ts → Begins ts
begins_groups [] others ts g = subst Begins (sym (g.4 ∙ ap (λ us. us ++ g.1) g.2)) (begins others g.1 g.3)
begins_groups (g ∷ gs) others ts a =
    let c = a.2 in
    let i = c.2 in
    let whole : ts ≡ i.0 ++ (i.1 ++ (c.1 ++ a.1)) =
    a.4 ∙ ap (λ us. us ++ a.1) (c.4 ∙ ap (λ us. us ++ c.1) i.5) ∙ append_assoc (i.0 ++ i.1) c.1 a.1 ∙ append_assoc i.0 i.1 (c.1 ++ a.1) in
    subst Begins (sym whole) (begins_some g.members i.0 (i.1 ++ (c.1 ++ a.1)) i.2 i.3)

pub list_rows : ListRows
list_rows =
    let a = name 0 "a" in
    let b = name 2 "b" in
    let c = name 11 "c" in
    let d = name 20 "d" in
    let ship = name 6 "ship" in
    let port = name 15 "port" in
    let ships : Group Spelled = record { members = spelled_of a ∷ spelled_of b ∷ []; kind = spelled_of ship } in
    let ports : Group Spelled = record { members = spelled_of c ∷ []; kind = spelled_of port } in
    let two = more a (spelled_of b ∷ []) (b ∷ []) refl (more b [] [] refl refl) in
    let first : IsGroup (IsMember Names) IsType ships (a ∷ b ∷ minus 4 ∷ ship ∷ []) = (a ∷ b ∷ [], minus 4 ∷ ship ∷ [], λ z. cc, two, (minus 4, ship, refl, refl, refl, refl), refl) in
    let second : IsGroup (IsMember Names) IsType ports (c ∷ minus 13 ∷ port ∷ []) = (c ∷ [], minus 13 ∷ port ∷ [], λ z. cc, more c [] [] refl refl, (minus 13, port, refl, refl, refl, refl), refl) in
    record {
      grouped = (
        ships ∷ ports ∷ [],
        spelled_of d ∷ [],
        (
          a ∷ b ∷ minus 4 ∷ ship ∷ c ∷ minus 13 ∷ port ∷ [],
          d ∷ [],
          (a ∷ b ∷ minus 4 ∷ ship ∷ [], c ∷ minus 13 ∷ port ∷ [], first, (c ∷ minus 13 ∷ port ∷ [], [], second, refl, refl), refl),
          more d [] [] refl refl,
          refl,
        ),
        refl,
      );
      nothing = ([], [], ([], [], refl, refl, refl), refl);
      type_alone = λ xs g.
          let no : is_allowed Names (minus 0).kind ≡ true = begins_groups g.0 g.1 (minus 0 ∷ name 2 "ship" ∷ []) g.2 in
          cc;
    }
