-- A list of names that is read part by part is one by groups, and the other way round.
use Rattle.std.proofs.Common.{◌≡◌, List, [], ◌∷◌, ◌++◌, map, flat_map, filter, length, refl, ap, sym, subst, ◌∙◌, append_assoc, append-nil, Some, None}
use Rattle.std.specs.Prelude.{◌↔◌, ◌==◌, option_and_then}
use Rattle.std.proofs.lemmas.Bool.{cond-false}
use Rattle.plus_tree.specs.declared.names.Spelled.{Spelled}
use Rattle.plus_tree.specs.declared.terms.TypedName.{TypedName}
use Rattle.plus_parser.specs.declared.phrases.words.Allowed.{Allowed}
use Rattle.plus_parser.specs.declared.phrases.words.Allowed.TheVariants.{Names}
use Rattle.plus_tokens.specs.Items.{Piece}
use Rattle.plus_parser.specs.Phrases.Grammar.{Listing, no_names, of_type, object_type, typed_by}
use Rattle.plus_parser.specs.Phrases.Spells.{Chain, added, ListPart, l_name, l_type, SpellsListPart, with_list_part, SpellsListing, SpellsList}
use Rattle.plus_parser.proofs.PhraseLemmas.Forms.{some_is}
use Rattle.plus_parser.specs.ReadingDomain.{is_own_type}
use Rattle.plus_parser.specs.SpellsDomain.{SpellsTypes}
use Rattle.plus_grammar.specs.Groups.{Group, IsGroup, AreGroups, IsMember, IsType, typed_names, IsList, AreTypes}
use Rattle.plus_grammar.proofs.Chains.{chain_both, chain_one, chain_map, passed_unless, some_length, some_members}

module _ (allowed : Allowed) where
  -- the groups of a list that is read on with these names behind others
  record Regrouped (typed : List TypedName) (found : Listing) (ts : List Piece) : Type 0 where
    groups : List (Group Spelled)
    spelled : AreGroups (IsMember allowed) IsType groups found.waiting ts
    is : found.typed ≡ typed ++ flat_map typed_names groups

  regrouped : (l found : Listing) (parts : List ListPart) (before ts : List Piece) → Chain (IsMember allowed) l.waiting before → Chain (SpellsListPart allowed) parts ts
      → added with_list_part l parts ≡ Some found → Regrouped l.typed found (before ++ ts)
  regrouped l found [] before ts w c e =
      let r : Regrouped l.typed l before = record { groups = []; spelled = ([], before, refl, w, refl); is = sym (append-nil l.typed) } in
      let all : Regrouped l.typed l (before ++ ts) = subst (Regrouped l.typed l) (sym (append-nil before) ∙ ap (λ us. before ++ us) (sym c)) r in
      subst (λ (f : Listing). Regrouped l.typed f (before ++ ts)) (some_is l found e) all
  regrouped l found (l_name x ∷ parts) before ts w c e =
      let r = regrouped (record l { waiting = l.waiting ++ x ∷ [] }) found parts (before ++ c.0) c.1 (chain_both (IsMember allowed) l.waiting (x ∷ []) before c.0 w (chain_one (IsMember allowed) x c.0 c.2)) c.3 e in
      subst (Regrouped l.typed found) (append_assoc before c.0 c.1 ∙ ap (λ us. before ++ us) (sym c.4)) r
  regrouped l found (l_type x ∷ parts) before ts w c e =
      let p = passed_unless (length l.waiting == 0) (typed_by x l) (λ t. added with_list_part t parts) found e in
      let r = regrouped (typed_by x l) found parts [] c.1 refl c.3 p.1 in
      let s = r.spelled in
      let g : Group Spelled = record { members = l.waiting; kind = x } in
      let whole : before ++ ts ≡ ((before ++ c.0) ++ s.0) ++ s.1 =
      ap (λ us. before ++ us) (c.4 ∙ ap (λ us. c.0 ++ us) s.4) ∙ sym (append_assoc before c.0 (s.0 ++ s.1)) ∙ sym (append_assoc (before ++ c.0) s.0 s.1) in
      record {
        groups = g ∷ r.groups;
        spelled = ((before ++ c.0) ++ s.0, s.1, (before ++ c.0, s.0, (before, c.0, some_members l.waiting p.0, w, c.2, refl), s.2, refl), s.3, whole);
        is = r.is ∙ append_assoc l.typed (typed_names g) (flat_map typed_names r.groups);
      }

  -- ---- the parts of groups

  abbrev parts_of : List (Group Spelled) → List Spelled → List ListPart
  parts_of [] others = map l_name others ++ []
  parts_of (g ∷ gs) others = map l_name g.members ++ (l_type g.kind ∷ parts_of gs others)

  names_spelled : (xs : List Spelled) (ts : List Piece) → Chain (IsMember allowed) xs ts → Chain (SpellsListPart allowed) (map l_name xs) ts
  names_spelled xs ts c = chain_map (IsMember allowed) (SpellsListPart allowed) l_name (λ x us h. h) xs ts c

  parts_spelled : (gs : List (Group Spelled)) (others : List Spelled) (front back : List Piece) → Chain (IsGroup (IsMember allowed) IsType) gs front → Chain (IsMember allowed) others back
      → Chain (SpellsListPart allowed) (parts_of gs others) (front ++ back)
  parts_spelled [] others front back c o =
      subst (Chain (SpellsListPart allowed) (parts_of [] others)) (append-nil back ∙ ap (λ us. us ++ back) (sym c))
      (chain_both (SpellsListPart allowed) (map l_name others) [] back [] (names_spelled others back o) refl)
  parts_spelled (g ∷ gs) others front back c o =
      let i = c.2 in
      let rest = parts_spelled gs others c.1 back c.3 o in
      let whole : front ++ back ≡ i.0 ++ (i.1 ++ (c.1 ++ back)) =
      ap (λ us. us ++ back) (c.4 ∙ ap (λ us. us ++ c.1) i.5) ∙ append_assoc (i.0 ++ i.1) c.1 back ∙ append_assoc i.0 i.1 (c.1 ++ back) in
      subst (Chain (SpellsListPart allowed) (parts_of (g ∷ gs) others)) (sym whole)
      (chain_both (SpellsListPart allowed) (map l_name g.members) (l_type g.kind ∷ parts_of gs others) i.0 (i.1 ++ (c.1 ++ back)) (names_spelled g.members i.0 i.3)
      (i.1, c.1 ++ back, i.4, rest, refl))

  abbrev listing : List TypedName → List Spelled → Listing
  listing typed waiting = record { typed = typed; waiting = waiting }

  names_added : (typed : List TypedName) (waiting xs : List Spelled) (rest : List ListPart)
      → added with_list_part (listing typed waiting) (map l_name xs ++ rest) ≡ added with_list_part (listing typed (waiting ++ xs)) rest
  names_added typed waiting [] rest = ap (λ w. added with_list_part (listing typed w) rest) (sym (append-nil waiting))
  names_added typed waiting (x ∷ xs) rest =
      names_added typed (waiting ++ x ∷ []) xs rest ∙ ap (λ w. added with_list_part (listing typed w) rest) (append_assoc waiting (x ∷ []) xs)

  parts_added : (typed : List TypedName) (gs : List (Group Spelled)) (others : List Spelled) (front : List Piece) → Chain (IsGroup (IsMember allowed) IsType) gs front
      → added with_list_part (listing typed []) (parts_of gs others) ≡ Some (listing (typed ++ flat_map typed_names gs) others)
  parts_added typed [] others front c = names_added typed [] others [] ∙ ap (λ ys. Some (listing ys others)) (sym (append-nil typed))
  parts_added typed (g ∷ gs) others front c =
      let more = parts_of gs others in
      let made = typed_by g.kind (listing typed g.members) in
      names_added typed [] g.members (l_type g.kind ∷ more)
      ∙ ap (option_and_then (λ t. added with_list_part t more)) (cond-false (length g.members == 0) None (Some made) (some_length g.members c.2.2))
      ∙ parts_added (typed ++ typed_names g) gs others c.1 c.3
      ∙ ap (λ ys. Some (listing ys others)) (append_assoc typed (typed_names g) (flat_map typed_names gs))

  -- ---- both ways

  pub listing_to : (found : Listing) (ts : List Piece) → SpellsListing allowed found ts
      → (groups : List (Group Spelled)) × AreGroups (IsMember allowed) IsType groups found.waiting ts × (found.typed ≡ flat_map typed_names groups)
  listing_to found ts h = let r = regrouped no_names found h.parts [] ts refl h.spelled h.typed in (r.groups, r.spelled, r.is)

  pub listing_from : (groups : List (Group Spelled)) (others : List Spelled) (ts : List Piece) → AreGroups (IsMember allowed) IsType groups others ts
      → SpellsListing allowed (listing (flat_map typed_names groups) others) ts
  listing_from groups others ts g = record {
    parts = parts_of groups others;
    spelled = subst (Chain (SpellsListPart allowed) (parts_of groups others)) (sym g.4) (parts_spelled groups others g.0 g.1 g.2 g.3);
    typed = parts_added [] groups others g.0 g.2;
  }

  pub lists_by_groups : (xs : List TypedName) (ts : List Piece) → SpellsList allowed xs ts ↔ IsList allowed xs ts
  lists_by_groups xs ts = (
    λ h. let g = listing_to h.0 ts h.1 in (g.0, h.0.waiting, g.1, sym h.2 ∙ ap (λ ys. ys ++ map (of_type object_type) h.0.waiting) g.2),
    λ g. (listing (flat_map typed_names g.0) g.1, listing_from g.0 g.1 ts g.2, sym g.3),
  )

pub types_by_groups : (xs : List TypedName) (ts : List Piece) → SpellsTypes xs ts ↔ AreTypes xs ts
types_by_groups xs ts = (
  λ h. let g = listing_to Names h.0 ts h.1 in (g.0, h.0.waiting, g.1, sym h.2 ∙ ap (λ ys. ys ++ map (of_type object_type) (filter is_own_type h.0.waiting)) g.2),
  λ g. (record { typed = flat_map typed_names g.0; waiting = g.1 }, listing_from Names g.0 g.1 ts g.2, sym g.3),
)
