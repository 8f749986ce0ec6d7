-- The functions of a domain that are read part by part are those by groups, and the other way round.
use Rattle.std.proofs.Common.{◌≡◌, ◌≢◌, Bool, true, false, List, [], ◌∷◌, ◌++◌, map, flat_map, refl, ap, sym, subst, ◌∙◌, append_assoc, append-nil, Some}
use Rattle.std.specs.Prelude.{◌↔◌}
use Rattle.plus_tree.specs.declared.trees.Head.{Head}
use Rattle.plus_parser.specs.declared.phrases.words.Allowed.TheVariants.{Variables}
use Rattle.plus_tokens.specs.Items.{Piece}
use Rattle.plus_parser.specs.Phrases.Grammar.{spelled_of}
use Rattle.plus_parser.specs.Phrases.Spells.{Chain, added}
use Rattle.plus_parser.proofs.PhraseLemmas.Forms.{some_is}
use Rattle.plus_parser.specs.declared.parts.Functions.{Functions}
use Rattle.plus_parser.specs.SpellsDomain.{SpellsHead, FunctionPart, f_head, f_number, SpellsFunctionPart, with_function, SpellsFunctions}
use Rattle.plus_grammar.specs.Groups.{Group, IsGroup, AreGroups, IsHead, IsNumberType, AreFunctions}
use Rattle.plus_grammar.proofs.Chains.{chain_both, chain_one, chain_map, groups_more, passed_if, last_some}
use Rattle.plus_grammar.proofs.Lists.{lists_by_groups}

pub head_to : (h : Head) (ts : List Piece) → SpellsHead h ts → IsHead h ts
head_to h ts s = (s.0, s.1, s.2, s.3, s.4, (lists_by_groups Variables h.params s.1).0 s.5)

pub head_from : (h : Head) (ts : List Piece) → IsHead h ts → SpellsHead h ts
head_from h ts s = (s.0, s.1, s.2, s.3, s.4, (lists_by_groups Variables h.params s.1).1 s.5)

abbrev heads_of : List (Group Head) → List Head
heads_of gs = flat_map (λ (g : Group Head). g.members) gs

abbrev functions : List Head → Bool → Functions
functions heads untyped = record { heads = heads; untyped = untyped }

-- the groups of functions that are read on with some behind others
record Regrouped (before : List Head) (found : Functions) (ts : List Piece) : Type 0 where
  groups : List (Group Head)
  others : List Head
  spelled : AreGroups SpellsHead IsNumberType groups others ts
  is : found.heads ≡ before ++ (heads_of groups ++ others)

regrouped : (typed waiting : List Head) (u : Bool) (found : Functions) (parts : List FunctionPart) (before ts : List Piece) → (u ≡ true → waiting ≢ []) → Chain SpellsHead waiting before
    → Chain SpellsFunctionPart parts ts → added with_function (functions (typed ++ waiting) u) parts ≡ Some found → Regrouped typed found (before ++ ts)
regrouped typed waiting u found [] before ts n w c e =
    let l = functions (typed ++ waiting) u in
    let r : Regrouped typed l before = record { groups = []; others = waiting; spelled = ([], before, refl, w, refl); is = refl } in
    let all : Regrouped typed l (before ++ ts) = subst (Regrouped typed l) (sym (append-nil before) ∙ ap (λ us. before ++ us) (sym c)) r in
    subst (λ (f : Functions). Regrouped typed f (before ++ ts)) (some_is l found e) all
regrouped typed waiting u found (f_head h ∷ parts) before ts n w c e =
    let same : added with_function (functions (typed ++ (waiting ++ h ∷ [])) true) parts ≡ Some found =
    ap (λ hs. added with_function (functions hs true) parts) (sym (append_assoc typed waiting (h ∷ []))) ∙ e in
    let r =
    regrouped typed (waiting ++ h ∷ []) true found parts (before ++ c.0) c.1 (λ t. last_some waiting h)
    (chain_both SpellsHead waiting (h ∷ []) before c.0 w (chain_one SpellsHead h c.0 c.2)) c.3 same in
    subst (Regrouped typed found) (append_assoc before c.0 c.1 ∙ ap (λ us. before ++ us) (sym c.4)) r
regrouped typed waiting u found (f_number ∷ parts) before ts n w c e =
    let p = passed_if u (functions (typed ++ waiting) false) (λ t. added with_function t parts) found e in
    let same : added with_function (functions ((typed ++ waiting) ++ []) false) parts ≡ Some found =
    ap (λ hs. added with_function (functions hs false) parts) (append-nil (typed ++ waiting)) ∙ p.1 in
    let r = regrouped (typed ++ waiting) [] false found parts [] c.1 (λ t. absurd cc) refl c.3 same in
    let s = r.spelled in
    let i = c.2 in
    let g : Group Head = record { members = waiting; kind = spelled_of i.1 } in
    let whole : before ++ ts ≡ ((before ++ c.0) ++ s.0) ++ s.1 =
    ap (λ us. before ++ us) (c.4 ∙ ap (λ us. c.0 ++ us) s.4) ∙ sym (append_assoc before c.0 (s.0 ++ s.1)) ∙ sym (append_assoc (before ++ c.0) s.0 s.1) in
    record {
      groups = g ∷ r.groups;
      others = r.others;
      spelled = ((before ++ c.0) ++ s.0, s.1, (before ++ c.0, s.0, (before, c.0, n p.0, w, (i.0, i.1, i.2, i.3, refl, i.4), refl), s.2, refl), s.3, whole);
      is = r.is ∙ append_assoc typed waiting (heads_of r.groups ++ r.others) ∙ ap (λ hs. typed ++ hs) (sym (append_assoc waiting (heads_of r.groups) r.others));
    }

-- ---- the parts of groups

abbrev parts_of : List (Group Head) → List Head → List FunctionPart
parts_of [] others = map f_head others ++ []
parts_of (g ∷ gs) others = map f_head g.members ++ (f_number ∷ parts_of gs others)

heads_spelled : (hs : List Head) (ts : List Piece) → Chain SpellsHead hs ts → Chain SpellsFunctionPart (map f_head hs) ts
heads_spelled hs ts c = chain_map SpellsHead SpellsFunctionPart f_head (λ x us h. h) hs ts c

parts_spelled : (gs : List (Group Head)) (others : List Head) (front back : List Piece) → Chain (IsGroup SpellsHead IsNumberType) gs front → Chain SpellsHead others back
    → Chain SpellsFunctionPart (parts_of gs others) (front ++ back)
parts_spelled [] others front back c o =
    subst (Chain SpellsFunctionPart (parts_of [] others)) (append-nil back ∙ ap (λ us. us ++ back) (sym c))
    (chain_both SpellsFunctionPart (map f_head others) [] back [] (heads_spelled others back o) refl)
parts_spelled (g ∷ gs) others front back c o =
    let i = c.2 in
    let k = i.4 in
    let rest = parts_spelled gs others c.1 back c.3 o in
    let whole : front ++ back ≡ i.0 ++ (i.1 ++ (c.1 ++ back)) =
    ap (λ us. us ++ back) (c.4 ∙ ap (λ us. us ++ c.1) i.5) ∙ append_assoc (i.0 ++ i.1) c.1 back ∙ append_assoc i.0 i.1 (c.1 ++ back) in
    subst (Chain SpellsFunctionPart (parts_of (g ∷ gs) others)) (sym whole)
    (chain_both SpellsFunctionPart (map f_head g.members) (f_number ∷ parts_of gs others) i.0 (i.1 ++ (c.1 ++ back)) (heads_spelled g.members i.0 i.3)
    (i.1, c.1 ++ back, (k.0, k.1, k.2, k.3, k.5), rest, refl))

-- functions behind others, of which at least one is new
heads_added : (before : List Head) (u : Bool) (hs : List Head) (rest : List FunctionPart) → hs ≢ []
    → added with_function (functions before u) (map f_head hs ++ rest) ≡ added with_function (functions (before ++ hs) true) rest
heads_added before u [] rest n = absurd (n refl)
heads_added before u (h ∷ []) rest n = refl
heads_added before u (h ∷ g ∷ hs) rest n =
    heads_added (before ++ h ∷ []) true (g ∷ hs) rest (λ z. cc) ∙ ap (λ xs. added with_function (functions xs true) rest) (append_assoc before (h ∷ []) (g ∷ hs))

-- what is made of groups
record Made (heads : List Head) (parts : List FunctionPart) (from : Functions) : Type 0 where
  found : Functions
  all : added with_function from parts ≡ Some found
  are : found.heads ≡ heads

others_made : (before others : List Head) → Made (before ++ others) (parts_of [] others) (functions before false)
others_made before [] = record { found = functions before false; all = refl; are = sym (append-nil before) }
others_made before (h ∷ hs) = record { found = functions (before ++ h ∷ hs) true; all = heads_added before false (h ∷ hs) [] (λ z. cc); are = refl }

parts_made : (before : List Head) (gs : List (Group Head)) (others : List Head) (front : List Piece) → Chain (IsGroup SpellsHead IsNumberType) gs front
    → Made (before ++ (heads_of gs ++ others)) (parts_of gs others) (functions before false)
parts_made before [] others front c = others_made before others
parts_made before (g ∷ gs) others front c =
    let r = parts_made (before ++ g.members) gs others c.1 c.3 in
    record {
      found = r.found;
      all = heads_added before false g.members (f_number ∷ parts_of gs others) c.2.2 ∙ r.all;
      are = r.are ∙ append_assoc before g.members (heads_of gs ++ others) ∙ ap (λ hs. before ++ hs) (sym (append_assoc g.members (heads_of gs) others));
    }

-- ---- both ways

functions_to : (hs : List Head) (ts : List Piece) → SpellsFunctions hs ts → AreFunctions hs ts
functions_to hs ts f =
    let r = regrouped [] [] false f.found f.parts [] ts (λ t. absurd cc) refl f.spelled f.typed in
    (r.groups, r.others, groups_more SpellsHead IsHead IsNumberType head_to r.groups r.others ts r.spelled, sym f.are ∙ r.is)

functions_from : (hs : List Head) (ts : List Piece) → AreFunctions hs ts → SpellsFunctions hs ts
functions_from hs ts f =
    let g = groups_more IsHead SpellsHead IsNumberType head_from f.0 f.1 ts f.2 in
    let m = parts_made [] f.0 f.1 g.0 g.2 in
    record {
      parts = parts_of f.0 f.1;
      found = m.found;
      spelled = subst (Chain SpellsFunctionPart (parts_of f.0 f.1)) (sym g.4) (parts_spelled f.0 f.1 g.0 g.1 g.2 g.3);
      typed = m.all;
      are = m.are ∙ sym f.3;
    }

pub functions_by_groups : (hs : List Head) (ts : List Piece) → SpellsFunctions hs ts ↔ AreFunctions hs ts
functions_by_groups hs ts = (functions_to hs ts, functions_from hs ts)
