-- What a text spells is a good tree.
use Rattle.std.proofs.Common.{◌≡◌, ℕ, Bool, true, false, cond, List, [], ◌∷◌, ◌++◌, Option, Some, None, sym, ap, subst, ◌+◌, ◌-◌, length}
use Rattle.std.specs.Prelude.{unwrap_or, is_some}
use Rattle.plus_tree.specs.declared.names.Spelled.{Spelled}
use Rattle.plus_tree.specs.declared.terms.TypedName.{TypedName}
use Rattle.plus_tree.specs.declared.trees.Head.{Head}
use Rattle.plus_tree.specs.declared.trees.Schema.{Schema}
use Rattle.plus_tree.specs.declared.trees.Domain.{Domain}
use Rattle.plus_tree.specs.declared.trees.Init.{Init}
use Rattle.plus_tree.specs.declared.trees.Problem.{Problem}
use Rattle.plus_tree.specs.Cond.{Cond}
use Rattle.plus_parser.specs.declared.phrases.words.Allowed.TheVariants.{Names, Variables}
use Rattle.plus_tokens.specs.Items.{Piece}
use Rattle.plus_parser.specs.Phrases.Grammar.{spelled_of}
use Rattle.plus_parser.specs.declared.parts.Keys.{Keys}
use Rattle.plus_parser.specs.declared.parts.DomainParts.{DomainParts}
use Rattle.plus_parser.specs.declared.parts.Functions.{Functions}
use Rattle.plus_parser.specs.declared.parts.ProblemParts.{ProblemParts}
use Rattle.plus_parser.specs.ReadingDomain.{no_functions, no_keys, no_parts, or_all, or_nothing, schema_made, domain_made}
use Rattle.plus_parser.specs.ReadingProblem.{no_problem_parts, problem_made}
use Rattle.plus_parser.specs.SpellsDomain.{SpellsRequirement, SpellsHead, FunctionPart, f_head, f_number, SpellsFunctionPart, with_function, SpellsFunctions, Key, k_parameters, k_condition, k_effect, SpellsKey, with_key, SpellsSchema, DomainPart, d_requirements, d_types, d_constants, d_predicates, d_functions, d_action, d_process, d_event, SpellsDomainPart, with_domain_part, Spells}
use Rattle.plus_parser.specs.SpellsProblem.{SpellsInit, ProblemPart, p_domain, p_requirements, p_objects, p_init, p_goal, p_metric, SpellsProblemPart, with_problem_part, SpellsProblem}
use Rattle.plus_canonical.proofs.Smalls.{IsSmall, AreLexical, left, within, lexical, lexical_at, name_small, keyword_small}
use Rattle.plus_canonical.proofs.Forms.{AllOf, chain_all}
use Rattle.plus_canonical.proofs.Terms.{PlainName, plain_name}
use Rattle.plus_canonical.proofs.Lists.{added_keeps, all_append, SmallTyped, list_small, types_small, variables_small}
use Rattle.laws_translation.proofs.TextLemmas.Good.{GoodCond, GoodEffect, GoodInit, cond_good, effect_good, init_good}
use Rattle.laws_translation.proofs.TextLemmas.Rooms.{GoodHead, GoodRule, SmallSpelled, GoodTree, GoodTask}

-- ---- heads

requirement_good : (x : Spelled) (ts : List Piece) → AreLexical ts → SpellsRequirement x ts → SmallSpelled x
requirement_good x ts l (p, is, e, whole) =
    let lex : AreLexical (p ∷ []) = lexical_at ts (p ∷ []) whole l in subst (λ (y : Spelled). IsSmall y.name) (sym e) (keyword_small p lex.0 is)

head_good : (h : Head) (ts : List Piece) → AreLexical ts → SpellsHead h ts → GoodHead h
head_good h ts l (a, inner, plain, wrapped, name, params) =
    let lex : AreLexical (a ∷ inner) = within h.span (a ∷ inner) ts wrapped l in
    record {
      name = subst PlainName (sym (ap (λ (x : Spelled). x.name) name)) (plain_name a lex.0 plain);
      params = list_small Variables h.params inner lex.1 params;
    }

abbrev GoodFunction : FunctionPart → Type 0
GoodFunction (f_head h) = GoodHead h
GoodFunction f_number = Unit {0}

function_good : (x : FunctionPart) (ts : List Piece) → AreLexical ts → SpellsFunctionPart x ts → GoodFunction x
function_good (f_head h) ts l spelled = head_good h ts l spelled
function_good f_number ts l spelled = tt

abbrev GoodHeads : Functions → Type 0
GoodHeads fs = AllOf GoodHead fs.heads

some_is : (a b : Functions) → ◌≡◌ {A = Option Functions} (Some a) (Some b) → a ≡ b
some_is a b e = cc

function_keeps : (fs : Functions) (x : FunctionPart) (gs : Functions) → GoodHeads fs → GoodFunction x → with_function fs x ≡ Some gs → GoodHeads gs
function_keeps fs (f_head h) gs all one e =
    subst (AllOf GoodHead) (ap (λ (f : Functions). f.heads) (some_is _ gs e)) (all_append Head GoodHead fs.heads (h ∷ []) all (one, tt))
function_keeps fs f_number gs all one e = at_test fs.untyped e
  where
    at_test : (b : Bool) → cond {A = Option Functions} b (Some (record fs { untyped = false })) None ≡ Some gs → GoodHeads gs
    at_test true e = subst (AllOf GoodHead) (ap (λ (f : Functions). f.heads) (some_is (record fs { untyped = false }) gs e)) all
    at_test false e = absurd cc

functions_good : (hs : List Head) (ts : List Piece) → AreLexical ts → SpellsFunctions hs ts → AllOf GoodHead hs
functions_good hs ts l s =
    subst (AllOf GoodHead) s.are
    (added_keeps Functions FunctionPart with_function GoodHeads GoodFunction function_keeps s.parts no_functions s.found tt
    (chain_all FunctionPart SpellsFunctionPart GoodFunction function_good s.parts ts l s.spelled) s.typed)

-- ---- schemas

record GoodKeys (ks : Keys) : Type 0 where
  params : AllOf SmallTyped (unwrap_or ks.parameters [])
  condition : GoodCond (or_all ks.condition)
  effect : GoodEffect (or_nothing ks.effect)

abbrev GoodKey : Key → Type 0
GoodKey (k_parameters vs) = AllOf SmallTyped vs
GoodKey (k_condition c) = GoodCond c
GoodKey (k_effect e) = GoodEffect e

inner_of : (p : Piece) (inner ts : List Piece) → AreLexical ts → ts ≡ p ∷ inner → AreLexical inner
inner_of p inner ts l whole = let m : AreLexical (p ∷ inner) = lexical_at ts (p ∷ inner) whole l in m.1

key_good : (x : Key) (ts : List Piece) → AreLexical ts → SpellsKey x ts → GoodKey x
key_good (k_parameters vs) ts l (p, inner, is, spelled, whole) = variables_small vs inner (inner_of p inner ts l whole) spelled
key_good (k_condition c) ts l (p, inner, is, spelled, whole) = cond_good c inner (inner_of p inner ts l whole) spelled
key_good (k_effect e) ts l (p, inner, is, spelled, whole) = effect_good e inner (inner_of p inner ts l whole) spelled

keys_through : (b : Bool) (ks ms : Keys) → cond {A = Option Keys} b None (Some ks) ≡ Some ms → GoodKeys ks → GoodKeys ms
keys_through true ks ms e g = absurd cc
keys_through false ks ms e g = let same : ks ≡ ms = cc in subst GoodKeys same g

key_keeps : (ks : Keys) (x : Key) (ms : Keys) → GoodKeys ks → GoodKey x → with_key ks x ≡ Some ms → GoodKeys ms
key_keeps ks (k_parameters vs) ms g x e = keys_through (is_some ks.parameters) (record ks { parameters = Some vs }) ms e (record { params = x; condition = g.condition; effect = g.effect })
key_keeps ks (k_condition c) ms g x e = keys_through (is_some ks.condition) (record ks { condition = Some c }) ms e (record { params = g.params; condition = x; effect = g.effect })
key_keeps ks (k_effect f) ms g x e = keys_through (is_some ks.effect) (record ks { effect = Some f }) ms e (record { params = g.params; condition = g.condition; effect = x })

rule_made : (a : Schema) (n : Piece) (ks : Keys) → a ≡ schema_made (spelled_of n) ks a.span → IsSmall n.word → GoodKeys ks → GoodRule a
rule_made a n ks is name g = record {
  name = subst (λ (b : Schema). IsSmall b.name.name) (sym is) name;
  params = subst (λ (b : Schema). AllOf SmallTyped b.params) (sym is) g.params;
  condition = subst (λ (b : Schema). GoodCond b.condition) (sym is) g.condition;
  effect = subst (λ (b : Schema). GoodEffect b.effect) (sym is) g.effect;
}

rule_good : (a : Schema) (ts : List Piece) → AreLexical ts → SpellsSchema a ts → GoodRule a
rule_good a ts l s =
    let lex : AreLexical (s.name ∷ s.body) = lexical_at ts (s.name ∷ s.body) s.whole l in
    rule_made a s.name s.found s.is (name_small s.name lex.0 s.is_name)
    (added_keeps Keys Key with_key GoodKeys GoodKey key_keeps s.keys no_keys s.found (record { params = tt; condition = tt; effect = tt })
    (chain_all Key SpellsKey GoodKey key_good s.keys s.body lex.1 s.spelled) s.once)

-- ---- domains

record GoodParts (s : DomainParts) : Type 0 where
  requirements : AllOf SmallSpelled (unwrap_or s.requirements [])
  types : AllOf SmallTyped (unwrap_or s.types [])
  constants : AllOf SmallTyped (unwrap_or s.constants [])
  predicates : AllOf GoodHead (unwrap_or s.predicates [])
  functions : AllOf GoodHead (unwrap_or s.functions [])
  actions : AllOf GoodRule s.actions
  processes : AllOf GoodRule s.processes
  events : AllOf GoodRule s.events

abbrev GoodPart : DomainPart → Type 0
GoodPart (d_requirements xs) = AllOf SmallSpelled xs
GoodPart (d_types xs) = AllOf SmallTyped xs
GoodPart (d_constants xs) = AllOf SmallTyped xs
GoodPart (d_predicates hs) = AllOf GoodHead hs
GoodPart (d_functions hs) = AllOf GoodHead hs
GoodPart (d_action a) = GoodRule a
GoodPart (d_process a) = GoodRule a
GoodPart (d_event a) = GoodRule a

part_good : (x : DomainPart) (ts : List Piece) → AreLexical ts → SpellsDomainPart x ts → GoodPart x
part_good (d_requirements xs) ts l (s, p, body, is, wrapped, c) =
    let f : AreLexical (p ∷ body) = within s (p ∷ body) ts wrapped l in chain_all Spelled SpellsRequirement SmallSpelled requirement_good xs body f.1 c
part_good (d_types xs) ts l (s, p, body, is, wrapped, c) = let f : AreLexical (p ∷ body) = within s (p ∷ body) ts wrapped l in types_small xs body f.1 c
part_good (d_constants xs) ts l (s, p, body, is, wrapped, c) = let f : AreLexical (p ∷ body) = within s (p ∷ body) ts wrapped l in list_small Names xs body f.1 c
part_good (d_predicates xs) ts l (s, p, body, is, wrapped, c) = let f : AreLexical (p ∷ body) = within s (p ∷ body) ts wrapped l in chain_all Head SpellsHead GoodHead head_good xs body f.1 c
part_good (d_functions xs) ts l (s, p, body, is, wrapped, c) = let f : AreLexical (p ∷ body) = within s (p ∷ body) ts wrapped l in functions_good xs body f.1 c
part_good (d_action a) ts l (s, p, body, is, wrapped, c, e) = let f : AreLexical (p ∷ body) = within s (p ∷ body) ts wrapped l in rule_good a body f.1 c
part_good (d_process a) ts l (s, p, body, is, wrapped, c, e) = let f : AreLexical (p ∷ body) = within s (p ∷ body) ts wrapped l in rule_good a body f.1 c
part_good (d_event a) ts l (s, p, body, is, wrapped, c, e) = let f : AreLexical (p ∷ body) = within s (p ∷ body) ts wrapped l in rule_good a body f.1 c

parts_through : (b : Bool) (s t : DomainParts) → cond {A = Option DomainParts} b None (Some s) ≡ Some t → GoodParts s → GoodParts t
parts_through true s t e g = absurd cc
parts_through false s t e g = let same : s ≡ t = cc in subst GoodParts same g

part_keeps : (s : DomainParts) (x : DomainPart) (t : DomainParts) → GoodParts s → GoodPart x → with_domain_part s x ≡ Some t → GoodParts t
part_keeps s (d_requirements xs) t g x e = parts_through (is_some s.requirements) (record s { requirements = Some xs }) t e
    (record { requirements = x; types = g.types; constants = g.constants; predicates = g.predicates; functions = g.functions; actions = g.actions; processes = g.processes; events = g.events })
part_keeps s (d_types xs) t g x e = parts_through (is_some s.types) (record s { types = Some xs }) t e
    (record { requirements = g.requirements; types = x; constants = g.constants; predicates = g.predicates; functions = g.functions; actions = g.actions; processes = g.processes; events = g.events })
part_keeps s (d_constants xs) t g x e = parts_through (is_some s.constants) (record s { constants = Some xs }) t e
    (record { requirements = g.requirements; types = g.types; constants = x; predicates = g.predicates; functions = g.functions; actions = g.actions; processes = g.processes; events = g.events })
part_keeps s (d_predicates xs) t g x e = parts_through (is_some s.predicates) (record s { predicates = Some xs }) t e
    (record { requirements = g.requirements; types = g.types; constants = g.constants; predicates = x; functions = g.functions; actions = g.actions; processes = g.processes; events = g.events })
part_keeps s (d_functions xs) t g x e = parts_through (is_some s.functions) (record s { functions = Some xs }) t e
    (record { requirements = g.requirements; types = g.types; constants = g.constants; predicates = g.predicates; functions = x; actions = g.actions; processes = g.processes; events = g.events })
part_keeps s (d_action a) t g x e = parts_through false (record s { actions = s.actions ++ a ∷ [] }) t e
    (record { requirements = g.requirements; types = g.types; constants = g.constants; predicates = g.predicates; functions = g.functions; actions = all_append Schema GoodRule s.actions (a ∷ []) g.actions (x, tt); processes = g.processes; events = g.events })
part_keeps s (d_process a) t g x e = parts_through false (record s { processes = s.processes ++ a ∷ [] }) t e
    (record { requirements = g.requirements; types = g.types; constants = g.constants; predicates = g.predicates; functions = g.functions; actions = g.actions; processes = all_append Schema GoodRule s.processes (a ∷ []) g.processes (x, tt); events = g.events })
part_keeps s (d_event a) t g x e = parts_through false (record s { events = s.events ++ a ∷ [] }) t e
    (record { requirements = g.requirements; types = g.types; constants = g.constants; predicates = g.predicates; functions = g.functions; actions = g.actions; processes = g.processes; events = all_append Schema GoodRule s.events (a ∷ []) g.events (x, tt) })

tree_made : (d : Domain) (s : DomainParts) → d ≡ domain_made d.name s d.span → IsSmall d.name.name → GoodParts s → GoodTree d
tree_made d s is name g = record {
  name = name;
  requirements = subst (λ (x : Domain). AllOf SmallSpelled x.requirements) (sym is) g.requirements;
  types = subst (λ (x : Domain). AllOf SmallTyped x.types) (sym is) g.types;
  constants = subst (λ (x : Domain). AllOf SmallTyped x.constants) (sym is) g.constants;
  predicates = subst (λ (x : Domain). AllOf GoodHead x.predicates) (sym is) g.predicates;
  functions = subst (λ (x : Domain). AllOf GoodHead x.functions) (sym is) g.functions;
  actions = subst (λ (x : Domain). AllOf GoodRule x.actions) (sym is) g.actions;
  processes = subst (λ (x : Domain). AllOf GoodRule x.processes) (sym is) g.processes;
  events = subst (λ (x : Domain). AllOf GoodRule x.events) (sym is) g.events;
}

pub tree_good : (text : List ℕ) (d : Domain) → Spells text d → GoodTree d
tree_good text d (ts, items, t) =
    let f = t.frame in
    let lex : AreLexical (f.first ∷ f.define ∷ f.inner ∷ f.kind ∷ f.named ∷ f.close ∷ (t.body ++ f.last ∷ [])) = lexical_at ts (f.first ∷ f.define ∷ f.inner ∷ f.kind ∷ f.named ∷ f.close ∷ (t.body ++ f.last ∷ [])) f.whole (lexical (length text + 1 - 0) text 0 ts items) in
    let name : IsSmall d.name.name = subst (λ (x : Spelled). IsSmall x.name) (sym f.name_is) (name_small f.named lex.1.1.1.1.0 f.is_name) in
    tree_made d t.found t.is name
    (added_keeps DomainParts DomainPart with_domain_part GoodParts GoodPart part_keeps t.parts no_parts t.found
    (record { requirements = tt; types = tt; constants = tt; predicates = tt; functions = tt; actions = tt; processes = tt; events = tt })
    (chain_all DomainPart SpellsDomainPart GoodPart part_good t.parts t.body (left t.body (f.last ∷ []) lex.1.1.1.1.1.1) t.spelled) t.once)

-- ---- problems

abbrev Found : {A : Type 0} → (A → Type 0) → Option A → Type 0
Found P None = Unit {0}
Found P (Some x) = P x

record GoodSections (s : ProblemParts) : Type 0 where
  domain : Found SmallSpelled s.domain
  requirements : AllOf SmallSpelled (unwrap_or s.requirements [])
  objects : AllOf SmallTyped (unwrap_or s.objects [])
  init : Found (AllOf GoodInit) s.init
  goal : Found GoodCond s.goal

abbrev GoodSection : ProblemPart → Type 0
GoodSection (p_domain x) = IsSmall x.name
GoodSection (p_requirements xs) = AllOf SmallSpelled xs
GoodSection (p_objects xs) = AllOf SmallTyped xs
GoodSection (p_init xs) = AllOf GoodInit xs
GoodSection (p_goal c) = GoodCond c
GoodSection p_metric = Unit {0}

section_good : (x : ProblemPart) (ts : List Piece) → AreLexical ts → SpellsProblemPart x ts → GoodSection x
section_good (p_domain x) ts l (s, p, n, is, wrapped, name, e) =
    let lex : AreLexical (p ∷ n ∷ []) = within s (p ∷ n ∷ []) ts wrapped l in subst SmallSpelled (sym e) (name_small n lex.1.0 name)
section_good (p_requirements xs) ts l (s, p, body, is, wrapped, c) =
    let f : AreLexical (p ∷ body) = within s (p ∷ body) ts wrapped l in chain_all Spelled SpellsRequirement SmallSpelled requirement_good xs body f.1 c
section_good (p_objects xs) ts l (s, p, body, is, wrapped, c) = let f : AreLexical (p ∷ body) = within s (p ∷ body) ts wrapped l in list_small Names xs body f.1 c
section_good (p_init xs) ts l (s, p, body, is, wrapped, c) = let f : AreLexical (p ∷ body) = within s (p ∷ body) ts wrapped l in chain_all Init SpellsInit GoodInit init_good xs body f.1 c
section_good (p_goal x) ts l (s, p, body, is, wrapped, c) = let f : AreLexical (p ∷ body) = within s (p ∷ body) ts wrapped l in cond_good x body f.1 c
section_good p_metric ts l c = tt

sections_through : (b : Bool) (s t : ProblemParts) → cond {A = Option ProblemParts} b None (Some s) ≡ Some t → GoodSections s → GoodSections t
sections_through true s t e g = absurd cc
sections_through false s t e g = let same : s ≡ t = cc in subst GoodSections same g

section_keeps : (s : ProblemParts) (x : ProblemPart) (t : ProblemParts) → GoodSections s → GoodSection x → with_problem_part s x ≡ Some t → GoodSections t
section_keeps s (p_domain y) t g x e = sections_through (is_some s.domain) (record s { domain = Some y }) t e (record { domain = x; requirements = g.requirements; objects = g.objects; init = g.init; goal = g.goal })
section_keeps s (p_requirements xs) t g x e = sections_through (is_some s.requirements) (record s { requirements = Some xs }) t e (record { domain = g.domain; requirements = x; objects = g.objects; init = g.init; goal = g.goal })
section_keeps s (p_objects xs) t g x e = sections_through (is_some s.objects) (record s { objects = Some xs }) t e (record { domain = g.domain; requirements = g.requirements; objects = x; init = g.init; goal = g.goal })
section_keeps s (p_init xs) t g x e = sections_through (is_some s.init) (record s { init = Some xs }) t e (record { domain = g.domain; requirements = g.requirements; objects = g.objects; init = x; goal = g.goal })
section_keeps s (p_goal c) t g x e = sections_through (is_some s.goal) (record s { goal = Some c }) t e (record { domain = g.domain; requirements = g.requirements; objects = g.objects; init = g.init; goal = x })
section_keeps s p_metric t g x e = sections_through s.metric (record s { metric = true }) t e (record { domain = g.domain; requirements = g.requirements; objects = g.objects; init = g.init; goal = g.goal })

some_problem : (p q : Problem) → ◌≡◌ {A = Option Problem} (Some p) (Some q) → p ≡ q
some_problem p q e = cc

abbrev the_parts : Option Spelled → Option (List Spelled) → Option (List TypedName) → Option (List Init) → Option Cond → Bool → ProblemParts
the_parts d r o i g m = record { domain = d; requirements = r; objects = o; init = i; goal = g; metric = m }

task_made : (p : Problem) (d : Option Spelled) (r : Option (List Spelled)) (o : Option (List TypedName)) (i : Option (List Init)) (g : Option Cond) (q : Bool)
    → problem_made p.name (the_parts d r o i g q) p.span ≡ Some p → IsSmall p.name.name → GoodSections (the_parts d r o i g q) → GoodTask p
task_made p (Some d) r o (Some i) (Some g) q e name good =
    let is : record { name = p.name; domain = d; requirements = unwrap_or r []; objects = unwrap_or o []; init = i; goal = g; span = p.span } ≡ p = some_problem _ p e in
    record {
      name = name;
      domain = subst (λ (q : Problem). IsSmall q.domain.name) is good.domain;
      requirements = subst (λ (q : Problem). AllOf SmallSpelled q.requirements) is good.requirements;
      objects = subst (λ (q : Problem). AllOf SmallTyped q.objects) is good.objects;
      init = subst (λ (q : Problem). AllOf GoodInit q.init) is good.init;
      goal = subst (λ (q : Problem). GoodCond q.goal) is good.goal;
    }
task_made p None r o i g q e name good = absurd cc
task_made p (Some d) r o None g q e name good = absurd cc
task_made p (Some d) r o (Some i) None q e name good = absurd cc

pub task_good : (text : List ℕ) (p : Problem) → SpellsProblem text p → GoodTask p
task_good text p (ts, items, t) =
    let f = t.frame in
    let lex : AreLexical (f.first ∷ f.define ∷ f.inner ∷ f.kind ∷ f.named ∷ f.close ∷ (t.body ++ f.last ∷ [])) = lexical_at ts (f.first ∷ f.define ∷ f.inner ∷ f.kind ∷ f.named ∷ f.close ∷ (t.body ++ f.last ∷ [])) f.whole (lexical (length text + 1 - 0) text 0 ts items) in
    let name : IsSmall p.name.name = subst SmallSpelled (sym f.name_is) (name_small f.named lex.1.1.1.1.0 f.is_name) in
    let s = t.found in
    task_made p s.domain s.requirements s.objects s.init s.goal s.metric t.is name
    (added_keeps ProblemParts ProblemPart with_problem_part GoodSections GoodSection section_keeps t.parts no_problem_parts t.found
    (record { domain = tt; requirements = tt; objects = tt; init = tt; goal = tt })
    (chain_all ProblemPart SpellsProblemPart GoodSection section_good t.parts t.body (left t.body (f.last ∷ []) lex.1.1.1.1.1.1) t.spelled) t.once)
