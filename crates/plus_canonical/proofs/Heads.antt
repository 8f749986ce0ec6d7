-- Predicates and functions read again.
use Rattle.std.proofs.Common.{◌≡◌, ℕ, suc, Bool, true, false, cond, List, [], ◌∷◌, ◌++◌, Option, Some, None, refl, sym, ap, ◌∙◌, subst, append_assoc}
use Rattle.std.specs.Prelude.{map}
use Rattle.std.proofs.lemmas.List.{append-nil}
use Rattle.plus_tokens.specs.declared.token.Kind.TheVariants as kinds
use Rattle.plus_tree.specs.declared.names.Spelled.{Spelled}
use Rattle.plus_tree.specs.declared.terms.TypedName.{TypedName}
use Rattle.plus_tree.specs.declared.trees.Head.{Head}
use Rattle.plus_parser.specs.declared.phrases.words.Allowed.TheVariants.{Variables}
use Rattle.plus_tokens.specs.Items.{Piece}
use Rattle.plus_parser.specs.Phrases.Words.{is_plain_head, word_head}
use Rattle.plus_parser.specs.Phrases.Spells.{Chain, added}
use Rattle.plus_parser.specs.declared.parts.Functions.{Functions}
use Rattle.plus_parser.specs.ReadingDomain.{no_functions}
use Rattle.plus_parser.specs.SpellsDomain.{SpellsHead, FunctionPart, f_head, f_number, SpellsFunctionPart, with_function, SpellsFunctions}
use Rattle.plus_printer.specs.Words.{word, spaced, variable_text}
use Rattle.plus_printer.specs.Canon.{head_text}
use Rattle.plus_canonical.specs.Same.{no_span, bare_spelled, bare_typed, bare_head}
use Rattle.plus_canonical.proofs.Lexes.{Ended, Reads, turn, piece}
use Rattle.plus_parser.proofs.PhraseLemmas.Level.{Level, is_flat, level_at, level_none, level_flat, level_wrapped}
use Rattle.plus_parser.proofs.PhraseLemmas.Names.{plain_name as plain_kind}
use Rattle.plus_parser.proofs.PhraseLemmas.TypedLists.{level_list}
use Rattle.plus_canonical.proofs.Smalls.{Fine, fine_form, AreLexical, within}
use Rattle.plus_canonical.proofs.Forms.{head_even, chain_fine, chain_level, name_reads, loosen, HeadForm, head_reads, Again, AllOf, spaced_leads}
use Rattle.plus_canonical.proofs.Terms.{PlainName, plain_name}
use Rattle.plus_canonical.proofs.Lists.{added_keeps, all_append, SmallTyped, list_small, SpellsPair, pairs_list, params_again}

abbrev pub HeadAgain : ℕ → Head → Type 0
HeadAgain n h = Reads Ended (head_text h) (Again n Head SpellsHead bare_head h)

head_made : (m : ℕ) (h : Head) → is_plain_head (word_head h.name.name) ≡ true → (ts : List Piece)
    → HeadForm kinds.Name h.name.name (Again m (List TypedName) (Chain (SpellsPair Variables)) (map bare_typed) h.params) ts → Again (suc m) Head SpellsHead bare_head h ts
head_made m h plain ts f = record {
  again = record { name = record { name = h.name.name; span = f.at }; params = f.body_is.again; span = f.span };
  spelled = (piece kinds.Name h.name.name f.at, f.body, plain, f.wrapped, refl, pairs_list Variables f.body_is.again f.body f.body_is.spelled);
  even = head_even m ts f refl f.body_is.even;
  same = ap (λ (vs : List TypedName). record { name = bare_spelled h.name; params = vs; span = no_span }) f.body_is.same;
}

pub head_again_of : (m : ℕ) (h : Head) → PlainName h.name.name → AllOf SmallTyped h.params → HeadAgain (suc m) h
unfolding head_text word
head_again_of m h name params = turn {after = Ended} (head_text h) (head_made m h name.plain)
    (loosen (head_text h) (head_reads {S = Ended} h.name.name (spaced variable_text h.params) (name_reads h.name.name name.small) (params_again m h.params params)
    (spaced_leads TypedName variable_text h.params)))

pub head_again : (n : ℕ) (h : Head) (ts : List Piece) → Fine n ts → SpellsHead h ts → HeadAgain n h
head_again n h ts l (a, inner, plain, wrapped, name, params) =
    let lex : AreLexical (a ∷ inner) = within h.span (a ∷ inner) ts wrapped l.words in
    let i = fine_form n h.span a inner ts (ap is_flat (plain_kind a plain)) wrapped (level_list Variables 0 h.params inner params) l in
    subst (λ m. HeadAgain m h) i.under
    (head_again_of i.room h (subst PlainName (sym (ap (λ (x : Spelled). x.name) name)) (plain_name a lex.0 plain)) (list_small Variables h.params inner lex.1 params))

pub head_level : (h : Head) (ts : List Piece) → SpellsHead h ts → Level ts
head_level h ts (a, inner, plain, wrapped, name, params) =
    level_wrapped h.span (a ∷ inner) ts wrapped (level_flat a inner (ap is_flat (plain_kind a plain)) (level_list Variables 0 h.params inner params))

-- ---- functions

abbrev PartAgain : ℕ → FunctionPart → Type 0
PartAgain n (f_head h) = HeadAgain n h
PartAgain n f_number = Unit {0}

part_again : (n : ℕ) (x : FunctionPart) (ts : List Piece) → Fine n ts → SpellsFunctionPart x ts → PartAgain n x
part_again n (f_head h) ts l spelled = head_again n h ts l spelled
part_again n f_number ts l spelled = tt

part_level : (x : FunctionPart) (ts : List Piece) → SpellsFunctionPart x ts → Level ts
part_level (f_head h) ts spelled = head_level h ts spelled
part_level f_number ts (m, n, minus, number, whole) = level_at ts (m ∷ n ∷ []) whole (level_flat m (n ∷ []) (ap is_flat minus) (level_flat n [] (ap is_flat number.0) level_none))

abbrev AllHeads : ℕ → Functions → Type 0
AllHeads n fs = AllOf (HeadAgain n) fs.heads

part_keeps : (n : ℕ) (fs : Functions) (x : FunctionPart) (gs : Functions) → AllHeads n fs → PartAgain n x → with_function fs x ≡ Some gs → AllHeads n gs
part_keeps n fs (f_head h) gs all one e =
    let same : fs.heads ++ h ∷ [] ≡ gs.heads = ap (λ (f : Functions). f.heads) (some_is _ gs e) in
    subst (AllOf (HeadAgain n)) same (all_append Head (HeadAgain n) fs.heads (h ∷ []) all (one, tt))
  where
    some_is : (a b : Functions) → ◌≡◌ {A = Option Functions} (Some a) (Some b) → a ≡ b
    some_is a b e = cc
part_keeps n fs f_number gs all one e = at_test fs.untyped e where
  some_is : (a b : Functions) → ◌≡◌ {A = Option Functions} (Some a) (Some b) → a ≡ b
  some_is a b e = cc

  at_test : (b : Bool) → cond {A = Option Functions} b (Some (record fs { untyped = false })) None ≡ Some gs → AllHeads n gs
  at_test true e = subst (AllOf (HeadAgain n)) (ap (λ (f : Functions). f.heads) (some_is (record fs { untyped = false }) gs e)) all
  at_test false e = absurd cc

pub functions_all : (n : ℕ) (hs : List Head) (ts : List Piece) → Fine n ts → SpellsFunctions hs ts → AllOf (HeadAgain n) hs
functions_all n hs ts l s =
    subst (AllOf (HeadAgain n)) s.are
    (added_keeps Functions FunctionPart with_function (AllHeads n) (PartAgain n) (part_keeps n) s.parts no_functions s.found tt
    (chain_fine n FunctionPart SpellsFunctionPart (PartAgain n) part_level (part_again n) s.parts ts l s.spelled) s.typed)

pub functions_level : (hs : List Head) (ts : List Piece) → SpellsFunctions hs ts → Level ts
functions_level hs ts s = chain_level FunctionPart SpellsFunctionPart part_level s.parts ts s.spelled

-- functions without types
heads_chain : (hs : List Head) (ts : List Piece) → Chain SpellsHead hs ts → Chain SpellsFunctionPart (map f_head hs) ts
heads_chain [] ts e = e
heads_chain (h ∷ hs) ts (front, back, one, more, e) = (front, back, one, heads_chain hs back more, e)

record Added (fs : Functions) (hs : List Head) : Type 0 where
  found : Functions
  typed : added with_function fs (map f_head hs) ≡ Some found
  are : found.heads ≡ fs.heads ++ hs

heads_added : (fs : Functions) (hs : List Head) → Added fs hs
heads_added fs [] = record { found = fs; typed = refl; are = sym (append-nil fs.heads) }
heads_added fs (h ∷ hs) =
    let more = heads_added (record { heads = fs.heads ++ h ∷ []; untyped = true }) hs in
    record { found = more.found; typed = more.typed; are = more.are ∙ append_assoc fs.heads (h ∷ []) hs }

pub heads_functions : (hs : List Head) (ts : List Piece) → Chain SpellsHead hs ts → SpellsFunctions hs ts
heads_functions hs ts c =
    let a = heads_added no_functions hs in
    record { parts = map f_head hs; found = a.found; spelled = heads_chain hs ts c; typed = a.typed; are = a.are }
