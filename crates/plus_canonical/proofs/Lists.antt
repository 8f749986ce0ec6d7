-- Typed lists read again: each name with its type behind it.
use Rattle.std.proofs.Common.{◌≡◌, ℕ, Bool, true, false, List, [], ◌∷◌, ◌++◌, length, Option, Some, None, refl, sym, ap, ◌∙◌, subst, append_assoc, cond, suc}
use Rattle.std.specs.Prelude.{map, codes, filter, option_and_then, ◌==◌}
use Rattle.std.proofs.lemmas.List.{append-nil}
use Rattle.plus_tokens.specs.declared.token.Kind.{Kind}
use Rattle.plus_tokens.specs.declared.token.Kind.TheVariants as kinds
use Rattle.plus_tokens.specs.declared.token.Op.TheVariants.{Minus}
use Rattle.plus_tokens.specs.declared.span.Span.{Span}
use Rattle.plus_tree.specs.declared.names.Spelled.{Spelled}
use Rattle.plus_tree.specs.declared.terms.TypedName.{TypedName}
use Rattle.plus_parser.specs.declared.phrases.words.Allowed.{Allowed}
use Rattle.plus_parser.specs.declared.phrases.words.Allowed.TheVariants.{Names, Variables}
use Rattle.plus_tokens.specs.Items.{Piece}
use Rattle.plus_parser.specs.Phrases.Words.{is_allowed}
use Rattle.plus_parser.specs.Phrases.Grammar.{named_of, of_type, object_type, Listing, no_names, typed_by, all_typed}
use Rattle.plus_parser.specs.Phrases.Spells.{Chain, added, ListPart, l_name, l_type, SpellsListPart, with_list_part, SpellsListing, SpellsList, SpellsVariables}
use Rattle.plus_parser.specs.ReadingDomain.{is_own_type}
use Rattle.plus_parser.specs.SpellsDomain.{SpellsTypes}
use Rattle.plus_printer.specs.Words.{word, spaced, typed_text, variable_text, listed, variables_text}
use Rattle.plus_canonical.specs.Same.{bare_typed}
use Rattle.plus_canonical.proofs.Lexes.{Ended, at_space, Any, Reads, Both, both, turn, join, piece, IsToken, none_reads}
use Rattle.plus_parser.proofs.PhraseLemmas.Level.{is_flat, allowed_flat, even_wrapped}
use Rattle.plus_parser.proofs.PhraseLemmas.TypedLists.{level_list}
use Rattle.plus_canonical.proofs.Smalls.{Fine, fine_within, even_first, even_token, IsSmall, AreLexical, name_small, within, lexical_at}
use Rattle.plus_canonical.proofs.Forms.{name_reads, variable_reads, op_reads, spaced_before, Form, form_reads, Again, AllOf, chain_all, spaced_leads, spaced_again, none_again, more_again}
use Rattle.plus_canonical.proofs.Terms.{fixed, named_small}

-- ---- what holds of all parts holds of what they give

pub added_keeps : (S X : Type 0) (add : S → X → Option S) (I : S → Type 0) (J : X → Type 0) → ((s : S) (x : X) (t : S) → I s → J x → add s x ≡ Some t → I t)
    → (xs : List X) (s t : S) → I s → AllOf J xs → added add s xs ≡ Some t → I t
added_keeps S X add I J keeps [] s t i j e = let same : s ≡ t = cc in subst I same i
added_keeps S X add I J keeps (x ∷ xs) s t i j e =
    next (add s x) (λ m. keeps s x m i j.0) (λ m k. added_keeps S X add I J keeps xs m t k j.1) e
  where
    next : (r : Option S) → ((m : S) → r ≡ Some m → I m) → ((m : S) → I m → added add m xs ≡ Some t → I t) → option_and_then (λ m. added add m xs) r ≡ Some t → I t
    next (Some m) here more e = more m (here m refl) e
    next None here more e = absurd cc

pub all_append : (X : Type 0) (R : X → Type 0) (a b : List X) → AllOf R a → AllOf R b → AllOf R (a ++ b)
all_append X R [] b x y = y
all_append X R (z ∷ a) b x y = (x.0, all_append X R a b x.1 y)

-- ---- names with good types

abbrev pub SmallSpelled : Spelled → Type 0
SmallSpelled x = IsSmall x.name

pub record SmallTyped (x : TypedName) : Type 0 where
  pub name : IsSmall x.name.name
  pub kind : IsSmall x.kind.name

record SmallListing (l : Listing) : Type 0 where
  typed : AllOf SmallTyped l.typed
  waiting : AllOf SmallSpelled l.waiting

abbrev SmallPart : ListPart → Type 0
SmallPart (l_name x) = IsSmall x.name
SmallPart (l_type x) = IsSmall x.name

small_part : (allowed : Allowed) (x : ListPart) (ts : List Piece) → AreLexical ts → SpellsListPart allowed x ts → SmallPart x
small_part allowed (l_name x) ts l (p, ok, is, whole) =
    let lex : AreLexical (p ∷ []) = lexical_at ts (p ∷ []) whole l in
    subst SmallSpelled (sym is) (named_small allowed p lex.0 ok)
small_part allowed (l_type x) ts l (m, n, minus, name, is, whole) =
    let lex : AreLexical (m ∷ n ∷ []) = lexical_at ts (m ∷ n ∷ []) whole l in
    subst SmallSpelled (sym is) (name_small n lex.1.0 name)

typed_all : (kind : Spelled) (xs : List Spelled) → IsSmall kind.name → AllOf SmallSpelled xs → AllOf SmallTyped (map (of_type kind) xs)
typed_all kind [] k all = tt
typed_all kind (x ∷ xs) k all = (record { name = all.0; kind = k }, typed_all kind xs k all.1)

part_keeps : (l : Listing) (x : ListPart) (m : Listing) → SmallListing l → SmallPart x → with_list_part l x ≡ Some m → SmallListing m
part_keeps l (l_name x) m s p e =
    let same : record l { waiting = l.waiting ++ x ∷ [] } ≡ m = some_is _ m e in
    subst SmallListing same (record { typed = s.typed; waiting = all_append Spelled SmallSpelled l.waiting (x ∷ []) s.waiting (p, tt) })
  where
    some_is : (a b : Listing) → ◌≡◌ {A = Option Listing} (Some a) (Some b) → a ≡ b
    some_is a b e = cc
part_keeps l (l_type x) m s p e = at_test (length l.waiting == 0) e where
  typed : SmallListing (typed_by x l)
  typed = record { typed = all_append TypedName SmallTyped l.typed (map (of_type x) l.waiting) s.typed (typed_all x l.waiting p s.waiting); waiting = tt }

  at_test : (b : Bool) → cond {A = Option Listing} b None (Some (typed_by x l)) ≡ Some m → SmallListing m
  at_test true e = absurd cc
  at_test false e = let same : typed_by x l ≡ m = cc in subst SmallListing same typed

listing_small : (allowed : Allowed) (l : Listing) (ts : List Piece) → AreLexical ts → SpellsListing allowed l ts → SmallListing l
listing_small allowed l ts lex s =
    added_keeps Listing ListPart with_list_part SmallListing SmallPart part_keeps s.parts no_names l (record { typed = tt; waiting = tt })
    (chain_all ListPart (SpellsListPart allowed) SmallPart (small_part allowed) s.parts ts lex s.spelled) s.typed

object_small : IsSmall (codes "object")
object_small = fixed 111 (codes "bject") refl refl refl refl

all_small : (l : Listing) → SmallListing l → AllOf SmallTyped (all_typed l)
all_small l s = all_append TypedName SmallTyped l.typed (map (of_type object_type) l.waiting) s.typed (typed_all object_type l.waiting object_small s.waiting)

pub list_small : (allowed : Allowed) (xs : List TypedName) (ts : List Piece) → AreLexical ts → SpellsList allowed xs ts → AllOf SmallTyped xs
list_small allowed xs ts l (found, spelled, are) = subst (AllOf SmallTyped) are (all_small found (listing_small allowed found ts l spelled))

filter_small : (test : Spelled → Bool) (xs : List Spelled) → AllOf SmallSpelled xs → AllOf SmallSpelled (filter test xs)
filter_small test [] all = tt
filter_small test (x ∷ xs) all = by (test x) (filter_small test xs all.1) where
  by : (b : Bool) → AllOf SmallSpelled (filter test xs) → AllOf SmallSpelled (cond b (x ∷ filter test xs) (filter test xs))
  by true more = (all.0, more)
  by false more = more

pub types_small : (xs : List TypedName) (ts : List Piece) → AreLexical ts → SpellsTypes xs ts → AllOf SmallTyped xs
types_small xs ts l (found, spelled, are) =
    let s = listing_small Names found ts l spelled in
    subst (AllOf SmallTyped) are
    (all_small (record found { waiting = filter is_own_type found.waiting }) (record { typed = s.typed; waiting = filter_small is_own_type found.waiting s.waiting }))

-- ---- a name and its type

abbrev pub SpellsPair : Allowed → TypedName → List Piece → Type 0
SpellsPair allowed y us = Chain (SpellsListPart allowed) (l_name y.name ∷ l_type y.kind ∷ []) us

-- ` - type`
kind_reads : (w : List ℕ) → IsSmall w → Reads Ended (32 ∷ 45 ∷ 32 ∷ w) (Both (IsToken (kinds.Op Minus) (45 ∷ [])) (IsToken kinds.Name w))
kind_reads w s =
    spaced_before {S = Ended} (45 ∷ 32 ∷ w)
    (join {S = Ended} {T = Ended} (45 ∷ []) (32 ∷ w) (op_reads Minus) (spaced_before {S = Ended} w (name_reads w s)) (λ rest ok. at_space))

pair_made : (n : ℕ) (allowed : Allowed) (k : Kind) (w : List ℕ) (x : TypedName) → is_allowed allowed k ≡ true → ((s : Span) → named_of (piece k w s) ≡ record { name = x.name.name; span = s })
    → (ts : List Piece) → Both (IsToken k w) (Both (IsToken (kinds.Op Minus) (45 ∷ [])) (IsToken kinds.Name x.kind.name)) ts → Again n TypedName (SpellsPair allowed) bare_typed x ts
pair_made n allowed k w x ok named ts (both a _ first (both b c minus kind e) f) =
    let flat : is_flat k ≡ true = allowed_flat allowed k ok in
    let mark : Piece = piece (kinds.Op Minus) (45 ∷ []) minus.span in
    let type : Piece = piece kinds.Name x.kind.name kind.span in
    record {
      again = record { name = record { name = x.name.name; span = first.span }; kind = record { name = x.kind.name; span = kind.span } };
      spelled = (
        piece k w first.span ∷ [],
        mark ∷ type ∷ [],
        (piece k w first.span, ok, sym (named first.span), refl),
        (mark ∷ type ∷ [], [], (mark, type, refl, refl, refl, refl), refl, refl),
        cc (f, e, first.whole, minus.whole, kind.whole),
      );
      even = even_first n (piece k w first.span) (mark ∷ type ∷ []) ts flat (even_first n mark (type ∷ []) (mark ∷ type ∷ []) refl (even_token n type (type ∷ []) refl refl) refl) (cc (f, e, first.whole, minus.whole, kind.whole));
      same = refl;
    }

pair_again : (n : ℕ) (allowed : Allowed) (k : Kind) (bytes w : List ℕ) (x : TypedName) → Reads Ended bytes (IsToken k w) → is_allowed allowed k ≡ true
    → ((s : Span) → named_of (piece k w s) ≡ record { name = x.name.name; span = s }) → IsSmall x.kind.name
    → Reads Ended (bytes ++ (32 ∷ 45 ∷ 32 ∷ x.kind.name)) (Again n TypedName (SpellsPair allowed) bare_typed x)
pair_again n allowed k bytes w x r ok named small =
    turn {after = Ended} (bytes ++ (32 ∷ 45 ∷ 32 ∷ x.kind.name)) (pair_made n allowed k w x ok named)
    (join {S = Ended} {T = Ended} bytes (32 ∷ 45 ∷ 32 ∷ x.kind.name) r (kind_reads x.kind.name small) (λ rest ok. at_space))

named_again : (n : ℕ) (x : TypedName) → SmallTyped x → Reads Ended (typed_text x) (Again n TypedName (SpellsPair Names) bare_typed x)
unfolding typed_text word
named_again n x s = pair_again n Names kinds.Name x.name.name x.name.name x (name_reads x.name.name s.name) refl (λ s. refl) s.kind

variable_again : (n : ℕ) (x : TypedName) → SmallTyped x → Reads Ended (variable_text x) (Again n TypedName (SpellsPair Variables) bare_typed x)
unfolding typed_text variable_text word
variable_again n x s = pair_again n Variables kinds.Variable (63 ∷ x.name.name) (63 ∷ x.name.name) x (variable_reads x.name.name s.name) refl (λ s. refl) s.kind

-- ---- pairs are a list

pair_parts : List TypedName → List ListPart
pair_parts [] = []
pair_parts (y ∷ ys) = l_name y.name ∷ l_type y.kind ∷ pair_parts ys

parts_chain : (allowed : Allowed) (ys : List TypedName) (us : List Piece) → Chain (SpellsPair allowed) ys us → Chain (SpellsListPart allowed) (pair_parts ys) us
unfolding pair_parts
parts_chain allowed [] us e = e
parts_chain allowed (y ∷ ys) us (front, back, (f, b, name, (g, c, kind, none, two), one), more, e) =
    let inner : b ≡ g = two ∙ ap (λ l. g ++ l) none ∙ append-nil g in (
      f,
      g ++ back,
      name,
      (g, back, kind, parts_chain allowed ys back more, refl),
      e ∙ ap (λ l. l ++ back) (one ∙ ap (λ l. f ++ l) inner) ∙ append_assoc f g back,
    )

typed_only : List TypedName → Listing
typed_only xs = record { typed = xs; waiting = [] }

parts_added : (acc ys : List TypedName) → added with_list_part (typed_only acc) (pair_parts ys) ≡ Some (typed_only (acc ++ ys))
unfolding pair_parts typed_only
parts_added acc [] = ap (λ l. Some (record { typed = l; waiting = [] })) (sym (append-nil acc))
parts_added acc (y ∷ ys) = parts_added (acc ++ y ∷ []) ys ∙ ap (λ l. Some (record { typed = l; waiting = [] })) (append_assoc acc (y ∷ []) ys)

pairs_listing : (allowed : Allowed) (ys : List TypedName) (us : List Piece) → Chain (SpellsPair allowed) ys us → SpellsListing allowed (typed_only ys) us
unfolding typed_only
pairs_listing allowed ys us c = record { parts = pair_parts ys; spelled = parts_chain allowed ys us c; typed = parts_added [] ys }

pub pairs_list : (allowed : Allowed) (ys : List TypedName) (us : List Piece) → Chain (SpellsPair allowed) ys us → SpellsList allowed ys us
unfolding typed_only
pairs_list allowed ys us c = (typed_only ys, pairs_listing allowed ys us c, append-nil ys)

pub pairs_types : (ys : List TypedName) (us : List Piece) → Chain (SpellsPair Names) ys us → SpellsTypes ys us
unfolding typed_only
pairs_types ys us c = (typed_only ys, pairs_listing Names ys us c, append-nil ys)

-- ---- lists

all_to : (X : Type 0) (P Q : X → Type 0) → ((x : X) → P x → Q x) → (xs : List X) → AllOf P xs → AllOf Q xs
all_to X P Q f [] all = tt
all_to X P Q f (x ∷ xs) all = (f x all.0, all_to X P Q f xs all.1)

pub named_all : (n : ℕ) (xs : List TypedName) → AllOf SmallTyped xs → AllOf (λ x. Reads Ended (typed_text x) (Again n TypedName (SpellsPair Names) bare_typed x)) xs
named_all n xs all = all_to TypedName SmallTyped (λ x. Reads Ended (typed_text x) (Again n TypedName (SpellsPair Names) bare_typed x)) (named_again n) xs all

-- members that are spelled, behind spaces
pub params_again : (n : ℕ) (xs : List TypedName) → AllOf SmallTyped xs → Reads Ended (spaced variable_text xs) (Again n (List TypedName) (Chain (SpellsPair Variables)) (map bare_typed) xs)
params_again n xs all =
    spaced_again n TypedName (SpellsPair Variables) bare_typed variable_text xs
    (all_to TypedName SmallTyped (λ x. Reads Ended (variable_text x) (Again n TypedName (SpellsPair Variables) bare_typed x)) (variable_again n) xs all)

listed_again : (n : ℕ) (xs : List TypedName) → AllOf SmallTyped xs → Reads Ended (listed xs) (Again n (List TypedName) (Chain (SpellsPair Variables)) (map bare_typed) xs)
listed_again n [] all = turn {after = Ended} [] (none_again n TypedName (SpellsPair Variables) bare_typed) (none_reads Ended)
listed_again n (x ∷ xs) all =
    turn {after = Ended} (variable_text x ++ spaced variable_text xs) (more_again n TypedName (SpellsPair Variables) bare_typed x xs)
    (join {S = Ended} {T = Ended} (variable_text x) (spaced variable_text xs) (variable_again n x all.0) (params_again n xs all.1) (spaced_leads TypedName variable_text xs))

variables_made : (m : ℕ) (vs : List TypedName) (ts : List Piece) → Form (Again m (List TypedName) (Chain (SpellsPair Variables)) (map bare_typed) vs) ts
    → Again (suc m) (List TypedName) SpellsVariables (map bare_typed) vs ts
variables_made m vs ts f = record {
  again = f.body_is.again;
  spelled = (f.span, f.body, f.wrapped, pairs_list Variables f.body_is.again f.body f.body_is.spelled);
  even = even_wrapped m f.span f.body ts f.wrapped f.body_is.even;
  same = f.body_is.same;
}

abbrev pub VariablesAgain : ℕ → List TypedName → Type 0
VariablesAgain n vs = Reads Any (variables_text vs) (Again n (List TypedName) SpellsVariables (map bare_typed) vs)

pub variables_reads : (m : ℕ) (vs : List TypedName) → AllOf SmallTyped vs → VariablesAgain (suc m) vs
unfolding variables_text word
variables_reads m vs all = turn {after = Any} (40 ∷ (listed vs ++ 41 ∷ [])) (variables_made m vs) (form_reads (listed vs) (listed_again m vs all))

pub variables_small : (vs : List TypedName) (ts : List Piece) → AreLexical ts → SpellsVariables vs ts → AllOf SmallTyped vs
variables_small vs ts l (s, inner, wrapped, spelled) = list_small Variables vs inner (within s inner ts wrapped l) spelled

pub variables_again : (n : ℕ) (vs : List TypedName) (ts : List Piece) → Fine n ts → SpellsVariables vs ts → VariablesAgain n vs
variables_again n vs ts l (s, inner, wrapped, spelled) =
    let i = fine_within n s inner ts wrapped (level_list Variables 0 vs inner spelled) l in
    subst (λ m. VariablesAgain m vs) i.under (variables_reads i.room vs (list_small Variables vs inner i.fine.words spelled))
