-- The objects, the initial state and the goal of a farm are read from its text.
use Rattle.std.proofs.Common.{◌≡◌, ◌≢◌, ℕ, suc, ◌-◌, ◌<◌, ◌≤◌, ◌^◌, List, [], ◌∷◌, ◌++◌, map, length, refl, sym, ap, ap₂, ◌∙◌, subst, arith, decimal, replicate, append_assoc, append-nil}
use Rattle.std.specs.Prelude.{codes}
use Rattle.std.specs.List.{flat_map}
use Rattle.std.proofs.lemmas.Fmt.{decimal_nonempty, decimal_digit}
use Rattle.plus_tokens.specs.declared.token.Kind.TheVariants as kinds
use Rattle.plus_tokens.specs.declared.token.Op.TheVariants.{Minus}
use Rattle.plus_tokens.specs.Items.{Piece}
use Rattle.plus_tree.specs.declared.names.Spelled.{Spelled}
use Rattle.plus_tree.specs.declared.terms.TypedName.{TypedName}
use Rattle.plus_tree.specs.declared.terms.Comparison.TheVariants.{AtLeast}
use Rattle.plus_tree.specs.declared.trees.Init.{Init}
use Rattle.plus_parser.specs.declared.phrases.words.Allowed.TheVariants.{Names, Terms}
use Rattle.plus_parser.specs.Phrases.Grammar.{of_type}
use Rattle.plus_parser.specs.Phrases.Spells.{Chain, SpellsList}
use Rattle.plus_parser.specs.SpellsProblem.{SpellsInit}
use Rattle.plus_grammar.specs.Groups.{IsMember}
use Rattle.plus_grammar.proofs.Lists.{lists_by_groups}
use Rattle.plus_printer.specs.Words.{word, spaced, term_text, use_text, pointed, padded, number_text, literal_text}
use Rattle.plus_printer.specs.Canon.{init_text as printed}
use Rattle.plus_trial.specs.Farm.{rate_of, capacity_of, numbered, object_text, init_text}
use Rattle.plus_canonical.specs.Same.{no_span, bare_spelled, bare_typed, bare_init}
use Rattle.plus_canonical.proofs.Lexes.{Ended, at_space, at_line, Any, Reads, Both, both, turn, join, piece, IsToken, Nothing, space_reads, line_reads, none_reads}
use Rattle.plus_canonical.proofs.Smalls.{IsSmall, even_token, even_both, even_first}
use Rattle.plus_canonical.proofs.Forms.{op_reads, name_reads, spaced_before, after_both, loosen, Again, AllOf, none_again, more_again, spaced_again}
use Rattle.plus_canonical.proofs.Terms.{PlainName, object_again, variable_again, UseAgain, use_reads}
use Rattle.plus_canonical.proofs.Lists.{variables_reads}
use Rattle.plus_canonical.proofs.Literals.{GoodLiteral}
use Rattle.plus_canonical.proofs.Exprs.{ExprAgain, fluent_again}
use Rattle.plus_canonical.proofs.Conds.{CondAgain, compare_again, forall_again}
use Rattle.plus_canonical.proofs.Inits.{InitAgain, value_again}
use Rattle.laws_farm.proofs.Trees.{named, tank_type, each_tank, of_tank, fluent_of, is_full, tank_named, object_of, at_tank, number_of, value_of, inits_of, farm_goal}
use Rattle.laws_farm.proofs.Names.{Fit, tank_small, level_plain, rate_plain, cap_plain, type_small, variable_small}
use Rattle.laws_farm.proofs.ProblemTexts.{objects_body, inits_body}

-- ---- the names of the objects

abbrev NamesAgain : ℕ → List Spelled → List Piece → Type 0
NamesAgain m xs = Again m (List Spelled) (Chain (IsMember Names)) (map bare_spelled) xs

member_reads : (m : ℕ) (x : Spelled) → IsSmall x.name → Reads Ended x.name (Again m Spelled (IsMember Names) bare_spelled x)
member_reads m x small = turn {after = Ended} x.name (λ ts t. record {
  again = record { name = x.name; span = t.span };
  spelled = (piece kinds.Name x.name t.span, refl, refl, t.whole);
  even = even_token m (piece kinds.Name x.name t.span) ts refl t.whole;
  same = refl;
}) (name_reads x.name small)

members_read : (m : ℕ) (is : List ℕ) → AllOf Fit is → AllOf (λ (x : Spelled). Reads Ended x.name (Again m Spelled (IsMember Names) bare_spelled x)) (map tank_named is)
members_read m [] fits = tt
members_read m (i ∷ is) fits = (member_reads m (tank_named i) (tank_small i fits.0), members_read m is fits.1)

-- each name stands behind a space
names_text : (is : List ℕ) → spaced (λ (x : Spelled). x.name) (map tank_named is) ≡ flat_map object_text is
unfolding word
names_text [] = refl
names_text (i ∷ is) = ap₂ (λ (a b : List ℕ). 32 ∷ 116 ∷ (a ++ b)) (sym (append-nil (decimal i))) (names_text is)

names_read : (m : ℕ) (is : List ℕ) → AllOf Fit is → Reads Ended (flat_map object_text is) (NamesAgain m (map tank_named is))
names_read m is fits =
    subst (λ (l : List ℕ). Reads Ended l (NamesAgain m (map tank_named is))) (names_text is)
    (spaced_again m Spelled (IsMember Names) bare_spelled (λ (x : Spelled). x.name) (map tank_named is) (members_read m is fits))

-- ---- the objects: the names, and behind them the type of all of them

abbrev TypeRead : List Piece → Type 0
TypeRead = Both (IsToken (kinds.Op Minus) (45 ∷ [])) (IsToken kinds.Name (codes "tank"))

type_reads : Reads Ended (codes " - tank") TypeRead
type_reads =
    spaced_before {S = Ended} {P = TypeRead} (codes "- tank")
    (join {S = Ended} {T = Ended} (45 ∷ []) (codes " tank") (op_reads Minus) (spaced_before {S = Ended} (codes "tank") (name_reads (codes "tank") type_small)) (λ rest ok. at_space))

abbrev pub ObjectsAgain : ℕ → List ℕ → List Piece → Type 0
ObjectsAgain m is = Again m (List TypedName) (SpellsList Names) (map bare_typed) (map object_of is)

-- a bare name with the type of a tank
abbrev tank_of : Spelled → TypedName
tank_of x = record { name = x; kind = tank_type }

typed_bare : (k : Spelled) (xs : List Spelled) → bare_spelled k ≡ tank_type → map bare_typed (map (of_type k) xs) ≡ map tank_of (map bare_spelled xs)
typed_bare k [] e = refl
typed_bare k (x ∷ xs) e = λ j. record { name = bare_spelled x; kind = e j } ∷ typed_bare k xs e j

objects_bare : (is : List ℕ) → map bare_typed (map object_of is) ≡ map tank_of (map bare_spelled (map tank_named is))
objects_bare [] = refl
objects_bare (i ∷ is) = ap (λ (l : List TypedName). object_of i ∷ l) (objects_bare is)

some_names : (i : ℕ) (is : List ℕ) (xs : List Spelled) → map bare_spelled (map tank_named (i ∷ is)) ≡ map bare_spelled xs → xs ≢ []
some_names i is [] e empty = cc
some_names i is (x ∷ xs) e empty = cc

objects_made : (m : ℕ) (i : ℕ) (is : List ℕ) (ts : List Piece) → Both (NamesAgain m (map tank_named (i ∷ is))) TypeRead ts → ObjectsAgain m (i ∷ is) ts
objects_made m i is ts (both a b names (both c d minus kind w) v) =
    let mark : Piece = piece (kinds.Op Minus) (45 ∷ []) minus.span in
    let type : Piece = piece kinds.Name (codes "tank") kind.span in
    let k : Spelled = record { name = codes "tank"; span = kind.span } in
    let xs : List Spelled = names.again in
    let back : b ≡ mark ∷ type ∷ [] = cc (w, minus.whole, kind.whole) in
    let some : xs ≢ [] = some_names i is xs names.same in
    record {
      again = map (of_type k) xs;
      spelled = (lists_by_groups Names (map (of_type k) xs) ts).1 (
        record { members = xs; kind = k } ∷ [],
        [],
        (
          ts,
          [],
          (ts, [], (a, b, some, names.spelled, (mark, type, refl, refl, refl, back), v), refl, sym (append-nil ts)),
          refl,
          sym (append-nil ts),
        ),
        sym (append-nil (map (of_type k) xs ++ []) ∙ append-nil (map (of_type k) xs)),
      );
      even = even_both m a b ts names.even (even_first m mark (type ∷ []) b refl (even_token m type (type ∷ []) refl refl) back) v;
      same = objects_bare (i ∷ is) ∙ ap (map tank_of) names.same ∙ sym (typed_bare k xs refl);
    }

pub objects_read : (m : ℕ) (i : ℕ) (is : List ℕ) → AllOf Fit (i ∷ is) → Reads Ended (objects_body (i ∷ is)) (ObjectsAgain m (i ∷ is))
objects_read m i is fits =
    turn {after = Ended} (objects_body (i ∷ is)) (objects_made m i is)
    (join {S = Ended} {T = Ended} (flat_map object_text (i ∷ is)) (codes " - tank") (names_read m (i ∷ is) fits) type_reads (λ rest ok. at_space))

-- ---- a value of the initial state

-- `(= (level t3) 0)`
plain : List ℕ → ℕ → List ℕ → List ℕ
plain w i number = (codes "(= (" ++ w) ++ (codes " t" ++ (decimal i ++ (codes ") " ++ (number ++ codes ")"))))

number_is : (k : ℕ) → k < 2 ^ 64 → literal_text (number_of k) ≡ decimal k
unfolding literal_text number_text pointed padded
number_is k few =
    let some : 0 < length (decimal k) = decimal_nonempty k few in
    let none : 1 - length (decimal k) ≡ 0 = omega (arith, some) in
    ap (λ (z : ℕ). replicate z 48 ++ decimal k) none

-- behind the number of the tank
number_behind : (x l : List ℕ) → ((x ++ []) ++ 41 ∷ []) ++ (32 ∷ l) ≡ x ++ (41 ∷ 32 ∷ l)
number_behind x l = append_assoc (x ++ []) (41 ∷ []) (32 ∷ l) ∙ ap (λ (y : List ℕ). y ++ (41 ∷ 32 ∷ l)) (append-nil x)

value_text : (w : List ℕ) (i k : ℕ) → k < 2 ^ 64 → printed (value_of w i k) ≡ plain w i (decimal k)
unfolding plain word use_text term_text
value_text w i k few =
    let ends : List ℕ = literal_text (number_of k) ++ 41 ∷ [] in
    ap (λ (l : List ℕ). codes "(= (" ++ l)
    (append_assoc w (32 ∷ 116 ∷ ((decimal i ++ []) ++ 41 ∷ [])) (32 ∷ ends)
    ∙ ap (λ (l : List ℕ). w ++ (32 ∷ 116 ∷ l)) (number_behind (decimal i) ends ∙ ap (λ (l : List ℕ). decimal i ++ (41 ∷ 32 ∷ (l ++ 41 ∷ []))) (number_is k few)))

number_good : (k : ℕ) → k ≤ 5 → GoodLiteral (number_of k)
number_good k few = record { bound = omega arith; few = omega arith; normal = λ t. refl }

use_read : (m : ℕ) (w : List ℕ) (i : ℕ) → PlainName w → Fit i → UseAgain (suc m) Names (at_tank w i)
use_read m w i head fit = use_reads m Names (at_tank w i) head (object_again m Names (tank_named i) refl (tank_small i fit), tt)

value_reads : (m : ℕ) (w : List ℕ) (i k : ℕ) → PlainName w → Fit i → k ≤ 5 → InitAgain (suc (suc m)) (value_of w i k)
value_reads m w i k head fit few = value_again (suc m) (at_tank w i) (number_of k) no_span (use_read m w i head fit) (number_good k few)

-- ---- the initial state

abbrev pub InitsAgain : ℕ → List Init → List Piece → Type 0
InitsAgain m xs = Again m (List Init) (Chain SpellsInit) (map bare_init) xs

-- blanks in front
gap_before : {S : List ℕ → Type 0} {P : List Piece → Type 0} (gap bytes : List ℕ) → Reads Any gap Nothing → Reads S bytes P → Reads S (gap ++ bytes) P
gap_before {S} {P} gap bytes g r =
    turn {after = S} {P = Both Nothing P} {Q = P} (gap ++ bytes) those_behind (join {S = Any} {T = S} {P = Nothing} {Q = P} gap bytes g r (λ rest ok. tt))
  where
    those_behind : (ts : List Piece) → Both Nothing P ts → P ts
    those_behind ts (both a b e p w) = subst P (sym (w ∙ ap (λ (l : List Piece). l ++ b) e)) p

-- one more value, behind blanks
next_read : (m : ℕ) (gap bytes more : List ℕ) (x : Init) (xs : List Init) → Reads Any gap Nothing → InitAgain m x → printed x ≡ bytes
    → ((rest : List ℕ) → Ended (more ++ rest)) → Reads Any more (InitsAgain m xs) → Reads Any (gap ++ (bytes ++ more)) (InitsAgain m (x ∷ xs))
next_read m gap bytes more x xs g one is ended r =
    gap_before {S = Any} {P = InitsAgain m (x ∷ xs)} gap (bytes ++ more) g
    (turn {after = Any} (bytes ++ more) (more_again m Init SpellsInit bare_init x xs)
    (join {S = Ended} {T = Any} bytes more (subst (λ (l : List ℕ). Reads Ended l (Again m Init SpellsInit bare_init x)) is one) r (λ rest ok. ended rest)))

two_spaces : Reads Any (32 ∷ 32 ∷ []) Nothing
two_spaces = spaced_before {S = Any} {P = Nothing} (32 ∷ []) space_reads

level_text : ℕ → List ℕ
level_text i = plain (codes "level") i (48 ∷ [])

rate_text : ℕ → List ℕ
rate_text i = plain (codes "rate") i (decimal (rate_of i))

cap_text : ℕ → List ℕ
cap_text i = plain (codes "cap") i (decimal (capacity_of i))

level_is : (i : ℕ) → printed (value_of (codes "level") i 0) ≡ level_text i
unfolding level_text
level_is i = value_text (codes "level") i 0 (omega arith) ∙ ap (plain (codes "level") i) (decimal_digit 0 (omega arith))

rate_is : (i : ℕ) → printed (value_of (codes "rate") i (rate_of i)) ≡ rate_text i
unfolding rate_text
rate_is i = value_text (codes "rate") i (rate_of i) (omega arith)

cap_is : (i : ℕ) → printed (value_of (codes "cap") i (capacity_of i)) ≡ cap_text i
unfolding cap_text
cap_is i = value_text (codes "cap") i (capacity_of i) (omega arith)

-- ---- the text of a tank's values, with more behind it

plain_then : (w : List ℕ) (i : ℕ) (number more : List ℕ) → plain w i number ++ more ≡ (codes "(= (" ++ w) ++ (codes " t" ++ (decimal i ++ (codes ") " ++ (number ++ (codes ")" ++ more)))))
unfolding plain
plain_then w i number more =
    append_assoc (codes "(= (" ++ w) (codes " t" ++ (decimal i ++ (codes ") " ++ (number ++ codes ")")))) more
    ∙ ap (λ (l : List ℕ). (codes "(= (" ++ w) ++ (codes " t" ++ l))
    (append_assoc (decimal i) (codes ") " ++ (number ++ codes ")")) more ∙ ap (λ (l : List ℕ). decimal i ++ (codes ") " ++ l)) (append_assoc number (codes ")") more))

numbered_then : (a : List ℕ) (n : ℕ) (b more : List ℕ) → numbered a n b ++ more ≡ a ++ (decimal n ++ (b ++ more))
numbered_then a n b more = append_assoc a (decimal n ++ b) more ∙ ap (λ (l : List ℕ). a ++ l) (append_assoc (decimal n) b more)

five_then : (a b c d e more : List ℕ) → (a ++ (b ++ (c ++ (d ++ e)))) ++ more ≡ a ++ (b ++ (c ++ (d ++ (e ++ more))))
five_then a b c d e more =
    append_assoc a (b ++ (c ++ (d ++ e))) more
    ∙ ap (λ (l : List ℕ). a ++ l)
    (append_assoc b (c ++ (d ++ e)) more ∙ ap (λ (l : List ℕ). b ++ l) (append_assoc c (d ++ e) more ∙ ap (λ (l : List ℕ). c ++ l) (append_assoc d e more)))

abbrev cap_on : ℕ → List ℕ → List ℕ
cap_on i more = codes "(= (cap t" ++ (decimal i ++ (codes ") " ++ (decimal (capacity_of i) ++ (codes ")\n" ++ more))))

abbrev rate_on : ℕ → List ℕ → List ℕ
rate_on i more = codes "(= (rate t" ++ (decimal i ++ (codes ") " ++ (decimal (rate_of i) ++ (codes ") " ++ more))))

abbrev level_on : ℕ → List ℕ → List ℕ
level_on i more = codes "(= (level t" ++ (decimal i ++ (codes ") 0) " ++ more))

cap_then : (i : ℕ) (more : List ℕ) → cap_text i ++ (10 ∷ more) ≡ cap_on i more
unfolding cap_text
cap_then i more = plain_then (codes "cap") i (decimal (capacity_of i)) (10 ∷ more)

rate_then : (i : ℕ) (more : List ℕ) → rate_text i ++ (32 ∷ more) ≡ rate_on i more
unfolding rate_text
rate_then i more = plain_then (codes "rate") i (decimal (rate_of i)) (32 ∷ more)

level_then : (i : ℕ) (more : List ℕ) → level_text i ++ (32 ∷ more) ≡ level_on i more
unfolding level_text
level_then i more = plain_then (codes "level") i (48 ∷ []) (32 ∷ more)

forms_text : (i : ℕ) (more : List ℕ) → 32 ∷ 32 ∷ (level_text i ++ (32 ∷ (rate_text i ++ (32 ∷ (cap_text i ++ (10 ∷ more)))))) ≡ 32 ∷ 32 ∷ level_on i (rate_on i (cap_on i more))
forms_text i more =
    ap (λ (l : List ℕ). 32 ∷ 32 ∷ l)
    (level_then i (rate_text i ++ (32 ∷ (cap_text i ++ (10 ∷ more)))) ∙ ap (level_on i) (rate_then i (cap_text i ++ (10 ∷ more)) ∙ ap (rate_on i) (cap_then i more)))

caps_text : (i : ℕ) (more : List ℕ) → numbered (codes " (= (cap t") i (codes ") ") ++ (numbered [] (capacity_of i) (codes ")\n") ++ more) ≡ 32 ∷ cap_on i more
caps_text i more =
    numbered_then (codes " (= (cap t") i (codes ") ") (numbered [] (capacity_of i) (codes ")\n") ++ more)
    ∙ ap (λ (l : List ℕ). codes " (= (cap t" ++ (decimal i ++ (codes ") " ++ l))) (numbered_then [] (capacity_of i) (codes ")\n") more)

rates_text : (i : ℕ) (more : List ℕ) → numbered (codes " (= (rate t") i (codes ") ") ++ (numbered [] (rate_of i) (codes ")") ++ (32 ∷ more)) ≡ 32 ∷ rate_on i more
rates_text i more =
    numbered_then (codes " (= (rate t") i (codes ") ") (numbered [] (rate_of i) (codes ")") ++ (32 ∷ more))
    ∙ ap (λ (l : List ℕ). codes " (= (rate t" ++ (decimal i ++ (codes ") " ++ l))) (numbered_then [] (rate_of i) (codes ")") (32 ∷ more))

values_text : (i : ℕ) (more : List ℕ) → init_text i ++ more ≡ 32 ∷ 32 ∷ level_on i (rate_on i (cap_on i more))
values_text i more =
    let level : List ℕ = numbered (codes "  (= (level t") i (codes ") 0)") in
    let rate : List ℕ = numbered (codes " (= (rate t") i (codes ") ") in
    let rated : List ℕ = numbered [] (rate_of i) (codes ")") in
    let cap : List ℕ = numbered (codes " (= (cap t") i (codes ") ") in
    let capped : List ℕ = numbered [] (capacity_of i) (codes ")\n") in
    five_then level rate rated cap capped more
    ∙ ap (λ (l : List ℕ). level ++ (rate ++ (rated ++ l))) (caps_text i more)
    ∙ ap (λ (l : List ℕ). level ++ l) (rates_text i (cap_on i more))
    ∙ numbered_then (codes "  (= (level t") i (codes ") 0)") (32 ∷ rate_on i (cap_on i more))

tank_text : (i : ℕ) (more : List ℕ) → 32 ∷ 32 ∷ (level_text i ++ (32 ∷ (rate_text i ++ (32 ∷ (cap_text i ++ (10 ∷ more)))))) ≡ init_text i ++ more
tank_text i more = forms_text i more ∙ sym (values_text i more)

tank_reads : (m i : ℕ) (xs : List Init) (more : List ℕ) → Fit i → Reads Any more (InitsAgain (suc (suc m)) xs)
    → Reads Any (32 ∷ 32 ∷ (level_text i ++ (32 ∷ (rate_text i ++ (32 ∷ (cap_text i ++ (10 ∷ more)))))))
    (InitsAgain (suc (suc m)) (value_of (codes "level") i 0 ∷ value_of (codes "rate") i (rate_of i) ∷ value_of (codes "cap") i (capacity_of i) ∷ xs))
tank_reads m i xs more fit r =
    let level : Init = value_of (codes "level") i 0 in
    let rate : Init = value_of (codes "rate") i (rate_of i) in
    let cap : Init = value_of (codes "cap") i (capacity_of i) in
    next_read (suc (suc m)) (32 ∷ 32 ∷ []) (level_text i) (32 ∷ (rate_text i ++ (32 ∷ (cap_text i ++ (10 ∷ more))))) level (rate ∷ cap ∷ xs)
    two_spaces (value_reads m (codes "level") i 0 level_plain fit (omega arith)) (level_is i) (λ rest. at_space)
    (next_read (suc (suc m)) (32 ∷ []) (rate_text i) (32 ∷ (cap_text i ++ (10 ∷ more))) rate (cap ∷ xs)
    space_reads (value_reads m (codes "rate") i (rate_of i) rate_plain fit (omega arith)) (rate_is i) (λ rest. at_space)
    (next_read (suc (suc m)) (32 ∷ []) (cap_text i) (10 ∷ more) cap xs
    space_reads (value_reads m (codes "cap") i (capacity_of i) cap_plain fit (omega arith)) (cap_is i) (λ rest. at_line)
    (gap_before {S = Any} {P = InitsAgain (suc (suc m)) xs} (10 ∷ []) more line_reads r)))

values_read : (m : ℕ) (is : List ℕ) → AllOf Fit is → Reads Any (flat_map init_text is) (InitsAgain (suc (suc m)) (inits_of is))
values_read m [] fits = turn {after = Any} [] (none_again (suc (suc m)) Init SpellsInit bare_init) (none_reads Any)
values_read m (i ∷ is) fits =
    subst (λ (l : List ℕ). Reads Any l (InitsAgain (suc (suc m)) (inits_of (i ∷ is)))) (tank_text i (flat_map init_text is))
    (tank_reads m i (inits_of is) (flat_map init_text is) fits.0 (values_read m is fits.1))

pub inits_read : (m : ℕ) (is : List ℕ) → AllOf Fit is → Reads Ended (inits_body is) (InitsAgain (suc (suc m)) (inits_of is))
inits_read m is fits =
    let P : List Piece → Type 0 = InitsAgain (suc (suc m)) (inits_of is) in
    gap_before {S = Ended} {P = P} (10 ∷ []) (flat_map init_text is ++ 32 ∷ []) line_reads
    (turn {after = Ended} {P = Both P Nothing} {Q = P} (flat_map init_text is ++ 32 ∷ []) after_both
    (join {S = Any} {T = Ended} {P = P} {Q = Nothing} (flat_map init_text is) (32 ∷ []) (values_read m is fits) (loosen {P = Nothing} (32 ∷ []) space_reads) (λ rest ok. tt)))

-- ---- the goal

fluent_reads : (m : ℕ) (w : List ℕ) → PlainName w → ExprAgain (suc m) (fluent_of w)
fluent_reads m w head =
    fluent_again (suc m) (of_tank w) no_span (use_reads m Terms (of_tank w) head (variable_again m Terms (named (codes "t")) refl variable_small, tt))

pub goal_read : (m : ℕ) → CondAgain (suc (suc (suc m))) farm_goal
goal_read m =
    forall_again (suc (suc m)) each_tank is_full no_span (variables_reads (suc m) each_tank (record { name = variable_small; kind = type_small }, tt))
    (compare_again (suc m) AtLeast (fluent_of (codes "level")) (fluent_of (codes "cap")) no_span (fluent_reads m (codes "level") level_plain) (fluent_reads m (codes "cap") cap_plain))
