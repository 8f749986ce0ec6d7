-- What is asked at a form is met where its rules hold.
use Rattle.std.proofs.Common.{◌≡◌, ℕ, Bool, true, false, not, cond, ◌||◌, List, [], ◌∷◌, ◌++◌, map, filter, length, refl, ap, sym, subst, ◌∙◌, append-nil, flat_map, All, Option, Some, None}
use Rattle.std.specs.Prelude.{is_some, zip, IsTrue, IsFalse, IfSome}
use Rattle.std.specs.List.{list_any, AllByRecursion}
use Rattle.std.specs.Str.{bytes_eq}
use Rattle.std.proofs.lemmas.Bool.Decides.{Decides-eqb}
use Rattle.std.proofs.lemmas.List.Elements.{All-from_recursion, recursion_from_All}
use Rattle.std.proofs.lemmas.Slice.Eq.{bytes_eq-Decides}
use Rattle.plus_tokens.specs.declared.span.Span.{Span}
use Rattle.plus_tree.specs.declared.names.Spelled.{Spelled}
use Rattle.plus_tree.specs.declared.terms.Term.{Term}
use Rattle.plus_tree.specs.declared.terms.Term.TheVariants.{Object, Variable}
use Rattle.plus_tree.specs.declared.terms.TypedName.{TypedName}
use Rattle.plus_tree.specs.declared.terms.Use.{Use}
use Rattle.plus_tree.specs.declared.trees.Head.{Head}
use Rattle.plus_tree.specs.declared.trees.Init.{Init}
use Rattle.plus_tree.specs.declared.trees.Init.TheVariants.{Holds, Absent, Value}
use Rattle.plus_tree.specs.declared.trees.Init.TheVariants as inits
use Rattle.plus_types.specs.declared.faults.File.{File}
use Rattle.plus_types.specs.declared.faults.Wrong.{Wrong}
use Rattle.plus_types.specs.declared.faults.Wrong.TheVariants.{UnknownType, UnknownName, Arity, WrongType, Twice, Unbound, Shadowed, TypeLoop, RateForm}
use Rattle.plus_types.specs.declared.faults.TypeFault.{TypeFault}
use Rattle.plus_types.specs.declared.faults.TypeFault.TheVariants.{At, Memory}
use Rattle.plus_types.specs.Types.{Binding, is_among, names_of, bound_names, kind_of, is_under}
use Rattle.plus_types.specs.Faults.{params_of, term_kind, is_rate, ground_name, same_names}
use Rattle.plus_typing.specs.Forms.{Place, Form, used, side, binds, clock, writes, guards, Found, Standing, uses_at, terms_at, lists_at, clocks_at, writes_at, guards_at, in_init}
use Rattle.plus_typing.specs.WellTyped.{IsUnder, NamesOnce, BindsNew, HasType, HasTypes, IsNotAboveItself, IsDeclared, IsObject, IsBound, IsCounted, FitsParameter, Fits, IsRateInProcess, valued_by}
use Rattle.plus_typing.specs.Asked.{Asked, broken, passes, ask_types, ask_list, unknown, ask_arguments, ask_use, ask_form, ask_forms, ask_each, ask_value, ask_init}
use Rattle.plus_typing.proofs.Above.{under_from, under_to, not_above, none_above}
use Rattle.plus_typing.proofs.Lists.{all_both, all_left, all_right, all_inner, all_outer, all_more, Fresh, fresh_differ, differ_fresh, fresh_right, names_decide}

-- all is met
abbrev pub Met : List Asked → Type 0
Met qs = AllByRecursion (λ (q : Asked). q.met ≡ true) qs

-- nothing is broken where all is met
abbrev rest_broken : Bool → Asked → List Asked → List TypeFault
rest_broken b q qs = map (λ (r : Asked). At r.wrong r.file r.span) (cond (not b) (q ∷ filter (λ (r : Asked). not r.met) qs) (filter (λ (r : Asked). not r.met) qs))

pub met_from : (qs : List Asked) → broken qs ≡ [] → Met qs
met_from [] e = tt
met_from (q ∷ qs) e = by q.met refl e (met_from qs)
  where
    by : (b : Bool) → q.met ≡ b → rest_broken b q qs ≡ [] → (broken qs ≡ [] → Met qs) → Met (q ∷ qs)
    by true m f more = (m, more f)
    by false m f more = absurd cc

pub met_to : (qs : List Asked) → Met qs → broken qs ≡ []
met_to [] m = refl
met_to (q ∷ qs) m = by q.met m.0 (met_to qs m.1)
  where
    by : (b : Bool) → b ≡ true → broken qs ≡ [] → rest_broken b q qs ≡ []
    by true e more = more
    by false e more = absurd cc

-- what is asked under the words of W is met
abbrev pub MetFor : (Wrong → Type 0) → List Asked → Type 0
MetFor W qs = AllByRecursion (λ (q : Asked). W q.wrong → q.met ≡ true) qs

pub met_for_all : (qs : List Asked) → MetFor (λ w. Unit {0}) qs → Met qs
met_for_all [] m = tt
met_for_all (q ∷ qs) m = (m.0 tt, met_for_all qs m.1)

-- a fault has a word that is not of W
abbrev pub IsBeside : (Wrong → Type 0) → TypeFault → Type 0
IsBeside W (At wrong file span) = W wrong → ⊥
IsBeside W Memory = ⊥

pub faults_beside : (W : Wrong → Type 0) (qs : List Asked) → MetFor W qs → AllByRecursion (IsBeside W) (broken qs)
faults_beside W [] m = tt
faults_beside W (q ∷ qs) m = by q.met refl (faults_beside W qs m.1)
  where
    by : (b : Bool) → q.met ≡ b → AllByRecursion (IsBeside W) (broken qs) → AllByRecursion (IsBeside W) (rest_broken b q qs)
    by true e more = more
    by false e more = (λ w. let f : true ≡ false = sym (m.0 w) ∙ e in cc, more)

-- ---- truth values

not_true : (b : Bool) → not b ≡ true → b ≡ false
not_true true e = absurd cc
not_true false e = refl

true_not : (b : Bool) → b ≡ false → not b ≡ true
true_not b e = ap not e

-- a rule that is asked where another holds
behind : (a b : Bool) → a ≡ false → (a || not b) ≡ true → b ≡ false
behind true b e f = absurd cc
behind false b e f = not_true b f

in_front : (a b : Bool) → b ≡ false → (a || not b) ≡ true
in_front true b e = refl
in_front false b e = true_not b e

-- ---- lists

abbrev pub New : List (List ℕ) → List (List ℕ) → Type 0
New earlier xs = Fresh bytes_eq bytes_eq-Decides earlier xs

abbrev pub Low : List Binding → List TypedName → Type 0
Low types ts = AllByRecursion (IsNotAboveItself types) ts

pub types_from : (types : List Binding) (earlier : List (List ℕ)) (ts : List TypedName) → Met (ask_types types earlier ts) → New earlier (names_of ts) × Low types ts
types_from types earlier [] m = (tt, tt)
types_from types earlier (t ∷ ts) m =
    let n = not_true (is_among earlier t.name.name) m.0 in
    let rest = types_from types (earlier ++ t.name.name ∷ []) ts m.1.1 in
    ((n, rest.0), (not_above types t.name.name t.name.name (behind (is_among earlier t.name.name) _ n m.1.0), rest.1))

pub types_to : (W : Wrong → Type 0) (types : List Binding) (earlier : List (List ℕ)) (ts : List TypedName) → (W Twice → New earlier (names_of ts)) → (W TypeLoop → Low types ts)
    → MetFor W (ask_types types earlier ts)
types_to W types earlier [] n l = tt
types_to W types earlier (t ∷ ts) n l = (
  λ w. true_not (is_among earlier t.name.name) (n w).0,
  (λ w. in_front (is_among earlier t.name.name) _ (none_above types t.name.name t.name.name (l w).0), types_to W types (earlier ++ t.name.name ∷ []) ts (λ w. (n w).1) (λ w. (l w).1)),
)

abbrev pub Outside : List (List ℕ) → List TypedName → Type 0
Outside outer vs = AllByRecursion (λ (v : TypedName). is_among outer v.name.name ≡ false) vs

abbrev pub Typed : List Binding → List TypedName → Type 0
Typed types vs = AllByRecursion (HasType types) vs

pub list_from : (types : List Binding) (file : File) (outer earlier : List (List ℕ)) (vs : List TypedName) → Met (ask_list types file outer earlier vs)
    → Outside outer vs × New earlier (names_of vs) × Typed types vs
list_from types file outer earlier [] m = (tt, tt, tt)
list_from types file outer earlier (v ∷ vs) m =
    let n = not_true (is_among outer v.name.name) m.0 in
    let rest = list_from types file outer (earlier ++ v.name.name ∷ []) vs m.1.1.1 in
    ((n, rest.0), (behind (is_among outer v.name.name) _ n m.1.0, rest.1), (m.1.1.0, rest.2))

pub list_to : (W : Wrong → Type 0) (types : List Binding) (file : File) (outer earlier : List (List ℕ)) (vs : List TypedName)
    → (W Shadowed → Outside outer vs) → (W Twice → New earlier (names_of vs)) → (W UnknownType → Typed types vs) → MetFor W (ask_list types file outer earlier vs)
list_to W types file outer earlier [] o n t = tt
list_to W types file outer earlier (v ∷ vs) o n t = (
  λ w. true_not (is_among outer v.name.name) (o w).0,
  (
    λ w. in_front (is_among outer v.name.name) _ (n w).0,
    (λ w. (t w).0, list_to W types file outer (earlier ++ v.name.name ∷ []) vs (λ w. (o w).1) (λ w. (n w).1) (λ w. (t w).1)),
  ),
)

-- nothing is bound outside
pub nothing_outside : (vs : List TypedName) → Outside [] vs
nothing_outside [] = tt
nothing_outside (v ∷ vs) = (refl, nothing_outside vs)

-- ---- what is looked up

kind_found : (bs : List Binding) (x : List ℕ) → is_some (kind_of bs x) ≡ is_among (bound_names bs) x
kind_found [] x = refl
kind_found (b ∷ bs) x = by (bytes_eq x b.0) (kind_found bs x)
  where
    by : (c : Bool) → is_some (kind_of bs x) ≡ is_among (bound_names bs) x → is_some (cond c (Some b.1) (kind_of bs x)) ≡ (c || is_among (bound_names bs) x)
    by true e = refl
    by false e = e

head_found : (hs : List Head) (x : List ℕ) → is_some (params_of hs x) ≡ is_among (map (λ (h : Head). h.name.name) hs) x
head_found [] x = refl
head_found (h ∷ hs) x = by (bytes_eq x h.name.name) (head_found hs x)
  where
    by : (c : Bool) → is_some (params_of hs x) ≡ is_among (map (λ (g : Head). g.name.name) hs) x
        → is_some (cond c (Some h.params) (params_of hs x)) ≡ (c || is_among (map (λ (g : Head). g.name.name) hs) x)
    by true e = refl
    by false e = e

-- ---- uses

-- a term that is met has a type
object_from : (here : Place) (t : Term) → is_some (term_kind here.context here.vars t) ≡ true → IsObject here t
object_from here (Object x) e = sym (kind_found here.context.objects x.name) ∙ e
object_from here (Variable x) e = tt

bound_from : (here : Place) (t : Term) → is_some (term_kind here.context here.vars t) ≡ true → IsBound here t
bound_from here (Object x) e = tt
bound_from here (Variable x) e = sym (kind_found here.vars x.name) ∙ e

known_to : (W : Wrong → Type 0) (here : Place) (t : Term) → (W UnknownName → IsObject here t) → (W Unbound → IsBound here t) → W (unknown t) → is_some (term_kind here.context here.vars t) ≡ true
known_to W here (Object x) o b w = kind_found here.context.objects x.name ∙ o w
known_to W here (Variable x) o b w = kind_found here.vars x.name ∙ b w

type_from : (here : Place) (kind : List ℕ) (o : Option (List ℕ)) → passes o (λ k. is_under here.context.types k kind) ≡ true → IfSome o (λ k. IsUnder here.context.types k kind)
type_from here kind None e = tt
type_from here kind (Some k) e = under_from here.context.types k kind e

type_to : (here : Place) (kind : List ℕ) (o : Option (List ℕ)) → IfSome o (λ k. IsUnder here.context.types k kind) → passes o (λ k. is_under here.context.types k kind) ≡ true
type_to here kind None e = refl
type_to here kind (Some k) e = under_to here.context.types k kind e

abbrev FitAll : Place → List TypedName → List Term → Type 0
FitAll here ps ts = AllByRecursion (FitsParameter here) (zip ps ts)

-- a term at its place
abbrev IsObjectAt : Standing Term → Type 0
IsObjectAt t = IsObject t.place t.form

abbrev IsBoundAt : Standing Term → Type 0
IsBoundAt t = IsBound t.place t.form

abbrev stand : Place → Term → Standing Term
stand here t = record { place = here; form = t }

record ArgumentsObey (W : Wrong → Type 0) (here : Place) (ps : List TypedName) (ts : List Term) : Type 0 where
  objects : W UnknownName → AllByRecursion IsObjectAt (map (stand here) ts)
  bound : W Unbound → AllByRecursion IsBoundAt (map (stand here) ts)
  fit : W WrongType → FitAll here ps ts

arguments_from : (here : Place) (ps : List TypedName) (ts : List Term) → Met (ask_arguments here ps ts) → ArgumentsObey (λ w. Unit {0}) here ps ts
arguments_from here [] [] m = record { objects = λ w. tt; bound = λ w. tt; fit = λ w. tt }
arguments_from here (p ∷ ps) [] m = record { objects = λ w. tt; bound = λ w. tt; fit = λ w. tt }
arguments_from here [] (t ∷ ts) m =
    let rest = arguments_from here [] ts m.1 in
    record { objects = λ w. (object_from here t m.0, rest.objects w); bound = λ w. (bound_from here t m.0, rest.bound w); fit = λ w. tt }
arguments_from here (p ∷ ps) (t ∷ ts) m =
    let rest = arguments_from here ps ts m.1.1 in
    record {
      objects = λ w. (object_from here t m.0, rest.objects w);
      bound = λ w. (bound_from here t m.0, rest.bound w);
      fit = λ w. (type_from here p.kind.name (term_kind here.context here.vars t) m.1.0, rest.fit w);
    }

arguments_to : (W : Wrong → Type 0) (here : Place) (ps : List TypedName) (ts : List Term) → ArgumentsObey W here ps ts → MetFor W (ask_arguments here ps ts)
arguments_to W here [] [] a = tt
arguments_to W here (p ∷ ps) [] a = tt
arguments_to W here [] (t ∷ ts) a =
    (known_to W here t (λ w. (a.objects w).0) (λ w. (a.bound w).0), arguments_to W here [] ts (record { objects = λ w. (a.objects w).1; bound = λ w. (a.bound w).1; fit = λ w. tt }))
arguments_to W here (p ∷ ps) (t ∷ ts) a = (
  known_to W here t (λ w. (a.objects w).0) (λ w. (a.bound w).0),
  (
    λ w. type_to here p.kind.name (term_kind here.context here.vars t) (a.fit w).0,
    arguments_to W here ps ts (record { objects = λ w. (a.objects w).1; bound = λ w. (a.bound w).1; fit = λ w. (a.fit w).1 }),
  ),
)

-- what a use obeys, whose head has these parameters
record UseObeys (W : Wrong → Type 0) (here : Place) (u : Use) (o : Option (List TypedName)) : Type 0 where
  declared : W UnknownName → is_some o ≡ true
  counted : W Arity → IfSome o (λ ps. length u.args ≡ length ps)
  fit : W WrongType → IfSome o (λ ps. All (FitsParameter here) (zip ps u.args))
  objects : W UnknownName → AllByRecursion IsObjectAt (map (stand here) u.args)
  bound : W Unbound → AllByRecursion IsBoundAt (map (stand here) u.args)

use_from : (here : Place) (u : Use) (o : Option (List TypedName)) → Met (ask_use here u o) → UseObeys (λ w. Unit {0}) here u o
use_from here u None m = absurd (let e : false ≡ true = m.0 in cc)
use_from here u (Some ps) m =
    let args = arguments_from here ps u.args m.1.1 in
    record {
      declared = λ w. refl;
      counted = λ w. (Decides-eqb (length u.args) (length ps)).0 m.1.0;
      fit = λ w. All-from_recursion (FitsParameter here) (zip ps u.args) (args.fit w);
      objects = args.objects;
      bound = args.bound;
    }

use_to : (W : Wrong → Type 0) (here : Place) (u : Use) (o : Option (List TypedName)) → UseObeys W here u o → MetFor W (ask_use here u o)
use_to W here u None r = (r.declared, (λ w. refl, arguments_to W here [] u.args (record { objects = r.objects; bound = r.bound; fit = λ w. tt })))
use_to W here u (Some ps) r = (
  r.declared,
  (
    λ w. (Decides-eqb (length u.args) (length ps)).1 (r.counted w),
    arguments_to W here ps u.args (record { objects = r.objects; bound = r.bound; fit = λ w. recursion_from_All (FitsParameter here) (zip ps u.args) (r.fit w) }),
  ),
)

-- ---- forms

-- what one form obeys of the rules of W
pub record Obeys (W : Wrong → Type 0) (here : Place) (form : Form) : Type 0 where
  pub new : W Shadowed → AllByRecursion BindsNew (lists_at here form)
  pub once : W Twice → AllByRecursion NamesOnce (lists_at here form)
  pub types : W UnknownType → AllByRecursion HasTypes (lists_at here form)
  pub declared : W UnknownName → AllByRecursion IsDeclared (uses_at here form)
  pub objects : W UnknownName → AllByRecursion (λ (t : Standing Term). IsObject t.place t.form) (terms_at here form)
  pub bound : W Unbound → AllByRecursion (λ (t : Standing Term). IsBound t.place t.form) (terms_at here form)
  pub counted : W Arity → AllByRecursion IsCounted (uses_at here form)
  pub fit : W WrongType → AllByRecursion Fits (uses_at here form)
  pub clocks : W RateForm → AllByRecursion (λ (k : Standing Span). IsTrue k.place.flows) (clocks_at here form)
  pub rates : W RateForm → AllByRecursion IsRateInProcess (writes_at here form)
  pub always : W RateForm → AllByRecursion (λ (g : Standing Span). IsFalse g.place.flows) (guards_at here form)

abbrev pub ObeysAll : Place → Form → Type 0
ObeysAll here form = Obeys (λ w. Unit {0}) here form

rate_from : (a b : Bool) → (not a || b) ≡ true → a ≡ true → b ≡ true
rate_from true b e f = e
rate_from false b e f = absurd cc

rate_to : (a b : Bool) → (a ≡ true → b ≡ true) → (not a || b) ≡ true
rate_to true b h = h refl
rate_to false b h = refl

pub obeys_from : (here : Place) (form : Form) → Met (ask_form here form) → ObeysAll here form
obeys_from here (used heads u) m =
    let r = use_from here u (params_of heads u.head.name) m in
    record {
      new = λ w. tt;
      once = λ w. tt;
      types = λ w. tt;
      clocks = λ w. tt;
      rates = λ w. tt;
      always = λ w. tt;
      declared = λ w. (sym (head_found heads u.head.name) ∙ r.declared w, tt);
      objects = r.objects;
      bound = r.bound;
      counted = λ w. (r.counted w, tt);
      fit = λ w. (r.fit w, tt);
    }
obeys_from here (side t) m =
    record {
      new = λ w. tt;
      once = λ w. tt;
      types = λ w. tt;
      clocks = λ w. tt;
      rates = λ w. tt;
      always = λ w. tt;
      declared = λ w. tt;
      counted = λ w. tt;
      fit = λ w. tt;
      objects = λ w. (object_from here t m.0, tt);
      bound = λ w. (bound_from here t m.0, tt);
    }
obeys_from here (binds vs) m =
    let r = list_from here.context.types here.context.file (bound_names here.vars) [] vs m in
    record {
      new = λ w. (All-from_recursion (λ (v : TypedName). IsFalse (is_among (bound_names here.vars) v.name.name)) vs r.0, tt);
      once = λ w. (fresh_differ bytes_eq bytes_eq-Decides (names_of vs) r.1, tt);
      types = λ w. (All-from_recursion (HasType here.context.types) vs r.2, tt);
      clocks = λ w. tt;
      rates = λ w. tt;
      always = λ w. tt;
      declared = λ w. tt;
      objects = λ w. tt;
      bound = λ w. tt;
      counted = λ w. tt;
      fit = λ w. tt;
    }
obeys_from here (clock s) m =
    record {
      new = λ w. tt;
      once = λ w. tt;
      types = λ w. tt;
      rates = λ w. tt;
      always = λ w. tt;
      declared = λ w. tt;
      objects = λ w. tt;
      bound = λ w. tt;
      counted = λ w. tt;
      fit = λ w. tt;
      clocks = λ w. (m.0, tt);
    }
obeys_from here (writes l) m =
    record {
      new = λ w. tt;
      once = λ w. tt;
      types = λ w. tt;
      clocks = λ w. tt;
      always = λ w. tt;
      declared = λ w. tt;
      objects = λ w. tt;
      bound = λ w. tt;
      counted = λ w. tt;
      fit = λ w. tt;
      rates = λ w. (rate_from here.flows (is_rate l.node) m.0, tt);
    }
obeys_from here (guards s) m =
    record {
      new = λ w. tt;
      once = λ w. tt;
      types = λ w. tt;
      clocks = λ w. tt;
      rates = λ w. tt;
      declared = λ w. tt;
      objects = λ w. tt;
      bound = λ w. tt;
      counted = λ w. tt;
      fit = λ w. tt;
      always = λ w. (not_true here.flows m.0, tt);
    }

pub obeys_to : (W : Wrong → Type 0) (here : Place) (form : Form) → Obeys W here form → MetFor W (ask_form here form)
obeys_to W here (used heads u) o =
    use_to W here u (params_of heads u.head.name) (record {
      declared = λ w. head_found heads u.head.name ∙ (o.declared w).0;
      counted = λ w. (o.counted w).0;
      fit = λ w. (o.fit w).0;
      objects = o.objects;
      bound = o.bound;
    })
obeys_to W here (side t) o = (known_to W here t (λ w. (o.objects w).0) (λ w. (o.bound w).0), tt)
obeys_to W here (binds vs) o =
    list_to W here.context.types here.context.file (bound_names here.vars) [] vs
    (λ w. recursion_from_All (λ (v : TypedName). IsFalse (is_among (bound_names here.vars) v.name.name)) vs (o.new w).0)
    (λ w. differ_fresh bytes_eq bytes_eq-Decides (names_of vs) (o.once w).0)
    (λ w. recursion_from_All (HasType here.context.types) vs (o.types w).0)
obeys_to W here (clock s) o = (λ w. (o.clocks w).0, tt)
obeys_to W here (writes l) o = (λ w. rate_to here.flows (is_rate l.node) (o.rates w).0, tt)
obeys_to W here (guards s) o = (λ w. true_not here.flows (o.always w).0, tt)

-- ---- all forms

abbrev pub FormMet : Found → Type 0
FormMet f = Met (ask_form f.place f.form)

abbrev pub FormMetFor : (Wrong → Type 0) → Found → Type 0
FormMetFor W f = MetFor W (ask_form f.place f.form)

pub forms_from : (fs : List Found) → Met (ask_forms fs) → AllByRecursion FormMet fs
forms_from fs m = all_inner (λ (q : Asked). q.met ≡ true) (λ (f : Found). ask_form f.place f.form) fs m

pub forms_to : (W : Wrong → Type 0) (fs : List Found) → AllByRecursion (FormMetFor W) fs → MetFor W (ask_forms fs)
forms_to W fs m = all_outer (λ (q : Asked). W q.wrong → q.met ≡ true) (λ (f : Found). ask_form f.place f.form) fs m

-- one rule of all forms
pub pick : {Y : Type 0} (P : Y → Type 0) (at : Place → Form → List Y) → ((here : Place) (form : Form) → ObeysAll here form → AllByRecursion P (at here form))
    → (fs : List Found) → AllByRecursion FormMet fs → All P (flat_map (λ (f : Found). at f.place f.form) fs)
pick P at h fs m =
    All-from_recursion P (flat_map (λ (f : Found). at f.place f.form) fs)
    (all_outer P (λ (f : Found). at f.place f.form) fs
    (all_more FormMet (λ (f : Found). AllByRecursion P (at f.place f.form)) (λ f n. h f.place f.form (obeys_from f.place f.form n)) fs m))

-- and back, form by form
pub spread : {Y : Type 0} (P : Y → Type 0) (at : Place → Form → List Y) (fs : List Found) → All P (flat_map (λ (f : Found). at f.place f.form) fs)
    → AllByRecursion (λ (f : Found). AllByRecursion P (at f.place f.form)) fs
spread P at fs a = all_inner P (λ (f : Found). at f.place f.form) fs (recursion_from_All P (flat_map (λ (f : Found). at f.place f.form) fs) a)

-- ---- declarations

module _ {X : Type 0} (name : X → Spelled) (inner : X → List Found) where
  pub each_from : (earlier : List (List ℕ)) (xs : List X) → Met (ask_each name inner earlier xs) → New earlier (map (λ (x : X). (name x).name) xs) × AllByRecursion FormMet (flat_map inner xs)
  each_from earlier [] m = (tt, tt)
  each_from earlier (x ∷ xs) m =
      let more = ask_each name inner (earlier ++ (name x).name ∷ []) xs in
      let rest = each_from (earlier ++ (name x).name ∷ []) xs (all_right (λ (q : Asked). q.met ≡ true) (ask_forms (inner x)) more m.1) in (
        (not_true (is_among earlier (name x).name) m.0, rest.0),
        all_both FormMet (inner x) (flat_map inner xs) (forms_from (inner x) (all_left (λ (q : Asked). q.met ≡ true) (ask_forms (inner x)) more m.1)) rest.1,
      )

  pub each_to : (W : Wrong → Type 0) (earlier : List (List ℕ)) (xs : List X) → (W Twice → New earlier (map (λ (x : X). (name x).name) xs)) → AllByRecursion (FormMetFor W) (flat_map inner xs)
      → MetFor W (ask_each name inner earlier xs)
  each_to W earlier [] n m = tt
  each_to W earlier (x ∷ xs) n m = (
    λ w. true_not (is_among earlier (name x).name) (n w).0,
    all_both (λ (q : Asked). W q.wrong → q.met ≡ true) (ask_forms (inner x)) (ask_each name inner (earlier ++ (name x).name ∷ []) xs)
        (forms_to W (inner x) (all_left (FormMetFor W) (inner x) (flat_map inner xs) m))
        (each_to W (earlier ++ (name x).name ∷ []) xs (λ w. (n w).1) (all_right (FormMetFor W) (inner x) (flat_map inner xs) m)),
  )

-- ---- the initial state

abbrev pub NewValues : List (List (List ℕ)) → List (List (List ℕ)) → Type 0
NewValues earlier xs = Fresh same_names names_decide earlier xs

value_from : (file : File) (valued : List (List (List ℕ))) (i : Init) (more : List (List (List ℕ))) → Met (ask_value file valued i) → NewValues (valued ++ valued_by i) more → NewValues valued (valued_by i ++ more)
value_from file valued (Holds u) more m n = subst (λ vs. NewValues vs more) (append-nil valued) n
value_from file valued (Absent u s) more m n = subst (λ vs. NewValues vs more) (append-nil valued) n
value_from file valued (inits.At t u s) more m n = subst (λ vs. NewValues vs more) (append-nil valued) n
value_from file valued (inits.AtNot t u s) more m n = subst (λ vs. NewValues vs more) (append-nil valued) n
value_from file valued (Value u l s) more m n = (not_true (list_any (same_names (ground_name u)) valued) m.0, n)

value_to : (W : Wrong → Type 0) (file : File) (valued : List (List (List ℕ))) (i : Init) (more : List (List (List ℕ))) → (W Twice → NewValues valued (valued_by i ++ more)) → MetFor W (ask_value file valued i)
value_to W file valued (Holds u) more n = tt
value_to W file valued (Absent u s) more n = tt
value_to W file valued (inits.At t u s) more n = tt
value_to W file valued (inits.AtNot t u s) more n = tt
value_to W file valued (Value u l s) more n = (λ w. true_not (list_any (same_names (ground_name u)) valued) (n w).0, tt)

pub init_from : (here : Place) (valued : List (List (List ℕ))) (is : List Init) → Met (ask_init here valued is) → NewValues valued (flat_map valued_by is) × AllByRecursion FormMet (flat_map (in_init here) is)
init_from here valued [] m = (tt, tt)
init_from here valued (i ∷ is) m =
    let P = λ (q : Asked). q.met ≡ true in
    let file = here.context.file in
    let later = ask_init here (valued ++ valued_by i) is in
    let after = all_right P (ask_forms (in_init here i)) (ask_value file valued i ++ later) m in
    let rest = init_from here (valued ++ valued_by i) is (all_right P (ask_value file valued i) later after) in (
      value_from file valued i (flat_map valued_by is) (all_left P (ask_value file valued i) later after) rest.0,
      all_both FormMet (in_init here i) (flat_map (in_init here) is) (forms_from (in_init here i) (all_left P (ask_forms (in_init here i)) (ask_value file valued i ++ later) m)) rest.1,
    )

pub init_to : (W : Wrong → Type 0) (here : Place) (valued : List (List (List ℕ))) (is : List Init) → (W Twice → NewValues valued (flat_map valued_by is)) → AllByRecursion (FormMetFor W) (flat_map (in_init here) is)
    → MetFor W (ask_init here valued is)
init_to W here valued [] n m = tt
init_to W here valued (i ∷ is) n m =
    let P = λ (q : Asked). W q.wrong → q.met ≡ true in
    let file = here.context.file in
    let later = ask_init here (valued ++ valued_by i) is in
    all_both P (ask_forms (in_init here i)) (ask_value file valued i ++ later)
    (forms_to W (in_init here i) (all_left (FormMetFor W) (in_init here i) (flat_map (in_init here) is) m))
    (all_both P (ask_value file valued i) later (value_to W file valued i (flat_map valued_by is) n)
    (init_to W here (valued ++ valued_by i) is
    (λ w. fresh_right same_names names_decide valued (valued_by i) (flat_map valued_by is) (n w))
    (all_right (FormMetFor W) (in_init here i) (flat_map (in_init here) is) m)))
