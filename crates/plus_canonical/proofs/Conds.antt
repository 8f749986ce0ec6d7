-- Conditions read again.
use Rattle.std.proofs.Common.{◌≡◌, ℕ, suc, true, List, [], ◌∷◌, ◌++◌, refl, sym, ap, ◌∙◌, subst, inl, inr}
use Rattle.std.specs.Prelude.{codes, map}
use Rattle.plus_tokens.specs.declared.token.Kind.TheVariants as kinds
use Rattle.plus_tokens.specs.declared.token.Op.TheVariants as ops
use Rattle.plus_tokens.specs.declared.span.Span.{Span}
use Rattle.plus_tree.specs.declared.terms.Term.{Term}
use Rattle.plus_tree.specs.declared.terms.TypedName.{TypedName}
use Rattle.plus_tree.specs.declared.terms.Use.{Use}
use Rattle.plus_tree.specs.declared.terms.Comparison.{Comparison}
use Rattle.plus_tree.specs.declared.terms.Comparison.TheVariants as comparisons
use Rattle.plus_tree.specs.Expr.{Expr}
use Rattle.plus_tree.specs.Cond.{Cond, Conds, c_all, c_any, c_not, c_imply, c_forall, c_exists, c_atom, c_same, c_compare, no_conds, more_conds}
use Rattle.plus_parser.specs.declared.phrases.words.Allowed.TheVariants.{Terms}
use Rattle.plus_tokens.specs.Items.{Piece}
use Rattle.plus_parser.specs.Phrases.Spells.{Wrapped, room_after, sign_of, SpellsExpr}
use Rattle.plus_parser.specs.Forms.SpellsForms.{SpellsCond, SpellsConds}
use Rattle.plus_printer.specs.Words.{word, use_text, term_text, variables_text}
use Rattle.plus_printer.specs.Canon.{expr_text, cond_text, conds_text}
use Rattle.plus_canonical.specs.Same.{no_span, bare_term, bare_typed, bare_expr, bare_cond, bare_conds}
use Rattle.plus_canonical.proofs.Lexes.{Ended, at_space, Reads, Both, both, turn, join, piece, Nothing, none_reads}
use Rattle.plus_parser.proofs.PhraseLemmas.Level.{is_flat, level_at, level_none, level_append, level_expr}
use Rattle.plus_parser.proofs.PhraseLemmas.TypedLists.{level_variables}
use Rattle.plus_parser.proofs.FormLemmas.FormLevels.{level_term, level_cond, level_conds}
use Rattle.plus_canonical.proofs.Smalls.{IsSmall, Fine, fine_at, fine_split, fine_within, fine_form, even_both}
use Rattle.plus_canonical.proofs.Forms.{head_even, name_reads, op_reads, spaced_before, loosen, head_reads, Again}
use Rattle.plus_canonical.proofs.Pairs.{pair_even, PairForm, pair_reads, one_reads}
use Rattle.plus_canonical.proofs.Terms.{fixed, TermAgain, term_again, UseAgain, use_again}
use Rattle.plus_canonical.proofs.Lists.{VariablesAgain, variables_again}
use Rattle.plus_canonical.proofs.Exprs.{ExprAgain, expr_again}

abbrev pub CondAgain : ℕ → Cond → Type 0
CondAgain n c = Reads Ended (cond_text c) (Again n Cond SpellsCond bare_cond c)

abbrev pub CondsAgain : ℕ → Conds → Type 0
CondsAgain n cs = Reads Ended (conds_text cs) (Again n Conds SpellsConds bare_conds cs)

conds_lead : (cs : Conds) (rest : List ℕ) → Ended rest → Ended (conds_text cs ++ rest)
unfolding word
conds_lead no_conds rest e = e
conds_lead (more_conds c cs) rest e = at_space

-- ---- words

pub and_small : IsSmall (codes "and")
and_small = fixed 97 (codes "nd") refl refl refl refl

or_small : IsSmall (codes "or")
or_small = fixed 111 (codes "r") refl refl refl refl

pub not_small : IsSmall (codes "not")
not_small = fixed 110 (codes "ot") refl refl refl refl

imply_small : IsSmall (codes "imply")
imply_small = fixed 105 (codes "mply") refl refl refl refl

pub forall_small : IsSmall (codes "forall")
forall_small = fixed 102 (codes "orall") refl refl refl refl

exists_small : IsSmall (codes "exists")
exists_small = fixed 101 (codes "xists") refl refl refl refl

-- ---- one form each

pub all_again : (m : ℕ) (cs : Conds) (s : Span) → CondsAgain m cs → CondAgain (suc m) (c_all cs s)
unfolding word
all_again m cs s r = turn {after = Ended} (cond_text (c_all cs s)) (λ ts f. record {
  again = c_all f.body_is.again f.span;
  spelled = (piece kinds.Name (codes "and") f.at ∷ f.body, f.wrapped, inr (piece kinds.Name (codes "and") f.at, f.body, (refl, refl), refl, f.body_is.spelled));
  even = head_even m ts f refl f.body_is.even;
  same = ap (λ ds. c_all ds no_span) f.body_is.same;
}) (loosen (cond_text (c_all cs s)) (head_reads {S = Ended} (codes "and") (conds_text cs) (name_reads (codes "and") and_small) r (conds_lead cs)))

pub any_again : (m : ℕ) (cs : Conds) (s : Span) → CondsAgain m cs → CondAgain (suc m) (c_any cs s)
unfolding word
any_again m cs s r = turn {after = Ended} (cond_text (c_any cs s)) (λ ts f. record {
  again = c_any f.body_is.again f.span;
  spelled = (piece kinds.Name (codes "or") f.at, f.body, (refl, refl), f.wrapped, f.body_is.spelled);
  even = head_even m ts f refl f.body_is.even;
  same = ap (λ ds. c_any ds no_span) f.body_is.same;
}) (loosen (cond_text (c_any cs s)) (head_reads {S = Ended} (codes "or") (conds_text cs) (name_reads (codes "or") or_small) r (conds_lead cs)))

pub not_again : (m : ℕ) (c : Cond) (s : Span) → CondAgain m c → CondAgain (suc m) (c_not c s)
unfolding word
not_again m c s r = turn {after = Ended} (cond_text (c_not c s)) (λ ts f. record {
  again = c_not f.body_is.again f.span;
  spelled = (piece kinds.Name (codes "not") f.at, f.body, (refl, refl), f.wrapped, f.body_is.spelled);
  even = head_even m ts f refl f.body_is.even;
  same = ap (λ d. c_not d no_span) f.body_is.same;
}) (loosen (cond_text (c_not c s)) (one_reads (codes "not") (cond_text c) (name_reads (codes "not") not_small) r))

pub imply_again : (m : ℕ) (c d : Cond) (s : Span) → CondAgain m c → CondAgain m d → CondAgain (suc m) (c_imply c d s)
unfolding word
imply_again m c d s x y = turn {after = Ended} (cond_text (c_imply c d s)) (λ ts p. record {
  again = c_imply p.front_is.again p.back_is.again p.span;
  spelled = (piece kinds.Name (codes "imply") p.at, p.front, p.back, (refl, refl), p.wrapped, p.front_is.spelled, p.back_is.spelled);
  even = pair_even m ts p refl p.front_is.even p.back_is.even;
  same = ap (λ a. c_imply a (bare_cond d) no_span) p.front_is.same ∙ ap (λ b. c_imply (bare_cond p.front_is.again) b no_span) p.back_is.same;
}) (loosen (cond_text (c_imply c d s)) (pair_reads (codes "imply") (cond_text c) (cond_text d) (name_reads (codes "imply") imply_small) x y))

pub forall_again : (m : ℕ) (vs : List TypedName) (c : Cond) (s : Span) → VariablesAgain m vs → CondAgain m c → CondAgain (suc m) (c_forall vs c s)
unfolding word
forall_again m vs c s x y = turn {after = Ended} (cond_text (c_forall vs c s)) (λ ts p. record {
  again = c_forall p.front_is.again p.back_is.again p.span;
  spelled = (piece kinds.Name (codes "forall") p.at, p.front, p.back, (refl, refl), p.wrapped, p.front_is.spelled, p.back_is.spelled);
  even = pair_even m ts p refl p.front_is.even p.back_is.even;
  same = ap (λ a. c_forall a (bare_cond c) no_span) p.front_is.same ∙ ap (λ b. c_forall (map bare_typed p.front_is.again) b no_span) p.back_is.same;
}) (loosen (cond_text (c_forall vs c s)) (pair_reads (codes "forall") (variables_text vs) (cond_text c) (name_reads (codes "forall") forall_small) (loosen (variables_text vs) x) y))

pub exists_again : (m : ℕ) (vs : List TypedName) (c : Cond) (s : Span) → VariablesAgain m vs → CondAgain m c → CondAgain (suc m) (c_exists vs c s)
unfolding word
exists_again m vs c s x y = turn {after = Ended} (cond_text (c_exists vs c s)) (λ ts p. record {
  again = c_exists p.front_is.again p.back_is.again p.span;
  spelled = (piece kinds.Name (codes "exists") p.at, p.front, p.back, (refl, refl), p.wrapped, p.front_is.spelled, p.back_is.spelled);
  even = pair_even m ts p refl p.front_is.even p.back_is.even;
  same = ap (λ a. c_exists a (bare_cond c) no_span) p.front_is.same ∙ ap (λ b. c_exists (map bare_typed p.front_is.again) b no_span) p.back_is.same;
}) (loosen (cond_text (c_exists vs c s)) (pair_reads (codes "exists") (variables_text vs) (cond_text c) (name_reads (codes "exists") exists_small) (loosen (variables_text vs) x) y))

pub atom_again : (n : ℕ) (u : Use) (s : Span) → UseAgain n Terms u → CondAgain n (c_atom u s)
atom_again n u s r = turn {after = Ended} (use_text u) (λ ts a. record {
  again = c_atom a.again a.again.span;
  spelled = (refl, a.spelled);
  even = a.even;
  same = ap (λ v. c_atom v no_span) a.same;
}) (loosen (use_text u) r)

pub same_again : (m : ℕ) (t u : Term) (s : Span) → TermAgain m Terms t → TermAgain m Terms u → CondAgain (suc m) (c_same t u s)
unfolding word
same_again m t u s x y = turn {after = Ended} (cond_text (c_same t u s)) (λ ts p. record {
  again = c_same p.front_is.again p.back_is.again p.span;
  spelled = (piece (kinds.Op ops.Equal) (61 ∷ []) p.at, p.front, p.back, refl, p.wrapped, p.front_is.spelled, p.back_is.spelled);
  even = pair_even m ts p refl p.front_is.even p.back_is.even;
  same = ap (λ a. c_same a (bare_term u) no_span) p.front_is.same ∙ ap (λ b. c_same (bare_term p.front_is.again) b no_span) p.back_is.same;
}) (loosen (cond_text (c_same t u s)) (pair_reads (61 ∷ []) (term_text t) (term_text u) (op_reads ops.Equal) x y))

sign_flat : (op : Comparison) → is_flat (kinds.Op (sign_of op)) ≡ true
sign_flat op = refl

compare_made : (m : ℕ) (op : Comparison) (w : List ℕ) (e f : Expr) (s : Span) (ts : List Piece) → PairForm (kinds.Op (sign_of op)) w (Again m Expr SpellsExpr bare_expr e) (Again m Expr SpellsExpr bare_expr f) ts
    → Again (suc m) Cond SpellsCond bare_cond (c_compare op e f s) ts
compare_made m op w e f s ts p = record {
  again = c_compare op p.front_is.again p.back_is.again p.span;
  spelled = (piece (kinds.Op (sign_of op)) w p.at, p.front, p.back, refl, p.wrapped, p.front_is.spelled, p.back_is.spelled);
  even = pair_even m ts p (sign_flat op) p.front_is.even p.back_is.even;
  same = ap (λ a. c_compare op a (bare_expr f) no_span) p.front_is.same ∙ ap (λ b. c_compare op (bare_expr p.front_is.again) b no_span) p.back_is.same;
}

pub compare_again : (m : ℕ) (op : Comparison) (e f : Expr) (s : Span) → ExprAgain m e → ExprAgain m f → CondAgain (suc m) (c_compare op e f s)
unfolding word
compare_again m comparisons.Less e f s x y = turn {after = Ended} (cond_text (c_compare comparisons.Less e f s)) (compare_made m comparisons.Less (60 ∷ []) e f s)
    (loosen (cond_text (c_compare comparisons.Less e f s)) (pair_reads (60 ∷ []) (expr_text e) (expr_text f) (op_reads ops.Less) x y))
compare_again m comparisons.AtMost e f s x y = turn {after = Ended} (cond_text (c_compare comparisons.AtMost e f s)) (compare_made m comparisons.AtMost (60 ∷ 61 ∷ []) e f s)
    (loosen (cond_text (c_compare comparisons.AtMost e f s)) (pair_reads (60 ∷ 61 ∷ []) (expr_text e) (expr_text f) (op_reads ops.AtMost) x y))
compare_again m comparisons.Equal e f s x y = turn {after = Ended} (cond_text (c_compare comparisons.Equal e f s)) (compare_made m comparisons.Equal (61 ∷ []) e f s)
    (loosen (cond_text (c_compare comparisons.Equal e f s)) (pair_reads (61 ∷ []) (expr_text e) (expr_text f) (op_reads ops.Equal) x y))
compare_again m comparisons.AtLeast e f s x y = turn {after = Ended} (cond_text (c_compare comparisons.AtLeast e f s)) (compare_made m comparisons.AtLeast (62 ∷ 61 ∷ []) e f s)
    (loosen (cond_text (c_compare comparisons.AtLeast e f s)) (pair_reads (62 ∷ 61 ∷ []) (expr_text e) (expr_text f) (op_reads ops.AtLeast) x y))
compare_again m comparisons.Greater e f s x y = turn {after = Ended} (cond_text (c_compare comparisons.Greater e f s)) (compare_made m comparisons.Greater (62 ∷ []) e f s)
    (loosen (cond_text (c_compare comparisons.Greater e f s)) (pair_reads (62 ∷ []) (expr_text e) (expr_text f) (op_reads ops.Greater) x y))

pub none_again : (n : ℕ) → CondsAgain n no_conds
none_again n = turn {after = Ended} {P = Nothing} [] (λ ts e. record { again = no_conds; spelled = e; even = ap (room_after n) e; same = refl }) (none_reads Ended)

more_made : (n : ℕ) (c : Cond) (cs : Conds) (ts : List Piece) → Both (Again n Cond SpellsCond bare_cond c) (Again n Conds SpellsConds bare_conds cs) ts → Again n Conds SpellsConds bare_conds (more_conds c cs) ts
more_made n c cs ts (both a b x y w) = record {
  again = more_conds x.again y.again;
  spelled = (a, b, x.spelled, y.spelled, w);
  even = even_both n a b ts x.even y.even w;
  same = ap (λ z. more_conds z (bare_conds cs)) x.same ∙ ap (λ zs. more_conds (bare_cond x.again) zs) y.same;
}

pub more_again : (n : ℕ) (c : Cond) (cs : Conds) → CondAgain n c → CondsAgain n cs → CondsAgain n (more_conds c cs)
unfolding word
more_again n c cs x y = turn {after = Ended} (conds_text (more_conds c cs)) (more_made n c cs)
    (join {S = Ended} {T = Ended} (32 ∷ cond_text c) (conds_text cs) (spaced_before {S = Ended} (cond_text c) x) y (conds_lead cs))

-- what is not written holds
pub nothing_again : (m : ℕ) (s : Span) → CondAgain (suc m) (c_all no_conds s)
nothing_again m s = all_again m no_conds s (none_again m)

-- ---- all of them

mutual
  pub cond_again : (n : ℕ) (c : Cond) (ts : List Piece) → Fine n ts → SpellsCond c ts → CondAgain n c
  cond_again n (c_all cs s) ts l (body, wrapped, inl (none, empty)) =
      let i = fine_within n s body ts wrapped (level_at body [] empty level_none) l in
      subst (λ m. CondAgain m (c_all cs s)) i.under (all_again i.room cs s (subst (CondsAgain i.room) (sym none) (none_again i.room)))
  cond_again n (c_all cs s) ts l (body, wrapped, inr (a, inner, is, e, spelled)) =
      let i = fine_form n s a inner ts (ap is_flat is.0) (subst (λ b. Wrapped s b ts) e wrapped) (level_conds cs inner spelled) l in
      subst (λ m. CondAgain m (c_all cs s)) i.under (all_again i.room cs s (conds_again i.room cs inner i.fine spelled))
  cond_again n (c_any cs s) ts l (a, inner, is, wrapped, spelled) =
      let i = fine_form n s a inner ts (ap is_flat is.0) wrapped (level_conds cs inner spelled) l in
      subst (λ m. CondAgain m (c_any cs s)) i.under (any_again i.room cs s (conds_again i.room cs inner i.fine spelled))
  cond_again n (c_not c s) ts l (a, inner, is, wrapped, spelled) =
      let i = fine_form n s a inner ts (ap is_flat is.0) wrapped (level_cond c inner spelled) l in
      subst (λ m. CondAgain m (c_not c s)) i.under (not_again i.room c s (cond_again i.room c inner i.fine spelled))
  cond_again n (c_imply c d s) ts l (a, front, back, is, wrapped, one, two) =
      let i = fine_form n s a (front ++ back) ts (ap is_flat is.0) wrapped (level_append front back (level_cond c front one) (level_cond d back two)) l in
      let b = fine_split i.room front back (level_cond c front one) i.fine in
      subst (λ m. CondAgain m (c_imply c d s)) i.under (imply_again i.room c d s (cond_again i.room c front b.0 one) (cond_again i.room d back b.1 two))
  cond_again n (c_forall vs c s) ts l (a, front, back, is, wrapped, one, two) =
      let i = fine_form n s a (front ++ back) ts (ap is_flat is.0) wrapped (level_append front back (level_variables vs front one) (level_cond c back two)) l in
      let b = fine_split i.room front back (level_variables vs front one) i.fine in
      subst (λ m. CondAgain m (c_forall vs c s)) i.under (forall_again i.room vs c s (variables_again i.room vs front b.0 one) (cond_again i.room c back b.1 two))
  cond_again n (c_exists vs c s) ts l (a, front, back, is, wrapped, one, two) =
      let i = fine_form n s a (front ++ back) ts (ap is_flat is.0) wrapped (level_append front back (level_variables vs front one) (level_cond c back two)) l in
      let b = fine_split i.room front back (level_variables vs front one) i.fine in
      subst (λ m. CondAgain m (c_exists vs c s)) i.under (exists_again i.room vs c s (variables_again i.room vs front b.0 one) (cond_again i.room c back b.1 two))
  cond_again n (c_atom u s) ts l (at, spelled) = atom_again n u s (use_again n Terms u ts l spelled)
  cond_again n (c_same t u s) ts l (a, front, back, is, wrapped, one, two) =
      let i = fine_form n s a (front ++ back) ts (ap is_flat is) wrapped (level_append front back (level_term t front one) (level_term u back two)) l in
      let b = fine_split i.room front back (level_term t front one) i.fine in
      subst (λ m. CondAgain m (c_same t u s)) i.under (same_again i.room t u s (term_again i.room Terms t front b.0.words one) (term_again i.room Terms u back b.1.words two))
  cond_again n (c_compare op e f s) ts l (a, front, back, is, wrapped, one, two) =
      let i = fine_form n s a (front ++ back) ts (ap is_flat is) wrapped (level_append front back (level_expr e front one) (level_expr f back two)) l in
      let b = fine_split i.room front back (level_expr e front one) i.fine in
      subst (λ m. CondAgain m (c_compare op e f s)) i.under (compare_again i.room op e f s (expr_again i.room e front b.0 one) (expr_again i.room f back b.1 two))

  pub conds_again : (n : ℕ) (cs : Conds) (ts : List Piece) → Fine n ts → SpellsConds cs ts → CondsAgain n cs
  conds_again n no_conds ts l spelled = none_again n
  conds_again n (more_conds c cs) ts l (front, back, one, more, whole) =
      let b = fine_split n front back (level_cond c front one) (fine_at n ts (front ++ back) whole l) in
      more_again n c cs (cond_again n c front b.0 one) (conds_again n cs back b.1 more)
