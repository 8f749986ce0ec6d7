-- The last symbol of all ends with a closing parenthesis, so room is left behind a whole text.
use Rattle.std.proofs.Common.{◌≡◌, ℕ, zero, suc, ◌+◌, ◌<◌, Bool, true, false, cond, List, [], ◌∷◌, ◌++◌, Option, Some, None, refl, sym, ap, ◌∙◌, subst, inl, inr, ⊎_elim, arith}
use Rattle.std.specs.Prelude.{◌⊎◌}
use Rattle.std.proofs.lemmas.List.{append-nil}
use Rattle.plus_tokens.specs.declared.token.Kind.{Kind}
use Rattle.plus_tokens.specs.declared.token.Kind.TheVariants as kinds
use Rattle.plus_parser.specs.declared.keywords.ProblemWord.{ProblemWord}
use Rattle.plus_parser.specs.declared.keywords.ProblemWord.TheVariants as problems
use Rattle.plus_parser.specs.declared.keywords.DomainWord.{DomainWord}
use Rattle.plus_parser.specs.declared.keywords.DomainWord.TheVariants as domains
use Rattle.plus_parser.specs.Keywords.{problem_part_of, domain_part_of}
use Rattle.plus_parser.specs.declared.constraints.RuleWord.{RuleWord}
use Rattle.plus_parser.specs.declared.constraints.RuleWord.TheVariants as rules
use Rattle.plus_parser.specs.ReadingConstraints.{rule_word_of}
use Rattle.plus_tokens.specs.Items.{Piece}
use Rattle.plus_parser.specs.Phrases.Reading.{is_open}
use Rattle.plus_parser.specs.Phrases.Words.{is_close}
use Rattle.plus_parser.specs.Phrases.Spells.{IsClose, room_step, room_after}
use Rattle.plus_parser.proofs.PhraseLemmas.Tokens.{close_kind}
use Rattle.plus_places.specs.declared.symbols.Met.{Met}
use Rattle.plus_places.specs.declared.symbols.DomainMet.{DomainMet}
use Rattle.plus_places.specs.declared.symbols.Symbol.{Symbol}
use Rattle.plus_places.specs.declared.symbols.Symbol.TheVariants as sy
use Rattle.plus_places.specs.Table.{Wanted, accept, once, all_met, none_missing, section_of, domain_section_of, constraints_inside, step, run_with, run}
use Rattle.plus_places.proofs.Runs.{some_is}

abbrev pub is_bottom : Symbol → Bool
is_bottom (sy.Sections m) = true
is_bottom (sy.Section m) = true
is_bottom (sy.DomainSections m) = true
is_bottom (sy.DomainSection m) = true
is_bottom sy.Constraints = true
is_bottom sy.ConstraintsInside = true
is_bottom sy.ConstraintList = true
is_bottom sy.Close = true
is_bottom _ = false

abbrev pub Grounded : List Symbol → Type 0
Grounded [] = ⊥
Grounded (s ∷ []) = is_bottom s ≡ true
Grounded (s ∷ t ∷ st) = Grounded (t ∷ st)

grounded_append : (ks : List Symbol) (t : Symbol) (st : List Symbol) → Grounded (t ∷ st) → Grounded (ks ++ t ∷ st)
grounded_append [] t st g = g
grounded_append (k ∷ []) t st g = g
grounded_append (k ∷ l ∷ ks) t st g = grounded_append (l ∷ ks) t st g

abbrev Keeps : Piece → Wanted → Type 0
Keeps p w = (ks : List Symbol) → w ≡ Some ks → ((ks ≡ []) × IsClose p) ⊎ Grounded ks

none_keeps : (p : Piece) → Keeps p None
none_keeps p ks e = absurd cc

some_keeps : (p : Piece) (ks : List Symbol) → Grounded ks → Keeps p (Some ks)
some_keeps p ks g ls e = inr (subst Grounded (some_is ks ls e) g)

once_keeps : (p : Piece) (b : Bool) (ks : List Symbol) → Grounded ks → Keeps p (once b ks)
once_keeps p true ks g = none_keeps p
once_keeps p false ks g = some_keeps p ks g

section_keeps : (p : Piece) (m : Met) (w : ProblemWord) → Keeps p (section_of m w)
section_keeps p m problems.Domain = once_keeps p m.domain (sy.Name ∷ sy.Close ∷ sy.Sections (record m { domain = true }) ∷ []) refl
section_keeps p m problems.Requirements = once_keeps p m.requirements (sy.Requirements ∷ sy.Sections (record m { requirements = true }) ∷ []) refl
section_keeps p m problems.Objects = once_keeps p m.objects _ refl
section_keeps p m problems.Init = once_keeps p m.init _ refl
section_keeps p m problems.Goal = once_keeps p m.goal _ refl
section_keeps p m problems.Metric = once_keeps p m.metric _ refl
section_keeps p m problems.Other = none_keeps p

domain_section_keeps : (p : Piece) (m : DomainMet) (w : DomainWord) → Keeps p (domain_section_of m w)
domain_section_keeps p m domains.Requirements = once_keeps p m.requirements _ refl
domain_section_keeps p m domains.Types = once_keeps p m.types _ refl
domain_section_keeps p m domains.Constants = once_keeps p m.constants _ refl
domain_section_keeps p m domains.Predicates = once_keeps p m.predicates _ refl
domain_section_keeps p m domains.Functions = once_keeps p m.functions _ refl
domain_section_keeps p m domains.Action = some_keeps p _ refl
domain_section_keeps p m domains.Process = some_keeps p _ refl
domain_section_keeps p m domains.Event = some_keeps p _ refl
domain_section_keeps p m domains.Other = none_keeps p

constraints_keep : (p : Piece) (w : RuleWord) → Keeps p (constraints_inside w)
constraints_keep p rules.And = some_keeps p _ refl
constraints_keep p rules.Always = some_keeps p _ refl
constraints_keep p rules.Sometime = some_keeps p _ refl
constraints_keep p rules.Within = some_keeps p _ refl
constraints_keep p rules.HoldAfter = some_keeps p _ refl
constraints_keep p rules.Other = none_keeps p

close_keeps : (p : Piece) (b : Bool) → is_close p.kind ≡ b → Keeps p (accept b [])
close_keeps p true c ks e = inl (sym (some_is [] ks e), close_kind p.kind c)
close_keeps p false c ks e = absurd cc

-- the closing parenthesis, or what goes on
closes_or : (p : Piece) (w v : Wanted) → ((ks : List Symbol) → v ≡ Some ks → ks ≡ []) → Keeps p w → (b : Bool) → is_close p.kind ≡ b → Keeps p (cond b v w)
closes_or p w v n h true c ks e = inl (n ks e, close_kind p.kind c)
closes_or p w v n h false c ks e = h ks e

accept_none : (b : Bool) (ks : List Symbol) → accept b [] ≡ Some ks → ks ≡ []
accept_none true ks e = sym (some_is [] ks e)
accept_none false ks e = absurd cc

open_keeps : (p : Piece) (w : Wanted) → Keeps p w → (b : Bool) → Keeps p (cond b w None)
open_keeps p w h true = h
open_keeps p w h false = none_keeps p

full_keeps : (p : Piece) (w v : Wanted) → Keeps p w → Keeps p v → (b : Bool) → Keeps p (cond b v w)
full_keeps p w v h g true = g
full_keeps p w v h g false = h

keeps : (s : Symbol) (p : Piece) → is_bottom s ≡ true → Keeps p (step s p)
keeps (sy.Sections m) p b =
    closes_or p (cond (is_open p.kind) (once (all_met m) (sy.Section m ∷ [])) None) (accept (none_missing m) []) (accept_none (none_missing m)) (open_keeps p (once (all_met m) (sy.Section m ∷ [])) (once_keeps p (all_met m) (sy.Section m ∷ []) refl) (is_open p.kind)) (is_close p.kind) refl
keeps (sy.Section m) p b = full_keeps p (section_of m (problem_part_of p)) (Some (sy.Sections m ∷ [])) (section_keeps p m (problem_part_of p)) (some_keeps p (sy.Sections m ∷ []) refl) (all_met m)
keeps (sy.DomainSections m) p b =
    closes_or p (accept (is_open p.kind) (sy.DomainSection m ∷ [])) (Some []) (λ ks e. sym (some_is [] ks e)) (open_keeps p (Some (sy.DomainSection m ∷ [])) (some_keeps p (sy.DomainSection m ∷ []) refl) (is_open p.kind)) (is_close p.kind) refl
keeps (sy.DomainSection m) p b = domain_section_keeps p m (domain_part_of p)
keeps sy.Constraints p b = open_keeps p (Some (sy.ConstraintsInside ∷ [])) (some_keeps p (sy.ConstraintsInside ∷ []) refl) (is_open p.kind)
keeps sy.ConstraintsInside p b = constraints_keep p (rule_word_of p)
keeps sy.ConstraintList p b =
    closes_or p (accept (is_open p.kind) (sy.ConstraintInside ∷ sy.ConstraintList ∷ [])) (Some []) (λ ks e. sym (some_is [] ks e)) (open_keeps p (Some (sy.ConstraintInside ∷ sy.ConstraintList ∷ [])) (some_keeps p (sy.ConstraintInside ∷ sy.ConstraintList ∷ []) refl) (is_open p.kind)) (is_close p.kind) refl
keeps sy.Close p b = close_keeps p (is_close p.kind) refl
keeps _ p b = absurd cc

goes_on : (k : Kind) (room over : ℕ) (f : ℕ → Option ℕ) → room_step k room f ≡ Some over → (r : ℕ) × (f r ≡ Some over)
goes_on kinds.Open zero over f e = absurd cc
goes_on kinds.Open (suc room) over f e = (room, e)
goes_on kinds.Close room over f e = (room + 1, e)
goes_on _ room over f e = (room, e)

pub room_left : (ts : List Piece) (st : List Symbol) (room over : ℕ) → Grounded st → run st ts ≡ Some [] → room_after room ts ≡ Some over → 0 < over
unfolding run
room_left [] st room over g r l = absurd (subst Grounded (some_is st [] r) g)
room_left (p ∷ ts) [] room over g r l = absurd g
room_left (p ∷ ts) (s ∷ st) room over g r l =
    let more = goes_on p.kind room over (λ r. room_after r ts) l in
    at_wanted (step s p) refl (λ ks h q. room_left ts (ks ++ st) more.0 over h q more.1) r
  where
    at_end : (ks us : List Symbol) (qs : List Piece) → ks ≡ [] → run (ks ++ []) qs ≡ Some us → qs ≡ []
    at_end ks us [] e r = refl
    at_end [] us (q ∷ qs) e r = absurd cc
    at_end (k ∷ ks) us (q ∷ qs) e r = absurd cc

    at_last : (ks : List Symbol) → st ≡ [] → is_bottom s ≡ true → step s p ≡ Some ks → ((h : Grounded (ks ++ st)) → run (ks ++ st) ts ≡ Some [] → 0 < over) → run (ks ++ st) ts ≡ Some [] → 0 < over
    at_last ks n b w again q =
        ⊎_elim
        (λ c.
        let none : ts ≡ [] = at_end ks [] ts c.0 (ap (λ us. run (ks ++ us) ts) (sym n) ∙ q) in
        let plus : Some (room + 1) ≡ Some over = sym (ap (λ k. room_step k room (λ r. room_after r ts)) c.1 ∙ ap (room_after (room + 1)) none) ∙ l in
        let same : room + 1 ≡ over = some_is (room + 1) over plus in
        omega (arith, same))
        (λ h. again (subst Grounded (sym (append-nil ks) ∙ ap (λ us. ks ++ us) (sym n)) h) q)
        (keeps s p b ks w)

    at_stack : (us : List Symbol) → st ≡ us → Grounded (s ∷ us) → (ks : List Symbol) → step s p ≡ Some ks → ((h : Grounded (ks ++ st)) → run (ks ++ st) ts ≡ Some [] → 0 < over) → run (ks ++ st) ts ≡ Some [] → 0 < over
    at_stack [] n g ks w again q = at_last ks n g w again q
    at_stack (t ∷ us) n g ks w again q = again (subst (λ vs. Grounded (ks ++ vs)) (sym n) (grounded_append ks t us g)) q

    at_wanted : (w : Wanted) → step s p ≡ w → ((ks : List Symbol) (h : Grounded (ks ++ st)) → run (ks ++ st) ts ≡ Some [] → 0 < over) → run_with w (λ ks. run (ks ++ st) ts) ≡ Some [] → 0 < over
    at_wanted None w again r = absurd cc
    at_wanted (Some ks) w again r = at_stack st refl g ks w (again ks) r
