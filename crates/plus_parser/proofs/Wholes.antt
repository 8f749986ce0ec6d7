-- What is spelled within the depth is read, and no text spells two.
use Rattle.std.proofs.Common.{◌≡◌, ℕ, suc, ◌+◌, ◌≤◌, List, length, Result, Ok, Err, refl, sym, ap, ◌∙◌, arith}
use Rattle.std.specs.Prelude.{codes, IfOk, MatchResult}
use Rattle.plus_tree.specs.declared.trees.Constraint.{Constraint}
use Rattle.plus_tree.specs.declared.trees.Domain.{Domain}
use Rattle.plus_tree.specs.declared.trees.Problem.{Problem}
use Rattle.plus_tree.specs.declared.faults.TextFault.{TextFault}
use Rattle.plus_tree.specs.declared.faults.TextFault.TheVariants as faults
use Rattle.plus_tokens.specs.Items.{items_of}
use Rattle.plus_parser.specs.Phrases.Reading.{Fails}
use Rattle.plus_parser.specs.ReadingConstraints.{constraints_of}
use Rattle.plus_parser.specs.ReadingDomain.{domain_in, domain_of}
use Rattle.plus_parser.specs.ReadingProblem.{problem_in, problem_of}
use Rattle.plus_parser.specs.SpellsConstraints.{SpellsConstraints, SpellsConstraintsWithin}
use Rattle.plus_parser.specs.SpellsDomain.{Spells, SpellsWithin}
use Rattle.plus_parser.specs.SpellsProblem.{SpellsProblem, SpellsProblemWithin}
use Rattle.plus_parser.proofs.PhraseLemmas.Tokens.{ok_is, done}
use Rattle.plus_parser.proofs.PhraseLemmas.Level.{even_there}
use Rattle.plus_parser.proofs.Sections.{body_even, body_short}
use Rattle.plus_parser.proofs.ConstraintLaws.{constraints_takes, constraints_level, constraints_again}
use Rattle.plus_parser.proofs.DomainLaws.{domain_takes, domain_level, domain_again}
use Rattle.plus_parser.proofs.ProblemLaws.{problem_takes, problem_level, problem_again}

-- what a reading that was exact answers where a tree is spelled, seen by a view
pub answer_seen : {X A : Type 0} (r : Result X TextFault) (view : X → A) (d : A) (read : Result A TextFault) → MatchResult r (λ x. read ≡ Ok (view x)) (λ e. Fails e read) → read ≡ Ok d → MatchResult r (λ x. view x ≡ d) (λ e. e ≡ faults.Memory)
answer_seen (Ok x) view d read h is = (let both : done (view x) ≡ done d = sym h ∙ is in ok_is (view x) d both)
answer_seen (Err e) view d read h is = fault_only e h
  where
    fault_only : (e : TextFault) → Fails e read → e ≡ faults.Memory
    fault_only (faults.Lex f) h = absurd cc
    fault_only faults.Unclosed h = absurd cc
    fault_only (faults.Depth at) h = absurd cc
    fault_only (faults.Form s) h = absurd cc
    fault_only faults.Memory h = refl

pub answer_only : {A : Type 0} (r : Result A TextFault) (d : A) (read : Result A TextFault) → MatchResult r (λ x. read ≡ Ok x) (λ e. Fails e read) → read ≡ Ok d → MatchResult r (λ x. x ≡ d) (λ e. e ≡ faults.Memory)
answer_only r d read h is = answer_seen r (λ x. x) d read h is

pub domain_found : (text : List ℕ) (r : Result Domain TextFault) → MatchResult r (λ d. domain_of 64 (items_of text) ≡ Ok d) (λ e. Fails e (domain_of 64 (items_of text))) → IfOk r (λ d. SpellsWithin 64 text d)
domain_found text (Ok d) h = domain_takes 62 (items_of text) d h
domain_found text (Err e) h = tt

pub problem_found : (text : List ℕ) (r : Result Problem TextFault) → MatchResult r (λ d. problem_of 64 (items_of text) ≡ Ok d) (λ e. Fails e (problem_of 64 (items_of text))) → IfOk r (λ d. SpellsProblemWithin 64 text d)
problem_found text (Ok d) h = problem_takes 62 (items_of text) d h
problem_found text (Err e) h = tt

pub constraints_found : {X : Type 0} (text : List ℕ) (r : Result X TextFault) (view : X → List Constraint) → MatchResult r (λ x. constraints_of 64 (items_of text) ≡ Ok (view x)) (λ e. Fails e (constraints_of 64 (items_of text))) → IfOk r (λ x. SpellsConstraintsWithin 64 text (view x))
constraints_found text (Ok x) view h = constraints_takes 64 (items_of text) (view x) h
constraints_found text (Err e) view h = tt

pub domain_spelled : (text : List ℕ) (d : Domain) → SpellsWithin 64 text d → domain_of 64 (items_of text) ≡ Ok d
domain_spelled text d h =
    let ts = h.0 in
    let t = h.2 in
    ap (domain_in 62) h.1 ∙ domain_again 62 d ts t (body_even (codes "domain") d.name d.span t.body ts t.frame 62 (domain_level d ts t) h.3)

pub problem_spelled : (text : List ℕ) (p : Problem) → SpellsProblemWithin 64 text p → problem_of 64 (items_of text) ≡ Ok p
problem_spelled text p h =
    let ts = h.0 in
    let t = h.2 in
    ap (problem_in 62) h.1 ∙ problem_again 62 p ts t (body_even (codes "problem") p.name p.span t.body ts t.frame 62 (problem_level p ts t) h.3)

pub constraints_spelled : (text : List ℕ) (cs : List Constraint) → SpellsConstraintsWithin 64 text cs → constraints_of 64 (items_of text) ≡ Ok cs
constraints_spelled text cs h = ap (constraints_of 64) h.1 ∙ constraints_again 64 cs h.0 h.2 h.3

-- with room for each token, whatever is spelled is read
domain_whole : (text : List ℕ) (d : Domain) (h : Spells text d) (room : ℕ) → length h.0 ≤ room → domain_in room (items_of text) ≡ Ok d
domain_whole text d h room le =
    let t = h.2 in
    let short = body_short (codes "domain") d.name d.span t.body h.0 t.frame in
    ap (domain_in room) h.1 ∙ domain_again room d h.0 t (even_there t.body (suc room) (domain_level d h.0 t) (omega (arith, le, short)))

problem_whole : (text : List ℕ) (p : Problem) (h : SpellsProblem text p) (room : ℕ) → length h.0 ≤ room → problem_in room (items_of text) ≡ Ok p
problem_whole text p h room le =
    let t = h.2 in
    let short = body_short (codes "problem") p.name p.span t.body h.0 t.frame in
    ap (problem_in room) h.1 ∙ problem_again room p h.0 t (even_there t.body (suc room) (problem_level p h.0 t) (omega (arith, le, short)))

pub one_domain_only : (text : List ℕ) (d e : Domain) → Spells text d → Spells text e → d ≡ e
one_domain_only text d e h k =
    let room = length h.0 + length k.0 in
    let both : done d ≡ done e = sym (domain_whole text d h room (omega arith)) ∙ domain_whole text e k room (omega arith) in ok_is d e both

pub one_problem_only : (text : List ℕ) (p q : Problem) → SpellsProblem text p → SpellsProblem text q → p ≡ q
one_problem_only text p q h k =
    let room = length h.0 + length k.0 in
    let both : done p ≡ done q = sym (problem_whole text p h room (omega arith)) ∙ problem_whole text q k room (omega arith) in ok_is p q both

constraints_whole : (text : List ℕ) (cs : List Constraint) (h : SpellsConstraints text cs) (room : ℕ) → length h.0 ≤ room → constraints_of room (items_of text) ≡ Ok cs
constraints_whole text cs h room le =
    ap (constraints_of room) h.1 ∙ constraints_again room cs h.0 h.2 (even_there h.0 room (constraints_level cs h.0 h.2) le)

pub one_constraints_only : (text : List ℕ) (a b : List Constraint) → SpellsConstraints text a → SpellsConstraints text b → a ≡ b
one_constraints_only text a b h k =
    let room = length h.0 + length k.0 in
    let both : done a ≡ done b = sym (constraints_whole text a h room (omega arith)) ∙ constraints_whole text b k room (omega arith) in ok_is a b both
