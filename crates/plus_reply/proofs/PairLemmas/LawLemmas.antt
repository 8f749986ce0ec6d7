-- The grammar by groups and counts is the one that a reader is held to, and the rules of types are those that a walk asks:
-- what the calls answer, said in the words of the definitions.
use Rattle.std.proofs.Common.{◌≡◌, ℕ, Bool, true, false, not, cond, List, [], ◌∷◌, ◌++◌, map, filter, refl, ap, ◌∙◌}
use Rattle.std.specs.Prelude.{slice_get, IsTrue}
use Rattle.std.proofs.lemmas.List.Elements.{All-head, All-tail}
use Rattle.std.specs.List.{All}
use Rattle.plus_tree.specs.declared.faults.TextFault.{TextFault}
use Rattle.plus_tree.specs.declared.faults.TextFault.TheVariants as faults
use Rattle.plus_tokens.specs.declared.span.Span.{Span}
use Rattle.plus_tree.specs.declared.trees.Domain.{Domain}
use Rattle.plus_tree.specs.declared.trees.Problem.{Problem}
use Rattle.plus_tokens.specs.Items.{Piece, Item}
use Rattle.plus_parser.specs.SpellsDomain.{DomainTokens}
use Rattle.plus_parser.specs.SpellsProblem.{ProblemTokens}
use Rattle.plus_places.specs.Place.{Begins, RefusedBehind, IsPlace}
use Rattle.plus_grammar.specs.Wholes.{IsDomain, IsProblem}
use Rattle.plus_grammar.proofs.Wholes.{domains_spelled, problems_spelled}
use Rattle.plus_types.specs.declared.faults.File.{File}
use Rattle.plus_types.specs.declared.faults.Wrong.{Wrong}
use Rattle.plus_types.specs.declared.faults.TypeFault.{TypeFault}
use Rattle.plus_types.specs.declared.faults.TypeFault.TheVariants as types
use Rattle.plus_types.specs.Faults.{type_faults, IsFirstFault}
use Rattle.plus_typing.specs.Asked.{Asked, ask, broken, rules_asked}
use Rattle.plus_typing.specs.Laws.{IsFirstUnmet}
use Rattle.plus_typing.proofs.Told.{first_broken}

-- ---- places: two relations that hold of the same trees and tokens have the same places
begins : {Tree : Type 0} (P Q : Tree → List Piece → Type 0) (to : (x : Tree) (ts : List Piece) → P x ts → Q x ts) (before : List Piece) → Begins P before → Begins Q before
begins P Q to before b = record { text = b.text; more = b.more; tree = b.tree; items = b.items; tokens = to b.tree (before ++ b.more) b.tokens }

module _ {Tree : Type 0} (P Q : Tree → List Piece → Type 0) (to : (x : Tree) (ts : List Piece) → P x ts → Q x ts) (from : (x : Tree) (ts : List Piece) → Q x ts → P x ts) where
  behind : (fault : TextFault) (before : List Piece) (room : ℕ) (rest : List Item) → RefusedBehind P fault before room rest → RefusedBehind Q fault before room rest
  behind (faults.Lex f) before room rest h = h
  behind (faults.Depth at) before room rest h = h
  behind (faults.Form s) before room rest (p, more, here, opens, at, none) = (p, more, here, opens, at, λ b. none (begins Q P from (before ++ p ∷ []) b))
  behind faults.Unclosed before room rest (ends, none) = (ends, λ x t. none x (from x before t))
  behind faults.Memory before room rest h = h

  pub same_place : (depth : ℕ) (text : List ℕ) (fault : TextFault) → IsPlace P depth text fault → IsPlace Q depth text fault
  same_place depth text fault h = record {
    before = h.before;
    rest = h.rest;
    room = h.room;
    whole = h.whole;
    within = h.within;
    begins = begins P Q to h.before h.begins;
    refused = behind fault h.before h.room h.rest h.refused;
  }

pub domain_place : (depth : ℕ) (text : List ℕ) (fault : TextFault) → IsPlace DomainTokens depth text fault → IsPlace IsDomain depth text fault
domain_place = same_place DomainTokens IsDomain (λ d ts. (domains_spelled d ts).0) (λ d ts. (domains_spelled d ts).1)

pub read_domain_place : (depth : ℕ) (text : List ℕ) (fault : TextFault) → IsPlace IsDomain depth text fault → IsPlace DomainTokens depth text fault
read_domain_place = same_place IsDomain DomainTokens (λ d ts. (domains_spelled d ts).1) (λ d ts. (domains_spelled d ts).0)

pub problem_place : (depth : ℕ) (text : List ℕ) (fault : TextFault) → IsPlace ProblemTokens depth text fault → IsPlace IsProblem depth text fault
problem_place = same_place ProblemTokens IsProblem (λ p ts. (problems_spelled p ts).0) (λ p ts. (problems_spelled p ts).1)

pub read_problem_place : (depth : ℕ) (text : List ℕ) (fault : TextFault) → IsPlace IsProblem depth text fault → IsPlace ProblemTokens depth text fault
read_problem_place = same_place IsProblem ProblemTokens (λ p ts. (problems_spelled p ts).1) (λ p ts. (problems_spelled p ts).0)

-- ---- rules

fault_at : Asked → TypeFault
fault_at q = types.At q.wrong q.file q.span

behind_met : (q : Asked) (qs rest : List Asked) → IsTrue q.met → broken qs ≡ broken rest → broken (q ∷ qs) ≡ broken rest
unfolding fault_at
behind_met q qs rest m e = by q.met refl m
  where
    by : (b : Bool) → q.met ≡ b → IsTrue b → broken (q ∷ qs) ≡ broken rest
    by true h m = ap (λ b. map fault_at (cond (not b) (q ∷ filter (λ (r : Asked). not r.met) qs) (filter (λ (r : Asked). not r.met) qs))) h ∙ e
    by false h m = cc m

-- rules that are met have no fault
broken_behind : (before rest : List Asked) → All (λ (q : Asked). IsTrue q.met) before → broken (before ++ rest) ≡ broken rest
broken_behind [] rest a = refl
broken_behind (q ∷ qs) rest a =
    behind_met q (qs ++ rest) rest (All-head (λ (r : Asked). IsTrue r.met) q qs a) (broken_behind qs rest (All-tail (λ (r : Asked). IsTrue r.met) q qs a))

-- the first rule that is not met has the first fault
pub first_unmet_is_first_fault : (d : Domain) (p : Problem) (wrong : Wrong) (file : File) (span : Span) → IsFirstUnmet (rules_asked d p) wrong file span → IsFirstFault (type_faults d p) (types.At wrong file span)
first_unmet_is_first_fault d p wrong file span h =
    ap (λ fs. slice_get fs 0) (first_broken d p ∙ ap broken h.whole ∙ broken_behind h.before (ask false wrong file span ∷ h.after) h.met)
