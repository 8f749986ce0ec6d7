-- A domain, a problem and three plans, byte by byte: one plan is accepted, one is refused at a line, and one is cut off.
use Rattle.std.specs.Prelude.{ℕ, suc, true, false, List, [], ◌∷◌, codes, pos}
use Prim.Native.String.{String}
use Rattle.plus_tokens.specs.declared.span.Span.{Span}
use Rattle.plus_tree.specs.declared.names.Spelled.{Spelled}
use Rattle.plus_tree.specs.declared.terms.Use.{Use}
use Rattle.plus_tree.specs.declared.trees.LeafNode.TheVariants.{Add}
use Rattle.plus_tree.specs.declared.trees.Domain.{Domain}
use Rattle.plus_tree.specs.declared.trees.Problem.{Problem}
use Rattle.plus_tree.specs.Cond.{c_all, c_atom, no_conds}
use Rattle.plus_tree.specs.Effect.{e_leaf}
use Rattle.plus_fraction.specs.Fraction.{whole}
use Rattle.plus_model.specs.Terms.{State}
use Rattle.plus_model.specs.History.{Part, Enter, Act}
use Rattle.plus_plan.specs.declared.forms.Line.{Line}
use Rattle.plus_plan.specs.declared.forms.Line.TheVariants as lines
use Rattle.plus_plan.specs.Grammar.{time}
use Rattle.plus_reply.specs.Pair.Pair.{SpellsWellTyped}
use Rattle.plus_validator.specs.declared.judge.Outcome.TheVariants.{Invalid, Beyond}
use Rattle.plus_validator.specs.Accepted.{IsAccepted}
use Rattle.plus_validator.specs.Refused.{IsRefused}

-- a place, a name there, and its use between parentheses
abbrev pub from : ℕ → ℕ → Span
from start last = record { start = start; «end» = last }

abbrev pub name : String → ℕ → ℕ → Spelled
name w start last = record { name = codes w; span = from start last }

abbrev pub on_at : ℕ → Use
on_at start = record { head = name "on" (suc start) (suc (suc (suc start))); args = []; span = from start (suc (suc (suc (suc start)))) }

abbrev pub domain_bytes : List ℕ
domain_bytes = codes "(define (domain d) (:predicates (on)) (:action go :effect (on)))"

abbrev pub switch : Domain
switch = record {
  name = name "d" 16 17;
  requirements = [];
  types = [];
  constants = [];
  predicates = record { name = name "on" 33 35; params = []; span = from 32 36 } ∷ [];
  functions = [];
  actions =
      record {
        name = name "go" 47 49;
        params = [];
        condition = c_all no_conds (from 0 0);
        effect = e_leaf (record { node = Add (on_at 58); span = from 58 62 }) (from 58 62);
        span = from 38 63;
      } ∷ [];
  processes = [];
  events = [];
  span = from 0 64;
}

abbrev pub problem_bytes : List ℕ
problem_bytes = codes "(define (problem q) (:domain d) (:init) (:goal (on)))"

abbrev pub task : Problem
task = record {
  name = name "q" 17 18;
  domain = name "d" 29 30;
  requirements = [];
  objects = [];
  init = [];
  goal = c_atom (on_at 47) (from 47 51);
  span = from 0 53;
}

-- the two texts spell this pair, and it obeys the rules of types
abbrev pub PairRow : Type 0
PairRow = SpellsWellTyped domain_bytes problem_bytes switch task

-- ---- `(go)` sets the atom, and nothing else happens

abbrev pub go_text : List ℕ
go_text = codes "0: (go)\n"

abbrev pub go_line : Line
go_line = lines.Act 1 (time 0 1 (from 0 1)) (record { name = codes "go"; args = [] })

abbrev pub off : State
off = record { atoms = false ∷ []; fluents = [] }

abbrev pub on : State
on = record { atoms = true ∷ []; fluents = [] }

abbrev pub go_history : List Part
go_history = Enter (whole (pos 0)) off off ∷ Act 0 on ∷ []

abbrev pub go_report : List ℕ
go_report = codes "at 0\n  act (go)\n    + (on)\nvalid\n"

abbrev pub AcceptedRow : Type 0
AcceptedRow = IsAccepted switch task 10000 go_text go_report

-- ---- an action that the domain has not

abbrev pub stop_text : List ℕ
stop_text = codes "0: (stop)\n"

abbrev pub stop_line : Line
stop_line = lines.Act 1 (time 0 1 (from 0 1)) (record { name = codes "stop"; args = [] })

abbrev pub stop_history : List Part
stop_history = Enter (whole (pos 0)) off off ∷ []

abbrev pub RefusedRow : Type 0
RefusedRow = IsRefused switch task 10000 stop_text false Invalid (codes "at 0\ninvalid: line 1: unknown action stop\n")

-- ---- a text that goes on behind its limit, with a piece of its second line

abbrev pub CutOffRow : Type 0
CutOffRow =
    IsRefused switch task 10000 (codes "0: (go)\n0") true Beyond (codes "at 0\n  act (go)\n    + (on)\nbeyond: plan text over 1048576 bytes\n")
