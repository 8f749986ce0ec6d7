use Rattle.std.proofs.Common.{◌≡◌, ◌∙◌, ap, sym, subst, true, ◌++◌, ◌∷◌, [], drop, cond, nat_eq}
use Rattle.std.specs.Prelude.{IfOk, Option, Some, None}
use Rattle.std.specs.List.{list_any}
use Rattle.plus_types.specs.Faults.{problem_context}
use Rattle.plus_expansion.specs.Objects.{members_of, object_place}
use Rattle.plus_expansion.specs.Environments.{Environment}
use Rattle.plus_expansion.specs.Calls.{bound_by}
use Rattle.plus_ground.proofs.AmongLemmas.{members_rise}
use Rattle.plus_ground.proofs.CallsLemmas.{bound_none, bound_some, rest_all}
use Rattle.plus_ground.proofs.expansion.+bind.Goals as goal

pub is_among-requires : goal.is_among-requires
is_among-requires n c =
    rw c.members.ensures (members_rise (problem_context c.args.numbering.now.typed.now.domain c.args.numbering.now.typed.now.problem) c.bytes-in-len1-up-args.result.now)

pub returns-else-is_among : goal.returns-else-is_among
returns-else-is_among n c =
    let k = problem_context c.args.numbering.now.typed.now.domain c.args.numbering.now.typed.now.problem in
    bound_none k c.args.params.now c.args.args.now c.args.env.now c.first-item.result c.arg-item.result
    c.in-len1-up.len_at_least c.first-item.is c.in-len1-up-args.len_at_least c.arg-item.is
    (sym (λ j. list_any (nat_eq ((c.object-object.ensures ∙ ap (object_place k) c.bytes.ensures) j)) ((c.members.ensures ∙ ap (members_of k) c.bytes-in-len1-up-args.ensures) j))
    ∙ sym c.is_among.ensures ∙ c.if-is_among.false)

pub returns-in_ok-bind-in-len1-up-args : goal.returns-in_ok-bind-in-len1-up-args
returns-in_ok-bind-in-len1-up-args n c =
    let k = problem_context c.args.numbering.now.typed.now.domain c.args.numbering.now.typed.now.problem in
    let object = c.object-object.ensures ∙ ap (object_place k) c.bytes.ensures in
    let among : list_any (nat_eq (object_place k c.arg-item.result)) (members_of k c.first-item.result.kind.name) ≡ true =
    sym (λ j. list_any (nat_eq (object j)) ((c.members.ensures ∙ ap (members_of k) c.bytes-in-len1-up-args.ensures) j)) ∙ sym c.is_among.ensures ∙ c.if-is_among.true in
    let one : c.bind.new.self ≡ c.args.env.now ++ (c.first-item.result.name.name, object_place k c.arg-item.result) ∷ [] =
    c.in_ok-bind-in-len1-up-args.ensures ∙ (λ j. c.args.env.now ++ (c.bytes-then-is_among.ensures j, object j) ∷ []) in
    subst (λ (x : Option Environment). IfOk c.bind-then-is_among.result (λ bound. cond bound (Some c.bind-then-is_among.new.env) None ≡ x))
    ((λ j. bound_by k (rest_all c.args.params.now j) (rest_all c.args.args.now j) c.bind.new.self)
    ∙ ap (bound_by k (drop 1 c.args.params.now) (drop 1 c.args.args.now)) one
    ∙ bound_some k c.args.params.now c.args.args.now c.args.env.now c.first-item.result c.arg-item.result
    c.in-len1-up.len_at_least c.first-item.is c.in-len1-up-args.len_at_least c.arg-item.is among)
    c.bind-then-is_among.ensures
