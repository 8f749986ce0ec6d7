use Rattle.std.proofs.Common.{◌≡◌, ◌∙◌, ◌<◌, ◌≤◌, [], ◌∷◌, ◌++◌, ap, length, get_or, arith}
use Rattle.plus_types.specs.Faults.{problem_context}
use Rattle.plus_expansion.specs.Objects.{extents_of, tuples, object_names}
use Rattle.plus_expansion.specs.Numbers.{spaced, label_of}
use Rattle.plus_numbering.proofs.LabelLemmas.{labels-more, labels-all}
use Rattle.plus_numbering.proofs.labels.add_labels.Goals as goal

pub places-preserved : goal.places-preserved
places-preserved c =
    let C = problem_context c.args.extents.now.typed.now.domain c.args.extents.now.typed.now.problem in
    let h = c.args.head.now in
    let ts = tuples (extents_of C h.params) in
    let l : c.places.place < length ts = omega (arith, c.places-test.true, c.requires.size) in
    let o : c.objects_at.new.objects.items ≡ get_or ts c.places.place [] =
    c.in_ok-objects_at.ensures ∙ ap (λ ps. get_or (tuples (extents_of C ps)) c.places.place []) c.as_slice-params.ensures in
    let n : c.in_ok-spell.field-0 ≡ label_of h.name.name (object_names C (get_or ts c.places.place [])) =
    c.in_ok-spell.ensures
    ∙ ap (λ t. t ++ (spaced (object_names C c.deref.result.now) ++ 41 ∷ [])) (c.in_ok-text.ensures.ok ∙ c.as_slice.ensures ∙ c.in_ok-begun.ensures)
    ∙ ap (λ x. label_of x (object_names C c.deref.result.now)) c.bytes.ensures
    ∙ ap (λ os. label_of h.name.name (object_names C os)) (c.deref.ensures.value ∙ o) in
    labels-more (λ t. label_of h.name.name (object_names C t)) c.args.labels.now.items c.places.labels.items _ ts c.places.place [] c.in_ok-spell.field-0 l n c.places.invariant c.in_ok-push.ensures.items

pub returns : goal.returns
returns c =
    let C = problem_context c.args.extents.now.typed.now.domain c.args.extents.now.typed.now.problem in
    let h = c.args.head.now in
    let ts = tuples (extents_of C h.params) in
    let l : length ts ≤ c.places.place = omega (arith, c.places-test.false, c.requires.size) in
    labels-all (λ t. label_of h.name.name (object_names C t)) c.args.labels.now.items c.places.labels.items ts c.places.place l c.places.invariant
