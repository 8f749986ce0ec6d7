use Rattle.std.proofs.Common.{◌≡◌, ◌∙◌, ap, sym, Some, None, map, arith, rules}
use Rattle.std.specs.Str.{bytes_eq}
use Rattle.plus_types.proofs.PlaceLemmas.{params-none, params-some, from-zero}
use Rattle.plus_types.proofs.known.Declared.params.Goals as goal

pub returns-in-None : goal.returns-in-None
returns-in-None c =
    let same : c.args.self.now.names.now ≡ map (λ h. h.name.name) c.args.self.now.heads.now = search (rules, c.type_inv.self) in
    let e = rw same at (sym c.in-None.ensures.place) in
    params-none c.args.name.now 0 c.args.self.now.heads.now (from-zero (bytes_eq c.args.name.now) (map (λ h. h.name.name) c.args.self.now.heads.now) None e)

pub returns-in-Some : goal.returns-in-Some
returns-in-Some c =
    let same : c.args.self.now.names.now ≡ map (λ h. h.name.name) c.args.self.now.heads.now = search (rules, c.type_inv.self) in
    let e = rw same at (sym c.in-Some.ensures.place) in
    let f = params-some c.args.name.now 0 c.in-Some.place c.in-Some.place c.index-self-place.result c.args.self.now.heads.now (from-zero (bytes_eq c.args.name.now) (map (λ h. h.name.name) c.args.self.now.heads.now) (Some c.in-Some.place) e) (omega arith) in
    f ∙ ap Some (sym c.as_slice.ensures)
