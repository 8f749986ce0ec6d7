use Rattle.std.proofs.Common.{◌≡◌, length, ap, sym, subst, ◌∙◌, rules, arith}
use Rattle.std.specs.Prelude.{All, slice_get}
use Rattle.plus_instances.specs.Made.{IsKept}
use Rattle.plus_instances.proofs.Making.{kept_too, all_set, slice_get_set, all_kept, last_kept}
use Rattle.plus_instances.proofs.instances.Instances.keep_small.Goals as goal

pub returns-in-Some-clause-kept : goal.returns-in-Some-clause-kept
returns-in-Some-clause-kept c =
    let t = c.args.self.now.numbering.now.typed.now in
    let u = c.make_slots.new.self.numbering.now.typed.now in
    record {
      same = c.make_slots.ensures.same;
      made = record {
        large = c.make_slots.ensures.made.large;
        small = all_set u c.args.kept c.make_slots.new.self.small.items c.in-Some.place c.make_slots.ensures.made.small
            (kept_too t u c.args.kept (ap (λ r. r.now.typed.now) c.make_slots.ensures.same) c.requires.made);
      };
    }

pub returns-in-Some-clause-stands : goal.returns-in-Some-clause-stands
returns-in-Some-clause-stands c = slice_get_set c.make_slots.new.self.small.items c.in-Some.place c.args.kept c.in-Some.ensures

pub returns-in_err-push-clause-kept : goal.returns-in_err-push-clause-kept
returns-in_err-push-clause-kept c = record {
  same = c.make_slots.ensures.same;
  made = record {
    large = c.make_slots.ensures.made.large;
    small = subst (All (IsKept c.make_slots.new.self.numbering.now.typed.now)) (sym c.in_err-push.ensures.items) c.make_slots.ensures.made.small;
  };
}

pub mark-requires : goal.mark-requires
mark-requires c =
    let t = c.args.self.now.numbering.now.typed.now in
    let u = c.make_slots.new.self.numbering.now.typed.now in
    record {
      large = c.make_slots.ensures.made.large;
      small = all_kept u c.args.kept c.make_slots.new.self.small.items c.push.new.self.items c.make_slots.ensures.made.small
          (kept_too t u c.args.kept (ap (λ r. r.now.typed.now) c.make_slots.ensures.same) c.requires.made) c.in_ok-push.ensures.items;
    }

pub returns-clause-stands : goal.returns-clause-stands
returns-clause-stands c =
    let e : c.len-place.result ≡ length c.make_slots.new.self.small.items = first_of (omega arith, search rules, cc) in
    ap (λ v. slice_get v.items c.len-place.result) c.mark.ensures.small
    ∙ last_kept c.args.kept c.make_slots.new.self.small.items c.push.new.self.items c.len-place.result c.in_ok-push.ensures.items e
