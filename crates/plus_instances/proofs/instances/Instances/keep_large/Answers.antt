use Rattle.std.proofs.Common.{◌≡◌, length, ap, sym, subst, rules, arith}
use Rattle.std.specs.Prelude.{All}
use Rattle.plus_instances.specs.Made.{IsKept}
use Rattle.plus_instances.proofs.Making.{kept_too, all_kept, last_kept}
use Rattle.plus_instances.proofs.instances.Instances.keep_large.Goals as goal

pub returns-in_err-push-clause-kept : goal.returns-in_err-push-clause-kept
returns-in_err-push-clause-kept c = record {
  same = c.make_room.ensures.same;
  made = record {
    large = subst (All (IsKept c.make_room.new.self.numbering.now.typed.now)) (sym c.in_err-push.ensures.items) c.make_room.ensures.made.large;
    small = c.make_room.ensures.made.small;
  };
}

pub returns-clause-kept : goal.returns-clause-kept
returns-clause-kept c =
    let t = c.args.self.now.numbering.now.typed.now in
    let u = c.make_room.new.self.numbering.now.typed.now in
    record {
      same = c.make_room.ensures.same;
      made = record {
        large = all_kept u c.args.kept c.make_room.new.self.large.items c.push.new.self.items c.make_room.ensures.made.large
            (kept_too t u c.args.kept (ap (λ r. r.now.typed.now) c.make_room.ensures.same) c.requires.made) c.in_ok-push.ensures.items;
        small = c.make_room.ensures.made.small;
      };
    }

pub returns-clause-stands : goal.returns-clause-stands
returns-clause-stands c =
    let e : c.len-place.result ≡ length c.make_room.new.self.large.items = first_of (omega arith, search rules, cc) in
    last_kept c.args.kept c.make_room.new.self.large.items c.push.new.self.items c.len-place.result c.in_ok-push.ensures.items e
