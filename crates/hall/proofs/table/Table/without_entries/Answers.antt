use Rattle.std.proofs.Common.{rules, arith, ◌≡◌, refl, false, ◌+◌, ◌-◌, ◌*◌, ◌≤◌, length, replicate}
use Rattle.states.specs.State.{phase0}
use Rattle.hall.specs.Effects.{without_entries}
use Rattle.hall.proofs.Lists.{part_filled}
use Rattle.hall.proofs.table.Table.without_entries.Goals as goal

pub returns : goal.returns
unfolding without_entries
returns c =
    let phases : c.fill.new.self ≡ replicate 16 phase0 = search rules in
    let members : c.fill-2.new.self ≡ replicate 16 false = search rules in
    let first = c.args.task.0 * 16 in
    let many : 16 ≡ first + 16 - first = omega arith in
    let p : first + 16 ≤ length c.args.self.phases = search rules in
    let m : first + 16 ≤ length c.args.self.members = search rules in
    rw (part_filled _ _ _ _ _ _ phases many p, part_filled _ _ _ _ _ _ members many m) refl
