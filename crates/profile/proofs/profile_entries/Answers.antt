-- `profile::profile_entries` meets its contract: `search` stops at one of its limits with the fitting law cited.
use Rattle.std.proofs.Common.{◌≡◌, ◌-◌, length, arith, ap, refl}
use Rattle.profile.proofs.Lists.{started}
use Rattle.profile.proofs.Turns.{shallow_enough}
use Rattle.profile.proofs.profile_entries.Goals as goal

pub loop-at-init : goal.loop-at-init
loop-at-init c =
    let all : c.args.held.now.tape.layout.entries - 0 ≡ c.args.held.now.tape.layout.entries = omega arith in (
      omega arith,
      omega (arith, c.push.ensures.len, ap length c.new-around.ensures),
      rw (started c.default.ensures.0 c.default.ensures.1 c.new-around.ensures c.push.ensures.items, all) refl,
    )

pub pass_entry-requires : goal.pass_entry-requires
pass_entry-requires c =
    (omega arith, (omega (arith, c.loop-at.invariant.0, c.loop-at.invariant.1), shallow_enough _ _ c.head_at-e.result c.loop-at.invariant.0 c.loop-at.invariant.1 (cc)))
