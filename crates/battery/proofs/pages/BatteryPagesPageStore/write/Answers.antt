use Rattle.std.proofs.Common.{◌≡◌, true, arith, rules}
use Rattle.battery.specs.Batteries.{held}
use Rattle.device.proofs.Rows.{as_bytes_is}
use Rattle.battery.proofs.BatteryWrites.{page_wrote}
use Rattle.battery.proofs.pages.BatteryPagesPageStore.write.Goals as goal

pub returns-clause-outcome : goal.returns-clause-outcome
returns-clause-outcome c =
    let on : (held c.args.self.now).powered ≡ true = search rules in
    page_wrote (held c.args.self.now) (held c.write_one.new.self) c.args.page c.args.bytes.now
    (as_bytes_is 256 c.args.bytes.now c.told-bytes c.fits-bytes) on c.args.self.now.in_room (omega arith) c.write_one.ensures c.check_power-2.result c.check_power-2.ensures
