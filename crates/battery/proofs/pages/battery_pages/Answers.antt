use Rattle.std.proofs.Common.{◌≡◌, true, min, map, length, ap, ◌∙◌, rules}
use Rattle.device.specs.Memory.{as_bytes}
use Rattle.device.specs.PageStores.{PageModel}
use Rattle.battery.specs.Batteries.{held, made}
use Rattle.battery.specs.BatteryStores.{most_pages, pages_model}
use Rattle.battery.proofs.BatteryCuts.{lost_once}
use Rattle.battery.proofs.BatteryRows.{take_found}
use Rattle.battery.proofs.pages.battery_pages.Goals as goal

pub returns-clause-pages : goal.returns-clause-pages
returns-clause-pages c =
    let memory = c.args.memory.now in
    let rule : held c.new.result ≡ made c.args.memory.ghost_name memory (min (length memory) most_pages) c.args.cut = search rules in
    ap pages_model rule ∙ ap (λ l. let m : PageModel = record { pages = map (as_bytes 256) l; powered = true } in m) (take_found most_pages memory)

pub returns-clause-once : goal.returns-clause-once
returns-clause-once c = lost_once c.args.cut
