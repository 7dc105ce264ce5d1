use Rattle.std.proofs.Common.{ap, ◌∙◌, rules}
use Rattle.battery.specs.Batteries.{held}
use Rattle.battery.proofs.BatteryWrites.{owner_told, owner_has, same_loan}
use Rattle.battery.proofs.owners.write_in_memory.Goals as goal

pub returns : goal.returns
returns c =
    let memory = c.args.memory.now in let bytes = c.args.bytes.now in
    let before = held c.battery_pages-store.result in let after = held c.write.new.self in
    let found = c.battery_pages-store.ensures.rule in let rule = c.write.ensures.rule in
    let lent = same_loan c.args.page bytes c.write.result before after rule ∙ ap (λ h. h.loan) found in
    record {
      value = owner_told _ memory c.args.page bytes c.write.result before after found rule;
      memory = owner_has _ memory c.args.page bytes c.write.result before after found rule (search rules);
    }
