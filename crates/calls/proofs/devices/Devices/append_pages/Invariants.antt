use Rattle.std.proofs.Common.{map, take}
use Rattle.rules.specs.Plans.{append}
use Rattle.calls.specs.Parts.{entries_of}
use Rattle.calls.proofs.Operations.{AllDone}
use Rattle.calls.proofs.devices.Devices.append_pages.Given as goal

abbrev pub invariant-loop-page : goal.invariant-loop-page
invariant-loop-page g l = AllDone g.K.Change.meaning (map append (entries_of g.K.Change.meaning 0 (take l.page l.firsts))) l.fn.self l.self
